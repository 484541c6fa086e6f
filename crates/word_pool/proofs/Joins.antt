-- The seats of all workers are made one, and their shares are what it has.
use Rattle.std.proofs.Common.{ℕ, ◌≡◌, List, [], ◌∷◌, ◌++◌, append_assoc, length, reverse, refl, sym, ap, ◌∙◌, subst, arith}
use Rattle.std.specs.Prelude.{All, flat_map}
use Rattle.std.proofs.lemmas.List.{append-nil, reverse-append}
use Rattle.std.proofs.lemmas.List.Elements.{All-cons, All-nil, All-pop}
use Rattle.std.specs.Prelude.{Option, Some}
use Rattle.commons.specs.declared.packet.Seg.{Seg}
use Rattle.ground.specs.declared.known.Known.{Known}
use Rattle.ground.specs.Changing.{IsUnmoved}
use Rattle.ground.specs.Parting.{both_with, both_views, IsBoth}
use Rattle.ground.specs.Seats.{Grounded, Note, Seated, IsOf}
use Rattle.mbuf.specs.Members.{Member}
use Rattle.word_pool.specs.Shares.{AreSharesOf}
use Rattle.word_pool.specs.Workers.{WorkerState, HasNotActed, IsAt, IsIdle}
use Rattle.word_pool.specs.inside.Joins.{AreJoined}
use Rattle.word_pool.proofs.Joined.{both_shares, one_share}
use Rattle.word_pool.proofs.Parts.{parts-cons, parts_alone}

-- the last worker's seat is the first of them
pub last_joined : (g : Grounded) (all left : List WorkerState) (m : WorkerState) (s : Seated) (p : Member) (handed : List Member) →
    All (IsAt g) all → all ≡ left ++ m ∷ [] → IsIdle m → s ≡ m.seat → p ≡ m.member → handed ≡ p ∷ [] →
    AreJoined g all left s handed
last_joined g all left m s p handed each e idle seat packets shares =
    let split = All-pop (IsAt g) all left (Some m) e each in
    rw (seat, shares, packets) (record {
      each = split.0;
      done = m ∷ [];
      split = e;
      idle = All-cons IsIdle m [] idle (All-nil IsIdle);
      of = split.1;
      rest = idle.rest;
      slots = idle.slots;
      made = record {
        part = sym (parts_alone m);
        hand = sym (append-nil m.seat.known.view.hand);
        holds = sym (append-nil m.seat.known.view.holds);
        headers = sym (append-nil m.seat.known.view.headers);
        notes = sym (append-nil (m.seat.known.steps ++ m.seat.known.joined));
        rest = idle.rest;
      };
      members = refl;
      shares = one_share m.seat.known.limits m.seat.known.view m.member idle.own;
      unmoved = λ none. All-pop HasNotActed all left (Some m) e none;
    })

-- two seats that have taken no step are one that hasn't
pub both_unmoved : (n o : Known) (lying : Option (List (Option (List Seg)))) → IsUnmoved n → IsUnmoved o →
    IsUnmoved (both_with n o lying)
both_unmoved n o lying a b = record {
  steps = a.steps;
  joined = (λ i. a.joined i ++ (b.steps i ++ b.joined i));
}

-- two seats that are joined note what both did, in their order
pub both_notes : (n o : Known) (lying : Option (List (Option (List Seg)))) (notes : List Note) → o.steps ++ o.joined ≡ notes →
    (both_with n o lying).steps ++ (both_with n o lying).joined ≡ (n.steps ++ n.joined) ++ notes
both_notes n o lying notes same =
    sym (append_assoc n.steps n.joined (o.steps ++ o.joined))
    ∙ ap (λ (xs : List Note). (n.steps ++ n.joined) ++ xs) same

-- and each seat that is joined to those behind it has what all of them have
pub next_joined : (g : Grounded) (all before left : List WorkerState) (m : WorkerState)
    (s o t : Seated) (p : Member) (handed more : List Member) →
    AreJoined g all before s handed → before ≡ left ++ m ∷ [] → IsIdle m → o ≡ m.seat → p ≡ m.member →
    IsBoth o s.known t → more ≡ handed ++ p ∷ [] →
    AreJoined g all left t more
next_joined g all before left m s o t p handed more joined e idle seat packets join shares =
    let split = All-pop (IsAt g) before left (Some m) e joined.each in
    let total = joined.made.part in
    let turned : reverse (handed ++ m.member ∷ []) ≡ m.member ∷ reverse handed =
    reverse-append handed (m.member ∷ []) in
    let one_seat : t ≡ record m.seat { known = both_with m.seat.known s.known join.0 } =
    join.1 ∙ ap (λ (x : Seated). record x { known = both_with x.known s.known join.0 }) seat in
    let one_share_more : more ≡ handed ++ m.member ∷ [] =
    shares ∙ ap (λ (x : Member). handed ++ x ∷ []) packets in
    let here : AreJoined g all left (record m.seat { known = both_with m.seat.known s.known join.0 }) (handed ++ m.member ∷ []) = record {
      each = split.0;
      done = m ∷ joined.done;
      split =
          joined.split ∙ ap (λ (xs : List WorkerState). xs ++ joined.done) e
          ∙ append_assoc left (m ∷ []) joined.done;
      idle = All-cons IsIdle m joined.done idle joined.idle;
      of = record { table = split.1.table; limits = split.1.limits };
      rest = record { zeros = refl; credit = refl; chain = refl; work = refl };
      slots = idle.slots;
      made = record {
        part = omega (arith, parts-cons m joined.done, total);
        hand = ap (λ (xs : List ℕ). m.seat.known.view.hand ++ xs) joined.made.hand;
        holds = ap (λ (xs : List ℕ). m.seat.known.view.holds ++ xs) joined.made.holds;
        headers = ap (λ (xs : List ℕ). m.seat.known.view.headers ++ xs) joined.made.headers;
        notes =
            both_notes m.seat.known s.known join.0
            (flat_map (λ (x : WorkerState). x.seat.known.steps ++ x.seat.known.joined) joined.done) joined.made.notes;
        rest = record { zeros = refl; credit = refl; chain = refl; work = refl };
      };
      members = turned ∙ ap (λ (xs : List Member). m.member ∷ xs) joined.members;
      shares =
          subst (λ (xs : List Member). AreSharesOf xs (both_views m.seat.known.view s.known.view)) (sym turned)
          (both_shares m.seat.known.view s.known.view (m.member ∷ []) (reverse handed)
          (one_share m.seat.known.limits m.seat.known.view m.member idle.own) joined.shares);
      unmoved = λ none.
          let rest = joined.unmoved none in
          let mine = All-pop HasNotActed before left (Some m) e rest.0 in
          (mine.0, both_unmoved m.seat.known s.known join.0 mine.1 rest.1);
    } in
    subst (λ (x : Seated). AreJoined g all left x more) (sym one_seat)
    (subst (λ (xs : List Member). AreJoined g all left (record m.seat { known = both_with m.seat.known s.known join.0 }) xs) (sym one_share_more) here)

-- once none is left, all are joined
pub all_done : (g : Grounded) (all left : List WorkerState) (s : Seated) (handed : List Member)
    (joined : AreJoined g all left s handed) → length left ≡ 0 → joined.done ≡ all
all_done g all [] s handed joined none = sym joined.split
all_done g all (m ∷ left) s handed joined none = absurd (omega arith)

-- the last of some workers is one of the ground
pub last_is_of : (g : Grounded) (before left : List WorkerState) (m : WorkerState) (s : Seated) → All (IsAt g) before →
    before ≡ left ++ m ∷ [] → s ≡ m.seat → IsOf g s
last_is_of g before left m s each e seat =
    let split = All-pop (IsAt g) before left (Some m) e each in
    subst (IsOf g) (sym seat) split.1
