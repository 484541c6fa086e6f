-- The seats of all workers of two pools are made one at either ground, and their shares are what
-- those have.
use Rattle.std.proofs.Common.{ℕ, ◌≡◌, List, [], ◌∷◌, ◌++◌, append_assoc, length, reverse, refl, sym, ap, ◌∙◌, subst, arith}
use Rattle.std.specs.Prelude.{All, Some, flat_map}
use Rattle.std.proofs.lemmas.List.{append-nil, length-map, reverse-append}
use Rattle.std.proofs.lemmas.List.Elements.{All-cons, All-nil, All-pop}
use Rattle.std.proofs.lemmas.List.FromFn.{length-range_with_len}
use Rattle.ground.specs.Changing.{IsUnmoved}
use Rattle.ground.specs.Own.{AtRest}
use Rattle.ground.specs.Parting.{both_with, both_views, IsBoth}
use Rattle.ground.specs.Seats.{Grounded, Seated, IsOf}
use Rattle.mbuf.specs.Members.{Member}
use Rattle.mbuf.specs.Twins.{TwinMember}
use Rattle.word_pool.specs.TwinWorkers.{TwinState, AreTwinWorkers, HasNotActedTwice, IsTwinIdle, IsTwinWorker, first_crew, firsts_of, second_crew, twins_of}
use Rattle.word_pool.specs.Workers.{WorkerState}
use Rattle.word_pool.specs.inside.TwinCrews.{AreTwinsJoined, IsWhole}
use Rattle.word_pool.proofs.Joins.{both_notes, both_unmoved}
use Rattle.word_pool.proofs.Parts.{parts-cons, parts_alone}
use Rattle.word_pool.proofs.TwinJoined.{both_twin_shares, one_twin_share}

-- all workers are as many as the pools have
pub count_of_twins : (g h : Grounded) (ms : List TwinState) → AreTwinWorkers g h ms → length ms ≡ g.limits.workers
count_of_twins g h ms all =
    sym (length-map ms (λ (m : TwinState). m.member))
    ∙ sym (length-map (twins_of ms) (λ (t : TwinMember). t.first))
    ∙ sym (length-map (firsts_of ms) (λ (m : Member). m.number))
    ∙ ap length all.first_numbers ∙ length-range_with_len 1 g.limits.workers

-- a worker's seat is that of one worker
lone_seat : (g : Grounded) (m : WorkerState) → IsOf g m.seat → AtRest m.seat.known.view → m.seat.slots ≡ [] →
    IsWhole g (m ∷ []) m.seat
lone_seat g m of rest slots = record {
  of = of;
  slots = slots;
  made = record {
    part = sym (parts_alone m);
    hand = sym (append-nil m.seat.known.view.hand);
    holds = sym (append-nil m.seat.known.view.holds);
    headers = sym (append-nil m.seat.known.view.headers);
    notes = sym (append-nil (m.seat.known.steps ++ m.seat.known.joined));
    rest = rest;
  };
}

-- the last worker's seats are the first of them
pub last_twin_joined : (g h : Grounded) (all left : List TwinState) (m : TwinState) (s u : Seated)
    (t : TwinMember) (handed : List TwinMember) → All (IsTwinWorker g h) all → all ≡ left ++ m ∷ [] → IsTwinIdle m →
    s ≡ m.first → u ≡ m.second → t ≡ m.member → handed ≡ t ∷ [] → AreTwinsJoined g h all left s u handed
last_twin_joined g h all left m s u t handed each e idle first second twin shares =
    let split = All-pop (IsTwinWorker g h) all left (Some m) e each in
    rw (first, second, shares, twin) (record {
      each = split.0;
      done = m ∷ [];
      split = e;
      idle = All-cons IsTwinIdle m [] idle (All-nil IsTwinIdle);
      first = lone_seat g (record { seat = m.first; member = m.member.first }) split.1.first
          idle.first_rest idle.first_slots;
      second = lone_seat h (record { seat = m.second; member = m.member.second }) split.1.second
          idle.second_rest idle.second_slots;
      members = refl;
      shares = one_twin_share m.first.known.limits m.second.known.limits m.first.known.view m.second.known.view m.member idle.own;
      unmoved = λ none.
          let mine = All-pop HasNotActedTwice all left (Some m) e none in
          (mine.0, mine.1.first, mine.1.second);
    })

-- a seat that another was joined to has what both had
joined_whole : (g : Grounded) (m : WorkerState) (ms : List WorkerState) (other s : Seated) → IsOf g m.seat → m.seat.slots ≡ [] →
    IsWhole g ms other → IsBoth m.seat other.known s → IsWhole g (m ∷ ms) s
joined_whole g m ms other s of slots whole both =
    let part = whole.made.part in
    let here : IsWhole g (m ∷ ms) (record m.seat { known = both_with m.seat.known other.known both.0 }) = record {
      of = record { table = of.table; limits = of.limits };
      slots = slots;
      made = record {
        part = omega (arith, parts-cons m ms, part);
        hand = ap (λ (xs : List ℕ). m.seat.known.view.hand ++ xs) whole.made.hand;
        holds = ap (λ (xs : List ℕ). m.seat.known.view.holds ++ xs) whole.made.holds;
        headers = ap (λ (xs : List ℕ). m.seat.known.view.headers ++ xs) whole.made.headers;
        notes =
            both_notes m.seat.known other.known both.0
            (flat_map (λ (x : WorkerState). x.seat.known.steps ++ x.seat.known.joined) ms) whole.made.notes;
        rest = record { zeros = refl; credit = refl; chain = refl; work = refl };
      };
    } in
    subst (IsWhole g (m ∷ ms)) (sym both.1) here

-- two seats that have taken no step are one that hasn't
joined_unmoved : (mine s : Seated) (other : Seated) → IsBoth mine other.known s → IsUnmoved mine.known →
    IsUnmoved other.known → IsUnmoved s.known
joined_unmoved mine s other both a b =
    subst (λ (x : Seated). IsUnmoved x.known) (sym both.1) (both_unmoved mine.known other.known both.0 a b)

-- its view has what both had
joined_view : (mine s : Seated) (other : Seated) → IsBoth mine other.known s →
    s.known.view ≡ both_views mine.known.view other.known.view
joined_view mine s other both = ap (λ (x : Seated). x.known.view) both.1

-- and each pair of seats that is joined to those behind it has what all of them have
pub next_twin_joined : (g h : Grounded) (all before left : List TwinState) (m : TwinState)
    (s u o p s' u' : Seated) (t : TwinMember) (handed more : List TwinMember) → AreTwinsJoined g h all before s u handed →
    before ≡ left ++ m ∷ [] → IsTwinIdle m → o ≡ m.first → p ≡ m.second → t ≡ m.member →
    IsBoth o s.known s' → IsBoth p u.known u' → more ≡ handed ++ t ∷ [] → AreTwinsJoined g h all left s' u' more
next_twin_joined g h all before left m s u o p s' u' t handed more joined e idle first second twin join over shares =
    let split = All-pop (IsTwinWorker g h) before left (Some m) e joined.each in
    let turned : reverse (handed ++ m.member ∷ []) ≡ m.member ∷ reverse handed = reverse-append handed (m.member ∷ []) in
    let more_is : more ≡ handed ++ m.member ∷ [] = shares ∙ ap (λ (x : TwinMember). handed ++ x ∷ []) twin in
    let both = subst (λ (x : Seated). IsBoth x s.known s') first join in
    let others = subst (λ (x : Seated). IsBoth x u.known u') second over in
    rw more_is (record {
      each = split.0;
      done = m ∷ joined.done;
      split =
          joined.split ∙ ap (λ (xs : List TwinState). xs ++ joined.done) e ∙ append_assoc left (m ∷ []) joined.done;
      idle = All-cons IsTwinIdle m joined.done idle joined.idle;
      first =
          joined_whole g (record { seat = m.first; member = m.member.first }) (first_crew joined.done) s s' split.1.first
          idle.first_slots joined.first both;
      second =
          joined_whole h (record { seat = m.second; member = m.member.second }) (second_crew joined.done) u u'
          split.1.second idle.second_slots joined.second others;
      members = turned ∙ ap (λ (xs : List TwinMember). m.member ∷ xs) joined.members;
      shares =
          rw (turned, joined_view m.first s' s both, joined_view m.second u' u others)
          (both_twin_shares m.first.known.view s.known.view m.second.known.view u.known.view (m.member ∷ []) (reverse handed)
          (one_twin_share m.first.known.limits m.second.known.limits m.first.known.view m.second.known.view m.member idle.own)
          joined.shares);
      unmoved = λ none.
          let rest = joined.unmoved none in
          let mine = All-pop HasNotActedTwice before left (Some m) e rest.0 in (
            mine.0,
            joined_unmoved m.first s' s both mine.1.first rest.1,
            joined_unmoved m.second u' u others mine.1.second rest.2,
          );
    })

-- once none is left, all are joined
pub all_twins_done : (g h : Grounded) (all left : List TwinState) (s u : Seated) (handed : List TwinMember)
    (joined : AreTwinsJoined g h all left s u handed) → length left ≡ 0 → joined.done ≡ all
all_twins_done g h all [] s u handed joined none = sym joined.split
all_twins_done g h all (m ∷ left) s u handed joined none = absurd (omega arith)

-- the last of some workers is one of both grounds
pub last_is_of_both : (g h : Grounded) (before left : List TwinState) (m : TwinState) (s u : Seated) →
    All (IsTwinWorker g h) before → before ≡ left ++ m ∷ [] → s ≡ m.first → u ≡ m.second → IsOf g s × IsOf h u
last_is_of_both g h before left m s u each e first second =
    let split = All-pop (IsTwinWorker g h) before left (Some m) e each in
    (subst (IsOf g) (sym first) split.1.first, subst (IsOf h) (sym second) split.1.second)
