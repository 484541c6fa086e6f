-- The workers of two new pools, made one after another.
use Rattle.std.proofs.Common.{ℕ, ◌≡◌, ◌+◌, ◌-◌, ◌≤◌, List, [], ◌∷◌, ◌++◌, map, refl, sym, ap, ◌∙◌, subst, arith}
use Rattle.std.proofs.lemmas.List.{map-append}
use Rattle.std.proofs.lemmas.List.Elements.{All-nil, All-push}
use Rattle.commons.proofs.Bags.{bag-nil}
use Rattle.commons.specs.Bag.{bag}
use Rattle.commons.specs.declared.limits.Limits.{Limits}
use Rattle.ground.specs.Seats.{Grounded, Seated, IsOf}
use Rattle.mbuf.specs.Members.{Member}
use Rattle.mbuf.specs.Twins.{OwnTwin, TwinMember}
use Rattle.mbuf.proofs.ForeignLemmas.{own_new_twin}
use Rattle.pool_model.specs.Pool.{new_members}
use Rattle.stack_lf.specs.Sides.{side_of}
use Rattle.step_core.specs.declared.view.View.{View}
use Rattle.word_pool.specs.TwinWorkers.{TwinState, AreNewTwins, AreTwinPools, AreTwinWorkers, HasNotActedTwice, IsTwinWorker, firsts_of, seconds_of, twins_of}
use Rattle.word_pool.specs.inside.Crews.{IsUnused, new_member}
use Rattle.word_pool.specs.inside.TwinCrews.{AreFirstTwins}
use Rattle.word_pool.proofs.Crews.{members_upto, numbered_from}

-- a worker of this number who has nothing, at these seats
abbrev pub newcomer_at : Limits → Limits → ℕ → Seated → Seated → TwinState
newcomer_at l k number s u = record {
  first = s;
  second = u;
  member = record { first = new_member l number; second = new_member k number };
}

-- at first there are none
pub no_twins_yet : (g h : Grounded) → AreFirstTwins g h 0 []
no_twins_yet g h =
    record { firsts = refl; seconds = refl; each = All-nil (IsTwinWorker g h); unmoved = All-nil HasNotActedTwice }

-- one worker more, by its parts of either pool
firsts_more : (ms : List TwinState) (m : TwinState) → firsts_of (ms ++ m ∷ []) ≡ firsts_of ms ++ m.member.first ∷ []
firsts_more ms m =
    ap (map (λ (t : TwinMember). t.first)) (map-append (λ (x : TwinState). x.member) ms (m ∷ []))
    ∙ map-append (λ (t : TwinMember). t.first) (twins_of ms) (m.member ∷ [])

seconds_more : (ms : List TwinState) (m : TwinState) → seconds_of (ms ++ m ∷ []) ≡ seconds_of ms ++ m.member.second ∷ []
seconds_more ms m =
    ap (map (λ (t : TwinMember). t.second)) (map-append (λ (x : TwinState). x.member) ms (m ∷ []))
    ∙ map-append (λ (t : TwinMember). t.second) (twins_of ms) (m.member ∷ [])

-- a worker more, at seats of one part that name nothing
pub one_twin_more : (g h : Grounded) (number : ℕ) (ms more : List TwinState) (l k : Limits) (s u : Seated) →
    l ≡ g.limits → k ≡ h.limits → 1 ≤ number → AreFirstTwins g h (number - 1) ms → IsOf g s → IsOf h u →
    IsUnused g.limits 1 s → IsUnused h.limits 1 u → more ≡ ms ++ newcomer_at l k number s u ∷ [] →
    AreFirstTwins g h number more
one_twin_more g h number ms more l k s u same also low before of over one two added =
    let m : TwinState = newcomer_at g.limits h.limits number s u in
    let is : more ≡ ms ++ m ∷ [] =
    added ∙ ap (λ (x : Limits). ms ++ newcomer_at x k number s u ∷ []) same
    ∙ ap (λ (x : Limits). ms ++ newcomer_at g.limits x number s u ∷ []) also in
    let all : AreFirstTwins g h number (ms ++ m ∷ []) = record {
      firsts = firsts_more ms m ∙ ap (λ (xs : List Member). xs ++ new_member g.limits number ∷ []) before.firsts
          ∙ members_upto g.limits number low;
      seconds = seconds_more ms m ∙ ap (λ (xs : List Member). xs ++ new_member h.limits number ∷ []) before.seconds
          ∙ members_upto h.limits number low;
      each = All-push (IsTwinWorker g h) ms m before.each (record {
        first = of;
        second = over;
        first_part = ap (λ (v : View). v.part) one.view;
        second_part = ap (λ (v : View). v.part) two.view;
      });
      unmoved = All-push HasNotActedTwice ms m before.unmoved (record { first = one.unmoved; second = two.unmoved });
    } in
    subst (AreFirstTwins g h number) (sym is) all

-- the last worker is made at the seats that are left, and with it they are all
pub last_twin_more : (g h : Grounded) (number workers : ℕ) (ms more : List TwinState) (l k : Limits) (rest over s u : Seated) →
    l ≡ g.limits → k ≡ h.limits → h.limits.workers ≡ g.limits.workers → number ≡ g.limits.workers →
    workers ≡ g.limits.workers → 1 ≤ number → AreFirstTwins g h (number - 1) ms → IsOf g rest → IsOf h over →
    IsUnused g.limits (g.limits.workers + 1 - number) rest → IsUnused h.limits (g.limits.workers + 1 - number) over →
    s ≡ rest → u ≡ over → more ≡ ms ++ newcomer_at l k workers s u ∷ [] → AreFirstTwins g h g.limits.workers more
last_twin_more g h number workers ms more l k rest over s u same also twins last all low before of that one two is there added =
    let single : g.limits.workers + 1 - number ≡ 1 = omega arith in
    let to_last : workers ≡ number = omega arith in
    subst (λ (n : ℕ). AreFirstTwins g h n more) last
    (one_twin_more g h number ms more l k s u same also low before
    (subst (IsOf g) (sym is) of) (subst (IsOf h) (sym there) that)
    (subst (IsUnused g.limits 1) (sym is) (subst (λ (n : ℕ). IsUnused g.limits n rest) single one))
    (subst (IsUnused h.limits 1) (sym there) (subst (λ (n : ℕ). IsUnused h.limits n over) single two))
    (added ∙ ap (λ (n : ℕ). ms ++ newcomer_at l k n s u ∷ []) to_last))

-- all of them are the workers of the new pools
pub all_twins : (g h : Grounded) (ms : List TwinState) → AreTwinPools g.limits h.limits →
    AreFirstTwins g h g.limits.workers ms → AreTwinWorkers g h ms
all_twins g h ms pools all = record {
  pools = pools;
  first_numbers = ap (map (λ (m : Member). m.number)) all.firsts ∙ numbered_from g.limits 1 g.limits.workers;
  second_numbers =
      ap (map (λ (m : Member). m.number)) (all.seconds ∙ ap (new_members h.limits 1) (sym pools.twins.workers))
      ∙ numbered_from h.limits 1 h.limits.workers;
  each = all.each;
}

pub all_new_twins : (g h : Grounded) (ms : List TwinState) → AreTwinPools g.limits h.limits →
    AreFirstTwins g h g.limits.workers ms → AreNewTwins g.limits h.limits ms
all_new_twins g h ms pools all = record {
  firsts = all.firsts;
  seconds = all.seconds ∙ ap (new_members h.limits 1) (sym pools.twins.workers);
  unmoved = all.unmoved;
}

-- what a worker has that has nothing is its own at seats that name nothing
pub new_twin_is_own : (l k : Limits) (number : ℕ) (s u : Seated) (t : TwinMember) → t.first ≡ new_member l number →
    t.second ≡ new_member k number → IsUnused l 1 s → IsUnused k 1 u → OwnTwin t (side_of s) (side_of u)
new_twin_is_own l k number s u t one two first second =
    let same : t ≡ record { first = new_member s.known.limits number; second = new_member u.known.limits number } =
    λ i. record {
      first = (one ∙ ap (λ (x : Limits). new_member x number) (sym first.limits)) i;
      second = (two ∙ ap (λ (x : Limits). new_member x number) (sym second.limits)) i;
    } in
    subst (λ (x : TwinMember). OwnTwin x (side_of s) (side_of u)) (sym same)
    (own_new_twin (side_of s) (side_of u) number
    (λ i. ap (λ (v : View). bag v.hand i) first.view ∙ bag-nil i)
    (λ i. ap (λ (v : View). bag v.holds i) first.view ∙ bag-nil i)
    (λ i. ap (λ (v : View). bag v.hand i) second.view ∙ bag-nil i)
    (λ i. ap (λ (v : View). bag v.holds i) second.view ∙ bag-nil i))
