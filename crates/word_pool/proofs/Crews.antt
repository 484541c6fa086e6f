-- The workers of a new pool, made one after another.
use Rattle.std.proofs.Common.{ℕ, zero, suc, ◌≡◌, ◌+◌, ◌-◌, ◌≤◌, List, [], ◌∷◌, ◌++◌, map, refl, sym, ap, ◌∙◌, subst, arith, ◌*◌}
use Rattle.std.specs.List.{range_with_len}
use Rattle.std.proofs.lemmas.List.{map-append}
use Rattle.std.proofs.lemmas.List.Elements.{All-nil, All-push}
use Rattle.commons.proofs.Bags.{bag-nil}
use Rattle.commons.specs.Bag.{bag}
use Rattle.commons.specs.declared.limits.Limits.{Limits}
use Rattle.ground.specs.Parting.{less, less_part, newcomer}
use Rattle.ground.specs.Seats.{Grounded, Seated, IsOf}
use Rattle.mbuf.specs.Members.{Member}
use Rattle.mbuf.specs.Own.{Own}
use Rattle.mbuf.proofs.OwnLemmas.{own_new}
use Rattle.pool_model.specs.Pool.{new_members}
use Rattle.stack_lf.specs.Sides.{side_of}
use Rattle.step_core.specs.declared.view.View.{View}
use Rattle.step_core.specs.World.{empty_view, worker_part}
use Rattle.word_pool.specs.Workers.{WorkerState, HasNotActed, IsWorker, AreNew, AreWorkers}
use Rattle.word_pool.specs.inside.Crews.{AreFirst, IsUnused, new_member}
use Rattle.word_pool.proofs.Parts.{all_with_parts}

-- new members, and the next one
more_from : (l : Limits) (first n : ℕ) →
    new_members l first n ++ new_member l (first + n) ∷ [] ≡ new_members l first (suc n)
more_from l first zero =
    let same : first + 0 ≡ first = omega arith in
    ap (λ (k : ℕ). new_member l k ∷ []) same
more_from l first (suc n) =
    let next : first + suc n ≡ first + 1 + n = omega arith in
    ap (λ (k : ℕ). new_members l first (suc n) ++ new_member l k ∷ []) next
    ∙ ap (λ (ms : List Member). new_member l first ∷ ms) (more_from l (first + 1) n)

-- so the members up to a number are those below it, and that one
pub members_upto : (l : Limits) (number : ℕ) → 1 ≤ number →
    new_members l 1 (number - 1) ++ new_member l number ∷ [] ≡ new_members l 1 number
members_upto l number first =
    let here : number ≡ 1 + (number - 1) = omega arith in
    let again : suc (number - 1) ≡ number = omega arith in
    ap (λ (k : ℕ). new_members l 1 (number - 1) ++ new_member l k ∷ []) here
    ∙ more_from l 1 (number - 1) ∙ ap (new_members l 1) again

-- new members are numbered in a row
pub numbered_from : (l : Limits) (first n : ℕ) →
    map (λ (m : Member). m.number) (new_members l first n) ≡ range_with_len first n
numbered_from l first zero = refl
numbered_from l first (suc n) = ap (λ (ns : List ℕ). first ∷ ns) (numbered_from l (first + 1) n)

-- at first there are none
pub none_first : (g : Grounded) → AreFirst g 0 []
none_first g = record {
  members = refl;
  each = All-nil (IsWorker g);
  views = All-nil (λ (m : WorkerState). m.seat.known.view ≡ empty_view worker_part);
  unmoved = All-nil HasNotActed;
}

-- a worker more, at a seat of a worker's part that names nothing
pub one_more : (g : Grounded) (number : ℕ) (ms more : List WorkerState) (l : Limits) (s : Seated) → l ≡ g.limits →
    1 ≤ number → AreFirst g (number - 1) ms → IsOf g s → IsUnused g.limits 1 s →
    more ≡ ms ++ record { seat = s; member = new_member l number } ∷ [] → AreFirst g number more
one_more g number ms more l s same first before of unused added =
    let m : WorkerState = record { seat = s; member = new_member g.limits number } in
    let is : more ≡ ms ++ m ∷ [] =
    added ∙ ap (λ (k : Limits). ms ++ record { seat = s; member = new_member k number } ∷ []) same in
    let all : AreFirst g number (ms ++ m ∷ []) = record {
      members =
          map-append (λ (x : WorkerState). x.member) ms (m ∷ [])
          ∙ ap (λ (xs : List Member). xs ++ new_member g.limits number ∷ []) before.members
          ∙ members_upto g.limits number first;
      each =
          All-push (IsWorker g) ms m before.each
          (record { of = of; part = ap (λ (v : View). v.part) unused.view });
      views = All-push (λ (x : WorkerState). x.seat.known.view ≡ empty_view worker_part) ms m before.views unused.view;
      unmoved = All-push HasNotActed ms m before.unmoved unused.unmoved;
    } in
    subst (AreFirst g number) (sym is) all

-- all of them are the workers of the new pool
pub all_workers : (g : Grounded) (ms : List WorkerState) → AreFirst g g.limits.workers ms → AreWorkers g ms
all_workers g ms all =
    all_with_parts g ms (ap (map (λ (m : Member). m.number)) all.members ∙ numbered_from g.limits 1 g.limits.workers) all.each

pub all_new : (g : Grounded) (ms : List WorkerState) → AreFirst g g.limits.workers ms → AreNew g.limits ms
all_new g ms all = record { members = all.members; views = all.views; unmoved = all.unmoved }

-- a seat from which a part was taken names nothing, as before
pub rest_unused : (l : Limits) (parts : ℕ) (s t : Seated) → t ≡ record s { known = less_part s.known } →
    IsUnused l parts s → IsUnused l (parts - 1) t
rest_unused l parts s t split unused = record {
  limits = ap (λ (x : Seated). x.known.limits) split ∙ unused.limits;
  view = ap (λ (x : Seated). x.known.view) split ∙ (ap less unused.view ∙ ap empty_view (let e : parts * worker_part - worker_part ≡ (parts - 1) * worker_part = omega arith in e));
  slots = ap (λ (x : Seated). x.slots) split ∙ unused.slots;
  unmoved = record {
    steps = ap (λ (x : Seated). x.known.steps) split ∙ unused.unmoved.steps;
    joined = ap (λ (x : Seated). x.known.joined) split ∙ unused.unmoved.joined;
  };
}

-- nor does the new one
pub part_unused : (l : Limits) (parts : ℕ) (s t : Seated) → t.known ≡ newcomer s.known → t.slots ≡ [] →
    IsUnused l parts s → IsUnused l 1 t
part_unused l parts s t known slots unused = rw known (record { limits = unused.limits; view = refl; slots = slots; unmoved = record { steps = refl; joined = refl } })

-- and the packets of a worker that has none are its own there
pub new_is_own : (l : Limits) (number : ℕ) (s : Seated) (m : Member) → m ≡ new_member l number → IsUnused l 1 s →
    Own m (side_of s)
new_is_own l number s m is unused =
    let same : m ≡ new_member s.known.limits number =
    is ∙ ap (λ (k : Limits). new_member k number) (sym unused.limits) in
    subst (λ (x : Member). Own x (side_of s)) (sym same)
    (own_new (side_of s) number
    (λ i. ap (λ (v : View). bag v.hand i) unused.view ∙ bag-nil i)
    (λ i. ap (λ (v : View). bag v.holds i) unused.view ∙ bag-nil i))

-- the seat of which a part was taken is one of the ground
pub rest_of : (g : Grounded) (s t : Seated) → t ≡ record s { known = less_part s.known } → IsOf g s → IsOf g t
rest_of g s t split of =
    subst (IsOf g) (sym split) (record { table = of.table; limits = of.limits })

-- the last worker is made at the seat that is left, and with it they are all
pub last_more : (g : Grounded) (number workers : ℕ) (ms more : List WorkerState) (l : Limits) (rest s : Seated) →
    l ≡ g.limits → number ≡ g.limits.workers → workers ≡ g.limits.workers → 1 ≤ number → AreFirst g (number - 1) ms →
    IsOf g rest → IsUnused g.limits (g.limits.workers + 1 - number) rest → s ≡ rest →
    more ≡ ms ++ record { seat = s; member = new_member l workers } ∷ [] → AreFirst g g.limits.workers more
last_more g number workers ms more l rest s same last all first before of unused is added =
    let one : g.limits.workers + 1 - number ≡ 1 = omega arith in
    let to_last : workers ≡ number = omega arith in
    subst (λ (n : ℕ). AreFirst g n more) last
    (one_more g number ms more l s same first before (subst (IsOf g) (sym is) of)
    (subst (IsUnused g.limits 1) (sym is) (subst (λ (n : ℕ). IsUnused g.limits n rest) one unused))
    (added ∙ ap (λ (n : ℕ). ms ++ record { seat = s; member = new_member l n } ∷ []) to_last))
