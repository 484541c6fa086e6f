use Rattle.std.proofs.Common.{◌≡◌, ◌∙◌, ◌++◌, ◌∷◌, [], ◌+◌, ℕ, suc, refl, sym, ap, subst, arith, take, get_or, List}
use Rattle.std.proofs.Math.Seq.{take-suc}
use Rattle.commons.specs.Bag.{bag}
use Rattle.step_core.specs.declared.step.Step.TheVariants.{StoreLink}
use Rattle.step_core.specs.declared.step.Outcome.TheVariants.{Done}
use Rattle.ground.specs.Seats.{Seated, Steps, element_of}
use Rattle.stack_lf.specs.Tries.{last_of}
use Rattle.stack_lf.specs.Effects.{Stored}
use Rattle.stack_lf.proofs.Composing.{still_of}
use Rattle.stack_lf.proofs.Storing.{place-new, stored-push, stored-none, last_of-push}
use Rattle.stack_lf.proofs.putting.store_links.Goals as goal

pub store_link-requires-clause-of : goal.store_link-requires-clause-of
store_link-requires-clause-of c = still_of _ _ _ _ _ c.requires.of c.loop-k.invariant.0

-- the next element is one of the list, so of the hand
pub store_link-requires-clause-hand : goal.store_link-requires-clause-hand
store_link-requires-clause-hand c =
    let x : ℕ = get_or c.args.list.now c.loop-k.k 0 in
    let h = (place-new c.args.list.now c.loop-k.k c.loop-k-test.true c.requires.once).1 in
    let m = c.requires.hand x in
    let e : bag c.loop-k.seat.known.view.hand x ≡ bag c.args.seat.now.known.view.hand x =
    ap (λ (t : Seated). bag t.known.view.hand x) c.loop-k.invariant.0 in
    omega arith

pub store_link-requires-clause-link : goal.store_link-requires-clause-link
store_link-requires-clause-link c = c.loop-k.invariant.2

pub loop-k-init : goal.loop-k-init
loop-k-init c = (stored-none c.args.top c.args.seat.now c.requires.chain, refl, c.requires.top)

-- one link more
pub loop-k-preserved : goal.loop-k-preserved
loop-k-preserved c =
    let list : List ℕ = c.args.list.now in
    let k : ℕ = c.loop-k.k in
    let xs : List ℕ = take k list in
    let x : ℕ = get_or list k 0 in
    let new = place-new list k c.loop-k-test.true c.requires.once in
    let step = subst (λ (v : ℕ). Steps (StoreLink x (element_of v)) Done c.loop-k.seat
    c.store_link.new.seat) c.loop-k.invariant.1 c.store_link.ensures.step in
    let st = stored-push c.args.top xs x c.args.seat.now c.loop-k.seat c.store_link.new.seat new.0
    c.loop-k.invariant.0 step in
    let one : k + 1 ≡ suc k = omega arith in
    let e : take (k + 1) list ≡ xs ++ x ∷ [] =
    ap (λ (n : ℕ). take n list) one ∙ take-suc list k 0 c.loop-k-test.true in
    let next : x + 1 ≡ suc x = omega arith in
    let small = c.requires.below x new.1 in (
      subst (λ (l : List ℕ). Stored c.args.top l c.args.seat.now c.store_link.new.seat) (sym e) st,
      next ∙ (sym (last_of-push c.args.top xs x)
          ∙ ap (λ (l : List ℕ). last_of c.args.top l) (sym e)),
      omega arith,
    )

-- an element of the pool has a next number
pub overflow_add-next : goal.overflow_add-next
overflow_add-next c =
    let x : ℕ = get_or c.args.list.now c.loop-k.k 0 in
    let h = (place-new c.args.list.now c.loop-k.k c.loop-k-test.true c.requires.once).1 in
    let below = c.requires.below x h in
    let small = c.requires.small in
    omega arith
