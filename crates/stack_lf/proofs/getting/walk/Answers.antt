use Rattle.std.proofs.Common.{◌≡◌, ◌∙◌, ◌++◌, [], ◌∷◌, ◌-◌, ℕ, suc, arith, rules, length, ◌<◌}
use Rattle.std.proofs.lemmas.List.{length-append, length-set}
use Rattle.stack_lf.specs.Tries.{Walk}
use Rattle.stack_lf.proofs.Walks.{walked-push, listed-push, goes_on}
use Rattle.stack_lf.proofs.getting.walk.Goals as goal

-- one link more
pub loop-k-preserved : goal.loop-k-preserved
loop-k-preserved c =
    let inv = c.loop-k.invariant in
    let ps : Walk = inv.0 in
    let len : length ps ≡ c.loop-k.k = inv.1 in
    let i : ℕ = c.loop-k.next - 1 in
    let x : ℕ = c.load_link-next.result in
    let e : c.loop-k.next ≡ suc i = omega arith in (
      ps ++ (i, x) ∷ [],
      omega (arith, length-append ps ((i, x) ∷ [])),
      walked-push c.args.head ps c.loop-k.next i x c.args.seat.now c.loop-k.seat
          c.load_link-next.new.seat e inv.2 c.load_link-next.ensures.step,
      listed-push _ i x _ ps (search rules) inv.3,
      length-set _ _ _ ∙ inv.4,
      search rules,
      c.load_link-next.ensures.known,
    )

-- the only seat of a pool doesn't come to the end before
pub returns-then-next-eq0-clause-alone : goal.returns-then-next-eq0-clause-alone
returns-then-next-eq0-clause-alone c = λ whole reserved _.
    let inv = c.loop-k.invariant in
    let len : length inv.0 ≡ c.loop-k.k = inv.1 in
    let same : length c.loop-k.out ≡ length c.args.out.now = inv.4 in
    let end : c.loop-k.next ≡ 0 = search rules in
    let inside : c.loop-k.k < length c.loop-k.out = search rules in
    goes_on c.args.head inv.0 c.loop-k.next (length c.args.out.now) c.args.seat.now c.loop-k.seat
    inv.2 inv.6 whole reserved end (omega arith)
