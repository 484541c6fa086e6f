use Rattle.std.proofs.Common.{suc, ◌≡◌, ◌-◌, ◌<◌, get_or, length, refl, sym, ◌∙◌, arith}
use Rattle.std.proofs.lemmas.List.{get_or_default}
use Rattle.commons.proofs.Bags.{bag-nil}
use Rattle.snapshot_json.proofs.Doubles.{first-again, first-met, first-none, least-again, least-met}
use Rattle.snapshot_json.proofs.stack.doubled.Goals as goal

-- no element was met yet
pub loop-index-init : goal.loop-index-init
loop-index-init c = record {
  places = rw c.in_ok-places.ensures (first-none c.args.common.now c.args.population);
  least = λ e. omega (arith, bag-nil e);
}

-- an element was met for the first time
pub loop-index-preserved-then-before-eq0 : goal.loop-index-preserved-then-before-eq0
loop-index-preserved-then-before-eq0 c =
    let common = c.args.common.now in
    let k = c.loop-index.index in
    let e = get_or common k 0 in
    let l = c.loop-index-test.true in
    let known : e < c.args.population = c.requires k 0 l in
    let places = c.loop-index.places.items in
    let within : e < length places = omega (arith, c.loop-index.invariant.places.len, known) in
    let new : get_or places e 0 ≡ 0 =
    get_or_default places e 0 c.index-before.result.now within ∙ sym c.index-before.ensures ∙ c.if-before-eq0.true in
    record {
      places = first-met common places k c.args.population e c.loop-index.invariant.places l refl known new;
      least = least-met common places k c.args.population c.loop-index.least c.loop-index.invariant.places
          l known new c.loop-index.invariant.least;
    }

-- an element was met again
pub loop-index-preserved : goal.loop-index-preserved
loop-index-preserved c =
    let common = c.args.common.now in
    let places = c.loop-index.places.items in
    let k = c.loop-index.index in
    let e = get_or common k 0 in
    let l = c.loop-index-test.true in
    let known : e < c.args.population = c.requires k 0 l in
    let within : e < length places = omega (arith, c.loop-index.invariant.places.len, known) in
    let was : get_or places e 0 ≡ c.index-before.result.now =
    get_or_default places e 0 c.index-before.result.now within ∙ sym c.index-before.ensures in
    let old : get_or places e 0 ≡ suc (c.index-before.result.now - 1) = omega (arith, was, c.if-before-eq0.false) in
    record {
      places = first-again common places k c.args.population e c.loop-index.invariant.places l refl (omega (arith, old));
      least = rw c.lesser-least.ensures (
          least-again common places k c.args.population (c.index-before.result.now - 1) c.loop-index.least _
          c.loop-index.invariant.places
          l known old refl refl refl c.loop-index.invariant.least
          );
    }
