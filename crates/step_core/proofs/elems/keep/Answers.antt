use Rattle.std.proofs.Common.{◌<◌, length, sym, arith}
use Rattle.std.proofs.lemmas.List.Filters.{FiltersInPlace-more_no, FiltersInPlace-more_set}
use Rattle.step_core.proofs.elems.keep.Goals as goal

-- an element that isn't held goes
pub loop-i-preserved-then-not-has : goal.loop-i-preserved-then-not-has
loop-i-preserved-then-not-has c =
    let inside : c.loop-i.i < length c.loop-i.items.items =
    (let a = c.loop-i.invariant.long in let b = c.loop-i-test.true in omega (arith, c.args.items.now.ok, c.len-i-end.ensures)) in
    FiltersInPlace-more_no c.loop-i.invariant inside (sym c.if-not-has.ensures) c.index-element.ensures

-- an element that is held goes to the front
pub loop-i-preserved : goal.loop-i-preserved
loop-i-preserved c =
    let inside : c.loop-i.i < length c.loop-i.items.items =
    (let a = c.loop-i.invariant.long in let b = c.loop-i-test.true in omega (arith, c.args.items.now.ok, c.len-i-end.ensures)) in
    FiltersInPlace-more_set c.loop-i.invariant inside (sym c.if-not-has.ensures) c.index-element.ensures
