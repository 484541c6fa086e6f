use Rattle.std.proofs.Common.{◌<◌, length, arith, sym, ◌∙◌}
use Rattle.mbufpool_c.proofs.CloseLemmas.{empty_at, keeps_at}
use Rattle.mbufpool_c.proofs.closing.first_shared.Goals as goal

-- the handle that was looked at has what it had
pub returns-in-Some-clause-same : goal.returns-in-Some-clause-same
returns-in-Some-clause-same c =
    keeps_at c.args.handles.now c.loop-k.handles c.loop-k.k c.shared_of.new.handle c.index-handles-k.result c.loop-k.invariant
    c.shared_of.ensures.same

-- in empty handles none is found
pub returns-in-Some-clause-none : goal.returns-in-Some-clause-none
returns-in-Some-clause-none c empty =
    let low : c.loop-k.k < length c.loop-k.handles = omega (arith, c.loop-k-test.true, c.loop-k.auto.handles) in
    sym c.in-Some.is
    ∙ c.shared_of.ensures.none
    (empty_at c.args.handles.now c.loop-k.handles c.loop-k.k c.index-handles-k.result c.loop-k.invariant low empty)

pub loop-k-preserved : goal.loop-k-preserved
loop-k-preserved c =
    keeps_at c.args.handles.now c.loop-k.handles c.loop-k.k c.shared_of.new.handle c.index-handles-k.result c.loop-k.invariant
    c.shared_of.ensures.same
