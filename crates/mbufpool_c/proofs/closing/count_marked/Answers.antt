use Rattle.std.proofs.Common.{arith}
use Rattle.mbufpool_c.proofs.CloseLemmas.{keeps_at}
use Rattle.mbufpool_c.proofs.closing.count_marked.Goals.{in-Some-true, in-None}
use Rattle.mbufpool_c.proofs.closing.count_marked.Goals as goal

-- the handle that was looked at has what it had
pub returns-in-Some-false : goal.returns-in-Some-false
returns-in-Some-false c =
    keeps_at c.args.handles.now c.loop-k.handles c.loop-k.k c.is_marked.new.handle c.index-handles-k.result
    c.loop-k.invariant.same c.is_marked.ensures

pub loop-k-preserved : goal.loop-k-preserved
loop-k-preserved c = record {
  few = elim c.match-is_marked.branch [
    | in-Some-true w ↦ omega (arith, w.count-is, c.loop-k.invariant.few)
    | in-None w ↦ omega (arith, w.count-is, c.loop-k.invariant.few)
  ];
  same =
      keeps_at c.args.handles.now c.loop-k.handles c.loop-k.k c.is_marked.new.handle c.index-handles-k.result
      c.loop-k.invariant.same c.is_marked.ensures;
}
