use Rattle.std.proofs.Common.{◌≡◌, drop}
use Rattle.audit_text.specs.Places.{all_fit}
use Rattle.audit_text.proofs.packets.all_fit.Given as goal

-- all do if those to come do
abbrev pub invariant-loop-seg : goal.invariant-loop-seg
invariant-loop-seg l = all_fit l.segs ≡ all_fit (drop l.seg-index l.segs)
