use Rattle.std.proofs.Common.{sym, ◌∙◌}
use Rattle.ground_tests.proofs.Segs.{owns_one}
use Rattle.ground_tests.proofs.desks.owns_seg.Goals as goal

-- the one own element is a header
pub returns : goal.returns
returns c = λ h. owns_one c.args.view.now c.args.seg (sym c.has.ensures ∙ h)
