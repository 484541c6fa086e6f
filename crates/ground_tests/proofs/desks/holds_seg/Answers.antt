use Rattle.std.proofs.Common.{sym, ◌∙◌}
use Rattle.ground_tests.proofs.Segs.{direct_held, indirect_held}
use Rattle.ground_tests.proofs.desks.holds_seg.Goals as goal

-- a direct segment holds its own element
pub returns-in-None : goal.returns-in-None
returns-in-None c = λ h.
    direct_held c.args.view.now c.args.seg c.in-None.is (sym c.has.ensures ∙ h)

-- an indirect one its base besides, which is another
pub returns-else-not-has : goal.returns-else-not-has
returns-else-not-has c = λ h.
    indirect_held c.args.view.now c.args.seg c.in-Some.base c.in-Some.is c.if-base-seg.false
    (sym c.has-else-base-seg.ensures ∙ c.if-not-has.false) (sym c.has-in-Some.ensures ∙ h)
