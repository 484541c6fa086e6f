use Rattle.std.proofs.Common.{◌∙◌, Option, Some, ap, subst, sym}
use Rattle.mbufpool_c.specs.declared.guard_handle.GuardHandle.{GuardHandle}
use Rattle.mbufpool_c.specs.Guarded.{Guarded, SplitsGuard}
use Rattle.mbufpool_c.proofs.guarded.mbufpool_guard_split.Goals as goal

-- the handle lent its worker, of which one more was made
pub returns-in-Ok-clause-made : goal.returns-in-Ok-clause-made
returns-in-Ok-clause-made c zero =
    let made = c.in-Ok.ensures.made in
    let less = c.in-Ok.ensures.less in
    let same = ap (λ (h : GuardHandle). h.value) c.is_empty.ensures.1 in
    subst (λ (v : Option Guarded). SplitsGuard v (Some c.split.new.self) c.put.new.self.value)
    (sym (sym same ∙ c.lend.ensures.value))
    (less.0, ap Some less.1, (c.in-Ok.other.value, c.put.ensures, made.0, made.1, made.2, made.3))
