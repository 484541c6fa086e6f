-- The clone's calls are the act's, and the reply lists its own elements.
use Rattle.std.proofs.Common.{ℕ, List, Ok, Err, refl, sym, ap, subst, ◌∙◌}
use Rattle.mbuf.specs.Fresh.{AreFresh}
use Rattle.mbuf.specs.declared.acts.Answer.TheVariants.{Cloned}
use Rattle.mbuf.proofs.ActLemmas.{list_is}
use Rattle.mbuf.proofs.FreshLemmas.{fresh_none, slot_elements}
use Rattle.twin_acts.proofs.acts.clone_into.Goals as goal

pub returns-in-Ok-clause-calls : goal.returns-in-Ok-clause-calls
returns-in-Ok-clause-calls g c =
    let done = c.in-Ok.ensures.calls in
    let elems = rw c.second.ensures at c.elems_in.ensures in (
      done.0,
      done.1,
      (
        done.2.0,
        done.2.1,
        (Ok c.in-Ok.slot, done.2.2, ap (Cloned c.in-Ok.slot) (list_is c.elems_in.result _ elems)),
      ),
    )

pub returns-in-Err-clause-calls : goal.returns-in-Err-clause-calls
returns-in-Err-clause-calls g c =
    let done = c.in-Err.ensures.calls in
    (done.0, done.1, (done.2.0, done.2.1, (Err c.in-Err.cause, done.2.2, refl)))

pub returns-in-Ok-clause-fresh : goal.returns-in-Ok-clause-fresh
returns-in-Ok-clause-fresh g c =
    let t = c.args.twin.now in
    let elems = rw c.second.ensures at c.elems_in.ensures in
    subst (λ (es : List ℕ). AreFresh t.second.limits.population (g.D.Commons.side c.args.d.now).holds es)
    (slot_elements c.clone_into.new.self.second.table c.in-Ok.slot ∙ sym elems)
    c.in-Ok.ensures.fresh

-- nothing is told of as new
pub returns-in-Err-clause-fresh : goal.returns-in-Err-clause-fresh
returns-in-Err-clause-fresh g c = fresh_none _ _
