use Rattle.std.proofs.Common.{ℕ, List, [], ◌∷◌, Ok, Err, refl, sym, ap, subst, ◌∙◌, rules}
use Rattle.mbuf.specs.Fresh.{AreFresh}
use Rattle.mbuf.proofs.FreshLemmas.{allocated_elements, fresh_none}
use Rattle.mbuf.specs.declared.acts.Answer.TheVariants.{Allocated}
use Rattle.mbuf.proofs.acts.alloc.Goals as goal

-- The alloc's calls are the act's, and the reply names the slot and the element that stands there,
-- which is the new packet's.
pub returns-in-Ok : goal.returns-in-Ok
returns-in-Ok g c =
    let done = c.in-Ok.ensures.calls in
    let m = c.args.packets.now in
    record {
      calls = (done.0, done.1, (Ok c.in-Ok.slot, done.2, ap (Allocated c.in-Ok.slot) c.elem_in.ensures));
      fresh =
          subst (λ (es : List ℕ). AreFresh m.limits.population (g.C.Commons.side c.args.c.now).holds es)
          (allocated_elements _ _ _ _ done.2 ∙ ap (λ (e : ℕ). e ∷ []) (sym c.elem_in.ensures))
          c.in-Ok.ensures.fresh;
      own = search rules;
      guests = search rules;
      refused = search rules;
    }

-- The alloc's calls are the act's, and the reply tells the cause.
pub returns-in-Err : goal.returns-in-Err
returns-in-Err g c =
    let done = c.in-Err.ensures.calls in
    record {
      calls = (done.0, done.1, (Err c.in-Err.cause, done.2, refl));
      fresh = fresh_none _ _;
      own = search rules;
      guests = search rules;
      refused = search rules;
    }
