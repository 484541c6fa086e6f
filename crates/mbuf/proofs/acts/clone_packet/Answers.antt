use Rattle.std.proofs.Common.{ℕ, List, Ok, Err, refl, sym, ap, subst, ◌∙◌, rules}
use Rattle.mbuf.specs.Fresh.{AreFresh}
use Rattle.mbuf.proofs.FreshLemmas.{fresh_none, slot_elements}
use Rattle.mbuf.specs.declared.acts.Answer.TheVariants.{Cloned}
use Rattle.mbuf.proofs.ActLemmas.{list_is}
use Rattle.mbuf.proofs.RefusedLemmas.{clone_refused}
use Rattle.mbuf.proofs.acts.clone_packet.Goals as goal

-- The clone's calls are the act's, and the reply lists its own elements.
pub returns-in-Ok : goal.returns-in-Ok
returns-in-Ok g c =
    let done = c.in-Ok.ensures.calls in
    let m = c.args.packets.now in
    record {
      calls = (
        done.0,
        done.1,
        (
          Ok c.in-Ok.slot,
          done.2,
          ap (Cloned c.in-Ok.slot) (list_is c.elems_in.result _ c.elems_in.ensures),
        ),
      );
      fresh =
          subst (λ (es : List ℕ). AreFresh m.limits.population (g.C.Commons.side c.args.c.now).holds es)
          (slot_elements c.clone_packet.new.self.table c.in-Ok.slot ∙ sym c.elems_in.ensures)
          c.in-Ok.ensures.fresh;
      own = search rules;
      guests = search rules;
      refused = search rules;
    }

-- The clone's calls are the act's, and the reply tells the cause; packets, holds and headers are as
-- they were.
pub returns-in-Err : goal.returns-in-Err
returns-in-Err g c =
    let done = c.in-Err.ensures in
    let calls = done.calls in
    record {
      calls = (calls.0, calls.1, (Err c.in-Err.cause, calls.2, refl));
      fresh = fresh_none _ _;
      own = search rules;
      guests = search rules;
      refused = record {
        packets = clone_refused _ _ _ _ _ calls.2;
        holds = done.holds_err;
        headers = done.headers_err;
      };
    }
