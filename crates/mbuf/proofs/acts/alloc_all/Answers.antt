use Rattle.std.proofs.Common.{ℕ, List, Ok, Err, map, refl, sym, ap, subst, ◌∙◌, rules, arith}
use Rattle.mbuf.specs.Fresh.{AreFresh}
use Rattle.mbuf.specs.declared.acts.NewPacket.{NewPacket}
use Rattle.mbuf.proofs.FreshLemmas.{bulk_elements, fresh_none}
use Rattle.mbuf.specs.declared.acts.Answer.TheVariants.{Bulk}
use Rattle.mbuf.proofs.ActLemmas.{bulk_there, list_is}
use Rattle.mbuf.proofs.acts.alloc_all.Goals as goal

-- A packet stands in each slot of the bulk, and they are no more than the list has room for.
pub new_packets-requires : goal.new_packets-requires
new_packets-requires g c =
    let done = c.in-Ok.ensures.calls in
    let within = c.requires.room c.requires.few in
    (search rules, (omega (arith, c.alloc_bulk.auto.out, within), bulk_there _ _ _ _ _ done.2))

-- The bulk's calls are the act's, and the reply lists its slots with the elements there, which are
-- those of the new packets.
pub returns-in-Ok : goal.returns-in-Ok
returns-in-Ok g c =
    let done = c.in-Ok.ensures.calls in
    let m = c.args.packets.now in
    record {
      calls = (
        done.0,
        done.1,
        (Ok c.alloc_bulk.new.out, done.2, ap Bulk (list_is c.new_packets.result _ c.new_packets.ensures)),
      );
      fresh =
          subst (λ (es : List ℕ). AreFresh m.limits.population (g.C.Commons.side c.args.c.now).holds es)
          (bulk_elements _ _ _ _ _ done.2 ∙ ap
          (λ (list : List NewPacket). map (λ (packet : NewPacket). packet.elem) list)
          (sym c.new_packets.ensures)) c.in-Ok.ensures.fresh;
      own = search rules;
      guests = search rules;
      refused = search rules;
    }

-- The bulk's calls are the act's, and the reply tells the cause.
pub returns-in-Err : goal.returns-in-Err
returns-in-Err g c =
    let done = c.in-Err.ensures.calls in
    record {
      calls = (done.0, done.1, (Err c.in-Err.cause, done.2, refl));
      fresh = fresh_none _ _;
      own = search rules;
      guests = search rules;
      refused = search rules;
    }
