use Rattle.commons.specs.Calls.{calls_of}
use Rattle.mbuf.specs.Acts.{Performs, Reply}
use Rattle.mbuf.proofs.ActLemmas.{any_room, as_reply-same}
use Rattle.std.proofs.Common.{subst, rules}
use Rattle.mbuf.proofs.acts.perform.Goals as goal

-- There is room for any act in a reply of full size.
pub perform_in-requires : goal.perform_in-requires
perform_in-requires g c = (search rules, (any_room c.args.act, c.requires.own))

-- A reply of full size is the answer that the act gave.
pub returns-clause-calls : goal.returns-clause-calls
returns-clause-calls g c =
    let done = c.perform_in.ensures.calls in (
      done.0,
      done.1,
      subst (λ (r : Reply). Performs c.args.act c.args.packets.now (calls_of done.0)
          r c.perform_in.new.packets) (as_reply-same c.perform_in.result) done.2,
    )
