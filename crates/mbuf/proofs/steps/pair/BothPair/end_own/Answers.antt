use Rattle.std.proofs.Common.{refl}
use Rattle.mbuf.proofs.EndLemmas.{one_ended}
use Rattle.mbuf.proofs.TurnLemmas.{Leads-within}
use Rattle.mbuf.proofs.steps.pair.BothPair.end_own.Goals as goal

-- Each call on the second pool is a step of both that leaves the first as it was.
pub returns-clause-calls : goal.returns-clause-calls
returns-clause-calls g c =
    let both = c.args.self.now in
    let calls = c.end_hold.ensures.calls in (
      calls.0,
      Leads-within _ _ g.D.Commons.did g.D.Commons.side (λ a. record both { d = record both.d { now = a } })
          (λ a call readings b step. record { led = (step.led, refl); cause = step.cause; effect = step.effect })
          calls.0 both.d.now c.end_hold.new.c calls.1,
      calls.2,
    )

-- The one hold was lost in the second pool.
pub returns-clause-lost : goal.returns-clause-lost
returns-clause-lost g c = (one_ended c.end_hold.ensures).lost
