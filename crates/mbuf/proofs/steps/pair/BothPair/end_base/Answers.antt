use Rattle.std.proofs.Common.{refl}
use Rattle.mbuf.proofs.TurnLemmas.{Leads-within}
use Rattle.mbuf.proofs.steps.pair.BothPair.end_base.Goals as goal

-- Each call on the first pool is a step of both that leaves the second as it was.
pub returns-clause-calls : goal.returns-clause-calls
returns-clause-calls g c =
    let both = c.args.self.now in
    let calls = c.end_if.ensures.calls in (
      calls.0,
      Leads-within _ _ g.C.Commons.did g.C.Commons.side (λ a. record both { c = record both.c { now = a } })
          (λ a call readings b step. record { led = (step.led, refl); cause = step.cause; effect = step.effect })
          calls.0 both.c.now c.end_if.new.c calls.1,
      calls.2,
    )
