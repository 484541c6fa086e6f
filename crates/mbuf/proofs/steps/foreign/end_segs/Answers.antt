use Rattle.std.proofs.Common.{rules}
use Rattle.mbuf.specs.declared.steps.pair.Both.{Both}
use Rattle.mbuf.proofs.TurnLemmas.{ends_apart}
use Rattle.mbuf.proofs.steps.foreign.end_segs.Goals as goal

-- What ended by steps of both pools ended by the calls on either.
pub returns-clause-calls : goal.returns-clause-calls
returns-clause-calls g c =
    let calls =
    ends_apart _ _ (λ (b : Both g.row.C.Denot g.row.D.Denot). b.c.now)
    (λ (b : Both g.row.C.Denot g.row.D.Denot). b.d.now) g.C.Commons.did g.C.Commons.side g.D.Commons.did
    g.D.Commons.side (λ s call readings t led. led) (λ s call readings t led. led) _ _ _ _ _ _ _ _ _ _ _
    c.end_each.ensures.calls in
    search rules
