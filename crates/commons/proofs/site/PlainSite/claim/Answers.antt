use Rattle.std.proofs.Common.{sym}
use Rattle.commons.specs.inside.Site.{lists_of}
use Rattle.commons.proofs.Tables.{table_claim}
use Rattle.commons.proofs.Single.{others_claim}
use Rattle.commons.proofs.site.PlainSite.claim.Goals as goal

-- the table after the claim: hand to held, one hold, and a header that was nobody's before
pub returns-clause-kept : goal.returns-clause-kept
returns-clause-kept c =
    rw c.set_hold.ensures (table_claim (lists_of c.self.inside) c.args.worker c.args.element
    c.self.invariant.table c.requires.low
    (rw (sym c.self.view_is) at c.requires.high) (rw (sym c.self.view_is) at c.requires.in_hand))

-- the element was in this worker's hand, so it was in no other one and nobody's header
pub returns-clause-others : goal.returns-clause-others
returns-clause-others c =
    rw (sym c.self.view_is, c.set_hold.ensures) (others_claim (lists_of c.self.inside) c.args.worker
    c.args.element c.self.invariant.table c.requires.low
    (rw (sym c.self.view_is) at c.requires.high) (rw (sym c.self.view_is) at c.requires.in_hand))

-- the lists are kept as that table: with one hold in this worker's row the element's count is 1
pub invariant_of-self : goal.invariant_of-self
invariant_of-self c = record { table = returns-clause-kept c; room = c.self.invariant.room }
