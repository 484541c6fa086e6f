-- The pools' limits and numbers are kept in the type.
use Rattle.std.proofs.Common.{sym, ap, ◌∙◌}
use Rattle.std.specs.List.{range_with_len}
use Rattle.share_book.proofs.TwinMembers.{first_numbers, second_numbers}
use Rattle.share_book.proofs.twin_site.TwinSite.fits_its_limits.Goals as goal

pub returns-clause-pools : goal.returns-clause-pools
returns-clause-pools c = rw (sym c.self.view_is) c.self.invariant.tables.pools

pub returns-clause-workers : goal.returns-clause-workers
returns-clause-workers c = rw (sym c.self.view_is) c.self.invariant.tables.workers

pub returns-clause-first_numbers : goal.returns-clause-first_numbers
returns-clause-first_numbers c =
    let i = c.self.invariant.tables in
    rw (sym c.self.view_is)
    (first_numbers c.self.inside.first c.self.inside.second c.self.inside.members.items _ i.each
    ∙ ap (range_with_len 1) i.workers)

pub returns-clause-second_numbers : goal.returns-clause-second_numbers
returns-clause-second_numbers c =
    let i = c.self.invariant.tables in
    rw (sym c.self.view_is)
    (second_numbers c.self.inside.first c.self.inside.second c.self.inside.members.items _ i.each
    ∙ ap (range_with_len 1) (i.workers ∙ sym i.pools.twins.workers))
