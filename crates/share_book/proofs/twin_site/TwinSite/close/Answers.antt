-- What is left are the snapshots of both pools, so what is known of these is known of it.
use Rattle.std.proofs.Common.{ap, subst, sym, ◌∙◌}
use Rattle.snapshot.specs.Snapshots.{statement_in}
use Rattle.book.specs.Left.{IsLawfulByTypes, first_of, second_of}
use Rattle.share_book.specs.TwinSites.{TwinLists, first_snapshot, second_snapshot}
use Rattle.share_book.proofs.twin_site.TwinSite.close.Goals as goal

pub returns-in-Ok-close-clause-pools : goal.returns-in-Ok-close-clause-pools
returns-in-Ok-close-clause-pools c =
    let fits = rw (sym c.self.view_is) at c.fits_its_limits.ensures.pools in
    rw (c.limits-first_limits.ensures.limits, c.limits.ensures.limits) fits

-- both pools are whole, and lawful by themselves
pub returns-in-Ok-close-clause-whole : goal.returns-in-Ok-close-clause-whole
returns-in-Ok-close-clause-whole c =
    let first = c.limits-first_limits.ensures.limits in
    let second = c.limits.ensures.limits in
    let closed = c.in-Ok-close.ensures.closed in
    let left = c.in-Ok-left_without_desks.ensures in
    let shares = c.handed_in.ensures in
    let fits = c.fits_its_limits.ensures in
    let lawful = c.is_lawful_by_types.ensures in
    let pools = rw (sym c.self.view_is) at fits.pools in
    let first_numbers = rw (sym c.self.view_is) at fits.first_numbers in
    let second_numbers = rw (sym c.self.view_is) at fits.second_numbers in
    let first_left = (λ i. first_of (first i) (closed i) (shares i)) ∙ ap first_snapshot c.self.view_is in
    let second_left = (λ i. second_of (second i) (left i) (shares i)) ∙ ap second_snapshot c.self.view_is in
    record {
      pools = rw (first, second) pools.twins;
      first_numbers = rw (shares, first) first_numbers;
      second_numbers = rw (shares, second) second_numbers;
      first_lawful = subst IsLawfulByTypes (sym first_left) lawful.first;
      second_lawful = subst IsLawfulByTypes (sym second_left) lawful.second;
    }

-- with the statements that the model's pools have
pub returns-in-Ok-close-clause-first_model : goal.returns-in-Ok-close-clause-first_model
returns-in-Ok-close-clause-first_model c =
    let limits = c.limits-first_limits.ensures.limits in
    let closed = c.in-Ok-close.ensures.closed in
    let shares = c.handed_in.ensures in
    (λ i. statement_in (first_of (limits i) (closed i) (shares i)))
    ∙ ap (λ (s : TwinLists). statement_in (first_snapshot s)) c.self.view_is
    ∙ c.leaves_its_statements.ensures.first

pub returns-in-Ok-close-clause-second_model : goal.returns-in-Ok-close-clause-second_model
returns-in-Ok-close-clause-second_model c =
    let limits = c.limits.ensures.limits in
    let left = c.in-Ok-left_without_desks.ensures in
    let shares = c.handed_in.ensures in
    (λ i. statement_in (second_of (limits i) (left i) (shares i)))
    ∙ ap (λ (s : TwinLists). statement_in (second_snapshot s)) c.self.view_is
    ∙ c.leaves_its_statements.ensures.second
