use Rattle.std.proofs.Common.{subst}
use Rattle.book.specs.Places.{Places}
use Rattle.book.specs.Books.{AreShares}
use Rattle.book.proofs.book.Book.fits_its_limits.Goals as goal

pub returns-clause-each : goal.returns-clause-each
returns-clause-each c = subst (λ (b : Places). AreShares b.places) c.self.view_is c.self.invariant.each
