-- How a `Book` is kept. No public clause cites this module.
use Rattle.std.specs.Prelude.{◌≡◌, length}
use Rattle.commons.specs.Bounds.{IsPool}
use Rattle.book.specs.Places.{Places}
use Rattle.book.specs.Books.{AreShares}
use Rattle.book.specs.declared.book.Book.TheInside.{Inside}

abbrev pub places_of : Inside → Places
places_of b = record { limits = b.limits; places = b.places.items }

-- the limits are those of a pool, each worker has a place, and each share stands in its worker's
pub record IsBook (b : Inside) : Type 0 where
  pub range : IsPool b.limits
  pub workers : length b.places.items ≡ b.limits.workers
  pub each : AreShares b.places.items
