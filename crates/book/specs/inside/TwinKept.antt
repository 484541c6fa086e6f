-- How a `TwinShare` and a `TwinBook` are kept. No public clause cites this module.
use Rattle.std.specs.Prelude.{◌≡◌}
use Rattle.mbuf.specs.Twins.{TwinMember}
use Rattle.book.specs.TwinPlaces.{TwinPlaces}
use Rattle.book.specs.TwinBooks.{AreFilledAlike}
use Rattle.book.specs.declared.twin_book.TwinBook.TheInside as book
use Rattle.book.specs.declared.twin_share.TwinShare.TheInside.{Inside}

abbrev pub member_of : Inside → TwinMember
member_of s = record { first = s.first; second = s.second }

-- both parts are one worker's
abbrev pub IsOfOne : Inside → Type 0
IsOfOne s = s.second.number ≡ s.first.number

abbrev pub places_of : book.Inside → TwinPlaces
places_of b = record { first = b.first; second = b.second }

-- both books have the shares of the same workers
abbrev pub IsTwinBook : book.Inside → Type 0
IsTwinBook b = AreFilledAlike (places_of b)
