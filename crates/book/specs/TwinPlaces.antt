-- What a contract sees of a `TwinBook`. Of a `TwinShare` it sees the worker that a `Twin` was.
use Rattle.book.specs.Places.{Places}

-- a book for each of two pools
pub record TwinPlaces : Type 0 where
  pub first : Places
  pub second : Places
