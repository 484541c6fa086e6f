-- What reads take from a reader, where its bytes are known.
use Rattle.std.specs.Prelude.{◌≡◌, ◌++◌, ◌<◌, ℕ, List, Option, length}
use Rattle.std.specs.Io.KnownBytes.{Consumes, IsAtEnd}

-- a read gave so many bytes, which were put behind those that were there; it gave none only at the end
pub record ReadsMore (old new : Option (List ℕ)) (before after : List ℕ) (count : ℕ) : Type 0 where
  pub piece : List ℕ
  pub taken : Consumes old new piece
  pub behind : after ≡ before ++ piece
  pub counted : length piece ≡ count
  pub end : count ≡ 0 → IsAtEnd new

-- some bytes were read, and are gone from the reader
pub record LosesSome (old new : Option (List ℕ)) : Type 0 where
  pub lost : List ℕ
  pub some : 0 < length lost
  pub taken : Consumes old new lost
