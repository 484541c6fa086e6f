-- Links that spell a list lead a walk through it.
use Rattle.std.proofs.Common.{ℕ, ◌≡◌, List, [], ◌∷◌, arith}
use Rattle.commons.specs.Closing.{top_word}
use Rattle.step_core.specs.Links.{Spells}
use Rattle.step_core.specs.World.{link_in}
use Rattle.snapshot.proofs.FollowedLinks.{AreLinked}

-- the value from which a list is spelled names its first element
pub top_of : (link : ℕ → ℕ) (value : ℕ) (xs : List ℕ) → Spells link value xs → value ≡ top_word xs
top_of link value [] h = h
top_of link value (x ∷ xs) h = let first = h.0 in omega arith

-- and each element's link names what follows it
pub linked_by : (links : List ℕ) (value : ℕ) (xs : List ℕ) → Spells (link_in links) value xs → AreLinked links xs
linked_by links value [] h = tt
linked_by links value (x ∷ xs) h =
    (top_of (link_in links) (link_in links x) xs h.1, linked_by links (link_in links x) xs h.1)
