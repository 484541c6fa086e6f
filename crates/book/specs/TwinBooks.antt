-- Which shares a book of two pools has, and which it lacks.
use Rattle.std.specs.Prelude.{◌≡◌, ℕ, ◌↔◌}
use Rattle.commons.specs.Bounds.{IsPool}
use Rattle.commons.specs.declared.limits.Limits.{Limits}
use Rattle.commons.specs.declared.refusal.Refusal.{Refusal}
use Rattle.commons.specs.declared.refusal.Refusal.TheVariants.{BadPool, OutOfMemory}
use Rattle.book.specs.Books.{IsMissing, new_book, with_share}
use Rattle.mbuf.specs.Twins.{TwinMember}
use Rattle.book.specs.TwinPlaces.{TwinPlaces}

-- limits of two pools with the same workers
pub record AreTwins (one two : Limits) : Type 0 where
  pub first : IsPool one
  pub second : IsPool two
  pub workers : two.workers ≡ one.workers

-- why a book of two pools isn't made
abbrev pub IsTwinCause : Limits → Limits → Refusal → Type 0
IsTwinCause first second BadPool = ¬ (AreTwins first second)
IsTwinCause first second OutOfMemory = AreTwins first second
IsTwinCause first second _ = ⊥

-- limits of two pools with the same workers, the second without desks
pub record AreTwinPools (one two : Limits) : Type 0 where
  pub twins : AreTwins one two
  pub no_desks : two.desks ≡ 0

-- why two pools aren't made
abbrev pub IsTwinMakeCause : Limits → Limits → Refusal → Type 0
IsTwinMakeCause first second BadPool = ¬ (AreTwinPools first second)
IsTwinMakeCause first second OutOfMemory = AreTwinPools first second
IsTwinMakeCause first second _ = ⊥

-- a book without shares
abbrev pub new_twin_book : Limits → Limits → TwinPlaces
new_twin_book first second = record { first = new_book first; second = new_book second }

-- the book with one share more
abbrev pub with_twin_share : TwinPlaces → TwinMember → TwinPlaces
with_twin_share b m = record { first = with_share b.first m.first; second = with_share b.second m.second }

-- the same workers' shares are in both books
pub record AreFilledAlike (b : TwinPlaces) : Type 0 where
  pub workers : b.second.limits.workers ≡ b.first.limits.workers
  pub missing : (w : ℕ) → IsMissing b.first w ↔ IsMissing b.second w
