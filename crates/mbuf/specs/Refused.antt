-- What stands after an act that was refused.
use Rattle.std.specs.Prelude.{ℕ, ◌≡◌}
use Rattle.commons.specs.Calls.{Side}
use Rattle.mbuf.specs.Acts.{Reply}
use Rattle.mbuf.specs.Members.{Member}
use Rattle.mbuf.specs.declared.acts.Act.{Act}
use Rattle.mbuf.specs.declared.acts.Act.TheVariants.{ClonePacket}
use Rattle.mbuf.specs.declared.acts.Answer.TheVariants.{Refused}

-- where the reply is a refusal, this is so
abbrev pub IfRefused : Reply → Type 0 → Type 0
IfRefused (Refused cause) so = so
IfRefused _ so = Unit {0}

-- All but the cache and the hand is as before: limits and number, packets, holds and headers.
pub record PacketsAsBefore (m : Member) (s : Side) (after : Member) (t : Side) : Type 0 where
  pub packets : after ≡ record m { cache = after.cache }
  pub holds : (i : ℕ) → t.holds i ≡ s.holds i
  pub headers : (i : ℕ) → t.headers i ≡ s.headers i

-- What a refused act leaves: all that the worker has is as before; but a clone that is given up
-- may share out the free elements differently between cache and stack.
abbrev pub AsBefore : Act → Member → Side → Member → Side → Type 0
AsBefore (ClonePacket source) m s after t = PacketsAsBefore m s after t
AsBefore _ m s after t = (t ≡ s) × (after ≡ m)
