-- What stands in front of a refusal of the older one.
use Rattle.std.proofs.Common.{◌≡◌, ◌≢◌, codes, refl}
use Rattle.commons.specs.declared.refusal.Refusal.{Refusal}
use Rattle.commons.specs.declared.refusal.Refusal.TheVariants as refusals
use Rattle.tasks.specs.Pairs.{refusal_prefix}

-- where memory isn't missing, that it is the older one
pub refusal_prefix_other : (refusal : Refusal) → refusal ≢ refusals.OutOfMemory → refusal_prefix refusal ≡ codes "since: "
refusal_prefix_other refusals.OutOfMemory other = absurd (other refl)
refusal_prefix_other _ other = refl
