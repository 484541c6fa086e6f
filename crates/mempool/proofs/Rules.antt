-- A put rule is one of two.
use Rattle.std.proofs.Common.{◌≡◌, ◌⊎◌, inl, inr, refl}
use Rattle.commons.specs.declared.limits.PutRule.{PutRule}
use Rattle.commons.specs.declared.limits.PutRule.TheVariants.{Keep, Whole}

-- a cache keeps its size, or goes whole
pub one_rule : (rule : PutRule) → (rule ≡ Keep) ⊎ (rule ≡ Whole)
one_rule Keep = inl refl
one_rule Whole = inr refl
