-- What is the same within an answer.
use Rattle.std.proofs.Common.{◌≡◌, Some, Result, Ok}
use Rattle.commons.specs.declared.refusal.Refusal.{Refusal}

pub some-is : {A : Type 0} (x y : A) → Some x ≡ Some y → x ≡ y
some-is x y e = cc

pub ok-is : {A : Type 0} (x y : A) → ◌≡◌ {A = Result A Refusal} (Ok x) (Ok y) → x ≡ y
ok-is x y e = cc
