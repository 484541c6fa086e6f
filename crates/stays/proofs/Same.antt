-- Segments that are the same, and lists of them.
use Rattle.std.proofs.Common.{◌≡◌, ℕ, List, Option, None, Some, refl, sym, ap, ◌∙◌}
use Rattle.std.specs.Prelude.{nat_eq, ◌==◌}
use Rattle.std.specs.Bool.{Decides}
use Rattle.std.specs.Cmp.{unsigned_Decides}
use Rattle.std.specs.Cmp.Lexicographic.{pointwise}
use Rattle.std.specs.Option.{option_eq}
use Rattle.std.proofs.lemmas.Bool.Decides.{same_from_decides, Decides-and, Decides-like}
use Rattle.std.proofs.lemmas.Slice.Eq.{slice_eq-Decides}
use Rattle.stays.specs.declared.used.Part.{Part}
use Rattle.stays.specs.Stays.{same_part}

-- two bases are the same, or both are none
base_same-Decides : (a b : Option ℕ) → Decides (option_eq nat_eq a b) (a ≡ b)
base_same-Decides None None = (λ _. refl, λ _. refl)
base_same-Decides None (Some y) = (λ e. cc, λ e. cc)
base_same-Decides (Some x) None = (λ e. cc, λ e. cc)
base_same-Decides (Some x) (Some y) =
    Decides-like (nat_eq x y) (λ e. ap Some e) (λ e. cc) (unsigned_Decides x y)

pub same_part-Decides : (a b : Part) → Decides (same_part a b) (a ≡ b)
same_part-Decides a b =
    let made : ℕ → Option ℕ → Part = λ elem base. record { elem = elem; base = base } in
    let to : (a.elem ≡ b.elem) × (a.base ≡ b.base) → a ≡ b =
    λ both. ap (λ (e : ℕ). made e a.base) both.0 ∙ ap (λ (base : Option ℕ). made b.elem base) both.1 in
    let from : a ≡ b → (a.elem ≡ b.elem) × (a.base ≡ b.base) =
    λ e. (ap (λ (p : Part). p.elem) e, ap (λ (p : Part). p.base) e) in
    Decides-like (same_part a b) to from
    (Decides-and (a.elem == b.elem) (option_eq nat_eq a.base b.base) (unsigned_Decides a.elem b.elem) (base_same-Decides a.base b.base))

pub same_parts-Decides : (xs ys : List Part) → Decides (pointwise same_part xs ys) (xs ≡ ys)
same_parts-Decides xs ys = slice_eq-Decides same_part-Decides xs ys (pointwise same_part xs ys) refl

-- which of two lists comes first doesn't matter
pub same_parts-flip : (xs ys : List Part) → pointwise same_part xs ys ≡ pointwise same_part ys xs
same_parts-flip xs ys =
    same_from_decides (pointwise same_part xs ys) (pointwise same_part ys xs) (same_parts-Decides xs ys)
    (Decides-like (pointwise same_part ys xs) (λ (e : ys ≡ xs). sym e) (λ (e : xs ≡ ys). sym e) (same_parts-Decides ys xs))
