-- The common list of a world, as far as its links were followed.
use Rattle.std.proofs.Common.{ℕ, zero, suc, ◌≡◌, ◌≢◌, ◌+◌, ◌-◌, ◌<◌, ◌≤◌, List, [], ◌∷◌, ◌++◌, length, refl, sym, ap, ◌∙◌, subst, arith}
use Rattle.std.proofs.lemmas.List.{append-nil, append_assoc, length-append}
use Rattle.step_core.specs.World.{World, link_in}
use Rattle.step_core.specs.Links.{Path, Spells}
use Rattle.step_core.specs.Law.{Lawful}
use Rattle.step_core.specs.Kept.{IsWorld}
use Rattle.step_core.specs.Headline.{AllAreThere}

-- The world is lawful, its common list begins with these elements, and the links spell what is
-- left from this value.
pub record Followed (w : World) (front : List ℕ) (next : ℕ) : Type 0 where
  pub law : Lawful w
  pub rest : List ℕ
  pub parts : law.common ≡ front ++ rest
  pub left : Spells (link_in w.links) next rest
  pub in_range : next ≤ w.limits.population

-- nothing was followed yet
pub from_the_top : (w : World) → IsWorld w → (front : List ℕ) → front ≡ [] → (top : ℕ) → top ≡ w.head.top →
    Followed w front top
from_the_top w known front none top is = record {
  law = known.law;
  rest = known.law.common;
  parts = ap (λ xs. xs ++ known.law.common) (sym none);
  left = subst (λ (t : ℕ). Spells (link_in w.links) t known.law.common) (sym is) known.law.places.spelled;
  in_range = subst (λ (t : ℕ). t ≤ w.limits.population) (sym is) known.law.ranges.top;
}

-- the first of what is left, and one that is of the pool
pub next_of_pool : (w : World) (front : List ℕ) (next : ℕ) → next ≢ 0 → Followed w front next →
    next - 1 < length w.links
next_of_pool w front zero some followed = absurd (some refl)
next_of_pool w front (suc i) some followed = omega (arith, followed.in_range, followed.law.ranges.links)

-- one link more
step_on : (w : World) (front : List ℕ) (next : ℕ) → next ≢ 0 → (law : Lawful w) (rest : List ℕ) →
    law.common ≡ front ++ rest → Spells (link_in w.links) next rest →
    Followed w (front ++ (next - 1) ∷ []) (link_in w.links (next - 1))
step_on w front next some law [] parts left = absurd (some left)
step_on w front next some law (i ∷ is) parts (e, more) =
    let same : i ≡ next - 1 = omega (arith, e) in
    record {
      law = law;
      rest = is;
      parts = parts ∙ (sym (append_assoc front (i ∷ []) is) ∙ ap (λ j. (front ++ j ∷ []) ++ is) same);
      left = subst (λ (j : ℕ). Spells (link_in w.links) (link_in w.links j) is) same more;
      in_range = law.ranges.links_in_range (next - 1);
    }

pub followed_on : (w : World) (front : List ℕ) (next : ℕ) → next ≢ 0 → Followed w front next →
    Followed w (front ++ (next - 1) ∷ []) (link_in w.links (next - 1))
followed_on w front next some f = step_on w front next some f.law f.rest f.parts f.left

-- the end was reached: what was followed is the whole
whole : (w : World) (front rest : List ℕ) (law : Lawful w) → law.common ≡ front ++ rest →
    Spells (link_in w.links) 0 rest → Spells (link_in w.links) w.head.top front
whole w front [] law parts left =
    subst (λ (xs : List ℕ). Spells (link_in w.links) w.head.top xs) (parts ∙ append-nil front) law.places.spelled
whole w front (i ∷ is) law parts (e, more) = absurd (omega (arith, e))

pub followed_whole : (w : World) (front : List ℕ) (next : ℕ) → next ≡ 0 → Followed w front next →
    Spells (link_in w.links) w.head.top front
followed_whole w front next end f =
    whole w front f.rest f.law f.parts (subst (λ (v : ℕ). Spells (link_in w.links) v f.rest) end f.left)

-- what was followed is no longer than the links are many
pub followed_fits : AllAreThere → (w : World) (front : List ℕ) (next : ℕ) → Followed w front next →
    length front ≤ length w.links
followed_fits all w front next f =
    omega (
      arith,
      all w f.law.common f.law f.law.places.spelled,
      f.law.ranges.links,
      ap length f.parts,
      length-append front f.rest,
    )
