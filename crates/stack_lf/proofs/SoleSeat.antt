-- What the only seat of a pool knows of a word that it reads twice: both times it is the same.
use Rattle.std.proofs.Common.{◌≡◌, ℕ, List, ◌++◌, Option, Some, None, sym, ap, ◌∙◌, arith}
use Rattle.std.specs.Prelude.{flat_map}
use Rattle.commons.specs.declared.packet.Seg.{Seg}
use Rattle.commons.specs.Packets.{held_in, holds_in_slot}
use Rattle.ground.specs.declared.known.Known.{Known}
use Rattle.ground.specs.Seats.{held_below, KnowsLength, KnowsCount}
use Rattle.step_core.specs.World.{every_part}

-- what lies on the desks
abbrev Desks : Type 0
Desks = List (Option (List Seg))

-- what is known, or else this
of_some : Desks → Option Desks → Desks
of_some d None = d
of_some d (Some x) = x

-- two that are known to be the same are the same
same_some : (x y : Desks) → ◌≡◌ {A = Option Desks} (Some x) (Some y) → x ≡ y
unfolding of_some
same_some x y e = ap (of_some x) e

-- the same desks are known both times
same_desks : (n : Known) (x y : Desks) → n.lying ≡ Some x → n.lying ≡ Some y → x ≡ y
same_desks n x y a b = same_some x y (sym a ∙ b)

-- the length that is read twice
pub same_length : (n : Known) (v found : ℕ) → KnowsLength n v → KnowsLength n found →
    n.view.part ≡ every_part n.limits → found ≡ v
same_length n v found knows again whole =
    let a = knows whole in
    let b = again whole in
    let held = λ (desks : Desks). held_below n.limits.population (n.view.holds ++ flat_map holds_in_slot desks) in
    let same : held a.0 ≡ held b.0 = ap held (same_desks n a.0 b.0 a.1 b.1) in
    let first = a.3 in
    let second = b.3 in
    omega arith

-- and a count
pub same_count : (n : Known) (i v found : ℕ) → KnowsCount n i v → KnowsCount n i found →
    n.view.part ≡ every_part n.limits → found ≡ v
same_count n i v found knows again whole =
    let a = knows whole in
    let b = again whole in
    let same : held_in a.0 i ≡ held_in b.0 i = ap (λ (desks : Desks). held_in desks i) (same_desks n a.0 b.0 a.1 b.1) in
    let first = a.3 in
    let second = b.3 in
    omega arith
