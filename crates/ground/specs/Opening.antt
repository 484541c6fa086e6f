-- What a ground is at the start, and why one isn't made.
use Rattle.std.specs.Prelude.{ℕ, List, [], ◌∷◌, replicate}
use Rattle.commons.specs.Bounds.{IsPool}
use Rattle.commons.specs.declared.limits.Limits.{Limits}
use Rattle.commons.specs.declared.refusal.Refusal.{Refusal}
use Rattle.commons.specs.declared.refusal.Refusal.TheVariants.{BadPool, OutOfMemory}
use Rattle.step_core.specs.World.{World, empty_view, every_part}
use Rattle.step_core.specs.Opening.{opening, links_up}
use Rattle.ground.specs.Layout.{pack, words_with}

-- the world at the start: all elements are common, from 0 up, and one view, that of the only seat,
-- has every part
abbrev pub opening_alone : Limits → World
opening_alone l = record (opening l) { views = empty_view (every_part l) ∷ [] }

-- the words of the world at the start
abbrev pub opening_words : Limits → List ℕ
opening_words l =
    words_with (pack (record { top = 1; count = l.start_count })) l.population
    (links_up 0 l.population) (replicate l.population 1) (replicate l.desks 0)

-- why a ground isn't made: there is no such pool, or memory was refused
abbrev pub IsGroundCause : Limits → Refusal → Type 0
IsGroundCause l BadPool = ¬ (IsPool l)
IsGroundCause l OutOfMemory = IsPool l
IsGroundCause l _ = ⊥
