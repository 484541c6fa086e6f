-- The world at the start: all elements common, from 0 up.
use Rattle.std.specs.Prelude.{ℕ, zero, suc, List, [], ◌∷◌, replicate}
use Rattle.step_core.specs.Links.{first_value}
use Rattle.step_core.specs.World.{World, Limits, empty_view, no_desk, worker_part}

-- n numbers from i up
abbrev pub count_up : ℕ → ℕ → List ℕ
count_up i zero = []
count_up i (suc n) = i ∷ count_up (suc i) n

-- the links of n elements from i up, each to the next, and of the last to the end
abbrev pub links_up : ℕ → ℕ → List ℕ
links_up i zero = []
links_up i (suc zero) = 0 ∷ []
links_up i (suc (suc n)) = suc (suc i) ∷ links_up (suc i) (suc n)

-- the head's top is element 0, where there is one
abbrev pub opening : Limits → World
opening l = record {
  limits = l;
  head = record { top = first_value (count_up 0 l.population); count = l.start_count };
  length = l.population;
  links = links_up 0 l.population;
  counts = replicate l.population 1;
  desks = replicate l.desks no_desk;
  views = replicate l.workers (empty_view worker_part);
}
