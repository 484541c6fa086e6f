-- The limits within which a pool can be made.
use Rattle.std.specs.Prelude.{ℕ, ◌≤◌, ◌*◌, ◌/◌}
use Rattle.head_word.specs.Heads.{spent, max_elements}
use Rattle.commons.specs.declared.limits.Limits.{Limits}

-- the most elements: each can be the top of the common list
abbrev pub max_population : ℕ
max_population = max_elements

-- the most elements that a cache keeps, or takes at once
abbrev pub max_cache : ℕ
max_cache = 512

-- the most workers and the most desks
abbrev pub max_workers : ℕ
max_workers = 64

abbrev pub max_desks : ℕ
max_desks = 64

-- the most bytes of a buffer
abbrev pub max_buf : ℕ
max_buf = 65535

-- the greatest reference limit
abbrev pub max_refs : ℕ
max_refs = 65535

-- the most tries
abbrev pub max_tries : ℕ
max_tries = 1000000

-- the limits are those of a pool
pub record IsPool (l : Limits) : Type 0 where
  pub population_low : 1 ≤ l.population
  pub population : l.population ≤ max_population
  pub cache : l.cache ≤ max_cache
  pub threshold : l.cache * 3 / 2 ≤ l.population
  pub workers_low : 1 ≤ l.workers
  pub workers : l.workers ≤ max_workers
  pub desks : l.desks ≤ max_desks
  pub buf : l.buf ≤ max_buf
  pub refs_low : 1 ≤ l.ref_limit
  pub refs : l.ref_limit ≤ max_refs
  pub tries_low : 1 ≤ l.tries
  pub tries : l.tries ≤ max_tries
  pub start : l.start_count ≤ spent
