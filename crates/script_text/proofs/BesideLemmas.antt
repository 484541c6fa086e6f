-- What a pool line says of a second pool: it is beside the first, and there is none where none is
-- known.
use Rattle.std.proofs.Common.{◌≡◌, ℕ, ◌+◌, Bool, false, List, [], ◌∷◌, Option, Some, None, refl, sym, ap, ◌∙◌, subst}
use Rattle.std.specs.Prelude.{IfSome, option_map}
use Rattle.std.proofs.lemmas.Bool.{false≢true}
use Rattle.commons.specs.declared.limits.Limits.{Limits}
use Rattle.script_text.specs.declared.lines.Line.{Line}
use Rattle.script_text.specs.declared.lines.Pools.{Pools}
use Rattle.script_text.specs.declared.pool_line.PoolNumbers.{PoolNumbers}
use Rattle.script_text.specs.PoolLine.{IsBeside, IsSecond, numbers_of, numbers_of_pools, one_pool}
use Rattle.script_text.specs.Scripts.{Language, State, start, Takes, skips, gives_pool, commands, AreRead, IsScript}
use Rattle.script_text.specs.inside.Reading.{numbers_from}
use Rattle.script_text.proofs.PoolLineLemmas.{pool_line_from}

-- ---- beside the first

-- a second pool has the first's number of workers, and no desks
second_beside_is : (knows : Bool) (first : Limits) (population cache : Option ℕ) (o : Option Limits) →
    IsSecond knows (numbers_of first) population cache (option_map numbers_of o) → IfSome o (IsBeside first)
second_beside_is knows first population cache None h = tt
second_beside_is knows first population cache (Some second) h = record {
  workers = ap (λ (n : PoolNumbers). n.workers) h.1.2;
  desks = ap (λ (n : PoolNumbers). n.desks) h.1.2;
}

-- what words of a pool line give to a second pool is beside the first
pub read_beside : (knows : Bool) (words : List (List ℕ)) (pools : Pools) →
    numbers_from knows words ≡ Some (numbers_of_pools pools) → IfSome pools.second (IsBeside pools.first)
read_beside knows words pools e =
    second_beside_is knows pools.first _ _ pools.second
    (pool_line_from knows words (numbers_of_pools pools) e).second_is

-- ---- no second pool

-- no numbers are told of a second pool
abbrev AreAlone : {C : Type 0} → State C → Type 0
AreAlone state = IfSome state.numbers (λ numbers. numbers.second ≡ None)

-- where no second pool is known there is none
none_known : (knows : Bool) (first : PoolNumbers) (population cache : Option ℕ) (second : Option PoolNumbers) →
    knows ≡ false → IsSecond knows first population cache second → second ≡ None
none_known knows first population cache None unknown h = refl
none_known knows first population cache (Some second) unknown h = absurd (false≢true (sym unknown ∙ h.0))

-- limits without numbers aren't there
none_mapped : (o : Option Limits) → option_map numbers_of o ≡ None → o ≡ None
none_mapped None e = refl
none_mapped (Some limits) e = absurd cc

module _ {C : Type 0} (language : Language C) (unknown : language.knows_second ≡ false) where
  -- no line tells of a second pool
  alone_after : (before after : State C) (number : ℕ) (line : List ℕ) →
      Takes language before number line after → AreAlone before → AreAlone after
  alone_after before after number line (skips skipped same) h = subst (λ (s : State C). AreAlone s) (sym same) h
  alone_after before after number line (gives_pool read) h =
      subst (λ (s : State C). AreAlone s) (sym read.after_is)
      (none_known language.knows_second read.numbers.first _ _ read.numbers.second unknown
      read.is_pool_line.second_is)
  alone_after before after number line (commands read) h =
      subst (λ (s : State C). AreAlone s) (sym read.after_is) h

  -- lines one after another tell of no second pool
  alone_at_end : (lines : List (List ℕ)) (before after : State C) (number : ℕ) →
      AreRead language before number lines after → AreAlone before → AreAlone after
  alone_at_end [] before after number read h = subst (λ (s : State C). AreAlone s) (sym read) h
  alone_at_end (line ∷ lines) before after number read h =
      alone_at_end lines read.0 after (number + 1) read.3 (alone_after before read.0 number line read.1.takes h)

  -- where a language knows no second pool, a script has none
  pub script_alone : (bytes : List ℕ) (pools : Pools) (lines : List (Line C)) →
      IsScript language bytes pools lines → pools.second ≡ None
  script_alone bytes pools lines h =
      none_mapped pools.second (alone_at_end h.texts start
      (record { numbers = Some (numbers_of_pools pools); lines = lines }) 1 h.read tt)

  -- such a script is one of its first pool alone
  pub script_of_one : (bytes : List ℕ) (pools : Pools) (lines : List (Line C)) →
      IsScript language bytes pools lines → IsScript language bytes (one_pool pools.first) lines
  script_of_one bytes pools lines h =
      subst (λ (o : Option Limits). IsScript language bytes (record { first = pools.first; second = o }) lines)
      (script_alone bytes pools lines h) h
