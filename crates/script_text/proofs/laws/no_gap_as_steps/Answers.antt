use Rattle.std.proofs.Common.{refl, inl, inr}
use Rattle.script_text.specs.StepGrammar.{steps}
use Rattle.script_text.specs.inside.StepReading.{step_lexicon}
use Rattle.script_text.proofs.BesideLemmas.{script_of_one}
use Rattle.script_text.proofs.StepLineLemmas.{steps_are_right}
use Rattle.script_text.proofs.GapLemmas.{script_or_fault}
use Rattle.script_text.proofs.laws.no_gap_as_steps.Goals as goal

-- what is a script of steps has one pool
pub returns : goal.returns
returns c = λ bytes. elim (script_or_fault step_lexicon steps_are_right bytes) [
  | inl some ↦ inl (record {
    limits = some.pools.first;
    lines = some.lines;
    script = script_of_one steps refl bytes some.pools some.lines some.script;
  })
  | inr other ↦ inr other
]
