use Rattle.std.proofs.Common.{refl}
use Rattle.std.proofs.lemmas.Result.{IfOk-weaker}
use Rattle.script_text.specs.PoolLine.{one_pool}
use Rattle.script_text.specs.StepGrammar.{steps}
use Rattle.script_text.specs.inside.StepReading.{step_lexicon}
use Rattle.script_text.proofs.BesideLemmas.{script_alone, script_of_one}
use Rattle.script_text.proofs.StepLineLemmas.{steps_are_right}
use Rattle.script_text.proofs.ScriptLemmas.{is_read, is_caused, only_one}
use Rattle.script_text.proofs.reading.parse_steps.Goals as goal

-- what was read is what the text is read as, which is a script of the grammar, of one pool
pub returns-clause-read : goal.returns-clause-read
returns-clause-read c =
    IfOk-weaker c.script_of.result _ _
    (λ script h. script_of_one steps refl c.args.bytes.now script.pools script.lines h)
    (is_read step_lexicon steps_are_right c.script_of.result c.args.bytes.now c.script_of.ensures)

-- steps know no second pool
pub returns-clause-alone : goal.returns-clause-alone
returns-clause-alone c =
    IfOk-weaker c.script_of.result _ _
    (λ script h. script_alone steps refl c.args.bytes.now script.pools script.lines h)
    (is_read step_lexicon steps_are_right c.script_of.result c.args.bytes.now c.script_of.ensures)

-- what refused is what refuses the text, which has its cause
pub returns-clause-faults : goal.returns-clause-faults
returns-clause-faults c = is_caused step_lexicon steps_are_right c.script_of.result c.args.bytes.now c.script_of.ensures

-- a script of the grammar is what the text is read as, and there is one reading
pub returns-clause-only : goal.returns-clause-only
returns-clause-only c =
    λ limits lines h.
    only_one step_lexicon steps_are_right c.script_of.result c.args.bytes.now (one_pool limits) lines h
    c.script_of.ensures
