use Rattle.script_text.specs.inside.CommandReading.{command_lexicon}
use Rattle.script_text.proofs.CommandLemmas.{commands_are_right}
use Rattle.script_text.proofs.ScriptLemmas.{is_read, is_caused, only_one}
use Rattle.script_text.proofs.reading.parse.Goals as goal

-- what was read is what the text is read as, which is a script of the grammar
pub returns-clause-read : goal.returns-clause-read
returns-clause-read c = is_read command_lexicon commands_are_right c.script_of.result c.args.bytes.now c.script_of.ensures

-- what refused is what refuses the text, which has its cause
pub returns-clause-faults : goal.returns-clause-faults
returns-clause-faults c = is_caused command_lexicon commands_are_right c.script_of.result c.args.bytes.now c.script_of.ensures

-- a script of the grammar is what the text is read as, and there is one reading
pub returns-clause-only : goal.returns-clause-only
returns-clause-only c =
    λ pools lines h.
    only_one command_lexicon commands_are_right c.script_of.result c.args.bytes.now pools lines h c.script_of.ensures
