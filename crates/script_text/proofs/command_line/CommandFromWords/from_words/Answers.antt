use Rattle.script_text.specs.inside.Reading.{words_of}
use Rattle.script_text.proofs.CommandLemmas.{read_is_named}
use Rattle.script_text.proofs.command_line.CommandFromWords.from_words.Goals as goal

-- the command of a verb makes names alone
pub returns-clause-named : goal.returns-clause-named
returns-clause-named c = read_is_named c.in-Some-verb_of.verb (words_of c.in-Some.rest.now) c.command_with.result c.command_with.ensures
