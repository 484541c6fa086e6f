use Rattle.std.proofs.Common.{inl, inr}
use Rattle.script_text.specs.Grammar as grammar
use Rattle.script_text.specs.StepGrammar as step_grammar
use Rattle.script_reasons.proofs.WrittenLemmas.{not_all_skipped, written_is}
use Rattle.script_reasons.proofs.explaining.of_pool.Goals as goal

-- a text whose lines are all skipped has no bad pool line
pub unreachable-requires : goal.unreachable-requires
unreachable-requires c = elim c.requires [
  | inl bad ↦ not_all_skipped grammar.commands c.args.bytes.now c.in-None.ensures bad
  | inr bad ↦ not_all_skipped step_grammar.steps c.args.bytes.now c.in-None.ensures bad
]

-- the line that was found is the first that isn't skipped
pub returns : goal.returns
returns c = rw c.at.ensures (written_is c.args.bytes.now c.in-Some.line c.in-Some.text.now c.in-Some.ensures)
