use Rattle.script_text.proofs.MadeLemmas.{none_made}
use Rattle.script_text.proofs.made_names.MadeNames.new.Goals as goal

pub returns : goal.returns
returns c = none_made (record { keys = c.new.result }) c.new.ensures.empty
