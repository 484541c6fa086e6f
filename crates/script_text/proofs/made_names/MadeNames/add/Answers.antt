use Rattle.script_text.proofs.MadeLemmas.{is_added, has_more}
use Rattle.script_text.proofs.made_names.MadeNames.add.Goals as goal

-- the name is the set's key, which was added just where it wasn't there
pub returns-clause-added : goal.returns-clause-added
returns-clause-added c =
    is_added c.args.self.now c.args.worker c.args.name.now c.in_place.result c.in_ok-added.added
    c.in_place.ensures c.in_ok-added.ensures.added

-- the set has that one key more
pub returns-clause-more : goal.returns-clause-more
returns-clause-more c =
    has_more c.args.self.now (record { keys = c.insert.new.self }) c.args.worker c.args.name.now
    c.in_place.result c.in_place.ensures c.in_ok-added.ensures.updates.0
