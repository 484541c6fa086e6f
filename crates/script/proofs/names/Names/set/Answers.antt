use Rattle.std.proofs.Common.{Some}
use Rattle.script.proofs.NameLemmas.{is_named}
use Rattle.script.proofs.names.Names.set.Goals as goal

pub returns : goal.returns
returns c = is_named c.args.self.now (record { stands = c.insert.new.self }) c.args.worker c.args.name (Some c.args.stand) c.in_ok-insert.ensures.updates.0
