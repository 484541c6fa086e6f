use Rattle.std.proofs.Common.{None}
use Rattle.script.proofs.NameLemmas.{is_named}
use Rattle.script.proofs.names.Names.forget.Goals as goal

pub returns : goal.returns
returns c = is_named c.args.self.now (record { stands = c.remove.new.self }) c.args.worker c.args.name None c.remove.ensures.updates.0
