use Rattle.ground.proofs.Passing.{passes_lawful}
use Rattle.ground.proofs.laws.a_packet_on_its_way_is_its_workers.Goals as goal

pub returns : goal.returns
returns c = passes_lawful
