use Rattle.step_core.proofs.Theorem.{lawful_shows}
use Rattle.step_core.proofs.laws.a_lawful_world_shows_a_table.Goals as goal

pub returns : goal.returns
returns c = lawful_shows
