use Rattle.word_tests.proofs.Staying.{stays}
use Rattle.word_tests.proofs.tests.players.Player.act.Goals as goal

-- no call of the act leaves the seat's ground
pub returns-clause-stays : goal.returns-clause-stays
returns-clause-stays c =
    let calls = c.perform.ensures.calls in stays c.args.self.now.c calls.0 c.perform.new.c calls.1
