use Rattle.std.proofs.Common.{◌≡◌, sym, ◌∙◌, subst}
use Rattle.ground.specs.Seats.{Seated}
use Rattle.word_tests.specs.Idle.{IsIdle}
use Rattle.word_tests.proofs.Staying.{new_player}
use Rattle.word_tests.proofs.tests.players.Player.make.Goals as goal

-- the seat is the one that was given, and the new packets are the worker's own, since it names
-- nothing
pub returns : goal.returns
returns c =
    let same : c.new.result.seat ≡ c.args.free.seat = c.new.ensures.seat ∙ c.into_seat.ensures in record {
      ready = record {
        idle = subst (λ (s : Seated). IsIdle c.args.ground.now s) (sym same) c.requires.idle;
        own =
            new_player c.in_ok-packets.packets c.args.free.seat c.new.result.seat c.limits.result
            c.args.number c.in_ok-packets.ensures.ok
            (c.limits.ensures.limits ∙ sym c.requires.idle.of.limits) c.requires.hand
            c.requires.holds same;
      };
    }
