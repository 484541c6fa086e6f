use Rattle.std.proofs.Common.{◌≡◌, ◌<◌, ℕ}
use Rattle.commons.specs.Lists.{hand_of, holds_of}
use Rattle.layer_tests.proofs.packets.played.Given as goal

-- the workers whose turn is to come have nothing
abbrev pub invariant-loop-index : goal.invariant-loop-index
invariant-loop-index g l = record {
  hands : (w i : ℕ) → l.index < w → hand_of l.site w i ≡ 0;
  holds : (w i : ℕ) → l.index < w → holds_of l.site w i ≡ 0;
}
