use Rattle.std.proofs.Common.{w64, arith}
use Rattle.std.proofs.lemmas.Nat.Bits.{bit_at-trailing_zeros}
use Rattle.mbuf.proofs.free_slots.lowest_bit.Goals as goal

-- As many zeros trail a word that isn't 0 as bits are down below its lowest one.
pub returns-else-word-eq0 : goal.returns-else-word-eq0
returns-else-word-eq0 c =
    let t = bit_at-trailing_zeros w64 c.args.word (omega arith) (omega arith) in
    record { within = t.0; up = t.1; down = t.2 }
