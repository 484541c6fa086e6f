use Rattle.std.proofs.Common.{◌<◌, ◌%◌, w64, sym, ap, arith}
use Rattle.std.specs.Prelude.{◌==◌, ℕ}
use Rattle.std.proofs.lemmas.Nat.Bits.{bit_at_set_same, bit_at_set_other}
use Rattle.mbuf.proofs.BitLemmas.{flags-set}
use Rattle.mbuf.proofs.free_slots.FreeSlots.give.Goals as goal

-- The bit that is set is the slot's flag, and no other bit changes.
pub returns : goal.returns
returns c =
    let slot = c.args.slot in
    let low : slot % 64 < 64 = omega arith in
    rw (sym c.self.view_is)
    (flags-set c.self.inside.words slot _ _ c.self.told c.requires.within
    (ap (λ (n : ℕ). n == 1) (bit_at_set_same w64 _ (slot % 64) low))
    (λ k l apart. bit_at_set_other w64 _ (slot % 64) low k apart))
