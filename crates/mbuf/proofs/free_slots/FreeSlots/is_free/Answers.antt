use Rattle.std.proofs.Common.{◌/◌, ◌%◌, get_or, sym, ap, ◌∙◌}
use Rattle.std.specs.Prelude.{◌==◌, ℕ}
use Rattle.std.proofs.lemmas.Nat.Bits.{shr_and_one}
use Rattle.mbuf.proofs.BitLemmas.{flag_at}
use Rattle.mbuf.proofs.free_slots.FreeSlots.is_free.Goals as goal

-- The bit that is looked at is the slot's flag.
pub returns : goal.returns
returns c =
    let slot = c.args.slot in
    rw (sym c.self.view_is)
    (ap (λ (n : ℕ). n == 1) (shr_and_one (get_or c.self.inside.words (slot / 64) 0) (slot % 64))
    ∙ sym (flag_at c.self.inside.words slot c.requires))
