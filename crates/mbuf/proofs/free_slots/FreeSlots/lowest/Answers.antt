use Rattle.std.proofs.Common.{◌≡◌, ◌<◌, ◌+◌, ℕ, List, get_or, sym, inl, inr, arith}
use Rattle.std.proofs.lemmas.Bool.{cases_eq}
use Rattle.mbuf.proofs.BitLemmas.{lowest_is, none_is}
use Rattle.mbuf.proofs.free_slots.FreeSlots.lowest.Goals as goal

-- The words so far are 0, so the lowest bit of this one is the first flag that is up.
pub returns-in-Some : goal.returns-in-Some
returns-in-Some c =
    rw (sym c.self.view_is) (sym (lowest_is c.self.inside.words c.loop-index.index c.in-Some.bit
    c.self.told c.loop-index-test.true c.loop-index.invariant c.in-Some.ensures))

-- All words are 0, so no flag is up.
pub returns : goal.returns
returns c =
    rw (sym c.self.view_is) (sym (none_is c.self.inside.words c.self.told
    (λ j l. c.loop-index.invariant j (omega (arith, c.loop-index-test.false, l)))))

-- one word more that is 0
zero_too : (words : List ℕ) (index : ℕ) → ((j : ℕ) → j < index → get_or words j 0 ≡ 0) →
    get_or words index 0 ≡ 0 → (j : ℕ) → j < index + 1 → get_or words j 0 ≡ 0
zero_too words index before zero j l = elim (cases_eq j index) [
  | inl e ↦ rw e zero
  | inr e ↦ before j (omega (arith, e))
]

-- This word has no lowest bit, so it is 0 as those before.
pub loop-index-preserved : goal.loop-index-preserved
loop-index-preserved c = zero_too c.self.inside.words c.loop-index.index c.loop-index.invariant c.in_default.ensures
