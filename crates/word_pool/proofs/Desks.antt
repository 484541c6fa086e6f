-- What lies on full desks, as the packets that a ground left on its desks.
use Rattle.std.proofs.Common.{ℕ, ◌≡◌, List, [], map, Option, None, Bool, true, false, refl, ap, ◌∙◌}
use Rattle.std.specs.Prelude.{sum_by, ◌==◌, if◌then◌else◌}
use Rattle.commons.specs.Bag.{bag}
use Rattle.commons.specs.Calls.{desk_full}
use Rattle.commons.specs.declared.packet.Seg.{Seg}
use Rattle.commons.specs.Packets.{held_in, holds_in_slot, own_in, own_in_slot}
use Rattle.ground.specs.Closing.{packet_on}
use Rattle.pool_model.proofs.Listed.{sum_by-map}
use Rattle.step_core.specs.declared.view.Desk.{Desk}
use Rattle.step_core.specs.Headers.{own_shelf}
use Rattle.step_core.specs.World.{shelf}

-- what is read of a slot, where the test holds, is what is read of a full one
if_full : (read : Option (List Seg) → List ℕ) → read None ≡ [] → (full : Bool) (slot : Option (List Seg)) (i : ℕ) →
    bag (read (if full then slot else None)) i ≡ bag (if full then read slot else []) i
if_full read none true slot i = refl
if_full read none false slot i = ap (λ (xs : List ℕ). bag xs i) none

-- sums of what is the same of each desk are the same
each_same : (f g : Desk → ℕ) (desks : List Desk) → ((d : Desk) → f d ≡ g d) → sum_by f desks ≡ sum_by g desks
each_same f g desks same = λ j. sum_by (λ d. same d j) desks

-- these packets hold what full desks hold
pub shelves_held : (desks : List Desk) (i : ℕ) → held_in (map packet_on desks) i ≡ sum_by (λ d. bag (shelf d) i) desks
shelves_held desks i =
    sum_by-map (λ (slot : Option (List Seg)). bag (holds_in_slot slot) i) packet_on desks
    ∙ each_same (λ (d : Desk). bag (holds_in_slot (packet_on d)) i) (λ (d : Desk). bag (shelf d) i) desks
    (λ d. if_full holds_in_slot refl (d.word == desk_full) d.slot i)

-- and their own elements are those on full desks
pub shelves_own : (desks : List Desk) (i : ℕ) → own_in (map packet_on desks) i ≡ sum_by (λ d. bag (own_shelf d) i) desks
shelves_own desks i =
    sum_by-map (λ (slot : Option (List Seg)). bag (own_in_slot slot) i) packet_on desks
    ∙ each_same (λ (d : Desk). bag (own_in_slot (packet_on d)) i) (λ (d : Desk). bag (own_shelf d) i) desks
    (λ d. if_full own_in_slot refl (d.word == desk_full) d.slot i)
