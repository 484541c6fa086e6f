-- Calls on two pools as steps of one state of both, so that it is seen which of them come first. No
-- public clause cites this module.
use Rattle.std.specs.Prelude.{ℕ, ◌≡◌, List, [], ◌∷◌}
use Rattle.commons.specs.Calls.{Call, Calls, Reading, Side}
use Rattle.commons.specs.declared.limits.Limits.{Limits}
use Rattle.commons.specs.declared.packet.Seg.{Seg}
use Rattle.commons.specs.Packets.{hold_of}
use Rattle.mbuf.specs.PacketRules.{EndsHold, EndsHolds}
use Rattle.mbuf.specs.declared.freed.Freed.{Freed}

-- A segment of a foreign clone ends: the calls on the first pool that end its base's hold lead from
-- one state of both pools to another, and then those on the second that end its own element's hold
-- lead on from there.
abbrev pub EndsSegInTurn : {S : Type 0} → (S → Call → List Reading → S → Type 0) → (S → Side) →
    (S → Call → List Reading → S → Type 0) → (S → Side) → Limits → Limits → Seg →
    S → List ℕ → List ℕ → Freed → S → List ℕ → List ℕ → Freed → Type 0
EndsSegInTurn {S} first_did first_side second_did second_side l k seg s first_cache second_cache
    freed after first_left second_left done =
    (between : S) × (so_far : Freed)
    × Calls first_did first_side s between (λ firsts.
    EndsHolds l (hold_of seg.base) first_cache freed firsts first_left so_far)
    × Calls second_did second_side between after (λ seconds.
    EndsHold k seg.elem second_cache so_far seconds second_left done)

-- one segment after another ends so
abbrev pub EndsInTurn : {S : Type 0} → (S → Call → List Reading → S → Type 0) → (S → Side) →
    (S → Call → List Reading → S → Type 0) → (S → Side) → Limits → Limits → List Seg →
    S → List ℕ → List ℕ → Freed → S → List ℕ → List ℕ → Freed → Type 0
EndsInTurn first_did first_side second_did second_side l k [] s first_cache second_cache freed
    after first_left second_left done =
    (after ≡ s) × (first_left ≡ first_cache) × (second_left ≡ second_cache) × (done ≡ freed)
EndsInTurn {S} first_did first_side second_did second_side l k (seg ∷ segs) s first_cache
    second_cache freed after first_left second_left done =
    (between : S) × (first_between : List ℕ) × (second_between : List ℕ) × (so_far : Freed)
    × EndsSegInTurn first_did first_side second_did second_side l k seg s first_cache second_cache
    freed between first_between second_between so_far
    × EndsInTurn first_did first_side second_did second_side l k segs between first_between
    second_between so_far after first_left second_left done
