-- What the steps of attaching and cloning do. No public clause cites this module.
use Rattle.std.specs.Prelude.{ℕ, ◌≡◌, ◌≢◌, ◌<◌, ◌+◌, ◌⊎◌, List, [], ◌∷◌, map, slice_index_or, slice_set, Option, Some, None, Result, Ok, Err, OnOk, OnErr}
use Rattle.commons.specs.Bag.{bag}
use Rattle.commons.specs.declared.limits.Limits.{Limits}
use Rattle.commons.specs.declared.packet.Seg.{Seg}
use Rattle.commons.specs.declared.refusal.Refusal.{Refusal}
use Rattle.commons.specs.declared.refusal.Refusal.TheVariants.{InUse}
use Rattle.commons.specs.Calls.{Reading, Call, Calls, CountOf, Raise, Side}
use Rattle.commons.specs.Packets.{hold_of, holds_of_packet, holds_of_seg}
use Rattle.mempool.specs.WorkerCache.{KeepsNumber, WorkerCache}
use Rattle.mbuf.specs.Members.{slots}
use Rattle.mbuf.specs.Sharing.{attached, buffer_of, ClonesSeg, ClonesSegs, GivesUp, StopsCloning}
use Rattle.mbuf.specs.declared.clones.Stop.{Stop}

-- an element is attached to a segment's buffer, or isn't
abbrev pub AttachesElem : ℕ → Seg → List Call → Result Seg Refusal → Type 0
AttachesElem e target calls (Ok new) =
    (calls ≡ CountOf e 1 ∷ Raise (buffer_of target) (Ok tt) ∷ []) × (new ≡ attached e target)
AttachesElem e target calls (Err cause) =
    ((n : ℕ) × (n ≢ 1) × (calls ≡ CountOf e n ∷ []) × (cause ≡ InUse))
    ⊎ (calls ≡ CountOf e 1 ∷ Raise (buffer_of target) (Err cause) ∷ [])

-- a segment is cloned, or isn't
abbrev pub TriesSeg : Limits → Seg → List ℕ → List Call → Result Seg Stop → List ℕ → Type 0
TriesSeg l seg cache calls (Ok new) left = ClonesSeg l seg cache calls new left
TriesSeg l seg cache calls (Err stop) left = StopsCloning l seg cache calls stop.cause stop.over left

-- what is held then that wasn't before
abbrev pub new_holds : Result Seg Stop → List ℕ
new_holds (Ok new) = holds_of_seg new
new_holds (Err stop) = hold_of stop.over

-- the elements that are headers then and weren't before
abbrev pub new_headers : Result Seg Stop → List ℕ
new_headers (Ok new) = new.elem ∷ []
new_headers (Err stop) = hold_of stop.over

-- segments are cloned, or given up
abbrev pub TriesSegs : Limits → List Seg → List ℕ → List Call → List Seg →
    Result (Unit {0}) Refusal → List ℕ → Type 0
TriesSegs l segs cache calls new (Ok _) left = ClonesSegs l segs cache calls new left
TriesSegs l segs cache calls new (Err cause) left = GivesUp l segs cache calls cause left

-- The segments of one of these packets were cloned into another of them, all or none, by the calls
-- of that rule. The worker's hand is its cache. Once all are cloned, the clone's holds and headers
-- came on top, and what became a header wasn't held before; else holds and headers are as before.
pub record ClonedPacket {S : Type 0} (did : S → Call → List Reading → S → Type 0) (side : S → Side)
    (source slot : ℕ) (old : WorkerCache) (stood : List (List Seg)) (before : S)
    (answer : Result (Unit {0}) Refusal) (new : WorkerCache) (stand : List (List Seg)) (after : S)
    : Type 0 where
  pub calls : Calls did side before after (λ calls.
      TriesSegs old.limits (slice_index_or stood source []) old.cache calls
      (slice_index_or stand slot []) answer new.cache)
  pub packets : stand ≡ slice_set stood slot (slice_index_or stand slot [])
  pub hand : (i : ℕ) → (side after).hand i ≡ bag new.cache i
  pub holds : OnOk answer ((i : ℕ) →
      (side after).holds i ≡ (side before).holds i + bag (holds_of_packet (slice_index_or stand slot [])) i)
  pub headers : OnOk answer ((i : ℕ) →
      (side after).headers i
      ≡ (side before).headers i + bag (map (λ (seg : Seg). seg.elem) (slice_index_or stand slot [])) i)
  pub unheld : OnOk answer ((i : ℕ) →
      0 < bag (map (λ (seg : Seg). seg.elem) (slice_index_or stand slot [])) i → (side before).holds i ≡ 0)
  pub holds_err : OnErr answer ((i : ℕ) → (side after).holds i ≡ (side before).holds i)
  pub headers_err : OnErr answer ((i : ℕ) → (side after).headers i ≡ (side before).headers i)
  pub limits : (side after).limits ≡ (side before).limits
  pub number : KeepsNumber old new

-- A packet of one direct segment of this element stands in one slot, and a packet that begins with
-- this segment in the other.
pub record ArePair (table : List (Option (List Seg))) (mi target : ℕ) (pair : ℕ × Seg) : Type 0 where
  pub own : Seg
  pub others : List Seg
  pub here : slice_index_or table mi None ≡ Some (own ∷ [])
  pub elem : own.elem ≡ pair.0
  pub direct : own.base ≡ None
  pub there : slice_index_or table target None ≡ Some (pair.1 ∷ others)
  pub within : mi < slots

-- a packet of one indirect segment of this element, with this base, stands in the slot
pub record IsIndirect (table : List (Option (List Seg))) (slot : ℕ) (pair : ℕ × ℕ) : Type 0 where
  pub own : Seg
  pub here : slice_index_or table slot None ≡ Some (own ∷ [])
  pub elem : own.elem ≡ pair.0
  pub base : own.base ≡ Some pair.1
  pub within : slot < slots
