-- Foreign clones: packets whose own elements are of a second pool and whose bases are of the first.
-- What they hold, and what is done with them: for each case the calls that are made on either pool
-- with their answers, the answer, and what the worker has afterwards.
use Rattle.std.specs.Prelude.{ℕ, ◌≡◌, ◌≤◌, List, [], ◌∷◌, ◌++◌, flat_map, slice_index_or, slice_set, sum_by, Option, Some, None, Result, Ok, Err}
use Rattle.commons.specs.declared.limits.Limits.{Limits}
use Rattle.commons.specs.declared.packet.Seg.{Seg}
use Rattle.commons.specs.declared.refusal.Refusal.{Refusal}
use Rattle.commons.specs.declared.refusal.Refusal.TheVariants.{NoSuchPacket}
use Rattle.commons.specs.Bag.{bag}
use Rattle.commons.specs.Calls.{Call, Calls, Claim, Raise, Reading, Side}
use Rattle.commons.specs.Packets.{hold_of, own_in}
use Rattle.mempool.specs.Caches.{Gets}
use Rattle.mbuf.specs.Members.{Member}
use Rattle.mbuf.specs.PacketRules.{EndsHold, EndsHolds, free_slot, freed_nothing}
use Rattle.mbuf.specs.Sharing.{attached, buffer_of, clonable}
use Rattle.mbuf.specs.declared.freed.Freed.{Freed}

-- ---- what foreign clones hold

-- the bases of a packet, in the order of its segments
abbrev pub bases_of_packet : List Seg → List ℕ
bases_of_packet segs = flat_map (λ seg. hold_of seg.base) segs

-- the bases of what is in a slot
abbrev pub bases_in_slot : Option (List Seg) → List ℕ
bases_in_slot None = []
bases_in_slot (Some segs) = bases_of_packet segs

-- how often the packets of a table use the buffer of an element
abbrev pub bases_in : List (Option (List Seg)) → ℕ → ℕ
bases_in table i = sum_by (λ slot. bag (bases_in_slot slot) i) table

-- Foreign clones are a worker's own in the second pool: both are of that pool; the cache is the
-- worker's hand; the clones' own elements, and they alone, are what the worker holds there, and
-- they are headers of it.
pub record OwnForeign (m : Member) (s : Side) : Type 0 where
  pub limits : m.limits ≡ s.limits
  pub cached : (i : ℕ) → s.hand i ≡ bag m.cache i
  pub held : (i : ℕ) → s.holds i ≡ own_in m.table i
  pub headed : (i : ℕ) → own_in m.table i ≤ s.headers i

-- ---- calls on two pools

-- calls led from one state to another on either pool, and this is so of those on the first and
-- those on the second
abbrev pub BothCalls : {S T : Type 0} → (S → Call → List Reading → S → Type 0) → (S → Side) → S → S →
    (T → Call → List Reading → T → Type 0) → (T → Side) → T → T →
    (List Call → List Call → Type 0) → Type 0
BothCalls first_did first_side s after second_did second_side t later rule =
    Calls first_did first_side s after (λ firsts. Calls second_did second_side t later (λ seconds. rule firsts seconds))

-- ---- freeing

-- what the end of a foreign clone's segment does: its base's hold ends in the first pool, and then
-- its own element's in the second
pub record EndsForeignSeg (first_limits second_limits : Limits) (seg : Seg)
    (first_cache second_cache : List ℕ) (freed : Freed) (firsts seconds : List Call)
    (first_left second_left : List ℕ) (done : Freed) : Type 0 where
  pub so_far : Freed
  pub base : EndsHolds first_limits (hold_of seg.base) first_cache freed firsts first_left so_far
  pub own : EndsHold second_limits seg.elem second_cache so_far seconds second_left done

-- one segment after another ends
abbrev pub EndsForeign : Limits → Limits → List Seg → List ℕ → List ℕ → Freed → List Call → List Call →
    List ℕ → List ℕ → Freed → Type 0
EndsForeign l k [] first_cache second_cache freed firsts seconds first_left second_left done =
    (firsts ≡ []) × (seconds ≡ []) × (first_left ≡ first_cache) × (second_left ≡ second_cache)
    × (done ≡ freed)
EndsForeign l k (seg ∷ segs) first_cache second_cache freed firsts seconds first_left second_left done =
    (first : List Call) × (first_others : List Call) × (second : List Call)
    × (second_others : List Call) × (first_between : List ℕ) × (second_between : List ℕ)
    × (so_far : Freed) × (firsts ≡ first ++ first_others) × (seconds ≡ second ++ second_others)
    × EndsForeignSeg l k seg first_cache second_cache freed first second first_between
    second_between so_far
    × EndsForeign l k segs first_between second_between so_far first_others second_others
    first_left second_left done

-- what a free of the foreign clone in a slot does, by what the worker has of either pool
pub data FreesForeign (first second : Member) (slot : ℕ) (firsts seconds : List Call)
    (answer : Result Freed Refusal) (first_after second_after : Member) : Type 0 where
  -- the slot is empty, or there is none of this number
  NoClone :
      slice_index_or second.table slot None ≡ None →
      firsts ≡ [] →
      seconds ≡ [] →
      answer ≡ Err NoSuchPacket →
      first_after ≡ first →
      second_after ≡ second →
      FreesForeign first second slot firsts seconds answer first_after second_after
  -- the clone's segments end in order, and its slot is free
  CloneFreed :
      (segs : List Seg) (first_left second_left : List ℕ) (done : Freed) →
      slice_index_or second.table slot None ≡ Some segs →
      EndsForeign first.limits second.limits segs first.cache second.cache freed_nothing firsts
      seconds first_left second_left done →
      answer ≡ Ok done →
      first_after ≡ record first { cache = first_left } →
      second_after ≡ record second {
        cache = second_left;
        table = slice_set second.table slot None;
      } →
      FreesForeign first second slot firsts seconds answer first_after second_after

-- ---- cloning

-- A segment is cloned: an element of the second pool is got by a get of one and claimed, and the
-- count of the segment's buffer is raised in the first pool.
pub record ClonesForeignSeg (l : Limits) (seg : Seg) (cache : List ℕ) (firsts seconds : List Call)
    (new : Seg) (left : List ℕ) : Type 0 where
  pub elem : ℕ
  pub get : List Call
  pub got : Gets l cache 1 get (Ok (elem ∷ [])) left
  pub raised : firsts ≡ Raise (buffer_of seg) (Ok tt) ∷ []
  pub claimed : seconds ≡ get ++ Claim elem ∷ []
  pub is : new ≡ attached elem seg

-- a segment isn't cloned, for this cause, and perhaps an element is left over that was claimed for
-- it
pub data StopsForeign (l : Limits) (seg : Seg) (cache : List ℕ) (firsts seconds : List Call)
    (cause : Refusal) (over : Option ℕ) (left : List ℕ) : Type 0 where
  -- the get is refused in the second pool
  NoForeignElement :
      firsts ≡ [] →
      Gets l cache 1 seconds (Err cause) cache →
      over ≡ None →
      left ≡ cache →
      StopsForeign l seg cache firsts seconds cause over left
  -- the raise is in the first
  NoForeignRaise :
      (elem : ℕ) (get : List Call) →
      firsts ≡ Raise (buffer_of seg) (Err cause) ∷ [] →
      Gets l cache 1 get (Ok (elem ∷ [])) left →
      seconds ≡ get ++ Claim elem ∷ [] →
      over ≡ Some elem →
      StopsForeign l seg cache firsts seconds cause over left

-- segments are cloned in order
abbrev pub ClonesForeign : Limits → List Seg → List ℕ → List Call → List Call → List Seg → List ℕ → Type 0
ClonesForeign l [] cache firsts seconds new left =
    (firsts ≡ []) × (seconds ≡ []) × (new ≡ []) × (left ≡ cache)
ClonesForeign l (seg ∷ segs) cache firsts seconds new left =
    (first : List Call) × (first_others : List Call) × (second : List Call)
    × (second_others : List Call) × (between : List ℕ) × (one : Seg) × (more : List Seg)
    × (firsts ≡ first ++ first_others) × (seconds ≡ second ++ second_others) × (new ≡ one ∷ more)
    × ClonesForeignSeg l seg cache first second one between
    × ClonesForeign l segs between first_others second_others more left

-- the calls on either pool that clone segments, those that stop it, those that free the clones, and
-- that which puts an element back that is left over
pub record GivingUp : Type 0 where
  pub first_clone : List Call
  pub second_clone : List Call
  pub first_stop : List Call
  pub second_stop : List Call
  pub first_end : List Call
  pub second_end : List Call
  pub over_end : List Call

-- A segment isn't cloned: the clones so far are freed in order, and then an element that is left
-- over is put back into the second pool.
pub record GivesUpForeign (l k : Limits) (segs : List Seg) (first_cache second_cache : List ℕ)
    (firsts seconds : List Call) (cause : Refusal) (first_left second_left : List ℕ) : Type 0 where
  pub cloned : List Seg
  pub seg : Seg
  pub others : List Seg
  pub whole : segs ≡ cloned ++ seg ∷ others
  pub calls : GivingUp
  pub first_called : firsts ≡ calls.first_clone ++ calls.first_stop ++ calls.first_end
  pub second_called : seconds
      ≡ calls.second_clone ++ calls.second_stop ++ calls.second_end ++ calls.over_end
  pub new : List Seg
  pub kept : List ℕ
  pub clones : ClonesForeign k cloned second_cache calls.first_clone calls.second_clone new kept
  pub over : Option ℕ
  pub stopped : List ℕ
  pub stops : StopsForeign k seg kept calls.first_stop calls.second_stop cause over stopped
  pub between : List ℕ
  pub freed : Freed
  pub ended : EndsForeign l k new first_cache stopped freed_nothing calls.first_end
      calls.second_end first_left between freed
  pub done : Freed
  pub over_ended : EndsHolds k (hold_of over) between freed calls.over_end second_left done

-- what a clone of the packet in a slot into the second pool does, by what the worker has of either
-- pool
pub data ClonesInto (first second : Member) (source : ℕ) (firsts seconds : List Call)
    (answer : Result ℕ Refusal) (first_after second_after : Member) : Type 0 where
  -- there is no packet, or no free slot: nothing is asked for
  CantClone :
      (cause : Refusal) →
      clonable (slice_index_or first.table source None) (free_slot second.table) ≡ Err cause →
      firsts ≡ [] →
      seconds ≡ [] →
      answer ≡ Err cause →
      first_after ≡ first →
      second_after ≡ second →
      ClonesInto first second source firsts seconds answer first_after second_after
  -- a get or a raise is refused
  CloneGivenUp :
      (segs : List Seg) (slot : ℕ) →
      clonable (slice_index_or first.table source None) (free_slot second.table) ≡ Ok (segs, slot) →
      (cause : Refusal) (first_left second_left : List ℕ) →
      GivesUpForeign first.limits second.limits segs first.cache second.cache firsts seconds cause
      first_left second_left →
      answer ≡ Err cause →
      first_after ≡ record first { cache = first_left } →
      second_after ≡ record second { cache = second_left } →
      ClonesInto first second source firsts seconds answer first_after second_after
  -- each segment is cloned, and the clone stands in the lowest free slot of the foreign clones
  ClonedInto :
      (segs : List Seg) (slot : ℕ) →
      clonable (slice_index_or first.table source None) (free_slot second.table) ≡ Ok (segs, slot) →
      (new : List Seg) (left : List ℕ) →
      ClonesForeign second.limits segs second.cache firsts seconds new left →
      answer ≡ Ok slot →
      first_after ≡ first →
      second_after ≡ record second {
        cache = left;
        table = slice_set second.table slot (Some new);
      } →
      ClonesInto first second source firsts seconds answer first_after second_after
