-- What the calls on shared buffers do: a packet that attaches to another's buffer, one that gets
-- its own back, one that is cloned, and one whose count is read. For each case the calls that are
-- made on the shared pool with their answers, the answer, and what the worker has afterwards.
use Rattle.std.specs.Prelude.{ℕ, ◌≡◌, ◌≢◌, ◌==◌, Bool, if◌then◌else◌, List, [], ◌∷◌, ◌++◌, slice_index_or, slice_set, Option, Some, None, Result, Ok, Err, unwrap_or}
use Rattle.commons.specs.declared.limits.Limits.{Limits}
use Rattle.commons.specs.declared.packet.Seg.{Seg}
use Rattle.commons.specs.declared.refusal.Refusal.{Refusal}
use Rattle.commons.specs.declared.refusal.Refusal.TheVariants.{InUse, NoSuchPacket, NotDirect, NotIndirect, PacketsFull, SamePacket, TooManySegs}
use Rattle.commons.specs.Calls.{Call, Claim, CountOf, Raise}
use Rattle.mempool.specs.Caches.{Gets}
use Rattle.commons.specs.Packets.{no_seg, hold_of, holds_of_packet}
use Rattle.mbuf.specs.Members.{Member}
use Rattle.mbuf.specs.PacketRules.{EndsHold, EndsHolds, free_slot, freed_nothing, fresh_seg}
use Rattle.mbuf.specs.declared.freed.Freed.{Freed}

-- the direct element whose buffer a segment uses: its base, or itself
abbrev pub buffer_of : Seg → ℕ
buffer_of seg = unwrap_or seg.base seg.elem

-- a segment of this element that uses the buffer of another, with its lengths
abbrev pub attached : ℕ → Seg → Seg
attached e target = record target { elem = e; base = Some (buffer_of target) }

abbrev pub first_seg : List Seg → Seg
first_seg segs = slice_index_or segs 0 no_seg

-- ---- attaching

-- an element that is direct, with the segment that it shall share a buffer with
abbrev pub if_direct : Option ℕ → ℕ → Seg → Result (ℕ × Seg) Refusal
if_direct None e target = Ok (e, target)
if_direct (Some base) e target = Err NotDirect

-- a packet of one segment, with the first segment of another packet (a packet isn't empty)
abbrev pub if_alone : List Seg → List Seg → Result (ℕ × Seg) Refusal
if_alone (seg ∷ []) (target ∷ others) = if_direct seg.base seg.elem target
if_alone (seg ∷ (other ∷ segs)) targets = Err TooManySegs
if_alone _ _ = Err NoSuchPacket

-- What is to be attached to what, by what is in the two slots and whether they are one: the
-- element of a packet of one direct segment, and another packet's first segment. Else the first
-- cause why not.
abbrev pub attachable : Option (List Seg) → Option (List Seg) → Bool → Result (ℕ × Seg) Refusal
attachable None target same = Err NoSuchPacket
attachable (Some segs) None same = Err NoSuchPacket
attachable (Some segs) (Some target) same = if same then Err SamePacket else if_alone segs target

abbrev pub pair_in : Member → ℕ → ℕ → Result (ℕ × Seg) Refusal
pair_in m mi target =
    attachable (slice_index_or m.table mi None) (slice_index_or m.table target None) (mi == target)

-- what an attach of the packet in the slot mi does
pub data Attaches (m : Member) (mi target : ℕ) (calls : List Call)
    (answer : Result (Unit {0}) Refusal) (after : Member) : Type 0 where
  -- the two can't be attached: nothing is asked for
  NotAttachable :
      (cause : Refusal) →
      pair_in m mi target ≡ Err cause →
      calls ≡ [] →
      answer ≡ Err cause →
      after ≡ m →
      Attaches m mi target calls answer after
  -- the element has other holds
  HeldElsewhere :
      (e n : ℕ) (seg : Seg) →
      pair_in m mi target ≡ Ok (e, seg) →
      n ≢ 1 →
      calls ≡ CountOf e n ∷ [] →
      answer ≡ Err InUse →
      after ≡ m →
      Attaches m mi target calls answer after
  -- the count of the buffer's element isn't raised
  NotRaised :
      (e : ℕ) (seg : Seg) →
      pair_in m mi target ≡ Ok (e, seg) →
      (cause : Refusal) →
      calls ≡ CountOf e 1 ∷ Raise (buffer_of seg) (Err cause) ∷ [] →
      answer ≡ Err cause →
      after ≡ m →
      Attaches m mi target calls answer after
  -- the count of the buffer's element is raised, and the packet has that buffer and its lengths
  WasAttached :
      (e : ℕ) (seg : Seg) →
      pair_in m mi target ≡ Ok (e, seg) →
      calls ≡ CountOf e 1 ∷ Raise (buffer_of seg) (Ok tt) ∷ [] →
      answer ≡ Ok tt →
      after ≡ record m { table = slice_set m.table mi (Some (attached e seg ∷ [])) } →
      Attaches m mi target calls answer after

-- ---- detaching

-- an element with the base whose buffer it uses
abbrev pub if_indirect : Option ℕ → ℕ → Result (ℕ × ℕ) Refusal
if_indirect None e = Err NotIndirect
if_indirect (Some base) e = Ok (e, base)

-- What is to be detached from what, by what is in the slot: the element of a packet of one
-- indirect segment, and its base. Else the first cause why not. (A packet isn't empty.)
abbrev pub detachable : Option (List Seg) → Result (ℕ × ℕ) Refusal
detachable (Some (seg ∷ [])) = if_indirect seg.base seg.elem
detachable (Some (seg ∷ (other ∷ segs))) = Err TooManySegs
detachable _ = Err NoSuchPacket

-- what a detach of the packet in a slot does
pub data Detaches (m : Member) (slot : ℕ) (calls : List Call) (answer : Result Freed Refusal)
    (after : Member) : Type 0 where
  -- the packet can't be detached: nothing is asked for
  NotDetachable :
      (cause : Refusal) →
      detachable (slice_index_or m.table slot None) ≡ Err cause →
      calls ≡ [] →
      answer ≡ Err cause →
      after ≡ m →
      Detaches m slot calls answer after
  -- the hold of the base ends, and the packet has its own buffer, as a fresh one has
  WasDetached :
      (e base : ℕ) →
      detachable (slice_index_or m.table slot None) ≡ Ok (e, base) →
      (left : List ℕ) (done : Freed) →
      EndsHold m.limits base m.cache freed_nothing calls left done →
      answer ≡ Ok done →
      after ≡ record m {
        cache = left;
        table = slice_set m.table slot (Some (fresh_seg m.limits e ∷ []));
      } →
      Detaches m slot calls answer after

-- ---- cloning

-- a segment is cloned: an element is got by a get of one, claimed, and attached
pub record ClonesSeg (l : Limits) (seg : Seg) (cache : List ℕ) (calls : List Call) (new : Seg)
    (left : List ℕ) : Type 0 where
  pub elem : ℕ
  pub get : List Call
  pub got : Gets l cache 1 get (Ok (elem ∷ [])) left
  pub called : calls ≡ get ++ Claim elem ∷ Raise (buffer_of seg) (Ok tt) ∷ []
  pub is : new ≡ attached elem seg

-- a segment isn't cloned, for this cause, and perhaps an element is left over that was claimed for
-- it
pub data StopsCloning (l : Limits) (seg : Seg) (cache : List ℕ) (calls : List Call)
    (cause : Refusal) (over : Option ℕ) (left : List ℕ) : Type 0 where
  -- the get is refused
  NoElement :
      Gets l cache 1 calls (Err cause) cache →
      over ≡ None →
      left ≡ cache →
      StopsCloning l seg cache calls cause over left
  -- the raise is
  NoRaise :
      (elem : ℕ) (get : List Call) →
      Gets l cache 1 get (Ok (elem ∷ [])) left →
      calls ≡ get ++ Claim elem ∷ Raise (buffer_of seg) (Err cause) ∷ [] →
      over ≡ Some elem →
      StopsCloning l seg cache calls cause over left

-- segments are cloned in order
abbrev pub ClonesSegs : Limits → List Seg → List ℕ → List Call → List Seg → List ℕ → Type 0
ClonesSegs l [] cache calls new left = (calls ≡ []) × (new ≡ []) × (left ≡ cache)
ClonesSegs l (seg ∷ segs) cache calls new left =
    (first : List Call) × (others : List Call) × (between : List ℕ) × (one : Seg)
    × (more : List Seg) × (calls ≡ first ++ others) × (new ≡ one ∷ more)
    × ClonesSeg l seg cache first one between × ClonesSegs l segs between others more left

-- A segment isn't cloned: the holds of the clones so far end in order, and then that of an element
-- that is left over.
pub record GivesUp (l : Limits) (segs : List Seg) (cache : List ℕ) (calls : List Call)
    (cause : Refusal) (left : List ℕ) : Type 0 where
  pub cloned : List Seg
  pub seg : Seg
  pub others : List Seg
  pub whole : segs ≡ cloned ++ seg ∷ others
  pub so_far : List Call
  pub stop : List Call
  pub ends : List Call
  pub called : calls ≡ so_far ++ stop ++ ends
  pub new : List Seg
  pub kept : List ℕ
  pub clones : ClonesSegs l cloned cache so_far new kept
  pub over : Option ℕ
  pub stopped : List ℕ
  pub stops : StopsCloning l seg kept stop cause over stopped
  pub done : Freed
  pub ended : EndsHolds l (holds_of_packet new ++ hold_of over) stopped freed_nothing ends left done

-- The segments to be cloned and the slot of their clone, by what is in the packet's slot and the
-- lowest free one.
abbrev pub clonable : Option (List Seg) → Option ℕ → Result (List Seg × ℕ) Refusal
clonable None slot = Err NoSuchPacket
clonable (Some segs) None = Err PacketsFull
clonable (Some segs) (Some slot) = Ok (segs, slot)

-- what a clone of the packet in a slot does
pub data Clones (m : Member) (source : ℕ) (calls : List Call) (answer : Result ℕ Refusal)
    (after : Member) : Type 0 where
  -- there is no packet, or no free slot: nothing is asked for
  NotClonable :
      (cause : Refusal) →
      clonable (slice_index_or m.table source None) (free_slot m.table) ≡ Err cause →
      calls ≡ [] →
      answer ≡ Err cause →
      after ≡ m →
      Clones m source calls answer after
  -- a get or a raise is refused
  WasGivenUp :
      (segs : List Seg) (slot : ℕ) →
      clonable (slice_index_or m.table source None) (free_slot m.table) ≡ Ok (segs, slot) →
      (cause : Refusal) (left : List ℕ) →
      GivesUp m.limits segs m.cache calls cause left →
      answer ≡ Err cause →
      after ≡ record m { cache = left } →
      Clones m source calls answer after
  -- each segment is cloned, and the clone stands in the lowest free slot
  WasCloned :
      (segs : List Seg) (slot : ℕ) →
      clonable (slice_index_or m.table source None) (free_slot m.table) ≡ Ok (segs, slot) →
      (new : List Seg) (left : List ℕ) →
      ClonesSegs m.limits segs m.cache calls new left →
      answer ≡ Ok slot →
      after ≡ record m { cache = left; table = slice_set m.table slot (Some new) } →
      Clones m source calls answer after

-- ---- counting

-- what is answered of the count of the packet in a slot: what was read of its first segment's
-- element
abbrev pub CountsOf : Option (List Seg) → List Call → Result ℕ Refusal → Type 0
CountsOf None calls answer = (calls ≡ []) × (answer ≡ Err NoSuchPacket)
CountsOf (Some segs) calls answer =
    (n : ℕ) × (calls ≡ CountOf (first_seg segs).elem n ∷ []) × (answer ≡ Ok n)
