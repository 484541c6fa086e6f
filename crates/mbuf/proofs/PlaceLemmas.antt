-- The slots of a `Packets`: where a packet stands, which is the lowest free one, and what the table
-- shows once one of them changes.
use Rattle.std.proofs.Common.{◌≡◌, ℕ, ◌<◌, Bool, true, false, List, length, [], get_or, set, Option, Some, None, Ok, refl, sym, ap, subst, ◌∙◌, arith}
use Rattle.std.specs.Prelude.{IsSome, position}
use Rattle.std.proofs.lemmas.List.{get_or_default}
use Rattle.std.proofs.lemmas.List.Quantifiers.{position-Some}
use Rattle.commons.specs.declared.packet.Seg.{Seg}
use Rattle.mempool.specs.WorkerCache.{WorkerCache, KeepsNumber}
use Rattle.mbuf.specs.declared.packets.Packets.TheInside.{Inside}
use Rattle.mbuf.specs.inside.Kept.{IsKept, member_of, shown}
use Rattle.mbuf.specs.Members.{Member, slots}
use Rattle.mbuf.specs.PacketRules.{free_slot}
use Rattle.mbuf.specs.Sharing.{clonable}
use Rattle.mbuf.proofs.DeskLemmas.{set_back}
use Rattle.mbuf.proofs.TableLemmas.{free_slot-shown, member_is, shown_some, shown-set, shown_hidden, shown-packet, shown-emptied}

-- there are as many packets as flags
pub alike : (p : Inside) → IsKept p → length p.packets.items ≡ length p.free
alike p kept = kept.packets ∙ sym kept.flags

-- a slot where a packet stands: the table shows what lies there
pub record LiesIn (p : Inside) (slot : ℕ) : Type 0 where
  pub within : slot < length p.free
  pub there : get_or (member_of p).table slot None ≡ Some (get_or p.packets.items slot [])

-- A slot that was found by the packet's number, and that shows something, is such a slot.
pub standing : (p : Inside) (slot number : ℕ) → IsKept p →
    (slot ≡ number) × (slot < slots) × IsSome (get_or (member_of p).table number None) →
    LiesIn p slot
standing p slot number kept at =
    let within : slot < length p.free = omega (arith, at.1, kept.flags) in
    record {
      within = within;
      there =
          shown_some p.free p.packets.items slot within (alike p kept) (rw (sym at.0) at at.2);
    }

-- the lowest free slot
pub record IsLowest (p : Inside) (slot : ℕ) : Type 0 where
  pub free : free_slot (member_of p).table ≡ Some slot
  pub within : slot < length p.free
  pub flag : get_or p.free slot false ≡ true

-- The first flag that is up is that of the lowest free slot.
pub lowest : (p : Inside) (slot : ℕ) → IsKept p → Some slot ≡ position (λ (b : Bool). b) p.free →
    IsLowest p slot
lowest p slot kept e =
    let up = position-Some (λ (b : Bool). b) p.free slot false (sym e) in
    record {
      free = free_slot-shown p.free p.packets.items (alike p kept) ∙ sym e;
      within = up.0;
      flag = up.1;
    }

-- The flag of the table's lowest free slot is the first that is up.
pub lowest_of : (p : Inside) (slot : ℕ) → IsKept p → free_slot (member_of p).table ≡ Some slot →
    IsLowest p slot
lowest_of p slot kept e =
    lowest p slot kept (sym (sym (free_slot-shown p.free p.packets.items (alike p kept)) ∙ e))

-- Once the slot is taken, it shows the packet that was laid there, and nothing else changes.
pub filled : (p : Inside) (w : WorkerCache) (flags : List Bool) (packets : List (List Seg))
    (slot : ℕ) (segs : List Seg) → IsKept p → IsLowest p slot → KeepsNumber p.worker w →
    flags ≡ set p.free slot false → packets ≡ set p.packets.items slot segs →
    ◌≡◌ {A = Member}
    (record { limits = w.limits; number = w.number; cache = w.cache; table = shown flags packets })
    (record (member_of p) {
      cache = w.cache;
      table = set (member_of p).table slot (Some segs);
    })
filled p w flags packets slot segs kept low same taken laid =
    member_is w.limits p.worker.limits w.number p.worker.number w.cache (shown flags packets)
    (set (shown p.free p.packets.items) slot (Some segs)) same.limits same.number
    (rw (taken, laid) (shown-set p.free p.packets.items slot false segs low.within (alike p kept)))

-- With another cache the packets are the same.
pub recached : (p : Inside) (w : WorkerCache) → KeepsNumber p.worker w →
    ◌≡◌ {A = Member}
    (record { limits = w.limits; number = w.number; cache = w.cache; table = shown p.free p.packets.items })
    (record (member_of p) { cache = w.cache })
recached p w same =
    member_is w.limits p.worker.limits w.number p.worker.number w.cache (shown p.free p.packets.items)
    (shown p.free p.packets.items) same.limits same.number refl

-- While the slot is free, it shows nothing of what was laid there.
pub hidden : (p : Inside) (w : WorkerCache) (packets : List (List Seg)) (slot : ℕ)
    (segs : List Seg) → IsLowest p slot → KeepsNumber p.worker w →
    packets ≡ set p.packets.items slot segs →
    ◌≡◌ {A = Member}
    (record { limits = w.limits; number = w.number; cache = w.cache; table = shown p.free packets })
    (record (member_of p) { cache = w.cache })
hidden p w packets slot segs low same laid =
    member_is w.limits p.worker.limits w.number p.worker.number w.cache (shown p.free packets)
    (shown p.free p.packets.items) same.limits same.number
    (rw laid (shown_hidden p.free p.packets.items slot segs low.flag))

-- A packet that stands and a slot that is free are what a clone needs.
pub found : (p : Inside) (source slot : ℕ) → LiesIn p source → IsLowest p slot →
    clonable (get_or (member_of p).table source None) (free_slot (member_of p).table)
    ≡ Ok (get_or p.packets.items source [], slot)
found p source slot src low =
    ap (λ (o : Option (List Seg)). clonable o (free_slot (member_of p).table)) src.there
    ∙ ap (λ (o : Option ℕ). clonable (Some (get_or p.packets.items source [])) o) low.free

-- a slot where this packet stands, which is the one that lies there
pub record Lent (p : Inside) (slot : ℕ) (segs : List Seg) : Type 0 where
  pub within : slot < length p.free
  pub there : get_or (member_of p).table slot None ≡ Some segs
  pub lies : get_or p.packets.items slot segs ≡ segs

-- What is lent from a slot that shows something is the packet that stands there.
pub lent : (p : Inside) (slot number : ℕ) (segs out : List Seg) → IsKept p →
    (slot ≡ number) × (slot < slots) × IsSome (get_or (member_of p).table number None) →
    segs ≡ out → out ≡ get_or p.packets.items slot out → Lent p slot segs
lent p slot number segs out kept at same value =
    let src = standing p slot number kept at in
    let bound : slot < length p.packets.items = omega (arith, src.within, alike p kept) in
    let is : get_or p.packets.items slot [] ≡ segs =
    get_or_default p.packets.items slot [] out bound ∙ sym value ∙ sym same in
    record {
      within = src.within;
      there = src.there ∙ ap (λ (s : List Seg). Some s) is;
      lies = get_or_default p.packets.items slot segs [] bound ∙ is;
    }

-- A packet that changes where it stands is what its slot shows, and nothing else changes.
pub changed : (p : Inside) (w : WorkerCache) (packets : List (List Seg)) (slot : ℕ)
    (old segs : List Seg) → IsKept p → slot < slots →
    get_or (member_of p).table slot None ≡ Some old → KeepsNumber p.worker w →
    packets ≡ set p.packets.items slot segs →
    ◌≡◌ {A = Member}
    (record { limits = w.limits; number = w.number; cache = w.cache; table = shown p.free packets })
    (record (member_of p) {
      cache = w.cache;
      table = set (member_of p).table slot (Some segs);
    })
changed p w packets slot old segs kept within there same laid =
    let some : IsSome (get_or (member_of p).table slot None) =
    subst (λ (o : Option (List Seg)). IsSome o) (sym there) refl in
    member_is w.limits p.worker.limits w.number p.worker.number w.cache (shown p.free packets)
    (set (shown p.free p.packets.items) slot (Some segs)) same.limits same.number
    (rw laid (shown-packet p.free p.packets.items slot segs (omega (arith, within, kept.flags))
    (alike p kept) some))

-- Once the slot is given back it shows nothing, whatever lies there.
pub emptied : (p : Inside) (w : WorkerCache) (flags : List Bool) (packets : List (List Seg))
    (slot : ℕ) (segs : List Seg) → IsKept p → KeepsNumber p.worker w →
    flags ≡ set p.free slot true → packets ≡ set p.packets.items slot segs →
    ◌≡◌ {A = Member}
    (record { limits = w.limits; number = w.number; cache = w.cache; table = shown flags packets })
    (record (member_of p) { cache = w.cache; table = set (member_of p).table slot None })
emptied p w flags packets slot segs kept same given laid =
    member_is w.limits p.worker.limits w.number p.worker.number w.cache (shown flags packets)
    (set (shown p.free p.packets.items) slot None) same.limits same.number
    (rw (given, laid) (shown-emptied p.free p.packets.items slot segs (alike p kept)))

-- A packet that was taken out of its slot and is laid there again is shown as before.
pub returned : (p : Inside) (slot : ℕ) (segs between again : List Seg) → Lent p slot segs →
    again ≡ segs →
    ◌≡◌ {A = Member}
    (record (member_of p)
    { table = shown p.free (set (set p.packets.items slot between) slot again) })
    (member_of p)
returned p slot segs between again stood same =
    ap (λ (packets : List (List Seg)). let m : Member =
    record (member_of p) { table = shown p.free packets } in m)
    (rw same (set_back p.packets.items slot between segs stood.lies))
