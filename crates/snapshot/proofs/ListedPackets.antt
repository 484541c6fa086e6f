-- The statement of a lawful snapshot lists packets and nothing else in slots and on desks.
use Rattle.std.proofs.Common.{ℕ, ◌≡◌, ◌-◌, ◌<◌, inl, inr, List, [], length, get_or, Option, Some, None, sym, subst, ap, ◌∙◌, arith}
use Rattle.std.specs.Prelude.{Contains}
use Rattle.std.proofs.lemmas.List.{get_or-map, length-map}
use Rattle.std.proofs.lemmas.List.Elements.{Contains-get_or}
use Rattle.commons.specs.Packets.{IsPacket}
use Rattle.commons.specs.declared.packet.Seg.{Seg}
use Rattle.commons.proofs.PacketBags.{stands_within}
use Rattle.mbuf.specs.Members.{Member}
use Rattle.pool_model.specs.Pool.{nobody}
use Rattle.pool_model.specs.Sound.{ListsOnlyPackets}
use Rattle.pool_model.specs.Standing.{IsInSlot}
use Rattle.pool_model.proofs.ListedPackets.{listed_in_slots, listed_on_desks}
use Rattle.snapshot.specs.declared.snapshot.ShareData.{ShareData}
use Rattle.snapshot.specs.declared.snapshot.Snapshot.{Snapshot}
use Rattle.snapshot.specs.Snapshots.{HasPacket, IsLawful, member_of, pool_of, statement_in}

-- what stands in a place of a table is in the table
in_table : (table : List (Option (List Seg))) (k : ℕ) (segs : List Seg) → get_or table k None ≡ Some segs →
    Contains table (Some segs)
in_table table k segs there =
    subst (Contains table) there (Contains-get_or table k None (stands_within table k segs there))

-- a share of nobody
no_share : ShareData
no_share = record { worker = 0; cache = []; slots = [] }

-- a packet in a slot of a worker of the pool that is shown is in a share
in_share : (s : Snapshot) (worker slot : ℕ) (segs : List Seg) → IsInSlot (pool_of s) worker slot segs → HasPacket s segs
in_share s worker slot segs stands =
    let n = worker - 1 in
    let share : ShareData = get_or s.shares n no_share in
    let within : n < length s.shares = omega (arith, stands.0, length-map s.shares (member_of s)) in
    let shown : get_or (pool_of s).members n (nobody s.limits) ≡ member_of s share =
    get_or-map (member_of s) s.shares n no_share (nobody s.limits) within in
    let there : get_or share.slots slot None ≡ Some segs =
    sym (ap (λ (m : Member). get_or m.table slot None) shown) ∙ stands.1 in
    inr (share, Contains-get_or s.shares n no_share within, in_table share.slots slot segs there)

-- so each that is listed is a packet
pub lawful_lists_packets : (s : Snapshot) → IsLawful s → ListsOnlyPackets (statement_in s)
lawful_lists_packets s h = record {
  in_slots = listed_in_slots IsPacket (pool_of s)
      (λ worker slot segs stands. h.packets segs (in_share s worker slot segs stands));
  on_desks = listed_on_desks IsPacket 0 s.desks
      (λ k segs there. h.packets segs (inl (in_table s.desks k segs there)));
}
