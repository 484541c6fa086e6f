-- How often a snapshot's elements are free, held and named.
use Rattle.std.proofs.Common.{ℕ, ◌≡◌, ◌+◌, List, Option, ap, ◌∙◌, arith}
use Rattle.std.specs.Prelude.{sum_by}
use Rattle.commons.specs.Packets.{held_in}
use Rattle.commons.specs.declared.packet.Seg.{Seg}
use Rattle.mbuf.specs.Members.{Member}
use Rattle.pool_model.specs.Guests.{guest_holds, local_table}
use Rattle.pool_model.specs.Pool.{held_by}
use Rattle.pool_model.proofs.LocalPools.{held_by-local, local-desks}
use Rattle.snapshot.specs.declared.snapshot.Snapshot.{Snapshot}
use Rattle.snapshot.specs.Snapshots.{member_of, own_pool, pool_of, times_held}
use Rattle.snapshot.proofs.MappedSums.{sum_by-map}

-- what the members of a snapshot hold is what its shares do
held-shares : (s : Snapshot) (e : ℕ) →
    held_by (own_pool s).members e ≡ sum_by (λ share. held_in (local_table s.foreign share.slots) e) s.shares
held-shares s e =
    held_by-local s.foreign (pool_of s) e
    ∙ sum_by-map (λ (m : Member). held_in (local_table s.foreign m.table) e) (member_of s) s.shares

-- an element is held for guests, by the packets of the shares and by those on desks
pub held-is : (s : Snapshot) (e : ℕ) →
    times_held s e
    ≡ guest_holds s.guests e
    + (sum_by (λ share. held_in (local_table s.foreign share.slots) e) s.shares
    + held_in (local_table s.foreign s.desks) e)
held-is s e = omega (
  arith,
  held-shares s e,
  ap (λ (desks : List (Option (List Seg))). held_in desks e) (local-desks s.foreign (pool_of s)),
)
