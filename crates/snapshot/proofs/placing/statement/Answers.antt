use Rattle.std.proofs.Common.{◌≡◌, ◌+◌, refl, ap, length, map, flat_map, sum_by, List, sym, ◌∙◌, arith}
use Rattle.std.proofs.lemmas.List.{length-map}
use Rattle.pool_model.specs.Statements.{desks_from, packets_from, packets_of}
use Rattle.mbuf.specs.Members.{Member}
use Rattle.std.proofs.lemmas.List.Folds.{flat_map-map}
use Rattle.std.proofs.lemmas.Simd.{map-map}
use Rattle.snapshot.specs.declared.snapshot.ShareData.{ShareData}
use Rattle.snapshot.specs.inside.Adding.{entry_of, held_of}
use Rattle.snapshot.specs.Snapshots.{member_of, pool_of, walk}
use Rattle.snapshot.proofs.MappedSums.{sum_by-map}
use Rattle.snapshot.proofs.PlacedShares.{caches_short}
use Rattle.snapshot.proofs.placing.statement.Goals as goal

-- each element is in a cache once at most
pub in_caches-requires : goal.in_caches-requires
in_caches-requires c = rw c.as_slice-shares.ensures (caches_short c.args.snapshot.now c.requires.pool c.requires.lawful)

-- walk and caches have no more elements than the pool
pub overflow_add-result : goal.overflow_add-result
overflow_add-result c =
    let s = c.args.snapshot.now in
    let caches = rw c.as_slice-shares.ensures at c.in_caches.ensures in
    omega (
      arith,
      caches,
      caches_short s c.requires.pool c.requires.lawful,
      c.len.ensures,
      ap length c.requires.walk,
      c.requires.lawful.ends,
      c.requires.pool.population,
    )

-- each part is what its call answered
pub returns : goal.returns
returns c =
    let s = c.args.snapshot.now in
    let pool = pool_of s in
    let cached = rw c.as_slice-shares.ensures at c.in_caches.ensures in
    let sum = sum_by-map (λ (m : Member). length m.cache) (member_of s) s.shares in
    let available : c.len.result + c.in_caches.result
    ≡ length (walk s) + sum_by (λ (m : Member). length m.cache) pool.members =
    omega (arith, c.len.ensures, c.args.common.ok, ap length c.requires.walk, cached, sum) in
    let in_use =
    c.len-2.ensures ∙ ap length c.in_ok-held.ensures
    ∙ length-map (held_of s) (entry_of s) in
    let common = c.new.ensures ∙ c.requires.walk in
    let caches = c.in_ok-caches.ensures ∙ ap (λ (shares : List ShareData). map
    (λ (share : ShareData). share.cache) shares) c.as_slice-shares.ensures
    ∙ sym (map-map (λ (m : Member). m.cache) (member_of s) s.shares) in
    let packets = c.in_ok-packets.ensures
    ∙ ap (λ (shares : List ShareData). flat_map
    (λ (share : ShareData). packets_from share.worker 0 share.slots) shares)
    c.as_slice-shares.ensures ∙ sym (flat_map-map packets_of (member_of s) s.shares) in
    let desks = c.in_ok-desks.ensures ∙ ap (desks_from 0) c.as_slice.ensures in
    rw (available, in_use, common, caches, packets, desks, c.in_ok-held.ensures) refl
