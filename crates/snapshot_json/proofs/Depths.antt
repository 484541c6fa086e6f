-- How deep a snapshot's JSON nests.
use Rattle.std.proofs.Common.{ℕ, ◌≤◌, List, [], ◌∷◌, Option, None, Some, map, arith}
use Rattle.commons.specs.declared.limits.Limits.{Limits}
use Rattle.commons.specs.declared.limits.PutRule.{PutRule}
use Rattle.commons.specs.declared.limits.PutRule.TheVariants.{Keep, Whole}
use Rattle.commons.specs.declared.packet.Seg.{Seg}
use Rattle.statement_text.specs.StatementData.{base_data, count_data, counts_data, seg_data}
use Rattle.pool_statement.specs.declared.guest.Guest.{Guest}
use Rattle.serde_json.specs.Data.{Data, depth, items_depth}
use Rattle.serde_json.specs.View.{items_of}
use Rattle.snapshot.specs.declared.snapshot.ShareData.{ShareData}
use Rattle.snapshot.specs.declared.snapshot.Snapshot.{Snapshot}
use Rattle.snapshot_json.specs.SnapshotData.{common_data, guest_data, guests_data, limits_data, place_data, places_data, rule_data, share_data, shares_data, snapshot_data}

-- a list nests one deeper than its items
items_low : {X : Type 0} (n : ℕ) (f : X → Data) → ((x : X) → depth (f x) ≤ n) → (xs : List X) →
    items_depth (items_of (map f xs)) ≤ n
items_low n f each [] = omega arith
items_low n f each (x ∷ xs) = omega (arith, each x, items_low n f each xs)

counts_low : (ns : List ℕ) → depth (counts_data ns) ≤ 1
counts_low ns = omega (arith, items_low 0 count_data (λ n. omega arith) ns)

-- a base is a number or null, and nests nothing
base_low : (base : Option ℕ) → depth (base_data base) ≤ 0
base_low None = omega arith
base_low (Some e) = omega arith

seg_low : (seg : Seg) → depth (seg_data seg) ≤ 1
seg_low seg = omega (arith, base_low seg.base)

place_low : (place : Option (List Seg)) → depth (place_data place) ≤ 2
place_low None = omega arith
place_low (Some segs) = omega (arith, items_low 1 seg_data seg_low segs)

places_low : (places : List (Option (List Seg))) → depth (places_data places) ≤ 3
places_low places = omega (arith, items_low 2 place_data place_low places)

share_low : (share : ShareData) → depth (share_data share) ≤ 4
share_low share = omega (arith, counts_low share.cache, places_low share.slots)

shares_low : (shares : List ShareData) → depth (shares_data shares) ≤ 5
shares_low shares = omega (arith, items_low 4 share_data share_low shares)

guests_low : (guests : List Guest) → depth (guests_data guests) ≤ 2
guests_low guests = omega (arith, items_low 1 guest_data (λ guest. omega arith) guests)

rule_low : (rule : PutRule) → depth (rule_data rule) ≤ 0
rule_low Keep = omega arith
rule_low Whole = omega arith

limits_low : (l : Limits) → depth (limits_data l) ≤ 1
limits_low l = omega (arith, rule_low l.put_rule)

-- the deepest are segments: objects in a list in a share's list, itself in a list of the whole
pub snapshot_low : (s : Snapshot) → depth (snapshot_data s) ≤ 6
snapshot_low s = omega (
  arith,
  counts_low s.counts,
  places_low s.desks,
  guests_low s.guests,
  limits_low s.limits,
  counts_low s.links,
  shares_low s.shares,
)

pub common_low : (s : Snapshot) (common : List ℕ) → depth (common_data s common) ≤ 6
common_low s common = omega (
  arith,
  counts_low common,
  counts_low s.counts,
  places_low s.desks,
  guests_low s.guests,
  limits_low s.limits,
  shares_low s.shares,
)
