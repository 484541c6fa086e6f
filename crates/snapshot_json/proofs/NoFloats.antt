-- A snapshot's JSON has no float.
use Rattle.std.proofs.Common.{◌≡◌, ℕ, false, List, [], ◌∷◌, Option, None, Some, map, refl}
use Rattle.commons.specs.declared.limits.Limits.{Limits}
use Rattle.commons.specs.declared.limits.PutRule.{PutRule}
use Rattle.commons.specs.declared.limits.PutRule.TheVariants.{Keep, Whole}
use Rattle.commons.specs.declared.packet.Seg.{Seg}
use Rattle.statement_text.specs.StatementData.{base_data, count_data, counts_data, seg_data}
use Rattle.pool_statement.specs.declared.guest.Guest.{Guest}
use Rattle.serde_json.specs.Data.{Data}
use Rattle.serde_json.specs.View.{items_of}
use Rattle.serde_json.specs.Written.{has_float, items_have_float}
use Rattle.snapshot.specs.declared.snapshot.ShareData.{ShareData}
use Rattle.snapshot.specs.declared.snapshot.Snapshot.{Snapshot}
use Rattle.snapshot_json.specs.SnapshotData.{common_data, guest_data, guests_data, limits_data, place_data, places_data, rule_data, share_data, shares_data, snapshot_data}

-- a list has none where no item has
items_whole : {X : Type 0} (f : X → Data) → ((x : X) → has_float (f x) ≡ false) → (xs : List X) →
    items_have_float (items_of (map f xs)) ≡ false
items_whole f each [] = refl
items_whole f each (x ∷ xs) = rw (each x, items_whole f each xs) refl

counts_whole : (ns : List ℕ) → has_float (counts_data ns) ≡ false
counts_whole = items_whole count_data (λ n. refl)

-- a base is a whole number or null
base_whole : (base : Option ℕ) → has_float (base_data base) ≡ false
base_whole None = refl
base_whole (Some e) = refl

seg_whole : (seg : Seg) → has_float (seg_data seg) ≡ false
seg_whole seg = rw (base_whole seg.base) refl

place_whole : (place : Option (List Seg)) → has_float (place_data place) ≡ false
place_whole None = refl
place_whole (Some segs) = items_whole seg_data seg_whole segs

places_whole : (places : List (Option (List Seg))) → has_float (places_data places) ≡ false
places_whole = items_whole place_data place_whole

share_whole : (share : ShareData) → has_float (share_data share) ≡ false
share_whole share = rw (counts_whole share.cache, places_whole share.slots) refl

shares_whole : (shares : List ShareData) → has_float (shares_data shares) ≡ false
shares_whole = items_whole share_data share_whole

guests_whole : (guests : List Guest) → has_float (guests_data guests) ≡ false
guests_whole = items_whole guest_data (λ guest. refl)

rule_whole : (rule : PutRule) → has_float (rule_data rule) ≡ false
rule_whole Keep = refl
rule_whole Whole = refl

limits_whole : (l : Limits) → has_float (limits_data l) ≡ false
limits_whole l = rw (rule_whole l.put_rule) refl

-- no part of a snapshot has a float: all its numbers are whole
pub snapshot_whole : (s : Snapshot) → has_float (snapshot_data s) ≡ false
snapshot_whole s = rw (
  counts_whole s.counts,
  places_whole s.desks,
  guests_whole s.guests,
  limits_whole s.limits,
  counts_whole s.links,
  shares_whole s.shares,
) refl

pub common_whole : (s : Snapshot) (common : List ℕ) → has_float (common_data s common) ≡ false
common_whole s common = rw (
  counts_whole common,
  counts_whole s.counts,
  places_whole s.desks,
  guests_whole s.guests,
  limits_whole s.limits,
  shares_whole s.shares,
) refl
