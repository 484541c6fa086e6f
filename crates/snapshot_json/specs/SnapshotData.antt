-- A snapshot as JSON.
use Rattle.std.specs.Prelude.{ℕ, suc, ◌≡◌, ◌⊎◌, ◌<◌, ◌≤◌, ◌^◌, List, [], ◌∷◌, All, Option, None, Some, ⊤, codes, length, map, replicate, slice_set}
use Rattle.serde_json.specs.Data.{Data, null, boolean, array, object, member, no_members}
use Rattle.serde_json.specs.View.{items_of}
use Rattle.serde_json.specs.Written.{compact_text}
use Rattle.commons.specs.Bag.{bag}
use Rattle.commons.specs.Bounds.{max_population}
use Rattle.commons.specs.declared.limits.Limits.{Limits}
use Rattle.commons.specs.declared.limits.PutRule.{PutRule}
use Rattle.commons.specs.declared.limits.PutRule.TheVariants.{Keep, Whole}
use Rattle.commons.specs.declared.packet.Seg.{Seg}
use Rattle.statement_text.specs.StatementData.{count_data, counts_data, segs_data}
use Rattle.pool_statement.specs.declared.guest.Guest.{Guest}
use Rattle.snapshot.specs.declared.snapshot.ShareData.{ShareData}
use Rattle.snapshot.specs.declared.snapshot.Snapshot.{Snapshot}

-- the rule of puts as its number
abbrev pub rule_data : PutRule → Data
rule_data Keep = count_data 0
rule_data Whole = count_data 1

-- limits, their members ascending by key, as those of all objects here
abbrev pub limits_data : Limits → Data
limits_data l =
    object (member (codes "buf") (count_data l.buf)
    (member (codes "cache") (count_data l.cache)
    (member (codes "desks") (count_data l.desks)
    (member (codes "population") (count_data l.population)
    (member (codes "putrule") (rule_data l.put_rule)
    (member (codes "refs") (count_data l.ref_limit)
    (member (codes "start") (count_data l.start_count)
    (member (codes "tries") (count_data l.tries)
    (member (codes "workers") (count_data l.workers) no_members)))))))))

-- a place: the segments of its packet, where one is there
abbrev pub place_data : Option (List Seg) → Data
place_data None = null
place_data (Some segs) = segs_data segs

abbrev pub places_data : List (Option (List Seg)) → Data
places_data places = array (items_of (map place_data places))

abbrev pub share_data : ShareData → Data
share_data share =
    object (member (codes "cache") (counts_data share.cache)
    (member (codes "slots") (places_data share.slots)
    (member (codes "worker") (count_data share.worker) no_members)))

abbrev pub shares_data : List ShareData → Data
shares_data shares = array (items_of (map share_data shares))

abbrev pub guest_data : Guest → Data
guest_data guest =
    object (member (codes "elem") (count_data guest.elem)
    (member (codes "worker") (count_data guest.worker) no_members))

abbrev pub guests_data : List Guest → Data
guests_data guests = array (items_of (map guest_data guests))

-- a snapshot with its stack as words: the top, the length word, and the link of each element
abbrev pub snapshot_data : Snapshot → Data
snapshot_data s =
    object (member (codes "counts") (counts_data s.counts)
    (member (codes "desks") (places_data s.desks)
    (member (codes "foreign") (boolean s.foreign)
    (member (codes "guests") (guests_data s.guests)
    (member (codes "length") (count_data s.length)
    (member (codes "limits") (limits_data s.limits)
    (member (codes "links") (counts_data s.links)
    (member (codes "shares") (shares_data s.shares)
    (member (codes "top") (count_data s.top) no_members)))))))))

-- a snapshot with its stack as a list of elements, from the top down
abbrev pub common_data : Snapshot → List ℕ → Data
common_data s common =
    object (member (codes "common") (counts_data common)
    (member (codes "counts") (counts_data s.counts)
    (member (codes "desks") (places_data s.desks)
    (member (codes "foreign") (boolean s.foreign)
    (member (codes "guests") (guests_data s.guests)
    (member (codes "limits") (limits_data s.limits)
    (member (codes "shares") (shares_data s.shares) no_members)))))))

-- the word that names the top of a list of elements: 0 for none, else its first element + 1
abbrev pub top_of : List ℕ → ℕ
top_of [] = 0
top_of (e ∷ below) = suc e

-- The links of a list of elements, one for each element of the population: that of an element names
-- the top of the list below it. An element that isn't in the list has the link 0.
abbrev pub links_of : ℕ → List ℕ → List ℕ
links_of population [] = replicate population 0
links_of population (e ∷ below) = slice_set (links_of population below) e (top_of below)

-- The snapshot's words are those of this list of elements, from the top down: elements of the
-- population, each once. There are links only of a population that a pool can have.
pub record HasCommon (common : List ℕ) (s : Snapshot) : Type 0 where
  pub population : s.limits.population ≤ max_population
  pub known : All (λ e. e < s.limits.population) common
  pub once : (e : ℕ) → bag common e ≤ 1
  pub top : s.top ≡ top_of common
  pub len : s.length ≡ length common
  pub links : s.links ≡ links_of s.limits.population common

-- a value of JSON is the data of a snapshot, in one of the two forms, with no other member
abbrev pub IsSnapshotData : Data → Snapshot → Type 0
IsSnapshotData d s =
    (d ≡ snapshot_data s) ⊎ ((common : List ℕ) × (d ≡ common_data s common) × HasCommon common s)

-- the text of a snapshot, with no space
unfoldable pub json_of : Snapshot → List ℕ
json_of s = compact_text (snapshot_data s)

-- ---- the numbers of a snapshot fit their types, as those of all programs do

abbrev pub FitsBase : Option ℕ → Type 0
FitsBase None = ⊤
FitsBase (Some e) = e < 2 ^ 32

pub record FitsSeg (seg : Seg) : Type 0 where
  pub elem : seg.elem < 2 ^ 32
  pub base : FitsBase seg.base
  pub off : seg.data_off < 2 ^ 16
  pub len : seg.data_len < 2 ^ 16
  pub buf : seg.buf_len < 2 ^ 16

abbrev pub FitsPlace : Option (List Seg) → Type 0
FitsPlace None = ⊤
FitsPlace (Some segs) = All FitsSeg segs

pub record FitsShare (share : ShareData) : Type 0 where
  pub worker : share.worker < 2 ^ 32
  pub cache : All (λ e. e < 2 ^ 32) share.cache
  pub slots : All FitsPlace share.slots

pub record FitsGuest (guest : Guest) : Type 0 where
  pub worker : guest.worker < 2 ^ 32
  pub elem : guest.elem < 2 ^ 32

pub record FitsLimits (l : Limits) : Type 0 where
  pub population : l.population < 2 ^ 64
  pub cache : l.cache < 2 ^ 64
  pub workers : l.workers < 2 ^ 64
  pub desks : l.desks < 2 ^ 64
  pub buf : l.buf < 2 ^ 64
  pub refs : l.ref_limit < 2 ^ 64
  pub tries : l.tries < 2 ^ 64
  pub start : l.start_count < 2 ^ 64

pub record HasWords (s : Snapshot) : Type 0 where
  pub limits : FitsLimits s.limits
  pub top : s.top < 2 ^ 32
  pub len : s.length < 2 ^ 64
  pub links : All (λ n. n < 2 ^ 32) s.links
  pub counts : All (λ n. n < 2 ^ 32) s.counts
  pub desks : All FitsPlace s.desks
  pub shares : All FitsShare s.shares
  pub guests : All FitsGuest s.guests
