-- A closed pool some of whose workers have handed in nothing, and are listed as missing.
use Rattle.std.specs.Prelude.{ℕ, ◌≡◌, ◌==◌, ◌⊎◌, ◌↔◌, ◌+◌, ◌<◌, ◌≤◌, Bool, not, if◌then◌else◌, List, Option, All, Contains, filter, map, sum_by}
use Rattle.std.specs.List.{list_any}
use Rattle.commons.specs.Bag.{bag}
use Rattle.commons.specs.declared.limits.Limits.{Limits}
use Rattle.commons.specs.declared.packet.Seg.{Seg}
use Rattle.commons.specs.Packets.{held_in}
use Rattle.mbuf.specs.Members.{Member}
use Rattle.pool_model.specs.Pool.{held_by}
use Rattle.snapshot.specs.Lost.{IsAscending}
use Rattle.book.specs.declared.settling.Unsettled.{Unsettled}
use Rattle.book.specs.declared.settling.Unsettled.TheVariants.{MissingShare, OutOfMemory, Fault}
use Rattle.book.specs.Books.{IsMissing, with_share}
use Rattle.book.specs.Places.{Places}

-- the pool has such a worker, whose share isn't in the book, and who isn't listed
pub record IsUnlisted (b : Places) (listed : List ℕ) (w : ℕ) : Type 0 where
  pub missing : IsMissing b w
  pub other : ¬ (Contains listed w)

-- it is the least of them
pub record IsLeastUnlisted (b : Places) (listed : List ℕ) (w : ℕ) : Type 0 where
  pub unlisted : IsUnlisted b listed w
  pub least : (v : ℕ) → v < w → ¬ (IsUnlisted b listed v)

-- the book has the share of each worker that isn't listed
abbrev pub IsFullBut : Places → List ℕ → Type 0
IsFullBut b listed = (w : ℕ) → ¬ (IsUnlisted b listed w)

-- Why it isn't said which elements are lost: the least worker is named who isn't listed and whose
-- share isn't in the book; only where there is none, memory was refused.
abbrev pub IsUntold : Places → List ℕ → Unsettled → Type 0
IsUntold b listed (MissingShare w) = IsLeastUnlisted b listed w
IsUntold b listed OutOfMemory = IsFullBut b listed
IsUntold b listed (Fault f) = ⊥

-- the number is a worker's of a pool of these limits
pub record IsOf (l : Limits) (w : ℕ) : Type 0 where
  pub first : 1 ≤ w
  pub last : w ≤ l.workers

-- whether a number is listed
abbrev pub is_listed : List ℕ → ℕ → Bool
is_listed listed w = list_any (λ v. v == w) listed

-- the members who are listed, and those who aren't
abbrev pub listed_of : List ℕ → List Member → List Member
listed_of listed members = filter (λ m. is_listed listed m.number) members

abbrev pub unlisted_of : List ℕ → List Member → List Member
unlisted_of listed members = filter (λ m. not (is_listed listed m.number)) members

-- Members of a pool of these limits, in the order of their numbers; each other worker is listed.
pub record AreOrdered (l : Limits) (listed : List ℕ) (members : List Member) : Type 0 where
  pub ascending : IsAscending (map (λ m. m.number) members)
  pub workers : All (λ m. IsOf l m.number) members
  pub all : (w : ℕ) → IsOf l w → Contains (map (λ m. m.number) members) w ⊎ Contains listed w

-- the book with one share more, unless its worker is listed
abbrev pub with_unlisted : List ℕ → Places → Member → Places
with_unlisted listed b m = if is_listed listed m.number then b else with_share b m

-- how often an element stands in their caches
abbrev pub cached_by : List Member → ℕ → ℕ
cached_by members i = sum_by (λ member. bag member.cache i) members

-- One of these members who is listed has it in its cache; or members who are listed hold it, and
-- they alone: no packet of the others, nor one on these desks, does.
abbrev pub IsLostWith : List ℕ → List Member → List (Option (List Seg)) → ℕ → Type 0
IsLostWith listed members desks e =
    (0 < cached_by (listed_of listed members) e)
    ⊎ ((0 < held_by (listed_of listed members) e) × (held_by (unlisted_of listed members) e + held_in desks e ≡ 0))

-- They are, ascending, exactly the elements of the pool that are lost with the listed ones of these
-- members.
pub record AreLostWith (l : Limits) (listed : List ℕ) (members : List Member) (desks : List (Option (List Seg)))
    (elems : List ℕ) : Type 0 where
  pub ascending : IsAscending elems
  pub exactly : (e : ℕ) → Contains elems e ↔ ((e < l.population) × IsLostWith listed members desks e)
