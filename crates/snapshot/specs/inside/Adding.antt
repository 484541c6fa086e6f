-- Lists of holders, one for each element, to which holders are added.
use Rattle.std.specs.Prelude.{ℕ, ◌≡◌, ◌<◌, ◌+◌, ◌++◌, Bool, List, [], flat_map, length, map, replicate, slice_index_or, Vec}
use Rattle.std.specs.declared.alloc.Global.{Global}
use Rattle.commons.specs.Bag.{bag}
use Rattle.commons.specs.Packets.{held_in}
use Rattle.pool_statement.specs.declared.guest.Guest.{Guest}
use Rattle.pool_statement.specs.declared.statement.Held.{Held}
use Rattle.pool_statement.specs.declared.statement.Holder.{Holder}
use Rattle.pool_statement.specs.declared.statement.Holder.TheVariants.{Worker}
use Rattle.pool_model.specs.Guests.{elements_with, entry_with, guests_of, holders_with, local_table}
use Rattle.snapshot.specs.declared.snapshot.ShareData.{ShareData}
use Rattle.snapshot.specs.declared.snapshot.Snapshot.{Snapshot}
use Rattle.snapshot.specs.Snapshots.{own_pool}

-- who holds an element of a snapshot, the entry of one that is held, and which are
abbrev pub holders_in : Snapshot → ℕ → List Holder
holders_in s = holders_with s.guests (own_pool s).members (own_pool s).shared.desks

abbrev pub entry_of : Snapshot → ℕ → Held
entry_of s = entry_with s.guests (own_pool s).members (own_pool s).shared.desks

abbrev pub held_of : Snapshot → List ℕ
held_of s = elements_with s.guests (own_pool s)

-- the lists of a table of vectors
abbrev pub lists_of : {X : Type 0} → List (Vec X Global) → List (List X)
lists_of table = map (λ list. list.items) table

-- each element's list has got more holders after it
pub record AreAdded (more : ℕ → List Holder) (old new : List (List Holder)) : Type 0 where
  pub len : length new ≡ length old
  pub each : (i : ℕ) → slice_index_or new i [] ≡ slice_index_or old i [] ++ more i

-- the list at a worker's number is of its guests
pub record AreByWorker (workers : ℕ) (guests : List Guest) (lists : List (List ℕ)) : Type 0 where
  pub len : length lists ≡ workers + 1
  pub each : (w i : ℕ) → w < length lists → bag (slice_index_or lists w []) i ≡ guests_of guests w i

-- how often a share's worker holds an element: by its packets, and for its guests, which are these
-- by number
abbrev pub share_holds : Bool → List (List ℕ) → ShareData → ℕ → ℕ
share_holds foreign guests share i =
    held_in (local_table foreign share.slots) i + bag (slice_index_or guests share.worker []) i

-- the workers of shares, each as often as it holds an element
abbrev pub workers_in : Bool → List (List ℕ) → List ShareData → ℕ → List Holder
workers_in foreign guests shares i =
    flat_map (λ share. replicate (share_holds foreign guests share i) (Worker share.worker)) shares
