-- What the steps that end holds do, which several functions share. No public clause cites this
-- module.
use Rattle.std.specs.Prelude.{ℕ, ◌≡◌, ◌+◌, ◌*◌, ◌<◌, ◌≤◌, List, if◌then◌else◌, nat_lt}
use Rattle.commons.specs.Bag.{bag, one}
use Rattle.commons.specs.Bounds.{max_population}
use Rattle.commons.specs.Calls.{Reading, Call, Calls, Side}
use Rattle.mempool.specs.WorkerCache.{KeepsNumber, WorkerCache}
use Rattle.mbuf.specs.PacketRules.{EndsHold, EndsHolds}
use Rattle.mbuf.specs.declared.freed.Freed.{Freed}

-- One hold of an element ended, by the calls of its rule. The worker's hand is its cache, and an
-- element that nobody holds then is no header. No more elements than so many have gone back in all.
pub record EndedHold {S : Type 0} (did : S → Call → List Reading → S → Type 0) (side : S → Side)
    (e : ℕ) (old : WorkerCache) (before : S) (so_far : Freed) (most : ℕ)
    (done : Freed) (new : WorkerCache) (after : S) : Type 0 where
  pub calls : Calls did side before after (λ calls.
      EndsHold old.limits e old.cache so_far calls new.cache done)
  pub hand : (i : ℕ) → (side after).hand i ≡ bag new.cache i
  pub holds : (i : ℕ) → (side before).holds i ≡ (side after).holds i + one e i
  pub headers : (i : ℕ) → (side after).headers i
      ≡ (if nat_lt 0 ((side after).holds i) then (side before).headers i else 0)
  pub limits : (side after).limits ≡ (side before).limits
  pub number : KeepsNumber old new
  pub back : done.back ≤ most
  pub flushed : done.flushed ≤ max_population * done.back

-- These holds of a worker ended: its hand is its cache then, and what it holds still keeps its
-- header.
pub record LostHolds (es : List ℕ) (old : WorkerCache) (before : Side) (new : WorkerCache) (after : Side)
    : Type 0 where
  pub hand : (i : ℕ) → after.hand i ≡ bag new.cache i
  pub holds : (i : ℕ) → before.holds i ≡ after.holds i + bag es i
  pub headers : (i : ℕ) → 0 < after.holds i → after.headers i ≡ before.headers i
  pub limits : after.limits ≡ before.limits
  pub number : KeepsNumber old new

-- These holds ended in order, by the calls of their rule, and no more elements than so many have
-- gone back in all.
pub record EndedHolds {S : Type 0} (did : S → Call → List Reading → S → Type 0) (side : S → Side)
    (es : List ℕ) (old : WorkerCache) (before : S) (so_far : Freed) (most : ℕ)
    (done : Freed) (new : WorkerCache) (after : S) : Type 0 where
  pub calls : Calls did side before after (λ calls.
      EndsHolds old.limits es old.cache so_far calls new.cache done)
  pub lost : LostHolds es old (side before) new (side after)
  pub back : done.back ≤ most
  pub flushed : done.flushed ≤ max_population * done.back
