-- What a ground leaves.
use Rattle.std.specs.Prelude.{◌≡◌, ◌≢◌, ◌==◌, ◌<◌, ℕ, List, [], Option, None, length, map, if◌then◌else◌}
use mathlib.Core.Option.{some}
use lib.ListN.{get_elem?}
use Rattle.commons.specs.declared.closed.Closed.{Closed}
use Rattle.commons.specs.declared.limits.Limits.{Limits}
use Rattle.commons.specs.Calls.{desk_full}
use Rattle.commons.specs.declared.packet.Seg.{Seg}
use Rattle.step_core.specs.declared.view.Desk.{Desk}
use Rattle.step_core.specs.declared.view.View.{View}
use Rattle.step_core.specs.World.{World, view_at, every_part}
use Rattle.step_core.specs.Law.{Lawful}
use Rattle.step_core.specs.Headers.{HeaderLaw}

-- the view names nothing
pub record Nothing (v : View) : Type 0 where
  pub hand : v.hand ≡ []
  pub zeros : v.zeros ≡ []
  pub holds : v.holds ≡ []
  pub headers : v.headers ≡ []
  pub credit : v.credit ≡ 0
  pub look : v.look ≡ None
  pub chain : v.chain ≡ None
  pub work : v.work ≡ None

-- the packet of a full desk: that of a busy one is its worker's
abbrev pub kept_on : ℕ → Option (List Seg) → Option (List Seg)
kept_on word slot = if word == desk_full then slot else None

-- each of these is the packet of a full desk, by a row of words and one of slots
abbrev pub AreOnFullDesks : List ℕ → List (Option (List Seg)) → List (Option (List Seg)) → Type 0
AreOnFullDesks words slots kept =
    (k word : ℕ) (slot : Option (List Seg)) → k < length kept → get_elem? words k ≡ some word →
    get_elem? slots k ≡ some slot → get_elem? kept k ≡ some (kept_on word slot)

abbrev pub packet_on : Desk → Option (List Seg)
packet_on x = kept_on x.word x.slot

-- what lies on the desks: the packets of the full ones
abbrev pub lying_on : List Desk → List (Option (List Seg))
lying_on desks = map packet_on desks

-- What is left is of a lawful world of these limits, in which this view is a worker's. Where it has
-- every part, no other view names anything.
pub record LeftOf (l : Limits) (v : View) (c : Closed) : Type 0 where
  pub world : World
  pub id : ℕ
  pub law : Lawful world
  pub headers : HeaderLaw world
  pub limits : world.limits ≡ l
  pub desk_count : length world.desks ≡ l.desks
  pub view : get_elem? world.views id ≡ some v
  pub alone : v.part ≡ every_part l → (k : ℕ) → k ≢ id → Nothing (view_at world.views k)
  pub top : c.top ≡ world.head.top
  pub length : c.length ≡ world.length
  pub links : c.links ≡ world.links
  pub counts : c.counts ≡ world.counts
  pub desks : c.desks ≡ lying_on world.desks
