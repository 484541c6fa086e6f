-- The rule of a pool's table: words and views are a lawful world of the machine.
use Rattle.std.specs.Prelude.{◌≡◌, ℕ, ◌+◌, ◌<◌, ◌==◌, List, [], map, replicate, Option, Some, None, IfSome, sum_by, if◌then◌else◌}
use mathlib.Core.Option as maybe
use mathlib.Core.Option.{some, none}
use lib.ListN.{get_elem?}
use Rattle.atomic_table.specs.Table.{State, Me}
use Rattle.commons.specs.Bounds.{IsPool}
use Rattle.commons.specs.declared.limits.Limits.{Limits}
use Rattle.commons.specs.declared.packet.Seg.{Seg}
use Rattle.commons.specs.Packets.{IsPacket}
use Rattle.step_core.specs.declared.view.Desk.{Desk}
use Rattle.step_core.specs.declared.view.View.{View}
use Rattle.step_core.specs.Opening.{opening}
use Rattle.step_core.specs.World.{World, desk_at, empty_view, every_part}
use Rattle.ground.specs.declared.known.Known.{Known}
use Rattle.ground.specs.Changing.{changes_of, IsUnmoved}
use Rattle.ground.specs.Closing.{lying_on}
use Rattle.ground.specs.History.{Move, Led, logs_of}
use Rattle.ground.specs.Layout.{words_of}
use Rattle.ground.specs.Parting.{no_parcel}
use Rattle.ground.specs.StackRule.{StackRule}
use Rattle.ground.specs.CountRule.{CountRule}
use Rattle.ground.specs.DeskRule.{DeskRule}

-- what a slot of the table holds, and what a seat has: what it knows, and the slots that are out
-- with it
abbrev pub Slot : Type 0
Slot = Option (List Seg)

abbrev pub Sat : Type 0
Sat = Me Slot Known

abbrev pub view_in : Known → View
view_in n = n.view

-- A desk's slot as the table has it: at home, but where a worker fills or empties the desk, and
-- has the slot.
abbrev pub home_by : ℕ → Slot → maybe.Option Slot
home_by word slot = if word == 1 then none else if word == 3 then none else some slot

abbrev pub home_of : Desk → maybe.Option Slot
home_of x = home_by x.word x.slot

-- what a seat knows of the desks lies there, and it is the only seat of the pool
abbrev pub SeesDesks : World → Known → Type 0
SeesDesks w n = IfSome n.lying (λ desks. (n.view.part ≡ every_part w.limits) × (desks ≡ lying_on w.desks))

abbrev pub AreUnmoved : List Known → Type 0
AreUnmoved views = (id : ℕ) (n : Known) → get_elem? views id ≡ some n → IsUnmoved n

pub record Ruled (l : Limits) (s : State Slot Known) : Type 0 where
  pub world : World
  pub words_are : s.words ≡ words_of world
  pub homes_are : s.homes ≡ map home_of world.desks
  pub views_are : map view_in s.views ≡ world.views
  pub limits : world.limits ≡ l
  pub pool : IsPool l
  pub stack : StackRule world
  pub counts : CountRule world
  pub desks : DeskRule world
  -- each seat with a part knows these limits
  pub told : (id : ℕ) (n : Known) → get_elem? s.views id ≡ some n → 0 < n.view.part → n.limits ≡ l
  -- what is in a desk's slot is a packet, and a seat that knows what lies on the desks is right
  pub packets : (d : ℕ) → IfSome (desk_at world.desks d).slot IsPacket
  pub lies : (id : ℕ) (n : Known) → get_elem? s.views id ≡ some n → SeesDesks world n
  -- each change of the stack is one by a seat, and a seat without a part has done nothing
  pub changed : l.start_count + sum_by changes_of s.views ≡ world.head.count
  pub idle : (id : ℕ) (n : Known) → get_elem? s.views id ≡ some n → n.view.part ≡ 0 → IsUnmoved n
  -- where no seat has done anything, the words and slots are those at the start
  pub opened : AreUnmoved s.views → world ≡ record (opening l) { views = world.views }
  -- the machine's own steps led to this world, and each seat has noted its own
  pub history : List Move
  pub led : Led l history world (logs_of s.views)

-- what the first seat knows: it is the only one, names nothing, and nothing lies on a desk
abbrev pub first_known : Limits → Known
first_known l = record {
  view = empty_view (every_part l);
  steps = [];
  limits = l;
  lying = Some (replicate l.desks None);
  joined = [];
  loan = 0;
  parcel = no_parcel;
}
