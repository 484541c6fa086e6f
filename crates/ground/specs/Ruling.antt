-- What the rule of a pool's table says of each of its states.
use Rattle.std.specs.Prelude.{◌≡◌, List, map}
use Rattle.atomic_table.specs.Table.{State}
use Rattle.commons.specs.declared.limits.Limits.{Limits}
use Rattle.step_core.specs.Headers.{HeaderLaw}
use Rattle.step_core.specs.Law.{Lawful}
use Rattle.step_core.specs.World.{World}
use Rattle.ground.specs.declared.known.Known.{Known}
use Rattle.ground.specs.History.{Move, Led, logs_of}
use Rattle.ground.specs.Layout.{words_of}
use Rattle.ground.specs.Rule.{Slot, Ruled, view_in, home_of}

-- the words, the slots and what the seats know are of a lawful world of the pool, to which these
-- moves led
pub record IsLedTo (l : Limits) (s : State Slot Known) : Type 0 where
  pub world : World
  pub limits : world.limits ≡ l
  pub words : s.words ≡ words_of world
  pub homes : s.homes ≡ map home_of world.desks
  pub views : map view_in s.views ≡ world.views
  pub law : Lawful world
  pub headers : HeaderLaw world
  pub history : List Move
  pub led : Led l history world (logs_of s.views)

abbrev pub WordsAreLedTo : Type 0
WordsAreLedTo = (l : Limits) (s : State Slot Known) → Ruled l s → IsLedTo l s
