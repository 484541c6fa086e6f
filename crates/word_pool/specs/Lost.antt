-- Some workers of a pool on words, whose others are missing, and what is lost with those.
use Rattle.std.specs.Prelude.{ℕ, ◌-◌, ◌==◌, ◌<◌, ◌++◌, if◌then◌else◌, List, All, filter, length, map}
use Rattle.std.specs.List.{remove}
use Rattle.book.specs.Lost.{AreOrdered, is_listed, unlisted_of}
use Rattle.commons.specs.declared.closed.Closed.{Closed}
use Rattle.ground.specs.Closing.{LeftOf}
use Rattle.ground.specs.Seats.{Grounded}
use Rattle.ground.specs.declared.known.Known.{Known}
use Rattle.snapshot.specs.Closing.{snapshot_of}
use Rattle.snapshot.specs.Lost.{AreLost}
use Rattle.step_core.specs.declared.view.View.{View}
use Rattle.word_pool.specs.LostViews.{AreLostBy, others}
use Rattle.word_pool.specs.Shares.{AreSharesOf}
use Rattle.word_pool.specs.Workers.{WorkerState, IsAt, IsSeatOf, members_of}

-- Workers of this ground, one at least, in the order of their numbers; each other worker of the
-- pool is listed as missing.
pub record AreLeft (g : Grounded) (listed : List ℕ) (ms : List WorkerState) : Type 0 where
  pub some : 0 < length ms
  pub each : All (IsAt g) ms
  pub ordered : AreOrdered g.limits listed (members_of ms)

-- the views of those of these workers who are listed
abbrev pub views_listed : List ℕ → List WorkerState → List View
views_listed listed ms = map (λ m. m.seat.known.view) (filter (λ m. is_listed listed m.member.number) ms)

-- All workers but the one with this number, which is lost with its seat; an only worker keeps its
-- seat.
abbrev pub left_of : ℕ → List WorkerState → List WorkerState
left_of number ms = if length ms == 1 then ms else remove ms (number - 1)

-- The workers that are left closed the ground by the one seat that theirs were joined to. These
-- elements, ascending, are exactly those of the pool that are in the hand of a listed worker, or
-- held by listed workers alone, wherever these stopped: the lost views are all that aren't of
-- these workers, and those of listed ones among them, whose seats were kept.
pub record AreLostOf (g : Grounded) (listed : List ℕ) (ms : List WorkerState) (elems : List ℕ) : Type 0 where
  pub known : Known
  pub seat : IsSeatOf ms known
  pub shares : AreSharesOf (members_of ms) known.view
  pub closed : Closed
  pub left : LeftOf g.limits known.view closed
  pub settled : AreLost (snapshot_of g.limits closed (unlisted_of listed (members_of ms))) elems
  pub lost : AreLostBy g.limits (others left.world.views left.id ++ views_listed listed ms)
      (unlisted_of listed (members_of ms)) closed elems
