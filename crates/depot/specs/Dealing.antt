-- A view with numbers is cut in two: one keeps the first of its numbers, and all else.
use Rattle.std.specs.Prelude.{ℕ, suc}
use Rattle.depot.specs.declared.view.View.{View}
use Rattle.depot.specs.Answers.{spent_view}
use Rattle.depot.specs.Resting.{no_resting}

-- the numbers are below this one
abbrev pub last_number : ℕ
last_number = 9223372036854775808

abbrev pub with_first : View → View
with_first v = record v { resting = record v.resting { to = suc v.resting.from } }

abbrev pub with_others : View → View
with_others v = record spent_view {
  population = v.population;
  rounds = v.rounds;
  resting = record no_resting { from = suc v.resting.from; to = v.resting.to };
}
