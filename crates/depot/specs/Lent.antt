-- What loans own: the seat that has them in its hand, or nothing.
use Rattle.std.specs.Prelude.{ℕ, List}
use base.Fml.{Fml, fex}
use Rattle.atomic_table.specs.Seated.{TableId, badge_owns}
use Rattle.depot.specs.declared.view.View.{View}
use Rattle.depot.specs.contracts.view.View.{the_row as view}

abbrev pub loans_own : TableId → List View → Fml
loans_own z vs = fex ℕ (λ id. badge_owns view.coded.code z id vs)
