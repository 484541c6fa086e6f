-- What a seat in the hands of C owns: the seat of a parcel, or nothing.
use Rattle.std.specs.Prelude.{ℕ, List}
use base.Fml.{Fml, fex}
use Rattle.atomic_table.specs.Seated.{TableId, badge_owns}
use Rattle.ground.specs.declared.known.Known.{Known}
use Rattle.ground.specs.contracts.known.Known.{the_row as known}

abbrev pub seat_owns : TableId → List Known → Fml
seat_owns z ks = fex ℕ (λ id. badge_owns known.coded.code z id ks)
