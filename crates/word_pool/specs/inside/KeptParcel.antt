-- How a `Parcel` is kept. No public clause cites this module.
use Rattle.word_pool.specs.Parcels.{IsParcel, Parcelled}
use Rattle.word_pool.specs.declared.parcel.Parcel.TheInside.{Inside}

abbrev pub parcel_at : Inside → Parcelled
parcel_at p = record { packet = p.packet; seat = p.seat }

abbrev pub IsKept : Inside → Type 0
IsKept p = IsParcel (parcel_at p)
