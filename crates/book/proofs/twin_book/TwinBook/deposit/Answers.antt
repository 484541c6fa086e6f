use Rattle.std.proofs.Common.{refl, ap, sym, ◌∙◌}
use Rattle.mbuf.specs.Members.{Member}
use Rattle.mbuf.specs.Twins.{TwinMember}
use Rattle.book.specs.TwinPlaces.{TwinPlaces}
use Rattle.book.proofs.TwinPlaces.{filled_alike}
use Rattle.book.proofs.twin_book.TwinBook.deposit.Goals as goal

-- the share stands in the places of its worker
pub invariant_of-self : goal.invariant_of-self
invariant_of-self c =
    let parts = c.into_parts-first.result in
    let told = c.into_parts-first.ensures in
    let book : TwinPlaces = record { first = c.self.inside.first; second = c.self.inside.second } in
    let share : TwinMember = record { first = parts.0; second = parts.1 } in
    let same = ap (λ (m : Member). m.number) told.second ∙ told.same ∙ sym (ap (λ (m : Member). m.number) told.first) in
    rw (c.in-Ok.ensures.filled, c.in_default.ensures.filled) (filled_alike book share c.self.invariant same
    c.fits_its_limits.ensures.workers c.fits_its_limits-2.ensures.workers (c.in-Ok.ensures.room.0 refl))
