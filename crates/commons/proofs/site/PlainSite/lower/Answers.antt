use Rattle.std.proofs.Common.{◌≡◌, ◌∙◌, sym, refl, None, get_or}
use Rattle.std.proofs.lemmas.List.{get_or_default}
use Rattle.commons.specs.Lists.{WasLowered, nowhere, place_of}
use Rattle.commons.specs.inside.Site.{lists_of}
use Rattle.commons.proofs.Single.{IsHeldBy, is_held_by, held_place, table_lower, others_lower}
use Rattle.commons.proofs.site.PlainSite.lower.Goals.{After-index, After-owner_left}
use Rattle.commons.proofs.site.PlainSite.lower.Goals as goal

-- the element is one that the worker holds, on the kept lists too
held : (c : After-index) → IsHeldBy (lists_of c.self.inside) c.args.worker c.args.element
held c =
    is_held_by (lists_of c.self.inside) c.args.self.now c.args.worker c.args.element c.self.view_is
    c.self.invariant.table c.requires.low c.requires.high c.requires.held

-- an element that the worker holds has the place of a held one, so there is a count to lower
pub lowered-place-requires : goal.lowered-place-requires
lowered-place-requires c =
    let h = held (goal.at.lowered-place-requires c).After-index in
    rw (c.index.ensures ∙ get_or_default c.self.inside.places.items c.args.element c.index.result.now nowhere h.place)
    (held_place (lists_of c.self.inside) c.args.worker c.args.element h.table h.held)

-- The place that was lowered and the owner that was read are those of an element that the worker
-- holds.
record Read (c : After-owner_left) : Type 0 where
  is : IsHeldBy (lists_of c.self.inside) c.args.worker c.args.element
  lowered : WasLowered c.args.worker (place_of (lists_of c.self.inside) c.args.element)
      c.lowered-place.result.0 c.lowered-place.result.1
  owner : c.index-2.result.now ≡ get_or c.self.inside.headers.items c.args.element None

-- places and headers were read at the element, which has one of each
read : (c : After-owner_left) → IsHeldBy (lists_of c.self.inside) c.args.worker c.args.element → Read c
read c h =
    let place =
    c.index.ensures
    ∙ get_or_default c.self.inside.places.items c.args.element c.index.result.now nowhere h.place in
    record {
      is = h;
      lowered = rw place at c.lowered-place.ensures;
      owner = c.index-2.ensures
          ∙ get_or_default c.self.inside.headers.items c.args.element c.index-2.result.now None h.header;
    }

-- the new place and the answer are those of `lowered`, and row and header follow the holds left
pub returns-clause-did : goal.returns-clause-did
returns-clause-did c =
    let at = goal.at.returns-clause-did c in
    let r = read at.After-owner_left (held at.After-index) in
    rw (sym c.self.view_is) (
      c.lowered-place.result.0,
      r.lowered,
      rw (c.set_hold.ensures, c.owner_left.ensures, r.owner, c.hold-left.ensures) refl,
    )

-- the table after the end of one hold: count and holds are each one less, no other element moves
pub returns-clause-kept : goal.returns-clause-kept
returns-clause-kept c =
    let at = goal.at.returns-clause-kept c in
    let r = read at.After-owner_left (held at.After-index) in
    rw (c.set_hold.ensures, c.owner_left.ensures, r.owner, c.hold-left.ensures)
    (table_lower (lists_of c.self.inside) c.args.worker c.args.element c.lowered-place.result.0
    c.lowered-place.result.1 r.is.table r.is.low r.is.high r.is.held r.lowered)

-- only this worker's number of holds changes; a last hold puts the element in its hand alone
pub returns-clause-others : goal.returns-clause-others
returns-clause-others c =
    let at = goal.at.returns-clause-others c in
    let r = read at.After-owner_left (held at.After-index) in
    rw (sym c.self.view_is, c.set_hold.ensures, c.owner_left.ensures, r.owner, c.hold-left.ensures)
    (others_lower (lists_of c.self.inside) c.args.worker c.args.element c.lowered-place.result.0
    c.lowered-place.result.1 r.is.table r.is.low r.is.high r.is.held r.lowered)

-- the lists are kept as that table, in which a header without a hold is given up
pub invariant_of-self : goal.invariant_of-self
invariant_of-self c = record { table = returns-clause-kept c; room = c.self.invariant.room }
