use Rattle.std.proofs.Common.{◌≡◌, length, reverse, vec_len, refl, sym, arith}
use Rattle.std.proofs.lemmas.List.{length-reverse}
use Rattle.commons.specs.inside.Site.{lists_of}
use Rattle.commons.proofs.Closings.{common_below, counts_by_element}
use Rattle.commons.proofs.site.PlainSite.close.Goals as goal

-- what stands in the common list are elements of the pool, so each has a place for its link
pub words-requires-clause-below : goal.words-requires-clause-below
words-requires-clause-below c =
    let s = lists_of c.self.inside in
    rw (c.deref.ensures.value, c.deref-2.ensures.value, c.self.invariant.table.elements)
    (common_below s c.self.inside.common.items c.self.invariant.table refl)

-- the words are those of the common list, its top last, and counts are read element by element
pub returns-in-Ok-clause-closed : goal.returns-in-Ok-clause-closed
returns-in-Ok-clause-closed c =
    let table = c.self.invariant.table in
    let long : length (reverse c.self.inside.common.items) ≡ vec_len c.self.inside.common =
    omega (arith, length-reverse c.self.inside.common.items, c.self.inside.common.ok) in
    rw (
      sym c.self.view_is,
      c.new.ensures,
      c.new-in-Ok.ensures,
      c.new-in-Ok-2.ensures,
      c.in-Ok.ensures.top,
      c.in-Ok.ensures.links,
      c.in-Ok.ensures.counts,
      c.deref.ensures.value,
      c.deref-2.ensures.value,
      counts_by_element c.self.inside.places.items
          c.self.inside.limits.population table.elements,
      table.elements,
      long,
      c.len.ensures,
    )
    refl
