use Rattle.std.proofs.Common.{◌≡◌, [], length, sym, ◌∙◌, refl}
use Rattle.std.proofs.lemmas.List.{nil_from_length}
use Rattle.commons.proofs.Closings.{common_below, counts_by_element}
use Rattle.share_book.proofs.deskless.left_without_desks.Goals as goal

-- what stands in the common list are elements of the pool, so each has a place for its link
pub words-requires-clause-below : goal.words-requires-clause-below
words-requires-clause-below c =
    let s = c.args.site.now in
    let t = c.common.ensures.table in
    rw (c.places.ensures.places, t.elements) (common_below s c.common.result.now t (sym c.common.ensures.common))

-- no packet lies on a desk, and the words are those of the common list, its top last
pub returns : goal.returns
returns c =
    let s = c.args.site.now in
    let t = c.common.ensures.table in
    let none : s.desks ≡ [] = nil_from_length s.desks (t.desks ∙ c.requires) in
    let population : length s.places ≡ s.limits.population = t.elements in
    rw (
      c.new.ensures,
      c.new-2.ensures,
      c.new-4.ensures,
      c.new-3.ensures.items,
      c.in_ok-top.ensures.top,
      c.in_ok-top.ensures.links,
      c.in_ok-top.ensures.counts,
      c.common_count.ensures.count,
      c.common.ensures.common,
      c.places.ensures.places,
      counts_by_element s.places s.limits.population population,
      population,
      none,
    )
    refl
