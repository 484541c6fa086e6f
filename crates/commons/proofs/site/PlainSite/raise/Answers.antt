use Rattle.std.proofs.Common.{◌≡◌, ◌<◌, ◌≤◌, ◌∙◌, sym, ap, arith, ℕ}
use Rattle.std.proofs.lemmas.List.{get_or_default}
use Rattle.commons.specs.Lists.{Lists, nowhere, place_of, held_count}
use Rattle.commons.specs.declared.limits.Limits.{Limits}
use Rattle.commons.specs.inside.Site.{lists_of}
use Rattle.commons.proofs.Single.{IsHeldBy, is_held_by}
use Rattle.commons.proofs.Raising.{hold_le_count, table_raise, others_raise}
use Rattle.commons.proofs.site.PlainSite.raise.Goals.{Else-from-limits, After-set_hold}
use Rattle.commons.proofs.site.PlainSite.raise.Goals as goal

-- a count in range that isn't the limit is below it
below : (count limit : ℕ) → count ≤ limit → (count ≡ limit → ⊥) → count < limit
below count limit h k = omega (arith, h, k)

-- what a raise knows of the lists, as they are kept: the count that it read, which isn't the limit
record Counted (s : Lists) (w i read : ℕ) : Type 0 where
  is : IsHeldBy s w i
  count : read ≡ held_count (place_of s i)
  few : held_count (place_of s i) < s.limits.ref_limit

-- the worker holds the element, and its place has the count that was read, below the limit
counted : (c : Else-from-limits) → Counted (lists_of c.self.inside) c.args.worker c.args.element c.count_in-count.result
counted c =
    let s : Lists = lists_of c.self.inside in
    let i = c.args.element in
    let h =
    is_held_by s c.args.self.now c.args.worker i c.self.view_is c.self.invariant.table c.requires.low
    c.requires.high c.requires.held in
    let count =
    c.count_in-count.ensures
    ∙ ap held_count (c.index.ensures ∙ get_or_default s.places i c.index.result.now nowhere h.place) in
    let limit = ap (λ (l : Limits). l.ref_limit) (rw (sym c.self.view_is) at c.limits-limits.ensures.limits) in
    record {
      is = h;
      count = count;
      few = below (held_count (place_of s i)) s.limits.ref_limit (h.table.limited i)
          (λ e. c.if-from-limits.false (c.from.ensures ∙ count ∙ e ∙ sym limit));
    }

-- a count is at most the reference limit, so one more is no overflow
pub overflow_add-count : goal.overflow_add-count
overflow_add-count c =
    let k = counted (goal.at.overflow_add-count c).Else-from-limits in
    omega (arith, k.count, k.few, k.is.table.pool.refs)

-- a worker's holds of an element are at most its count, so one more is no overflow
pub overflow_add-more : goal.overflow_add-more
overflow_add-more c =
    let k = counted (goal.at.overflow_add-more c).Else-from-limits in
    omega (
      arith,
      c.hold-more.ensures,
      hold_le_count (lists_of c.self.inside) c.args.worker c.args.element k.is.table k.is.low k.is.high,
      k.few,
      k.is.table.pool.refs,
    )

-- the table after the raise: count and the worker's row grow by one together, within the limit
pub returns-clause-kept : goal.returns-clause-kept
returns-clause-kept c =
    let k = counted (goal.at.returns-clause-kept c).Else-from-limits in
    rw (c.set_hold.ensures, c.hold-more.ensures, k.count)
    (table_raise (lists_of c.self.inside) c.args.worker c.args.element k.is.table k.is.low k.is.high
    k.is.held k.few)

-- the hold is added in this worker's row, and a held element is in no hand before or after
pub returns-clause-others : goal.returns-clause-others
returns-clause-others c =
    let k = counted (goal.at.returns-clause-others c).Else-from-limits in
    rw (sym c.self.view_is, c.set_hold.ensures, c.hold-more.ensures, k.count)
    (others_raise (lists_of c.self.inside) c.args.worker c.args.element k.is.table k.is.low k.is.high
    k.is.held)

-- the lists are kept as that table, and the room for the common list stays
pub invariant_of-self : goal.invariant_of-self
invariant_of-self c = record { table = returns-clause-kept c; room = c.self.invariant.room }
