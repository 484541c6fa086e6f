use Rattle.std.proofs.Common.{◌≡◌, ◌<◌, ◌≤◌, ℕ, refl, sym, subst, rules, arith}
use Rattle.commons.specs.Bag.{bag}
use Rattle.atomic_table.specs.Seated.{TableId}
use Rattle.ground.specs.Layout.{element_linked_at, link_word}
use Rattle.ground.specs.Own.{AtRest}
use Rattle.ground.specs.Rule.{Sat}
use Rattle.ground.specs.Seats.{Seated}
use Rattle.ground.proofs.Calls.{of_view, link_within, Keeps}
use Rattle.ground.proofs.Joining.{chooses}
use Rattle.ground.proofs.Parts.{lends, owned_lending, owned_loan}
use Rattle.ground.proofs.Stepping.{hand_inside}
use Rattle.ground.proofs.pool.Ground.lend.Goals as goal

-- the word is one of the table, and the load changes nothing but which element the seat lends
pub load-requires : goal.load-requires
load-requires c =
    let inside = hand_inside _ _ c.args.element c.owned.ensures c.requires.hand in (
      search rules,
      link_within c.self.invariant c.self.view_is c.requires.of inside c.link_word-word.ensures,
      chooses _ _ _ _ _ c.seat.invariant.0.busy,
    )

-- what is so of a seat that has chosen an element of its hand
record MayLend (m : Sat) : Type 0 where
  two : 2 ≤ m.0.view.part
  rest : AtRest m.0.view
  has : 0 < bag m.0.view.hand m.0.loan
  kept : Keeps m

may_lend : (m m' : Sat) (element word : ℕ) (s : Seated) (table : TableId) (id : ℕ) →
    record { table = table; id = id; known = m.0; slots = m.1 } ≡ s → word ≡ link_word element →
    m' ≡ (record m.0 { loan = element_linked_at word }, m.1) → 2 ≤ s.known.view.part → AtRest s.known.view →
    0 < bag s.known.view.hand element → Keeps m → MayLend m'
may_lend m m' element word s table id is at chosen two rest has kept =
    let same : element ≡ element_linked_at word = omega (arith, at) in
    subst MayLend (sym chosen) (record {
      two = of_view is (λ v. 2 ≤ v.part) two;
      rest = of_view is AtRest rest;
      has = subst (λ (i : ℕ). 0 < bag m.0.view.hand i) same (of_view is (λ v. 0 < bag v.hand element) has);
      kept = kept;
    })

-- the rule stands once the element is the new seat's
pub split_seat-seat-requires : goal.split_seat-seat-requires
split_seat-seat-requires c =
    let may =
    may_lend c.seat.inside.seat.me c.load.new.seat.me c.args.element c.link_word-word.result _ _ _ c.seat.view_is
    c.link_word-word.ensures c.load.ensures.2 c.requires.part c.requires.rest c.requires.hand c.seat.invariant in
    (search rules, search rules, lends _ _ _ _ may.two may.rest may.has)

may_split : (c : goal.After-split_seat-seat) → MayLend c.load.new.seat.me
may_split c =
    may_lend c.seat.inside.seat.me c.load.new.seat.me c.args.element c.link_word-word.result _ _ _ c.seat.view_is
    c.link_word-word.ensures c.load.ensures.2 c.requires.part c.requires.rest c.requires.hand c.seat.invariant

-- the seat names what it named, but for the element
pub invariant_of-seat : goal.invariant_of-seat
invariant_of-seat c =
    let may = may_split c in
    let more = may.two in
    let within = may.kept.0.within in
    subst Keeps (sym c.split_seat-seat.ensures.2) (
      owned_lending c.load.new.seat.me.0.limits c.load.new.seat.me.0.loan c.load.new.seat.me.0.view more may.has
          may.kept.0,
      may.kept.1,
      λ whole. absurd (omega arith),
    )

-- and the new one that alone
pub invariant_of-result : goal.invariant_of-result
invariant_of-result c =
    let may = may_split c in
    let more = may.two in
    let within = may.kept.0.within in
    subst Keeps (sym c.split_seat-seat.ensures.4) (
      owned_loan c.load.new.seat.me.0.limits c.load.new.seat.me.0.loan c.load.new.seat.me.0.view may.has may.kept.0,
      refl,
      λ whole. absurd (omega arith),
    )
