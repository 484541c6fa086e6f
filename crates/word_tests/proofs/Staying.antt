-- A new worker over words has its packets as its own, and whatever calls it makes, its seat stays
-- one of its ground.
use Rattle.std.proofs.Common.{◌≡◌, ℕ, List, [], ◌∷◌, None, replicate, ap, sym, ◌∙◌}
use Rattle.commons.proofs.Bags.{bag-nil}
use Rattle.commons.specs.declared.limits.Limits.{Limits}
use Rattle.commons.specs.Calls.{Made, Leads}
use Rattle.ground.specs.Seats.{Seated}
use Rattle.mbuf.specs.Members.{Member, slots}
use Rattle.mbuf.proofs.OwnLemmas.{own_new}
use Rattle.stack_lf.specs.Sides.{side_of}
use Rattle.stack_lf.specs.Tries.{DidOnWords}
use Rattle.stack_lf.specs.declared.words.WordCommons.{WordCommons}
use Rattle.word_tests.specs.Idle.{Stays}
use Rattle.word_tests.specs.Ready.{OwnBySeat}

-- each call leaves table, limits and slots as they are, so any number of calls does
pub stays : (s : WordCommons) (made : List Made) (t : WordCommons) →
    Leads (λ (u : WordCommons) call rs (w : WordCommons). DidOnWords u.seat call rs w.seat)
    (λ (c : WordCommons). side_of c.seat) s made t →
    Stays s.seat t.seat
stays s [] t e = record {
  table = ap (λ (c : WordCommons). c.seat.table) (sym e);
  limits = ap (λ (c : WordCommons). c.seat.known.limits) (sym e);
  slots = ap (λ (c : WordCommons). c.seat.slots) (sym e);
}
stays s (m ∷ made) t l =
    let first = l.1.led in
    let others = stays l.0 made t l.2 in record {
      table = others.table ∙ first.table;
      limits = others.limits ∙ first.limits;
      slots = others.slots ∙ first.slots;
    }

-- new packets are a worker's own where its seat names nothing
pub new_player : (m : Member) (s t : Seated) (l : Limits) (number : ℕ) →
    m ≡ record { limits = l; number = number; cache = []; table = replicate slots None } →
    l ≡ s.known.limits → s.known.view.hand ≡ [] → s.known.view.holds ≡ [] → t ≡ s →
    OwnBySeat m t
new_player m s t l number is same hand holds eq =
    rw (is, eq, same)
    (own_new (side_of s) number (λ i. rw hand (bag-nil i)) (λ i. rw holds (bag-nil i)))
