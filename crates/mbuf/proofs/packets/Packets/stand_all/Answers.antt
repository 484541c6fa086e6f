use Rattle.std.proofs.Common.{◌≡◌, ℕ, ◌+◌, ◌-◌, ◌<◌, List, [], ◌∷◌, ◌++◌, length, get_or, map, take, drop, Option, refl, sym, ap, subst, ◌∙◌, arith}
use Rattle.std.specs.Prelude.{IsSome}
use Rattle.std.proofs.lemmas.List.{length-drop, map-append, take_all, take_more, drop_more}
use Rattle.commons.specs.Bag.{bag, one}
use Rattle.commons.specs.Calls.{Call, Claim}
use Rattle.commons.proofs.Bags.{bag-nil, bag-append, bag-single, bag-take-drop, bag-head}
use Rattle.commons.proofs.Leading.{calls_of-append, Leads-append, Leads-one, made_by}
use Rattle.mbuf.specs.inside.Kept.{member_of}
use Rattle.mbuf.specs.PacketRules.{free_slots}
use Rattle.mbuf.proofs.FreeLemmas.{first_free, StoodSo-none, StoodSo-more, next_left}
use Rattle.mbuf.proofs.PlaceLemmas.{alike, lowest}
use Rattle.mbuf.proofs.TableLemmas.{free_slot-shown}
use Rattle.mbuf.proofs.packets.Packets.stand_all.Goals as goal

-- At first no packet stands, and nothing was claimed.
pub loop-place-init : goal.loop-place-init
loop-place-init g c = record {
  so_far = StoodSo-none c.args.out.now c.args.self.now;
  calls = ([], refl, refl);
  hand = λ i. omega (arith, bag-nil i);
  holds = λ i. omega (arith, bag-nil i);
  headers = λ i. omega (arith, bag-nil i);
  limits = refl;
}

-- The next element is one of those that are left, which are in the hand still.
pub stand-requires-clause-hand : goal.stand-requires-clause-hand
stand-requires-clause-hand g c =
    let es = c.args.out.now in
    let k = c.loop-place.place in
    let inv = c.loop-place.invariant in
    let e = get_or es k 0 in
    let here : 0 < bag (drop k es) e = rw (drop_more es k 0 c.loop-place-test.true) (bag-head e (drop (k + 1) es)) in
    rw (next_left es c.loop-place.out k inv.so_far.left)
    (omega (arith, here, bag-take-drop k es e, c.requires.hand e, inv.hand e))

-- Fewer packets stand so far than there were free slots, so there is a lowest one.
pub unwrap-slot-requires : goal.unwrap-slot-requires
unwrap-slot-requires g c =
    let slots = free_slots c.args.self.now.table in
    let k = c.loop-place.place in
    let left : length (drop k slots) ≡ length slots - k = length-drop k slots in
    let some : 0 < length (free_slots c.loop-place.self.table) =
    rw c.loop-place.invariant.so_far.free (omega (arith, left, c.requires.free, c.loop-place-test.true)) in
    let p = c.self.inside in
    let first =
    c.lowest.ensures ∙ sym (free_slot-shown p.free p.packets.items (alike p c.self.invariant))
    ∙ first_free (member_of p).table (rw (sym c.self.view_is) at some) in
    subst (λ (o : Option ℕ). IsSome o) (sym first) refl

-- The first flag that is up is that of the table's lowest free slot.
pub stand-requires-clause-lowest : goal.stand-requires-clause-lowest
stand-requires-clause-lowest g c =
    rw (sym c.self.view_is) (lowest c.self.inside c.unwrap-slot.result c.self.invariant
    (sym c.unwrap-slot.ensures ∙ c.lowest.ensures)).free

-- One more packet stands in the lowest slot that is left, and one more element was claimed.
pub loop-place-preserved : goal.loop-place-preserved
loop-place-preserved g c =
    let es = c.args.out.now in
    let k = c.loop-place.place in
    let inv = c.loop-place.invariant in
    let within : k < length es = c.loop-place-test.true in
    let e = get_or es k 0 in
    let elem = next_left es c.loop-place.out k inv.so_far.left in
    let s = c.stand.ensures in
    let low =
    lowest c.self.inside c.unwrap-slot.result c.self.invariant
    (sym c.unwrap-slot.ensures ∙ c.lowest.ensures) in
    let did = g.C.Commons.did in
    let side = g.C.Commons.side in
    let done = rw elem at s.did in
    let made = made_by did side c.loop-place.c (Claim e) c.stand.new.c done in
    let more : (i : ℕ) → bag (take (k + 1) es) i ≡ bag (take k es) i + one e i =
    λ i.
    rw (take_more es k 0 within)
    (omega (arith, bag-append (take k es) (e ∷ []) i, bag-single e i)) in
    record {
      so_far =
          rw s.slot (StoodSo-more es c.args.self.now k c.loop-place.out c.loop-place.self c.stand.new.self
          c.unwrap-slot.result within c.requires.free c.loop-place.auto.out inv.so_far
          (rw (sym c.self.view_is) low.free) s.stood);
      calls = (
        inv.calls.0 ++ made ∷ [],
        Leads-append did side inv.calls.0 (made ∷ []) c.args.c.now c.loop-place.c c.stand.new.c
            inv.calls.1 (Leads-one did side c.loop-place.c (Claim e) c.stand.new.c done),
        calls_of-append inv.calls.0 (made ∷ [])
            ∙ ap (λ (calls : List Call). calls ++ Claim e ∷ []) inv.calls.2
            ∙ sym (ap (λ (xs : List ℕ). map Claim xs) (take_more es k 0 within)
            ∙ map-append Claim (take k es) (e ∷ [])),
      );
      hand = λ i. omega (arith, inv.hand i, done.step.effect.hand i, more i);
      holds = λ i. omega (arith, inv.holds i, done.step.effect.holds i, more i);
      headers = λ i. omega (arith, inv.headers i, done.step.effect.headers i, more i);
      limits = done.step.effect.limits ∙ inv.limits;
    }

-- At the end each element was claimed, in order.
pub returns-clause-calls : goal.returns-clause-calls
returns-clause-calls g c =
    let all = take_all c.loop-place.place c.args.out.now (omega (arith, c.loop-place-test.false)) in
    rw all at c.loop-place.invariant.calls

-- At the end each place has its packet's slot.
pub returns-clause-slots : goal.returns-clause-slots
returns-clause-slots g c =
    let k = c.loop-place.place in
    let at : k ≡ length c.args.out.now = omega (arith, c.loop-place-test.false, c.loop-place.auto.place-end) in
    sym (take_all k c.loop-place.out (omega (arith, c.loop-place-test.false, c.loop-place.auto.out)))
    ∙ c.loop-place.invariant.so_far.slots
    ∙ ap (λ (n : ℕ). take n (free_slots c.args.self.now.table)) at

-- At the end all packets stand, in their slots.
pub returns-clause-stood : goal.returns-clause-stood
returns-clause-stood g c =
    let k = c.loop-place.place in
    let es = c.args.out.now in
    let all = take_all k es (omega (arith, c.loop-place-test.false)) in
    let slots =
    sym (take_all k c.loop-place.out
    (omega (arith, c.loop-place-test.false, c.loop-place.auto.out)))
    ∙ c.loop-place.invariant.so_far.slots in
    rw (slots, ← all) c.loop-place.invariant.so_far.stood

-- At the end all elements have left the hand.
pub returns-clause-hand : goal.returns-clause-hand
returns-clause-hand g c =
    rw (take_all c.loop-place.place c.args.out.now (omega (arith, c.loop-place-test.false))) at
    c.loop-place.invariant.hand

-- At the end each element has one hold more.
pub returns-clause-holds : goal.returns-clause-holds
returns-clause-holds g c =
    rw (take_all c.loop-place.place c.args.out.now (omega (arith, c.loop-place-test.false))) at
    c.loop-place.invariant.holds

-- At the end each element is a header once more.
pub returns-clause-headers : goal.returns-clause-headers
returns-clause-headers g c =
    rw (take_all c.loop-place.place c.args.out.now (omega (arith, c.loop-place-test.false))) at
    c.loop-place.invariant.headers

-- No claim changes the pool's limits.
pub returns-clause-limits : goal.returns-clause-limits
returns-clause-limits g c = c.loop-place.invariant.limits
