use Rattle.std.proofs.Common.{◌≡◌, ◌+◌, List, [], ◌∷◌, ◌++◌, take, get_or, refl, sym, ap, subst, ◌∙◌, arith}
use Rattle.std.proofs.lemmas.List.{take_all}
use Rattle.commons.specs.Bag.{bag}
use Rattle.commons.specs.declared.limits.Limits.{Limits}
use Rattle.commons.specs.declared.packet.Seg.{Seg}
use Rattle.commons.proofs.Bags.{bag-nil, bag-single}
use Rattle.commons.specs.Packets.{no_seg, own_of_packet}
use Rattle.mempool.specs.WorkerCache.{WorkerCache}
use Rattle.mbuf.specs.Foreign.{BothCalls, ClonesForeign, ClonesForeignSeg, StopsForeign}
use Rattle.mbuf.specs.inside.ForeignSteps.{GivesBack}
use Rattle.mbuf.specs.Sharing.{buffer_of}
use Rattle.mbuf.proofs.CloneLemmas.{buffer_held, new_only}
use Rattle.mbuf.proofs.ForeignLemmas.{ClonesForeign-more, bases-more, both_calls, given_up_into, next_seg, own-more}
use Rattle.mbuf.proofs.clones.foreign.clone_segs.Goals as goal

-- At first no segment is cloned.
pub loop-index-init : goal.loop-index-init
loop-index-init g c = record {
  cloned = ([], refl, ([], refl, (refl, refl, refl, refl)));
  first = refl;
  len = c.fit.ensures;
  first_hand = λ i. refl;
  first_holds = λ i. omega (arith, bag-nil i);
  first_headers = λ i. refl;
  first_limits = refl;
  second_hand = c.requires.second_hand;
  second_holds = λ i. omega (arith, bag-nil i);
  second_headers = λ i. omega (arith, bag-nil i);
  unheld = λ i some. absurd (omega (arith, some, bag-nil i));
  second_limits = refl;
  second_number = record { limits = refl; number = refl };
}

-- The packet that is cloned holds the next segment's buffer, and the worker holds no less.
pub clone_seg-requires-clause-first_held : goal.clone_seg-requires-clause-first_held
clone_seg-requires-clause-first_held g c =
    let k = c.loop-index.index in
    let segs = c.args.segs.now in
    let buffer = buffer_of (get_or segs k no_seg) in
    omega (
      arith,
      buffer_held segs k no_seg c.loop-index-test.true,
      c.requires.first_held buffer,
      c.loop-index.invariant.first_holds buffer,
    )

-- One segment more is cloned, and its clone stands after the clones so far.
pub loop-index-preserved : goal.loop-index-preserved
loop-index-preserved g c =
    let k = c.loop-index.index in
    let segs = c.args.segs.now in
    let seg = get_or segs k no_seg in
    let inv = c.loop-index.invariant in
    let did = c.in-Ok.ensures in
    let old = c.loop-index.packet in
    let new = c.in-Ok.new in
    let packet = c.follow.new.packet in
    let before = c.args.second.now in
    let later = c.loop-index.second in
    let left = c.clone_seg.new.second in
    let next = next_seg segs k no_seg c.loop-index-test.true in
    let so_far : take (k + 1) packet ≡ take k old ++ new ∷ [] = c.follow.ensures.next in
    let now =
    subst (λ (l : Limits). BothCalls g.C.Commons.did g.C.Commons.side c.loop-index.c c.clone_seg.new.c
    g.D.Commons.did g.D.Commons.side c.loop-index.d c.clone_seg.new.d (λ firsts seconds. ClonesForeignSeg l seg
    later.cache firsts seconds new left.cache)) inv.second_number.limits did.calls in
    record {
      cloned =
          both_calls g.C.Commons.did g.C.Commons.side c.args.c.now c.loop-index.c c.clone_seg.new.c g.D.Commons.did
          g.D.Commons.side c.args.d.now c.loop-index.d c.clone_seg.new.d
          (λ firsts seconds. ClonesForeign before.limits (take k segs) before.cache firsts seconds (take k old)
          later.cache)
          (λ firsts seconds. ClonesForeignSeg before.limits seg later.cache firsts seconds new left.cache)
          (λ firsts seconds. ClonesForeign before.limits (take (k + 1) segs) before.cache firsts seconds
          (take (k + 1) packet) left.cache)
          (λ a b x y whole one.
          subst (λ (s : List Seg). ClonesForeign before.limits s before.cache (a ++ x) (b ++ y) (take (k + 1) packet)
          left.cache) (sym next)
          (subst (λ (s : List Seg). ClonesForeign before.limits (take k segs ++ seg ∷ []) before.cache (a ++ x)
          (b ++ y) s left.cache) (sym so_far)
          (ClonesForeign-more before.limits (take k segs) seg before.cache a b (take k old) later.cache x y new
          left.cache whole one)))
          inv.cloned now;
      first = inv.first;
      len = c.follow.ensures.len ∙ inv.len;
      first_hand = λ i. did.first_hand i ∙ inv.first_hand i;
      first_holds =
          λ i.
          rw so_far
          (omega (arith, did.first_holds i, inv.first_holds i, bases-more (take k old) new i));
      first_headers = λ i. did.first_headers i ∙ inv.first_headers i;
      first_limits = did.first_limits ∙ inv.first_limits;
      second_hand = did.second_hand;
      second_holds =
          λ i. rw so_far (omega (arith, did.second_holds i, inv.second_holds i, own-more (take k old) new i, bag-single new.elem i));
      second_headers =
          λ i. rw so_far (omega (arith, did.second_headers i, inv.second_headers i, own-more (take k old) new i, bag-single new.elem i));
      unheld = λ i some.
          let here = rw so_far at some in
          new_only (bag (own_of_packet (take k old)) i) (bag (new.elem ∷ []) i)
          ((g.D.Commons.side c.args.d.now).holds i) ((g.D.Commons.side c.loop-index.d).holds i) (inv.unheld i)
          (did.unheld i) (omega (arith, inv.second_holds i))
          (omega (arith, here, own-more (take k old) new i, bag-single new.elem i));
      second_limits = did.second_limits ∙ inv.second_limits;
      second_number = record {
        limits = did.second_number.limits ∙ inv.second_number.limits;
        number = did.second_number.number ∙ inv.second_number.number;
      };
    }

-- The first pool's worker is still the same one.
pub give_up-requires-clause-first_limits : goal.give_up-requires-clause-first_limits
give_up-requires-clause-first_limits g c =
    let inv = c.loop-index.invariant in
    c.in-Err.ensures.first_limits ∙ inv.first_limits ∙ c.requires.first_limits
    ∙ ap (λ (w : WorkerCache). w.limits) (sym inv.first)

-- The hand of the first pool's worker is still its cache.
pub give_up-requires-clause-first_hand : goal.give_up-requires-clause-first_hand
give_up-requires-clause-first_hand g c = λ i.
    let inv = c.loop-index.invariant in
    c.in-Err.ensures.first_hand i ∙ inv.first_hand i ∙ c.requires.first_hand i
    ∙ ap (λ (w : WorkerCache). bag w.cache i) (sym inv.first)

-- The segments so far were cloned, the next one wasn't, and what was made was given up.
pub returns-in-Err-clause-calls : goal.returns-in-Err-clause-calls
returns-in-Err-clause-calls g c =
    let k = c.loop-index.index in
    let segs = c.args.segs.now in
    let inv = c.loop-index.invariant in
    let new = take k c.loop-index.packet in
    let over = c.in-Err.stop.over in
    let cause = c.in-Err.stop.cause in
    let first = c.args.first.now in
    let second = c.args.second.now in
    let later = c.loop-index.second in
    let stopped = c.clone_seg.new.second in
    let done = c.give_up.new in
    let ends = rw c.segs.ensures.segs at c.give_up.ensures.calls in
    given_up_into g.C.Commons.did g.C.Commons.side c.args.c.now c.loop-index.c c.clone_seg.new.c done.c g.D.Commons.did
    g.D.Commons.side c.args.d.now c.loop-index.d c.clone_seg.new.d done.d first.limits second.limits segs k no_seg
    first.cache second.cache new later.cache cause over stopped.cache done.first.cache done.second.cache
    c.loop-index-test.true inv.cloned
    (subst (λ (l : Limits). BothCalls g.C.Commons.did g.C.Commons.side c.loop-index.c c.clone_seg.new.c g.D.Commons.did
    g.D.Commons.side c.loop-index.d c.clone_seg.new.d (λ firsts seconds. StopsForeign l (get_or segs k no_seg)
    later.cache firsts seconds cause over stopped.cache)) inv.second_number.limits c.in-Err.ensures.calls)
    (subst (λ (l : Limits). BothCalls g.C.Commons.did g.C.Commons.side c.clone_seg.new.c done.c g.D.Commons.did
    g.D.Commons.side c.clone_seg.new.d done.d (λ firsts seconds. GivesBack first.limits l new over first.cache
    stopped.cache firsts seconds done.first.cache done.second.cache))
    (c.in-Err.ensures.second_number.limits ∙ inv.second_number.limits)
    (subst (λ (w : WorkerCache). BothCalls g.C.Commons.did g.C.Commons.side c.clone_seg.new.c done.c g.D.Commons.did
    g.D.Commons.side c.clone_seg.new.d done.d (λ firsts seconds. GivesBack w.limits stopped.limits new over w.cache
    stopped.cache firsts seconds done.first.cache done.second.cache)) inv.first ends))

-- What is given up leaves the worker of the first pool the same one.
pub returns-in-Err-clause-first_number : goal.returns-in-Err-clause-first_number
returns-in-Err-clause-first_number g c =
    let number = c.give_up.ensures.first.number in
    let same = c.loop-index.invariant.first in record {
      limits = number.limits ∙ ap (λ (w : WorkerCache). w.limits) same;
      number = number.number ∙ ap (λ (w : WorkerCache). w.number) same;
    }

-- All segments are cloned, and the first pool's cache wasn't touched.
pub returns-clause-calls : goal.returns-clause-calls
returns-clause-calls g c =
    let k = c.loop-index.index in
    let inv = c.loop-index.invariant in
    let segs = c.args.segs.now in
    let packet = c.loop-index.packet in
    let cloned = inv.cloned in
    let all = take_all k segs c.loop-index-test.false in
    let new = take_all k packet (omega (arith, c.loop-index-test.false, inv.len)) in (
      cloned.0,
      cloned.1,
      (
        cloned.2.0,
        cloned.2.1,
        (rw (all, new) at cloned.2.2, ap (λ (w : WorkerCache). w.cache) inv.first),
      ),
    )

-- The hand of the first pool is its cache still.
pub returns-clause-first_hand : goal.returns-clause-first_hand
returns-clause-first_hand g c = λ i.
    let inv = c.loop-index.invariant in
    inv.first_hand i ∙ c.requires.first_hand i ∙ ap (λ (w : WorkerCache). bag w.cache i) (sym inv.first)

-- The clones leave the worker of the first pool the same one.
pub returns-clause-first_number : goal.returns-clause-first_number
returns-clause-first_number g c =
    let same = c.loop-index.invariant.first in record {
      limits = ap (λ (w : WorkerCache). w.limits) same;
      number = ap (λ (w : WorkerCache). w.number) same;
    }
