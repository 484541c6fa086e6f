use Rattle.std.proofs.Common.{◌+◌, List, take, get_or, refl, sym, ap, ◌∙◌, subst, arith}
use Rattle.commons.specs.Bag.{bag}
use Rattle.commons.specs.declared.limits.Limits.{Limits}
use Rattle.commons.specs.declared.packet.Seg.{Seg}
use Rattle.commons.proofs.Bags.{bag-single, one-same}
use Rattle.commons.specs.Packets.{no_seg, own_of_packet}
use Rattle.mbuf.specs.Foreign.{bases_of_packet}
use Rattle.mbuf.specs.inside.Turns.{EndsInTurn, EndsSegInTurn}
use Rattle.mbuf.specs.PacketRules.{freed_nothing}
use Rattle.mbuf.proofs.EndLemmas.{both_lost, none_lost}
use Rattle.mbuf.proofs.ForeignLemmas.{bases-more, bases_so_far, next_seg, own-more, own_so_far}
use Rattle.mbuf.proofs.TurnLemmas.{EndsInTurn-more}
use Rattle.mbuf.proofs.steps.foreign.end_each.Goals as goal

-- At first no segment has ended.
pub loop-seg-init : goal.loop-seg-init
loop-seg-init g c = record {
  ended = (refl, refl, refl, refl);
  first = none_lost c.args.first.now (g.P.Pair.first_side c.args.pair.now) c.requires.first_hand;
  second = none_lost c.args.second.now (g.P.Pair.second_side c.args.pair.now) c.requires.second_hand;
  first_name = refl;
  second_name = refl;
  back = omega arith;
  flushed = omega arith;
}

-- The next segment's base is among those whose holds haven't ended yet.
pub end_seg-freed-requires-clause-first_held : goal.end_seg-freed-requires-clause-first_held
end_seg-freed-requires-clause-first_held g c = λ i.
    let k = c.loop-seg.seg-index in
    let segs = c.args.segs.now in
    let next = ap (λ (s : List Seg). bag (bases_of_packet s) i) (next_seg segs k no_seg c.loop-seg-test.true) in
    omega (
      arith,
      c.requires.first_held i,
      c.loop-seg.invariant.first.holds i,
      next,
      bases-more (take k segs) (get_or segs k no_seg) i,
      bases_so_far segs (k + 1) i,
    )

-- The next segment's own element is among those whose holds haven't ended yet in the second pool.
pub end_seg-freed-requires-clause-second_held : goal.end_seg-freed-requires-clause-second_held
end_seg-freed-requires-clause-second_held g c =
    let k = c.loop-seg.seg-index in
    let segs = c.args.segs.now in
    let e = (get_or segs k no_seg).elem in
    let next = ap (λ (s : List Seg). bag (own_of_packet s) e) (next_seg segs k no_seg c.loop-seg-test.true) in
    omega (
      arith,
      c.requires.second_held e,
      c.loop-seg.invariant.second.holds e,
      next,
      own-more (take k segs) (get_or segs k no_seg) e,
      own_so_far segs (k + 1) e,
      one-same e,
    )

-- The segments so far and then the next one have ended, in this order.
pub loop-seg-preserved : goal.loop-seg-preserved
loop-seg-preserved g c =
    let k = c.loop-seg.seg-index in
    let segs = c.args.segs.now in
    let seg = get_or segs k no_seg in
    let so_far = c.loop-seg in
    let e = c.end_seg-freed in
    let first = c.args.first.now in
    let second = c.args.second.now in
    let p = g.P.Pair in
    let next = next_seg segs k no_seg c.loop-seg-test.true in
    let now =
    subst (λ (l : Limits). EndsSegInTurn p.first_did p.first_side p.second_did p.second_side first.limits l seg
    so_far.pair so_far.first.cache so_far.second.cache so_far.freed e.new.pair e.new.first.cache e.new.second.cache
    e.result) so_far.invariant.second.number.limits
    (subst (λ (l : Limits). EndsSegInTurn p.first_did p.first_side p.second_did p.second_side l so_far.second.limits
    seg so_far.pair so_far.first.cache so_far.second.cache so_far.freed e.new.pair e.new.first.cache
    e.new.second.cache e.result) so_far.invariant.first.number.limits e.ensures.calls) in
    record {
      ended =
          subst (λ (s : List Seg). EndsInTurn p.first_did p.first_side p.second_did p.second_side first.limits
          second.limits s c.args.pair.now first.cache second.cache freed_nothing e.new.pair e.new.first.cache
          e.new.second.cache e.result) (sym next)
          (EndsInTurn-more p.first_did p.first_side p.second_did p.second_side first.limits second.limits
          (take k segs) seg c.args.pair.now first.cache second.cache freed_nothing so_far.pair so_far.first.cache
          so_far.second.cache so_far.freed e.new.pair e.new.first.cache e.new.second.cache e.result
          so_far.invariant.ended now);
      first =
          both_lost (bases_of_packet (take (k + 1) segs))
          (λ i. ap (λ (s : List Seg). bag (bases_of_packet s) i) next ∙ bases-more (take k segs) seg i)
          so_far.invariant.first e.ensures.first;
      second =
          both_lost (own_of_packet (take (k + 1) segs))
          (λ i. omega (
            arith,
            ap (λ (s : List Seg). bag (own_of_packet s) i) next,
            own-more (take k segs) seg i,
            bag-single seg.elem i,
          ))
          so_far.invariant.second e.ensures.second;
      first_name = e.ensures.first_name ∙ so_far.invariant.first_name;
      second_name = e.ensures.second_name ∙ so_far.invariant.second_name;
      back = omega (arith, so_far.invariant.back, e.ensures.back);
      flushed = e.ensures.flushed;
    }
