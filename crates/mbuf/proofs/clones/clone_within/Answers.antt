use Rattle.std.proofs.Common.{◌≡◌, ◌≢◌, ◌<◌, ◌+◌, ℕ, List, [], ◌∷◌, ◌++◌, length, length-set, map, take, get_or, set, get_or-set_other, get_or-set_same, refl, ap, subst, ◌∙◌, arith}
use Rattle.std.proofs.lemmas.List.{get_or_default, map-append, take_all, take_more}
use Rattle.commons.specs.Bag.{bag}
use Rattle.commons.specs.Calls.{Calls}
use Rattle.commons.specs.declared.limits.Limits.{Limits}
use Rattle.commons.specs.declared.packet.Seg.{Seg}
use Rattle.commons.proofs.Bags.{bag-nil, bag-append}
use Rattle.commons.specs.Packets.{no_seg, hold_of, holds_of_packet, holds_of_seg}
use Rattle.mbuf.specs.PacketRules.{freed_nothing}
use Rattle.mbuf.specs.Sharing.{buffer_of, ClonesSeg, StopsCloning}
use Rattle.mbuf.proofs.CloneLemmas.{buffer_held, cloned_more, followed, given_up, laid_there, holds-more, new_only, same_headers}
use Rattle.mbuf.proofs.EndLemmas.{Ended}
use Rattle.mbuf.proofs.clones.clone_within.Goals as goal

-- What is lent of a packet is that packet, so what is within the one is within the other.
within_source : (old : List (List Seg)) (source k : ℕ) (segs lent : List Seg) → source < length old →
    segs ≡ get_or old source lent → k < length segs → k < length (get_or old source [])
within_source old source k segs lent there is within =
    subst (λ (x : List Seg). k < length x) (is ∙ get_or_default old source lent [] there) within

-- what stands in another place than the clone's is what stood there at first
stands_from : (old cur : List (List Seg)) (source slot : ℕ) (segs lent : List Seg) → source < length old →
    source ≢ slot → cur ≡ set old slot (get_or cur slot []) → segs ≡ get_or cur source lent →
    segs ≡ get_or old source []
stands_from old cur source slot segs lent within apart so is =
    is ∙ ap (λ (x : List (List Seg)). get_or x source lent) so
    ∙ get_or-set_other old slot source (get_or cur slot []) lent apart
    ∙ get_or_default old source lent [] within

-- what stands in the clone's place, whatever stands where there is no place
stands_clone : (old cur : List (List Seg)) (slot : ℕ) (segs lent : List Seg) → slot < length old →
    cur ≡ set old slot (get_or cur slot []) → segs ≡ get_or cur slot lent → segs ≡ get_or cur slot []
stands_clone old cur slot segs lent within so is =
    is ∙ get_or_default cur slot lent [] (omega (
      arith,
      within,
      ap (λ (x : List (List Seg)). length x) so,
      length-set old slot (get_or cur slot []),
    ))

-- the own elements of one segment more
elems-more : (segs : List Seg) (seg : Seg) (i : ℕ) →
    bag (map (λ s. s.elem) (segs ++ seg ∷ [])) i
    ≡ bag (map (λ s. s.elem) segs) i + bag (seg.elem ∷ []) i
elems-more segs seg i =
    ap (λ (es : List ℕ). bag es i) (map-append (λ (s : Seg). s.elem) segs (seg ∷ []))
    ∙ bag-append (map (λ (s : Seg). s.elem) segs) (seg.elem ∷ []) i

-- At first no segment is cloned.
pub loop-index-init : goal.loop-index-init
loop-index-init g c = record {
  cloned = ([], refl, (refl, refl, refl));
  packets =
      laid_there c.args.packets.now c.args.slot c.fit.new.packet
      (omega (arith, c.requires.slot));
  len =
      ap (λ (x : List Seg). length x) (get_or-set_same c.args.packets.now c.args.slot c.fit.new.packet []
      (omega (arith, c.requires.slot))) ∙ c.fit.ensures;
  hand = c.requires.hand;
  holds = λ i. omega (arith, bag-nil i);
  headers = λ i. omega (arith, bag-nil i);
  unheld = λ i some. absurd (omega (arith, some, bag-nil i));
  limits = refl;
  number = record { limits = refl; number = refl };
}

-- The packet that is cloned holds the next segment's buffer, and the worker holds no less.
pub clone_seg-requires-clause-held : goal.clone_seg-requires-clause-held
clone_seg-requires-clause-held g c =
    let k = c.loop-index.index in
    let source = get_or c.args.packets.now c.args.source [] in
    let inv = c.loop-index.invariant in
    let within = within_source _ _ k _ _ c.requires.source c.segs-count.ensures.segs c.loop-index-test.true in
    let buffer = buffer_of (get_or source k no_seg) in
    rw (stands_from _ _ _ _ _ _ c.requires.source c.requires.apart inv.packets c.segs.ensures.segs)
    (omega (arith, buffer_held source k no_seg within, c.requires.held buffer, inv.holds buffer))

-- The clones so far and the element that is left over are held, since their holds came on top.
pub give_up-requires-clause-held : goal.give_up-requires-clause-held
give_up-requires-clause-held g c = λ i.
    let clones = take c.loop-index.index (get_or c.loop-index.packets c.args.slot []) in
    let inv = c.loop-index.invariant in
    let stop = c.in-Err.ensures in
    rw (stands_clone _ _ _ _ _ c.requires.slot inv.packets c.segs-in-Err.ensures.segs)
    (omega (arith, stop.holds i, inv.holds i, bag-append (holds_of_packet clones) (hold_of c.in-Err.stop.over) i))

-- The segments so far were cloned, the next one wasn't, and what was made was given up. The holds
-- that ended are those that were made; with the holds as before, the headers are: a new one was
-- unheld before, and it is unheld again.
pub returns-in-Err : goal.returns-in-Err
returns-in-Err g c =
    let did = g.C.Commons.did in
    let side = g.C.Commons.side in
    let k = c.loop-index.index in
    let source = get_or c.args.packets.now c.args.source [] in
    let clones = take k (get_or c.loop-index.packets c.args.slot []) in
    let inv = c.loop-index.invariant in
    let stop = c.in-Err.ensures in
    let cause = c.in-Err.stop.cause in
    let over = c.in-Err.stop.over in
    let worker = c.args.worker.now in
    let later = c.loop-index.worker in
    let stopped = c.clone_seg.new in
    let end = c.give_up.new in
    let seg =
    stands_from _ _ _ _ _ _ c.requires.source c.requires.apart inv.packets c.segs.ensures.segs in
    let tried = rw seg at stop.calls in
    let ends =
    rw (stands_clone _ _ _ _ _ c.requires.slot inv.packets c.segs-in-Err.ensures.segs) at c.give_up.ensures in
    let elems = map (λ (s : Seg). s.elem) clones in
    let holds : (i : ℕ) → (side end.c).holds i ≡ (side c.args.c.now).holds i =
    λ i. omega (arith, ends.lost.holds i, stop.holds i, inv.holds i, bag-append (holds_of_packet clones) (hold_of over) i) in
    record {
      calls =
          given_up did side c.args.c.now c.loop-index.c stopped.c end.c worker.limits source k no_seg
          worker.cache clones later.cache cause over stopped.worker.cache end.worker.cache c.give_up.result
          (within_source _ _ k _ _ c.requires.source c.segs-count.ensures.segs c.loop-index-test.true) inv.cloned
          (subst (λ (l : Limits). Calls did side c.loop-index.c stopped.c (λ calls.
          StopsCloning l (get_or source k no_seg) later.cache calls cause over stopped.worker.cache))
          inv.number.limits tried)
          (subst (λ (l : Limits). Ended did side stopped.c end.c l (holds_of_packet clones ++ hold_of over)
          stopped.worker.cache freed_nothing end.worker.cache c.give_up.result)
          (stop.number.limits ∙ inv.number.limits) ends.calls);
      packets = inv.packets;
      hand = ends.lost.hand;
      holds = tt;
      headers = tt;
      unheld = tt;
      holds_err = holds;
      headers_err = λ i.
          same_headers ((side c.args.c.now).headers i) ((side stopped.c).headers i) ((side end.c).headers i)
          ((side c.args.c.now).holds i) ((side end.c).holds i) (bag elems i + bag (hold_of over) i) (holds i)
          (omega (arith, stop.headers i, inv.headers i))
          (λ some.
          new_only (bag elems i) (bag (hold_of over) i) ((side c.args.c.now).holds i)
          ((side c.loop-index.c).holds i) (inv.unheld i) (stop.unheld i)
          (omega (arith, inv.holds i)) some)
          (ends.lost.headers i) (g.met.C.Commons.header_held end.c i) (g.met.C.Commons.header_held c.args.c.now i);
      limits = ends.lost.limits ∙ stop.limits ∙ inv.limits;
      number = record {
        limits = ends.lost.number.limits ∙ stop.number.limits ∙ inv.number.limits;
        number = ends.lost.number.number ∙ stop.number.number ∙ inv.number.number;
      };
    }

-- All segments are cloned, and the clone has no others.
pub returns : goal.returns
returns g c =
    let k = c.loop-index.index in
    let clone = get_or c.loop-index.packets c.args.slot [] in
    let inv = c.loop-index.invariant in
    let is = c.segs-count.ensures.segs ∙ get_or_default c.args.packets.now c.args.source _ [] c.requires.source in
    let source =
    take_all k (get_or c.args.packets.now c.args.source [])
    (omega (arith, c.loop-index-test.false, ap (λ (s : List Seg). length s) is)) in
    let new = take_all k clone (omega (arith, c.loop-index-test.false, inv.len)) in
    record {
      calls = rw (source, new) at inv.cloned;
      packets = inv.packets;
      hand = inv.hand;
      holds = rw new at inv.holds;
      headers = rw new at inv.headers;
      unheld = rw new at inv.unheld;
      holds_err = tt;
      headers_err = tt;
      limits = inv.limits;
      number = inv.number;
    }

-- One segment more is cloned, and its clone stands behind the clones so far.
pub loop-index-preserved : goal.loop-index-preserved
loop-index-preserved g c =
    let did = g.C.Commons.did in
    let side = g.C.Commons.side in
    let k = c.loop-index.index in
    let source = get_or c.args.packets.now c.args.source [] in
    let clones = take k (get_or c.loop-index.packets c.args.slot []) in
    let inv = c.loop-index.invariant in
    let one = c.in-Ok.ensures in
    let worker = c.args.worker.now in
    let later = c.loop-index.worker in
    let left = c.clone_seg.new in
    let new = c.in-Ok.new in
    let now = c.follow.new.packet in
    let within = within_source _ _ k _ _ c.requires.source c.segs-count.ensures.segs c.loop-index-test.true in
    let seg =
    stands_from _ _ _ _ _ _ c.requires.source c.requires.apart inv.packets c.segs.ensures.segs in
    let here =
    stands_clone _ _ _ _ c.index-packets-slot-in-Ok.result c.requires.slot inv.packets refl in
    let step =
    followed c.args.packets.now c.loop-index.packets c.args.slot k new now c.requires.slot inv.packets
    (c.follow.ensures.next ∙ ap (λ (x : List Seg). take k x ++ new ∷ []) here) in
    let tried = rw seg at one.calls in
    let more =
    cloned_more did side c.args.c.now c.loop-index.c left.c worker.limits (take k source)
    (get_or source k no_seg) worker.cache clones new later.cache left.worker.cache inv.cloned
    (subst (λ (l : Limits). Calls did side c.loop-index.c left.c (λ calls.
    ClonesSeg l (get_or source k no_seg) later.cache calls new left.worker.cache)) inv.number.limits tried) in
    record {
      cloned = rw (step.so_far, take_more source k no_seg within) more;
      packets = step.packets;
      len =
          ap (λ (x : List Seg). length x) step.here ∙ c.follow.ensures.len
          ∙ ap (λ (x : List Seg). length x) here ∙ inv.len;
      hand = one.hand;
      holds =
          λ i.
          rw step.so_far (omega (
            arith,
            one.holds i,
            inv.holds i,
            ap (λ (es : List ℕ). bag es i) (holds-more clones new),
            bag-append (holds_of_packet clones) (holds_of_seg new) i,
          ));
      headers = λ i. rw step.so_far (omega (arith, one.headers i, inv.headers i, elems-more clones new i));
      unheld = λ i some.
          let grows = rw step.so_far at some in
          new_only (bag (map (λ (s : Seg). s.elem) clones) i) (bag (new.elem ∷ []) i)
          ((side c.args.c.now).holds i) ((side c.loop-index.c).holds i) (inv.unheld i) (one.unheld i)
          (omega (arith, inv.holds i)) (omega (arith, grows, elems-more clones new i));
      limits = one.limits ∙ inv.limits;
      number = record {
        limits = one.number.limits ∙ inv.number.limits;
        number = one.number.number ∙ inv.number.number;
      };
    }
