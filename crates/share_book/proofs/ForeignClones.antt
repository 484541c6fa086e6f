-- What a clone into a second pool does over the lists of both pools is what the reference model does.
use Rattle.std.proofs.Common.{ℕ, ◌≡◌, ◌≢◌, ◌+◌, ◌<◌, ◌≤◌, ◌==◌, cond, List, [], ◌∷◌, ◌++◌, length, get_or, get_or-set_same, Option, Some, None, Result, Ok, Err, append_assoc, refl, sym, ap, ◌∙◌, subst, arith}
use Rattle.std.proofs.lemmas.Bool.{cond-true, cond-false, eq-eqb, ne_eqb}
use Rattle.std.proofs.lemmas.List.{append-nil, set-get_or}
use Rattle.std.proofs.lemmas.List.Sums.{get_or-le-sum_by}
use Rattle.std.proofs.lemmas.Grind.{flat_map-append}
use Rattle.commons.specs.Bag.{bag, one}
use Rattle.commons.specs.Calls.{Call, Claim}
use Rattle.commons.specs.declared.limits.Limits.{Limits}
use Rattle.commons.specs.declared.packet.Seg.{Seg}
use Rattle.commons.specs.declared.refusal.Refusal.{Refusal}
use Rattle.commons.specs.declared.refusal.Refusal.TheVariants.{RefSpent}
use Rattle.commons.specs.Lists.{Lists, IsTable, after_claim, held_count, place_of}
use Rattle.commons.specs.Packets.{hold_of, holds_in_slot, holds_of_packet, holds_of_seg, held_in, own_of_packet}
use Rattle.commons.specs.PlainCalls.{LeadsPlain}
use Rattle.commons.proofs.Bags.{bag-nil, bag-append, bag-single}
use Rattle.commons.proofs.PacketBags.{held_in-slot, stands_within}
use Rattle.commons.proofs.PlainCalls.{LeadsPlain-split}
use Rattle.mempool.specs.Caches.{Gets}
use Rattle.mbuf.specs.Acts.{cloned as cloned_reply}
use Rattle.mbuf.specs.declared.freed.Freed.{Freed}
use Rattle.mbuf.specs.Foreign.{CantClone, CloneGivenUp, ClonedInto, ClonesForeign, ClonesForeignSeg, ClonesInto, NoForeignElement, NoForeignRaise, StopsForeign, GivesUpForeign, bases_of_packet}
use Rattle.mbuf.specs.Members.{Member}
use Rattle.mbuf.specs.PacketRules.{free_slot, freed_nothing}
use Rattle.mbuf.specs.Sharing.{attached, buffer_of, clonable}
use Rattle.mbuf.specs.Twins.{TwinMember}
use Rattle.mbuf.proofs.ActLemmas.{clonable_free}
use Rattle.mbuf.proofs.CloneLemmas.{buffer_held}
use Rattle.mbuf.proofs.ForeignLemmas.{bases-more, own-more}
use Rattle.mbuf.proofs.OwnLemmas.{free_slot-is}
use Rattle.pool_model.specs.CacheModel.{get}
use Rattle.pool_model.specs.HoldModel.{end_holds}
use Rattle.pool_model.specs.Pool.{Pool, Shared, member_at, nobody, with_member}
use Rattle.pool_model.specs.TwinModel.{ClonedInto as Cloned, Stocks, TwinDone, TwinPool, clone_into, clone_into_at, clone_segs_into, clone_stands, give_up_into, held_in_first, held_in_second, stocks_of, with_element_into, with_second}
use Rattle.pool_model.proofs.SharedKeep.{clonable_there}
use Rattle.share_book.specs.AsModel.{shared_of}
use Rattle.share_book.specs.inside.TwinStates.{Shows, stocks_with, twins_with}
use Rattle.share_book.proofs.CacheCalls.{got, gets_request}
use Rattle.share_book.proofs.EndedHolds.{Counts, ended, requests_count}
use Rattle.share_book.proofs.ForeignEnds.{foreign_ended}
use Rattle.share_book.proofs.SharedBuffers.{count_raised, counts_claimed, nothing, raise_refused}

module _ (w : ℕ) (l k : Limits) (twins : TwinPool) where
  -- how often packets and foreign clones hold each element of the first pool, and of the second
  abbrev based : ℕ → ℕ
  based = held_in_first twins

  abbrev owned : ℕ → ℕ
  owned = held_in_second twins

  -- ---- segments that are cloned

  -- what was cloned so far, and what is left for the model
  pub record ClonedSoFar (segs rest new more : List Seg) (first_cache cache left : List ℕ) (s s' u u' : Lists)
      : Type 0 where
    pub is : clone_segs_into l k twins segs new (stocks_with first_cache s cache u)
        ≡ clone_segs_into l k twins rest (new ++ more) (stocks_with first_cache s' left u')
    pub based_counts : Counts s' (bases_of_packet (new ++ more)) based
    pub owned_counts : Counts u' (own_of_packet (new ++ more)) owned
    pub table : IsTable u'
    pub limits : s'.limits ≡ l

  -- what the model does once it has an element for the clone of a segment, where it may be refused
  abbrev met : Seg → List Seg → List Seg → ℕ → Stocks → Cloned
  met seg segs new e s =
      cond (based (buffer_of seg) + bag (bases_of_packet new) (buffer_of seg) == l.ref_limit)
      (give_up_into l k twins new (e ∷ []) RefSpent s)
      (clone_segs_into l k twins segs (new ++ attached e seg ∷ []) s)

  -- and where it has none
  abbrev refused : List Seg → Refusal → Stocks → Cloned
  refused new cause s = give_up_into l k twins new [] cause s

  -- the counts once an element is got from the second pool and claimed
  got_and_claimed : (new : List Seg) (u p u' : Lists) (cache left : List ℕ) (e : ℕ) (by : List Call) →
      Gets k cache 1 by (Ok (e ∷ [])) left → LeadsPlain w u by p → LeadsPlain w p (Claim e ∷ []) u' → IsTable u →
      Counts u (own_of_packet new) owned →
      ((Ok (e ∷ []), left, shared_of u') ≡ get k 1 cache (shared_of u)) × Counts u' (own_of_packet new ++ e ∷ []) owned
  got_and_claimed new u p u' cache left e by g led claim table counts =
      let is : u' ≡ after_claim w e p = sym claim.4 ∙ claim.1.1 in
      let got_counts : Counts p (own_of_packet new) owned =
      λ i. requests_count w u by p table (gets_request k cache 1 by (Ok (e ∷ [])) left g) led i ∙ counts i in (
        ap (λ (x : Shared). let r : Result (List ℕ) Refusal × List ℕ × Shared = (Ok (e ∷ []), left, x) in r)
            (ap shared_of is) ∙ got w u k cache 1 by (Ok (e ∷ [])) left p g led,
        subst (λ (x : Lists). Counts x (own_of_packet new ++ e ∷ []) owned) (sym is)
            (counts_claimed p w e (own_of_packet new) owned claim.1.0 got_counts),
      )

  -- a segment that is cloned
  one_cloned : (seg : Seg) (segs new : List Seg) (first_cache cache left : List ℕ) (s s' u u' : Lists)
      (firsts seconds : List Call) (made : Seg) → ClonesForeignSeg k seg cache firsts seconds made left →
      LeadsPlain w s firsts s' → LeadsPlain w u seconds u' → IsTable u → s.limits ≡ l →
      Counts s (bases_of_packet new) based → Counts u (own_of_packet new) owned → 0 < based (buffer_of seg) →
      ClonedSoFar (seg ∷ segs) segs new (made ∷ []) first_cache cache left s s' u u'
  one_cloned seg segs new first_cache cache left s s' u u' firsts seconds made c led led' table limits counts counts'
      some =
      let e = c.elem in
      let b = buffer_of seg in
      let raise = subst (λ (cs : List Call). LeadsPlain w s cs s') c.raised led in
      let p =
      LeadsPlain-split w u c.get (Claim e ∷ []) u'
      (subst (λ (cs : List Call). LeadsPlain w u cs u') c.claimed led') in
      let g = got_and_claimed new u p.0 u' cache left e c.get c.got p.1 p.2 table counts' in
      let here : 0 < held_count (place_of s b) = omega (arith, counts b, some) in
      let below : based b + bag (bases_of_packet new) b ≢ l.ref_limit =
      λ q. absurd (omega (arith, q, raise.1.0, counts b, ap (λ (x : Limits). x.ref_limit) limits)) in
      let stack : shared_of s' ≡ shared_of s = ap shared_of (sym raise.4 ∙ raise.1.1) in
      record {
        is = ap (λ (r : Result (List ℕ) Refusal × List ℕ × Shared).
            with_element_into (stocks_with first_cache s cache u) r (met seg segs new) (refused new)) (sym g.0)
            ∙ cond-false (based b + bag (bases_of_packet new) b == l.ref_limit)
            (give_up_into l k twins new (e ∷ []) RefSpent (stocks_with first_cache s left u'))
            (clone_segs_into l k twins segs (new ++ attached e seg ∷ []) (stocks_with first_cache s left u'))
            (ne_eqb (based b + bag (bases_of_packet new) b) l.ref_limit below)
            ∙ ap (λ (x : Shared). clone_segs_into l k twins segs (new ++ attached e seg ∷ [])
            (record (stocks_with first_cache s left u') { first = x })) (sym stack)
            ∙ ap (λ (x : Seg). clone_segs_into l k twins segs (new ++ x ∷ []) (stocks_with first_cache s' left u'))
            (sym c.is);
        based_counts = λ i.
            ap (λ (x : Lists). held_count (place_of x i)) (sym raise.4 ∙ raise.1.1)
            ∙ omega (
              arith,
              count_raised s w b i here,
              counts i,
              bases-more new made i,
              ap (λ (x : Seg). bag (hold_of x.base) i) c.is,
              bag-single b i,
            );
        owned_counts = λ i. omega (
          arith,
          g.1 i,
          bag-append (own_of_packet new) (e ∷ []) i,
          bag-single e i,
          own-more new made i,
          ap (λ (x : Seg). one x.elem i) c.is,
        );
        table = subst IsTable p.2.4 p.2.3;
        limits = ap (λ (x : Lists). x.limits) (sym raise.4 ∙ raise.1.1) ∙ limits;
      }

  -- segments that are cloned one after another
  cloned_by : (segs rest new : List Seg) (first_cache cache : List ℕ) (s s' u u' : Lists)
      (firsts seconds : List Call) (more : List Seg) (left : List ℕ) →
      ClonesForeign k segs cache firsts seconds more left → LeadsPlain w s firsts s' → LeadsPlain w u seconds u' →
      IsTable u → s.limits ≡ l → Counts s (bases_of_packet new) based → Counts u (own_of_packet new) owned →
      ((i : ℕ) → bag (holds_of_packet segs) i ≤ based i) →
      ClonedSoFar (segs ++ rest) rest new more first_cache cache left s s' u u'
  cloned_by [] rest new first_cache cache s s' u u' firsts seconds more left c led led' table limits counts counts'
      within =
      let e : s ≡ s' = subst (λ (cs : List Call). LeadsPlain w s cs s') c.0 led in
      let e' : u ≡ u' = subst (λ (cs : List Call). LeadsPlain w u cs u') c.1 led' in
      let n : new ++ more ≡ new = ap (λ (x : List Seg). new ++ x) c.2 ∙ append-nil new in
      record {
        is = rw (n, c.3, ← e, ← e') refl;
        based_counts = rw (n, ← e) counts;
        owned_counts = rw (n, ← e') counts';
        table = subst IsTable e' table;
        limits = ap (λ (x : Lists). x.limits) (sym e) ∙ limits;
      }
  cloned_by (seg ∷ segs) rest new first_cache cache s s' u u' firsts seconds more left c led led' table limits counts
      counts' within =
      let p = LeadsPlain-split w s c.0 c.1 s' (subst (λ (cs : List Call). LeadsPlain w s cs s') c.7 led) in
      let q = LeadsPlain-split w u c.2 c.3 u' (subst (λ (cs : List Call). LeadsPlain w u cs u') c.8 led') in
      let some : 0 < based (buffer_of seg) =
      omega (arith, within (buffer_of seg), buffer_held (seg ∷ segs) 0 seg (omega arith)) in
      let a =
      one_cloned seg (segs ++ rest) new first_cache cache c.4 s p.0 u q.0 c.0 c.2 c.5 c.10 p.1 q.1 table limits counts
      counts' some in
      let b =
      cloned_by segs rest (new ++ c.5 ∷ []) first_cache c.4 p.0 s' q.0 u' c.1 c.3 c.6 left c.11 p.2 q.2 a.table a.limits
      a.based_counts a.owned_counts
      (λ i. omega (arith, within i, bag-append (holds_of_seg seg) (holds_of_packet segs) i)) in
      let n : new ++ c.5 ∷ [] ++ c.6 ≡ new ++ more =
      append_assoc new (c.5 ∷ []) c.6 ∙ ap (λ (x : List Seg). new ++ x) (sym c.9) in
      record {
        is = a.is ∙ b.is
            ∙ ap (λ (x : List Seg). clone_segs_into l k twins rest x (stocks_with first_cache s' left u')) n;
        based_counts = rw (← n) b.based_counts;
        owned_counts = rw (← n) b.owned_counts;
        table = b.table;
        limits = b.limits;
      }

  -- ---- a clone that is given up

  -- what is left for the model once a segment isn't cloned
  pub record Stopped (seg : Seg) (segs new : List Seg) (over : Option ℕ) (cause : Refusal)
      (first_cache cache left : List ℕ) (s s' u u' : Lists) : Type 0 where
    pub is : clone_segs_into l k twins (seg ∷ segs) new (stocks_with first_cache s cache u)
        ≡ give_up_into l k twins new (hold_of over) cause (stocks_with first_cache s' left u')
    pub based_counts : Counts s' (bases_of_packet new) based
    pub owned_counts : Counts u' (own_of_packet new) (λ i. bag (hold_of over) i + owned i)

  -- a segment that isn't cloned
  stopped_by : (seg : Seg) (segs new : List Seg) (first_cache cache : List ℕ) (s s' u u' : Lists)
      (firsts seconds : List Call) (cause : Refusal) (over : Option ℕ) (left : List ℕ) →
      StopsForeign k seg cache firsts seconds cause over left → LeadsPlain w s firsts s' → LeadsPlain w u seconds u' →
      IsTable u → s.limits ≡ l → Counts s (bases_of_packet new) based → Counts u (own_of_packet new) owned →
      Stopped seg segs new over cause first_cache cache left s s' u u'
  stopped_by seg segs new first_cache cache s s' u u' firsts seconds cause over left (NoForeignElement f g o a) led led'
      table limits counts counts' =
      let e : s ≡ s' = subst (λ (cs : List Call). LeadsPlain w s cs s') f led in
      let r = got w u k cache 1 seconds (Err cause) cache u' g led' in
      record {
        is = rw (o, a, ← e) (ap (λ (r : Result (List ℕ) Refusal × List ℕ × Shared).
            with_element_into (stocks_with first_cache s cache u) r (met seg segs new) (refused new)) (sym r));
        based_counts = rw (← e) counts;
        owned_counts = rw o (λ i. omega (
          arith,
          requests_count w u seconds u' table (gets_request k cache 1 seconds (Err cause) cache g) led' i,
          counts' i,
          bag-nil i,
        ));
      }
  stopped_by seg segs new first_cache cache s s' u u' firsts seconds cause over left (NoForeignRaise e by f g c o) led
      led' table limits counts counts' =
      let b = buffer_of seg in
      let raise = subst (λ (cs : List Call). LeadsPlain w s cs s') f led in
      let p =
      LeadsPlain-split w u by (Claim e ∷ []) u' (subst (λ (cs : List Call). LeadsPlain w u cs u') c led') in
      let r = got_and_claimed new u p.0 u' cache left e by g p.1 p.2 table counts' in
      let spent = raise_refused w s b cause raise.0 raise.1 in
      let after : s ≡ s' = sym spent.2 ∙ raise.4 in
      let full : based b + bag (bases_of_packet new) b ≡ l.ref_limit =
      omega (arith, spent.1, counts b, ap (λ (x : Limits). x.ref_limit) limits) in
      record {
        is = rw (o, spent.0, ← after) (ap (λ (r : Result (List ℕ) Refusal × List ℕ × Shared).
            with_element_into (stocks_with first_cache s cache u) r (met seg segs new) (refused new)) (sym r.0)
            ∙ cond-true (based b + bag (bases_of_packet new) b == l.ref_limit)
            (give_up_into l k twins new (e ∷ []) RefSpent (stocks_with first_cache s left u'))
            (clone_segs_into l k twins segs (new ++ attached e seg ∷ []) (stocks_with first_cache s left u'))
            (eq-eqb (based b + bag (bases_of_packet new) b) l.ref_limit full));
        based_counts = rw (← after) counts;
        owned_counts = rw o (λ i. omega (arith, r.1 i, bag-append (own_of_packet new) (e ∷ []) i));
      }

  -- a clone that is given up gives back all that it got, and then the element that is left over
  given_up_by : (segs : List Seg) (first_cache cache : List ℕ) (s s' u u' : Lists) (firsts seconds : List Call)
      (cause : Refusal) (first_left left : List ℕ) →
      GivesUpForeign l k segs first_cache cache firsts seconds cause first_left left → LeadsPlain w s firsts s' →
      LeadsPlain w u seconds u' → IsTable u → s.limits ≡ l → Counts s [] based → Counts u [] owned →
      ((i : ℕ) → bag (holds_of_packet segs) i ≤ based i) →
      ◌≡◌ {A = Cloned} (clone_segs_into l k twins segs [] (stocks_with first_cache s cache u))
      (Err cause, stocks_with first_left s' left u')
  given_up_by segs first_cache cache s s' u u' firsts seconds cause first_left left g led led' table limits counts
      counts' within =
      let c = g.calls in
      let a =
      LeadsPlain-split w s (c.first_clone ++ c.first_stop) c.first_end s'
      (subst (λ (cs : List Call). LeadsPlain w s cs s') g.first_called led) in
      let b = LeadsPlain-split w s c.first_clone c.first_stop a.0 a.1 in
      let x =
      LeadsPlain-split w u (c.second_clone ++ c.second_stop ++ c.second_end) c.over_end u'
      (subst (λ (cs : List Call). LeadsPlain w u cs u') g.second_called led') in
      let y = LeadsPlain-split w u (c.second_clone ++ c.second_stop) c.second_end x.0 x.1 in
      let z = LeadsPlain-split w u c.second_clone c.second_stop y.0 y.1 in
      let part : (i : ℕ) → bag (holds_of_packet g.cloned) i ≤ based i =
      λ i.
      omega (
        arith,
        within i,
        ap (λ (x : List Seg). bag (holds_of_packet x) i) g.whole
            ∙ ap (λ (es : List ℕ). bag es i) (flat_map-append holds_of_seg g.cloned (g.seg ∷ g.others)),
        bag-append (holds_of_packet g.cloned) (holds_of_packet (g.seg ∷ g.others)) i,
      ) in
      let done =
      cloned_by g.cloned (g.seg ∷ g.others) [] first_cache cache s b.0 u z.0 c.first_clone c.second_clone g.new g.kept
      g.clones b.1 z.1 table limits counts counts' part in
      let stop =
      stopped_by g.seg g.others g.new first_cache g.kept b.0 a.0 z.0 y.0 c.first_stop c.second_stop cause g.over
      g.stopped g.stops b.2 z.2 done.table done.limits done.based_counts done.owned_counts in
      let ends =
      foreign_ended w l k based (λ i. bag (hold_of g.over) i + owned i) g.new a.0 s' y.0 x.0 first_cache g.stopped
      first_left g.between freed_nothing g.freed c.first_end c.second_end g.ended a.2 y.2 stop.based_counts
      stop.owned_counts in
      let last =
      ended w k owned (hold_of g.over) x.0 u' g.between g.freed c.over_end left g.done g.over_ended x.2
      (λ i. omega (arith, ends.2 i, bag-nil i)) in
      ap (λ (x : List Seg). clone_segs_into l k twins x [] (stocks_with first_cache s cache u)) g.whole ∙ done.is
      ∙ stop.is
      ∙ ap (λ (d : Freed × Stocks). let r : Cloned = (
        Err cause,
        (with_second d.1 (end_holds k owned (hold_of g.over) (d.0, d.1.second_cache, d.1.second))).1,
      ) in r) ends.0
      ∙ ap (λ (d : Freed × List ℕ × Shared). let r : Cloned = (
        Err cause,
        (with_second (stocks_with first_left s' g.between x.0) d).1,
      ) in r) (sym last)

-- ---- the call

-- a packet of a worker of the first pool holds no more than all that hold elements of it
within_first : (twins : TwinPool) (n : ℕ) (m : Member) (slot : ℕ) (segs : List Seg) (i : ℕ) →
    n < length twins.first.members → member_at twins.first n ≡ m → get_or m.table slot None ≡ Some segs →
    bag (holds_of_packet segs) i ≤ held_in_first twins i
within_first twins n m slot segs i here is there =
    omega (
      arith,
      ap (λ (o : Option (List Seg)). bag (holds_in_slot o) i) there,
      held_in-slot m.table slot i (stands_within m.table slot segs there),
      ap (λ (x : Member). held_in x.table i) is,
      get_or-le-sum_by (λ (x : Member). held_in x.table i) twins.first.members n (nobody twins.first.limits) here,
    )

-- a pool in which a worker has what it had, and all share what they shared, is as it was
pub stays : (pool : Pool) (n : ℕ) (m : Member) (x : Shared) → m ≡ member_at pool n → x ≡ pool.shared →
    with_member pool n m x ≡ pool
stays pool n m x same shared =
    rw (same, shared)
    (ap (λ (ms : List Member). let p : Pool = record pool { members = ms } in p)
    (set-get_or pool.members n (nobody pool.limits)))

-- the caches of a worker and both stacks, as the lists show them
pub stocks : (twins : TwinPool) (n : ℕ) (s u : Lists) (t : TwinMember) → Shows twins n s u t →
    stocks_of twins n ≡ stocks_with t.first.cache s t.second.cache u
stocks twins n s u t h = rw (h.first_member, h.second_member, h.first_shared, h.second_shared) refl

-- what is to be cloned, and the slot of the clone, as the worker has them
found : (twins : TwinPool) (n : ℕ) (s u : Lists) (t : TwinMember) (source : ℕ) → Shows twins n s u t →
    clonable (get_or (member_at twins.first n).table source None) (free_slot (member_at twins.second n).table)
    ≡ clonable (get_or t.first.table source None) (free_slot t.second.table)
found twins n s u t source h = rw (h.first_member, h.second_member) refl

-- where the packet and a slot are found, the clone is what its segments become
opened : (twins : TwinPool) (n : ℕ) (s u : Lists) (t : TwinMember) (source : ℕ) (segs : List Seg) (slot : ℕ)
    (done : Cloned) → Shows twins n s u t →
    clonable (get_or t.first.table source None) (free_slot t.second.table) ≡ Ok (segs, slot) →
    clone_segs_into t.first.limits t.second.limits twins segs [] (stocks_with t.first.cache s t.second.cache u) ≡ done →
    clone_into twins n source ≡ clone_stands twins n slot done
opened twins n s u t source segs slot done h f is =
    ap (clone_into_at twins n) (found twins n s u t source h ∙ f)
    ∙ ap (clone_stands twins n slot) (
    ap (λ (x : Limits). clone_segs_into x twins.second.limits twins segs [] (stocks_of twins n))
    (h.first_limits ∙ sym h.first_of)
    ∙ ap (λ (x : Limits). clone_segs_into t.first.limits x twins segs [] (stocks_of twins n))
    (h.second_limits ∙ sym h.second_of)
    ∙ ap (λ (x : Stocks). clone_segs_into t.first.limits t.second.limits twins segs [] x)
    (stocks twins n s u t h) ∙ is)

-- A clone into the second pool is the model's: where there is no packet or no slot both pools are as
-- they were, else segment by segment the calls are the model's, and one that stops gives back all.
pub cloned_into_by : (twins : TwinPool) (n w : ℕ) (s u s' u' : Lists) (t after : TwinMember) (source : ℕ)
    (firsts seconds : List Call) (answer : Result ℕ Refusal) →
    ClonesInto t.first t.second source firsts seconds answer after.first after.second → LeadsPlain w s firsts s' →
    LeadsPlain w u seconds u' → Shows twins n s u t →
    ◌≡◌ {A = TwinDone} (cloned_reply answer after.second.table, twins_with twins n after s' u')
    (clone_into twins n source)
cloned_into_by twins n w s u s' u' t after source firsts seconds answer (CantClone cause f c c' a k k') led led' h =
    let first =
    stays twins.first n after.first (shared_of s') (k ∙ sym h.first_member)
    (nothing w s s' firsts c led ∙ sym h.first_shared) in
    let second =
    stays twins.second n after.second (shared_of u') (k' ∙ sym h.second_member)
    (nothing w u u' seconds c' led' ∙ sym h.second_shared) in
    rw (a, first, second) (sym (ap (clone_into_at twins n) (found twins n s u t source h ∙ f)))
cloned_into_by twins n w s u s' u' t after source firsts seconds answer (ClonedInto segs slot f new left g a k k') led
    led' h =
    let free = clonable_free (get_or t.first.table source None) (free_slot t.second.table) segs slot f in
    let here = clonable_there (get_or t.first.table source None) (free_slot t.second.table) segs slot f in
    let there = get_or-set_same t.second.table slot (Some new) None (free_slot-is t.second.table slot free).0 in
    let done =
    cloned_by w t.first.limits t.second.limits twins segs [] [] t.first.cache t.second.cache s s' u u' firsts seconds
    new left g led led' h.second_table (sym h.first_of) (λ i. omega (arith, h.first_held i, bag-nil i))
    (λ i. omega (arith, h.second_held i, bag-nil i))
    (λ i. within_first twins n t.first source segs i h.first_here h.first_member here) in
    let is =
    ap (λ (x : List Seg). clone_segs_into t.first.limits t.second.limits twins x []
    (stocks_with t.first.cache s t.second.cache u)) (sym (append-nil segs)) ∙ done.is in
    rw (a, k, k', there, opened twins n s u t source segs slot (Ok new, stocks_with t.first.cache s' left u') h f is)
    (rw (h.first_member, h.second_member) refl)
cloned_into_by twins n w s u s' u' t after source firsts seconds answer
    (CloneGivenUp segs slot f cause first_left left g a k k') led led' h =
    let here = clonable_there (get_or t.first.table source None) (free_slot t.second.table) segs slot f in
    let is =
    given_up_by w t.first.limits t.second.limits twins segs t.first.cache t.second.cache s s' u u' firsts seconds cause
    first_left left g led led' h.second_table (sym h.first_of) (λ i. omega (arith, h.first_held i, bag-nil i))
    (λ i. omega (arith, h.second_held i, bag-nil i))
    (λ i. within_first twins n t.first source segs i h.first_here h.first_member here) in
    rw (a, k, k', opened twins n s u t source segs slot (Err cause, stocks_with first_left s' left u') h f is)
    (rw (h.first_member, h.second_member) refl)
