-- What a ground left that one view with every part closed: that view has all that views have.
use Rattle.std.proofs.Common.{ℕ, ◌≡◌, ◌≢◌, ◌+◌, ◌<◌, ◌≤◌, inl, inr, Bool, List, [], ◌∷◌, length, map, Option, refl, sym, ap, ◌∙◌, subst, arith}
use Rattle.std.specs.Prelude.{max, min, slice_index, sum_by}
use Rattle.std.specs.List.{range_with_len}
use Rattle.std.proofs.lemmas.Bool.{cases_lt}
use Rattle.std.proofs.lemmas.Bool.Decides.{nat_tests}
use lib.ListN.{length-map}
use Rattle.commons.specs.Bag.{bag}
use Rattle.commons.specs.declared.closed.Closed.{Closed}
use Rattle.commons.specs.declared.limits.Limits.{Limits}
use Rattle.commons.specs.declared.packet.Seg.{Seg}
use Rattle.commons.specs.Packets.{held_in, own_in}
use Rattle.mbuf.specs.Members.{Member}
use Rattle.pool_statement.specs.declared.guest.Guest.{Guest}
use Rattle.pool_model.specs.Guests.{AreOfWorkers}
use Rattle.pool_model.proofs.Listed.{sum_by-map}
use Rattle.step_core.specs.Bags.{below}
use Rattle.step_core.specs.declared.view.View.{View}
use Rattle.step_core.specs.Headers.{all_headers}
use Rattle.step_core.specs.World.{World, all_holds, all_zeros, credits, empty_view, hands, link_in, view_at}
use Rattle.step_core.proofs.Bags.{below-at, below-past, times-nil}
use Rattle.step_core.proofs.StackSteps.{one_view}
use Rattle.ground.specs.Closing.{Nothing, packet_on}
use Rattle.ground.proofs.Playing.{view_there}
use Rattle.snapshot.specs.Closing.{share_of, snapshot_of}
use Rattle.snapshot.specs.declared.snapshot.ShareData.{ShareData}
use Rattle.snapshot.specs.declared.snapshot.Snapshot.{Snapshot}
use Rattle.snapshot.specs.Snapshots.{times_held}
use Rattle.snapshot.proofs.FollowedLinks.{AreLinked}
use Rattle.book.proofs.Spelled as at_most
use Rattle.book.proofs.Spelled.{Shows}
use Rattle.word_pool.specs.Leaving.{IsLeftAtRest}
use Rattle.word_pool.proofs.Desks.{shelves_held, shelves_own}
use Rattle.word_pool.proofs.Sums.{alone_sum}
use Rattle.word_pool.proofs.Walked.{linked_by, top_of}

-- the snapshot that these workers and guests make with what was left
abbrev pub left_with : Limits → Closed → List Member → List Guest → Bool → Snapshot
left_with l c members guests foreign = record (snapshot_of l c members) { guests = guests; foreign = foreign }

inside : (i n : ℕ) → i < n → at_most.below n i ≡ 1
inside i n h = grind (arith, nat_tests)

outside : (i n : ℕ) → n ≤ i → at_most.below n i ≡ 0
outside i n h = grind (arith, nat_tests)

-- one below a number, in either form
same_below : (n i : ℕ) → at_most.below n i ≡ below n i
same_below n i = elim (cases_lt i n) [
  | inl within ↦ inside i n within ∙ sym (below-at n i within)
  | inr past ↦ outside i n past ∙ sym (below-past n i past)
]

workers_again : (ms : List Member) → map (λ share. share.worker) (map share_of ms) ≡ map (λ m. m.number) ms
workers_again [] = refl
workers_again (m ∷ ms) = ap (λ (ns : List ℕ). m.number ∷ ns) (workers_again ms)

module _ (l : Limits) (c : Closed) (v : View) (h : IsLeftAtRest l c v) where
  abbrev w : World
  w = h.left.world

  abbrev pub common : List ℕ
  common = h.left.law.common

  pub population_is : w.limits.population ≡ l.population
  population_is = ap (λ (k : Limits). k.population) h.left.limits

  is : view_at w.views h.left.id ≡ v
  is = (view_there w.views h.left.id v h.left.view).1

  -- of what the other views have nothing, all have as much as the one
  of_view : (f : View → ℕ) → f (empty_view 0) ≡ 0 →
      ((j : ℕ) → j ≢ h.left.id → f (view_at w.views j) ≡ 0) → sum_by f w.views ≡ f v
  of_view f none others =
      alone_sum f w.views h.left.id (view_there w.views h.left.id v h.left.view).0 none others
      ∙ ap f is

  others : (j : ℕ) → j ≢ h.left.id → Nothing (view_at w.views j)
  others = h.left.alone h.whole

  hands_are : (i : ℕ) → hands i w.views ≡ bag v.hand i
  hands_are i =
      of_view (λ x. bag x.hand i) (times-nil i)
      (λ j ne. ap (λ xs. bag xs i) (others j ne).hand ∙ times-nil i)

  no_zeros : (i : ℕ) → all_zeros i w.views ≡ 0
  no_zeros i =
      of_view (λ x. bag x.zeros i) (times-nil i)
      (λ j ne. ap (λ xs. bag xs i) (others j ne).zeros ∙ times-nil i)
      ∙ ap (λ xs. bag xs i) h.rest.zeros ∙ times-nil i

  holds_are : (i : ℕ) → all_holds i w.views w.desks ≡ bag v.holds i + held_in c.desks i
  holds_are i =
      let views = of_view (λ x. bag x.holds i) (times-nil i)
      (λ j ne. ap (λ xs. bag xs i) (others j ne).holds ∙ times-nil i) in
      let desks = ap (λ (ps : List (Option (List Seg))). held_in ps i) h.left.desks ∙ shelves_held w.desks i in
      omega arith

  no_credit : credits w.views ≡ 0
  no_credit = of_view (λ x. x.credit) refl (λ j ne. (others j ne).credit) ∙ h.rest.credit

  -- ---- what is shown of each element

  placed : (i : ℕ) → bag common i + bag v.hand i + min 1 (bag v.holds i + held_in c.desks i) ≡ below l.population i
  placed i =
      let place = h.left.law.places.one_place i in
      let bound = ap (λ (n : ℕ). below n i) population_is in
      let a = hands_are i in
      let b = no_zeros i in
      let d = holds_are i in
      omega arith

  headers_once : (i : ℕ) → bag v.headers i + own_in c.desks i ≤ 1
  headers_once i =
      let one = one_view (λ x. bag x.headers i) w.views h.left.id (times-nil i) in
      let same = ap (λ (x : View). bag x.headers i) is in
      let desks = ap (λ (ps : List (Option (List Seg))). own_in ps i) h.left.desks ∙ shelves_own w.desks i in
      let once : all_headers i w.views w.desks ≤ 1 = h.left.headers.once i in
      omega arith

  counted : (i : ℕ) → i < l.population → slice_index c.counts i ≡ max 1 (bag v.holds i + held_in c.desks i)
  counted i within =
      let inside : i < w.limits.population = omega (arith, population_is) in
      let count = h.left.law.counts.counted i inside in
      let read = ap (λ (xs : List ℕ). slice_index xs i) h.left.counts in
      let a = no_zeros i in
      let b = holds_are i in
      omega arith

  -- no element is held more often than the reference limit
  pub held_few : (i : ℕ) → bag v.holds i + held_in c.desks i ≤ l.ref_limit
  held_few i = elim (cases_lt i l.population) [
    | inl within ↦
        let read = ap (λ (xs : List ℕ). slice_index xs i) h.left.counts in
        let limit = ap (λ (k : Limits). k.ref_limit) h.left.limits in
        omega (arith, counted i within, h.left.law.ranges.counts_in_range i)
    | inr past ↦ omega (arith, placed i, below-past l.population i past)
  ]

  long : c.length ≡ length common
  long =
      let credited = h.left.law.lengths.credited in
      omega (arith, h.left.length, no_credit)

  -- ---- with shares that are what the view has

  pub words_show : (members : List Member) (guests : List Guest) (foreign : Bool) →
      ((i : ℕ) → sum_by (λ (m : Member). bag m.cache i) members ≡ bag v.hand i) →
      ((i : ℕ) → times_held (left_with l c members guests foreign) i ≡ bag v.holds i + held_in c.desks i) →
      ((i : ℕ) → sum_by (λ (m : Member). own_in m.table i) members ≤ bag v.headers i) →
      map (λ (m : Member). m.number) members ≡ range_with_len 1 l.workers → AreOfWorkers l.workers guests →
      Shows (left_with l c members guests foreign) common
  words_show members guests foreign caches held headers numbers of_workers = record {
    links = ap length h.left.links ∙ (h.left.law.ranges.links ∙ population_is);
    counts = ap length h.left.counts ∙ (h.left.law.ranges.counts ∙ population_is);
    desks = ap length h.left.desks ∙ (length-map w.desks packet_on ∙ h.left.desk_count);
    shares = workers_again members ∙ numbers;
    guests = of_workers;
    top = h.left.top ∙ top_of (link_in w.links) w.head.top common h.left.law.places.spelled;
    linked = subst (λ (links : List ℕ). AreLinked links common) (sym h.left.links)
        (linked_by w.links w.head.top common h.left.law.places.spelled);
    len = long;
    placed = λ i. omega (
      arith,
      placed i,
      sum_by-map (λ (share : ShareData). bag share.cache i) share_of members,
      caches i,
      held i,
      same_below l.population i,
    );
    own = λ i. omega (
      arith,
      sum_by-map (λ (share : ShareData). own_in share.slots i) share_of members,
      headers i,
      headers_once i,
    );
    counted = λ i within. counted i within ∙ ap (λ (n : ℕ). max 1 n) (sym (held i));
  }
