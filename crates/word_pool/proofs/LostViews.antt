-- What lost workers have is what is nowhere in what is left.
use Rattle.std.proofs.Common.{ℕ, ◌≡◌, ◌+◌, ◌<◌, ◌≤◌, inl, inr, List, [], ◌∷◌, ◌++◌, length, Option, sym, ap, ◌∙◌, subst, arith}
use Rattle.std.specs.Prelude.{All, min}
use Rattle.std.proofs.lemmas.Bool.{cases_lt}
use Rattle.std.proofs.lemmas.List.{append-nil}
use Rattle.book.specs.Lost.{cached_by}
use Rattle.commons.specs.Bag.{bag}
use Rattle.commons.specs.declared.closed.Closed.{Closed}
use Rattle.commons.specs.declared.limits.Limits.{Limits}
use Rattle.commons.specs.declared.packet.Seg.{Seg}
use Rattle.commons.specs.Packets.{held_in}
use Rattle.commons.proofs.Bags.{length-le}
use Rattle.commons.proofs.Tables.{all_below}
use Rattle.mbuf.specs.Members.{Member}
use Rattle.pool_model.specs.Pool.{held_by}
use Rattle.pool_model.proofs.Listed.{sum_by-map}
use Rattle.step_core.specs.Bags.{below}
use Rattle.step_core.specs.declared.view.View.{View}
use Rattle.step_core.specs.World.{World, all_zeros, hands, link_in}
use Rattle.step_core.proofs.Bags.{below-at, below-le, below-past}
use Rattle.snapshot.specs.Closing.{share_of, snapshot_of}
use Rattle.snapshot.specs.declared.snapshot.ShareData.{ShareData}
use Rattle.snapshot.specs.declared.snapshot.Snapshot.{Snapshot}
use Rattle.snapshot.specs.Lost.{AreLost}
use Rattle.snapshot.specs.Snapshots.{elements_of, times_free, times_held, walk, words_from, words_met}
use Rattle.snapshot.proofs.FollowedLinks.{AreLinked, words_linked}
use Rattle.snapshot.proofs.Times.{held-is}
use Rattle.snapshot.proofs.Walks.{IsBelow, elements_after, words_of}
use Rattle.word_pool.specs.LostViews.{AreLostBy, IsLeftWithout, IsLostBy, holds_by}
use Rattle.word_pool.proofs.Desks.{shelves_held}
use Rattle.word_pool.proofs.Walked.{linked_by, top_of}

module _ (l : Limits) (lost : List View) (members : List Member) (c : Closed) (h : IsLeftWithout l lost members c) where
  abbrev w : World
  w = h.world

  abbrev common : List ℕ
  common = h.law.common

  abbrev s : Snapshot
  s = snapshot_of l c members

  population_is : w.limits.population ≡ l.population
  population_is = ap (λ (k : Limits). k.population) h.limits

  -- each element is in one place: in the common list, with one of these members or one who is lost,
  -- or on a desk
  placed : (i : ℕ) →
      bag common i + (cached_by members i + (hands i lost + all_zeros i lost))
      + min 1 (held_by members i + held_in c.desks i + holds_by lost i)
      ≡ below l.population i
  placed i =
      let place = h.law.places.one_place i in
      let bound = ap (λ (n : ℕ). below n i) population_is in
      let desks = ap (λ (ps : List (Option (List Seg))). held_in ps i) h.desks ∙ shelves_held w.desks i in
      let a = h.hands i in
      let b = h.zeros i in
      let d = h.holds i in
      omega arith

  common_past : (i : ℕ) → l.population ≤ i → bag common i ≡ 0
  common_past i past = omega (arith, placed i, below-past l.population i past)

  common_once : (i : ℕ) → bag common i ≤ 1
  common_once i = omega (arith, placed i, below-le l.population i)

  common_below : All (IsBelow l.population) common
  common_below = all_below l.population common common_past

  common_short : length common ≤ l.population
  common_short = length-le l.population common common_once common_past

  -- the walk is the common list
  words_are : words_met s ≡ words_of common ++ 0 ∷ []
  words_are =
      ap (words_from l.population l.population c.links)
      (h.top ∙ top_of (link_in w.links) w.head.top common h.law.places.spelled)
      ∙ words_linked l.population l.population c.links common
      (subst (λ (links : List ℕ). AreLinked links common) (sym h.links)
      (linked_by w.links w.head.top common h.law.places.spelled)) common_below common_short

  walk_is : walk s ≡ common
  walk_is =
      ap (elements_of l.population) words_are
      ∙ elements_after l.population common (0 ∷ []) common_below
      ∙ append-nil common

  free_is : (i : ℕ) → times_free s i ≡ bag common i + cached_by members i
  free_is i =
      let walked = ap (λ (xs : List ℕ). bag xs i) walk_is in
      let caches = sum_by-map (λ (share : ShareData). bag share.cache i) share_of members in
      omega arith

  held_is : (i : ℕ) → times_held s i ≡ held_by members i + held_in c.desks i
  held_is i =
      omega (arith, held-is s i, sum_by-map (λ (share : ShareData). held_in share.slots i) share_of members)

  -- what stands nowhere is lost by them
  nowhere_lost : (e : ℕ) → e < l.population → times_free s e + times_held s e ≡ 0 → IsLostBy lost members c e
  nowhere_lost e within none = elim (cases_lt 0 (hands e lost + all_zeros e lost)) [
    | inl some ↦ inl some
    | inr empty ↦ inr (
      omega (arith, empty, none, placed e, free_is e, held_is e, below-at l.population e within),
      omega (arith, none, held_is e),
    )
  ]

  -- and what is lost by them stands nowhere
  lost_nowhere : (e : ℕ) → IsLostBy lost members c e → times_free s e + times_held s e ≡ 0
  lost_nowhere e (inl some) = omega (arith, some, placed e, free_is e, held_is e, below-le l.population e)
  lost_nowhere e (inr alone) =
      let some = alone.0 in
      let none = alone.1 in
      omega (arith, placed e, free_is e, held_is e, below-le l.population e)

  pub lost_by : (elems : List ℕ) → AreLost s elems → AreLostBy l lost members c elems
  lost_by elems are = record {
    ascending = are.ascending;
    exactly = λ e. (
      λ there. let is = (are.exactly e).0 there in (is.0, nowhere_lost e is.0 is.1),
      λ is. (are.exactly e).1 (is.0, lost_nowhere e is.1),
    );
  }
