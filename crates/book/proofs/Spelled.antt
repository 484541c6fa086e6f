-- A snapshot whose links spell a common list, in which each element is in one place and its count
-- is the number of its holds, is lawful, where packets are packets.
use Rattle.std.proofs.Common.{ℕ, ◌≡◌, ◌+◌, ◌<◌, ◌≤◌, inl, inr, nat_lt, cond, List, [], ◌∷◌, ◌++◌, length, map, sym, ap, ◌∙◌, arith}
use Rattle.std.specs.Prelude.{All, min, max, slice_index, sum_by}
use Rattle.std.specs.List.{range_with_len}
use Rattle.std.proofs.lemmas.Bool.{cases_lt}
use Rattle.std.proofs.lemmas.Bool.Decides.{nat_tests}
use Rattle.std.proofs.lemmas.List.{append-nil}
use Rattle.commons.specs.Bag.{bag}
use Rattle.commons.specs.Closing.{link_in, top_word}
use Rattle.commons.proofs.Bags.{length-le}
use Rattle.commons.proofs.Tables.{all_below}
use Rattle.pool_model.specs.Guests.{AreOfWorkers}
use Rattle.snapshot.specs.declared.snapshot.Snapshot.{Snapshot}
use Rattle.snapshot.specs.Snapshots.{elements_of, IsLawful, times_held, times_own, walk, words_from, words_met}
use Rattle.snapshot.proofs.FollowedLinks.{AreLinked, linked, words_linked}
use Rattle.snapshot.proofs.Walks.{IsBelow, elements_after, words_and, words_of}
use Rattle.book.specs.Left.{AreOfPackets}

-- 1 below the population, and 0 from there on
abbrev pub below : ℕ → ℕ → ℕ
below population i = cond (nat_lt i population) 1 0

-- the elements of the common list, of caches, and what is held, are each element of the pool once
abbrev pub IsPlaced : Snapshot → List ℕ → ℕ → Type 0
IsPlaced s common i =
    bag common i + sum_by (λ share. bag share.cache i) s.shares + min 1 (times_held s i) ≡ below s.limits.population i

-- The links spell the common list, and each element is in one place; counts are the numbers of
-- holds, and each element is the own one of at most one segment.
pub record Shows (s : Snapshot) (common : List ℕ) : Type 0 where
  pub links : length s.links ≡ s.limits.population
  pub counts : length s.counts ≡ s.limits.population
  pub desks : length s.desks ≡ s.limits.desks
  pub shares : map (λ share. share.worker) s.shares ≡ range_with_len 1 s.limits.workers
  pub guests : AreOfWorkers s.limits.workers s.guests
  pub top : s.top ≡ top_word common
  pub linked : AreLinked s.links common
  pub len : s.length ≡ length common
  pub placed : (i : ℕ) → IsPlaced s common i
  pub own : (i : ℕ) → times_own s i ≤ 1
  pub counted : (i : ℕ) → i < s.limits.population → slice_index s.counts i ≡ max 1 (times_held s i)

past_none : (i n : ℕ) → n ≤ i → below n i ≡ 0
past_none i n h = grind (arith, nat_tests)

within_one : (i n : ℕ) → i < n → below n i ≡ 1
within_one i n h = grind (arith, nat_tests)

at_most_one : (i n : ℕ) → below n i ≤ 1
at_most_one i n = grind (arith, nat_tests)

module _ (s : Snapshot) (common : List ℕ) (placed : (i : ℕ) → IsPlaced s common i) where
  common_past : (i : ℕ) → s.limits.population ≤ i → bag common i ≡ 0
  common_past i past = omega (arith, placed i, past_none i s.limits.population past)

  common_once : (i : ℕ) → bag common i ≤ 1
  common_once i = omega (arith, placed i, at_most_one i s.limits.population)

  common_within : (i : ℕ) → 0 < bag common i → i < s.limits.population
  common_within i there =
      elim (cases_lt i s.limits.population)
      [ inl h ↦ h | inr past ↦ absurd (omega (arith, there, common_past i past)) ]

  -- the links of a list that is placed lead through it
  pub placed_linked : AreLinked (map (link_in common) (range_with_len 0 s.limits.population)) common
  placed_linked = linked s.limits.population common common_within common_once

module _ (s : Snapshot) (common : List ℕ) (h : Shows s common) where
  all_within : All (IsBelow s.limits.population) common
  all_within = all_below s.limits.population common (common_past s common h.placed)

  short : length common ≤ s.limits.population
  short = length-le s.limits.population common (common_once s common h.placed) (common_past s common h.placed)

  words_are : words_met s ≡ words_of common ++ 0 ∷ []
  words_are =
      ap (words_from s.limits.population s.limits.population s.links) h.top
      ∙ words_linked s.limits.population s.limits.population s.links common h.linked all_within short

  -- the walk is the common list
  pub walk_is : walk s ≡ common
  walk_is =
      ap (elements_of s.limits.population) words_are
      ∙ elements_after s.limits.population common (0 ∷ []) all_within
      ∙ append-nil common

  -- each element is in one place, and links, counts and shares show that place
  pub lawful : AreOfPackets s → IsLawful s
  lawful typed = record {
    shape = record {
      links = h.links;
      counts = h.counts;
      desks = h.desks;
      shares = h.shares;
      places = typed.places;
      guests = h.guests;
      few = typed.few;
    };
    words = words_and s common 0 all_within (omega arith) words_are;
    ends = omega (arith, ap length walk_is, short);
    len = h.len ∙ sym (ap length walk_is);
    known = λ e past. omega (arith, h.placed e, past_none e s.limits.population past);
    packets = typed.packets;
    own_once = h.own;
    once =
        λ e within.
        omega (arith, ap (λ (xs : List ℕ). bag xs e) walk_is, h.placed e, within_one e s.limits.population within);
    counted = h.counted;
  }
