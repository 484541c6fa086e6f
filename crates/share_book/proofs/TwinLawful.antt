-- Lists that show a table, each worker of which owns its part of them, leave a lawful snapshot,
-- whatever bases are foreign and whatever guests there are.
use Rattle.std.proofs.Common.{ℕ, ◌≡◌, ◌+◌, ◌<◌, ◌≤◌, inl, inr, Bool, List, [], ◌∷◌, length, get_or, map, None, refl, sym, ap, ◌∙◌, arith}
use Rattle.std.specs.Prelude.{max, min, slice_index, sum_by}
use Rattle.std.specs.List.{range_with_len}
use Rattle.std.proofs.lemmas.Bool.{cases_lt}
use Rattle.std.proofs.lemmas.Bool.Decides.{nat_tests}
use Rattle.std.proofs.lemmas.List.{get_or_past}
use Rattle.std.proofs.lemmas.List.FromFn.{get_or-map-range_with_len, length-map-range_with_len}
use Rattle.commons.specs.Bag.{bag}
use Rattle.commons.specs.Closing.{closed_of, link_in}
use Rattle.commons.specs.declared.place.Place.{Place}
use Rattle.commons.specs.declared.place.Place.TheVariants.{Common, Hand, Held}
use Rattle.commons.specs.Lists.{Lists, IsTable, hand_of, header_of, held_count, in_common, in_hand, nowhere, place_of, weight}
use Rattle.commons.specs.Packets.{own_in}
use Rattle.mbuf.specs.Members.{Member}
use Rattle.pool_statement.specs.declared.guest.Guest.{Guest}
use Rattle.pool_model.specs.Guests.{AreOfWorkers}
use Rattle.pool_model.proofs.Listed.{sum_by-map}
use Rattle.snapshot.specs.Closing.{share_of, snapshot_of}
use Rattle.snapshot.specs.declared.snapshot.ShareData.{ShareData}
use Rattle.snapshot.specs.declared.snapshot.Snapshot.{Snapshot}
use Rattle.snapshot.specs.Snapshots.{IsLawful, times_held, times_own, walk}
use Rattle.book.specs.Left.{AreOfPackets}
use Rattle.book.proofs.Spelled.{IsPlaced, Shows, below, lawful, placed_linked, walk_is}
use Rattle.share_book.proofs.ListSums.{hands_summed, headers_summed, in_hands, no_hands}

-- a worker's number, its hand and its headers are those of its place in the lists
pub record IsPart (s : Lists) (n : ℕ) (m : Member) : Type 0 where
  pub cached : (i : ℕ) → hand_of s (n + 1) i ≡ bag m.cache i
  pub headed : (i : ℕ) → own_in m.table i ≤ header_of s (n + 1) i

-- the snapshot that these workers and guests make with what the lists leave
abbrev pub left_with : Lists → List Member → List Guest → Bool → Snapshot
left_with s members guests foreign =
    record (snapshot_of s.limits (closed_of s) members) { guests = guests; foreign = foreign }

module _ (s : Lists) (members : List Member) (guests : List Guest) (foreign : Bool) (d : Member) (t : IsTable s)
    (many : length members ≡ s.limits.workers)
    (parts : (n : ℕ) → n < length members → IsPart s n (get_or members n d))
    (held : (i : ℕ) → times_held (left_with s members guests foreign) i ≡ held_count (place_of s i)) where
  abbrev snap : Snapshot
  snap = left_with s members guests foreign

  -- what all caches have
  cached : (i : ℕ) → sum_by (λ (share : ShareData). bag share.cache i) snap.shares
      ≡ sum_by (λ (m : Member). bag m.cache i) members
  cached i = sum_by-map (λ (share : ShareData). bag share.cache i) share_of members

  in_reach : (i : ℕ) → i < s.limits.population → 0 < weight (length members) (place_of s i)
  in_reach i within = rw many (t.somewhere i within)

  hands : (i : ℕ) → i < s.limits.population →
      sum_by (λ (m : Member). bag m.cache i) members ≡ in_hands (place_of s i)
  hands i within =
      hands_summed (λ (m : Member). bag m.cache i) d members (place_of s i) (in_reach i within)
      (λ k l. sym ((parts k l).cached i))

  nowhere_past : (i : ℕ) → s.limits.population ≤ i → place_of s i ≡ nowhere
  nowhere_past i past = get_or_past s.places i nowhere (omega (arith, past, t.elements))

  no_caches : (i : ℕ) → s.limits.population ≤ i → sum_by (λ (m : Member). bag m.cache i) members ≡ 0
  no_caches i past =
      no_hands (λ (m : Member). bag m.cache i) d members
      (λ k l. sym (sym (ap (λ (p : Place). in_hand (k + 1) p) (nowhere_past i past)) ∙ (parts k l).cached i))

  -- an element with this place is in one place
  one_place : (p : Place) (workers : ℕ) → 0 < weight workers p → in_common p + in_hands p + min 1 (held_count p) ≡ 1
  one_place Common workers w = refl
  one_place (Hand v) workers w = refl
  one_place (Held n) workers w = omega (arith, w)

  inside : (i : ℕ) → i < s.limits.population → below s.limits.population i ≡ 1
  inside i within = grind (arith, nat_tests)

  outside : (i : ℕ) → s.limits.population ≤ i → below s.limits.population i ≡ 0
  outside i past = grind (arith, nat_tests)

  placed : (i : ℕ) → IsPlaced snap s.common i
  placed i = elim (cases_lt i s.limits.population) [
    | inl within ↦ omega (
      arith,
      t.shown i,
      cached i,
      hands i within,
      held i,
      one_place (place_of s i) (length members) (in_reach i within),
      inside i within,
    )
    | inr past ↦ omega (
      arith,
      t.shown i,
      cached i,
      no_caches i past,
      held i,
      ap in_common (nowhere_past i past),
      ap held_count (nowhere_past i past),
      outside i past,
    )
  ]

  -- each element is the own one of at most one segment
  own_once : (i : ℕ) → times_own snap i ≤ 1
  own_once i = omega (
    arith,
    sum_by-map (λ (share : ShareData). own_in share.slots i) share_of members,
    headers_summed (λ (m : Member). own_in m.table i) d members (get_or s.headers i None)
        (λ k l. (parts k l).headed i),
    t.headers_apart i,
  )

  counted : (i : ℕ) → i < s.limits.population → slice_index snap.counts i ≡ max 1 (times_held snap i)
  counted i within =
      get_or-map-range_with_len (λ k. max 1 (held_count (place_of s k))) 0 s.limits.population i i 0 within (omega arith)
      ∙ ap (λ (n : ℕ). max 1 n) (sym (held i))

  numbers_again : (ms : List Member) → map (λ share. share.worker) (map share_of ms) ≡ map (λ m. m.number) ms
  numbers_again [] = refl
  numbers_again (m ∷ ms) = ap (λ (ns : List ℕ). m.number ∷ ns) (numbers_again ms)

  -- links, counts and shares show the lists
  spelled : map (λ (m : Member). m.number) members ≡ range_with_len 1 s.limits.workers →
      AreOfWorkers s.limits.workers guests → Shows snap s.common
  spelled numbers of_workers = record {
    links = length-map-range_with_len (link_in s.common) 0 s.limits.population;
    counts = length-map-range_with_len (λ k. max 1 (held_count (place_of s k))) 0 s.limits.population;
    desks = t.desks;
    shares = numbers_again members ∙ numbers;
    guests = of_workers;
    top = refl;
    linked = placed_linked snap s.common placed;
    len = refl;
    placed = placed;
    own = own_once;
    counted = counted;
  }

  pub lists_lawful : map (λ (m : Member). m.number) members ≡ range_with_len 1 s.limits.workers →
      AreOfWorkers s.limits.workers guests → AreOfPackets snap → IsLawful snap
  lists_lawful numbers of_workers = lawful snap s.common (spelled numbers of_workers)

  -- its walk is the common list
  pub lists_walk : map (λ (m : Member). m.number) members ≡ range_with_len 1 s.limits.workers →
      AreOfWorkers s.limits.workers guests → walk snap ≡ s.common
  lists_walk numbers of_workers = walk_is snap s.common (spelled numbers of_workers)
