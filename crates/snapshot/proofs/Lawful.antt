-- A snapshot is lawful exactly where it has no fault.
use Rattle.std.proofs.Common.{ℕ, ◌≡◌, ◌+◌, ◌*◌, ◌<◌, ◌≤◌, inl, inr, List, [], ◌∷◌, length, map, get_or, refl, arith}
use Rattle.std.specs.Prelude.{All, min, max, slice_index, ◌↔◌}
use Rattle.std.specs.List.{range_with_len}
use Rattle.std.proofs.lemmas.Bool.{cases_eq, cases_lt}
use Rattle.std.proofs.lemmas.List.Elements.{All-from_get_or, All-get_or, Contains-get_or}
use Rattle.commons.specs.Packets.{HasItsData, IsPacket, max_segs, no_seg}
use Rattle.commons.specs.declared.packet.Seg.{Seg}
use Rattle.pool_statement.specs.declared.guest.Guest.{Guest}
use Rattle.snapshot.specs.declared.fault.Fault.{Fault}
use Rattle.snapshot.specs.declared.fault.Fault.TheVariants.{BadShape, BadTop, Loop, BadLength, BadPacket, DoubleHeader, Doubled, Lost, BadCount, OutOfMemory}
use Rattle.snapshot.specs.declared.snapshot.ShareData.{ShareData}
use Rattle.snapshot.specs.declared.snapshot.Snapshot.{Snapshot}
use Rattle.snapshot.specs.Faults.{IsFault, IsCleanBelow}
use Rattle.snapshot.specs.Snapshots.{HasShape, IsLawful, most_guests, most_places, times_free, times_held, times_own, walk, words_met}
use Rattle.snapshot.proofs.HostedGuests.{no_guest}
use Rattle.snapshot.proofs.Clean.{clean_shape, clean_words, clean_ends, clean_length, clean_elements, clean_packets, clean_own, clean_once, clean_counted, known_clean}

-- a lawful snapshot has no fault of any kind
pub lawful_clean : (s : Snapshot) → IsLawful s → IsCleanBelow 10 s
lawful_clean s h =
    clean_counted s (clean_once s (clean_own s (clean_packets s
    (clean_elements s (clean_length s (clean_ends s (clean_words s
    (clean_shape s h.shape) h.words) h.ends) h.len) h.known) h.packets) h.own_once) h.once) h.counted

-- a fault has one of the ten kinds, and none of them is left
no_fault : (s : Snapshot) → IsCleanBelow 10 s → (f : Fault) → IsFault s f → ⊥
no_fault s c OutOfMemory h = h
no_fault s c f h = omega (arith, c f h)

-- numbers, and lists of them, are equal or not
eq_stable : (a b : ℕ) → ((a ≡ b → ⊥) → ⊥) → a ≡ b
eq_stable a b h = elim (cases_eq a b) [ inl e ↦ e | inr e ↦ absurd (h e) ]

-- two lists that can't differ are equal, element by element
list_stable : (xs ys : List ℕ) → ((xs ≡ ys → ⊥) → ⊥) → xs ≡ ys
list_stable [] [] h = refl
list_stable [] (y ∷ ys) h = absurd (h (λ e. cc))
list_stable (x ∷ xs) [] h = absurd (h (λ e. cc))
list_stable (x ∷ xs) (y ∷ ys) h =
    let first : x ≡ y = eq_stable x y (λ no. h (λ e. no (cc))) in
    let rest : xs ≡ ys = list_stable xs ys (λ no. h (λ e. no (cc))) in
    cc

le_stable : (a b : ℕ) → ((a ≤ b → ⊥) → ⊥) → a ≤ b
le_stable a b h = elim (cases_lt b a) [ inl l ↦ absurd (h (λ k. omega arith)) | inr l ↦ l ]

-- so a snapshot has its shape or not
pub shape_stable : (s : Snapshot) → ((HasShape s → ⊥) → ⊥) → HasShape s
shape_stable s h = record {
  links = eq_stable (length s.links) s.limits.population (λ no. h (λ is. no is.links));
  counts = eq_stable (length s.counts) s.limits.population (λ no. h (λ is. no is.counts));
  desks = eq_stable (length s.desks) s.limits.desks (λ no. h (λ is. no is.desks));
  shares = list_stable (map (λ (share : ShareData). share.worker) s.shares) (range_with_len 1 s.limits.workers)
      (λ no. h (λ is. no is.shares));
  places = λ i d l. le_stable (length (get_or s.shares i d).slots) most_places
      (λ no. h (λ is. no (is.places i d l)));
  guests = All-from_get_or (λ (guest : Guest). (1 ≤ guest.worker) × (guest.worker ≤ s.limits.workers)) s.guests no_guest
      (λ i l.
      let guest = get_or s.guests i no_guest in
      let of_pool = λ (guest : Guest). (1 ≤ guest.worker) × (guest.worker ≤ s.limits.workers) in (
        le_stable 1 guest.worker (λ no. h (λ is. no (All-get_or of_pool s.guests i no_guest l is.guests).0)),
        le_stable guest.worker s.limits.workers
            (λ no. h (λ is. no (All-get_or of_pool s.guests i no_guest l is.guests).1)),
      ));
  few = le_stable (length s.guests) (s.limits.workers * most_guests) (λ no. h (λ is. no is.few));
}

-- and segments are a packet or not
packet_stable : (segs : List Seg) → ((IsPacket segs → ⊥) → ⊥) → IsPacket segs
packet_stable segs h = record {
  some = le_stable 1 (length segs) (λ no. h (λ is. no is.some));
  few = le_stable (length segs) max_segs (λ no. h (λ is. no is.few));
  each = All-from_get_or HasItsData segs no_seg (λ i l. le_stable
      ((get_or segs i no_seg).data_off + (get_or segs i no_seg).data_len) (get_or segs i no_seg).buf_len
      (λ no. h (λ is. no (All-get_or HasItsData segs i no_seg l is.each))));
}

-- each word that is met is one of the pool's
words_within : (s : Snapshot) → ((f : Fault) → IsFault s f → ⊥) → All (λ word. word ≤ s.limits.population) (words_met s)
words_within s none =
    All-from_get_or (λ word. word ≤ s.limits.population) (words_met s) 0
    (λ i l. elim (cases_lt s.limits.population (get_or (words_met s) i 0)) [
      | inl past ↦ absurd
          (none (BadTop (get_or (words_met s) i 0)) (Contains-get_or (words_met s) i 0 l, past))
      | inr within ↦ within
    ])

-- each element of the pool is in one place
in_one_place : (s : Snapshot) → ((f : Fault) → IsFault s f → ⊥) → (e : ℕ) → e < s.limits.population →
    times_free s e + min 1 (times_held s e) ≡ 1
in_one_place s none e l = elim (cases_lt 1 (times_free s e + min 1 (times_held s e))) [
  | inl twice ↦ absurd (none (Doubled e) twice)
  | inr few ↦ elim (cases_eq (times_free s e + times_held s e) 0) [
    | inl lost ↦ absurd (none (Lost e) (l, lost))
    | inr some ↦ omega
        (arith, few, some)
  ]
]

-- each part of a lawful snapshot, were it missing, would be one of the faults
pub faultless_lawful : (s : Snapshot) → ((f : Fault) → IsFault s f → ⊥) → IsLawful s
faultless_lawful s none = record {
  shape = shape_stable s (λ no. none BadShape no);
  words = words_within s none;
  ends = elim (cases_lt s.limits.population (length (walk s))) [ inl long ↦ absurd (none Loop long) | inr ends ↦ ends ];
  len = eq_stable s.length (length (walk s)) (λ no. none (BadLength s.length (length (walk s))) (refl, refl, no));
  known = known_clean s (λ g h. absurd (none g h));
  packets = λ segs has. packet_stable segs (λ no. none BadPacket (segs, has, no));
  own_once =
      λ e.
      elim (cases_lt 1 (times_own s e))
      [ inl twice ↦ absurd (none (DoubleHeader e) twice) | inr once ↦ once ];
  once = in_one_place s none;
  counted = λ e l. eq_stable (slice_index s.counts e) (max 1 (times_held s e))
      (λ no. none (BadCount e (slice_index s.counts e) (times_held s e)) (l, refl, refl, no));
}

pub lawful_faultless : (s : Snapshot) → IsLawful s ↔ ((f : Fault) → ¬ (IsFault s f))
lawful_faultless s = (λ h. no_fault s (lawful_clean s h), faultless_lawful s)
