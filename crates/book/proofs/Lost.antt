-- What is lost with listed workers of a closed pool, and that all its workers are in order.
use Rattle.std.proofs.Common.{ℕ, zero, suc, ◌≡◌, ◌+◌, ◌-◌, ◌<◌, inl, inr, Bool, not, List, [], ◌∷◌, length, get_or, map, refl, sym, ap, ◌∙◌, arith}
use Rattle.std.specs.Prelude.{min}
use Rattle.std.specs.List.{range_with_len}
use Rattle.std.proofs.lemmas.Bool.{cases_lt}
use Rattle.std.proofs.lemmas.List.{length-map}
use Rattle.std.proofs.lemmas.List.Filters.{sum_by-filter_both}
use Rattle.std.proofs.lemmas.List.FromFn.{get_or-range_with_len, length-range_with_len}
use Rattle.commons.specs.Bag.{bag}
use Rattle.commons.specs.declared.closed.Closed.{Closed}
use Rattle.commons.specs.declared.limits.Limits.{Limits}
use Rattle.commons.specs.Packets.{held_in}
use Rattle.mbuf.specs.Members.{Member}
use Rattle.pool_model.specs.Pool.{held_by}
use Rattle.pool_model.proofs.Listed.{sum_by-map}
use Rattle.snapshot.specs.Closing.{share_of, snapshot_of}
use Rattle.snapshot.specs.declared.snapshot.ShareData.{ShareData}
use Rattle.snapshot.specs.Lost.{AreLost}
use Rattle.snapshot.specs.Snapshots.{IsLawful, times_free, times_held, walk}
use Rattle.snapshot.proofs.Times.{held-is}
use Rattle.book.specs.Lost.{AreLostWith, AreOrdered, IsLostWith, cached_by, is_listed, listed_of, unlisted_of}

-- what shares have, read off the members
free_of : (l : Limits) (c : Closed) (members : List Member) (e : ℕ) →
    times_free (snapshot_of l c members) e ≡ bag (walk (snapshot_of l c members)) e + cached_by members e
free_of l c members e =
    let caches = sum_by-map (λ (share : ShareData). bag share.cache e) share_of members in omega arith

held_of : (l : Limits) (c : Closed) (members : List Member) (e : ℕ) →
    times_held (snapshot_of l c members) e ≡ held_by members e + held_in c.desks e
held_of l c members e =
    omega (
      arith,
      held-is (snapshot_of l c members) e,
      sum_by-map (λ (share : ShareData). held_in share.slots e) share_of members,
    )

module _ (l : Limits) (c : Closed) (members : List Member) (listed elems : List ℕ)
    (law : IsLawful (snapshot_of l c members)) (are : AreLost (snapshot_of l c (unlisted_of listed members)) elems) where
  abbrev gone : List Member
  gone = listed_of listed members

  abbrev left : List Member
  left = unlisted_of listed members

  tests : Member → Bool
  tests m = is_listed listed m.number

  -- all members are those who are listed and those who aren't
  caches_part : (e : ℕ) → cached_by gone e + cached_by left e ≡ cached_by members e
  caches_part e =
      sum_by-filter_both (λ (m : Member). is_listed listed m.number) (λ (m : Member). not (is_listed listed m.number))
      (λ m. refl) (λ (m : Member). bag m.cache e) members

  holds_part : (e : ℕ) → held_by gone e + held_by left e ≡ held_by members e
  holds_part e =
      sum_by-filter_both (λ (m : Member). is_listed listed m.number) (λ (m : Member). not (is_listed listed m.number))
      (λ m. refl) (λ (m : Member). held_in m.table e) members

  -- each element is in one place
  placed : (e : ℕ) → e < l.population →
      bag (walk (snapshot_of l c members)) e + (cached_by gone e + cached_by left e)
      + min 1 (held_by gone e + held_by left e + held_in c.desks e) ≡ 1
  placed e within =
      omega (
        arith,
        law.once e within,
        free_of l c members e,
        held_of l c members e,
        caches_part e,
        holds_part e,
      )

  -- and stands nowhere where it is with none of those who are left
  left_out : (e : ℕ) →
      times_free (snapshot_of l c left) e + times_held (snapshot_of l c left) e
      ≡ bag (walk (snapshot_of l c members)) e + cached_by left e + (held_by left e + held_in c.desks e)
  left_out e = omega (arith, free_of l c left e, held_of l c left e)

  nowhere_lost : (e : ℕ) → e < l.population → times_free (snapshot_of l c left) e + times_held (snapshot_of l c left) e ≡ 0 →
      IsLostWith listed members c.desks e
  nowhere_lost e within none = elim (cases_lt 0 (cached_by gone e)) [
    | inl some ↦ inl some
    | inr empty ↦ inr (
      omega (arith, empty, none, placed e within, left_out e),
      omega (arith, none, left_out e),
    )
  ]

  lost_nowhere : (e : ℕ) → e < l.population → IsLostWith listed members c.desks e →
      times_free (snapshot_of l c left) e + times_held (snapshot_of l c left) e ≡ 0
  lost_nowhere e within (inl some) = omega (arith, some, placed e within, left_out e)
  lost_nowhere e within (inr alone) =
      let some = alone.0 in
      let none = alone.1 in
      omega (arith, placed e within, left_out e)

  pub lost_with : AreLostWith l listed members c.desks elems
  lost_with = record {
    ascending = are.ascending;
    exactly = λ e. (
      λ there. let is = (are.exactly e).0 there in (is.0, nowhere_lost e is.0 is.1),
      λ is. (are.exactly e).1 (is.0, lost_nowhere e is.0 is.1),
    );
  }

-- ---- all workers are in order

module _ (l : Limits) (members : List Member) (numbers : map (λ m. m.number) members ≡ range_with_len 1 l.workers) where
  long : length members ≡ l.workers
  long = sym (length-map members (λ (m : Member). m.number)) ∙ ap length numbers ∙ length-range_with_len 1 l.workers

  at : (k d : ℕ) → k < l.workers → get_or (map (λ (m : Member). m.number) members) k d ≡ 1 + k
  at k d within = ap (λ (ns : List ℕ). get_or ns k d) numbers ∙ get_or-range_with_len 1 l.workers k d within

  member_at : (ms : List Member) (k : ℕ) (d : Member) → k < length ms →
      get_or (map (λ (m : Member). m.number) ms) k d.number ≡ (get_or ms k d).number
  member_at [] k d within = absurd (omega arith)
  member_at (m ∷ ms) zero d within = refl
  member_at (m ∷ ms) (suc k) d within = member_at ms k d (omega arith)

  pub all_ordered : (listed : List ℕ) → AreOrdered l listed members
  all_ordered listed = record {
    ascending =
        λ i j d less within.
        let below : j < l.workers = omega (arith, within, ap length numbers, length-range_with_len 1 l.workers) in
        omega (arith, at i d (omega arith), at j d below);
    workers =
        λ k d within.
        let number = member_at members k d within ∙ sym refl in
        let is = at k d.number (omega (arith, long)) in
        record { first = omega (arith, number, is); last = omega (arith, number, is, long) };
    all =
        λ w of. let first = of.first in
        let last = of.last in
        let back : 1 + (w - 1) ≡ w = omega arith in
        inl (w - 1, omega (arith, ap length numbers, length-range_with_len 1 l.workers), at (w - 1) w (omega arith) ∙ back);
  }
