-- The workers of two pools: new ones, and what one does keeps all.
use Rattle.std.proofs.Common.{ℕ, ◌≡◌, ◌≢◌, ◌+◌, ◌-◌, ◌<◌, inl, inr, List, length, get_or, map, set, get_or-set_same, get_or-set_other, length-set, refl, sym, ◌∙◌, ap, arith}
use Rattle.std.specs.List.{range_with_len}
use Rattle.std.proofs.lemmas.Bool.{cases_eq}
use Rattle.std.proofs.lemmas.Grind.{same_number_lists}
use Rattle.std.proofs.lemmas.List.{get_or-map, get_or_default, length-map}
use Rattle.std.proofs.lemmas.List.FromFn.{get_or-map-range_with_len, get_or-range_with_len, length-map-range_with_len, length-range_with_len}
use Rattle.commons.specs.Beside.{KeepsSides}
use Rattle.commons.specs.declared.limits.Limits.{Limits}
use Rattle.commons.specs.Lists.{Lists, opening, side_of}
use Rattle.commons.proofs.Opening.{nothing_held, nothing_in_hand}
use Rattle.mbuf.specs.Members.{Member}
use Rattle.mbuf.specs.Twins.{OwnTwin, TwinMember}
use Rattle.mbuf.proofs.ForeignLemmas.{own_new_twin, own_same_twin}
use Rattle.twin_acts.specs.TwinActs.{KeepsTwin}
use Rattle.share_book.specs.TwinSites.{new_twin}
use Rattle.share_book.specs.inside.TwinSite.{IsTwinMember}

-- each worker owns its part of the lists of both pools
abbrev pub AreTwinMembers : Lists → Lists → List TwinMember → TwinMember → Type 0
AreTwinMembers s u members d = (n : ℕ) → n < length members → IsTwinMember s u n (get_or members n d)

-- so it does in new pools
pub new_twin_owns : (l k : Limits) (d : TwinMember) (n : ℕ) → n < length (map (new_twin l k) (range_with_len 1 l.workers)) →
    IsTwinMember (opening l) (opening k) n (get_or (map (new_twin l k) (range_with_len 1 l.workers)) n d)
new_twin_owns l k d n b =
    let within : n < l.workers = omega (arith, b, length-map-range_with_len (new_twin l k) 1 l.workers) in
    rw (get_or-map-range_with_len (new_twin l k) 1 l.workers n (n + 1) d within (omega arith)) (record {
      first_number = refl;
      second_number = refl;
      own =
          own_new_twin (side_of (opening l) (n + 1)) (side_of (opening k) (n + 1)) (n + 1)
          (nothing_in_hand l.population (n + 1)) (nothing_held l.workers l.population (n + 1 - 1))
          (nothing_in_hand k.population (n + 1)) (nothing_held k.workers k.population (n + 1 - 1));
    })

module _ (s u s' u' : Lists) (members : List TwinMember) (n : ℕ) (m : TwinMember) (d e : TwinMember) where
  -- another worker owns its part as before
  other_owns : (v : ℕ) → v ≢ n → KeepsSides (n + 1) s s' → KeepsSides (n + 1) u u' → (t : TwinMember) →
      IsTwinMember s u v t → IsTwinMember s' u' v t
  other_owns v apart a b t is =
      let other : v + 1 ≢ n + 1 = λ same. apart (omega (arith, same)) in record {
        first_number = is.first_number;
        second_number = is.second_number;
        own =
            own_same_twin t (side_of s (v + 1)) (side_of u (v + 1)) (side_of s' (v + 1)) (side_of u' (v + 1)) is.own
            (a.others (v + 1) (omega arith) other) (b.others (v + 1) (omega arith) other);
      }

  -- once one of them has acted, each worker has its number and owns its part
  pub twins_after : n < length members → AreTwinMembers s u members d → KeepsSides (n + 1) s s' →
      KeepsSides (n + 1) u u' → KeepsTwin (get_or members n d) m →
      OwnTwin m (side_of s' (n + 1)) (side_of u' (n + 1)) → AreTwinMembers s' u' (set members n m) e
  twins_after here each a b kept own k l =
      let within : k < length members = omega (arith, l, length-set members n m) in
      elim (cases_eq k n) [
        | inl same ↦
            rw (same, get_or-set_same members n m e here) (record {
              first_number = kept.first_number ∙ (each n here).first_number;
              second_number = kept.second_number ∙ (each n here).second_number;
              own = own;
            })
        | inr apart ↦
            rw (get_or-set_other members n k m e apart, get_or_default members k e d within)
            (other_owns k apart a b (get_or members k d) (each k within))
      ]

-- ---- their numbers

module _ (s u : Lists) (members : List TwinMember) (d : TwinMember) (each : AreTwinMembers s u members d) where
  numbers_row : (of : TwinMember → ℕ) → ((n : ℕ) → n < length members → of (get_or members n d) ≡ n + 1) →
      (found : List ℕ) → length found ≡ length members →
      ((n : ℕ) → n < length members → get_or found n 0 ≡ of (get_or members n d)) →
      found ≡ range_with_len 1 (length members)
  numbers_row of are found long is =
      same_number_lists found (range_with_len 1 (length members))
      (long ∙ sym (length-range_with_len 1 (length members)))
      (λ k l. let within : k < length members = omega (arith, l, long) in
      is k within ∙ are k within ∙ omega (arith, get_or-range_with_len 1 (length members) k 0 within))

  pub first_numbers : map (λ (m : Member). m.number) (map (λ (m : TwinMember). m.first) members) ≡ range_with_len 1 (length members)
  first_numbers =
      numbers_row (λ m. m.first.number) (λ n l. (each n l).first_number)
      (map (λ (m : Member). m.number) (map (λ (m : TwinMember). m.first) members))
      (length-map (map (λ (m : TwinMember). m.first) members) (λ (m : Member). m.number)
      ∙ length-map members (λ (m : TwinMember). m.first))
      (λ n l.
      get_or-map (λ (m : Member). m.number) (map (λ (m : TwinMember). m.first) members) n d.first 0
      (omega (arith, l, length-map members (λ (m : TwinMember). m.first)))
      ∙ ap (λ (m : Member). m.number) (get_or-map (λ (m : TwinMember). m.first) members n d d.first l))

  pub second_numbers : map (λ (m : Member). m.number) (map (λ (m : TwinMember). m.second) members) ≡ range_with_len 1 (length members)
  second_numbers =
      numbers_row (λ m. m.second.number) (λ n l. (each n l).second_number)
      (map (λ (m : Member). m.number) (map (λ (m : TwinMember). m.second) members))
      (length-map (map (λ (m : TwinMember). m.second) members) (λ (m : Member). m.number)
      ∙ length-map members (λ (m : TwinMember). m.second))
      (λ n l.
      get_or-map (λ (m : Member). m.number) (map (λ (m : TwinMember). m.second) members) n d.second 0
      (omega (arith, l, length-map members (λ (m : TwinMember). m.second)))
      ∙ ap (λ (m : Member). m.number) (get_or-map (λ (m : TwinMember). m.second) members n d d.second l))
