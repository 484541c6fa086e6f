-- What a filter keeps, and so what stays.
use Rattle.std.proofs.Common.{◌≡◌, ◌<◌, Bool, true, false, cond, List, [], ◌∷◌, inl, inr, refl, sym, subst, ap, ◌∙◌, arith}
use Rattle.std.specs.Prelude.{◌⊎◌, ◌↔◌, Contains, filter}
use Rattle.std.specs.Cmp.Lexicographic.{pointwise}
use Rattle.std.proofs.lemmas.List.Elements.{Contains-append_cases, Contains-append_left, Contains-append_right, Contains-push, Contains-push_cases}
use Rattle.std.proofs.lemmas.List.Folds.{Any-from_list_any, list_any-from_Any}
use Rattle.pool_statement.specs.declared.statement.Statement.{Statement}
use Rattle.stays.specs.declared.used.Part.{Part}
use Rattle.stays.specs.declared.used.Used.{Used}
use Rattle.stays.specs.Stays.{IsUsedIn, has_parts, same_part, stays_between, used_in}
use Rattle.stays.proofs.Same.{same_parts-Decides}

-- nothing is in no list
none : {X : Type 0} (q : X) → Contains [] q → ⊥
none q h = let low : h.0 < 0 = h.1 in omega arith

-- what a list of one has is that one
only : {X : Type 0} (x q : X) → Contains (x ∷ []) q → x ≡ q
only x q h = elim (Contains-push_cases [] x q h) [ inl never ↦ absurd (none q never) | inr same ↦ same ]

-- what a list has is its first, or behind it
first_or_behind : {X : Type 0} (x : X) (xs : List X) (q : X) → Contains (x ∷ xs) q → (x ≡ q) ⊎ Contains xs q
first_or_behind x xs q h =
    elim (Contains-append_cases (x ∷ []) xs q h) [ inl here ↦ inl (only x q here) | inr there ↦ inr there ]

at_first : {X : Type 0} (x : X) (xs : List X) → Contains (x ∷ xs) x
at_first x xs = Contains-append_left (x ∷ []) xs x (Contains-push [] x)

behind : {X : Type 0} (x : X) (xs : List X) (q : X) → Contains xs q → Contains (x ∷ xs) q
behind x xs q h = Contains-append_right (x ∷ []) xs q h

-- what a filter keeps was in the list, and passes the test
kept : {X : Type 0} (p : X → Bool) (xs : List X) (q : X) → Contains (filter p xs) q → Contains xs q × (p q ≡ true)
kept p [] q h = absurd (none q h)
kept {X} p (x ∷ xs) q h = by_test (p x) refl h (kept p xs q)
  where
    by_test : (b : Bool) → p x ≡ b → Contains (cond b (x ∷ filter p xs) (filter p xs)) q →
        (Contains (filter p xs) q → Contains xs q × (p q ≡ true)) → Contains (x ∷ xs) q × (p q ≡ true)
    by_test true e h more =
        elim (first_or_behind x (filter p xs) q h) [
          | inl same ↦
              (subst (λ (y : X). Contains (x ∷ xs) y) same (at_first x xs), subst (λ (y : X). p y ≡ true) same e)
          | inr there ↦ (behind x xs q (more there).0, (more there).1)
        ]
    by_test false e h more = (behind x xs q (more h).0, (more h).1)

-- what the list has and passes the test is kept
keeps : {X : Type 0} (p : X → Bool) (xs : List X) (q : X) → Contains xs q → p q ≡ true → Contains (filter p xs) q
keeps p [] q h passes = absurd (none q h)
keeps {X} p (x ∷ xs) q h passes = by_test (p x) refl (first_or_behind x xs q h) (λ there. keeps p xs q there passes)
  where
    by_test : (b : Bool) → p x ≡ b → (x ≡ q) ⊎ Contains xs q → (Contains xs q → Contains (filter p xs) q) →
        Contains (cond b (x ∷ filter p xs) (filter p xs)) q
    by_test true e (inl same) more =
        subst (λ (y : X). Contains (x ∷ filter p xs) y) same (at_first x (filter p xs))
    by_test true e (inr there) more = behind x (filter p xs) q (more there)
    by_test false e (inl same) more =
        let never : false ≡ true = sym e ∙ ap p same ∙ passes in cc
    by_test false e (inr there) more = more there

-- one of some packets has these segments exactly where the test says so
has_parts-is : (used : List Used) (parts : List Part) → has_parts used parts ≡ true →
    (packet : Used) × Contains used packet × (packet.parts ≡ parts)
has_parts-is used parts h =
    let found = Any-from_list_any (λ (one : Used). pointwise same_part parts one.parts) used h in
    (found.1, (found.0, found.2, found.3), sym ((same_parts-Decides parts found.1.parts).0 found.4))

is-has_parts : (used : List Used) (parts : List Part) (packet : Used) → Contains used packet → packet.parts ≡ parts →
    has_parts used parts ≡ true
is-has_parts used parts packet within same =
    list_any-from_Any (λ (one : Used). pointwise same_part parts one.parts) used
    (within.0, packet, within.1, within.2, (same_parts-Decides parts packet.parts).1 (sym same))

pub stays_in_both : (newer older : Statement) (packet : Used) →
    Contains (stays_between newer older) packet ↔ (Contains (used_in newer) packet × IsUsedIn older packet.parts)
stays_in_both newer older packet =
    let test : Used → Bool = λ one. has_parts (used_in older) one.parts in (
      λ stays.
          let is = kept test (used_in newer) packet stays in
          (is.0, has_parts-is (used_in older) packet.parts is.1),
      λ both.
          keeps test (used_in newer) packet both.0
          (is-has_parts (used_in older) packet.parts both.1.0 both.1.1 both.1.2),
    )
