-- What the answers for all calls share: a seat between two steps sits, a move of the machine is
-- allowed, the word of an element or of a desk is one of the table, and what an exchange found is
-- known.
use Rattle.std.proofs.Common.{◌≡◌, ℕ, ◌<◌, List, Result, Ok, Err, sym, ap, ◌∙◌, subst, arith}
use Rattle.std.specs.Prelude.{MatchResult}
use Rattle.atomic_table.specs.Seated.{TableId}
use Rattle.commons.specs.Bounds.{IsPool}
use Rattle.commons.specs.declared.limits.Limits.{Limits}
use Rattle.step_core.specs.declared.view.View.{View}
use Rattle.ground.specs.declared.known.Known.{Known}
use Rattle.ground.specs.Layout.{word_count, link_word, count_word, desk_word}
use Rattle.ground.specs.Own.{Owned, AtDesk, KnowsDesks}
use Rattle.ground.specs.Rule.{Slot, Sat}
use Rattle.ground.specs.Seats.{Grounded, Seated, IsOf}

-- what the type of a seat keeps
abbrev pub Keeps : Sat → Type 0
Keeps m = Owned m.0.limits m.0.view × AtDesk m.0.view.work m.1 × KnowsDesks m.0

-- a seat of which this is kept sits
pub sits : {l : Limits} {v : View} {B C : Type 0} → Owned l v × B × C → (0 < v.part) × B × C
sits keeps = (keeps.0.busy, keeps.1, keeps.2)

-- what is asked of a seat's view by a call is so of the view that the seat has at its table
pub of_view : {table : TableId} {id : ℕ} {n : Known} {slots : List (ℕ × Slot)} {s : Seated} →
    record { table = table; id = id; known = n; slots = slots } ≡ s → (P : View → Type 0) →
    P s.known.view → P n.view
of_view is P asked = subst (λ (z : Seated). P z.known.view) (sym is) asked

-- An operation that is a move of the machine is allowed: it leaves what it does, without the steps
-- that the machine plays.
pub allowed : {S N A : Type 0} {Is Size Here Small : S → Type 0} {V R T : S → N → A → Type 0}
    {P : (s : S) → Is s → (n : N) (a : A) → R s n a → Type 0} →
    ((s : S) (r : Is s) → Size s → Here s → Small s →
    (n : N) × (a : A) × V s n a × ((after : R s n a) × P s r n a after) × T s n a) →
    (s : S) → Is s → Size s → Here s → Small s → (n : N) × (a : A) × V s n a × R s n a × T s n a
allowed moves s r size here small =
    let m = moves s r size here small in (m.0, m.1, m.2, m.3.0, m.4)

-- what an exchange found is known, and where it won, that is what was expected
pub known_won : (K : ℕ → Type 0) (old : ℕ) {found : ℕ} {r : Result (Unit {0}) ℕ} {u : Unit {0}} →
    r ≡ Ok u → found ≡ old → K found → MatchResult r (λ _. K old) K
known_won K old is same known =
    subst (λ (r : Result (Unit {0}) ℕ). MatchResult r (λ _. K old) K) (sym is) (subst K same known)

pub known_lost : (K : ℕ → Type 0) (old : ℕ) {found : ℕ} {r : Result (Unit {0}) ℕ} → r ≡ Err found →
    K found → MatchResult r (λ _. K old) K
known_lost K old is known =
    subst (λ (r : Result (Unit {0}) ℕ). MatchResult r (λ _. K old) K) (sym is) known

-- a word of the table stands where this is, and belongs to one of so many elements or desks
pub record Placed (words word place i many : ℕ) : Type 0 where
  pub within : word < words
  pub at : word ≡ place
  pub below : i < many

-- the ground with this table and these limits, whose rule goes by the limits of the key
module _ {words slots : ℕ} {key l : Limits} {table : TableId} {g : Grounded}
    (keeps : (words ≡ word_count l.population l.desks) × IsPool l × (key ≡ l) × (slots ≡ l.desks))
    (is : record { table = table; limits = l } ≡ g) where
  pub key_is : key ≡ g.limits
  key_is = keeps.2 ∙ ap (λ (z : Grounded). z.limits) is

  words_are : words ≡ word_count g.limits.population g.limits.desks
  words_are = keeps.0 ∙ ap (λ (z : Grounded). word_count z.limits.population z.limits.desks) is

  -- the word of an element's link, where the element is one of the pool by what the seat knows
  pub link_within : {s : Seated} {word i : ℕ} → IsOf g s → i < s.known.limits.population →
      word ≡ link_word i → word < words
  link_within of inside at =
      let mine = ap (λ (z : Limits). z.population) of.limits in
      let all = words_are in
      omega arith

  -- the word of an element's count, where the element is one of the pool by what the seat knows
  pub count_placed : {s : Seated} {word i : ℕ} → IsOf g s → i < s.known.limits.population →
      word ≡ count_word g.limits.population i →
      Placed words word (count_word key.population i) i key.population
  count_placed of inside at =
      let mine = ap (λ (z : Limits). z.population) of.limits in
      let all = words_are in
      let same = ap (λ (z : Limits). z.population) key_is in
      record { within = omega arith; at = omega arith; below = omega arith }

  -- the word of a desk of the pool
  pub desk_placed : {word d : ℕ} → d < g.limits.desks → word ≡ desk_word g.limits.population d →
      Placed words word (desk_word key.population d) d key.desks
  desk_placed inside at =
      let all = words_are in
      let same = ap (λ (z : Limits). z.population) key_is in
      let desks = ap (λ (z : Limits). z.desks) key_is in
      record { within = omega arith; at = omega arith; below = omega arith }
