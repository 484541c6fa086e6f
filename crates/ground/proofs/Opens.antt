-- The words at the start, and that the rule holds of them.
use Rattle.std.proofs.Common.{◌≡◌, ℕ, zero, suc, ◌+◌, ◌-◌, ◌<◌, ◌≤◌, List, [], ◌∷◌, ◌++◌, length, replicate, refl, sym, ap, ◌∙◌, subst, arith, append_assoc, length-append}
use Rattle.std.proofs.lemmas.List.{length-replicate}
use Rattle.std.specs.Prelude.{None, IfSome, map}
use mathlib.Core.Option as maybe
use mathlib.Core.Option.{some, some-ne-none, some-injective}
use lib.ListN.{get_elem?}
use native.Mathlib.Decide.{dec_lt}
use Rattle.atomic_table.specs.Table as table
use Rattle.commons.proofs.Bags.{bag-nil}
use Rattle.commons.specs.Bounds.{IsPool}
use Rattle.commons.specs.Packets.{IsPacket}
use Rattle.commons.specs.declared.limits.Limits.{Limits}
use Rattle.step_core.specs.declared.view.Desk.{Desk}
use Rattle.step_core.specs.World.{World, desk_at, empty_view, no_desk, every_part}
use Rattle.step_core.specs.Opening.{links_up}
use Rattle.step_core.proofs.OpeningLaw.{length-links_up}
use Rattle.step_core.proofs.LinksUp.{top_is}
use Rattle.ground.specs.declared.known.Known.{Known}
use Rattle.ground.specs.Layout.{pack, words_with, word_on, words_of, word_count, links_at}
use Rattle.ground.specs.Opening.{opening_alone, opening_words}
use Rattle.ground.specs.Own.{Owned}
use Rattle.ground.specs.Changing.{IsUnmoved}
use Rattle.ground.specs.Closing.{lying_on}
use Rattle.ground.specs.Rule.{Slot, Ruled, SeesDesks, home_of, first_known}
use Rattle.ground.proofs.Reviews.{alone_lawful, alone_headers}
use Rattle.ground.proofs.Rules.{stack_of, counts_of, desks_of}
use Rattle.ground.proofs.Sitting.{Told}

-- the first link of at least two elements, and of one
next_link : (i m : ℕ) → 1 < m → links_up i m ≡ (i + 2) ∷ links_up (i + 1) (m - 1)
next_link i zero h = absurd (omega arith)
next_link i (suc zero) h = absurd (omega arith)
next_link i (suc (suc m)) h =
    let a : suc (suc i) ≡ i + 2 = omega arith in
    let b : suc i ≡ i + 1 = omega arith in
    let c : suc m ≡ suc (suc m) - 1 = omega arith in
    λ j. a j ∷ links_up (b j) (c j)

last_link : (i m : ℕ) → m ≡ 1 → links_up i m ≡ 0 ∷ []
last_link i m e = ap (links_up i) e

-- one link more before those that are left
pub step_link : (ws : List ℕ) (i n x : ℕ) → i < n → (i + 1 < n → x ≡ i + 2) → (n ≤ i + 1 → x ≡ 0) →
    (ws ++ x ∷ []) ++ links_up (i + 1) (n - (i + 1)) ≡ ws ++ links_up i (n - i)
step_link ws i n x less next last =
    append_assoc ws (x ∷ []) (links_up (i + 1) (n - (i + 1)))
    ∙ ap (λ (l : List ℕ). ws ++ l) (one (dec_lt (i + 1) n))
  where
    one : Dec (i + 1 < n) → x ∷ links_up (i + 1) (n - (i + 1)) ≡ links_up i (n - i)
    one (yes more) =
        sym (next_link i (n - i) (omega arith)
        ∙ (λ j. sym (next more) j ∷ links_up (i + 1) (same j)))
      where
        same : n - i - 1 ≡ n - (i + 1)
        same = omega arith
    one (no none_left) =
        let done : n ≤ i + 1 = omega arith in
        let rest : n - (i + 1) ≡ 0 = omega arith in
        sym (last_link i (n - i) (omega arith)
        ∙ (λ j. sym (last done) j ∷ links_up (i + 1) (sym rest j)))

-- each desk's word is 0
words_empty : (n : ℕ) → replicate {A = ℕ} n 0 ≡ map word_on (replicate {A = Desk} n no_desk)
words_empty zero = refl
words_empty (suc n) = ap (λ (ws : List ℕ). 0 ∷ ws) (words_empty n)

words_are : (l : Limits) → IsPool l → opening_words l ≡ words_of (opening_alone l)
words_are l pool = λ j.
    words_with
    (pack (record { top = top_is l.population pool.population_low j; count = l.start_count }))
    l.population (links_up 0 l.population) (replicate l.population 1) (words_empty l.desks j)

-- each slot is at home, and has nothing
homes_are : (n : ℕ) →
    map some (replicate {A = Slot} n None) ≡ map home_of (replicate {A = Desk} n no_desk)
homes_are zero = refl
homes_are (suc n) = ap (λ (hs : List (maybe.Option Slot)). some None ∷ hs) (homes_are n)

-- at the start nothing lies on a desk
pub none_lie : (n : ℕ) → replicate {A = Slot} n None ≡ lying_on (replicate {A = Desk} n no_desk)
none_lie zero = refl
none_lie (suc n) = ap (λ (xs : List Slot). None ∷ xs) (none_lie n)

pub length_words : (l : Limits) → length (opening_words l) ≡ word_count l.population l.desks
length_words l =
    let a : length (links_up 0 l.population) ≡ l.population = length-links_up 0 l.population in
    let b : length (replicate {A = ℕ} l.population 1) ≡ l.population =
    length-replicate l.population 1 in
    let c : length (replicate {A = ℕ} l.desks 0) ≡ l.desks = length-replicate l.desks 0 in
    let rest : List ℕ = replicate l.population 1 ++ replicate l.desks 0 in
    let d : length rest ≡ length (replicate {A = ℕ} l.population 1) + length (replicate {A = ℕ} l.desks 0) =
    length-append (replicate l.population 1) (replicate l.desks 0) in
    let e : length (links_up 0 l.population ++ rest) ≡ length (links_up 0 l.population) + length rest =
    length-append (links_up 0 l.population) rest in
    let f : length (opening_words l) ≡ links_at + length (links_up 0 l.population ++ rest) = omega arith in
    omega arith

pub owned_none : (l : Limits) (part : ℕ) → IsPool l → 0 < part → part ≤ every_part l → Owned l (empty_view part)
owned_none l part pool busy within = record {
  pool = pool;
  busy = busy;
  within = within;
  hand_once = λ i. omega (arith, bag-nil i);
  hand_below = λ i h. omega (arith, bag-nil i);
  held_below = λ i h. bag-nil i;
  apart = λ i h. omega (arith, bag-nil i);
  header_once = λ i. omega (arith, bag-nil i);
  header_held = λ i h. h;
  look = tt;
  chain = tt;
}

pub opens : (l : Limits) → IsPool l → (words : List ℕ) → words ≡ opening_words l →
    Ruled l (table.opening words (replicate l.desks None) (first_known l))
opens l pool words is = record {
  world = w;
  words_are = is ∙ words_are l pool;
  homes_are = homes_are l.desks;
  views_are = refl;
  limits = refl;
  pool = pool;
  stack = stack_of w (alone_lawful l pool.refs_low);
  counts = counts_of w (alone_lawful l pool.refs_low) (alone_headers l);
  desks = desks_of w (alone_lawful l pool.refs_low) (length-replicate l.desks no_desk);
  told = first;
  packets = λ d. bare_slot l.desks d;
  lies = sees;
  changed = omega arith;
  idle = idle;
  opened = λ _. refl;
  history = [];
  led = (refl, refl);
}
  where
    w : World
    w = opening_alone l

    first : Told l (first_known l ∷ [])
    first zero n at _ = ap (λ (x : Known). x.limits) (sym (some-injective (first_known l) n at))
    first (suc id) n at _ = absurd (some-ne-none n (sym at))

    idle : (id : ℕ) (n : Known) → get_elem? (first_known l ∷ []) id ≡ some n → n.view.part ≡ 0 → IsUnmoved n
    idle zero n at _ = subst IsUnmoved (some-injective (first_known l) n at) (record { steps = refl; joined = refl })
    idle (suc id) n at _ = absurd (some-ne-none n (sym at))

    bare_slot : (n d : ℕ) → IfSome (desk_at (replicate {A = Desk} n no_desk) d).slot IsPacket
    bare_slot zero d = tt
    bare_slot (suc n) zero = tt
    bare_slot (suc n) (suc d) = bare_slot n d

    sees : (id : ℕ) (n : Known) → get_elem? (first_known l ∷ []) id ≡ some n → SeesDesks w n
    sees zero n at = subst (SeesDesks w) (some-injective (first_known l) n at) (refl, none_lie l.desks)
    sees (suc id) n at = absurd (some-ne-none n (sym at))
