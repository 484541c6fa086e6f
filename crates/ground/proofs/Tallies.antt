-- Each of the five steps on a count keeps the rule, and answers its seat what its contract says.
use Rattle.std.proofs.Common.{◌≡◌, ◌==◌, ℕ, suc, ◌+◌, ◌-◌, ◌%◌, ◌^◌, ◌<◌, ◌≤◌, Bool, true, false, eqb, List, [], ◌∷◌, ◌++◌, Some, length, set, refl, sym, ap, ◌∙◌, subst, ⊎_elim, arith, eq-eqb, ne_eqb}
use Rattle.std.specs.Prelude.{map, slice_index, None, sum_by, nat_lt, ◌&&◌, if◌then◌else◌}
use Rattle.std.proofs.lemmas.Bool.{cases_lt, cases_Bool, lt-ltb, and_from, and_parts, eqb-true}
use Rattle.std.proofs.lemmas.List.{set-get_or, get_or_append_left, get_or-append_right, set-append_left, set-append_right}
use mathlib.Core.Option.{some, none}
use mathlib.Core.Logic.{dite}
use native.Mathlib.Decide.{ℕ_discrete}
use lib.ListN.{get_elem?}
use prog.Atomic.{either}
use Rattle.atomic_table.specs.Table.{Act, step, keeps, stepped, Valid, carried_after}
use Rattle.commons.specs.Bag.{bag}
use Rattle.commons.specs.declared.limits.Limits.{Limits}
use Rattle.commons.specs.Packets.{held_in}
use Rattle.step_core.specs.declared.view.View.{View}
use Rattle.step_core.specs.declared.step.Step.{Step}
use Rattle.step_core.specs.declared.step.Step.TheVariants.{Claim, Sole, Raise, Lower, Reset}
use Rattle.step_core.specs.declared.step.Outcome.{Outcome}
use Rattle.step_core.specs.declared.step.Outcome.TheVariants.{Value, Won, Lost, Done}
use Rattle.step_core.specs.World.{World, view_at, hands, all_zeros, all_holds, every_part}
use Rattle.step_core.specs.Views.{view_after, claimed, freed, raised, hold_ended, was_reset}
use Rattle.step_core.specs.Steps.{Play, in_range, quiet, knows, row, claim, sole, raise, lower, reset, play}
use Rattle.step_core.specs.Runs.{Reaches}
use Rattle.step_core.specs.Table.{Free, Attach}
use Rattle.step_core.proofs.Bags.{times-nil, below-le}
use Rattle.step_core.proofs.StackSteps.{one_view}
use Rattle.ground.specs.declared.known.Known.{Known}
use Rattle.ground.specs.Layout.{pack, lines, word_on, rows_of, words_of, links_at, count_word, element_counted_at}
use Rattle.ground.specs.Own.{Owned}
use Rattle.ground.specs.Rule.{Slot, Sat, Ruled}
use Rattle.ground.specs.Seats.{KnowsCount}
use Rattle.ground.specs.StepAnswers.{noted, Noted, exchanged, claim_answers, sole_answers, raise_answers, lower_answers, reset_answers}
use Rattle.ground.specs.Operations.{Sits, OperationMoves}
use Rattle.ground.proofs.Playing.{St, tail_of, row_played, law, here, is as is_view, my_limits, steps, read_at}
use Rattle.ground.proofs.Stepping.{played_when}
use Rattle.ground.specs.Closing.{lying_on}
use Rattle.ground.proofs.Alone.{lies_known, may_lie, holds_known}

-- an element that is held, or of count 0 for the moment, is one of the pool's
pub held_inside : (l : Limits) (v : View) (i : ℕ) → Owned l v → 0 < bag v.holds i → i < l.population
held_inside l v i own h =
    ⊎_elim (λ (c : i < l.population). c)
    (λ (c : l.population ≤ i). absurd (let z = own.held_below i c in omega arith))
    (cases_lt i l.population)

pub zero_inside : (l : Limits) (v : View) (i : ℕ) → Owned l v → 0 < bag v.zeros i → i < l.population
zero_inside l v i own h =
    ⊎_elim (λ (c : i < l.population). c)
    (λ (c : l.population ≤ i). absurd (let z = own.hand_below i c in omega arith))
    (cases_lt i l.population)

module _ (l : Limits) (s : St) (r : Ruled l s) (id : ℕ) (me : Sat) (at : get_elem? s.views id ≡ some me.0)
    (busy : Sits me) (i k : ℕ) (word : k ≡ count_word l.population i) (inside : i < l.population) where
  mine : me.0.limits.population ≡ l.population
  mine = ap (λ (z : Limits). z.population) (my_limits l s r id me at busy)

  pop : r.world.limits.population ≡ l.population
  pop = ap (λ (z : Limits). z.population) r.limits

  in_pool : nat_lt i r.world.limits.population ≡ true
  in_pool = let p = pop in lt-ltb i r.world.limits.population (omega arith)

  index : i ≡ element_counted_at me.0.limits.population k
  index = let p = mine in omega arith

  -- the words behind the lines, and the counts behind the links
  place : k - links_at ≡ l.population + i
  place = omega arith

  behind : l.population + i - l.population ≡ i
  behind = omega arith

  links : length r.world.links ≡ l.population
  links = r.stack.links ∙ pop

  inside_counts : i < length r.world.counts
  inside_counts =
      let all : length r.world.counts ≡ r.world.limits.population = r.counts.counts in
      let p = pop in
      omega arith

  pub count_read : slice_index s.words k ≡ slice_index r.world.counts i
  count_read =
      read_at l s r id me at busy k
      ∙ (get_or-append_right (lines (pack r.world.head) r.world.length)
      (rows_of r.world) links_at k 0 refl (omega arith)
      ∙ (ap (λ (j : ℕ). slice_index (rows_of r.world) j) place
      ∙ (get_or-append_right r.world.links (tail_of r.world) l.population (l.population + i) 0 links
      (omega arith)
      ∙ (ap (λ (j : ℕ). slice_index (tail_of r.world) j) behind
      ∙ get_or_append_left r.world.counts (map word_on r.world.desks) 0 i inside_counts))))

  pub count_set : (x : ℕ) → set (words_of r.world) k x
      ≡ lines (pack r.world.head) r.world.length
      ++ (r.world.links ++ (set r.world.counts i x ++ map word_on r.world.desks))
  count_set x =
      set-append_right (lines (pack r.world.head) r.world.length)
      (rows_of r.world) links_at k x refl (omega arith)
      ∙ ap (λ (ys : List ℕ). lines (pack r.world.head) r.world.length ++ ys)
      (ap (λ (j : ℕ). set (rows_of r.world) j x) place
      ∙ (set-append_right r.world.links (tail_of r.world) l.population (l.population + i) x links
      (omega arith)
      ∙ (ap (λ (j : ℕ). r.world.links ++ set (tail_of r.world) j x) behind
      ∙ ap (λ (ys : List ℕ). r.world.links ++ ys)
      (set-append_left r.world.counts (map word_on r.world.desks) i x inside_counts))))

  -- a word may be written as it was found
  pub count_kept : set (words_of r.world) k (slice_index s.words k) ≡ words_of r.world
  count_kept =
      ap (λ (x : ℕ). set (words_of r.world) k x) (read_at l s r id me at busy k)
      ∙ set-get_or (words_of r.world) k 0

  my_view : view_at r.world.views id ≡ me.0.view
  my_view = is_view l s r id me at busy

  hand_of_all : bag me.0.view.hand i ≤ hands i r.world.views
  hand_of_all =
      let one = one_view (λ (v : View). bag v.hand i) r.world.views id (times-nil i) in
      let same = ap (λ (v : View). bag v.hand i) my_view in
      omega arith

  zeros_of_all : bag me.0.view.zeros i ≤ all_zeros i r.world.views
  zeros_of_all =
      let one = one_view (λ (v : View). bag v.zeros i) r.world.views id (times-nil i) in
      let same = ap (λ (v : View). bag v.zeros i) my_view in
      omega arith

  holds_of_all : bag me.0.view.holds i ≤ all_holds i r.world.views r.world.desks
  holds_of_all =
      let one = one_view (λ (v : View). bag v.holds i) r.world.views id (times-nil i) in
      let same = ap (λ (v : View). bag v.holds i) my_view in
      let views : bag me.0.view.holds i ≤ sum_by (λ (v : View). bag v.holds i) r.world.views =
      omega arith in
      omega arith

  -- the count of an element of the hand is 1
  pub hand_count : 0 < bag me.0.view.hand i → slice_index r.world.counts i ≡ 1
  hand_count held =
      let p = pop in
      let place = r.stack.places.one_place i in
      let count = r.counts.counted.counted i (omega arith) in
      let hand = hand_of_all in
      omega (arith, below-le r.world.limits.population i)

  -- the count of a held element is the number of all holds
  pub held_count : 0 < bag me.0.view.holds i →
      slice_index r.world.counts i ≡ all_holds i r.world.views r.world.desks
  held_count held =
      let p = pop in
      let place = r.stack.places.one_place i in
      let count = r.counts.counted.counted i (omega arith) in
      let holds = holds_of_all in
      omega (arith, below-le r.world.limits.population i)

  pub own_count : 0 < bag me.0.view.holds i → bag me.0.view.holds i ≤ slice_index s.words k
  own_count held =
      let read = count_read in
      let all_of = held_count held in
      let holds = holds_of_all in
      omega arith

  pub limited_count : slice_index s.words k ≤ me.0.limits.ref_limit
  limited_count =
      let read = count_read in
      let range = r.counts.in_range i in
      let a = ap (λ (z : Limits). z.ref_limit) r.limits in
      let b = ap (λ (z : Limits). z.ref_limit) (my_limits l s r id me at busy) in
      omega arith

  -- the only seat of a pool and the packets on full desks have all holds
  pub known_count : 0 < bag me.0.view.holds i →
      KnowsCount me.0 i (slice_index s.words k)
  known_count held whole =
      let all = holds_known r.world (law l s r id me at busy) id
      (here l s r id me at busy)
      (ap (λ (v : View). v.part) my_view
      ∙ (whole ∙ ap (λ (z : Limits). every_part z) (my_limits l s r id me at busy ∙ sym r.limits)))
      i in
      let same = ap (λ (v : View). bag v.holds i + held_in (lying_on r.world.desks) i) my_view in
      let limits = my_limits l s r id me at busy in (
        lying_on r.world.desks,
        lies_known r.world me.0 busy.2 (r.lies id me.0 at) whole,
        may_lie r.world (law l s r id me at busy) r.counts.headers r.desks.count r.packets me.0.limits
            (r.limits ∙ sym limits) id me.0.view my_view,
        count_read ∙ (held_count held ∙ (all ∙ same)),
      )

  -- a step on this count is played
  plays : (st : Step) (p : Play) → in_range r.world st ≡ true →
      row r.world id me.0.view st ≡ Some p → play r.world (suc id) st ≡ Some (p.outcome, p.after)
  plays st p = row_played r.world id me.0.view st p (here l s r id me at busy) my_view

  -- what is told of the element is told of the word
  by_word : (P : ℕ → Type 0) → P i → P (element_counted_at me.0.limits.population k)
  by_word P = subst P index

pub claims : (l : Limits) (slots id : ℕ) (me : Sat) (i k : ℕ) → k ≡ count_word l.population i →
    i < l.population → 0 < bag me.0.view.hand i → Sits me →
    OperationMoves l slots id me k (λ n. n) (Claim i ∷ []) (λ x. Value x ∷ []) (claim_answers (step slots k 0 0 none) me)
claims l slots id me i k word inside hand busy s r _ at _ =
    let x : ℕ = slice_index s.words k in
    let w = r.world in
    let v = me.0.view in
    let read = count_read l s r id me at busy i k word inside in
    let one : x ≡ 1 = read ∙ hand_count l s r id me at busy i k word inside hand in
    let u : World = knows w id (claimed v i) in
    let played : play w (suc id) (Claim i) ≡ Some (Value x, u) =
    plays l s r id me at busy i k word inside (Claim i) (claim w id v i)
    (in_pool l s r id me at busy i k word inside)
    (played_when (nat_lt 0 (bag v.hand i)) (claim w id v i) (lt-ltb 0 (bag v.hand i) hand))
    ∙ ap (λ (n : ℕ). Some (Value n, u)) (sym read) in
    let done = steps l s r id me at busy k x (Claim i) (Value x) u tt played
    (count_kept l s r id me at busy i k word inside) refl refl refl (refl, refl, refl) in (
      (noted (Claim i) (Value x) me).0,
      keeps,
      tt,
      (done.0.0, (u, played, done.0.1)),
      (
        by_word l s r id me at busy i k word inside
            (λ (j : ℕ). Noted (Claim j) (Value x) me (noted (Claim i) (Value x) me)) done.1,
        one,
      ),
    )

pub soles : (l : Limits) (slots id : ℕ) (me : Sat) (free : Bool) (i k : ℕ) →
    k ≡ count_word l.population i → i < l.population → 0 < bag me.0.view.holds i → Sits me →
    OperationMoves l slots id me k (λ n. n) (Sole i free ∷ []) (λ x. Value x ∷ [])
    (sole_answers free (step slots k 0 0 none) me)
soles l slots id me free i k word inside held busy s r _ at _ =
    let x : ℕ = slice_index s.words k in
    let w = r.world in
    let v = me.0.view in
    let read = count_read l s r id me at busy i k word inside in
    let kept = count_kept l s r id me at busy i k word inside in
    let ends : Play = record {
      outcome = Value 1;
      after = knows w id (freed v i);
      event = Some (Free (suc id) i);
    } in
    let stays : Play = quiet (Value (slice_index w.counts i)) w in
    let asked : (p : Play) → sole w id v i free ≡ p →
    play w (suc id) (Sole i free) ≡ Some (p.outcome, p.after) = λ p e.
    plays l s r id me at busy i k word inside (Sole i free) p
    (in_pool l s r id me at busy i k word inside)
    (played_when (nat_lt 0 (bag v.holds i)) (sole w id v i free) (lt-ltb 0 (bag v.holds i) held)
    ∙ ap (λ (q : Play). Some q) e) in
    let G : Type 0 =
    (n : Known) × (a : Act Slot) × Valid s.homes me.1 a
    × ((after : Ruled l (stepped s k x id me.1 n a))
    × Reaches w ((suc id, Sole i free) ∷ []) (Value x ∷ []) after.world)
    × sole_answers free (step slots k 0 0 none) me x (n, carried_after me.1 a) in
    let last : (u : World) → play w (suc id) (Sole i free) ≡ Some (Value x, u) →
    words_of u ≡ words_of w → u.desks ≡ w.desks → u.head.count ≡ w.head.count →
    (view_after None (Sole i free) (Value x) v).work ≡ v.work → G =
    λ u played words desks head work.
    let done = steps l s r id me at busy k x (Sole i free) (Value x) u tt played (kept ∙ sym words)
    refl desks work (refl, head, refl) in (
      (noted (Sole i free) (Value x) me).0,
      keeps,
      tt,
      (done.0.0, (u, played, done.0.1)),
      (
        by_word l s r id me at busy i k word inside
            (λ (j : ℕ). Noted (Sole j free) (Value x) me (noted (Sole i free) (Value x) me)) done.1,
        by_word l s r id me at busy i k word inside (λ (j : ℕ). bag v.holds j ≤ x)
            (own_count l s r id me at busy i k word inside held),
        limited_count l s r id me at busy i k word inside,
        by_word l s r id me at busy i k word inside (λ (j : ℕ). KnowsCount me.0 j x)
            (known_count l s r id me at busy i k word inside held),
      ),
    ) in
    let test : (free && (slice_index w.counts i == 1)) ≡ (free && (x == 1)) =
    ap (λ (n : ℕ). free && (n == 1)) (sym read) in
    ⊎_elim
    (λ (yes : (free && (x == 1)) ≡ true).
    let one : x ≡ 1 = eqb-true x 1 (and_parts free (x == 1) yes).1 in
    let same : freed v i ≡ (if free && (x == 1) then freed v i else v) =
    ap (λ (b : Bool). if b then freed v i else v) (sym yes) in
    last (knows w id (freed v i))
    (asked ends (ap (λ (b : Bool). if b then ends else stays) (test ∙ yes))
    ∙ ap (λ (n : ℕ). Some (Value n, knows w id (freed v i))) (sym one))
    refl refl refl (ap (λ (y : View). y.work) (sym same)))
    (λ (no : (free && (x == 1)) ≡ false).
    let same : v ≡ (if free && (x == 1) then freed v i else v) =
    ap (λ (b : Bool). if b then freed v i else v) (sym no) in
    last w
    (asked stays (ap (λ (b : Bool). if b then ends else stays) (test ∙ no))
    ∙ ap (λ (n : ℕ). Some (Value n, w)) (sym read))
    refl refl refl (ap (λ (y : View). y.work) (sym same)))
    (cases_Bool (free && (x == 1)))

pub raises : (l : Limits) (slots id : ℕ) (me : Sat) (i k old new : ℕ) → k ≡ count_word l.population i →
    i < l.population → 0 < bag me.0.view.holds i → old < l.ref_limit → new ≡ old + 1 →
    Sits me →
    OperationMoves l slots id me k (λ x. either (eqb x old) new x) (Raise i old ∷ []) (λ x. exchanged (eqb x old) x ∷ [])
    (raise_answers (step slots k old new none) me)
raises l slots id me i k old new word inside held limited next busy s r _ at _ =
    let x : ℕ = slice_index s.words k in
    let w = r.world in
    let v = me.0.view in
    let read = count_read l s r id me at busy i k word inside in
    let limit = ap (λ (z : Limits). z.ref_limit) r.limits in
    let low : old < w.limits.ref_limit = omega arith in
    let known = by_word l s r id me at busy i k word inside (λ (j : ℕ). KnowsCount me.0 j x)
    (known_count l s r id me at busy i k word inside held) in
    let u : World = record w {
      counts = set w.counts i (old + 1);
      views = set w.views id (raised v i);
    } in
    let won : Play = record { outcome = Won; after = u; event = Some (Attach (suc id) i) } in
    let lost : Play = quiet (Lost (slice_index w.counts i)) w in
    let asked : (p : Play) → raise w id v i old ≡ p →
    play w (suc id) (Raise i old) ≡ Some (p.outcome, p.after) = λ p e.
    plays l s r id me at busy i k word inside (Raise i old) p
    (in_pool l s r id me at busy i k word inside)
    (played_when (nat_lt 0 (bag v.holds i) && nat_lt old w.limits.ref_limit) (raise w id v i old)
    (and_from (nat_lt 0 (bag v.holds i)) (nat_lt old w.limits.ref_limit)
    (lt-ltb 0 (bag v.holds i) held) (lt-ltb old w.limits.ref_limit low))
    ∙ ap (λ (q : Play). Some q) e) in
    let by : (o : Outcome) → Noted (Raise i old) o me (noted (Raise i old) o me) →
    Noted (Raise (element_counted_at me.0.limits.population k) old) o me (noted (Raise i old) o me) = λ o.
    by_word l s r id me at busy i k word inside
    (λ (j : ℕ). Noted (Raise j old) o me (noted (Raise i old) o me)) in
    let G : Bool → Type 0 = λ b.
    (n : Known) × (a : Act Slot) × Valid s.homes me.1 a
    × ((after : Ruled l (stepped s k (either b new x) id me.1 n a))
    × Reaches w ((suc id, Raise i old) ∷ []) (exchanged b x ∷ []) after.world)
    × (Noted (Raise (element_counted_at me.0.limits.population k) old) (exchanged b x) me (n, carried_after me.1 a)
    × KnowsCount me.0 (element_counted_at me.0.limits.population k) x) in
    dite (ℕ_discrete x old)
    (λ hit.
    let words : set (words_of w) k new ≡ words_of u =
    ap (λ (n : ℕ). set (words_of w) k n) next
    ∙ count_set l s r id me at busy i k word inside (old + 1) in
    let played : play w (suc id) (Raise i old) ≡ Some (Won, u) =
    asked won (ap (λ (b : Bool). if b then won else lost)
    (eq-eqb (slice_index w.counts i) old (sym read ∙ hit))) in
    let done = steps l s r id me at busy k new (Raise i old) Won u tt played words refl refl refl (refl, refl, refl) in
    subst G (sym (eq-eqb x old hit))
    ((noted (Raise i old) Won me).0, keeps, tt, (done.0.0, (u, played, done.0.1)), (by Won done.1, known)))
    (λ miss.
    let played : play w (suc id) (Raise i old) ≡ Some (Lost x, w) =
    asked lost (ap (λ (b : Bool). if b then won else lost)
    (ne_eqb (slice_index w.counts i) old (λ same. miss (read ∙ same))))
    ∙ ap (λ (n : ℕ). Some (Lost n, w)) (sym read) in
    let done = steps l s r id me at busy k x (Raise i old) (Lost x) w tt played
    (count_kept l s r id me at busy i k word inside) refl refl refl (refl, refl, refl) in
    subst G (sym (ne_eqb x old miss))
    ((noted (Raise i old) (Lost x) me).0, keeps, tt, (done.0.0, (w, played, done.0.1)), (by (Lost x) done.1, known)))

pub lowers : (l : Limits) (slots id : ℕ) (me : Sat) (i k : ℕ) → k ≡ count_word l.population i →
    i < l.population → 0 < bag me.0.view.holds i → Sits me →
    OperationMoves l slots id me k (λ n. (n + (2 ^ 64 - 1)) % 2 ^ 64) (Lower i ∷ []) (λ x. Value x ∷ [])
    (lower_answers (step slots k 1 0 none) me)
lowers l slots id me i k word inside held busy s r _ at small =
    let x : ℕ = slice_index s.words k in
    let w = r.world in
    let v = me.0.view in
    let read = count_read l s r id me at busy i k word inside in
    let own = own_count l s r id me at busy i k word inside held in
    let u : World = record w {
      counts = set w.counts i (slice_index w.counts i - 1);
      views = set w.views id (hold_ended v i (slice_index w.counts i == 1));
    } in
    let less : (x + (18446744073709551616 - 1)) % 18446744073709551616 ≡ slice_index w.counts i - 1 =
    omega arith in
    let played : play w (suc id) (Lower i) ≡ Some (Value x, u) =
    plays l s r id me at busy i k word inside (Lower i) (lower w id v i)
    (in_pool l s r id me at busy i k word inside)
    (played_when (nat_lt 0 (bag v.holds i)) (lower w id v i) (lt-ltb 0 (bag v.holds i) held))
    ∙ ap (λ (n : ℕ). Some (Value n, u)) (sym read) in
    let words : set (words_of w) k ((x + (18446744073709551616 - 1)) % 18446744073709551616) ≡ words_of u =
    ap (λ (n : ℕ). set (words_of w) k n) less
    ∙ count_set l s r id me at busy i k word inside (slice_index w.counts i - 1) in
    let done = steps l s r id me at busy k ((x + (18446744073709551616 - 1)) % 18446744073709551616)
    (Lower i) (Value x) u tt played words refl refl refl (refl, refl, refl) in (
      (noted (Lower i) (Value x) me).0,
      keeps,
      tt,
      (done.0.0, (u, played, done.0.1)),
      (
        by_word l s r id me at busy i k word inside
            (λ (j : ℕ). Noted (Lower j) (Value x) me (noted (Lower i) (Value x) me)) done.1,
        by_word l s r id me at busy i k word inside (λ (j : ℕ). bag v.holds j ≤ x) own,
        limited_count l s r id me at busy i k word inside,
        by_word l s r id me at busy i k word inside (λ (j : ℕ). KnowsCount me.0 j x)
            (known_count l s r id me at busy i k word inside held),
      ),
    )

pub resets : (l : Limits) (slots id : ℕ) (me : Sat) (i k : ℕ) → k ≡ count_word l.population i →
    i < l.population → 0 < bag me.0.view.zeros i → Sits me →
    OperationMoves l slots id me k (λ _. 1) (Reset i ∷ []) (λ _. Done ∷ []) (λ _. reset_answers (step slots k 1 0 none) me 1)
resets l slots id me i k word inside zero busy s r _ at _ =
    let w = r.world in
    let v = me.0.view in
    let u : World = record w { counts = set w.counts i 1; views = set w.views id (was_reset v i) } in
    let played : play w (suc id) (Reset i) ≡ Some (Done, u) =
    plays l s r id me at busy i k word inside (Reset i) (reset w id v i)
    (in_pool l s r id me at busy i k word inside)
    (played_when (nat_lt 0 (bag v.zeros i)) (reset w id v i) (lt-ltb 0 (bag v.zeros i) zero)) in
    let done = steps l s r id me at busy k 1 (Reset i) Done u tt played
    (count_set l s r id me at busy i k word inside 1) refl refl refl (refl, refl, refl) in (
      (noted (Reset i) Done me).0,
      keeps,
      tt,
      (done.0.0, (u, played, done.0.1)),
      by_word l s r id me at busy i k word inside
          (λ (j : ℕ). Noted (Reset j) Done me (noted (Reset i) Done me)) done.1,
    )
