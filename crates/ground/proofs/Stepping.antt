-- Each of the eight steps of the stack keeps the rule, and answers its seat what its contract says.
use Rattle.std.proofs.Common.{◌≡◌, ◌≢◌, ◌==◌, ℕ, zero, suc, ◌+◌, ◌-◌, ◌%◌, ◌^◌, ◌<◌, ◌≤◌, Bool, true, false, eqb, List, [], ◌∷◌, ◌++◌, Option, Some, None, length, set, refl, sym, ap, ◌∙◌, subst, ⊎_elim, arith, eq-eqb, ne_eqb}
use Rattle.std.specs.Prelude.{slice_index, nat_lt, nat_le, ◌&&◌, IfSome, if◌then◌else◌}
use Rattle.std.proofs.lemmas.Bool.{false_from_ne_true, cases_lt, lt-ltb, le-leb, eqb-true, and_from, and_parts}
use Rattle.std.proofs.lemmas.List.{set-get_or}
use mathlib.Core.Option.{some, none}
use mathlib.Core.Logic.{dite}
use native.Mathlib.Decide.{ℕ_discrete}
use lib.ListN.{get_elem?}
use prog.Atomic.{either}
use Rattle.atomic_table.specs.Table.{Act, step, keeps, stepped, Valid, carried_after}
use Rattle.head_word.specs.Heads.{low_in}
use Rattle.commons.specs.Bag.{bag}
use Rattle.commons.specs.declared.limits.Limits.{Limits}
use Rattle.step_core.specs.declared.view.Head.{Head}
use Rattle.step_core.specs.declared.view.Look.{Look}
use Rattle.step_core.specs.declared.view.Chain.{Chain}
use Rattle.step_core.specs.declared.view.View.{View}
use Rattle.step_core.specs.declared.step.Step.{Step}
use Rattle.step_core.specs.declared.step.Step.TheVariants.{LoadLength, Reserve, Add, LoadHead, LoadLink, Cut, StoreLink, Push}
use Rattle.step_core.specs.declared.step.Outcome.{Outcome}
use Rattle.step_core.specs.declared.step.Outcome.TheVariants.{Value, HeadIs, Won, Got, Lost, LostTo, Done}
use Rattle.step_core.specs.World.{World, view_at, credits, link_in, every_part}
use Rattle.step_core.specs.Links.{link_value, first_value}
use Rattle.step_core.specs.Runs.{Reaches}
use Rattle.step_core.specs.Schedules.{slot_at}
use Rattle.step_core.specs.Views.{view_after, reserved as more_credit, given_back, looking_at, walks_to, can_cut, MayCut, cut_view, cut_look, seen_by, lost_look, chained, can_push, MayPush, push_view, lost_push}
use Rattle.step_core.specs.Steps.{Play, when, given, quiet, knows, next_head, same_head, reserve, load_head, load_link, cut, push, play}
use Rattle.step_core.specs.Law.{LookRule}
use Rattle.step_core.specs.Table.{Get, Put}
use Rattle.step_core.proofs.StackSteps.{one_view}
use Rattle.step_core.proofs.Telling.{length_is_bounded, lost_is_later_law}
use Rattle.ground.specs.declared.known.Known.{Known}
use Rattle.ground.specs.Layout.{pack, unpack, head_word, lines, rows_of, words_of, length_word, link_word, element_linked_at}
use Rattle.ground.specs.Own.{Owned}
use Rattle.ground.specs.Rule.{Slot, Sat, Ruled}
use Rattle.ground.specs.Seats.{KnowsLength, KnowsEnd, front_of, count_of, element_of}
use Rattle.ground.specs.StepAnswers.{noted, Noted, exchanged, cut_found, push_found, IsLater, IsShared, loaded_length, reserved, added, loaded_head, loaded_link, cut_answers, stored_link, push_answers}
use Rattle.ground.specs.Operations.{Sits, OperationMoves}
use Rattle.ground.proofs.Playing.{St, tail_of, unpack_pack, row_played, law, here, is as is_view, busy_here, my_limits, law_after, limits_after, view_there_after, told_views, steps, steps_by, read_at, read_length, read_head, head_is, link_at, link_set}
use Rattle.ground.specs.Changing.{KnowsChanges, KnowsOpening}
use Rattle.ground.proofs.Sitting.{changes_known, opening_known}
use Rattle.ground.proofs.Alone.{knows as knows_length, knows_end}

-- ---- the length

module _ (l : Limits) (s : St) (r : Ruled l s) (id : ℕ) (me : Sat) (at : get_elem? s.views id ≡ some me.0) (busy : Sits me) where
  -- the only seat of a pool knows the length word
  my_length : KnowsLength me.0 (slice_index s.words length_word)
  my_length =
      subst (λ (n : ℕ). KnowsLength me.0 n) (sym (read_length l s r id me at busy))
      (knows_length r.world (law l s r id me at busy) r.counts.headers r.desks.count r.packets me.0
      (r.limits ∙ sym (my_limits l s r id me at busy)) id (here l s r id me at busy)
      (is_view l s r id me at busy) busy.2 (r.lies id me.0 at))

  -- the length word may be written as it was found
  length_kept : set (words_of r.world) length_word (slice_index s.words length_word) ≡ words_of r.world
  length_kept =
      ap (λ (n : ℕ). lines (pack r.world.head) n ++ rows_of r.world)
      (read_length l s r id me at busy)

pub loads_length : (l : Limits) (slots id : ℕ) (me : Sat) → Sits me →
    OperationMoves l slots id me length_word (λ n. n) (LoadLength ∷ []) (λ x. Value x ∷ [])
    (loaded_length (step slots length_word 0 0 none) me)
loads_length l slots id me busy s r _ at _ =
    let x : ℕ = slice_index s.words length_word in
    let w = r.world in
    let e = read_length l s r id me at busy in
    let p : Play = quiet (Value w.length) w in
    let played : play w (suc id) LoadLength ≡ Some (Value x, w) =
    row_played w id me.0.view LoadLength p (here l s r id me at busy) (is_view l s r id me at busy) refl
    refl ∙ ap (λ (n : ℕ). Some (Value n, w)) (sym e) in
    let done = steps l s r id me at busy length_word x LoadLength (Value x) w tt played
    (length_kept l s r id me at busy) refl refl refl (refl, refl, refl) in
    let few = length_is_bounded w (law l s r id me at busy) in
    let pop = ap (λ (k : Limits). k.population) r.limits in
    let mine = ap (λ (k : Limits). k.population) (my_limits l s r id me at busy) in (
      (noted LoadLength (Value x) me).0,
      keeps,
      tt,
      (done.0.0, (w, played, done.0.1)),
      (done.1, omega arith, my_length l s r id me at busy),
    )

-- where the row's test holds, its play is what becomes of the step
pub played_when : (test : Bool) (p : Play) → test ≡ true → when test p ≡ Some p
played_when test p e = ap (λ (b : Bool). when b p) e

pub reserves : (l : Limits) (slots id : ℕ) (me : Sat) (old new : ℕ) → new < old → Sits me →
    OperationMoves l slots id me length_word (λ x. either (eqb x old) new x) (Reserve old (old - new) ∷ [])
    (λ x. exchanged (eqb x old) x ∷ []) (reserved (step slots length_word old new none) me)
reserves l slots id me old new less busy s r _ at _ =
    let x : ℕ = slice_index s.words length_word in
    let w = r.world in
    let v = me.0.view in
    let n : ℕ = old - new in
    let e = read_length l s r id me at busy in
    let known = my_length l s r id me at busy in
    let asked : (nat_le 1 n && nat_le n old) ≡ true =
    and_from (nat_le 1 n) (nat_le n old) (le-leb 1 n (omega arith)) (le-leb n old (omega arith)) in
    let won : World = record w { length = old - n; views = set w.views id (more_credit v n) } in
    let G : Bool → Type 0 = λ b.
    (u : Known) × (a : Act Slot) × Valid s.homes me.1 a
    × ((after : Ruled l (stepped s length_word (either b new x) id me.1 u a))
    × Reaches w ((suc id, Reserve old n) ∷ []) (exchanged b x ∷ []) after.world)
    × (Noted (Reserve old n) (exchanged b x) me (u, carried_after me.1 a)
    × KnowsLength me.0 x) in
    let tried : (o : Outcome) (u : World) (test : Bool) → (w.length == old) ≡ test →
    ◌≡◌ {A = Play} (if test then quiet Won won else quiet (Lost w.length) w) (quiet o u) →
    play w (suc id) (Reserve old n) ≡ Some (o, u) = λ o u test is goes.
    row_played w id v (Reserve old n) (quiet o u) (here l s r id me at busy) (is_view l s r id me at busy) refl
    (played_when (nat_le 1 n && nat_le n old) (reserve w id v old n) asked
    ∙ ap (λ (p : Play). Some p)
    (ap (λ (b : Bool). if b then quiet Won won else quiet (Lost w.length) w) is ∙ goes)) in
    dite (ℕ_discrete x old)
    (λ hit.
    let back : old - n ≡ new = omega arith in
    let played : play w (suc id) (Reserve old n) ≡ Some (Won, won) =
    tried Won won true (eq-eqb w.length old (sym e ∙ hit)) refl in
    let done = steps l s r id me at busy length_word new (Reserve old n) Won won tt played
    (ap (λ (m : ℕ). lines (pack w.head) m ++ rows_of w) (sym back)) refl refl refl (refl, refl, refl) in
    subst G (sym (eq-eqb x old hit))
    ((noted (Reserve old n) Won me).0, keeps, tt, (done.0.0, (won, played, done.0.1)), (done.1, known)))
    (λ miss.
    let lost : play w (suc id) (Reserve old n) ≡ Some (Lost x, w) =
    tried (Lost w.length) w false (ne_eqb w.length old (λ same. miss (e ∙ same))) refl
    ∙ ap (λ (m : ℕ). Some (Lost m, w)) (sym e) in
    let done = steps l s r id me at busy length_word x (Reserve old n) (Lost x) w tt lost
    (length_kept l s r id me at busy) refl refl refl (refl, refl, refl) in
    subst G (sym (ne_eqb x old miss))
    ((noted (Reserve old n) (Lost x) me).0, keeps, tt, (done.0.0, (w, lost, done.0.1)), (done.1, known)))

pub adds : (l : Limits) (slots id : ℕ) (me : Sat) (n : ℕ) → 1 ≤ n → n ≤ me.0.view.credit →
    Sits me →
    OperationMoves l slots id me length_word (λ x. (x + n) % 2 ^ 64) (Add n ∷ []) (λ _. Done ∷ [])
    (added (step slots length_word n 0 none) me)
adds l slots id me n some_of within busy s r _ at _ =
    let x : ℕ = slice_index s.words length_word in
    let w = r.world in
    let v = me.0.view in
    let e = read_length l s r id me at busy in
    let credit : (view_at w.views id).credit ≡ v.credit = ap (λ (u : View). u.credit) (is_view l s r id me at busy) in
    let mine : (view_at w.views id).credit ≤ credits w.views = one_view (λ (u : View). u.credit) w.views id refl in
    let all : w.length + credits w.views ≤ w.limits.population = length_is_bounded w (law l s r id me at busy) in
    let small = r.pool.population in
    let pop : w.limits.population ≡ l.population = ap (λ (k : Limits). k.population) r.limits in
    let no_wrap : (x + n) % 18446744073709551616 ≡ w.length + n = omega arith in
    let u : World = record w { length = w.length + n; views = set w.views id (given_back v n) } in
    let asked : (nat_le 1 n && nat_le n v.credit) ≡ true =
    and_from (nat_le 1 n) (nat_le n v.credit) (le-leb 1 n some_of) (le-leb n v.credit within) in
    let played : play w (suc id) (Add n) ≡ Some (Done, u) =
    row_played w id v (Add n) (quiet Done u) (here l s r id me at busy) (is_view l s r id me at busy) refl
    (played_when (nat_le 1 n && nat_le n v.credit) (quiet Done u) asked) in
    let done = steps l s r id me at busy length_word ((x + n) % 18446744073709551616) (Add n) Done u tt played
    (ap (λ (m : ℕ). lines (pack w.head) m ++ rows_of w) no_wrap) refl refl refl (refl, refl, refl) in
    ((noted (Add n) Done me).0, keeps, tt, (done.0.0, (u, played, done.0.1)), done.1)

-- ---- the head

module _ (l : Limits) (s : St) (r : Ruled l s) (id : ℕ) (me : Sat) (at : get_elem? s.views id ≡ some me.0) (busy : Sits me) where
  -- the head's word may be written as it was found
  head_kept : set (words_of r.world) head_word (slice_index s.words head_word) ≡ words_of r.world
  head_kept =
      ap (λ (n : ℕ). lines n r.world.length ++ rows_of r.world)
      (read_head l s r id me at busy)

  pub my_population : me.0.limits.population ≡ r.world.limits.population
  my_population =
      ap (λ (k : Limits). k.population) (my_limits l s r id me at busy)
      ∙ sym (ap (λ (k : Limits). k.population) r.limits)

  -- the top that was read is one of the pool's
  top_read : low_in (slice_index s.words head_word) ≤ me.0.limits.population
  top_read =
      let same : low_in (slice_index s.words head_word) ≡ r.world.head.top =
      ap (λ (h : Head). h.top) (head_is l s r id me at busy) in
      let top = r.stack.top in
      let mine = my_population in
      omega arith

  -- what the only seat of a pool knows of its walk once its step is played
  end_after : (st : Step) (o : Outcome) (u : World) → play r.world (suc id) st ≡ Some (o, u) →
      view_after (slot_at r.world.desks st) st o me.0.view ≡ view_after None st o me.0.view →
      KnowsEnd me.0.limits (view_after None st o me.0.view)
  end_after st o u e bare =
      let there =
      view_there_after l s r id me at busy u (view_after None st o me.0.view)
      (told_views l s r id me at busy st o u e bare) in
      subst (λ (k : Limits). KnowsEnd k (view_after None st o me.0.view))
      (sym (my_limits l s r id me at busy))
      (knows_end u (law_after l s r id me at busy st o u e) l
      (limits_after l s r id me at busy st o u e) id there.0 (view_after None st o me.0.view) there.1)

pub loads_head : (l : Limits) (slots id : ℕ) (me : Sat) → Sits me →
    OperationMoves l slots id me head_word (λ n. n) (LoadHead ∷ []) (λ x. HeadIs (unpack x) ∷ [])
    (loaded_head (step slots head_word 0 0 none) me)
loads_head l slots id me busy s r _ at _ =
    let x : ℕ = slice_index s.words head_word in
    let w = r.world in
    let v = me.0.view in
    let found = head_is l s r id me at busy in
    let u : World = knows w id (looking_at v (unpack x)) in
    let played : play w (suc id) LoadHead ≡ Some (HeadIs (unpack x), u) =
    row_played w id v LoadHead (load_head w id v) (here l s r id me at busy) (is_view l s r id me at busy) refl refl
    ∙ ap (λ (h : Head). Some (HeadIs h, knows w id (looking_at v h))) (sym found) in
    let done = steps l s r id me at busy head_word x LoadHead (HeadIs (unpack x)) u tt played
    (head_kept l s r id me at busy) refl refl refl (refl, refl, refl) in
    let seen : (view_at w.views id).seen ≤ w.head.count = r.stack.looks.seen id in
    let mine : v.seen ≤ w.head.count = subst (λ (y : View). y.seen ≤ w.head.count) (is_view l s r id me at busy) seen in (
      (noted LoadHead (HeadIs (unpack x)) me).0,
      keeps,
      tt,
      (done.0.0, (u, played, done.0.1)),
      (
        done.1,
        top_read l s r id me at busy,
        subst (λ (h : Head). v.seen ≤ h.count) (sym found) mine,
        subst (λ (h : Head). KnowsChanges me.0 h.count) (sym found) (changes_known l s r id me.0 at busy.0),
        subst (λ (h : Head). KnowsOpening me.0 h) (sym found) (opening_known l s r id me.0 at busy.0),
        end_after l s r id me at busy LoadHead (HeadIs (unpack x)) u played refl,
      ),
    )

-- ---- the links

-- the look whose walk goes on at an element
look_there : (o : Option Look) (i : ℕ) → walks_to o i ≡ true →
    (k : Look) × (o ≡ Some k) × ((k.next == suc i) ≡ true)
look_there None i e = absurd (cc)
look_there (Some k) i e = (k, refl, e)

there : {X : Type 0} (o : Option X) (x : X) (P : X → Type 0) → o ≡ Some x → IfSome o P → P x
there o x P e h = subst (λ (z : Option _). IfSome z P) e h

pub value_of_element : (x : ℕ) → link_value (element_of x) ≡ x
value_of_element zero = refl
value_of_element (suc i) = refl

-- the next of a walk is an element of the pool
pub next_inside : (l : Limits) (v : View) (i : ℕ) → Owned l v → walks_to v.look i ≡ true → i < l.population
next_inside l v i own e =
    let k = look_there v.look i e in
    let next : k.0.next ≡ suc i = eqb-true k.0.next (suc i) k.2 in
    let range = (there v.look k.0 (λ z. (z.next ≤ l.population) × (z.head.top ≤ l.population)) k.1 own.look).0 in
    omega arith

-- an element of the hand is one of the pool's
pub hand_inside : (l : Limits) (v : View) (i : ℕ) → Owned l v → 0 < bag v.hand i → i < l.population
hand_inside l v i own h =
    ⊎_elim (λ (c : i < l.population). c)
    (λ (c : l.population ≤ i). absurd (let z = own.hand_below i c in omega arith))
    (cases_lt i l.population)

-- of the link's own word
loads_own : (l : Limits) (slots id : ℕ) (me : Sat) (i : ℕ) → walks_to me.0.view.look i ≡ true →
    Sits me → Owned me.0.limits me.0.view →
    OperationMoves l slots id me (link_word i) (λ n. n) (LoadLink i ∷ []) (λ x. Value x ∷ [])
    (loaded_link (step slots (link_word i) 0 0 none) me)
loads_own l slots id me i may busy own s r _ at _ =
    let x : ℕ = slice_index s.words (link_word i) in
    let w = r.world in
    let v = me.0.view in
    let found = look_there v.look i may in
    let k : Look = found.0 in
    let mine = my_population l s r id me at busy in
    let small : i < me.0.limits.population = next_inside me.0.limits v i own may in
    let all = r.stack.links in
    let inside : i < length w.links = omega arith in
    let in_pool : i < w.limits.population = omega arith in
    let e : x ≡ slice_index (words_of w) (link_word i) = read_at l s r id me at busy (link_word i) in
    let link : x ≡ link_in w.links i = e ∙ link_at l s r id me at busy i inside in
    let on : ℕ → View = λ n. record v { look = Some (record { head = k.head; front = k.front ++ i ∷ []; next = n }) } in
    let u : World = knows w id (on x) in
    let played : play w (suc id) (LoadLink i) ≡ Some (Value x, u) =
    row_played w id v (LoadLink i) (load_link w id v i k) (here l s r id me at busy) (is_view l s r id me at busy)
    (lt-ltb i w.limits.population in_pool)
    (ap (λ (o : Option Look). given o (λ z. when (z.next == suc i) (load_link w id v i z))) found.1
    ∙ played_when (k.next == suc i) (load_link w id v i k) found.2)
    ∙ ap (λ (n : ℕ). Some (Value n, knows w id (on n))) (sym link) in
    let kept : set (words_of w) (link_word i) x ≡ words_of w =
    ap (λ (n : ℕ). set (words_of w) (link_word i) n) e ∙ set-get_or (words_of w) (link_word i) 0 in
    let done = steps l s r id me at busy (link_word i) x (LoadLink i) (Value x) u tt played kept refl refl refl (refl, refl, refl) in
    let range = r.stack.links_in_range i in
    let ends = end_after l s r id me at busy (LoadLink i) (Value x) u played refl in
    let word : i ≡ element_linked_at (link_word i) = omega arith in (
      (noted (LoadLink i) (Value x) me).0,
      keeps,
      tt,
      (done.0.0, (u, played, done.0.1)),
      (
        subst (λ (j : ℕ). Noted (LoadLink j) (Value x) me (noted (LoadLink i) (Value x) me)) word done.1,
        omega arith,
        subst (λ (j : ℕ). KnowsEnd me.0.limits (view_after None (LoadLink j) (Value x) v)) word ends,
      ),
    )

pub loads_link : (l : Limits) (slots id : ℕ) (me : Sat) (i k : ℕ) → k ≡ link_word i →
    walks_to me.0.view.look i ≡ true → Sits me → Owned me.0.limits me.0.view →
    OperationMoves l slots id me k (λ n. n) (LoadLink i ∷ []) (λ x. Value x ∷ []) (loaded_link (step slots k 0 0 none) me)
loads_link l slots id me i k word may busy own =
    subst (λ (j : ℕ). OperationMoves l slots id me j (λ n. n) (LoadLink i ∷ []) (λ x. Value x ∷ [])
    (loaded_link (step slots j 0 0 none) me)) (sym word)
    (loads_own l slots id me i may busy own)

stores_own : (l : Limits) (slots id : ℕ) (me : Sat) (i x : ℕ) → 0 < bag me.0.view.hand i →
    x ≤ l.population → Sits me → Owned me.0.limits me.0.view →
    OperationMoves l slots id me (link_word i) (λ _. x) (StoreLink i (element_of x) ∷ []) (λ _. Done ∷ [])
    (λ _. stored_link (step slots (link_word i) x 0 none) me x)
stores_own l slots id me i x hand small busy own s r _ at _ =
    let w = r.world in
    let v = me.0.view in
    let mine = my_population l s r id me at busy in
    let pop = ap (λ (k : Limits). k.population) r.limits in
    let below : i < me.0.limits.population = hand_inside me.0.limits v i own hand in
    let all = r.stack.links in
    let inside : i < length w.links = omega arith in
    let in_pool : i < w.limits.population = omega arith in
    let j : Option ℕ = element_of x in
    let value : link_value j ≡ x = value_of_element x in
    let range : link_value j ≤ w.limits.population = omega arith in
    let u : World = record w {
      links = set w.links i (link_value j);
      views = set w.views id (chained v i (link_value j));
    } in
    let played : play w (suc id) (StoreLink i j) ≡ Some (Done, u) =
    row_played w id v (StoreLink i j) (quiet Done u) (here l s r id me at busy) (is_view l s r id me at busy)
    (and_from (nat_lt i w.limits.population) (nat_le (link_value j) w.limits.population)
    (lt-ltb i w.limits.population in_pool) (le-leb (link_value j) w.limits.population range))
    (played_when (nat_lt 0 (bag v.hand i)) (quiet Done u) (lt-ltb 0 (bag v.hand i) hand)) in
    let words : set (words_of w) (link_word i) x ≡ words_of u =
    link_set l s r id me at busy i x inside
    ∙ ap (λ (n : ℕ). lines (pack w.head) w.length ++ (set w.links i n ++ tail_of w)) (sym value) in
    let done = steps l s r id me at busy (link_word i) x (StoreLink i j) Done u tt played words refl refl refl (refl, refl, refl) in
    let word : i ≡ element_linked_at (link_word i) = omega arith in (
      (noted (StoreLink i j) Done me).0,
      keeps,
      tt,
      (done.0.0, (u, played, done.0.1)),
      subst (λ (k : ℕ). Noted (StoreLink k j) Done me (noted (StoreLink i j) Done me)) word done.1,
    )

pub stores_link : (l : Limits) (slots id : ℕ) (me : Sat) (i k x : ℕ) → k ≡ link_word i →
    0 < bag me.0.view.hand i → x ≤ l.population → Sits me → Owned me.0.limits me.0.view →
    OperationMoves l slots id me k (λ _. x) (StoreLink i (element_of x) ∷ []) (λ _. Done ∷ [])
    (λ _. stored_link (step slots k x 0 none) me x)
stores_link l slots id me i k x word hand small busy own =
    subst (λ (j : ℕ). OperationMoves l slots id me j (λ _. x) (StoreLink i (element_of x) ∷ []) (λ _. Done ∷ [])
    (λ _. stored_link (step slots j x 0 none) me x))
    (sym word) (stores_own l slots id me i x hand small busy own)

-- ---- the exchanges of the head

module _ (l : Limits) (s : St) (r : Ruled l s) (id : ℕ) (me : Sat) (at : get_elem? s.views id ≡ some me.0)
    (busy : Sits me) (k : Look) (mine : me.0.view.look ≡ Some k) where
  my_look : (view_at r.world.views id).look ≡ Some k
  my_look = ap (λ (v : View). v.look) (is_view l s r id me at busy) ∙ mine

  -- the top of the look is one of the pool's
  look_top : k.head.top ≤ l.population
  look_top =
      let range =
      (there (view_at r.world.views id).look k
      (λ z. (z.head.top ≤ r.world.limits.population) × (z.next ≤ r.world.limits.population)) my_look
      (r.stack.look_range id)).0 in
      let pop = ap (λ (z : Limits). z.population) r.limits in
      omega arith

  -- an exchange that found what was read found the head of the look
  head_found : slice_index s.words head_word ≡ pack k.head → r.world.head ≡ k.head
  head_found hit =
      let small = r.pool.population in
      let top = look_top in
      sym (head_is l s r id me at busy) ∙ (ap unpack hit ∙ unpack_pack k.head (omega arith))

  -- the head that was found has one change less than the one that is written
  raised : slice_index s.words head_word ≡ pack k.head → k.head.count + 1 ≡ r.world.head.count + 1
  raised hit = ap (λ (h : Head). h.count + 1) (sym (head_found hit))

  found_same : slice_index s.words head_word ≡ pack k.head → same_head r.world.head k.head ≡ true
  found_same hit =
      let same = head_found hit in
      and_from (r.world.head.top == k.head.top) (r.world.head.count == k.head.count)
      (eq-eqb r.world.head.top k.head.top (ap (λ (h : Head). h.top) same))
      (eq-eqb r.world.head.count k.head.count (ap (λ (h : Head). h.count) same))

  -- an exchange that lost found another head than the look's
  head_other : (slice_index s.words head_word ≡ pack k.head → ⊥) → r.world.head ≡ k.head → ⊥
  head_other miss same = miss (read_head l s r id me at busy ∙ ap pack same)

  found_other : (slice_index s.words head_word ≡ pack k.head → ⊥) → same_head r.world.head k.head ≡ false
  found_other miss =
      false_from_ne_true (same_head r.world.head k.head) (λ e.
      let both = and_parts (r.world.head.top == k.head.top) (r.world.head.count == k.head.count) e in
      let top = eqb-true r.world.head.top k.head.top both.0 in
      let count = eqb-true r.world.head.count k.head.count both.1 in
      head_other miss (λ i. record { top = top i; count = count i }))

  -- an exchange that lost found a later head than the look's
  found_later : (slice_index s.words head_word ≡ pack k.head → ⊥) →
      k.head.count < (unpack (slice_index s.words head_word)).count
  found_later miss =
      subst (λ (h : Head). k.head.count < h.count) (sym (head_is l s r id me at busy))
      (lost_is_later_law r.world (suc id) k (law l s r id me at busy) (busy_here l s r id me at busy)
      my_look (head_other miss))

  -- an exchange loses to another seat, so its own isn't the only one
  not_alone : (slice_index s.words head_word ≡ pack k.head → ⊥) → me.0.view.part ≢ every_part me.0.limits
  not_alone miss all =
      let rule =
      there (view_at r.world.views id).look k
      (LookRule (every_part r.world.limits) r.world.head (link_in r.world.links)
      (view_at r.world.views id).part (view_at r.world.views id).seen) my_look
      (r.stack.looks.look id) in
      let part : (view_at r.world.views id).part ≡ me.0.view.part =
      ap (λ (v : View). v.part) (is_view l s r id me at busy) in
      let every = ap (λ (z : Limits). every_part z) (my_limits l s r id me at busy ∙ sym r.limits) in
      let same = rule.same_count (part ∙ (all ∙ every)) in
      let later = found_later miss in
      let read = ap (λ (h : Head). h.count) (head_is l s r id me at busy) in
      absurd (omega arith)

  -- what an exchange that lost answers
  is_later : (slice_index s.words head_word ≡ pack k.head → ⊥) → IsLater false me.0 (slice_index s.words head_word)
  is_later miss =
      let top = top_read l s r id me at busy in
      let small = r.pool.population in
      let mine_is = my_population l s r id me at busy in
      let pop = ap (λ (z : Limits). z.population) r.limits in
      let seen : count_of me.0.view.look ≡ k.head.count = ap count_of mine in (
        omega arith,
        subst (λ (n : ℕ). n < (unpack (slice_index s.words head_word)).count) (sym seen) (found_later miss),
      )

pub cuts : (l : Limits) (slots id : ℕ) (me : Sat) (head : Head) (next old new : ℕ) → old ≡ pack head →
    new ≡ pack (next_head next head.count) → MayCut me.0.view head next → Sits me →
    OperationMoves l slots id me head_word (λ x. either (eqb x old) new x) (Cut ∷ [])
    (λ x. cut_found (eqb x old) (front_of me.0.view.look) x ∷ []) (cut_answers (step slots head_word old new none) me)
cuts l slots id me head next old new was becomes may busy s r _ at _ =
    let x : ℕ = slice_index s.words head_word in
    let w = r.world in
    let v = me.0.view in
    let k : Look = may.0 in
    let mine = may.1 in
    let can = may.2 in
    let expected : old ≡ pack k.head = was ∙ ap pack (sym may.3) in
    let written : new ≡ pack (next_head k.next k.head.count) =
    becomes ∙ (λ i. pack (next_head (sym may.4 i) (sym may.3 i).count)) in
    let front : List ℕ = front_of v.look in
    let is_front : front ≡ k.front = ap front_of mine in
    let G : Bool → Type 0 = λ b.
    (u : Known) × (a : Act Slot) × Valid s.homes me.1 a
    × ((after : Ruled l (stepped s head_word (either b new x) id me.1 u a))
    × Reaches w ((suc id, Cut) ∷ []) (cut_found b front x ∷ []) after.world)
    × (Noted Cut (cut_found b front x) me (u, carried_after me.1 a) × IsLater b me.0 x × IsShared b me.0) in
    let asked : (p : Play) → cut w id v k ≡ p → play w (suc id) Cut ≡ Some (p.outcome, p.after) = λ p e.
    row_played w id v Cut p (here l s r id me at busy) (is_view l s r id me at busy) refl
    (ap (λ (o : Option Look). given o (λ z. when (can_cut v z) (cut w id v z))) mine
    ∙ (played_when (can_cut v k) (cut w id v k) can ∙ ap (λ (q : Play). Some q) e)) in
    dite (ℕ_discrete x old)
    (λ hit.
    let u : World = record w {
      head = next_head k.next k.head.count;
      views = set w.views id (cut_view v k);
    } in
    let won : Play = record { outcome = Got k.front; after = u; event = Some (Get (suc id) k.front) } in
    let e : cut w id v k ≡ won =
    ap (λ (b : Bool). if b then won else quiet (LostTo w.head) (knows w id (lost_look v w.head.count)))
    (found_same l s r id me at busy k mine (hit ∙ expected)) in
    let played : play w (suc id) Cut ≡ Some (Got front, u) =
    asked won e ∙ ap (λ (xs : List ℕ). Some (Got xs, u)) (sym is_front) in
    let work : (view_after None Cut (Got front) v).work ≡ v.work =
    ap (λ (o : Option Look). (cut_look v o).work) mine in
    let words : set (words_of w) head_word new ≡ words_of u =
    ap (λ (n : ℕ). lines n w.length ++ rows_of w) written in
    let done = steps_by l s r id me at busy head_word new Cut (Got front) u tt played words refl refl work
    (raised l s r id me at busy k mine (hit ∙ expected)) refl in
    subst G (sym (eq-eqb x old hit))
    ((noted Cut (Got front) me).0, keeps, tt, (done.0.0, (u, played, done.0.1)), (done.1, tt, tt)))
    (λ miss.
    let other : x ≡ pack k.head → ⊥ = λ same. miss (same ∙ sym expected) in
    let found = head_is l s r id me at busy in
    let lost : Play = quiet (LostTo w.head) (knows w id (lost_look v w.head.count)) in
    let won : Play = record {
      outcome = Got k.front;
      after = record w { head = next_head k.next k.head.count; views = set w.views id (cut_view v k) };
      event = Some (Get (suc id) k.front);
    } in
    let e : cut w id v k ≡ lost =
    ap (λ (b : Bool). if b then won else lost) (found_other l s r id me at busy k mine other) in
    let u : World = knows w id (lost_look v (unpack x).count) in
    let played : play w (suc id) Cut ≡ Some (LostTo (unpack x), u) =
    asked lost e ∙ ap (λ (h : Head). Some (LostTo h, knows w id (lost_look v h.count))) (sym found) in
    let done = steps l s r id me at busy head_word x Cut (LostTo (unpack x)) u tt played
    (head_kept l s r id me at busy) refl refl refl (refl, refl, refl) in
    subst G (sym (ne_eqb x old miss)) (
      (noted Cut (LostTo (unpack x)) me).0,
      keeps,
      tt,
      (done.0.0, (u, played, done.0.1)),
      (done.1, is_later l s r id me at busy k mine other, not_alone l s r id me at busy k mine other),
    ))

pub pushes : (l : Limits) (slots id : ℕ) (me : Sat) (head : Head) (first old new : ℕ) → old ≡ pack head →
    new ≡ pack (next_head first head.count) → MayPush me.0.view head first → Sits me →
    OperationMoves l slots id me head_word (λ x. either (eqb x old) new x) (Push ∷ []) (λ x. push_found (eqb x old) x ∷ [])
    (push_answers (step slots head_word old new none) me)
pushes l slots id me head first old new was becomes may busy s r _ at _ =
    let x : ℕ = slice_index s.words head_word in
    let w = r.world in
    let v = me.0.view in
    let k : Look = may.0 in
    let c : Chain = may.1 in
    let mine = may.2 in
    let chain = may.3 in
    let can = may.4 in
    let expected : old ≡ pack k.head = was ∙ ap pack (sym may.5) in
    let written : new ≡ pack (next_head (first_value c.items) k.head.count) =
    becomes ∙ (λ i. pack (next_head (sym may.6 i) (sym may.5 i).count)) in
    let G : Bool → Type 0 = λ b.
    (u : Known) × (a : Act Slot) × Valid s.homes me.1 a
    × ((after : Ruled l (stepped s head_word (either b new x) id me.1 u a))
    × Reaches w ((suc id, Push) ∷ []) (push_found b x ∷ []) after.world)
    × (Noted Push (push_found b x) me (u, carried_after me.1 a) × IsLater b me.0 x × IsShared b me.0) in
    let asked : (p : Play) → push w id v k c ≡ p → play w (suc id) Push ≡ Some (p.outcome, p.after) = λ p e.
    row_played w id v Push p (here l s r id me at busy) (is_view l s r id me at busy) refl
    (ap (λ (o : Option Look). given o (λ z. given v.chain (λ d. when (can_push z d) (push w id v z d)))) mine
    ∙ (ap (λ (o : Option Chain). given o (λ d. when (can_push k d) (push w id v k d))) chain
    ∙ (played_when (can_push k c) (push w id v k c) can ∙ ap (λ (q : Play). Some q) e))) in
    let lost : Play = quiet (LostTo w.head) (knows w id (lost_push v w.head.count)) in
    let after : World = record w {
      head = next_head (first_value c.items) k.head.count;
      views = set w.views id (push_view v c (k.head.count + 1));
    } in
    let won : Play = record { outcome = Won; after = after; event = Some (Put (suc id) c.items) } in
    dite (ℕ_discrete x old)
    (λ hit.
    let e : push w id v k c ≡ won =
    ap (λ (b : Bool). if b then won else lost) (found_same l s r id me at busy k mine (hit ∙ expected)) in
    let same : push_view v c (k.head.count + 1) ≡ view_after None Push Won v =
    (λ i. push_chain_of v (sym mine i) (sym chain i)) in
    let work : (view_after None Push Won v).work ≡ v.work = ap (λ (u : View). u.work) (sym same) in
    let words : set (words_of w) head_word new ≡ words_of after =
    ap (λ (n : ℕ). lines n w.length ++ rows_of w) written in
    let done = steps_by l s r id me at busy head_word new Push Won after tt (asked won e) words refl refl work
    (raised l s r id me at busy k mine (hit ∙ expected)) refl in
    subst G (sym (eq-eqb x old hit))
    ((noted Push Won me).0, keeps, tt, (done.0.0, (after, asked won e, done.0.1)), (done.1, tt, tt)))
    (λ miss.
    let other : x ≡ pack k.head → ⊥ = λ same. miss (same ∙ sym expected) in
    let found = head_is l s r id me at busy in
    let e : push w id v k c ≡ lost =
    ap (λ (b : Bool). if b then won else lost) (found_other l s r id me at busy k mine other) in
    let u : World = knows w id (lost_push v (unpack x).count) in
    let played : play w (suc id) Push ≡ Some (LostTo (unpack x), u) =
    asked lost e ∙ ap (λ (h : Head). Some (LostTo h, knows w id (lost_push v h.count))) (sym found) in
    let done = steps l s r id me at busy head_word x Push (LostTo (unpack x)) u tt played
    (head_kept l s r id me at busy) refl refl refl (refl, refl, refl) in
    subst G (sym (ne_eqb x old miss)) (
      (noted Push (LostTo (unpack x)) me).0,
      keeps,
      tt,
      (done.0.0, (u, played, done.0.1)),
      (done.1, is_later l s r id me at busy k mine other, not_alone l s r id me at busy k mine other),
    ))
  where
    push_chain_of : View → Option Look → Option Chain → View
    push_chain_of u o None = u
    push_chain_of u o (Some d) = push_view u d (seen_by o)
