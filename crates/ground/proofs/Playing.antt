-- A step of the machine by one seat, on one word, keeps the rule and answers the seat.
use Rattle.std.proofs.Common.{◌≡◌, ◌≢◌, ℕ, zero, suc, ◌+◌, ◌<◌, true, List, [], ◌∷◌, ◌++◌, Some, None, length, set, refl, sym, ap, ◌∙◌, subst, ⊎_elim, arith, get_or-set_same}
use Rattle.std.specs.Prelude.{slice_index, option_map, if◌then◌else◌, map, Option, IfSome}
use Rattle.std.proofs.lemmas.Bool.{lt-ltb}
use Rattle.std.proofs.lemmas.List.{length-set, get_or_append_left, get_or-append_right, set-append_left, set-append_right}
use mathlib.Core.Option.{some, some-ne-none, some-injective}
use lib.ListN.{get_elem?}
use lib.Seq.{map-set}
use Rattle.atomic_table.specs.Table.{State, keeps, stepped}
use Rattle.atomic_table.proofs.Lists.{at_set, at_map}
use Rattle.head_word.specs.Heads.{low_in, count_in, low_values}
use Rattle.commons.specs.Bounds.{IsPool}
use Rattle.commons.specs.Packets.{IsPacket}
use Rattle.commons.specs.declared.limits.Limits.{Limits}
use Rattle.step_core.specs.declared.view.Head.{Head}
use Rattle.step_core.specs.declared.view.Desk.{Desk}
use Rattle.step_core.specs.declared.view.View.{View}
use Rattle.step_core.specs.declared.view.Work.{Work}
use Rattle.step_core.specs.declared.step.Step.{Step}
use Rattle.step_core.specs.declared.step.Outcome.{Outcome}
use Rattle.step_core.specs.World.{World, desk_at, empty_view, view_at, view_of, every_part}
use Rattle.step_core.specs.Law.{Lawful}
use Rattle.step_core.specs.Headers.{HeaderLaw, OpensOwn}
use Rattle.step_core.specs.Schedules.{slot_at}
use Rattle.step_core.specs.Views.{view_after}
use Rattle.step_core.specs.Steps.{Play, in_range, row, turn, played, play}
use Rattle.step_core.proofs.Theorem.{keeps_law, changes_little, views_after, same_population}
use Rattle.step_core.proofs.HeaderWalks.{keeps_headers}
use Rattle.ground.specs.declared.known.Known.{Known}
use Rattle.ground.specs.Changing.{changes_by, IsUnmoved}
use Rattle.ground.specs.Closing.{lying_on}
use Rattle.ground.specs.Layout.{pack, unpack, head_word, lines, word_on, rows_of, words_of, length_word, links_at, link_word, element_linked_at}
use Rattle.ground.specs.Operations.{Sits}
use Rattle.ground.specs.Own.{Owned, AtDesk}
use Rattle.ground.specs.Rule.{Slot, Sat, Ruled, SeesDesks, view_in, home_of}
use Rattle.ground.specs.StepAnswers.{noted, Noted}
use Rattle.ground.proofs.Rules.{lawful_of, stack_of, counts_of, desks_of}
use Rattle.ground.proofs.Owning.{owned_of}
use Rattle.ground.specs.History.{Stepped, notes_of}
use Rattle.ground.proofs.Changing.{sum_set, one_step, none_unmoved}
use Rattle.ground.proofs.History.{led_on}

-- the words behind the links
abbrev pub tail_of : World → List ℕ
tail_of w = w.counts ++ map word_on w.desks

abbrev pub St : Type 0
St = State Slot Known

-- a view that a list has at an index
pub view_there : (views : List View) (i : ℕ) (v : View) → get_elem? views i ≡ some v →
    (i < length views) × (view_at views i ≡ v)
view_there [] i v e = absurd (some-ne-none v (sym e))
view_there (x ∷ xs) zero v e = (omega arith, some-injective x v e)
view_there (x ∷ xs) (suc i) v e =
    let m = view_there xs i v e in
    let h : i < length xs = m.0 in
    (omega arith, m.1)

-- each seat with a part knows the limits, also once one of them knows something else
pub told_again : (l : Limits) (views : List Known) (id : ℕ) (u : Known) →
    ((j : ℕ) (n : Known) → get_elem? views j ≡ some n → 0 < n.view.part → n.limits ≡ l) →
    u.limits ≡ l → (j : ℕ) (n : Known) → get_elem? (set views id u) j ≡ some n →
    0 < n.view.part → n.limits ≡ l
told_again l views id u others mine j n e =
    ⊎_elim (λ (x : (j ≡ id) × (u ≡ n)). λ _. ap (λ (m : Known). m.limits) (sym x.1) ∙ mine)
    (λ (x : (j ≢ id) × (get_elem? views j ≡ some n)). others j n x.1) (at_set views id j u n e)

-- each seat that knows the desks is right, also once one of them has taken a step that leaves them
pub seen_again : (w u : World) (views : List Known) (id : ℕ) (m n : Known) → get_elem? views id ≡ some m →
    ((j : ℕ) (o : Known) → get_elem? views j ≡ some o → SeesDesks w o) → u.limits ≡ w.limits →
    u.desks ≡ w.desks → n.lying ≡ m.lying → n.view.part ≡ m.view.part →
    (j : ℕ) (o : Known) → get_elem? (set views id n) j ≡ some o → SeesDesks u o
seen_again w u views id m n at all limits desks lying part j o e =
    ⊎_elim
    (λ (x : (j ≡ id) × (n ≡ o)).
    subst (SeesDesks u) x.1
    (subst (λ (z : Option (List Slot)). IfSome z (λ ds. (n.view.part ≡ every_part u.limits) × (ds ≡ lying_on u.desks)))
    (sym lying)
    (subst (λ (p : ℕ). IfSome m.lying (λ ds. (p ≡ every_part u.limits) × (ds ≡ lying_on u.desks))) (sym part)
    (moved_on m (all id m at)))))
    (λ (x : (j ≢ id) × (get_elem? views j ≡ some o)). moved_on o (all j o x.1)) (at_set views id j n o e)
  where
    moved_on : (k : Known) → SeesDesks w k → SeesDesks u k
    moved_on k h = subst (λ (z : Limits × List Desk).
        IfSome k.lying (λ ds. (k.view.part ≡ every_part z.0) × (ds ≡ lying_on z.1)))
        (λ i. (sym limits i, sym desks i)) h

-- a seat without a part has done nothing, also once one of them is another
pub idle_again : (views : List Known) (id : ℕ) (u : Known) →
    ((j : ℕ) (n : Known) → get_elem? views j ≡ some n → n.view.part ≡ 0 → IsUnmoved n) →
    (u.view.part ≡ 0 → IsUnmoved u) → (j : ℕ) (n : Known) → get_elem? (set views id u) j ≡ some n →
    n.view.part ≡ 0 → IsUnmoved n
idle_again views id u others mine j n e =
    ⊎_elim
    (λ (x : (j ≡ id) × (u ≡ n)). subst (λ (m : Known). m.view.part ≡ 0 → IsUnmoved m) x.1 mine)
    (λ (x : (j ≢ id) × (get_elem? views j ≡ some n)). others j n x.1) (at_set views id j u n e)

-- a head is what its word unpacks to
pub unpack_pack : (h : Head) → h.top < low_values → unpack (pack h) ≡ h
unpack_pack h small =
    let a : low_in (pack h) ≡ h.top = omega arith in
    let b : count_in (pack h) ≡ h.count = omega arith in
    λ i. record { top = a i; count = b i }

-- a step that its row plays is played
pub row_played : (w : World) (k : ℕ) (v : View) (st : Step) (p : Play) → k < length w.views →
    view_at w.views k ≡ v → in_range w st ≡ true → row w k v st ≡ Some p →
    play w (suc k) st ≡ Some (p.outcome, p.after)
row_played w k v st p here is inside e = ap (option_map (λ (q : Play). (q.outcome, q.after))) all
  where
    all : played w (suc k) st ≡ Some p
    all =
        ap (λ b. if b then turn w k st else None) (lt-ltb k (length w.views) here)
        ∙ (ap (λ b. if b then row w k (view_at w.views k) st else None) inside
        ∙ (ap (λ (u : View). row w k u st) is ∙ e))

module _ (l : Limits) (s : St) (r : Ruled l s) (id : ℕ) (me : Sat) (at : get_elem? s.views id ≡ some me.0) (busy : Sits me) where
  pub law : Lawful r.world
  law = lawful_of r.world r.stack r.counts r.desks

  found_view : get_elem? r.world.views id ≡ some me.0.view
  found_view =
      subst (λ (vs : List View). get_elem? vs id ≡ some me.0.view) r.views_are
      (at_map view_in s.views id me.0 at)

  pub here : id < length r.world.views
  here = (view_there r.world.views id me.0.view found_view).0

  pub is : view_at r.world.views id ≡ me.0.view
  is = (view_there r.world.views id me.0.view found_view).1

  pub busy_here : 0 < (view_of r.world.views (suc id)).part
  busy_here = subst (λ (v : View). 0 < v.part) (sym is) busy.0

  pub my_limits : me.0.limits ≡ l
  my_limits = r.told id me.0 at busy.0

  -- what the rule says of the seat's view by itself
  pub owned : Owned me.0.limits me.0.view
  owned =
      subst (λ (k : Limits). Owned k me.0.view) (r.limits ∙ sym my_limits)
      (owned_of r.world law r.counts.headers id me.0.view is busy.0
      (subst IsPool (sym r.limits) r.pool))

  -- the world after a step of this seat, and the seat's view there
  pub law_after : (st : Step) (o : Outcome) (u : World) → play r.world (suc id) st ≡ Some (o, u) →
      Lawful u
  law_after st o u e = keeps_law r.world (suc id) st o u law busy_here e

  pub limits_after : (st : Step) (o : Outcome) (u : World) →
      play r.world (suc id) st ≡ Some (o, u) → u.limits ≡ l
  limits_after st o u e =
      same_population r.world u (suc id) (changes_little r.world (suc id) st o u e) ∙ r.limits

  pub view_there_after : (u : World) (v : View) → u.views ≡ set r.world.views id v →
      (id < length u.views) × (view_at u.views id ≡ v)
  view_there_after u v views =
      let size : length u.views ≡ length r.world.views =
      ap (λ (vs : List View). length vs) views ∙ length-set r.world.views id v in
      let inside = here in (
        omega arith,
        ap (λ (vs : List View). view_at vs id) views
            ∙ get_or-set_same r.world.views id v (empty_view 0) here,
      )

  -- by the law the view is as told; where the step makes nothing of a slot, without one
  pub told_views : (st : Step) (o : Outcome) (u : World) →
      play r.world (suc id) st ≡ Some (o, u) →
      view_after (slot_at r.world.desks st) st o me.0.view ≡ view_after None st o me.0.view →
      u.views ≡ set r.world.views id (view_after None st o me.0.view)
  told_views st o u e bare =
      (views_after r.world id st o u e).1
      ∙ ap (λ (v : View). set r.world.views id v)
      (ap (λ (v : View). view_after (slot_at r.world.desks st) st o v) is ∙ bare)

  -- the desks are as many as the limits say
  pub counted_desks : (u : World) → u.desks ≡ r.world.desks → u.limits ≡ l →
      length u.desks ≡ u.limits.desks
  counted_desks u desks limits =
      ap (λ (ds : List Desk). length ds) desks
      ∙ (r.desks.count ∙ ap (λ (k : Limits). k.desks) (r.limits ∙ sym limits))

  -- what a step of this seat on one word owes, and gives
  pub steps_by : (i x : ℕ) (st : Step) (o : Outcome) (u : World) →
      OpensOwn (view_at r.world.views id) st → play r.world (suc id) st ≡ Some (o, u) →
      set (words_of r.world) i x ≡ words_of u →
      view_after (slot_at r.world.desks st) st o me.0.view ≡ view_after None st o me.0.view →
      u.desks ≡ r.world.desks → (view_after None st o me.0.view).work ≡ me.0.view.work →
      u.head.count ≡ r.world.head.count + changes_by st o →
      notes_of st o (slot_at r.world.desks st) ≡ (st, o) ∷ []
      → ((after : Ruled l (stepped s i x id me.1 (noted st o me).0 keeps)) × (after.world ≡ u))
      × Noted st o me (noted st o me)
  steps_by i x st o u own e words bare desks work count noting =
      let v = view_after None st o me.0.view in
      let kept : Lawful u = law_after st o u e in
      let headers : HeaderLaw u =
      keeps_headers r.world (suc id) st o u law r.counts.headers busy_here own e in
      let limits : u.limits ≡ l = limits_after st o u e in
      let views = told_views st o u e bare in
      let there = view_there_after u v views in
      let part : v.part ≡ me.0.view.part =
      ap (λ (y : View). y.part) (sym there.1)
      ∙ ((changes_little r.world (suc id) st o u e).part ∙ ap (λ (y : View). y.part) is) in
      let pool = subst IsPool (sym limits) r.pool in
      let some_part = busy.0 in
      let n : Known = (noted st o me).0 in
      let after : Ruled l (stepped s i x id me.1 n keeps) = record {
        world = u;
        words_are = ap (λ (ws : List ℕ). set ws i x) r.words_are ∙ words;
        homes_are = r.homes_are ∙ ap (λ (ds : List Desk). map home_of ds) (sym desks);
        views_are =
            map-set view_in s.views id (noted st o me).0
            ∙ (ap (λ (vs : List View). set vs id v) r.views_are ∙ sym views);
        limits = limits;
        pool = r.pool;
        stack = stack_of u kept;
        counts = counts_of u kept headers;
        desks = desks_of u kept (counted_desks u desks limits);
        told = told_again l s.views id (noted st o me).0 r.told my_limits;
        packets = λ d. subst (λ (ds : List Desk). IfSome (desk_at ds d).slot IsPacket) (sym desks) (r.packets d);
        lies = seen_again r.world u s.views id me.0 n at r.lies (limits ∙ sym r.limits) desks refl part;
        changed =
            (let before = r.changed in
            let sum = sum_set s.views id me.0 n at in
            let one = one_step me.0 n st o refl refl in
            omega arith);
        idle = idle_again s.views id n r.idle (λ none. absurd (omega arith));
        opened = λ all. absurd (none_unmoved s.views id me.0 n (st, o) at refl all);
        history = Stepped id st o ∷ r.history;
        led =
            led_on l r.history r.world s.views id me.0 n st o u at law r.led busy_here e
            (λ i. (me.0.steps ++ sym noting i, me.0.joined));
      } in (
        (after, refl),
        (
          refl,
          subst (λ (k : Limits). Owned k v) (limits ∙ sym my_limits)
              (owned_of u kept headers id v there.1 (subst (λ n. 0 < n) (sym part) busy.0) pool),
          subst (λ (z : Option Work). AtDesk z me.1) (sym work) busy.1,
          λ whole. busy.2 (sym part ∙ whole),
        ),
      )

  -- a step that doesn't change the stack keeps the rule, and answers its seat
  pub steps : (i x : ℕ) (st : Step) (o : Outcome) (u : World) →
      OpensOwn (view_at r.world.views id) st → play r.world (suc id) st ≡ Some (o, u) →
      set (words_of r.world) i x ≡ words_of u →
      view_after (slot_at r.world.desks st) st o me.0.view ≡ view_after None st o me.0.view →
      u.desks ≡ r.world.desks → (view_after None st o me.0.view).work ≡ me.0.view.work →
      (changes_by st o ≡ 0) × (u.head.count ≡ r.world.head.count)
      × (notes_of st o (slot_at r.world.desks st) ≡ (st, o) ∷ [])
      → ((after : Ruled l (stepped s i x id me.1 (noted st o me).0 keeps)) × (after.world ≡ u))
      × Noted st o me (noted st o me)
  steps i x st o u own e words bare desks work quiet =
      steps_by i x st o u own e words bare desks work (let a = quiet.0 in let b = quiet.1 in omega arith) quiet.2

  -- the words as they are read
  pub read_at : (i : ℕ) → slice_index s.words i ≡ slice_index (words_of r.world) i
  read_at i = ap (λ (ws : List ℕ). slice_index ws i) r.words_are

  pub read_length : slice_index s.words length_word ≡ r.world.length
  read_length = read_at length_word

  pub read_head : slice_index s.words head_word ≡ pack r.world.head
  read_head = read_at head_word

  pub head_is : unpack (slice_index s.words head_word) ≡ r.world.head
  head_is =
      let top = r.stack.top in
      let small = r.pool.population in
      let pop = ap (λ (k : Limits). k.population) r.limits in
      ap unpack read_head ∙ unpack_pack r.world.head (omega arith)

  -- a link stands behind the lines
  pub link_at : (i : ℕ) → i < length r.world.links →
      slice_index (words_of r.world) (link_word i) ≡ slice_index r.world.links i
  link_at i inside =
      let behind : element_linked_at (link_word i) ≡ i = omega arith in
      get_or-append_right (lines (pack r.world.head) r.world.length)
      (rows_of r.world) links_at (link_word i) 0 refl (omega arith)
      ∙ (ap (λ (j : ℕ). slice_index (rows_of r.world) j) behind
      ∙ get_or_append_left r.world.links (tail_of r.world) 0 i inside)

  pub link_set : (i x : ℕ) → i < length r.world.links →
      set (words_of r.world) (link_word i) x
      ≡ lines (pack r.world.head) r.world.length ++ (set r.world.links i x ++ tail_of r.world)
  link_set i x inside =
      let behind : element_linked_at (link_word i) ≡ i = omega arith in
      set-append_right (lines (pack r.world.head) r.world.length)
      (rows_of r.world) links_at (link_word i) x refl (omega arith)
      ∙ ap (λ (ys : List ℕ). lines (pack r.world.head) r.world.length ++ ys)
      (ap (λ (j : ℕ). set (rows_of r.world) j x) behind
      ∙ set-append_left r.world.links (tail_of r.world) i x inside)
