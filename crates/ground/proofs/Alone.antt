-- Where one seat is the only one of its pool, which has every part, no other view names anything,
-- and so the seat knows the length of the common list.
use Rattle.std.proofs.Common.{◌≡◌, ◌≢◌, ℕ, zero, suc, ◌+◌, ◌<◌, ◌≤◌, Bool, true, false, List, [], ◌∷◌, ◌++◌, Option, Some, None}
use Rattle.std.proofs.Common.{length, set, refl, sym, ap, ◌∙◌, subst, ⊎_elim, arith, length-append, eq-eqb, ne_eqb}
use Rattle.std.specs.Prelude.{sum_by, IfSome, IsSome, flat_map, not, slice_index_or, ◌&&◌, ◌==◌, if◌then◌else◌}
use Rattle.std.proofs.lemmas.Bool.{cases_lt}
use Rattle.std.proofs.lemmas.List.Sums.{sum_by-set, sum_by-cons}
use lib.ListN.{length-map}
use Rattle.commons.specs.Bag.{bag}
use Rattle.commons.specs.Calls.{desk_full}
use Rattle.commons.specs.declared.packet.Seg.{Seg}
use Rattle.commons.specs.Packets.{IsPacket, held_in, holds_in_slot, own_in, own_in_slot}
use Rattle.commons.specs.declared.limits.Limits.{Limits}
use Rattle.step_core.specs.declared.view.Look.{Look}
use Rattle.step_core.specs.declared.view.View.{View}
use Rattle.step_core.specs.declared.view.Desk.{Desk}
use Rattle.step_core.specs.declared.view.Work.{Work}
use Rattle.step_core.specs.Bags.{one_if}
use Rattle.step_core.specs.World.{World, view_at, desk_at, empty_view, link_in, hands, all_zeros, all_holds, shelf, credits, every_part}
use Rattle.step_core.specs.Law.{Lawful, NamesNothing, LookRule, is_filling, fills, empties}
use Rattle.step_core.specs.Headers.{HeaderLaw, all_headers, own_shelf}
use Rattle.step_core.specs.Links.{Spells}
use Rattle.step_core.specs.Headline.{held_below as all_held_below}
use Rattle.step_core.proofs.Bags.{below-le, below-past, times-nil, times-append, times-from_length}
use Rattle.step_core.proofs.Frame.{each_view}
use Rattle.step_core.proofs.StackSteps.{one_view, two_views}
use Rattle.step_core.proofs.Telling.{all_are_there, front_then_rest}
use Rattle.ground.specs.declared.known.Known.{Known}
use Rattle.ground.specs.Closing.{kept_on, packet_on, lying_on}
use Rattle.ground.specs.Own.{KnowsDesks}
use Rattle.ground.specs.Rule.{SeesDesks}
use Rattle.ground.specs.Seats.{held_below, MayLie, KnowsLength, KnowsEnd}

-- without a part there is nothing
pub others_idle : (w : World) → Lawful w → (k : ℕ) → (view_at w.views k).part ≡ every_part w.limits →
    (j : ℕ) → j ≢ k → NamesNothing (view_at w.views j)
others_idle w law k whole j ne =
    let two = two_views (λ (v : View). v.part) w.views k j refl (λ e. ne (sym e)) in
    let all = law.parts.parts in
    law.parts.idle j (omega arith)

none_summed : (f : View → ℕ) (views : List View) → ((k : ℕ) → f (view_at views k) ≡ 0) →
    sum_by f views ≡ 0
none_summed f [] h = refl
none_summed f (x ∷ xs) h =
    let a = h 0 in
    let b = none_summed f xs (λ k. h (suc k)) in
    omega (arith, sum_by-cons f x xs)

-- a sum over all views, where all but one have nothing of it
alone_sum : (f : View → ℕ) (views : List View) (k : ℕ) → k < length views →
    f (empty_view 0) ≡ 0 → ((j : ℕ) → j ≢ k → f (view_at views j) ≡ 0) →
    sum_by f views ≡ f (view_at views k)
alone_sum f views k here none others =
    let d = sum_by-set f views k (empty_view 0) (empty_view 0) here in
    let z = none_summed f (set views k (empty_view 0))
    (λ j. each_view (λ (v : View). f v ≡ 0) views k (empty_view 0) here none others j) in
    omega arith

held_alone : (w : World) (n : ℕ) (xs : List ℕ) →
    ((i : ℕ) → all_holds i w.views w.desks ≡ bag xs i) → all_held_below w n ≡ held_below n xs
held_alone w zero xs h = refl
held_alone w (suc n) xs h =
    let a = held_alone w n xs h in
    let b = h n in
    omega arith

-- what is read of a slot, where the desk is full, is what is read of what lies there
if_full : (read : Option (List Seg) → List ℕ) → read None ≡ [] → (full : Bool)
    (slot : Option (List Seg)) (i : ℕ) →
    bag (read (if full then slot else None)) i ≡ bag (if full then read slot else []) i
if_full read none true slot i = refl
if_full read none false slot i = ap (λ (xs : List ℕ). bag xs i) none

read_lying : (read : Option (List Seg) → List ℕ) → read None ≡ [] → (ds : List Desk) (i : ℕ) →
    sum_by (λ (slot : Option (List Seg)). bag (read slot) i) (lying_on ds)
    ≡ sum_by (λ (x : Desk). bag (if x.word == desk_full then read x.slot else []) i) ds
read_lying read none [] i = refl
read_lying read none (x ∷ xs) i = omega (
  arith,
  read_lying read none xs i,
  if_full read none (x.word == desk_full) x.slot i,
  sum_by-cons (λ (slot : Option (List Seg)). bag (read slot) i) (packet_on x) (lying_on xs),
  sum_by-cons (λ (y : Desk). bag (if y.word == desk_full then read y.slot else []) i) x xs,
)

-- what lies on the desks holds what full desks hold, and its own elements are those on full desks
held_lying : (i : ℕ) (ds : List Desk) → held_in (lying_on ds) i ≡ sum_by (λ (x : Desk). bag (shelf x) i) ds
held_lying i ds = read_lying holds_in_slot refl ds i

own_lying : (i : ℕ) (ds : List Desk) →
    own_in (lying_on ds) i ≡ sum_by (λ (x : Desk). bag (own_shelf x) i) ds
own_lying i ds = read_lying own_in_slot refl ds i

-- as a list, what packets hold has each element as often
in_list : (i : ℕ) (desks : List (Option (List Seg))) →
    bag (flat_map holds_in_slot desks) i ≡ held_in desks i
in_list i [] = times-nil i
in_list i (x ∷ xs) = omega (
  arith,
  in_list i xs,
  times-append i (holds_in_slot x) (flat_map holds_in_slot xs),
  sum_by-cons (λ (slot : Option (List Seg)). bag (holds_in_slot slot) i) x xs,
)

-- what lies on a desk is the packet of that desk, where it is full
pub lying_at : (ds : List Desk) (d : ℕ) → slice_index_or (lying_on ds) d None ≡ packet_on (desk_at ds d)
lying_at [] d = refl
lying_at (x ∷ xs) zero = refl
lying_at (x ∷ xs) (suc d) = lying_at xs d

-- what lies on a desk is a packet, as what is in its slot is one
packet_lies : (full : Bool) (slot : Option (List Seg)) → IfSome slot IsPacket →
    IfSome (if full then slot else None) IsPacket
packet_lies true slot h = h
packet_lies false slot h = tt

-- the slots of all desks have packets, or nothing
abbrev pub HavePackets : World → Type 0
HavePackets w = (d : ℕ) → IfSome (desk_at w.desks d).slot IsPacket

-- a seat that knows what lies on the desks, and is right
known_to_lie : (o : Option (List (Option (List Seg)))) (P : Type 0) (xs : List (Option (List Seg))) →
    IfSome o (λ ds. P × (ds ≡ xs)) → IsSome o → o ≡ Some xs
known_to_lie None P xs h is = absurd (cc is)
known_to_lie (Some ds) P xs h is = ap Some h.1

pub not_full : (word : ℕ) (slot : Option (List Seg)) → word ≢ 2 → kept_on word slot ≡ None
not_full word slot other = ap (λ (b : Bool). if b then slot else None) (ne_eqb word 2 other)

-- ---- what lies on the desks of a world beside one of its views

module _ (w : World) (law : Lawful w) (k : ℕ) where
  abbrev beside : View
  beside = view_at w.views k

  hand_of_all : (i : ℕ) → bag beside.hand i ≤ hands i w.views
  hand_of_all i = one_view (λ (u : View). bag u.hand i) w.views k (times-nil i)

  zeros_of_all : (i : ℕ) → bag beside.zeros i ≤ all_zeros i w.views
  zeros_of_all i = one_view (λ (u : View). bag u.zeros i) w.views k (times-nil i)

  holds_of_all : (i : ℕ) → bag beside.holds i + held_in (lying_on w.desks) i ≤ all_holds i w.views w.desks
  holds_of_all i =
      let views = one_view (λ (u : View). bag u.holds i) w.views k (times-nil i) in
      omega (arith, held_lying i w.desks)

  -- an element that is held has the number of its holds as its count
  few_holds : (i : ℕ) → all_holds i w.views w.desks ≤ w.limits.ref_limit
  few_holds i = ⊎_elim
      (λ (inside : i < w.limits.population).
      let place = law.places.one_place i in
      let count = law.counts.counted i inside in
      let range = law.ranges.counts_in_range i in
      omega (arith, below-le w.limits.population i))
      (λ (past : w.limits.population ≤ i).
      let place = law.places.one_place i in
      omega (arith, below-past w.limits.population i past))
      (cases_lt i w.limits.population)

  -- a busy desk isn't full
  in_work : (o : Option Work) → beside.work ≡ o →
      IfSome o (λ x. slice_index_or (lying_on w.desks) x.desk None ≡ None)
  in_work None e = tt
  in_work (Some x) e =
      lying_at w.desks x.desk
      ∙ not_full (desk_at w.desks x.desk).word (desk_at w.desks x.desk).slot (other (is_filling x.phase) refl)
    where
      fills_one : is_filling x.phase ≡ true → fills x.desk beside.work ≡ 1
      fills_one f =
          ap (fills x.desk) e
          ∙ ap (λ (b : Bool). one_if (b && is_filling x.phase)) (eq-eqb x.desk x.desk refl)
          ∙ ap one_if f

      empties_one : is_filling x.phase ≡ false → empties x.desk beside.work ≡ 1
      empties_one f =
          ap (empties x.desk) e
          ∙ ap (λ (b : Bool). one_if (b && not (is_filling x.phase))) (eq-eqb x.desk x.desk refl)
          ∙ ap (λ (b : Bool). one_if (not b)) f

      other : (b : Bool) → is_filling x.phase ≡ b → (desk_at w.desks x.desk).word ≢ 2
      other true f full =
          let one = fills_one f in
          let some = one_view (λ (u : View). fills x.desk u.work) w.views k refl in
          let all = law.desks.filled x.desk ∙ ap (λ (n : ℕ). one_if (n == 1)) full in
          omega arith
      other false f full =
          let one = empties_one f in
          let some = one_view (λ (u : View). empties x.desk u.work) w.views k refl in
          let all = law.desks.emptied x.desk ∙ ap (λ (n : ℕ). one_if (n == 3)) full in
          omega arith

  lies_beside : HeaderLaw w → length w.desks ≡ w.limits.desks → HavePackets w →
      MayLie w.limits beside (lying_on w.desks)
  lies_beside headers count packets = record {
    as_many = length-map w.desks packet_on ∙ count;
    packets = λ d.
        subst (λ (slot : Option (List Seg)). IfSome slot IsPacket) (sym (lying_at w.desks d))
        (packet_lies ((desk_at w.desks d).word == desk_full) (desk_at w.desks d).slot (packets d));
    below = λ i past.
        let place = law.places.one_place i in
        omega (arith, holds_of_all i, below-past w.limits.population i past);
    apart = λ i some.
        let place = law.places.one_place i in
        omega (arith, hand_of_all i, zeros_of_all i, holds_of_all i, below-le w.limits.population i);
    limited = λ i. omega (arith, holds_of_all i, few_holds i);
    own_once = λ i.
        let once : all_headers i w.views w.desks ≤ 1 = headers.once i in
        let mine = one_view (λ (u : View). bag u.headers i) w.views k (times-nil i) in
        omega (arith, own_lying i w.desks);
    work = in_work beside.work refl;
  }

-- what lies on the desks can lie beside the view that the seat knows
pub may_lie : (w : World) → Lawful w → HeaderLaw w → length w.desks ≡ w.limits.desks → HavePackets w →
    (l : Limits) → w.limits ≡ l → (k : ℕ) (v : View) → view_at w.views k ≡ v → MayLie l v (lying_on w.desks)
may_lie w law headers count packets l limits k v is =
    subst (λ (m : Limits). MayLie m v (lying_on w.desks)) limits
    (subst (λ (u : View). MayLie w.limits u (lying_on w.desks)) is (lies_beside w law k headers count packets))

-- what the only seat of a pool knows of the desks is what lies there
pub lies_known : (w : World) (n : Known) → KnowsDesks n → SeesDesks w n → n.view.part ≡ every_part n.limits →
    n.lying ≡ Some (lying_on w.desks)
lies_known w n knows_desks sees whole =
    known_to_lie n.lying (n.view.part ≡ every_part w.limits) (lying_on w.desks) sees (knows_desks whole)

module _ (w : World) (law : Lawful w) (k : ℕ) (here : k < length w.views) (whole : (view_at w.views k).part ≡ every_part w.limits) where
  abbrev pub v : View
  v = view_at w.views k

  none : (j : ℕ) → j ≢ k → NamesNothing (view_at w.views j)
  none = others_idle w law k whole

  pub my_holds : (i : ℕ) → all_holds i w.views w.desks ≡ bag v.holds i + held_in (lying_on w.desks) i
  my_holds i =
      let s = alone_sum (λ (u : View). bag u.holds i) w.views k here (times-nil i)
      (λ j ne. times-from_length i (view_at w.views j).holds (none j ne).holds) in
      omega (arith, held_lying i w.desks)

  -- the view's holds, and those of what lies on full desks
  abbrev all_of : List ℕ
  all_of = v.holds ++ flat_map holds_in_slot (lying_on w.desks)

  listed_holds : (i : ℕ) → all_holds i w.views w.desks ≡ bag all_of i
  listed_holds i =
      omega (
        arith,
        my_holds i,
        in_list i (lying_on w.desks),
        times-append i v.holds (flat_map holds_in_slot (lying_on w.desks)),
      )

  my_credit : credits w.views ≡ v.credit
  my_credit = alone_sum (λ (u : View). u.credit) w.views k here refl (λ j ne. (none j ne).credit)

  pub length_known : w.length + v.credit + length v.hand + length v.zeros
      + held_below w.limits.population all_of ≡ w.limits.population
  length_known =
      let hand = alone_sum (λ (u : View). length u.hand) w.views k here refl (λ j ne. (none j ne).hand) in
      let zeros = alone_sum (λ (u : View). length u.zeros) w.views k here refl (λ j ne. (none j ne).zeros) in
      let credit = my_credit in
      let held = held_alone w w.limits.population all_of listed_holds in
      let all = all_are_there w law.common law law.places.spelled in
      let c = law.lengths.credited in
      omega arith

  -- a walk to the end of the list has passed all of it
  pub end_known : (l : Look) → v.look ≡ Some l → l.next ≡ 0 → v.credit ≤ length l.front
  end_known l e ends =
      let rule = there v.look e (law.looks.look k) in
      let same = rule.same_count whole in
      let busy : 0 < v.part = busy_view v e in
      let parts = front_then_rest w (suc k) l law.common law busy e same law.places.spelled in
      let rest = nothing parts.0 (subst (λ n. Spells (link_in w.links) n parts.0) ends parts.2) in
      let size : length law.common ≡ length l.front + length parts.0 =
      ap length parts.1 ∙ length-append l.front parts.0 in
      let c = law.lengths.credited in
      let credit = my_credit in
      omega arith
    where
      there : (o : Option Look) → o ≡ Some l →
          IfSome o (LookRule (every_part w.limits) w.head (link_in w.links) v.part v.seen) →
          LookRule (every_part w.limits) w.head (link_in w.links) v.part v.seen l
      there o same h = subst
          (λ (x : Option Look). IfSome x (LookRule (every_part w.limits) w.head (link_in w.links) v.part v.seen))
          same h

      nothing : (xs : List ℕ) → Spells (link_in w.links) 0 xs → length xs ≡ 0
      nothing [] h = refl
      nothing (x ∷ xs) h = absurd (let zero_is : 0 ≡ suc x = h.0 in omega arith)

      -- a view without a part has no look
      busy_view : (u : View) → u.look ≡ Some l → 0 < v.part
      busy_view u same = some_part v.part refl
        where
          some_part : (n : ℕ) → v.part ≡ n → 0 < v.part
          some_part zero is = absurd (cc (sym (law.parts.idle k is).look ∙ e))
          some_part (suc n) is = omega arith

-- the only seat of a pool knows the length word
pub knows : (w : World) → Lawful w → HeaderLaw w → length w.desks ≡ w.limits.desks → HavePackets w →
    (n : Known) → w.limits ≡ n.limits → (k : ℕ) → k < length w.views → view_at w.views k ≡ n.view →
    KnowsDesks n → SeesDesks w n → KnowsLength n w.length
knows w law headers count packets n limits k here is knows_desks sees whole = (
  lying_on w.desks,
  lies_known w n knows_desks sees whole,
  may_lie w law headers count packets n.limits limits k n.view is,
  subst (λ (m : Limits). w.length + n.view.credit + length n.view.hand + length n.view.zeros
      + held_below m.population (n.view.holds ++ flat_map holds_in_slot (lying_on w.desks)) ≡ m.population) limits
      (subst (λ (u : View). w.length + u.credit + length u.hand + length u.zeros
      + held_below w.limits.population (u.holds ++ flat_map holds_in_slot (lying_on w.desks))
      ≡ w.limits.population) is
      (length_known w law k here
      (ap (λ (u : View). u.part) is ∙ (whole ∙ sym (ap (λ (m : Limits). every_part m) limits))))),
)

-- the only seat of a pool knows that a walk to the end has passed all that is reserved
pub knows_end : (w : World) → Lawful w → (l : Limits) → w.limits ≡ l → (k : ℕ) →
    k < length w.views → (v : View) → view_at w.views k ≡ v → KnowsEnd l v
knows_end w law l limits k here v is whole = all v.look refl
  where
    all : (o : Option Look) → v.look ≡ o → IfSome o (λ x. x.next ≡ 0 → v.credit ≤ length x.front)
    all None e = tt
    all (Some x) e = λ ends.
        subst (λ (u : View). u.credit ≤ length x.front) is
        (end_known w law k here
        (ap (λ (u : View). u.part) is ∙ (whole ∙ sym (ap (λ (m : Limits). every_part m) limits))) x
        (ap (λ (u : View). u.look) is ∙ e) ends)

-- where its view works at no desk, no desk is busy
pub none_in_work : (w : World) → Lawful w → (k : ℕ) → k < length w.views →
    (view_at w.views k).part ≡ every_part w.limits → (view_at w.views k).work ≡ None → (d : ℕ) →
    ((desk_at w.desks d).word ≢ 1) × ((desk_at w.desks d).word ≢ 3)
none_in_work w law k here whole idle d = (
  λ one.
      let some = ap (λ (n : ℕ). one_if (n == 1)) one in
      let mine = ap (fills d) idle in
      let all = law.desks.filled d in
      let none = alone_sum (λ (u : View). fills d u.work) w.views k here refl
      (λ j ne. ap (fills d) (others_idle w law k whole j ne).work) in
      omega arith,
  λ three.
      let some = ap (λ (n : ℕ). one_if (n == 3)) three in
      let mine = ap (empties d) idle in
      let all = law.desks.emptied d in
      let none = alone_sum (λ (u : View). empties d u.work) w.views k here refl
      (λ j ne. ap (empties d) (others_idle w law k whole j ne).work) in
      omega arith,
)

-- all holds of an element are the only seat's and those of what lies on the desks
pub holds_known : (w : World) → Lawful w → (k : ℕ) → k < length w.views →
    (view_at w.views k).part ≡ every_part w.limits → (i : ℕ) →
    all_holds i w.views w.desks ≡ bag (view_at w.views k).holds i + held_in (lying_on w.desks) i
holds_known w law k here whole i = my_holds w law k here whole i
