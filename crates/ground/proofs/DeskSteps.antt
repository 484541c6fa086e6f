-- Each of the four steps on a desk's word keeps the rule, and answers its seat what its contract
-- says. What the seat put into the slot, or took out of it, since it has the slot is a step of the
-- machine before the one on the word.
use Rattle.std.proofs.Common.{◌≡◌, ◌≢◌, ◌==◌, ℕ, zero, suc, ◌<◌, ◌≤◌, Bool, true, eqb, List, [], ◌∷◌, ◌++◌, Option, Some, None, length, set, refl, sym, ap, ◌∙◌, subst, arith, eq-eqb, ne_eqb, get_or-set_same}
use Rattle.std.specs.Prelude.{slice_index, ◌&&◌, nat_lt, nat_le, is_none, IfSome, if◌then◌else◌}
use Rattle.std.proofs.lemmas.Bool.{lt-ltb, le-leb, and_from}
use Rattle.std.proofs.lemmas.List.{length-set}
use mathlib.Core.Option.{some, none}
use mathlib.Core.Logic.{dite}
use native.Mathlib.Decide.{ℕ_discrete}
use lib.ListN.{get_elem?}
use prog.Atomic.{either}
use Rattle.atomic_table.specs.Table.{Act, step, keeps, takes, gives, stepped, Valid, carried_after, put_back, rest}
use Rattle.commons.specs.Bag.{bag}
use Rattle.commons.specs.Packets.{IsPacket, holds_of_packet}
use Rattle.commons.specs.declared.limits.Limits.{Limits}
use Rattle.commons.specs.declared.packet.Seg.{Seg}
use Rattle.step_core.specs.Bags.{one_if, Includes, all_below, includes, includes_from}
use Rattle.step_core.specs.Headers.{HeaderLaw, OwnsHeaders, OpensOwn, given_away}
use Rattle.step_core.specs.Law.{Lawful, empties}
use Rattle.step_core.specs.Runs.{Reaches}
use Rattle.step_core.specs.Views.{working, opened, seized}
use Rattle.step_core.specs.Steps.{Play, quiet, given, hold, put_in, open_desk, open_with, seize, seize_with, take_out, clear, at_desk, phase_at, play}
use Rattle.step_core.specs.World.{World, empty_view, no_desk, view_at, view_of, desk_at, every_part}
use Rattle.step_core.specs.declared.step.Step.{Step}
use Rattle.step_core.specs.declared.step.Step.TheVariants.{Hold, PutIn, Open, Seize, TakeOut, Clear}
use Rattle.step_core.specs.declared.step.Outcome.{Outcome}
use Rattle.step_core.specs.declared.step.Outcome.TheVariants.{Won, Lost, Done, Found}
use Rattle.step_core.specs.declared.view.Desk.{Desk}
use Rattle.step_core.specs.declared.view.Phase.{Phase}
use Rattle.step_core.specs.declared.view.Phase.TheVariants.{ToFill, Filled, Seized, TakenOut}
use Rattle.step_core.specs.declared.view.View.{View}
use Rattle.step_core.specs.declared.view.Work.{Work}
use Rattle.step_core.proofs.Bags.{times-cons, times-head}
use Rattle.step_core.proofs.HeaderWalks.{keeps_headers}
use Rattle.step_core.proofs.StackSteps.{one_view}
use Rattle.step_core.proofs.Theorem.{keeps_law}
use Rattle.ground.specs.Layout.{desk_word, desk_standing_at}
use Rattle.ground.specs.declared.known.Known.{Known}
use Rattle.ground.specs.DeskAnswers.{moved, Moved, hold_found, hold_answers, open_answers, seize_found, seize_answers, clear_answers}
use Rattle.ground.specs.Own.{AtDesk}
use Rattle.ground.specs.Rule.{Slot, Sat, Ruled, home_by}
use Rattle.ground.specs.StepAnswers.{noted, Noted, exchanged}
use Rattle.ground.specs.Closing.{kept_on, packet_on, lying_on}
use Rattle.ground.specs.History.{Stepped, notes_of}
use Rattle.ground.proofs.History.{led_on, led_quietly}
use Rattle.ground.specs.Seats.{on_desk, laid_on, KnowsThere, KnowsEmpty, KnowsFull}
use Rattle.ground.proofs.Alone.{lying_at, not_full, none_in_work}
use Rattle.ground.proofs.Desking.{if_seen, laid_right, laid_some, still_right, set_twice, desked, desk_inside, by_desk, desk_read, desk_kept, desk_home, ruled}
use Rattle.ground.specs.Operations.{Sits, OperationMoves}
use Rattle.ground.proofs.Playing.{St, row_played, law, here, is as is_view, busy_here, my_limits, law_after, owned, steps}
use Rattle.ground.proofs.Stepping.{played_when}
use Rattle.ground.proofs.Tallies.{held_inside}

phase_here : (d : ℕ) (ph : Phase) → phase_at d (at_desk d ph) ≡ Some ph
phase_here d ph = ap (λ (b : Bool). if b then Some ph else None) (eq-eqb d d refl)

all_below_from : (n : ℕ) (xs : List ℕ) → ((i : ℕ) → 0 < bag xs i → i < n) → all_below n xs ≡ true
all_below_from n [] h = refl
all_below_from n (x ∷ xs) h =
    and_from (nat_lt x n) (all_below n xs) (lt-ltb x n (h x (omega (arith, times-head x xs))))
    (all_below_from n xs (λ i m. h i (omega (arith, times-cons i x xs))))

includes_all : (xs ys zs : List ℕ) → Includes xs ys → includes_from xs ys zs ≡ true
includes_all xs ys [] h = refl
includes_all xs ys (z ∷ zs) h =
    and_from (nat_le (bag ys z) (bag xs z)) (includes_from xs ys zs)
    (le-leb (bag ys z) (bag xs z) (h z)) (includes_all xs ys zs h)

-- what the seat knows to lie on the desk whose word it exchanges
module _ (l : Limits) (s : St) (r : Ruled l s) (id : ℕ) (me : Sat) (at : get_elem? s.views id ≡ some me.0)
    (busy : Sits me) (d : ℕ) where
  abbrev this : Desk
  this = desk_at r.world.desks d

  seen_by : (Q : Slot → Type 0) → (me.0.view.part ≡ every_part r.world.limits → Q (packet_on this)) →
      IfSome me.0.lying (λ desks. Q (on_desk desks d))
  seen_by Q f =
      if_seen me.0.lying (me.0.view.part ≡ every_part r.world.limits) (lying_on r.world.desks)
      (λ desks. Q (on_desk desks d)) (r.lies id me.0 at) (λ whole. subst Q (sym (lying_at r.world.desks d)) (f whole))

  pub seen_empty : this.word ≢ 2 → KnowsEmpty d me.0
  seen_empty other = seen_by (λ slot. slot ≡ None) (λ whole. not_full this.word this.slot other)

  pub seen_there : (p : List Seg) → packet_on this ≡ Some p → KnowsThere d p me.0
  seen_there p full = seen_by (λ slot. slot ≡ Some p) (λ whole. full)

  -- a desk that isn't empty is full, where no other seat works at it
  pub seen_full : me.0.view.work ≡ None → this.word ≢ 0 → KnowsFull d me.0
  seen_full idle other = seen_by (λ slot. (p : List Seg) × (slot ≡ Some p)) (λ whole.
      let same = is_view l s r id me at busy in
      let free = none_in_work r.world (law l s r id me at busy) id (here l s r id me at busy)
      (ap (λ (u : View). u.part) same ∙ whole) (ap (λ (u : View). u.work) same ∙ idle) d in
      let low : this.word ≤ 3 = r.desks.desks.words d in
      let two : this.word ≡ 2 = full_word this.word low other free.0 free.1 in
      let packet = r.desks.desks.full d two in
      (packet.0, (λ i. kept_on (two i) (packet.1 i))))
    where
      full_word : (n : ℕ) → n ≤ 3 → n ≢ 0 → n ≢ 1 → n ≢ 3 → n ≡ 2
      full_word zero h a b c = absurd (a refl)
      full_word (suc zero) h a b c = absurd (b refl)
      full_word (suc (suc zero)) h a b c = refl
      full_word (suc (suc (suc n))) h a b c = absurd (c (omega arith))

  -- the word of a desk that the seat has seized is 3
  pub seized_word : (p : List Seg) → me.0.view.work ≡ at_desk d (Seized p) → this.word ≢ 2
  seized_word p work full =
      let mine : (view_at r.world.views id).work ≡ at_desk d (Seized p) =
      ap (λ (u : View). u.work) (is_view l s r id me at busy) ∙ work in
      let one : empties d (view_at r.world.views id).work ≡ 1 =
      ap (empties d) mine ∙ ap (λ (b : Bool). one_if (b && true)) (eq-eqb d d refl) in
      let some = one_view (λ (u : View). empties d u.work) r.world.views id refl in
      let all = r.desks.desks.emptied d ∙ ap (λ (n : ℕ). one_if (n == 3)) full in
      omega arith

pub holds_desk : (l : Limits) (slots id : ℕ) (me : Sat) (d k : ℕ) → k ≡ desk_word l.population d →
    d < l.desks → me.0.view.work ≡ None → Sits me →
    OperationMoves l slots id me k (λ x. either (eqb x 0) 1 x) (Hold d ∷ []) (λ x. exchanged (eqb x 0) x ∷ [])
    (hold_answers (step slots k 0 1 none) me)
holds_desk l slots id me d k word inside idle busy s r _ at _ =
    let x : ℕ = slice_index s.words k in
    let w = r.world in
    let v = me.0.view in
    let y : Desk = desk_at w.desks d in
    let read : x ≡ y.word = desk_read l s r id me at busy d k word inside in
    let below = desk_inside l s r id me at busy d k word inside in
    let out : me.1 ≡ [] = subst (λ (o : Option Work). AtDesk o me.1) idle busy.1 in
    let y' : Desk = record { word = 1; slot = y.slot } in
    let v' : View = working v (at_desk d ToFill) in
    let won : Play = quiet Won (desked w id d y' v') in
    let lost : Play = quiet (Lost y.word) w in
    let asked : (p : Play) → hold w id v d ≡ p →
    play w (suc id) (Hold d) ≡ Some (p.outcome, p.after) = λ p e.
    row_played w id v (Hold d) p (here l s r id me at busy) (is_view l s r id me at busy)
    (lt-ltb d (length w.desks) below)
    (played_when (is_none v.work) (hold w id v d) (ap is_none idle) ∙ ap (λ (q : Play). Some q) e) in
    let G : Bool → Type 0 = λ b.
    (n : Known) × (a : Act Slot) × Valid s.homes me.1 a
    × ((after : Ruled l (stepped s k (either b 1 x) id me.1 n a))
    × Reaches w ((suc id, Hold d) ∷ []) (exchanged b x ∷ []) after.world)
    × hold_found b (desk_standing_at me.0.limits.population k) x me (n, carried_after me.1 a) in
    dite (ℕ_discrete x 0)
    (λ hit.
    let zero_word : y.word ≡ 0 = sym read ∙ hit in
    let bare : y.slot ≡ None = r.desks.desks.empty d zero_word in
    let played : play w (suc id) (Hold d) ≡ Some (Won, desked w id d y' v') =
    asked won (ap (λ (b : Bool). if b then won else lost) (eq-eqb y.word 0 zero_word)) in
    let kept : Lawful (desked w id d y' v') =
    law_after l s r id me at busy (Hold d) Won (desked w id d y' v') played in
    let headers : HeaderLaw (desked w id d y' v') =
    keeps_headers w (suc id) (Hold d) Won (desked w id d y' v') (law l s r id me at busy) r.counts.headers
    (busy_here l s r id me at busy) tt played in
    let carried : carried_after me.1 (takes d None) ≡ (d, None) ∷ [] =
    ap (λ (c : List (ℕ × Slot)). (d, None) ∷ c) out in
    let empty : packet_on y ≡ None = λ i. kept_on (zero_word i) y.slot in
    let sees = still_right me.0.lying (v.part ≡ every_part w.limits) w.desks d y' (sym empty) (r.lies id me.0 at) in
    let done = ruled l s r id me at busy d k word inside (Hold d) Won y' v' me.0.lying ((d, None) ∷ [])
    (takes d None) kept headers refl carried refl (None, refl, tt) refl (
      Stepped id (Hold d) Won ∷ r.history,
      led_on l r.history w s.views id me.0 (moved (Hold d) Won v' me.0.lying ((d, None) ∷ []) me).0 (Hold d) Won
          (desked w id d y' v') at (law l s r id me at busy) r.led (busy_here l s r id me at busy) played refl,
    )
    (r.packets d) sees busy.2 in
    subst G (sym (eq-eqb x 0 hit)) (
      (moved (Hold d) Won v' me.0.lying ((d, None) ∷ []) me).0,
      takes d None,
      desk_home l s r id me at busy d k word inside
          ∙ (λ i. some (home_by (zero_word i) (bare i))),
      (done.0.0, (desked w id d y' v', played, done.0.1)),
      by_desk l s r id me at busy d k word inside
          (λ (j : ℕ). hold_found true j x me
          ((moved (Hold d) Won v' me.0.lying ((d, None) ∷ []) me).0, carried_after me.1 (takes d None)))
          (done.1, seen_empty l s r id me at busy d (λ full. absurd (omega arith))),
    ))
    (λ miss.
    let played : play w (suc id) (Hold d) ≡ Some (Lost x, w) =
    asked lost (ap (λ (b : Bool). if b then won else lost)
    (ne_eqb y.word 0 (λ same. miss (read ∙ same))))
    ∙ ap (λ (n : ℕ). Some (Lost n, w)) (sym read) in
    let done = steps l s r id me at busy k x (Hold d) (Lost x) w tt played
    (desk_kept l s r id me at busy d k word inside) refl refl refl (refl, refl, refl) in
    subst G (sym (ne_eqb x 0 miss)) (
      (noted (Hold d) (Lost x) me).0,
      keeps,
      tt,
      (done.0.0, (w, played, done.0.1)),
      by_desk l s r id me at busy d k word inside
          (λ (j : ℕ). Noted (Hold j) (Lost x) me (noted (Hold d) (Lost x) me) × KnowsFull j me.0)
          (done.1, seen_full l s r id me at busy d idle (λ same. miss (read ∙ same))),
    ))

pub seizes_desk : (l : Limits) (slots id : ℕ) (me : Sat) (d k : ℕ) → k ≡ desk_word l.population d →
    d < l.desks → me.0.view.work ≡ None → Sits me →
    OperationMoves l slots id me k (λ x. either (eqb x 2) 3 x) (Seize d ∷ []) (λ x. exchanged (eqb x 2) x ∷ [])
    (seize_answers (step slots k 2 3 none) me)
seizes_desk l slots id me d k word inside idle busy s r _ at _ =
    let x : ℕ = slice_index s.words k in
    let w = r.world in
    let v = me.0.view in
    let y : Desk = desk_at w.desks d in
    let read : x ≡ y.word = desk_read l s r id me at busy d k word inside in
    let below = desk_inside l s r id me at busy d k word inside in
    let out : me.1 ≡ [] = subst (λ (o : Option Work). AtDesk o me.1) idle busy.1 in
    let y' : Desk = record { word = 3; slot = y.slot } in
    let asked : (p : Play) → seize w id v d ≡ Some p →
    play w (suc id) (Seize d) ≡ Some (p.outcome, p.after) = λ p e.
    row_played w id v (Seize d) p (here l s r id me at busy) (is_view l s r id me at busy)
    (lt-ltb d (length w.desks) below)
    (ap (λ (b : Bool). if b then seize w id v d else None) (ap is_none idle) ∙ e) in
    let full : Option Play = given y.slot (λ q. Some (seize_with w id v d q)) in
    let lost : Play = quiet (Lost y.word) w in
    let G : Bool → Type 0 = λ b.
    (n : Known) × (a : Act Slot) × Valid s.homes me.1 a
    × ((after : Ruled l (stepped s k (either b 3 x) id me.1 n a))
    × Reaches w ((suc id, Seize d) ∷ []) (exchanged b x ∷ []) after.world)
    × seize_found b (desk_standing_at me.0.limits.population k) x me (n, carried_after me.1 a) in
    dite (ℕ_discrete x 2)
    (λ hit.
    let full_word : y.word ≡ 2 = sym read ∙ hit in
    let there = r.desks.desks.full d full_word in
    let p : List Seg = there.0 in
    let has : y.slot ≡ Some p = there.1 in
    let v' : View = working (seized v p) (at_desk d (Seized p)) in
    let played : play w (suc id) (Seize d) ≡ Some (Won, desked w id d y' v') =
    asked (seize_with w id v d p) (ap (λ (b : Bool). if b then full else Some lost)
    (eq-eqb y.word 2 full_word)
    ∙ ap (λ (o : Slot). given o (λ q. Some (seize_with w id v d q))) has) in
    let kept : Lawful (desked w id d y' v') =
    law_after l s r id me at busy (Seize d) Won (desked w id d y' v') played in
    let headers : HeaderLaw (desked w id d y' v') =
    keeps_headers w (suc id) (Seize d) Won (desked w id d y' v') (law l s r id me at busy) r.counts.headers
    (busy_here l s r id me at busy) tt played in
    let carried : carried_after me.1 (takes d (Some p)) ≡ (d, Some p) ∷ [] =
    ap (λ (c : List (ℕ × Slot)). (d, Some p) ∷ c) out in
    let packet : IsPacket p = subst (λ (o : Slot). IfSome o IsPacket) has (r.packets d) in
    let lies : packet_on y ≡ Some p = λ i. kept_on (full_word i) (has i) in
    let sees = laid_right me.0.lying (v.part ≡ every_part w.limits) w.desks d y' None refl (r.lies id me.0 at) in
    let done = ruled l s r id me at busy d k word inside (Seize d) (Found p) y' v' (laid_on d None me.0.lying)
    ((d, Some p) ∷ []) (takes d (Some p)) kept headers refl carried refl (Some p, refl, (packet, refl)) refl (
      Stepped id (Seize d) Won ∷ r.history,
      led_on l r.history w s.views id me.0
          (moved (Seize d) (Found p) v' (laid_on d None me.0.lying) ((d, Some p) ∷ []) me).0 (Seize d) Won
          (desked w id d y' v') at (law l s r id me at busy) r.led (busy_here l s r id me at busy) played
          (λ i. (me.0.steps ++ notes_of (Seize d) Won (sym has i), me.0.joined)),
    )
    (r.packets d)
    sees (λ whole. laid_some me.0.lying d None (busy.2 whole)) in
    subst G (sym (eq-eqb x 2 hit)) (
      (moved (Seize d) (Found p) v' (laid_on d None me.0.lying) ((d, Some p) ∷ []) me).0,
      takes d (Some p),
      desk_home l s r id me at busy d k word inside
          ∙ (λ i. some (home_by (full_word i) (has i))),
      (done.0.0, (desked w id d y' v', played, done.0.1)),
      by_desk l s r id me at busy d k word inside
          (λ (j : ℕ). seize_found true j x me
          ((moved (Seize d) (Found p) v' (laid_on d None me.0.lying) ((d, Some p) ∷ []) me).0, carried_after me.1 (takes d (Some p))))
          (p, done.1, seen_there l s r id me at busy d p lies),
    ))
    (λ miss.
    let played : play w (suc id) (Seize d) ≡ Some (Lost x, w) =
    asked lost (ap (λ (b : Bool). if b then full else Some lost)
    (ne_eqb y.word 2 (λ same. miss (read ∙ same))))
    ∙ ap (λ (n : ℕ). Some (Lost n, w)) (sym read) in
    let done = steps l s r id me at busy k x (Seize d) (Lost x) w tt played
    (desk_kept l s r id me at busy d k word inside) refl refl refl (refl, refl, refl) in
    subst G (sym (ne_eqb x 2 miss)) (
      (noted (Seize d) (Lost x) me).0,
      keeps,
      tt,
      (done.0.0, (w, played, done.0.1)),
      by_desk l s r id me at busy d k word inside
          (λ (j : ℕ). Noted (Seize j) (Lost x) me (noted (Seize d) (Lost x) me) × KnowsEmpty j me.0)
          (done.1, seen_empty l s r id me at busy d (λ same. miss (read ∙ same))),
    ))

-- a step of the machine that changes a slot alone, and then one on the same desk's word
module _ (l : Limits) (s : St) (r : Ruled l s) (id : ℕ) (me : Sat) (at : get_elem? s.views id ≡ some me.0)
    (busy : Sits me) (d k : ℕ) (word : k ≡ desk_word l.population d) (inside : d < l.desks) (y' : Desk) (v' : View)
    (part : v'.part ≡ me.0.view.part) (st : Step) (o : Outcome) (own : OpensOwn (view_at r.world.views id) st)
    (played : play r.world (suc id) st ≡ Some (o, desked r.world id d y' v')) where
  abbrev between : World
  between = desked r.world id d y' v'

  law_between : Lawful between
  law_between = law_after l s r id me at busy st o between played

  headers_between : HeaderLaw between
  headers_between =
      keeps_headers r.world (suc id) st o between (law l s r id me at busy) r.counts.headers
      (busy_here l s r id me at busy) own played

  here_between : id < length between.views
  here_between =
      let size : length (set r.world.views id v') ≡ length r.world.views = length-set r.world.views id v' in
      let inside = here l s r id me at busy in
      omega arith

  view_between : view_at between.views id ≡ v'
  view_between = get_or-set_same r.world.views id v' (empty_view 0) (here l s r id me at busy)

  desk_between : desk_at between.desks d ≡ y'
  desk_between = get_or-set_same r.world.desks d y' no_desk (desk_inside l s r id me at busy d k word inside)

  inside_between : d < length between.desks
  inside_between =
      let size : length (set r.world.desks d y') ≡ length r.world.desks = length-set r.world.desks d y' in
      let below = desk_inside l s r id me at busy d k word inside in
      omega arith

  busy_between : 0 < (view_of between.views (suc id)).part
  busy_between =
      subst (λ (u : View). 0 < u.part) (sym view_between) (subst (λ (n : ℕ). 0 < n) (sym part) busy.0)

  -- what the second step leaves, if it is played there
  twice : (st' : Step) (o' : Outcome) (n : ℕ) (v'' : View) → OpensOwn v' st' →
      play between (suc id) st'
      ≡ Some (o', desked between id d (record { word = n; slot = (desk_at between.desks d).slot }) v'')
      → Lawful (desked r.world id d (record { word = n; slot = y'.slot }) v'')
      × HeaderLaw (desked r.world id d (record { word = n; slot = y'.slot }) v'')
      × (play between (suc id) st'
      ≡ Some (o', desked r.world id d (record { word = n; slot = y'.slot }) v''))
  twice st' o' n v'' own' again =
      let z : Desk = record { word = n; slot = (desk_at between.desks d).slot } in
      let end : World = desked between id d z v'' in
      let law_end : Lawful end = keeps_law between (suc id) st' o' end law_between busy_between again in
      let headers_end : HeaderLaw end =
      keeps_headers between (suc id) st' o' end law_between headers_between busy_between
      (subst (λ (u : View). OpensOwn u st') (sym view_between) own') again in
      let desks : set (set r.world.desks d y') d z
      ≡ set r.world.desks d (record { word = n; slot = y'.slot }) =
      set_twice r.world.desks d y' z
      ∙ ap (λ (q : Desk). set r.world.desks d (record { word = n; slot = q.slot })) desk_between in
      let views : set (set r.world.views id v') id v'' ≡ set r.world.views id v'' =
      set_twice r.world.views id v' v'' in
      let same : end ≡ desked r.world id d (record { word = n; slot = y'.slot }) v'' =
      λ i. record r.world { desks = desks i; views = views i } in
      (subst Lawful same law_end, subst HeaderLaw same headers_end, again ∙ ap (λ (q : World). Some (o', q)) same)

pub opens_desk : (l : Limits) (slots id : ℕ) (me : Sat) (d k : ℕ) (p : List Seg) →
    k ≡ desk_word l.population d → d < l.desks → me.0.view.work ≡ at_desk d ToFill →
    me.1 ≡ (d, Some p) ∷ [] → IsPacket p → Includes me.0.view.holds (holds_of_packet p) →
    OwnsHeaders me.0.view p → Sits me →
    OperationMoves l slots id me k (λ _. 2) (PutIn d p ∷ Open d ∷ []) (λ _. Done ∷ Done ∷ [])
    (λ _. open_answers (step slots k 2 0 none) me 2)
opens_desk l slots id me d k p word inside work out packet holds owns busy s r _ at _ =
    let w = r.world in
    let v = me.0.view in
    let y : Desk = desk_at w.desks d in
    let below = desk_inside l s r id me at busy d k word inside in
    let y' : Desk = record { word = y.word; slot = Some p } in
    let v' : View = working v (at_desk d (Filled p)) in
    let u : World = desked w id d y' v' in
    let mine = my_limits l s r id me at busy in
    let pop : me.0.limits.population ≡ w.limits.population =
    ap (λ (z : Limits). z.population) (mine ∙ sym r.limits) in
    let own = owned l s r id me at busy in
    let range : all_below w.limits.population (holds_of_packet p) ≡ true =
    all_below_from w.limits.population (holds_of_packet p)
    (λ i h.
    let some_held = holds i in
    let inner : i < me.0.limits.population = held_inside me.0.limits v i own (omega arith) in
    omega arith) in
    let first : play w (suc id) (PutIn d p) ≡ Some (Done, u) =
    row_played w id v (PutIn d p) (quiet Done u) (here l s r id me at busy) (is_view l s r id me at busy)
    (and_from (nat_lt d (length w.desks)) (all_below w.limits.population (holds_of_packet p))
    (lt-ltb d (length w.desks) below) range)
    (ap (λ (o : Option Phase). given o (put_in w id v d p)) (ap (phase_at d) work ∙ phase_here d ToFill)) in
    let v'' : View = working (opened v p) None in
    let again : play u (suc id) (Open d)
    ≡ Some (Done, desked u id d (record { word = 2; slot = (desk_at u.desks d).slot }) v'') =
    row_played u id v' (Open d) (open_with u id v' d p)
    (here_between l s r id me at busy d k word inside y' v' refl (PutIn d p) Done tt first)
    (view_between l s r id me at busy d k word inside y' v' refl (PutIn d p) Done tt first)
    (lt-ltb d (length u.desks)
    (inside_between l s r id me at busy d k word inside y' v' refl (PutIn d p) Done tt first))
    (ap (λ (o : Option Phase). given o (open_desk u id v' d)) (phase_here d (Filled p))
    ∙ played_when (includes v.holds (holds_of_packet p)) (open_with u id v' d p)
    (includes_all v.holds (holds_of_packet p) (holds_of_packet p) holds)) in
    let gives_own : OpensOwn v' (Open d) =
    subst (λ (o : Option Phase). IfSome o (λ ph. IfSome (given_away ph) (OwnsHeaders v')))
    (sym (phase_here d (Filled p))) owns in
    let kept = twice l s r id me at busy d k word inside y' v' refl (PutIn d p) Done tt first
    (Open d) Done 2 v'' gives_own again in
    let there : Desk = record { word = 2; slot = Some p } in
    let sees = laid_right me.0.lying (v.part ≡ every_part w.limits) w.desks d there (Some p) refl (r.lies id me.0 at) in
    let lying = laid_on d (Some p) me.0.lying in
    let done = ruled l s r id me at busy d k word inside (Open d) (Found p) there v'' lying [] gives kept.0 kept.1
    (ap (λ (c : List (ℕ × Slot)). put_back s.homes c) out) (ap rest out) refl refl refl (
      Stepped id (Open d) Done ∷ Stepped id (PutIn d p) Done ∷ r.history,
      led_on l (Stepped id (PutIn d p) Done ∷ r.history) u s.views id me.0
          (moved (Open d) (Found p) v'' lying [] me).0 (Open d) Done (desked w id d there v'') at
          (law_between l s r id me at busy d k word inside y' v' refl (PutIn d p) Done tt first)
          (led_quietly l r.history w s.views id me.0 (PutIn d p) Done u at (law l s r id me at busy) r.led
          (busy_here l s r id me at busy) first refl)
          (busy_between l s r id me at busy d k word inside y' v' refl (PutIn d p) Done tt first) kept.2
          (λ i. (
            me.0.steps ++ notes_of (Open d) Done (sym (ap (λ (q : Desk). q.slot)
                (desk_between l s r id me at busy d k word inside y' v' refl (PutIn d p) Done tt first)) i),
            me.0.joined,
          )),
    )
    packet sees
    (λ whole. laid_some me.0.lying d (Some p) (busy.2 whole)) in (
      (moved (Open d) (Found p) v'' lying [] me).0,
      gives,
      tt,
      (done.0.0, (u, first, (desked w id d there v'', kept.2, done.0.1))),
      by_desk l s r id me at busy d k word inside
          (λ (j : ℕ).
          (q : List Seg) × (me.1 ≡ (j, Some q) ∷ [])
          × Moved (Open j) (Found q) (working (opened v q) None) (laid_on j (Some q) me.0.lying) [] me
          ((moved (Open d) (Found p) v'' lying [] me).0, carried_after me.1 gives))
          (p, out, done.1),
    )

pub clears_desk : (l : Limits) (slots id : ℕ) (me : Sat) (d k : ℕ) (p : List Seg) →
    k ≡ desk_word l.population d → d < l.desks → me.0.view.work ≡ at_desk d (Seized p) →
    me.1 ≡ (d, None) ∷ [] → Sits me →
    OperationMoves l slots id me k (λ _. 0) (TakeOut d ∷ Clear d ∷ []) (λ _. Found p ∷ Done ∷ [])
    (λ _. clear_answers (step slots k 0 0 none) me 0)
clears_desk l slots id me d k p word inside work out busy s r _ at _ =
    let w = r.world in
    let v = me.0.view in
    let y : Desk = desk_at w.desks d in
    let below = desk_inside l s r id me at busy d k word inside in
    let y' : Desk = record { word = y.word; slot = None } in
    let v' : View = working v (at_desk d TakenOut) in
    let u : World = desked w id d y' v' in
    let first : play w (suc id) (TakeOut d) ≡ Some (Found p, u) =
    row_played w id v (TakeOut d) (quiet (Found p) u) (here l s r id me at busy)
    (is_view l s r id me at busy) (lt-ltb d (length w.desks) below)
    (ap (λ (o : Option Phase). given o (take_out w id v d)) (ap (phase_at d) work ∙ phase_here d (Seized p))) in
    let v'' : View = working v None in
    let z : Desk = record { word = 0; slot = (desk_at u.desks d).slot } in
    let again : play u (suc id) (Clear d) ≡ Some (Done, desked u id d z v'') =
    row_played u id v' (Clear d) (quiet Done (desked u id d z v''))
    (here_between l s r id me at busy d k word inside y' v' refl (TakeOut d) (Found p) tt first)
    (view_between l s r id me at busy d k word inside y' v' refl (TakeOut d) (Found p) tt first)
    (lt-ltb d (length u.desks)
    (inside_between l s r id me at busy d k word inside y' v' refl (TakeOut d) (Found p) tt first))
    (ap (λ (o : Option Phase). given o (clear u id v' d)) (phase_here d TakenOut)) in
    let kept = twice l s r id me at busy d k word inside y' v' refl (TakeOut d) (Found p) tt first
    (Clear d) Done 0 v'' tt again in
    let there : Desk = record { word = 0; slot = None } in
    let empty : packet_on y ≡ None = not_full y.word y.slot (seized_word l s r id me at busy d p work) in
    let sees = still_right me.0.lying (v.part ≡ every_part w.limits) w.desks d there (sym empty) (r.lies id me.0 at) in
    let done = ruled l s r id me at busy d k word inside (Clear d) Done there v'' me.0.lying [] gives kept.0 kept.1
    (ap (λ (c : List (ℕ × Slot)). put_back s.homes c) out) (ap rest out) refl refl refl (
      Stepped id (Clear d) Done ∷ Stepped id (TakeOut d) (Found p) ∷ r.history,
      led_on l (Stepped id (TakeOut d) (Found p) ∷ r.history) u s.views id me.0
          (moved (Clear d) Done v'' me.0.lying [] me).0 (Clear d) Done (desked w id d there v'') at
          (law_between l s r id me at busy d k word inside y' v' refl (TakeOut d) (Found p) tt first)
          (led_quietly l r.history w s.views id me.0 (TakeOut d) (Found p) u at (law l s r id me at busy) r.led
          (busy_here l s r id me at busy) first refl)
          (busy_between l s r id me at busy d k word inside y' v' refl (TakeOut d) (Found p) tt first) kept.2 refl,
    )
    tt sees busy.2 in (
      (moved (Clear d) Done v'' me.0.lying [] me).0,
      gives,
      tt,
      (done.0.0, (u, first, (desked w id d there v'', kept.2, done.0.1))),
      by_desk l s r id me at busy d k word inside
          (λ (j : ℕ).
          Moved (Clear j) Done (working v None) me.0.lying [] me
          ((moved (Clear d) Done v'' me.0.lying [] me).0, carried_after me.1 gives))
          done.1,
    )
