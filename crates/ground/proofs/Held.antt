-- What is held is given to nobody, over a history.
use Rattle.std.proofs.Common.{◌≡◌, ◌≢◌, ◌⊎◌, inl, inr, ℕ, suc, ◌+◌, ◌<◌, ◌≤◌, true, false, List, [], ◌∷◌, ◌++◌, Option, Some, None, refl, sym, ap, ◌∙◌, subst, ⊎_elim, arith}
use Rattle.std.specs.Prelude.{⊤, MatchOption, option_and_then, ◌==◌}
use Rattle.std.proofs.lemmas.Bool.{cases_eq, cases_lt, cond_both, eqb-true}
use Rattle.commons.specs.Bag.{bag}
use Rattle.commons.specs.Packets.{holds_of_packet}
use Rattle.commons.specs.declared.limits.Limits.{Limits}
use Rattle.step_core.specs.declared.step.Step.{Step}
use Rattle.step_core.specs.declared.step.Step.TheVariants.{Reserve, Add, LoadHead, LoadLink, Cut, StoreLink, Push, Claim, Sole, Raise, Lower, Reset, Hold, PutIn, Open, Seize, TakeOut, Clear}
use Rattle.step_core.specs.declared.step.Outcome.{Outcome}
use Rattle.step_core.specs.declared.step.Outcome.TheVariants.{Value, HeadIs, Won, Got, LostTo, Done, Found}
use Rattle.step_core.specs.declared.view.View.{View}
use Rattle.step_core.specs.Headline.{EventGets, EventPuts, IsHeld}
use Rattle.step_core.specs.Law.{Lawful}
use Rattle.step_core.specs.Schedules.{slot_at}
use Rattle.step_core.specs.Shows.{standing, ShowsTable, Happens, Stands}
use Rattle.step_core.specs.Steps.{Play, play, event_of, claim, reset as reset_row}
use Rattle.step_core.specs.Table.{Place, Common, Hand, Held, Table, Same, Event, Get, Put, Claim as ClaimEvent, Attach, Free, Offer, Take, Becomes, Claimed, Gained, Freed, Passed, worker_of}
use Rattle.step_core.specs.Views.{view_after, phase_at, push_chain, opened_from, seized_from}
use Rattle.step_core.specs.declared.view.Chain.{Chain}
use Rattle.step_core.specs.declared.view.Phase.{Phase}
use Rattle.step_core.specs.declared.view.Phase.TheVariants.{ToFill, Filled, Seized, TakenOut}
use Rattle.step_core.specs.World.{World, Packet, view_at, view_of}
use Rattle.step_core.proofs.Bags.{times-one, times-not_one, times-but_last, times-without, times-minus}
use Rattle.step_core.proofs.Rows.{when_played}
use Rattle.step_core.proofs.Shows.{is_in_hand}
use Rattle.step_core.proofs.Telling.{cut_gets_all}
use Rattle.step_core.proofs.Theorem.{play_is, played_row, makes_its_event, makes_its_view, changes_little, same_population, lawful_shows, keeps_law}
use Rattle.ground.specs.Held.{Gives, EndsLast, NoStep, IsHeldIn, LeavesIt, IsHeldOver, HeldIsNotGiven}
use Rattle.ground.specs.History.{Log, Move, Stepped, Split, Lent, Parcelled, Joined, MoveLeads, Led, HoldsGo, taken_over}
use Rattle.ground.proofs.History.{histories_are_events}

held_same : (p q : Place) → IsHeld p → Same p q → IsHeld q
held_same (Held ws ds) (Held vs es) h s = tt
held_same (Held ws ds) Common h s = s
held_same (Held ws ds) (Hand v) h s = s
held_same Common q h s = absurd h
held_same (Hand v) q h s = absurd h

-- an element that is listed, and another
pick : {R : Type 0} (xs : List ℕ) (i : ℕ) → (0 < bag xs i → R) → (bag xs i ≡ 0 → R) → R
pick xs i f g = ⊎_elim f (λ (l : bag xs i ≤ 0). g (omega arith)) (cases_lt 0 (bag xs i))

alone : (j i : ℕ) → 0 < bag (j ∷ []) i → j ≡ i
alone j i h =
    ⊎_elim (λ (e : j ≡ i). e) (λ (n : j ≢ i). absurd (let z = times-not_one i j n in omega arith)) (cases_eq j i)

module _ (i : ℕ) where
  -- what is held stays so over an event, but for a free after which it is in its worker's hand
  abbrev Ended : Event → Place → Type 0
  Ended e q = (w : ℕ) × (q ≡ Hand w) × (e ≡ Free w i)

  claims : (w : ℕ) (p q : Place) → IsHeld p → Claimed w p q → ⊥
  claims w p (Held ws ds) h c = subst IsHeld c.0 h
  claims w p Common h c = c
  claims w p (Hand v) h c = c

  gains : (w : ℕ) (p q : Place) → IsHeld p → Gained w p q → IsHeld q
  gains w (Held ws ds) (Held vs es) h g = tt
  gains w (Held ws ds) Common h g = g
  gains w (Held ws ds) (Hand v) h g = g
  gains w Common q h g = absurd h
  gains w (Hand v) q h g = absurd h

  frees : (w : ℕ) (p q : Place) → IsHeld p → Freed w p q → IsHeld q ⊎ (q ≡ Hand w)
  frees w (Held ws ds) (Held vs es) h f = inl tt
  frees w (Held ws ds) (Hand v) h f = inr (ap Hand f.0)
  frees w (Held ws ds) Common h f = absurd f
  frees w Common q h f = absurd h
  frees w (Hand v) q h f = absurd h

  passes : (n w d : ℕ) (p q : Place) → IsHeld p → Passed n w d p q → IsHeld q
  passes n w d (Held ws ds) (Held vs es) h g = tt
  passes n w d (Held ws ds) Common h g = g
  passes n w d (Held ws ds) (Hand v) h g = g
  passes n w d Common q h g = absurd h
  passes n w d (Hand v) q h g = absurd h

  passes_back : (n w d : ℕ) (p q : Place) → IsHeld p → Passed n w d q p → IsHeld q
  passes_back n w d p (Held ws ds) h g = tt
  passes_back n w d p Common h g = g
  passes_back n w d p (Hand v) h g = g

  stays : (p q : Place) (e : Event) → IsHeld p → Becomes e i p q → IsHeld q ⊎ Ended e q
  stays p q (Get w xs) h b =
      pick xs i (λ l. absurd (subst IsHeld (b.0 l).0 h)) (λ n. inl (held_same p q h (b.1 n)))
  stays p q (Put w xs) h b =
      pick xs i (λ l. absurd (subst IsHeld (b.0 l).0 h)) (λ n. inl (held_same p q h (b.1 n)))
  stays p q (ClaimEvent w j) h b =
      pick (j ∷ []) i (λ l. absurd (claims w p q h (b.0 l))) (λ n. inl (held_same p q h (b.1 n)))
  stays p q (Attach w j) h b =
      pick (j ∷ []) i (λ l. inl (gains w p q h (b.0 l))) (λ n. inl (held_same p q h (b.1 n)))
  stays p q (Free w j) h b =
      pick (j ∷ []) i
      (λ l.
      ⊎_elim (λ (k : IsHeld q). inl k) (λ (k : q ≡ Hand w). inr (w, k, ap (λ (n : ℕ). Free w n) (alone j i l)))
      (frees w p q h (b.0 l)))
      (λ n. inl (held_same p q h (b.1 n)))
  stays p q (Offer w d xs) h b =
      pick xs i (λ l. inl (passes (bag xs i) w d p q h (b.1.0 l))) (λ n. inl (held_same p q h (b.1.1 n)))
  stays p q (Take w d xs) h b =
      pick xs i (λ l. inl (passes_back (bag xs i) w d p q h (b.1.0 l))) (λ n. inl (held_same p q h (b.1.1 n)))

  no_get : (p q : Place) (e : Event) → IsHeld p → Becomes e i p q → EventGets i e → ⊥
  no_get p q (Get w xs) held b g = subst IsHeld (b.0 g).0 held
  no_get p q (Put w xs) held b g = g
  no_get p q (ClaimEvent w j) held b g = g
  no_get p q (Attach w j) held b g = g
  no_get p q (Free w j) held b g = g
  no_get p q (Offer w d xs) held b g = g
  no_get p q (Take w d xs) held b g = g

  no_put : (p q : Place) (e : Event) → IsHeld p → Becomes e i p q → EventPuts i e → ⊥
  no_put p q (Get w xs) held b g = g
  no_put p q (Put w xs) held b g = subst IsHeld (b.0 g).0 held
  no_put p q (ClaimEvent w j) held b g = g
  no_put p q (Attach w j) held b g = g
  no_put p q (Free w j) held b g = g
  no_put p q (Offer w d xs) held b g = g
  no_put p q (Take w d xs) held b g = g

  -- how often the element is in a view's hand
  abbrev in_hand : View → ℕ
  in_hand v = bag v.hand i + bag v.zeros i

  pushed : (v : View) (c : Option Chain) → in_hand (push_chain v c) ≤ in_hand v
  pushed v None = omega arith
  pushed v (Some c) = let m = times-minus i v.hand c.items in omega arith

  opened : (v : View) (ph : Option Phase) → in_hand (opened_from v ph) ≤ in_hand v
  opened v None = omega arith
  opened v (Some ToFill) = omega arith
  opened v (Some (Filled p)) = omega arith
  opened v (Some (Seized p)) = omega arith
  opened v (Some TakenOut) = omega arith

  seized : (d : ℕ) (v : View) (slot : Option Packet) → in_hand (seized_from d v slot) ≤ in_hand v
  seized d v None = omega arith
  seized d v (Some p) = omega arith

  -- no step puts it into a hand, but a cut that won, and a free of its last hold
  hand_after : (slot : Option Packet) (s : Step) (o : Outcome) (v : View) →
      ((xs : List ℕ) → s ≡ Cut → o ≡ Got xs → ⊥) → ((j : ℕ) → s ≡ Reset j → ⊥) → (EndsLast i s o → ⊥) →
      in_hand (view_after slot s o v) ≤ in_hand v
  hand_after slot Cut (Got xs) v won reset last = absurd (won xs refl refl)
  hand_after slot Push Won v won reset last = pushed v v.chain
  hand_after slot (Claim j) (Value n) v won reset last = let m = times-without i j v.hand in omega arith
  hand_after slot (Sole j false) (Value n) v won reset last = omega arith
  hand_after slot (Sole j true) (Value n) v won reset last =
      cond_both (n == 1) _ _ (λ u. in_hand u ≤ in_hand v)
      (λ t.
      ⊎_elim (λ (e : j ≡ i). absurd (last (e, eqb-true n 1 t)))
      (λ (m : j ≢ i). let a = times-but_last i j v.hand m in omega arith) (cases_eq j i))
      (λ t. omega arith)
  hand_after slot (Lower j) (Value n) v won reset last =
      cond_both (n == 1) (v.zeros ++ j ∷ []) v.zeros (λ z. bag v.hand i + bag z i ≤ in_hand v)
      (λ t.
      ⊎_elim (λ (e : j ≡ i). absurd (last (e, eqb-true n 1 t)))
      (λ (m : j ≢ i). let a = times-but_last i j v.zeros m in omega arith) (cases_eq j i))
      (λ t. omega arith)
  hand_after slot (Reset j) Done v won reset last = absurd (reset j refl)
  hand_after slot (Open d) Done v won reset last = opened v (phase_at d v.work)
  hand_after slot (Seize d) Won v won reset last = seized d v slot
  hand_after slot (Reserve old n) Won v won reset last = omega arith
  hand_after slot (Add n) Done v won reset last = omega arith
  hand_after slot LoadHead (HeadIs h) v won reset last = omega arith
  hand_after slot (LoadLink j) (Value n) v won reset last = omega arith
  hand_after slot Cut (LostTo h) v won reset last = omega arith
  hand_after slot (StoreLink j n) Done v won reset last = omega arith
  hand_after slot Push (LostTo h) v won reset last = omega arith
  hand_after slot (Raise j old) Won v won reset last = omega arith
  hand_after slot (Hold d) Won v won reset last = omega arith
  hand_after slot (PutIn d p) Done v won reset last = omega arith
  hand_after slot (TakeOut d) (Found p) v won reset last = omega arith
  hand_after slot (Clear d) Done v won reset last = omega arith
  hand_after slot _ _ v won reset last = omega arith

-- a claim that is played is the claim of its element
claim_event : (w : World) (id i : ℕ) (o : Outcome) (u : World) → play w (suc id) (Claim i) ≡ Some (o, u) →
    event_of w (suc id) (Claim i) ≡ Some (ClaimEvent (suc id) i)
claim_event w id i o u e =
    let p = play_is w (suc id) (Claim i) o u e in
    let r =
    played_row (λ v k q. q.event ≡ Some (ClaimEvent (suc k) i)) w (suc id) (Claim i) p.0
    (λ k n here inside.
    when_played (λ q. q.event ≡ Some (ClaimEvent (suc k) i)) _ (claim w k (view_at w.views k) i) (λ t. refl)) p.1 in
    ap (λ (x : Option Play). option_and_then (λ q. q.event) x) p.1
    ∙ (r.3 ∙ ap (λ (n : ℕ). Some (ClaimEvent n i)) (sym r.1))

-- a reset is no event
reset_event : (w : World) (id i : ℕ) (o : Outcome) (u : World) → play w (suc id) (Reset i) ≡ Some (o, u) →
    event_of w (suc id) (Reset i) ≡ None
reset_event w id i o u e =
    let p = play_is w (suc id) (Reset i) o u e in
    let r =
    played_row (λ v k q. q.event ≡ None) w (suc id) (Reset i) p.0
    (λ k n here inside. when_played (λ q. q.event ≡ None) _ (reset_row w k (view_at w.views k) i) (λ t. refl)) p.1 in
    ap (λ (x : Option Play). option_and_then (λ q. q.event) x) p.1 ∙ r.3

-- the claim makes the element a held one, of the pool
module _ (v : World) (id i : ℕ) (o : Outcome) (u : World) (law : Lawful v) (busy : 0 < (view_at v.views id).part)
    (e : play v (suc id) (Claim i) ≡ Some (o, u)) where
  claimed_so : (t r : Table) → ShowsTable v t → ShowsTable u r → (i < v.limits.population) × IsHeld (r i)
  claimed_so t r a b =
      let h =
      subst (λ (x : Option Event). Happens v.limits.population (suc id) x t r) (claim_event v id i o u e)
      (makes_its_event v (suc id) (Claim i) o u law busy e t r a b) in
      let below = h.1.below i (let one = times-one i in omega arith) in
      (below, now (t i) (r i) ((h.1.moves.1 i below).0 (let one = times-one i in omega arith)))
    where
      now : (p q : Place) → Claimed (suc id) p q → IsHeld q
      now p (Held ws ds) c = tt
      now p Common c = c
      now p (Hand w) c = c

-- a step leaves what is held
module _ (v : World) (id i : ℕ) (s : Step) (o : Outcome) (u : World) (law : Lawful v)
    (busy : 0 < (view_at v.views id).part) (e : play v (suc id) s ≡ Some (o, u)) (below : i < v.limits.population)
    (held : IsHeldIn i v) where
  lawful : Lawful u
  lawful = keeps_law v (suc id) s o u law busy e

  abbrev t : Table
  t = (lawful_shows v law).0

  a : ShowsTable v t
  a = (lawful_shows v law).1

  happens : (r : Table) → ShowsTable u r → Happens v.limits.population (suc id) (event_of v (suc id) s) t r
  happens r b = makes_its_event v (suc id) s o u law busy e t r a b

  given : (st : Step) (p : Outcome) → play v (suc id) st ≡ Some (p, u) → Gives i st p → ⊥
  given Cut (Got xs) played_so g =
      let ev = (cut_gets_all v (suc id) xs u law busy played_so).1 in
      let h =
      subst (λ (x : Option Event). Happens v.limits.population (suc id) x t (lawful_shows u lawful).0) ev
      (makes_its_event v (suc id) Cut (Got xs) u law busy played_so t (lawful_shows u lawful).0 a
      (lawful_shows u lawful).1) in
      subst IsHeld ((h.1.moves.1 i below).0 g).0 (held t a)
  given _ _ played_so g = g

  step_leaves : LeavesIt i v (Stepped id s o)
  step_leaves =
      (given s o e, on (event_of v (suc id) s) (happens (lawful_shows u lawful).0 (lawful_shows u lawful).1))
    where
      on : (x : Option Event) → Happens v.limits.population (suc id) x t (lawful_shows u lawful).0 →
          MatchOption x ⊤ (λ ev. (EventGets i ev → ⊥) × (EventPuts i ev → ⊥))
      on None h = tt
      on (Some ev) h =
          let b = h.1.moves.1 i below in
          (no_get i (t i) _ ev (held t a) b, no_put i (t i) _ ev (held t a) b)

  -- where no hold ended as the last, it is held still
  step_keeps : (EndsLast i s o → ⊥) → IsHeldIn i u
  step_keeps last r b = on (event_of v (suc id) s) refl (happens r b)
    where
      won : (w : ℕ) → event_of v (suc id) s ≡ Some (Free w i) → (xs : List ℕ) → s ≡ Cut → o ≡ Got xs → ⊥
      won w ev xs is got =
          let cut : play v (suc id) Cut ≡ Some (Got xs, u) =
          sym (ap (λ (x : Step). play v (suc id) x) is) ∙ (e ∙ ap (λ (x : Outcome). Some (x, u)) got) in
          let one = (cut_gets_all v (suc id) xs u law busy cut).1 in
          let two = sym (ap (λ (x : Step). event_of v (suc id) x) is) ∙ ev in
          absurd (let g : ◌≡◌ {A = Option Event} (Some (Get (suc id) xs)) (Some (Free w i)) = sym one ∙ two in cc)

      reset : (w : ℕ) → event_of v (suc id) s ≡ Some (Free w i) → (j : ℕ) → s ≡ Reset j → ⊥
      reset w ev j is =
          let played_so : play v (suc id) (Reset j) ≡ Some (o, u) =
          sym (ap (λ (x : Step). play v (suc id) x) is) ∙ e in
          let none = reset_event v id j o u played_so in
          let two = sym (ap (λ (x : Step). event_of v (suc id) x) is) ∙ ev in
          absurd (let g : ◌≡◌ {A = Option Event} None (Some (Free w i)) = sym none ∙ two in cc)

      ended : (w : ℕ) → w ≡ suc id → r i ≡ Hand w → event_of v (suc id) s ≡ Some (Free w i) → ⊥
      ended w is place ev =
          let inside : i < u.limits.population =
          (let same = ap (λ (x : Limits). x.population) (same_population v u (suc id) (changes_little v (suc id) s o u e)) in
          omega arith) in
          let stands : Stands (standing u b.common i) (Hand (suc id)) =
          subst (λ (q : Place). Stands (standing u b.common i) q) (place ∙ ap Hand is) (b.stands i inside) in
          let view = ap (λ (x : View). in_hand i x) ((makes_its_view v (suc id) s o u e).0) in
          let few =
          hand_after i (slot_at v.desks s) s o (view_of v.views (suc id)) (won w ev) (reset w ev) last in
          let before : 0 < in_hand i (view_of v.views (suc id)) = omega arith in
          subst IsHeld
          (is_in_hand (standing v a.common i) (a.one i below) (t i) (suc id) before (a.stands i below)) (held t a)

      on : (x : Option Event) → event_of v (suc id) s ≡ x → Happens v.limits.population (suc id) x t r → IsHeld (r i)
      on None eq h = held_same (t i) (r i) (held t a) (h i below)
      on (Some ev) eq h =
          ⊎_elim (λ (k : IsHeld (r i)). k)
          (λ (k : Ended i ev (r i)).
          absurd
          (ended k.0 (ap worker_of (sym k.2) ∙ h.0) k.1 (eq ∙ ap (λ (x : Event). Some x) k.2)))
          (stays i (t i) (r i) ev (held t a) (h.1.moves.1 i below))

-- the limits of a pool stay
limits_led : (l : Limits) (ms : List Move) (w : World) (logs : List Log) → Led l ms w logs → w.limits ≡ l
limits_led l [] w logs led = ap (λ (u : World). u.limits) led.0
limits_led l (Stepped id st o ∷ ms) w logs led =
    let leads : MoveLeads (Stepped id st o) led.0 led.1 w logs = led.4 in
    same_population led.0 w (suc id) (changes_little led.0 (suc id) st o w leads.1) ∙ limits_led l ms led.0 led.1 led.3
limits_led l (Split id ∷ ms) w logs led =
    let leads : MoveLeads (Split id) led.0 led.1 w logs = led.4 in
    ap (λ (u : World). u.limits) leads.1 ∙ limits_led l ms led.0 led.1 led.3
limits_led l (Lent id i ∷ ms) w logs led =
    let leads : MoveLeads (Lent id i) led.0 led.1 w logs = led.4 in
    ap (λ (u : World). u.limits) leads.3 ∙ limits_led l ms led.0 led.1 led.3
limits_led l (Parcelled id p ∷ ms) w logs led =
    let leads : MoveLeads (Parcelled id p) led.0 led.1 w logs = led.4 in
    ap (λ (u : World). u.limits) leads.4 ∙ limits_led l ms led.0 led.1 led.3
limits_led l (Joined id other ∷ ms) w logs led =
    let leads : MoveLeads (Joined id other) led.0 led.1 w logs = led.4 in
    ap (λ (u : World). u.limits) leads.3 ∙ limits_led l ms led.0 led.1 led.3

module _ (l : Limits) (earlier : List Move) (id i : ℕ) (o : Outcome) where
  abbrev Claimed_at : List Move
  Claimed_at = Stepped id (Claim i) o ∷ earlier

  -- the world of the claim
  first_held : (w : World) (logs : List Log) → Led l Claimed_at w logs → (i < l.population) × IsHeldIn i w
  first_held w logs led =
      let leads : MoveLeads (Stepped id (Claim i) o) led.0 led.1 w logs = led.4 in
      let law = keeps_law led.0 (suc id) (Claim i) o w led.2 leads.0 leads.1 in
      let before = lawful_shows led.0 led.2 in
      let after = lawful_shows w law in
      let here = claimed_so led.0 id i o w led.2 leads.0 leads.1 in
      let same = ap (λ (x : Limits). x.population) (limits_led l earlier led.0 led.1 led.3) in
      let some = (here before.0 after.0 before.1 after.1).0 in
      (omega arith, λ r b. (here before.0 r before.1 b).1)

  in_pool : (since : List Move) (w : World) (logs : List Log) → Led l (since ++ Claimed_at) w logs → i < l.population
  in_pool [] w logs led = (first_held w logs led).0
  in_pool (m ∷ since) w logs led = in_pool since led.0 led.1 led.3

  last_held : (since : List Move) (w : World) (logs : List Log) (led : Led l (since ++ Claimed_at) w logs) →
      IsHeldOver i l since Claimed_at w logs led → IsHeldIn i w
  last_held [] w logs led h = h
  last_held (m ∷ since) w logs led h = h.0

  over : (since : List Move) (w : World) (logs : List Log) (led : Led l (since ++ Claimed_at) w logs) →
      NoStep (EndsLast i) since → IsHeldOver i l since Claimed_at w logs led
  over [] w logs led none = (first_held w logs led).1
  over (Stepped k st q ∷ since) w logs led none =
      let leads : MoveLeads (Stepped k st q) led.0 led.1 w logs = led.4 in
      let rest = over since led.0 led.1 led.3 none.1 in
      let held = last_held since led.0 led.1 led.3 rest in
      let same = ap (λ (x : Limits). x.population) (limits_led l (since ++ Claimed_at) led.0 led.1 led.3) in
      let some = in_pool since led.0 led.1 led.3 in
      let below : i < led.0.limits.population = omega arith in (
        step_keeps led.0 k i st q w led.2 leads.0 leads.1 below held none.0,
        step_leaves led.0 k i st q w led.2 leads.0 leads.1 below held,
        rest,
      )
  over (Split k ∷ since) w logs led none =
      let rest = over since led.0 led.1 led.3 none in
      let held = last_held since led.0 led.1 led.3 rest in
      let same = ap (λ (x : Limits). x.population) (limits_led l (since ++ Claimed_at) led.0 led.1 led.3) in
      let some = in_pool since led.0 led.1 led.3 in
      let before = lawful_shows led.0 led.2 in
      let events = histories_are_events l (Split k ∷ (since ++ Claimed_at)) w logs led in (
        (λ r b.
            held_same (before.0 i) (r i) (held before.0 before.1) (events.0 before.0 r before.1 b i (omega arith))),
        tt,
        rest,
      )
  over (Lent k j ∷ since) w logs led none =
      let rest = over since led.0 led.1 led.3 none in
      let held = last_held since led.0 led.1 led.3 rest in
      let same = ap (λ (x : Limits). x.population) (limits_led l (since ++ Claimed_at) led.0 led.1 led.3) in
      let some = in_pool since led.0 led.1 led.3 in
      let before = lawful_shows led.0 led.2 in
      let events = histories_are_events l (Lent k j ∷ (since ++ Claimed_at)) w logs led in (
        (λ r b.
            let goes = events.0 before.0 r before.1 b i (omega arith) in
            pick (j ∷ []) i
            (λ one. absurd (subst IsHeld (goes.0 one).0 (held before.0 before.1)))
            (λ other. held_same (before.0 i) (r i) (held before.0 before.1) (goes.1 other))),
        tt,
        rest,
      )
  over (Parcelled k p ∷ since) w logs led none =
      let rest = over since led.0 led.1 led.3 none in
      let held = last_held since led.0 led.1 led.3 rest in
      let same = ap (λ (x : Limits). x.population) (limits_led l (since ++ Claimed_at) led.0 led.1 led.3) in
      let some = in_pool since led.0 led.1 led.3 in
      let before = lawful_shows led.0 led.2 in
      let events = histories_are_events l (Parcelled k p ∷ (since ++ Claimed_at)) w logs led in (
        (λ r b.
            let goes = events.0 before.0 r before.1 b i (omega arith) in
            pick (holds_of_packet p) i
            (λ listed. holds_go _ _ _ (before.0 i) (r i) (goes.0 listed))
            (λ other. held_same (before.0 i) (r i) (held before.0 before.1) (goes.1 other))),
        tt,
        rest,
      )
    where
      holds_go : (n worker other : ℕ) (p q : Place) → HoldsGo n worker other p q → IsHeld q
      holds_go n worker other (Held ws ds) (Held vs es) g = tt
      holds_go n worker other (Held ws ds) Common g = g
      holds_go n worker other (Held ws ds) (Hand v) g = g
      holds_go n worker other Common q g = absurd g
      holds_go n worker other (Hand v) q g = absurd g
  over (Joined k other ∷ since) w logs led none =
      let rest = over since led.0 led.1 led.3 none in
      let held = last_held since led.0 led.1 led.3 rest in
      let same = ap (λ (x : Limits). x.population) (limits_led l (since ++ Claimed_at) led.0 led.1 led.3) in
      let some = in_pool since led.0 led.1 led.3 in
      let before = lawful_shows led.0 led.2 in
      let events = histories_are_events l (Joined k other ∷ (since ++ Claimed_at)) w logs led in (
        (λ r b.
            held_same (taken_over (suc k) (suc other) (before.0 i)) (r i)
            (taken (suc k) (suc other) (before.0 i) (held before.0 before.1))
            (events.0 before.0 r before.1 b i (omega arith))),
        tt,
        rest,
      )
    where
      taken : (one two : ℕ) (p : Place) → IsHeld p → IsHeld (taken_over one two p)
      taken one two Common h = h
      taken one two (Hand v) h = h
      taken one two (Held ws ds) h = tt

pub held_is_not_given : HeldIsNotGiven
held_is_not_given l since earlier id i o w logs led none = over l earlier id i o since w logs led none
