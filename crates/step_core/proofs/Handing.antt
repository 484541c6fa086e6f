-- A desk gives what was put in.
use Rattle.std.proofs.Common.{◌≡◌, ◌⊎◌, inl, inr, ℕ, ◌<◌, true, List, [], ◌∷◌, Option, Some, None, length, set, refl, sym, ap, ◌∙◌, subst, is_none, get_or-set_other, get_or-set_same, ⊎_elim}
use Rattle.std.specs.Prelude.{IfSome, slice_index, ◌==◌, ◌&&◌}
use Rattle.std.proofs.lemmas.Bool.{cond_both, eq-eqb, ne_eqb, cond-true, cond-false, ltb-true, and_parts}
use Rattle.step_core.specs.World.{Look, Chain, Phase, ToFill, Filled, Seized, TakenOut, Packet, Desk, World, view_at, no_desk, desk_at}
use Rattle.step_core.specs.Steps.{Step, LoadLength, Reserve, Add, LoadHead, LoadLink, Cut, StoreLink, Push, Claim, Sole, Raise, Lower, Reset, Hold, PutIn, Open, Seize, TakeOut, Clear, Outcome, Found, Play, given, row, reserve, cut, push, hold, put_in, open_desk, open_with, seize, seize_with, take_out, clear, load_link, same_head, in_range, phase_at, play}
use Rattle.step_core.specs.Kept.{IsWorld}
use Rattle.step_core.specs.Schedules.{Schedule}
use Rattle.step_core.specs.Runs.{Reaches}
use Rattle.step_core.specs.Handing.{put_by, put_last, GivesWhatWasPutIn}
use Rattle.step_core.proofs.Bags.{at_or_else}
use Rattle.step_core.proofs.Regroup.{four_of_eight}
use Rattle.step_core.proofs.Desks.{phase_there, slot_now}
use Rattle.step_core.proofs.Rows.{when_played, given_played}
use Rattle.step_core.proofs.Theorem.{play_is, played_row}
use Rattle.step_core.proofs.Keeping.{play_keeps}

-- a desk whose slot isn't written
slot_kept : (desks : List Desk) (e d : ℕ) (x : Desk) → e < length desks → x.slot ≡ (desk_at desks e).slot →
    (desk_at (set desks e x) d).slot ≡ (desk_at desks d).slot
slot_kept desks e d x inside same =
    at_or_else e (λ y. (desk_at (set desks e x) y).slot ≡ (desk_at desks y).slot)
    (ap (λ (o : Desk). o.slot) (get_or-set_same desks e x no_desk inside) ∙ same)
    (λ y n. ap (λ (o : Desk). o.slot) (get_or-set_other desks e y x no_desk (λ s. n (sym s)))) d

module _ (d : ℕ) where
  -- the slot is empty after the step, or has what was put in last
  abbrev pub SlotIs : World → Option Packet → Type 0
  SlotIs u p = ((desk_at u.desks d).slot ≡ None) ⊎ ((desk_at u.desks d).slot ≡ p)

  abbrev Puts : World → Step → Play → Type 0
  Puts w s p = SlotIs p.after (put_by d s (desk_at w.desks d).slot)

  module _ (w : World) (k : ℕ) where
    cuts : (l : Look) → Puts w Cut (cut w k (view_at w.views k) l)
    cuts l = cond_both (same_head w.head l.head) _ _ (Puts w Cut) (λ s. inr refl) (λ s. inr refl)

    pushes : (l : Look) (c : Chain) → Puts w Push (push w k (view_at w.views k) l c)
    pushes l c = cond_both (same_head w.head l.head) _ _ (Puts w Push) (λ s. inr refl) (λ s. inr refl)

    holds_desk : (e : ℕ) → e < length w.desks → Puts w (Hold e) (hold w k (view_at w.views k) e)
    holds_desk e inside = cond_both ((desk_at w.desks e).word == 0) _ _ (Puts w (Hold e))
        (λ t. inr (slot_kept w.desks e d _ inside refl)) (λ t. inr refl)

    puts_in : (e : ℕ) (p : Packet) (ph : Phase) → e < length w.desks →
        IfSome (put_in w k (view_at w.views k) e p ph) (Puts w (PutIn e p))
    puts_in e p ToFill inside = inr (at_or_else e
        (λ y.
        (desk_at (set w.desks e (record { word = (desk_at w.desks e).word; slot = Some p })) y).slot
        ≡ put_by y (PutIn e p) (desk_at w.desks y).slot)
        (ap (λ (o : Desk). o.slot) (get_or-set_same w.desks e _ no_desk inside)
        ∙ sym (cond-true (e == e) _ _ (eq-eqb e e refl)))
        (λ y n.
        ap (λ (o : Desk). o.slot) (get_or-set_other w.desks e y _ no_desk (λ s. n (sym s)))
        ∙ sym (cond-false (e == y) _ _ (ne_eqb e y n))) d)
    puts_in e p (Filled q) inside = tt
    puts_in e p (Seized q) inside = tt
    puts_in e p TakenOut inside = tt

    opens : (e : ℕ) (ph : Phase) → e < length w.desks → IfSome (open_desk w k (view_at w.views k) e ph) (Puts w (Open e))
    opens e ToFill inside = tt
    opens e (Filled p) inside = when_played (Puts w (Open e)) _ (open_with w k (view_at w.views k) e p)
        (λ t. inr (slot_kept w.desks e d _ inside refl))
    opens e (Seized p) inside = tt
    opens e TakenOut inside = tt

    seizes : (e : ℕ) → e < length w.desks → IfSome (seize w k (view_at w.views k) e) (Puts w (Seize e))
    seizes e inside =
        cond_both ((desk_at w.desks e).word == 2)
        (given (desk_at w.desks e).slot (λ p. Some (seize_with w k (view_at w.views k) e p))) _
        (λ o. IfSome o (Puts w (Seize e)))
        (λ t.
        given_played (Puts w (Seize e)) (desk_at w.desks e).slot _
        (λ p s. inr (slot_kept w.desks e d _ inside refl)))
        (λ t. inr refl)

    takes_out : (e : ℕ) (ph : Phase) → e < length w.desks →
        IfSome (take_out w k (view_at w.views k) e ph) (Puts w (TakeOut e))
    takes_out e ToFill inside = tt
    takes_out e (Filled p) inside = tt
    takes_out e (Seized p) inside =
        at_or_else e
        (λ y.
        ((desk_at (set w.desks e (record { word = (desk_at w.desks e).word; slot = None })) y).slot ≡ None)
        ⊎ ((desk_at (set w.desks e (record { word = (desk_at w.desks e).word; slot = None })) y).slot
        ≡ (desk_at w.desks y).slot))
        (inl (ap (λ (o : Desk). o.slot) (get_or-set_same w.desks e _ no_desk inside)))
        (λ y n. inr (ap (λ (o : Desk). o.slot) (get_or-set_other w.desks e y _ no_desk (λ s. n (sym s))))) d
    takes_out e TakenOut inside = tt

    clears : (e : ℕ) (ph : Phase) → e < length w.desks → IfSome (clear w k (view_at w.views k) e ph) (Puts w (Clear e))
    clears e ToFill inside = tt
    clears e (Filled p) inside = tt
    clears e (Seized p) inside = tt
    clears e TakenOut inside = inr (slot_kept w.desks e d _ inside refl)

    row_puts : (s : Step) → in_range w s ≡ true → IfSome (row w k (view_at w.views k) s) (Puts w s)
    row_puts LoadLength r = inr refl
    row_puts (Reserve old n) r =
        when_played (Puts w (Reserve old n)) _ (reserve w k (view_at w.views k) old n) (λ t.
        cond_both (w.length == old) _ _ (Puts w (Reserve old n)) (λ e. inr refl) (λ e. inr refl))
    row_puts (Add n) r = when_played (Puts w (Add n)) _ _ (λ t. inr refl)
    row_puts LoadHead r = inr refl
    row_puts (LoadLink i) r =
        given_played (Puts w (LoadLink i)) (view_at w.views k).look _ (λ l e.
        when_played (Puts w (LoadLink i)) _ (load_link w k (view_at w.views k) i l) (λ t. inr refl))
    row_puts Cut r =
        given_played (Puts w Cut) (view_at w.views k).look _ (λ l e.
        when_played (Puts w Cut) _ (cut w k (view_at w.views k) l) (λ t. cuts l))
    row_puts (StoreLink i j) r = when_played (Puts w (StoreLink i j)) _ _ (λ t. inr refl)
    row_puts Push r =
        given_played (Puts w Push) (view_at w.views k).look _ (λ l e.
        given_played (Puts w Push) (view_at w.views k).chain _ (λ c f.
        when_played (Puts w Push) _ (push w k (view_at w.views k) l c) (λ t. pushes l c)))
    row_puts (Claim i) r = when_played (Puts w (Claim i)) _ _ (λ t. inr refl)
    row_puts (Sole i free) r =
        when_played (Puts w (Sole i free)) _ _ (λ t.
        cond_both (free && (slice_index w.counts i == 1)) _ _ (Puts w (Sole i free)) (λ e. inr refl) (λ e. inr refl))
    row_puts (Raise i old) r =
        when_played (Puts w (Raise i old)) _ _ (λ t.
        cond_both (slice_index w.counts i == old) _ _ (Puts w (Raise i old)) (λ e. inr refl) (λ e. inr refl))
    row_puts (Lower i) r = when_played (Puts w (Lower i)) _ _ (λ t. inr refl)
    row_puts (Reset i) r = when_played (Puts w (Reset i)) _ _ (λ t. inr refl)
    row_puts (Hold e) r = when_played (Puts w (Hold e)) _ _ (λ t. holds_desk e (ltb-true _ _ r))
    row_puts (PutIn e p) r =
        given_played (Puts w (PutIn e p)) (phase_at e (view_at w.views k).work) _
        (λ ph h. puts_in e p ph (ltb-true _ _ (and_parts _ _ r).0))
    row_puts (Open e) r =
        given_played (Puts w (Open e)) (phase_at e (view_at w.views k).work) _
        (λ ph h. opens e ph (ltb-true _ _ r))
    row_puts (Seize e) r =
        cond_both (is_none (view_at w.views k).work) (seize w k (view_at w.views k) e) None
        (λ o. IfSome o (Puts w (Seize e))) (λ t. seizes e (ltb-true _ _ r)) (λ t. tt)
    row_puts (TakeOut e) r =
        given_played (Puts w (TakeOut e)) (phase_at e (view_at w.views k).work) _
        (λ ph h. takes_out e ph (ltb-true _ _ r))
    row_puts (Clear e) r =
        given_played (Puts w (Clear e)) (phase_at e (view_at w.views k).work) _
        (λ ph h. clears e ph (ltb-true _ _ r))

  -- an empty slot stays empty, or a packet is put in, whatever was in it
  put_either : (s : Step) (p : Option Packet) → (put_by d s None ≡ None) ⊎ (put_by d s None ≡ put_by d s p)
  put_either (PutIn e q) p =
      cond_both (e == d) (Some q) None (λ o. (o ≡ None) ⊎ (o ≡ put_by d (PutIn e q) p))
      (λ t. inr (sym (cond-true (e == d) (Some q) p t))) (λ t. inl refl)
  put_either _ p = inl refl

  pub slot_after : (w : World) (worker : ℕ) (s : Step) (o : Outcome) (u : World) (p : Option Packet) →
      play w worker s ≡ Some (o, u) → SlotIs w p → SlotIs u (put_by d s p)
  slot_after w worker s o u p e is =
      let q = play_is w worker s o u e in
      let r = played_row (λ v k x. Puts v s x) w worker s q.0 (λ k n here inside. row_puts w k s inside) q.1 in
      let now : SlotIs u (put_by d s (desk_at w.desks d).slot) =
      subst (λ (y : World). SlotIs y (put_by d s (desk_at w.desks d).slot)) q.3 r.3 in
      ⊎_elim (λ (n : (desk_at u.desks d).slot ≡ None). inl n)
      (λ (n : (desk_at u.desks d).slot ≡ put_by d s (desk_at w.desks d).slot).
      ⊎_elim
      (λ (m : (desk_at w.desks d).slot ≡ None).
      ⊎_elim
      (λ (a : put_by d s None ≡ None). inl (n ∙ (ap (put_by d s) m ∙ a)))
      (λ (a : put_by d s None ≡ put_by d s p). inr (n ∙ (ap (put_by d s) m ∙ a)))
      (put_either s p))
      (λ (m : (desk_at w.desks d).slot ≡ p). inr (n ∙ ap (put_by d s) m)) is) now

  slot_last : (w : World) (schedule : Schedule) (os : List Outcome) (u : World) (p : Option Packet) →
      Reaches w schedule os u → SlotIs w p → SlotIs u (put_last d schedule p)
  slot_last w [] [] u p r is = subst (λ (y : World). SlotIs y p) (sym r) is
  slot_last w (x ∷ rest) (o ∷ os) u p r is =
      slot_last r.0 rest os u (put_by d x.1 p) r.2 (slot_after w x.0 x.1 o r.0 p r.1 is)
  slot_last w [] (o ∷ os) u p r is = absurd r
  slot_last w (x ∷ rest) [] u p r is = absurd r

-- what is taken out was in the slot
abbrev TakesSlot : ℕ → World → ℕ → Play → Type 0
TakesSlot d w k p = (q : Packet) → p.outcome ≡ Found q → (desk_at w.desks d).slot ≡ Some q

same_found : (p q : Packet) → ◌≡◌ {A = Outcome} (Found p) (Found q) → ◌≡◌ {A = Packet} p q
same_found p q e = cc

taken : (w : World) (k d : ℕ) → IsWorld w → k < length w.views →
    IfSome (row w k (view_at w.views k) (TakeOut d)) (TakesSlot d w k)
taken w k d is here =
    given_played (TakesSlot d w k) (phase_at d (view_at w.views k).work) _ each
  where
    each : (ph : Phase) → phase_at d (view_at w.views k).work ≡ Some ph →
        IfSome (take_out w k (view_at w.views k) d ph) (TakesSlot d w k)
    each ToFill e = tt
    each (Filled p) e = tt
    each (Seized p) e = λ q f.
        slot_now w k d here (four_of_eight w is.law) (Seized p) (phase_there d (view_at w.views k).work (Seized p) e)
        ∙ ap Some (same_found p q f)
    each TakenOut e = tt

-- every world that a schedule reaches is a pool's
reached : (w : World) (schedule : Schedule) (os : List Outcome) (u : World) → IsWorld w → Reaches w schedule os u → IsWorld u
reached w [] [] u is r = subst IsWorld (sym r) is
reached w (x ∷ rest) (o ∷ os) u is r =
    let p = play_is w x.0 x.1 o r.0 r.1 in
    reached r.0 rest os u (subst IsWorld p.3 (play_keeps w x.0 x.1 p.0 is p.1)) r.2
reached w [] (o ∷ os) u is r = absurd r
reached w (x ∷ rest) [] u is r = absurd r

pub gives_what_was_put_in : GivesWhatWasPutIn
gives_what_was_put_in w schedule os u taker d q v is r e =
    let p = play_is u taker (TakeOut d) (Found q) v e in
    let was = reached w schedule os u is r in
    let there : (desk_at u.desks d).slot ≡ Some q =
    (played_row (TakesSlot d) u taker (TakeOut d) p.0 (λ k n here inside. taken u k d was here) p.1).3 q p.2 in
    ⊎_elim
    (λ (n : (desk_at u.desks d).slot ≡ None). absurd (let g : ◌≡◌ {A = Option Packet} (Some q) None = sym there ∙ n in cc))
    (λ (n : (desk_at u.desks d).slot ≡ put_last d schedule (desk_at w.desks d).slot). sym n ∙ there)
    (slot_last d w schedule os u (desk_at w.desks d).slot r (inr refl))
