-- Every step that is played makes its one event of the table, or none.
use Rattle.std.proofs.Common.{◌≡◌, ℕ, suc, ◌+◌, ◌-◌, ◌<◌, Bool, true, List, [], ◌∷◌, ◌++◌, Option, Some, None, length, set, refl, sym, ap, ◌∙◌, arith, is_none}
use Rattle.std.specs.Prelude.{slice_index, ◌==◌, ◌&&◌, IfSome}
use Rattle.std.proofs.lemmas.Bool.{cond_both, eqb-true, ltb-true, and_parts}
use Rattle.commons.specs.Bag.{bag}
use Rattle.step_core.specs.Bags.{without, still_held}
use Rattle.step_core.specs.Links.{link_value}
use Rattle.step_core.specs.World.{Look, Chain, Phase, ToFill, Filled, Seized, TakenOut, Packet, View, World, view_at, desk_at, link_in}
use Rattle.step_core.specs.Table.{Table, SameTable, Event, EventMoves, Free}
use Rattle.step_core.specs.Shows.{ShowsTable}
use Rattle.step_core.specs.Steps.{Step, LoadLength, Reserve, Add, LoadHead, LoadLink, Cut, StoreLink, Push, Claim, Sole, Raise, Lower, Reset, Hold, PutIn, Open, Seize, TakeOut, Clear, Play, given, row, reserve, add, cut, push, claim, sole, raise, lower, reset, hold, put_in, open_desk, open_with, seize, seize_with, take_out, clear, load_link, store_link, same_head, in_range, phase_at}
use Rattle.step_core.proofs.Rules.{FourLaws}
use Rattle.step_core.proofs.Bags.{times-last, times-but_last, times-without_here, times-without_other, at_or_else, includes_true}
use Rattle.step_core.proofs.Shows.{spells_same}
use Rattle.step_core.proofs.Events.{same_at, quiet_stack, cut_gets, push_puts}
use Rattle.step_core.proofs.HeldEvents.{claims, attaches, frees_last, frees_one, quiet_count}
use Rattle.step_core.proofs.DeskEvents.{quiet_desk, offers, takes}
use Rattle.step_core.proofs.Frame.{moved, stepped}
use Rattle.step_core.proofs.StackSteps.{only_here}
use Rattle.step_core.proofs.Storing.{path_beside}
use Rattle.step_core.proofs.Counts.{count_of, in_holds}
use Rattle.step_core.proofs.Desks.{no_shelf, full_shelf, desk_inside, slot_now, word_filling, word_emptying, phase_there}
use Rattle.step_core.proofs.Rows.{when_played, given_played, heads}

-- what the event does to each element; without one the tables are the same
abbrev pub MovesBy : ℕ → Option Event → Table → Table → Type 0
MovesBy n None t u = SameTable n t u
MovesBy n (Some e) t u = EventMoves n e t u

-- any table that the world shows leads to any that it shows after the play
abbrev pub Goes : World → Play → Type 0
Goes w p = (t s : Table) → ShowsTable w t → ShowsTable p.after s → MovesBy w.limits.population p.event t s

module _ (w : World) (k : ℕ) (law : FourLaws w) (here : k < length w.views) (busy : 0 < (view_at w.views k).part) where
  nothing : (t s : Table) → ShowsTable w t → ShowsTable w s → SameTable w.limits.population t s
  nothing t s a b i lt =
      same_at w w t s w.limits.population refl refl a b i lt
      (ap (λ (xs : List ℕ). bag xs i) (spells_same _ _ _ _ a.spelled b.spelled))
      (record { hand = λ j. refl; holder = λ j. refl; desk = λ d. refl })

  -- a step that changes neither the head nor a link, nor what is in the hand
  knows_only : (n : ℕ) (u : View) → u.hand ≡ (view_at w.views k).hand →
      u.zeros ≡ (view_at w.views k).zeros → u.holds ≡ (view_at w.views k).holds → (t s : Table) →
      ShowsTable w t → ShowsTable (stepped w k w.head n w.links u) s → SameTable w.limits.population t s
  knows_only n u hand zeros holds =
      quiet_stack w k w.head n w.links u here hand zeros holds
      (spells_same (link_in w.links) w.head.top)

  reserve_goes : (old n : ℕ) → Goes w (reserve w k (view_at w.views k) old n)
  reserve_goes old n = cond_both (w.length == old) _ _ (Goes w) (λ e. knows_only _ _ refl refl refl) (λ e. nothing)

  cut_goes : (l : Look) → (view_at w.views k).look ≡ Some l → Goes w (cut w k (view_at w.views k) l)
  cut_goes l e = cond_both (same_head w.head l.head) _ _ (Goes w)
      (λ s. let both = heads w.head l.head s in cut_gets w k here busy law.stack l _ e both.0 both.1 refl refl refl)
      (λ s. knows_only _ _ refl refl refl)

  push_goes : (l : Look) (c : Chain) → (view_at w.views k).chain ≡ Some c → c.end ≡ l.head.top →
      Goes w (push w k (view_at w.views k) l c)
  push_goes l c f ends = cond_both (same_head w.head l.head) _ _ (Goes w)
      (λ s. let both = heads w.head l.head s in push_puts w k here busy law.stack l c _ f ends both.0 refl refl refl)
      (λ s. knows_only _ _ refl refl refl)

  store_goes : (i j : ℕ) → 0 < bag (view_at w.views k).hand i → Goes w (store_link w k (view_at w.views k) i j)
  store_goes i j mine =
      let place = only_here w k law.stack i mine in
      let inside : i < length w.links = (let a = place.3 in let b = law.stack.all_links in omega arith) in
      quiet_stack w k w.head w.length (set w.links i j) _ here refl refl refl
      (λ xs ys p q. sym (spells_same _ _ _ _ law.stack.spelled p)
      ∙ spells_same _ _ _ _
      (path_beside w.links i j inside _ law.stack.common 0 place.0 law.stack.spelled) q)

  sole_goes : (i : ℕ) (free : Bool) → 0 < bag (view_at w.views k).holds i → Goes w (sole w k (view_at w.views k) i free)
  sole_goes i free h =
      let v = view_at w.views k in let at = in_holds w k here busy law.stack law.counts i h in
      cond_both (free && (slice_index w.counts i == 1)) _ _ (Goes w)
      (λ e t s a b. frees_last w k here law w.counts _ t s a b i h
      (
      let c = count_of w k here busy law.stack law.counts i h in
      let d : slice_index w.counts i ≡ 1 =
      eqb-true (slice_index w.counts i) 1
      (and_parts free (slice_index w.counts i == 1) e).1 in
      omega arith)
      (let c = at.1 in let d = at.2 in omega (arith, times-last i v.hand))
      (λ x n. omega (arith, times-but_last x i v.hand n)) refl)
      (λ e. nothing)

  raise_goes : (i old : ℕ) → 0 < bag (view_at w.views k).holds i → Goes w (raise w k (view_at w.views k) i old)
  raise_goes i old h = cond_both (slice_index w.counts i == old) _ _ (Goes w)
      (λ e t s a b. attaches w k here law _ _ t s a b i h refl refl refl)
      (λ e. nothing)

  lower_goes : (i : ℕ) → 0 < bag (view_at w.views k).holds i → Goes w (lower w k (view_at w.views k) i)
  lower_goes i h =
      let v = view_at w.views k in let at = in_holds w k here busy law.stack law.counts i h in
      cond_both (slice_index w.counts i == 1) (v.zeros ++ i ∷ []) v.zeros
      (λ z. (t s : Table) → ShowsTable w t → ShowsTable (moved w k w.head w.length w.links
      (set w.counts i (slice_index w.counts i - 1)) (record (view_at w.views k) {
        holds = without i (view_at w.views k).holds;
        headers = still_held (view_at w.views k).headers (without i (view_at w.views k).holds);
        zeros = z;
      })) s →
      EventMoves w.limits.population (Free (suc k) i) t s)
      (λ e t s a b. frees_last w k here law _ _ t s a b i h
      (
      let c = count_of w k here busy law.stack law.counts i h in
      let d : slice_index w.counts i ≡ 1 = eqb-true _ _ e in
      omega arith)
      (let c = at.1 in let d = at.2 in omega (arith, times-last i v.zeros))
      (λ x n. omega (arith, times-but_last x i v.zeros n)) refl)
      (λ e t s a b. frees_one w k here law _ _ t s a b i h refl refl refl)

  reset_goes : (i : ℕ) → 0 < bag (view_at w.views k).zeros i → Goes w (reset w k (view_at w.views k) i)
  reset_goes i h t s a b =
      let v = view_at w.views k in
      quiet_count w k here law _ _ t s a b
      (at_or_else i (λ x. bag (v.hand ++ i ∷ []) x + bag (without i v.zeros) x ≡ bag v.hand x + bag v.zeros x)
      (omega (arith, times-last i v.hand, times-without_here i v.zeros))
      (λ x n. omega (arith, times-but_last x i v.hand n, times-without_other x i v.zeros n)))
      refl

  hold_goes : (d : ℕ) → d < length w.desks → Goes w (hold w k (view_at w.views k) d)
  hold_goes d inside = cond_both ((desk_at w.desks d).word == 0) _ _ (Goes w)
      (λ e t s a b. quiet_desk w k d here inside _ _ _ _ t s a b (λ i. refl)
      (λ i.
      no_shelf (record { word = 1; slot = (desk_at w.desks d).slot }) 1 refl
      (λ z. omega arith) i
      ∙ sym (no_shelf (desk_at w.desks d) 0 (eqb-true _ _ e) (λ z. omega arith) i)))
      (λ e. nothing)

  put_in_goes : (d : ℕ) (p : Packet) (ph : Phase) → phase_at d (view_at w.views k).work ≡ Some ph →
      IfSome (put_in w k (view_at w.views k) d p ph) (Goes w)
  put_in_goes d p ToFill e = λ t s a b.
      let work = phase_there d (view_at w.views k).work ToFill e in
      let is = word_filling w k d here law ToFill work refl in
      quiet_desk w k d here (desk_inside w.desks d (omega arith)) _ _ _ _ t s a b (λ i. refl)
      (λ i.
      no_shelf (record { word = (desk_at w.desks d).word; slot = Some p }) 1 is
      (λ z. omega arith) i ∙ sym (no_shelf (desk_at w.desks d) 1 is (λ z. omega arith) i))
  put_in_goes d p (Filled q) e = tt
  put_in_goes d p (Seized q) e = tt
  put_in_goes d p TakenOut e = tt

  open_goes : (d : ℕ) (ph : Phase) → phase_at d (view_at w.views k).work ≡ Some ph →
      IfSome (open_desk w k (view_at w.views k) d ph) (Goes w)
  open_goes d ToFill e = tt
  open_goes d (Filled p) e = when_played (Goes w) _ (open_with w k (view_at w.views k) d p) (λ h t s a b.
      let work = phase_there d (view_at w.views k).work (Filled p) e in
      let is = word_filling w k d here law (Filled p) work refl in
      offers w k d here (desk_inside w.desks d (omega arith)) _ _ _ _ t s a b p (includes_true _ _ h) refl
      (no_shelf (desk_at w.desks d) 1 is (λ z. omega arith))
      (full_shelf _ p refl (slot_now w k d here law (Filled p) work)))
  open_goes d (Seized p) e = tt
  open_goes d TakenOut e = tt

  seize_goes : (d : ℕ) → d < length w.desks → IfSome (seize w k (view_at w.views k) d) (Goes w)
  seize_goes d inside =
      cond_both ((desk_at w.desks d).word == 2)
      (given (desk_at w.desks d).slot (λ p. Some (seize_with w k (view_at w.views k) d p))) _
      (λ o. IfSome o (Goes w))
      (λ two. given_played (Goes w) (desk_at w.desks d).slot _ (λ p e t s a b.
      takes w k d here inside _ _ _ _ t s a b p refl
      (full_shelf (desk_at w.desks d) p (eqb-true _ _ two) e) (no_shelf
      (record { word = 3; slot = (desk_at w.desks d).slot }) 3 refl (λ z. omega arith))))
      (λ e. nothing)

  take_out_goes : (d : ℕ) (ph : Phase) → phase_at d (view_at w.views k).work ≡ Some ph →
      IfSome (take_out w k (view_at w.views k) d ph) (Goes w)
  take_out_goes d ToFill e = tt
  take_out_goes d (Filled p) e = tt
  take_out_goes d (Seized p) e = λ t s a b.
      let work = phase_there d (view_at w.views k).work (Seized p) e in
      let is = word_emptying w k d here law (Seized p) work refl in
      quiet_desk w k d here (desk_inside w.desks d (omega arith)) _ _ _ _ t s a b (λ i. refl)
      (λ i.
      no_shelf (record { word = (desk_at w.desks d).word; slot = None }) 3 is
      (λ z. omega arith) i ∙ sym (no_shelf (desk_at w.desks d) 3 is (λ z. omega arith) i))
  take_out_goes d TakenOut e = tt

  clear_goes : (d : ℕ) (ph : Phase) → phase_at d (view_at w.views k).work ≡ Some ph →
      IfSome (clear w k (view_at w.views k) d ph) (Goes w)
  clear_goes d ToFill e = tt
  clear_goes d (Filled p) e = tt
  clear_goes d (Seized p) e = tt
  clear_goes d TakenOut e = λ t s a b.
      let work = phase_there d (view_at w.views k).work TakenOut e in
      let is = word_emptying w k d here law TakenOut work refl in
      quiet_desk w k d here (desk_inside w.desks d (omega arith)) _ _ _ _ t s a b (λ i. refl)
      (λ i.
      no_shelf (record { word = 0; slot = (desk_at w.desks d).slot }) 0 refl
      (λ z. omega arith) i ∙ sym (no_shelf (desk_at w.desks d) 3 is (λ z. omega arith) i))

  pub row_goes : (s : Step) → in_range w s ≡ true → IfSome (row w k (view_at w.views k) s) (Goes w)
  row_goes LoadLength r = nothing
  row_goes (Reserve old n) r = when_played (Goes w) _ _ (λ h. reserve_goes old n)
  row_goes (Add n) r = when_played (Goes w) _ (add w k (view_at w.views k) n) (λ h. knows_only _ _ refl refl refl)
  row_goes LoadHead r = knows_only _ _ refl refl refl
  row_goes (LoadLink i) r =
      given_played (Goes w) (view_at w.views k).look _ (λ l e.
      when_played (Goes w) _ (load_link w k (view_at w.views k) i l)
      (λ h. knows_only _ _ refl refl refl))
  row_goes Cut r =
      given_played (Goes w) (view_at w.views k).look _
      (λ l e. when_played (Goes w) _ (cut w k (view_at w.views k) l) (λ h. cut_goes l e))
  row_goes (StoreLink i j) r = when_played (Goes w) _ _ (λ h. store_goes i (link_value j) (ltb-true _ _ h))
  row_goes Push r =
      given_played (Goes w) (view_at w.views k).look _ (λ l e.
      given_played (Goes w) (view_at w.views k).chain _ (λ c f.
      when_played (Goes w) _ (push w k (view_at w.views k) l c)
      (λ h. push_goes l c f (eqb-true _ _ (and_parts _ _ h).0))))
  row_goes (Claim i) r =
      when_played (Goes w) _ (claim w k (view_at w.views k) i)
      (λ h t s a b. claims w k here law w.counts _ t s a b i (ltb-true _ _ h) refl refl refl)
  row_goes (Sole i free) r = when_played (Goes w) _ _ (λ h. sole_goes i free (ltb-true _ _ h))
  row_goes (Raise i old) r = when_played (Goes w) _ _ (λ h. raise_goes i old (ltb-true _ _ (and_parts _ _ h).0))
  row_goes (Lower i) r = when_played (Goes w) _ _ (λ h. lower_goes i (ltb-true _ _ h))
  row_goes (Reset i) r = when_played (Goes w) _ _ (λ h. reset_goes i (ltb-true _ _ h))
  row_goes (Hold d) r = when_played (Goes w) _ _ (λ h. hold_goes d (ltb-true _ _ r))
  row_goes (PutIn d p) r = given_played (Goes w) (phase_at d (view_at w.views k).work) _ (put_in_goes d p)
  row_goes (Open d) r = given_played (Goes w) (phase_at d (view_at w.views k).work) _ (open_goes d)
  row_goes (Seize d) r =
      cond_both (is_none (view_at w.views k).work) (seize w k (view_at w.views k) d) None
      (λ o. IfSome o (Goes w)) (λ h. seize_goes d (ltb-true _ _ r)) (λ h. tt)
  row_goes (TakeOut d) r = given_played (Goes w) (phase_at d (view_at w.views k).work) _ (take_out_goes d)
  row_goes (Clear d) r = given_played (Goes w) (phase_at d (view_at w.views k).work) _ (clear_goes d)
