-- Every step that is played changes at most one word or slot, and no other worker's view.
use Rattle.std.proofs.Common.{◌≡◌, ◌≢◌, ℕ, zero, suc, ◌+◌, ◌-◌, ◌<◌, ◌≤◌, List, Some, None, length, set, refl, ap, ◌∙◌, arith, is_none, get_or-set_other, get_or-set_same}
use Rattle.std.specs.Prelude.{slice_index, ◌==◌, ◌&&◌, IfSome}
use Rattle.std.proofs.lemmas.Bool.{cond_both, ltb-true, and_parts}
use Rattle.std.proofs.lemmas.List.{length-set}
use Rattle.commons.specs.Calls.{spent}
use Rattle.step_core.specs.Links.{link_value}
use Rattle.step_core.specs.World.{Phase, ToFill, Filled, Seized, TakenOut, Packet, View, World, view_at, view_of, desk_at, empty_view}
use Rattle.step_core.specs.Changes.{OneWord, Neither, HeadWord, LengthWord, LinkWord, CountWord, DeskWord, Slot, ChangesOne}
use Rattle.step_core.specs.Steps.{Step, LoadLength, Reserve, Add, LoadHead, LoadLink, Cut, StoreLink, Push, Claim, Sole, Raise, Lower, Reset, Hold, PutIn, Open, Seize, TakeOut, Clear, Play, given, row, reserve, add, cut, push, claim, sole, raise, lower, reset, hold, put_in, open_desk, open_with, seize, seize_with, take_out, clear, load_link, store_link, same_head, phase_at}
use Rattle.step_core.proofs.Rows.{when_played, given_played}

-- a play changes at most one word or slot, and the head's count stays in its bits
abbrev pub ChangesIn : World → ℕ → Play → Type 0
ChangesIn w k p = ChangesOne (suc k) w p.after × (w.head.count ≤ spent → p.after.head.count ≤ spent)

module _ (w : World) (k : ℕ) (here : k < length w.views) where
  -- a world with one view exchanged
  changed : (u : View) (v : World) → v.views ≡ set w.views k u → u.part ≡ (view_at w.views k).part →
      OneWord w v → ChangesOne (suc k) w v
  changed u v e part word = record {
    word = word;
    views = ap (λ (vs : List View). length vs) e ∙ length-set w.views k u;
    others = others;
    part =
        ap (λ (vs : List View). (view_at vs k).part) e
        ∙ (ap (λ (x : View). x.part) (get_or-set_same w.views k u (empty_view 0) here) ∙ part);
  }
    where
      others : (other : ℕ) → other ≢ suc k → view_of v.views other ≡ view_of w.views other
      others zero n = refl
      others (suc j) n =
          ap (λ (vs : List View). view_at vs j) e
          ∙ get_or-set_other w.views k j u (empty_view 0) (λ s. n (ap suc s))

  same : ChangesOne (suc k) w w
  same = record { word = Neither refl; views = refl; others = λ other n. refl; part = refl }

  put_in_changes : (d : ℕ) (p : Packet) (ph : Phase) → IfSome (put_in w k (view_at w.views k) d p ph) (ChangesIn w k)
  put_in_changes d p ToFill = (changed _ _ refl refl (Slot d (Some p) refl), λ h. h)
  put_in_changes d p (Filled q) = tt
  put_in_changes d p (Seized q) = tt
  put_in_changes d p TakenOut = tt

  open_changes : (d : ℕ) (ph : Phase) → IfSome (open_desk w k (view_at w.views k) d ph) (ChangesIn w k)
  open_changes d ToFill = tt
  open_changes d (Filled p) =
      when_played (ChangesIn w k) _ (open_with w k (view_at w.views k) d p)
      (λ t. (changed _ _ refl refl (DeskWord d 2 refl), λ h. h))
  open_changes d (Seized p) = tt
  open_changes d TakenOut = tt

  seize_changes : (d : ℕ) → IfSome (seize w k (view_at w.views k) d) (ChangesIn w k)
  seize_changes d =
      cond_both ((desk_at w.desks d).word == 2)
      (given (desk_at w.desks d).slot (λ p. Some (seize_with w k (view_at w.views k) d p))) _
      (λ o. IfSome o (ChangesIn w k))
      (λ two.
      given_played (ChangesIn w k) (desk_at w.desks d).slot _
      (λ p e. (changed _ _ refl refl (DeskWord d 3 refl), λ h. h)))
      (λ n. (same, λ h. h))

  take_out_changes : (d : ℕ) (ph : Phase) → IfSome (take_out w k (view_at w.views k) d ph) (ChangesIn w k)
  take_out_changes d ToFill = tt
  take_out_changes d (Filled p) = tt
  take_out_changes d (Seized p) = (changed _ _ refl refl (Slot d None refl), λ h. h)
  take_out_changes d TakenOut = tt

  clear_changes : (d : ℕ) (ph : Phase) → IfSome (clear w k (view_at w.views k) d ph) (ChangesIn w k)
  clear_changes d ToFill = tt
  clear_changes d (Filled p) = tt
  clear_changes d (Seized p) = tt
  clear_changes d TakenOut = (changed _ _ refl refl (DeskWord d 0 refl), λ h. h)

  pub row_changes : (s : Step) → IfSome (row w k (view_at w.views k) s) (ChangesIn w k)
  row_changes LoadLength = (same, λ h. h)
  row_changes (Reserve old n) =
      when_played (ChangesIn w k) _ (reserve w k (view_at w.views k) old n)
      (λ t.
      cond_both (w.length == old) _ _ (ChangesIn w k)
      (λ e. (changed _ _ refl refl (LengthWord refl), λ h. h)) (λ e. (same, λ h. h)))
  row_changes (Add n) =
      when_played (ChangesIn w k) _ (add w k (view_at w.views k) n)
      (λ t. (changed _ _ refl refl (LengthWord refl), λ h. h))
  row_changes LoadHead = (changed _ _ refl refl (Neither refl), λ h. h)
  row_changes (LoadLink i) =
      given_played (ChangesIn w k) (view_at w.views k).look _ (λ l e.
      when_played (ChangesIn w k) _ (load_link w k (view_at w.views k) i l)
      (λ t. (changed _ _ refl refl (Neither refl), λ h. h)))
  row_changes Cut =
      given_played (ChangesIn w k) (view_at w.views k).look _ (λ l e. when_played (ChangesIn w k) _
      (cut w k (view_at w.views k) l) (λ t. cond_both (same_head w.head l.head) _ _
      (ChangesIn w k)
      (λ s. (
        changed _ _ refl refl (HeadWord refl),
        λ h.
            (
            let c : l.head.count < spent =
            ltb-true _ _ (and_parts _ _ (and_parts _ _ t).1).1 in
            omega arith),
      ))
      (λ s. (changed _ _ refl refl (Neither refl), λ h. h))))
  row_changes (StoreLink i j) =
      when_played (ChangesIn w k) _ (store_link w k (view_at w.views k) i (link_value j))
      (λ t. (changed _ _ refl refl (LinkWord i (link_value j) refl), λ h. h))
  row_changes Push =
      given_played (ChangesIn w k) (view_at w.views k).look _ (λ l e. given_played (ChangesIn w k)
      (view_at w.views k).chain _ (λ c f. when_played (ChangesIn w k) _
      (push w k (view_at w.views k) l c) (λ t. cond_both (same_head w.head l.head) _ _
      (ChangesIn w k)
      (λ s. (
        changed _ _ refl refl (HeadWord refl),
        λ h.
            (let b : l.head.count < spent = ltb-true _ _ (and_parts _ _ t).1 in omega arith),
      ))
      (λ s. (changed _ _ refl refl (Neither refl), λ h. h)))))
  row_changes (Claim i) =
      when_played (ChangesIn w k) _ (claim w k (view_at w.views k) i)
      (λ t. (changed _ _ refl refl (Neither refl), λ h. h))
  row_changes (Sole i free) =
      when_played (ChangesIn w k) _ (sole w k (view_at w.views k) i free) (λ t.
      cond_both (free && (slice_index w.counts i == 1)) _ _ (ChangesIn w k)
      (λ e. (changed _ _ refl refl (Neither refl), λ h. h)) (λ e. (same, λ h. h)))
  row_changes (Raise i old) =
      when_played (ChangesIn w k) _ (raise w k (view_at w.views k) i old) (λ t.
      cond_both (slice_index w.counts i == old) _ _ (ChangesIn w k)
      (λ e. (changed _ _ refl refl (CountWord i (old + 1) refl), λ h. h))
      (λ e. (same, λ h. h)))
  row_changes (Lower i) =
      when_played (ChangesIn w k) _ (lower w k (view_at w.views k) i)
      (λ t. (changed _ _ refl refl (CountWord i (slice_index w.counts i - 1) refl), λ h. h))
  row_changes (Reset i) =
      when_played (ChangesIn w k) _ (reset w k (view_at w.views k) i)
      (λ t. (changed _ _ refl refl (CountWord i 1 refl), λ h. h))
  row_changes (Hold d) =
      when_played (ChangesIn w k) _ (hold w k (view_at w.views k) d) (λ t.
      cond_both ((desk_at w.desks d).word == 0) _ _ (ChangesIn w k)
      (λ e. (changed _ _ refl refl (DeskWord d 1 refl), λ h. h)) (λ e. (same, λ h. h)))
  row_changes (PutIn d p) =
      given_played (ChangesIn w k) (phase_at d (view_at w.views k).work) _
      (λ ph e. put_in_changes d p ph)
  row_changes (Open d) =
      given_played (ChangesIn w k) (phase_at d (view_at w.views k).work) _
      (λ ph e. open_changes d ph)
  row_changes (Seize d) =
      cond_both (is_none (view_at w.views k).work) (seize w k (view_at w.views k) d) None
      (λ o. IfSome o (ChangesIn w k)) (λ t. seize_changes d) (λ t. tt)
  row_changes (TakeOut d) =
      given_played (ChangesIn w k) (phase_at d (view_at w.views k).work) _
      (λ ph e. take_out_changes d ph)
  row_changes (Clear d) =
      given_played (ChangesIn w k) (phase_at d (view_at w.views k).work) _
      (λ ph e. clear_changes d ph)
