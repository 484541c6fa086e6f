-- Every step that is played makes of its worker's view what `view_after` tells.
use Rattle.std.proofs.Common.{◌≡◌, ℕ, Bool, true, Option, Some, None, set, refl, sym, ap, ◌∙◌, is_none}
use Rattle.std.specs.Prelude.{slice_index, ◌==◌, ◌&&◌, if◌then◌else◌, IfSome}
use Rattle.std.proofs.lemmas.Bool.{cond_both, and_parts}
use Rattle.std.proofs.lemmas.List.{set-get_or}
use Rattle.step_core.specs.Links.{link_value}
use Rattle.step_core.specs.Schedules.{slot_at}
use Rattle.step_core.specs.Views.{view_after, walked_on, cut_look, seen_by, push_view, push_chain, freed, opened_from, seized_from}
use Rattle.step_core.specs.Steps.{Step, LoadLength, Reserve, Add, LoadHead, LoadLink, Cut, StoreLink, Push, Claim, Sole, Raise, Lower, Reset, Hold, PutIn, Open, Seize, TakeOut, Clear, Play, given, row, reserve, add, cut, push, claim, sole, raise, lower, reset, hold, put_in, open_desk, open_with, seize, seize_with, take_out, clear, load_link, store_link, same_head, phase_at}
use Rattle.step_core.specs.World.{Look, Chain, Phase, ToFill, Filled, Seized, TakenOut, Packet, World, view_at, desk_at, link_in, empty_view}
use Rattle.step_core.proofs.Rows.{when_played, given_played}

-- the views after a step, by what is told of it
abbrev pub IsTold : Step → World → ℕ → Play → Type 0
IsTold s w k p = p.after.views ≡ set w.views k (view_after (slot_at w.desks s) s p.outcome (view_at w.views k))

module _ (w : World) (k : ℕ) where
  -- the views may be written as they are
  same : w.views ≡ set w.views k (view_at w.views k)
  same = sym (set-get_or w.views k (empty_view 0))

  put_in_told : (d : ℕ) (p : Packet) (ph : Phase) →
      IfSome (put_in w k (view_at w.views k) d p ph) (IsTold (PutIn d p) w k)
  put_in_told d p ToFill = refl
  put_in_told d p (Filled q) = tt
  put_in_told d p (Seized q) = tt
  put_in_told d p TakenOut = tt

  open_told : (d : ℕ) (ph : Phase) → phase_at d (view_at w.views k).work ≡ Some ph →
      IfSome (open_desk w k (view_at w.views k) d ph) (IsTold (Open d) w k)
  open_told d ToFill e = tt
  open_told d (Filled p) e =
      when_played (IsTold (Open d) w k) _ (open_with w k (view_at w.views k) d p)
      (λ t. ap (λ (o : Option Phase). set w.views k (opened_from (view_at w.views k) o)) (sym e))
  open_told d (Seized p) e = tt
  open_told d TakenOut e = tt

  seize_told : (d : ℕ) → IfSome (seize w k (view_at w.views k) d) (IsTold (Seize d) w k)
  seize_told d =
      cond_both ((desk_at w.desks d).word == 2)
      (given (desk_at w.desks d).slot (λ p. Some (seize_with w k (view_at w.views k) d p))) _
      (λ o. IfSome o (IsTold (Seize d) w k))
      (λ two.
      given_played (IsTold (Seize d) w k) (desk_at w.desks d).slot _
      (λ p e. ap (λ (o : Option Packet). set w.views k (seized_from d (view_at w.views k) o)) (sym e)))
      (λ n. same)

  take_out_told : (d : ℕ) (ph : Phase) →
      IfSome (take_out w k (view_at w.views k) d ph) (IsTold (TakeOut d) w k)
  take_out_told d ToFill = tt
  take_out_told d (Filled p) = tt
  take_out_told d (Seized p) = refl
  take_out_told d TakenOut = tt

  clear_told : (d : ℕ) (ph : Phase) →
      IfSome (clear w k (view_at w.views k) d ph) (IsTold (Clear d) w k)
  clear_told d ToFill = tt
  clear_told d (Filled p) = tt
  clear_told d (Seized p) = tt
  clear_told d TakenOut = refl

  pub row_told : (s : Step) → IfSome (row w k (view_at w.views k) s) (IsTold s w k)
  row_told LoadLength = same
  row_told (Reserve old n) =
      when_played (IsTold (Reserve old n) w k) _ (reserve w k (view_at w.views k) old n)
      (λ t. cond_both (w.length == old) _ _ (IsTold (Reserve old n) w k) (λ e. refl) (λ e. same))
  row_told (Add n) =
      when_played (IsTold (Add n) w k) _ (add w k (view_at w.views k) n) (λ t. refl)
  row_told LoadHead = refl
  row_told (LoadLink i) =
      given_played (IsTold (LoadLink i) w k) (view_at w.views k).look _ (λ l e.
      when_played (IsTold (LoadLink i) w k) _ (load_link w k (view_at w.views k) i l) (λ t.
      ap (λ (o : Option Look). set w.views k (record (view_at w.views k) { look = walked_on o i (link_in w.links i) }))
      (sym e)))
  row_told Cut =
      given_played (IsTold Cut w k) (view_at w.views k).look _ (λ l e.
      when_played (IsTold Cut w k) _ (cut w k (view_at w.views k) l) (λ t.
      cond_both (same_head w.head l.head) _ _ (IsTold Cut w k)
      (λ won. ap (λ (o : Option Look). set w.views k (cut_look (view_at w.views k) o)) (sym e))
      (λ lost. refl)))
  row_told (StoreLink i j) =
      when_played (IsTold (StoreLink i j) w k) _
      (store_link w k (view_at w.views k) i (link_value j)) (λ t. refl)
  row_told Push =
      given_played (IsTold Push w k) (view_at w.views k).look _ (λ l e.
      given_played (IsTold Push w k) (view_at w.views k).chain _ (λ c f.
      when_played (IsTold Push w k) _ (push w k (view_at w.views k) l c) (λ t.
      cond_both (same_head w.head l.head) _ _ (IsTold Push w k)
      (λ won.
      ap (λ (o : Option Look). set w.views k (push_view (view_at w.views k) c (seen_by o))) (sym e)
      ∙ ap (λ (o : Option Chain). set w.views k (push_chain (view_at w.views k) o)) (sym f))
      (λ lost. refl))))
  row_told (Claim i) =
      when_played (IsTold (Claim i) w k) _ (claim w k (view_at w.views k) i) (λ t. refl)
  row_told (Sole i free) =
      when_played (IsTold (Sole i free) w k) _ (sole w k (view_at w.views k) i free) (λ t.
      cond_both (free && (slice_index w.counts i == 1)) _ _ (IsTold (Sole i free) w k)
      (λ e.
      ap (λ (b : Bool). set w.views k
      (if b && true then freed (view_at w.views k) i else view_at w.views k))
      (sym (and_parts _ _ e).0))
      (λ e.
      same
      ∙ ap (λ (b : Bool). set w.views k (if b then freed (view_at w.views k) i else view_at w.views k))
      (sym e)))
  row_told (Raise i old) =
      when_played (IsTold (Raise i old) w k) _ (raise w k (view_at w.views k) i old) (λ t.
      cond_both (slice_index w.counts i == old) _ _ (IsTold (Raise i old) w k)
      (λ e. refl) (λ e. same))
  row_told (Lower i) =
      when_played (IsTold (Lower i) w k) _ (lower w k (view_at w.views k) i) (λ t. refl)
  row_told (Reset i) =
      when_played (IsTold (Reset i) w k) _ (reset w k (view_at w.views k) i) (λ t. refl)
  row_told (Hold d) =
      when_played (IsTold (Hold d) w k) _ (hold w k (view_at w.views k) d) (λ t.
      cond_both ((desk_at w.desks d).word == 0) _ _ (IsTold (Hold d) w k) (λ e. refl) (λ e. same))
  row_told (PutIn d p) =
      given_played (IsTold (PutIn d p) w k) (phase_at d (view_at w.views k).work) _
      (λ ph e. put_in_told d p ph)
  row_told (Open d) =
      given_played (IsTold (Open d) w k) (phase_at d (view_at w.views k).work) _
      (λ ph e. open_told d ph e)
  row_told (Seize d) =
      cond_both (is_none (view_at w.views k).work) (seize w k (view_at w.views k) d) None
      (λ o. IfSome o (IsTold (Seize d) w k)) (λ t. seize_told d) (λ t. tt)
  row_told (TakeOut d) =
      given_played (IsTold (TakeOut d) w k) (phase_at d (view_at w.views k).work) _
      (λ ph e. take_out_told d ph)
  row_told (Clear d) =
      given_played (IsTold (Clear d) w k) (phase_at d (view_at w.views k).work) _
      (λ ph e. clear_told d ph)
