-- The event of a step is the worker's who steps, and names elements of the pool alone.
use Rattle.std.proofs.Common.{◌≡◌, ℕ, suc, ◌+◌, ◌<◌, ◌≤◌, List, [], ◌∷◌, Some, None, length, refl, sym, ap, subst, arith, ⊎_elim, is_none}
use Rattle.std.specs.Prelude.{slice_index, ◌==◌, ◌&&◌, IfSome}
use Rattle.std.proofs.lemmas.Bool.{cond_both, cases_lt, eqb-true, ltb-true, and_parts}
use Rattle.commons.specs.Bag.{bag}
use Rattle.step_core.specs.World.{Look, Chain, Desk, Phase, ToFill, Filled, Seized, TakenOut, Packet, World, view_at, desk_at, link_in, shelf, all_holds}
use Rattle.step_core.specs.Table.{NamesBelow, worker_of}
use Rattle.step_core.specs.Steps.{Step, LoadLength, Reserve, Add, LoadHead, LoadLink, Cut, StoreLink, Push, Claim, Sole, Raise, Lower, Reset, Hold, PutIn, Open, Seize, TakeOut, Clear, Play, given, row, reserve, add, cut, push, claim, sole, raise, lower, reset, hold, put_in, open_desk, open_with, seize, seize_with, take_out, clear, load_link, store_link, same_head, phase_at}
use Rattle.step_core.specs.Links.{link_value}
use Rattle.step_core.proofs.Rules.{FourLaws}
use Rattle.step_core.proofs.Bags.{times-nil, times-append, one_if-cases, below-past, includes_true, times-not_one}
use Rattle.step_core.proofs.Paths.{path_front, path_from}
use Rattle.step_core.proofs.Shows.{one_desk}
use Rattle.step_core.proofs.StackSteps.{only_here, look_of, chain_of}
use Rattle.step_core.proofs.Counts.{in_holds}
use Rattle.step_core.proofs.Desks.{full_shelf}
use Rattle.step_core.proofs.Rows.{when_played, given_played, heads}

-- the event, if there is one, is this worker's and of the pool
abbrev pub IsBy : World → ℕ → Play → Type 0
IsBy w k p = IfSome p.event (λ e. (worker_of e ≡ suc k) × NamesBelow w.limits.population e)

module _ (w : World) (k : ℕ) (law : FourLaws w) (here : k < length w.views) (busy : 0 < (view_at w.views k).part) where
  -- what stands somewhere is of the pool
  stands_below : (i : ℕ) → 0 < bag law.stack.common i + all_holds i w.views w.desks → i < w.limits.population
  stands_below i h = let p = law.stack.one_place i in ⊎_elim
      (λ (c : i < w.limits.population). c)
      (λ (c : w.limits.population ≤ i). absurd (omega (arith, below-past w.limits.population i c)))
      (cases_lt i w.limits.population)

  -- one element that is held
  one_held : (i : ℕ) → 0 < bag (view_at w.views k).holds i → (j : ℕ) → 0 < bag (i ∷ []) j → j < w.limits.population
  one_held i h j l = ⊎_elim
      (λ (s : (i ≡ j) × (_ ≡ 1)). subst (λ (a : ℕ). a < w.limits.population) s.0
      (in_holds w k here busy law.stack law.counts i h).4)
      (λ (s : (i ≡ j → ⊥) × (_ ≡ 0)). absurd (omega (arith, times-not_one j i s.0)))
      (one_if-cases i j)

  one_in_hand : (i : ℕ) → 0 < bag (view_at w.views k).hand i → (j : ℕ) → 0 < bag (i ∷ []) j → j < w.limits.population
  one_in_hand i h j l = ⊎_elim
      (λ (s : (i ≡ j) × (_ ≡ 1)). subst (λ (a : ℕ). a < w.limits.population) s.0 (only_here w k law.stack i h).3)
      (λ (s : (i ≡ j → ⊥) × (_ ≡ 0)). absurd (omega (arith, times-not_one j i s.0)))
      (one_if-cases i j)

  cut_by : (l : Look) → (view_at w.views k).look ≡ Some l → IsBy w k (cut w k (view_at w.views k) l)
  cut_by l e = cond_both (same_head w.head l.head) _ _ (IsBy w k)
      (λ s. (
        refl,
        λ i h.
            let both = heads w.head l.head s in let m = look_of w k law.stack here busy l e in
            let rest =
            path_front (link_in w.links) w.head.top l.front law.stack.common l.next
            (path_from _ _ _ _ _ (sym both.0) (m.walked (sym both.1))) law.stack.spelled in
            let a = ap (λ (xs : List ℕ). bag xs i) rest.1 in
            stands_below i (omega (arith, times-append i l.front rest.0)),
      ))
      (λ s. tt)

  push_by : (l : Look) (c : Chain) → (view_at w.views k).chain ≡ Some c → IsBy w k (push w k (view_at w.views k) l c)
  push_by l c f = cond_both (same_head w.head l.head) _ _ (IsBy w k)
      (λ s. (
        refl,
        λ i h. let a =
            (chain_of w k law.stack here busy c f).in_hand i in
            (only_here w k law.stack i (omega arith)).3,
      ))
      (λ s. tt)

  open_by : (d : ℕ) (ph : Phase) → IfSome (open_desk w k (view_at w.views k) d ph) (IsBy w k)
  open_by d ToFill = tt
  open_by d (Filled p) =
      when_played (IsBy w k) _ (open_with w k (view_at w.views k) d p) (λ t. (
        refl,
        λ i h. let a =
            includes_true _ _ t i in
            (in_holds w k here busy law.stack law.counts i (omega arith)).4,
      ))
  open_by d (Seized p) = tt
  open_by d TakenOut = tt

  seize_by : (d : ℕ) → IfSome (seize w k (view_at w.views k) d) (IsBy w k)
  seize_by d =
      cond_both ((desk_at w.desks d).word == 2)
      (given (desk_at w.desks d).slot (λ p. Some (seize_with w k (view_at w.views k) d p))) _
      (λ o. IfSome o (IsBy w k))
      (λ two. given_played (IsBy w k) (desk_at w.desks d).slot _ (λ p e. (
        refl,
        λ i h.
            let a = full_shelf (desk_at w.desks d) p (eqb-true _ _ two) e i in
            let b = one_desk (λ (x : Desk). bag (shelf x) i) w.desks d (times-nil i) in
            stands_below i (omega arith),
      )))
      (λ n. tt)

  put_in_by : (d : ℕ) (p : Packet) (ph : Phase) → IfSome (put_in w k (view_at w.views k) d p ph) (IsBy w k)
  put_in_by d p ToFill = tt
  put_in_by d p (Filled q) = tt
  put_in_by d p (Seized q) = tt
  put_in_by d p TakenOut = tt

  take_out_by : (d : ℕ) (ph : Phase) → IfSome (take_out w k (view_at w.views k) d ph) (IsBy w k)
  take_out_by d ToFill = tt
  take_out_by d (Filled p) = tt
  take_out_by d (Seized p) = tt
  take_out_by d TakenOut = tt

  clear_by : (d : ℕ) (ph : Phase) → IfSome (clear w k (view_at w.views k) d ph) (IsBy w k)
  clear_by d ToFill = tt
  clear_by d (Filled p) = tt
  clear_by d (Seized p) = tt
  clear_by d TakenOut = tt

  pub row_by : (s : Step) → IfSome (row w k (view_at w.views k) s) (IsBy w k)
  row_by LoadLength = tt
  row_by (Reserve old n) =
      when_played (IsBy w k) _ (reserve w k (view_at w.views k) old n)
      (λ h. cond_both (w.length == old) _ _ (IsBy w k) (λ e. tt) (λ e. tt))
  row_by (Add n) = when_played (IsBy w k) _ (add w k (view_at w.views k) n) (λ h. tt)
  row_by LoadHead = tt
  row_by (LoadLink i) =
      given_played (IsBy w k) (view_at w.views k).look _
      (λ l e. when_played (IsBy w k) _ (load_link w k (view_at w.views k) i l) (λ h. tt))
  row_by Cut =
      given_played (IsBy w k) (view_at w.views k).look _
      (λ l e. when_played (IsBy w k) _ (cut w k (view_at w.views k) l) (λ h. cut_by l e))
  row_by (StoreLink i j) = when_played (IsBy w k) _ (store_link w k (view_at w.views k) i (link_value j)) (λ h. tt)
  row_by Push =
      given_played (IsBy w k) (view_at w.views k).look _ (λ l e.
      given_played (IsBy w k) (view_at w.views k).chain _ (λ c f.
      when_played (IsBy w k) _ (push w k (view_at w.views k) l c) (λ h. push_by l c f)))
  row_by (Claim i) =
      when_played (IsBy w k) _ (claim w k (view_at w.views k) i)
      (λ h. (refl, one_in_hand i (ltb-true _ _ h)))
  row_by (Sole i free) =
      when_played (IsBy w k) _ (sole w k (view_at w.views k) i free) (λ h.
      cond_both (free && (slice_index w.counts i == 1)) _ _ (IsBy w k)
      (λ e. (refl, one_held i (ltb-true _ _ h))) (λ e. tt))
  row_by (Raise i old) =
      when_played (IsBy w k) _ (raise w k (view_at w.views k) i old) (λ h.
      cond_both (slice_index w.counts i == old) _ _ (IsBy w k)
      (λ e. (refl, one_held i (ltb-true _ _ (and_parts _ _ h).0))) (λ e. tt))
  row_by (Lower i) =
      when_played (IsBy w k) _ (lower w k (view_at w.views k) i)
      (λ h. (refl, one_held i (ltb-true _ _ h)))
  row_by (Reset i) = when_played (IsBy w k) _ (reset w k (view_at w.views k) i) (λ h. tt)
  row_by (Hold d) =
      when_played (IsBy w k) _ (hold w k (view_at w.views k) d)
      (λ h. cond_both ((desk_at w.desks d).word == 0) _ _ (IsBy w k) (λ e. tt) (λ e. tt))
  row_by (PutIn d p) = given_played (IsBy w k) (phase_at d (view_at w.views k).work) _ (λ ph e. put_in_by d p ph)
  row_by (Open d) = given_played (IsBy w k) (phase_at d (view_at w.views k).work) _ (λ ph e. open_by d ph)
  row_by (Seize d) =
      cond_both (is_none (view_at w.views k).work) (seize w k (view_at w.views k) d) None
      (λ o. IfSome o (IsBy w k)) (λ h. seize_by d) (λ h. tt)
  row_by (TakeOut d) = given_played (IsBy w k) (phase_at d (view_at w.views k).work) _ (λ ph e. take_out_by d ph)
  row_by (Clear d) = given_played (IsBy w k) (phase_at d (view_at w.views k).work) _ (λ ph e. clear_by d ph)
