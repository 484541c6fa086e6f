-- A third worker's step is the same whether or not elements have passed.
use Rattle.std.proofs.Common.{◌≡◌, ◌≢◌, ℕ, zero, suc, Bool, List, ◌++◌, Option, Some, None, length, set, refl, sym, ap, ◌∙◌, subst, arith, get_or-set_other}
use Rattle.std.specs.Prelude.{option_map, option_and_then, nat_lt, if◌then◌else◌}
use Rattle.std.proofs.lemmas.List.{length-set, set_comm}
use Rattle.step_core.specs.declared.step.Outcome.{Outcome}
use Rattle.step_core.specs.declared.step.Step.{Step}
use Rattle.step_core.specs.declared.view.View.{View}
use Rattle.step_core.specs.World.{World, empty_view, view_at}
use Rattle.step_core.specs.Steps.{Play, in_range, row, turn, played}
use Rattle.step_core.specs.Passing.{with_hand, IsWithout, AreUnchained, passed, PassesHand, SameBut, OthersDoTheSame}
use Rattle.step_core.proofs.PassedHands.{length_kept}
use Rattle.step_core.proofs.TwoWorlds.{SameTurn, same_turn, same_range, row_same}

-- these elements have passed from the one world to the other
abbrev pub Passes : ℕ → ℕ → List ℕ → World → World → Type 0
Passes j k xs a b = PassesHand a b j k xs

-- one outcome and one event of what is played alike
same_but : (j k : ℕ) (xs : List ℕ) (p q : Option Play) →
    SameTurn (Passes j k xs) p q →
    SameBut j k xs (option_map {U = Outcome × World} (λ p. (p.outcome, p.after)) p)
    (option_map {U = Outcome × World} (λ p. (p.outcome, p.after)) q)
    × (option_and_then (λ p. p.event) p ≡ option_and_then (λ p. p.event) q)
same_but j k xs None None same = (tt, refl)
same_but j k xs None (Some q) same = absurd same
same_but j k xs (Some p) None same = absurd same
same_but j k xs (Some p) (Some q) same = ((same.0, same.2), same.1)

module _ (w u : World) (j k : ℕ) (xs : List ℕ) (apart : j ≢ k) (p : PassesHand w u j k xs) (m : ℕ)
    (not_giver : m ≢ j) (not_taker : m ≢ k) where
  views : List View
  views = passed w.views j k xs p.left

  -- the third worker's view stays
  same_view : view_at views m ≡ view_at w.views m
  unfolding views
  same_view =
      get_or-set_other (set w.views j (with_hand (view_at w.views j) p.left)) k m _ (empty_view 0) not_taker
      ∙ get_or-set_other w.views j m _ (empty_view 0) not_giver

  unchanged : Passes j k xs w (record w { views = views })
  unfolding views
  unchanged = record {
    giver = p.giver;
    taker = p.taker;
    left = p.left;
    taken = p.taken;
    unchained = p.unchained;
    after = refl;
  }

  -- the views with these two hands, of which the two views may be read elsewhere
  both : List View → View → View → List View
  both vs giver taker =
      set (set vs j (with_hand giver p.left)) k (with_hand taker (xs ++ taker.hand))

  -- what the third worker writes into its own view may be written before or after
  written_before : (v : View) → set views m v ≡ both (set w.views m v) (view_at w.views j) (view_at w.views k)
  unfolding views both
  written_before v =
      let given = with_hand (view_at w.views j) p.left in
      let got = with_hand (view_at w.views k) (xs ++ (view_at w.views k).hand) in
      set_comm (set w.views j given) k m got v (λ e. not_taker (sym e))
      ∙ ap (λ (vs : List View). set vs k got)
      (set_comm w.views j m given v (λ e. not_giver (sym e)))

  changed : (a : World) (v : View) → a.views ≡ set w.views m v → Passes j k xs a (record a { views = set views m v })
  unfolding both
  changed a v e =
      let as_long : length a.views ≡ length w.views =
      ap (λ (vs : List View). length vs) e ∙ length-set w.views m v in
      let giver_stays : view_at a.views j ≡ view_at w.views j =
      ap (λ (vs : List View). view_at vs j) e
      ∙ get_or-set_other w.views m j v (empty_view 0) (λ h. not_giver (sym h)) in
      let taker_stays : view_at a.views k ≡ view_at w.views k =
      ap (λ (vs : List View). view_at vs k) e
      ∙ get_or-set_other w.views m k v (empty_view 0) (λ h. not_taker (sym h)) in
      let passed_after : set views m v ≡ both a.views (view_at a.views j) (view_at a.views k) =
      written_before v
      ∙ (ap (λ (vs : List View). both vs (view_at w.views j) (view_at w.views k)) (sym e)
      ∙ (ap (λ (x : View). both a.views x (view_at w.views k)) (sym giver_stays)
      ∙ ap (λ (x : View). both a.views (view_at a.views j) x) (sym taker_stays))) in
      record {
        giver = (let here = p.giver in omega arith);
        taker = (let here = p.taker in omega arith);
        left = p.left;
        taken = subst (λ (x : View). IsWithout p.left x.hand xs) (sym giver_stays) p.taken;
        unchained = subst (λ (x : View). AreUnchained x xs) (sym giver_stays) p.unchained;
        after = ap (λ (vs : List View). record a { views = vs }) passed_after;
      }

  turn_same : (s : Step) → SameTurn (Passes j k xs) (turn w m s) (turn (record w { views = views }) m s)
  turn_same s =
      let other : World = record w { views = views } in
      subst
      (λ (test : Bool). SameTurn (Passes j k xs) (turn w m s)
      (if test then row other m (view_at views m) s else None))
      (same_range w views s)
      (subst
      (λ (v : View). SameTurn (Passes j k xs) (turn w m s) (if in_range w s then row other m v s else None))
      (sym same_view)
      (same_turn (Passes j k xs) (in_range w s) (row w m (view_at w.views m) s) None
      (row other m (view_at w.views m) s) None
      (row_same (Passes j k xs) w views m unchanged changed (view_at w.views m) s) tt))

  pub played_same : (s : Step) → SameTurn (Passes j k xs) (played w (suc m) s) (played u (suc m) s)
  unfolding views
  played_same s =
      let other : World = record w { views = views } in
      subst (λ (x : World). SameTurn (Passes j k xs) (played w (suc m) s) (played x (suc m) s)) (sym p.after)
      (subst
      (λ (n : ℕ). SameTurn (Passes j k xs) (played w (suc m) s) (if nat_lt m n then turn other m s else None))
      (sym (length_kept w.views j k xs p.left apart p.giver p.taker p.taken))
      (same_turn (Passes j k xs) (nat_lt m (length w.views)) (turn w m s) None (turn other m s) None
      (turn_same s) tt))

pub others_do_the_same : OthersDoTheSame
others_do_the_same w u j k xs apart p zero s not_giver not_taker = (tt, refl)
others_do_the_same w u j k xs apart p (suc m) s not_giver not_taker =
    same_but j k xs (played w (suc m) s) (played u (suc m) s)
    (played_same w u j k xs apart p m (λ e. not_giver (ap suc e)) (λ e. not_taker (ap suc e)) s)
