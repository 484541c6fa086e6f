-- Every step that is played keeps the laws.
use Rattle.std.proofs.Common.{◌≡◌, ℕ, ◌-◌, ◌<◌, ◌≤◌, Bool, true, List, [], ◌∷◌, ◌++◌, Option, Some, None, length, set, refl, is_none}
use Rattle.std.specs.Prelude.{slice_index, ◌==◌, ◌&&◌, IfSome}
use Rattle.std.proofs.lemmas.Bool.{cond_both, eqb-true, eqb-false, ltb-true, leb-true, and_parts}
use Rattle.commons.specs.Bag.{bag}
use Rattle.step_core.specs.Bags.{without, still_held}
use Rattle.step_core.specs.Links.{link_value}
use Rattle.step_core.specs.World.{Head, Look, Chain, Phase, ToFill, Filled, Seized, TakenOut, Packet, View, World, view_at, desk_at}
use Rattle.step_core.specs.Steps.{Step, LoadLength, Reserve, Add, LoadHead, LoadLink, Cut, StoreLink, Push, Claim, Sole, Raise, Lower, Reset, Hold, PutIn, Open, Seize, TakeOut, Clear, Play, when, given, row, reserve, cut, push, sole, raise, lower, hold, put_in, open_desk, open_with, seize, seize_with, take_out, clear, load_link, same_head, in_range, phase_at}
use Rattle.step_core.proofs.Rules.{StackLaw, FourLaws}
use Rattle.step_core.proofs.Bags.{includes_true}
use Rattle.step_core.proofs.Frame.{moved, stepped, counts_kept, desks_kept, slots_kept}
use Rattle.step_core.proofs.StackSteps.{reserve_won, add_done, load_head_done, load_link_done, look_ends, cut_won, push_won}
use Rattle.step_core.proofs.Storing.{store_done}
use Rattle.step_core.proofs.Counts.{CountStep, stack_held, counts_held, claim_step, sole_step, raise_step, lower_last, lower_still, reset_step}
use Rattle.step_core.proofs.Desks.{hold_won, put_in_done, open_done, seize_won, take_out_done, clear_done, phase_there}

-- what is shown of a play, where the step is played at all
pub when_played : (P : Play → Type 0) (test : Bool) (p : Play) → (test ≡ true → P p) → IfSome (when test p) P
when_played P test p f = cond_both test (Some p) None (λ o. IfSome o P) f (λ e. tt)

pub given_played : {A : Type 0} (P : Play → Type 0) (o : Option A) (f : A → Option Play) →
    ((x : A) → o ≡ Some x → IfSome (f x) P) → IfSome (given o f) P
given_played P None f h = tt
given_played P (Some x) f h = h x refl

pub none_there : {A : Type 0} (o : Option A) → is_none o ≡ true → o ≡ None
none_there None e = refl
none_there (Some x) e = absurd (cc)

pub heads : (a b : Head) → same_head a b ≡ true → (a.top ≡ b.top) × (a.count ≡ b.count)
heads a b e = let both = and_parts _ _ e in (eqb-true _ _ both.0, eqb-true _ _ both.1)

abbrev After : Play → Type 0
After p = FourLaws p.after

module _ (w : World) (k : ℕ) (law : FourLaws w) (here : k < length w.views) (busy : 0 < (view_at w.views k).part) where
  -- a stack step keeps the other rules unopened
  pub of_stack : (h : Head) (n : ℕ) (ls : List ℕ) (u : View) → u.zeros ≡ (view_at w.views k).zeros →
      u.holds ≡ (view_at w.views k).holds → u.part ≡ (view_at w.views k).part →
      u.work ≡ (view_at w.views k).work → StackLaw (stepped w k h n ls u) →
      FourLaws (stepped w k h n ls u)
  of_stack h n ls u zeros holds part work stack = record {
    stack = stack;
    counts = counts_kept w k h n ls u here zeros holds part law.counts;
    desks = desks_kept w k h n ls w.counts u here work part law.desks;
    slots = slots_kept w k h n ls w.counts u here work law.slots;
  }

  -- a count step keeps the desks' rule unopened
  pub of_count : (cs : List ℕ) (u : View) → u.work ≡ (view_at w.views k).work → CountStep w k cs u →
      FourLaws (moved w k w.head w.length w.links cs u)
  of_count cs u work c = record {
    stack = stack_held w k here busy law.stack law.counts cs u c;
    counts = counts_held w k here busy law.stack law.counts cs u c;
    desks = desks_kept w k w.head w.length w.links cs u here work c.part law.desks;
    slots = slots_kept w k w.head w.length w.links cs u here work law.slots;
  }

  reserves : (old n : ℕ) → n ≤ old → After (reserve w k (view_at w.views k) old n)
  reserves old n le =
      cond_both (w.length == old) _ _ After (λ e.
      of_stack _ _ _ _ refl refl refl refl
      (reserve_won w k law.stack here busy old n le (eqb-true _ _ e))) (λ e. law)

  -- an exchange of the head that wins, and one that loses
  cuts : (l : Look) → (view_at w.views k).look ≡ Some l →
      length l.front ≤ (view_at w.views k).credit → After (cut w k (view_at w.views k) l)
  cuts l e room = cond_both (same_head w.head l.head) _ _ After
      (λ s. let both =
      heads w.head l.head s in of_stack _ _ _ _ refl refl refl refl
      (cut_won w k law.stack here busy l e room both.0 both.1))
      (λ s.
      of_stack _ _ _ _ refl refl refl refl (look_ends w k law.stack here busy
      (view_at w.views k).chain (law.stack.views k).chain))

  pushes : (l : Look) (c : Chain) → (view_at w.views k).look ≡ Some l →
      (view_at w.views k).chain ≡ Some c → c.end ≡ l.head.top →
      After (push w k (view_at w.views k) l c)
  pushes l c e f ends = cond_both (same_head w.head l.head) _ _ After
      (λ s. let both =
      heads w.head l.head s in of_stack _ _ _ _ refl refl refl refl
      (push_won w k law.stack here busy l c e f ends both.0 both.1))
      (λ s. of_stack _ _ _ _ refl refl refl refl (look_ends w k law.stack here busy None tt))

  soles : (i : ℕ) (free : Bool) → 0 < bag (view_at w.views k).holds i → After (sole w k (view_at w.views k) i free)
  soles i free h = cond_both (free && (slice_index w.counts i == 1)) _ _ After
      (λ e.
      of_count w.counts _ refl
      (sole_step w k here busy law.stack law.counts i _ h (eqb-true _ _ (and_parts _ _ e).1)))
      (λ e. law)

  raises : (i old : ℕ) → 0 < bag (view_at w.views k).holds i → old < w.limits.ref_limit →
      After (raise w k (view_at w.views k) i old)
  raises i old h room = cond_both (slice_index w.counts i == old) _ _ After
      (λ e. of_count _ _ refl (raise_step w k here busy law.stack law.counts i old h room (eqb-true _ _ e)))
      (λ e. law)

  lowers : (i : ℕ) → 0 < bag (view_at w.views k).holds i → After (lower w k (view_at w.views k) i)
  lowers i h = cond_both (slice_index w.counts i == 1) ((view_at w.views k).zeros ++ i ∷ []) (view_at w.views k).zeros
      (λ z.
      FourLaws (moved w k w.head w.length w.links
      (set w.counts i (slice_index w.counts i - 1)) (record (view_at w.views k) {
        holds = without i (view_at w.views k).holds;
        headers = still_held (view_at w.views k).headers (without i (view_at w.views k).holds);
        zeros = z;
      })))
      (λ e. of_count _ _ refl (lower_last w k here busy law.stack law.counts i _ h (eqb-true _ _ e)))
      (λ e. of_count _ _ refl (lower_still w k here busy law.stack law.counts i _ h (eqb-false _ _ e)))

  holds_desk : (d : ℕ) → d < length w.desks → (view_at w.views k).work ≡ None → After (hold w k (view_at w.views k) d)
  holds_desk d inside idle =
      cond_both ((desk_at w.desks d).word == 0) _ _ After
      (λ e. hold_won w k d here law busy idle inside (eqb-true _ _ e)) (λ e. law)

  puts_in : (d : ℕ) (p : Packet) (ph : Phase) → phase_at d (view_at w.views k).work ≡ Some ph →
      IfSome (put_in w k (view_at w.views k) d p ph) After
  puts_in d p ToFill e = put_in_done w k d here law busy p (phase_there d (view_at w.views k).work ToFill e)
  puts_in d p (Filled q) e = tt
  puts_in d p (Seized q) e = tt
  puts_in d p TakenOut e = tt

  opens : (d : ℕ) (ph : Phase) → phase_at d (view_at w.views k).work ≡ Some ph →
      IfSome (open_desk w k (view_at w.views k) d ph) After
  opens d ToFill e = tt
  opens d (Filled p) e = when_played After _ (open_with w k (view_at w.views k) d p)
      (λ t. open_done w k d here law busy p _ (phase_there d (view_at w.views k).work (Filled p) e) (includes_true _ _ t))
  opens d (Seized p) e = tt
  opens d TakenOut e = tt

  seizes : (d : ℕ) → d < length w.desks → (view_at w.views k).work ≡ None →
      IfSome (seize w k (view_at w.views k) d) After
  seizes d inside idle =
      cond_both ((desk_at w.desks d).word == 2)
      (given (desk_at w.desks d).slot (λ p. Some (seize_with w k (view_at w.views k) d p))) _
      (λ o. IfSome o After)
      (λ e.
      given_played After (desk_at w.desks d).slot _
      (λ p s. seize_won w k d here law busy p _ idle inside (eqb-true _ _ e) s))
      (λ e. law)

  takes_out : (d : ℕ) (ph : Phase) → phase_at d (view_at w.views k).work ≡ Some ph →
      IfSome (take_out w k (view_at w.views k) d ph) After
  takes_out d ToFill e = tt
  takes_out d (Filled p) e = tt
  takes_out d (Seized p) e = take_out_done w k d here law busy p (phase_there d (view_at w.views k).work (Seized p) e)
  takes_out d TakenOut e = tt

  clears : (d : ℕ) (ph : Phase) → phase_at d (view_at w.views k).work ≡ Some ph →
      IfSome (clear w k (view_at w.views k) d ph) After
  clears d ToFill e = tt
  clears d (Filled p) e = tt
  clears d (Seized p) e = tt
  clears d TakenOut e = clear_done w k d here law busy (phase_there d (view_at w.views k).work TakenOut e)

  pub row_lawful : (s : Step) → in_range w s ≡ true → IfSome (row w k (view_at w.views k) s) After
  row_lawful LoadLength r = law
  row_lawful (Reserve old n) r = when_played After _ _ (λ t. reserves old n (leb-true _ _ (and_parts _ _ t).1))
  row_lawful (Add n) r =
      when_played After _ _ (λ t.
      of_stack _ _ _ _ refl refl refl refl
      (add_done w k law.stack here busy n (leb-true _ _ (and_parts _ _ t).1)))
  row_lawful LoadHead r = of_stack _ _ _ _ refl refl refl refl (load_head_done w k law.stack here busy)
  row_lawful (LoadLink i) r =
      given_played After (view_at w.views k).look _ (λ l e.
      when_played After _ (load_link w k (view_at w.views k) i l) (λ t.
      of_stack _ _ _ _ refl refl refl refl
      (load_link_done w k law.stack here busy i l e (eqb-true _ _ t))))
  row_lawful Cut r =
      given_played After (view_at w.views k).look _ (λ l e.
      when_played After _ (cut w k (view_at w.views k) l)
      (λ t. cuts l e (leb-true _ _ (and_parts _ _ (and_parts _ _ t).1).0)))
  row_lawful (StoreLink i j) r =
      when_played After _ _ (λ t.
      of_stack _ _ _ _ refl refl refl refl (store_done w k law.stack here busy i (link_value j)
      (leb-true _ _ (and_parts _ _ r).1) (ltb-true _ _ t)))
  row_lawful Push r =
      given_played After (view_at w.views k).look _ (λ l e.
      given_played After (view_at w.views k).chain _ (λ c f.
      when_played After _ (push w k (view_at w.views k) l c)
      (λ t. pushes l c e f (eqb-true _ _ (and_parts _ _ t).0))))
  row_lawful (Claim i) r =
      when_played After _ _ (λ t.
      of_count w.counts _ refl
      (claim_step w k here busy law.stack law.counts i _ (ltb-true _ _ t)))
  row_lawful (Sole i free) r = when_played After _ _ (λ t. soles i free (ltb-true _ _ t))
  row_lawful (Raise i old) r =
      when_played After _ _ (λ t. let both =
      and_parts _ _ t in raises i old (ltb-true _ _ both.0) (ltb-true _ _ both.1))
  row_lawful (Lower i) r = when_played After _ _ (λ t. lowers i (ltb-true _ _ t))
  row_lawful (Reset i) r =
      when_played After _ _
      (λ t. of_count _ _ refl (reset_step w k here busy law.stack law.counts i (ltb-true _ _ t)))
  row_lawful (Hold d) r = when_played After _ _ (λ t. holds_desk d (ltb-true _ _ r) (none_there _ t))
  row_lawful (PutIn d p) r = given_played After (phase_at d (view_at w.views k).work) _ (puts_in d p)
  row_lawful (Open d) r = given_played After (phase_at d (view_at w.views k).work) _ (opens d)
  row_lawful (Seize d) r =
      cond_both (is_none (view_at w.views k).work) (seize w k (view_at w.views k) d) None
      (λ o. IfSome o After) (λ t. seizes d (ltb-true _ _ r) (none_there _ t)) (λ t. tt)
  row_lawful (TakeOut d) r = given_played After (phase_at d (view_at w.views k).work) _ (takes_out d)
  row_lawful (Clear d) r = given_played After (phase_at d (view_at w.views k).work) _ (clears d)
