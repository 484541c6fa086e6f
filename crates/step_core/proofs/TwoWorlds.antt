-- A step of a worker at two worlds that differ in other workers' views: it reads none of them.
use Rattle.std.proofs.Common.{◌≡◌, ℕ, Bool, true, false, List, Option, Some, None, set, refl, is_none}
use Rattle.std.specs.Prelude.{slice_index, ◌==◌, ◌&&◌, if◌then◌else◌, ⊤}
use Rattle.step_core.specs.declared.step.Step.{Step}
use Rattle.step_core.specs.declared.step.Step.TheVariants.{LoadLength, Reserve, Add, LoadHead, LoadLink, Cut, StoreLink, Push, Claim, Sole, Raise, Lower, Reset, Hold, PutIn, Open, Seize, TakeOut, Clear}
use Rattle.step_core.specs.declared.view.Phase.{Phase}
use Rattle.step_core.specs.declared.view.Phase.TheVariants.{ToFill, Filled, Seized, TakenOut}
use Rattle.step_core.specs.declared.view.View.{View}
use Rattle.step_core.specs.Views.{phase_at}
use Rattle.step_core.specs.Steps.{Play, when, given, same_head, in_range, row, put_in, open_desk, seize, take_out, clear}
use Rattle.step_core.specs.World.{World, Packet, desk_at}

-- one outcome, one event, and worlds of this relation afterwards
abbrev pub SamePlay : (World → World → Type 0) → Play → Play → Type 0
SamePlay R p q = (p.outcome ≡ q.outcome) × (p.event ≡ q.event) × R p.after q.after

-- both are refused, or both are played so
abbrev pub SameTurn : (World → World → Type 0) → Option Play → Option Play → Type 0
SameTurn R None None = ⊤
SameTurn R None (Some q) = ⊥
SameTurn R (Some p) None = ⊥
SameTurn R (Some p) (Some q) = SamePlay R p q

module _ (R : World → World → Type 0) where
  same_when : (test : Bool) (p q : Play) → SamePlay R p q → SameTurn R (when test p) (when test q)
  same_when true p q same = same
  same_when false p q same = tt

  same_given : {A : Type 0} (o : Option A) (f g : A → Option Play) →
      ((x : A) → SameTurn R (f x) (g x)) → SameTurn R (given o f) (given o g)
  same_given None f g same = tt
  same_given (Some x) f g same = same x

  same_play : (test : Bool) (p q a b : Play) → SamePlay R p a → SamePlay R q b →
      SamePlay R (if test then p else q) (if test then a else b)
  same_play true p q a b held failed = held
  same_play false p q a b held failed = failed

  pub same_turn : (test : Bool) (p q a b : Option Play) → SameTurn R p a → SameTurn R q b →
      SameTurn R (if test then p else q) (if test then a else b)
  same_turn true p q a b held failed = held
  same_turn false p q a b held failed = failed

-- what a step names is of the pool, whatever the views are
pub same_range : (w : World) (views : List View) (s : Step) →
    in_range w s ≡ in_range (record w { views = views }) s
same_range w views LoadLength = refl
same_range w views (Reserve old n) = refl
same_range w views (Add n) = refl
same_range w views LoadHead = refl
same_range w views (LoadLink i) = refl
same_range w views Cut = refl
same_range w views (StoreLink i j) = refl
same_range w views Push = refl
same_range w views (Claim i) = refl
same_range w views (Sole i free) = refl
same_range w views (Raise i old) = refl
same_range w views (Lower i) = refl
same_range w views (Reset i) = refl
same_range w views (Hold d) = refl
same_range w views (PutIn d p) = refl
same_range w views (Open d) = refl
same_range w views (Seize d) = refl
same_range w views (TakeOut d) = refl
same_range w views (Clear d) = refl

module _ (R : World → World → Type 0) (w : World) (views : List View) (m : ℕ)
    (unchanged : R w (record w { views = views }))
    (changed : (a : World) (v : View) → a.views ≡ set w.views m v → R a (record a { views = set views m v }))
    (v : View) where
  -- the other world
  u : World
  u = record w { views = views }

  put_in_same : (d : ℕ) (p : Packet) (ph : Phase) → SameTurn R (put_in w m v d p ph) (put_in u m v d p ph)
  unfolding u
  put_in_same d p ToFill = (refl, refl, changed _ _ refl)
  put_in_same d p (Filled q) = tt
  put_in_same d p (Seized q) = tt
  put_in_same d p TakenOut = tt

  open_same : (d : ℕ) (ph : Phase) → SameTurn R (open_desk w m v d ph) (open_desk u m v d ph)
  unfolding u
  open_same d ToFill = tt
  open_same d (Filled p) = same_when R _ _ _ (refl, refl, changed _ _ refl)
  open_same d (Seized p) = tt
  open_same d TakenOut = tt

  seize_same : (d : ℕ) → SameTurn R (seize w m v d) (seize u m v d)
  unfolding u
  seize_same d =
      same_turn R ((desk_at w.desks d).word == 2) _ _ _ _
      (same_given R (desk_at w.desks d).slot _ _ (λ p. (refl, refl, changed _ _ refl)))
      (refl, refl, unchanged)

  take_out_same : (d : ℕ) (ph : Phase) → SameTurn R (take_out w m v d ph) (take_out u m v d ph)
  unfolding u
  take_out_same d ToFill = tt
  take_out_same d (Filled p) = tt
  take_out_same d (Seized p) = (refl, refl, changed _ _ refl)
  take_out_same d TakenOut = tt

  clear_same : (d : ℕ) (ph : Phase) → SameTurn R (clear w m v d ph) (clear u m v d ph)
  unfolding u
  clear_same d ToFill = tt
  clear_same d (Filled p) = tt
  clear_same d (Seized p) = tt
  clear_same d TakenOut = (refl, refl, changed _ _ refl)

  pub row_same : (s : Step) → SameTurn R (row w m v s) (row (record w { views = views }) m v s)
  unfolding u
  row_same LoadLength = (refl, refl, unchanged)
  row_same (Reserve old n) =
      same_when R _ _ _
      (same_play R (w.length == old) _ _ _ _ (refl, refl, changed _ _ refl) (refl, refl, unchanged))
  row_same (Add n) = same_when R _ _ _ (refl, refl, changed _ _ refl)
  row_same LoadHead = (refl, refl, changed _ _ refl)
  row_same (LoadLink i) =
      same_given R v.look _ _ (λ l. same_when R _ _ _ (refl, refl, changed _ _ refl))
  row_same Cut =
      same_given R v.look _ _ (λ l. same_when R _ _ _
      (same_play R (same_head w.head l.head) _ _ _ _ (refl, refl, changed _ _ refl)
      (refl, refl, changed _ _ refl)))
  row_same (StoreLink i j) = same_when R _ _ _ (refl, refl, changed _ _ refl)
  row_same Push =
      same_given R v.look _ _ (λ l. same_given R v.chain _ _ (λ c. same_when R _ _ _
      (same_play R (same_head w.head l.head) _ _ _ _ (refl, refl, changed _ _ refl)
      (refl, refl, changed _ _ refl))))
  row_same (Claim i) = same_when R _ _ _ (refl, refl, changed _ _ refl)
  row_same (Sole i free) =
      same_when R _ _ _
      (same_play R (free && (slice_index w.counts i == 1)) _ _ _ _ (refl, refl, changed _ _ refl)
      (refl, refl, unchanged))
  row_same (Raise i old) =
      same_when R _ _ _
      (same_play R (slice_index w.counts i == old) _ _ _ _ (refl, refl, changed _ _ refl)
      (refl, refl, unchanged))
  row_same (Lower i) = same_when R _ _ _ (refl, refl, changed _ _ refl)
  row_same (Reset i) = same_when R _ _ _ (refl, refl, changed _ _ refl)
  row_same (Hold d) =
      same_when R _ _ _
      (same_play R ((desk_at w.desks d).word == 0) _ _ _ _ (refl, refl, changed _ _ refl)
      (refl, refl, unchanged))
  row_same (PutIn d p) = same_given R (phase_at d v.work) _ _ (put_in_same d p)
  row_same (Open d) = same_given R (phase_at d v.work) _ _ (open_same d)
  row_same (Seize d) =
      same_turn R (is_none v.work) (seize w m v d) None (seize (record w { views = views }) m v d)
      None (seize_same d) tt
  row_same (TakeOut d) = same_given R (phase_at d v.work) _ _ (take_out_same d)
  row_same (Clear d) = same_given R (phase_at d v.work) _ _ (clear_same d)
