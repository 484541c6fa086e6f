-- Every schedule walks.
use Rattle.std.proofs.Common.{◌≡◌, ℕ, suc, ◌+◌, ◌<◌, List, [], ◌∷◌, ◌++◌, Option, Some, None, Err, length, take, drop, get_or, inl, inr, refl, sym, ap, subst, ◌∙◌, arith}
use Rattle.std.specs.Prelude.{MatchOption}
use Rattle.std.proofs.Math.Seq.{drop-cons}
use Rattle.std.proofs.lemmas.List.{take-append-drop, take_more}
use Rattle.commons.specs.declared.refusal.Refusal.{Refusal}
use Rattle.commons.specs.declared.refusal.Refusal.TheVariants.{OutOfMemory, StepRefused}
use Rattle.step_core.specs.World.{World, view_of, view_at}
use Rattle.step_core.specs.Steps.{Step, Outcome, Play, play, played}
use Rattle.step_core.specs.Kept.{IsWorld, Grows, AnswersTo}
use Rattle.step_core.specs.Schedules.{Schedule}
use Rattle.step_core.specs.Runs.{Reaches, EveryScheduleWalks, Stopped}
use Rattle.step_core.proofs.Regroup.{four_of_eight}
use Rattle.step_core.proofs.Shows.{shows, shown_table}
use Rattle.step_core.proofs.Theorem.{play_is, played_row, makes_its_event}
use Rattle.step_core.proofs.Keeping.{play_keeps}

-- a step that is played is a worker's with a part
pub busy_worker : (w : World) (worker : ℕ) (s : Step) (p : Play) → IsWorld w →
    played w worker s ≡ Some p → 0 < (view_of w.views worker).part
busy_worker w worker s p is e =
    let r =
    played_row (λ v k q. 0 < (view_at v.views k).part) w worker s p (λ k n here inside.
    any {P = 0 < (view_at w.views k).part} _ (let a = is.part k here in omega arith)) e in
    subst (λ (n : ℕ). 0 < (view_of w.views n).part) (sym r.1) r.3
  where
    any : {P : Type 0} (o : Option Play) → P → Rattle.std.specs.Prelude.IfSome o (λ q. P)
    any None h = tt
    any (Some q) h = h

pub every_schedule_walks : EveryScheduleWalks
every_schedule_walks w [] [] u is r t a = (is.law, a, r)
every_schedule_walks w (x ∷ rest) (o ∷ os) u is r t a =
    let v = r.0 in
    let p = play_is w x.0 x.1 o v r.1 in
    let kept : IsWorld v = subst IsWorld p.3 (play_keeps w x.0 x.1 p.0 is p.1) in
    let law = (four_of_eight v kept.law).stack in
    let s = shown_table v law in
    let b = shows v law in (
      is.law,
      a,
      (
        v,
        s,
        r.1,
        makes_its_event w x.0 x.1 o v is.law (busy_worker w x.0 x.1 p.0 is p.1) r.1 t s a b,
        every_schedule_walks v rest os u kept r.2 s b,
      ),
    )
every_schedule_walks w [] (o ∷ os) u is r t a = absurd r
every_schedule_walks w (x ∷ rest) [] u is r t a = absurd r

-- one step more
pub reaches_on : (w : World) (front : Schedule) (os : List Outcome) (u : World) (x : ℕ × Step)
    (o : Outcome) (v : World) → Reaches w front os u → play u x.0 x.1 ≡ Some (o, v) →
    Reaches w (front ++ x ∷ []) (os ++ o ∷ []) v
reaches_on w [] [] u x o v r e = (v, subst (λ (y : World). play y x.0 x.1 ≡ Some (o, v)) r e, refl)
reaches_on w (y ∷ rest) (q ∷ os) u x o v r e = (r.0, r.1, reaches_on r.0 rest os u x o v r.2 e)
reaches_on w [] (q ∷ os) u x o v r e = absurd r
reaches_on w (y ∷ rest) [] u x o v r e = absurd r

-- the steps so far with one more
pub reaches_next : (w : World) (steps : Schedule) (i : ℕ) (d : ℕ × Step) (os : List Outcome)
    (u : World) (o : Outcome) (v : World) → i < length steps → Reaches w (take i steps) os u
    → play u (get_or steps i d).0 (get_or steps i d).1 ≡ Some (o, v) → Reaches w (take (i + 1) steps) (os ++ o ∷ []) v
reaches_next w steps i d os u o v l r e =
    subst (λ (front : Schedule). Reaches w front (os ++ o ∷ []) v) (sym (take_more steps i d l))
    (reaches_on w (take i steps) os u (get_or steps i d) o v r e)

pub nothing_reached : (w : World) (steps : Schedule) → Reaches w (take 0 steps) [] w
nothing_reached w steps = refl

-- a run that stops
pub stops_refused : (w : World) (steps : Schedule) (i : ℕ) (d : ℕ × Step) (os : List Outcome)
    (u : World) → IsWorld w → i < length steps → Reaches w (take i steps) os u
    → play u (get_or steps i d).0 (get_or steps i d).1 ≡ None → Stopped w steps StepRefused u
stops_refused w steps i d os u is l r e = record {
  front = take i steps;
  rest = get_or steps i d ∷ drop (suc i) steps;
  outcomes = os;
  parts = sym (take-append-drop i steps) ∙ ap (λ (xs : Schedule). take i steps ++ xs) (drop-cons steps i d l);
  walked = every_schedule_walks w (take i steps) os u is r;
  cause = e;
}

-- nothing was played, for lack of memory
pub stops_first : (w : World) (steps : Schedule) → IsWorld w → Stopped w steps OutOfMemory w
stops_first w steps is = record {
  front = [];
  rest = steps;
  outcomes = [];
  parts = refl;
  walked = every_schedule_walks w [] [] w is refl;
  cause = inl refl;
}

-- the step at this index found no memory for the list that it makes longer
pub stops_without : (w : World) (steps : Schedule) (i : ℕ) (d : ℕ × Step) (os : List Outcome)
    (u : World) → IsWorld w → i < length steps → Reaches w (take i steps) os u
    → MatchOption (play u (get_or steps i d).0 (get_or steps i d).1) ⊥ (λ q. Grows (get_or steps i d).1 q.0)
    → Stopped w steps OutOfMemory u
stops_without w steps i d os u is l r a = record {
  front = take i steps;
  rest = get_or steps i d ∷ drop (suc i) steps;
  outcomes = os;
  parts = sym (take-append-drop i steps) ∙ ap (λ (xs : Schedule). take i steps ++ xs) (drop-cons steps i d l);
  walked = every_schedule_walks w (take i steps) os u is r;
  cause = inr a;
}

-- a refusal of the step at this index
pub stops : (w : World) (steps : Schedule) (i : ℕ) (d : ℕ × Step) (os : List Outcome) (u v : World)
    (refusal : Refusal) → IsWorld w → i < length steps → Reaches w (take i steps) os u
    → AnswersTo (get_or steps i d).1 (play u (get_or steps i d).0 (get_or steps i d).1) u (Err refusal) v
    → Stopped w steps refusal v
stops w steps i d os u v StepRefused is l r a =
    subst (Stopped w steps StepRefused) (sym a.1) (stops_refused w steps i d os u is l r a.0)
stops w steps i d os u v OutOfMemory is l r a =
    subst (Stopped w steps OutOfMemory) (sym a.1)
    (stops_without w steps i d os u is l r a.0)
stops w steps i d os u v _ is l r a = absurd a

-- a run goes on, or stops, by the step that was read
module _ (w : World) (steps : Schedule) (i : ℕ) (x : ℕ × Step) (os : List Outcome) (u : World)
    (is : IsWorld w) (l : i < length steps) (r : Reaches w (take i steps) os u)
    (read : x ≡ get_or steps i x) where
  pub read_next : (o : Outcome) (v : World) → play u x.0 x.1 ≡ Some (o, v) →
      Reaches w (take (i + 1) steps) (os ++ o ∷ []) v
  read_next o v e =
      reaches_next w steps i x os u o v l r
      (subst (λ (y : ℕ × Step). play u y.0 y.1 ≡ Some (o, v)) read e)

  pub read_stops : (v : World) (refusal : Refusal) → AnswersTo x.1 (play u x.0 x.1) u (Err refusal) v →
      Stopped w steps refusal v
  read_stops v refusal a =
      stops w steps i x os u v refusal is l r
      (subst (λ (y : ℕ × Step). AnswersTo y.1 (play u y.0 y.1) u (Err refusal) v) read a)
