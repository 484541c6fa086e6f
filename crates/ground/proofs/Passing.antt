-- The world while a packet is put into a desk's slot, or taken out of it.
use Rattle.std.proofs.Common.{◌≡◌, ◌≢◌, ℕ, zero, suc, ◌<◌, [], Some, refl, sym, ap, ◌∙◌, subst, arith}
use Rattle.std.specs.Prelude.{IfSome, ◌==◌}
use Rattle.std.proofs.lemmas.Bool.{cond-false, ne_eqb}
use Rattle.step_core.specs.declared.step.Step.TheVariants.{PutIn, TakeOut}
use Rattle.step_core.specs.declared.step.Outcome.{Outcome}
use Rattle.step_core.specs.declared.step.Outcome.TheVariants.{Done, Found}
use Rattle.step_core.specs.declared.view.Desk.{Desk}
use Rattle.step_core.specs.declared.view.Phase.{Phase}
use Rattle.step_core.specs.declared.view.Phase.TheVariants.{ToFill, Filled, Seized, TakenOut}
use Rattle.step_core.specs.declared.view.View.{View}
use Rattle.step_core.specs.Law.{Lawful}
use Rattle.step_core.specs.Steps.{play, put_in, take_out, phase_at, at_desk}
use Rattle.step_core.specs.World.{World, Packet, view_at, view_of, desk_at, shelf}
use Rattle.step_core.proofs.Desks.{word_filling, word_emptying}
use Rattle.step_core.proofs.HeaderWalks.{keeps_headers}
use Rattle.step_core.proofs.Regroup.{four_of_eight}
use Rattle.step_core.proofs.Rows.{given_played}
use Rattle.step_core.proofs.Theorem.{play_is, played_row, makes_its_view, keeps_law}
use Rattle.ground.specs.Held.{PassesLawful}
use Rattle.ground.proofs.Lending.{has_place}

-- a desk that isn't full has no holds
bare : (x : Desk) (n : ℕ) → x.word ≡ n → n ≢ 2 → shelf x ≡ []
bare x n is ne = cond-false (x.word == 2) _ _ (ne_eqb x.word 2 (λ e. ne (sym is ∙ e)))

-- what the steps answer
put_in_answers : (w : World) (worker d : ℕ) (p : Packet) (o : Outcome) (v : World) →
    play w worker (PutIn d p) ≡ Some (o, v) → o ≡ Done
put_in_answers w worker d p o v e =
    let q = play_is w worker (PutIn d p) o v e in
    sym q.2
    ∙ (played_row (λ u k r. r.outcome ≡ Done) w worker (PutIn d p) q.0
    (λ k n here inside.
    given_played (λ r. r.outcome ≡ Done) (phase_at d (view_at w.views k).work) _ (λ ph h. by k ph)) q.1).3
  where
    by : (k : ℕ) (ph : Phase) → IfSome (put_in w k (view_at w.views k) d p ph) (λ r. r.outcome ≡ Done)
    by k ToFill = refl
    by k (Filled r) = tt
    by k (Seized r) = tt
    by k TakenOut = tt

take_out_answers : (w : World) (worker d : ℕ) (o : Outcome) (v : World) →
    play w worker (TakeOut d) ≡ Some (o, v) → (p : Packet) × (o ≡ Found p)
take_out_answers w worker d o v e =
    let q = play_is w worker (TakeOut d) o v e in
    let r =
    (played_row (λ u k r. (p : Packet) × (r.outcome ≡ Found p)) w worker (TakeOut d) q.0
    (λ k n here inside.
    given_played (λ r. (p : Packet) × (r.outcome ≡ Found p)) (phase_at d (view_at w.views k).work) _ (λ ph h. by k ph))
    q.1).3 in
    (r.0, sym q.2 ∙ r.1)
  where
    by : (k : ℕ) (ph : Phase) →
        IfSome (take_out w k (view_at w.views k) d ph) (λ r. (p : Packet) × (r.outcome ≡ Found p))
    by k ToFill = tt
    by k (Filled r) = tt
    by k (Seized r) = (r, refl)
    by k TakenOut = tt

-- the desk of a worker that fills it, or empties it
filling : (v : World) (worker d : ℕ) (p : Packet) → Lawful v → 0 < (view_of v.views worker).part →
    (view_of v.views worker).work ≡ at_desk d (Filled p) → shelf (desk_at v.desks d) ≡ []
filling v zero d p law some e = absurd (omega arith)
filling v (suc k) d p law some e =
    bare (desk_at v.desks d) 1
    (word_filling v k d (has_place v.views k some) (four_of_eight v law) (Filled p) e refl) (λ s. omega arith)

emptying : (v : World) (worker d : ℕ) → Lawful v → 0 < (view_of v.views worker).part →
    (view_of v.views worker).work ≡ at_desk d TakenOut → shelf (desk_at v.desks d) ≡ []
emptying v zero d law some e = absurd (omega arith)
emptying v (suc k) d law some e =
    bare (desk_at v.desks d) 3
    (word_emptying v k d (has_place v.views k some) (four_of_eight v law) TakenOut e refl) (λ s. omega arith)

pub passes_lawful : PassesLawful
passes_lawful w worker d (PutIn e p) o v law headers busy is played_so =
    let done : play w worker (PutIn e p) ≡ Some (Done, v) =
    played_so ∙ ap (λ (x : Outcome). Some (x, v)) (put_in_answers w worker e p o v played_so) in
    let after = keeps_law w worker (PutIn e p) Done v law busy done in
    let view = (makes_its_view w worker (PutIn e p) Done v done).0 in
    let part = ap (λ (x : View). x.part) view in
    let some : 0 < (view_of v.views worker).part = omega arith in (
      after,
      keeps_headers w worker (PutIn e p) Done v law headers busy tt done,
      subst (λ (n : ℕ). shelf (desk_at v.desks n) ≡ []) is
          (filling v worker e p after some (ap (λ (x : View). x.work) view)),
      ap (λ (x : View). x.holds) view,
      ap (λ (x : View). x.headers) view,
    )
passes_lawful w worker d (TakeOut e) o v law headers busy is played_so =
    let found = take_out_answers w worker e o v played_so in
    let done : play w worker (TakeOut e) ≡ Some (Found found.0, v) =
    played_so ∙ ap (λ (x : Outcome). Some (x, v)) found.1 in
    let after = keeps_law w worker (TakeOut e) (Found found.0) v law busy done in
    let view = (makes_its_view w worker (TakeOut e) (Found found.0) v done).0 in
    let part = ap (λ (x : View). x.part) view in
    let some : 0 < (view_of v.views worker).part = omega arith in (
      after,
      keeps_headers w worker (TakeOut e) (Found found.0) v law headers busy tt done,
      subst (λ (n : ℕ). shelf (desk_at v.desks n) ≡ []) is
          (emptying v worker e after some (ap (λ (x : View). x.work) view)),
      ap (λ (x : View). x.holds) view,
      ap (λ (x : View). x.headers) view,
    )
passes_lawful w worker d _ o v law headers busy is played_so = absurd is
