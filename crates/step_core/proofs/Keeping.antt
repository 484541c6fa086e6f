-- A step keeps what the type of a world keeps.
use Rattle.std.proofs.Common.{◌≡◌, ℕ, zero, suc, ◌-◌, ◌<◌, ◌≤◌, Bool, Option, Some, None, Result, Ok, Err, length, refl, sym, ap, subst, ◌∙◌, arith, ⊎_elim}
use Rattle.std.specs.Prelude.{MatchOption, if◌then◌else◌}
use Rattle.std.proofs.lemmas.Bool.{cases_eq, lt-ltb}
use Rattle.std.proofs.lemmas.List.{length-set, length-replicate, get_or-replicate}
use Rattle.commons.specs.Bounds.{IsPool}
use Rattle.commons.specs.declared.refusal.Refusal.{Refusal}
use Rattle.commons.specs.declared.refusal.Refusal.TheVariants.{OutOfMemory, StepRefused}
use Rattle.step_core.specs.World.{World, Limits, View, view_at, empty_view, worker_part}
use Rattle.step_core.specs.Steps.{Step, Outcome, Play, turn, played}
use Rattle.step_core.specs.Opening.{opening}
use Rattle.step_core.specs.Changes.{OneWord, Neither, HeadWord, LengthWord, LinkWord, CountWord, DeskWord, Slot, ChangesOne}
use Rattle.step_core.specs.Kept.{IsWorld, Answers}
use Rattle.step_core.proofs.Rules.{FourLaws}
use Rattle.step_core.proofs.Regroup.{four_of_eight, eight_of_four}
use Rattle.step_core.proofs.Rows.{row_lawful}
use Rattle.step_core.proofs.RowChanges.{ChangesIn, row_changes}
use Rattle.step_core.proofs.OpeningLaw.{opening_lawful}
use Rattle.step_core.proofs.Theorem.{played_row, same_population}

same_desks : (w u : World) → OneWord w u → length u.desks ≡ length w.desks
same_desks w u (Neither e) = ap (λ (v : World). length v.desks) e
same_desks w u (HeadWord e) = ap (λ (v : World). length v.desks) e
same_desks w u (LengthWord e) = ap (λ (v : World). length v.desks) e
same_desks w u (LinkWord i j e) = ap (λ (v : World). length v.desks) e
same_desks w u (CountWord i n e) = ap (λ (v : World). length v.desks) e
same_desks w u (DeskWord d n e) = ap (λ (v : World). length v.desks) e ∙ length-set w.desks d _
same_desks w u (Slot d o e) = ap (λ (v : World). length v.desks) e ∙ length-set w.desks d _

pub play_keeps : (w : World) (worker : ℕ) (s : Step) (p : Play) → IsWorld w →
    played w worker s ≡ Some p → IsWorld p.after
play_keeps w worker s p is e =
    let changes = played_row ChangesIn w worker s p (λ k n here inside. row_changes w k here s) e in
    let laws =
    played_row (λ v k q. FourLaws q.after) w worker s p (λ k n here inside.
    row_lawful w k (four_of_eight w is.law) here (let a = is.part k here in omega arith) s
    inside) e in
    let one : ChangesOne (suc changes.0) w p.after = changes.3.0 in
    let limits = same_population w p.after (suc changes.0) one in
    record {
      pool = subst IsPool (sym limits) is.pool;
      views = one.views ∙ (is.views ∙ ap (λ (l : Limits). l.workers) (sym limits));
      part = λ j l. part changes.0 one j (let a = one.views in omega arith);
      desks = same_desks w p.after one.word ∙ (is.desks ∙ ap (λ (l : Limits). l.desks) (sym limits));
      count = changes.3.1 is.count;
      law = eight_of_four p.after laws.3;
    }
  where
    part : (k : ℕ) → ChangesOne (suc k) w p.after → (j : ℕ) → j < length w.views → (view_at p.after.views j).part ≡ worker_part
    part k one j l = ⊎_elim
        (λ (e : j ≡ k). ap (λ (i : ℕ). (view_at p.after.views i).part) e
        ∙ (one.part ∙ (ap (λ (i : ℕ). (view_at w.views i).part) (sym e) ∙ is.part j l)))
        (λ (n : j ≡ k → ⊥). ap (λ (v : View). v.part)
        (one.others (suc j) (λ h. n (let g : j ≡ k = omega arith in g))) ∙ is.part j l)
        (cases_eq j k)

pub opening_keeps : (l : Limits) → IsPool l → IsWorld (opening l)
opening_keeps l is = record {
  pool = is;
  views = length-replicate l.workers (empty_view worker_part);
  part =
      λ k h.
      ap (λ (v : View). v.part) (get_or-replicate l.workers k (empty_view worker_part) (empty_view 0)
      (let e = length-replicate l.workers (empty_view worker_part) in omega arith));
  desks = length-replicate l.desks _;
  count = is.start;
  law = eight_of_four (opening l) (opening_lawful l is.refs_low);
}

-- the step of a worker is that of the view before its number
pub played_turn : (w : World) (worker : ℕ) (s : Step) → 0 < worker → worker ≤ length w.views →
    played w worker s ≡ turn w (worker - 1) s
played_turn w zero s some all = absurd (omega arith)
played_turn w (suc k) s some all =
    let same : suc k - 1 ≡ k = omega arith in
    ap (λ (b : Bool). if b then turn w k s else None) (lt-ltb k (length w.views) (omega arith))
    ∙ ap (λ (n : ℕ). turn w n s) (sym same)

-- whatever a step answers
pub answers_keep : (w u : World) (worker : ℕ) (s : Step) (r : Result Outcome Refusal) → IsWorld w →
    Answers s (played w worker s) w r u → IsWorld u
answers_keep w u worker s (Ok o) is a = played_keep (played w worker s) refl a
  where
    played_keep : (q : Option Play) → played w worker s ≡ q →
        MatchOption q ⊥ (λ p. (o ≡ p.outcome) × (u ≡ p.after)) → IsWorld u
    played_keep None e h = absurd h
    played_keep (Some p) e h = subst IsWorld (sym h.1) (play_keeps w worker s p is e)
answers_keep w u worker s (Err StepRefused) is a = subst IsWorld (sym a.1) is
answers_keep w u worker s (Err OutOfMemory) is a = subst IsWorld (sym a.1) is
answers_keep w u worker s (Err _) is a = absurd a
