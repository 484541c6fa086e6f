-- Every schedule that opens nothing but what its workers own keeps the law of headers.
use Rattle.std.proofs.Common.{◌≡◌, ℕ, zero, suc, ◌<◌, [], ◌∷◌, Some, replicate, refl, sym, ap, subst, ◌∙◌, arith}
use Rattle.std.specs.Prelude.{sum_by}
use Rattle.std.proofs.lemmas.List.Sums.{sum_by-cons}
use Rattle.commons.specs.Bag.{bag}
use Rattle.step_core.specs.World.{World, View, Desk, view_at, view_of, empty_view, no_desk, worker_part}
use Rattle.step_core.specs.Steps.{Step, Play, played}
use Rattle.step_core.specs.Kept.{IsWorld}
use Rattle.step_core.specs.Headline.{after_of}
use Rattle.step_core.specs.Law.{Lawful}
use Rattle.step_core.specs.Headers.{own_shelf, HeaderLaw, OpensOwn, AllOpenOwn, OpensWithHeaders, KeepsHeaders, SchedulesKeepHeaders}
use Rattle.step_core.proofs.Regroup.{four_of_eight}
use Rattle.step_core.proofs.Bags.{times-nil}
use Rattle.step_core.proofs.Theorem.{play_is, played_row}
use Rattle.step_core.proofs.Keeping.{play_keeps}
use Rattle.step_core.proofs.Walking.{busy_worker}
use Rattle.step_core.proofs.HeaderSteps.{row_headed}

-- a step that is played, by a worker with a part
played_headed : (w : World) (worker : ℕ) (s : Step) (p : Play) → Lawful w → HeaderLaw w →
    0 < (view_of w.views worker).part → OpensOwn (view_of w.views worker) s →
    played w worker s ≡ Some p → HeaderLaw p.after
played_headed w worker s p law headers busy own e =
    (played_row (λ v k q. HeaderLaw q.after) w worker s p (λ k is here inside.
    row_headed w k (four_of_eight w law) here
    (subst (λ (n : ℕ). 0 < (view_of w.views n).part) is busy) headers s inside
    (subst (λ (n : ℕ). OpensOwn (view_of w.views n) s) is own)) e).3

pub keeps_headers : KeepsHeaders
keeps_headers w worker s o u law headers busy own e =
    let p = play_is w worker s o u e in
    subst HeaderLaw p.3 (played_headed w worker s p.0 law headers busy own p.1)

pub schedules_keep_headers : SchedulesKeepHeaders
schedules_keep_headers w [] [] u is headers own r = subst HeaderLaw (sym r) headers
schedules_keep_headers w (x ∷ rest) (o ∷ os) u is headers own r =
    let v = r.0 in
    let p = play_is w x.0 x.1 o v r.1 in
    let kept : IsWorld v = subst IsWorld p.3 (play_keeps w x.0 x.1 p.0 is p.1) in
    let busy = busy_worker w x.0 x.1 p.0 is p.1 in
    let after : after_of w (played w x.0 x.1) ≡ v = ap (after_of w) p.1 ∙ p.3 in
    schedules_keep_headers v rest os u kept
    (keeps_headers w x.0 x.1 o v is.law headers busy own.0 r.1)
    (subst (λ (y : World). AllOpenOwn y rest) after own.1) r.2
schedules_keep_headers w [] (o ∷ os) u is headers own r = absurd r
schedules_keep_headers w (x ∷ rest) [] u is headers own r = absurd r

-- no header in views that name nothing, and nothing on desks that are empty
no_headers : (n i : ℕ) → sum_by (λ (v : View). bag v.headers i) (replicate n (empty_view worker_part)) ≡ 0
no_headers zero i = refl
no_headers (suc n) i =
    omega (
      arith,
      sum_by-cons (λ (v : View). bag v.headers i) (empty_view worker_part) (replicate n (empty_view worker_part)),
      no_headers n i,
      times-nil i,
    )

no_own : (n i : ℕ) → sum_by (λ (d : Desk). bag (own_shelf d) i) (replicate n no_desk) ≡ 0
no_own zero i = refl
no_own (suc n) i =
    omega (
      arith,
      sum_by-cons (λ (d : Desk). bag (own_shelf d) i) no_desk (replicate n no_desk),
      no_own n i,
      times-nil i,
    )

none_at : (n k i : ℕ) → bag (view_at (replicate n (empty_view worker_part)) k).headers i ≡ 0
none_at zero k i = times-nil i
none_at (suc n) zero i = times-nil i
none_at (suc n) (suc k) i = none_at n k i

pub opens_with_headers : OpensWithHeaders
opens_with_headers l = record {
  once = λ i. let a = no_headers l.workers i in let b = no_own l.desks i in omega arith;
  held = λ k i h. absurd (let a = none_at l.workers k i in omega arith);
}
