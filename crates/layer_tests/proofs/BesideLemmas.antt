-- What the other workers have where nothing is done at a site.
use Rattle.std.proofs.Common.{ℕ, refl, ◌∙◌, subst, ◌≢◌, ◌≤◌}
use Rattle.commons.specs.Beside.{KeepsSides, LeavesOthers}
use Rattle.commons.specs.declared.plain.PlainCommons.{PlainCommons}
use Rattle.commons.specs.Calls.{SameSide}
use Rattle.commons.specs.Lists.{Lists, IsTable, side_of}

-- a table is left as it is
pub KeepsSides-refl : (w : ℕ) (s : Lists) → IsTable s → KeepsSides w s s
KeepsSides-refl w s table = record {
  table = table;
  limits = refl;
  others =
      λ v l e. record { limits = refl; hand = λ i. refl; holds = λ i. refl; headers = λ i. refl };
}

-- nothing was done
pub LeavesOthers-refl : (s : PlainCommons) → LeavesOthers s s
LeavesOthers-refl s = record {
  site = refl;
  worker = refl;
  sides = KeepsSides-refl s.worker s.site.now s.table;
}

-- one thing was done after another
pub KeepsSides-trans : (w : ℕ) (s t u : Lists) → KeepsSides w s t → KeepsSides w t u → KeepsSides w s u
KeepsSides-trans w s t u a b =
    let both : (v : ℕ) → 1 ≤ v → v ≢ w → SameSide (side_of s v) (side_of u v) =
    λ v l e.
    let x = a.others v l e in
    let y = b.others v l e in
    record {
      limits = y.limits ∙ x.limits;
      hand = λ i. y.hand i ∙ x.hand i;
      holds = λ i. y.holds i ∙ x.holds i;
      headers = λ i. y.headers i ∙ x.headers i;
    } in
    record { table = b.table; limits = b.limits ∙ a.limits; others = both }

pub LeavesOthers-trans : (s t u : PlainCommons) → LeavesOthers s t → LeavesOthers t u →
    LeavesOthers s u
LeavesOthers-trans s t u a b = record {
  site = b.site ∙ a.site;
  worker = b.worker ∙ a.worker;
  sides =
      KeepsSides-trans s.worker s.site.now t.site.now u.site.now a.sides
      (subst (λ w. KeepsSides w t.site.now u.site.now) a.worker b.sides);
}

-- what says nothing of the shared pool is such a step
pub ruleset beside = (LeavesOthers-refl, KeepsSides-refl)
