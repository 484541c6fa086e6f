-- What the worker of a handle did, as a contract of its export says it.
use Rattle.std.proofs.Common.{◌≡◌, ℕ, Option, Some, [], ◌∷◌, Result, Ok, Err, refl, subst, sym, ◌∙◌}
use Rattle.depot.specs.declared.cause.Cause.{Cause}
use Rattle.depot.specs.Seats.{Site}
use Rattle.guard.specs.declared.refusal.NotPut.{NotPut}
use Rattle.guard.specs.declared.worker.GuardWorker.{GuardWorker}
use Rattle.guard.specs.Guards.{Later, Since, Still, resting_of, view_of}
use Rattle.guard.proofs.Since.{gets-after, not-put-on, puts-it-after, refused-on, since-on, still-on}
use Rattle.mbufpool_c.specs.Guarded.{Does, GetsOneGuard, GotOne, Guarded, PutOne, PutsOneGuard, SameGuard}

-- the handle had this worker, which did it
pub does : (did : Guarded → ℕ → Guarded → Type 0) (old : Option Guarded) (s t : Guarded) (status : ℕ) →
    old ≡ Some s → SameGuard s t → Since s.worker t.worker → did s status t → Does did old status (Some t)
does did old s t status there same since done =
    subst (λ (v : Option Guarded). Does did v status (Some t)) (sym there) (t, refl, same, since, done)

-- which had done nothing before
pub does-after : (did : Guarded → ℕ → Guarded → Type 0) (old new : Option Guarded) (s t : Guarded) (status : ℕ) →
    old ≡ Some s → SameGuard s t → Since s.worker t.worker → ((u : Guarded) → did t status u → did s status u) →
    Does did (Some t) status new → Does did old status new
does-after did old new s t status there same since on (u, is, again, more, done) =
    subst (λ (v : Option Guarded). Does did v status new) (sym there)
    (u, is, (again.0 ∙ same.0, again.1 ∙ same.1), since-on _ _ _ since more, on u done)

got-after : (g : Site) (e : ℕ) (answer : Result (Unit {0}) Cause) (a b c : GuardWorker) →
    Still (resting_of a) (resting_of b) → Later (view_of a) (view_of b) → GotOne g e answer b c → GotOne g e answer a c
got-after g e (Ok _) a b c still later got = (got.0, gets-after (e ∷ []) _ _ _ still got.1)
got-after g e (Err cause) a b c still later got = (still-on _ _ _ still got.0, refused-on _ _ _ _ _ later got.1)

put-after : (g : Site) (e : ℕ) (answer : Result (Unit {0}) NotPut) (a b c : GuardWorker) →
    Still (resting_of a) (resting_of b) → Later (view_of a) (view_of b) → PutOne g e answer b c → PutOne g e answer a c
put-after g e (Ok _) a b c still later put = puts-it-after e _ _ _ still put
put-after g e (Err why) a b c still later put = (still-on _ _ _ still put.0, not-put-on g why e a b c later put.1)

pub gets-one-after : (e status : ℕ) (s t : Guarded) → SameGuard s t → Still (resting_of s.worker) (resting_of t.worker) →
    Since s.worker t.worker → (u : Guarded) → GetsOneGuard e t status u → GetsOneGuard e s status u
gets-one-after e status s t same still since u (answer, is, got) = (
  answer,
  is,
  got-after s.site e answer s.worker t.worker u.worker still since.later
      (subst (λ (g : Site). GotOne g e answer t.worker u.worker) same.0 got),
)

pub puts-one-after : (e status : ℕ) (s t : Guarded) → SameGuard s t → Still (resting_of s.worker) (resting_of t.worker) →
    Since s.worker t.worker → (u : Guarded) → PutsOneGuard e t status u → PutsOneGuard e s status u
puts-one-after e status s t same still since u (answer, is, put) = (
  answer,
  is,
  put-after s.site e answer s.worker t.worker u.worker still since.later
      (subst (λ (g : Site). PutOne g e answer t.worker u.worker) same.0 put),
)
