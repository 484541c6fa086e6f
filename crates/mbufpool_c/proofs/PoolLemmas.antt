-- Loans of a pool, as a field of a handle says it, and as contracts do; what gets and puts at hand did,
-- and apart; and what a flush did.
use Rattle.std.proofs.Common.{◌≡◌, ℕ, List, [], ◌∷◌, Option, Some, Result, Ok, Err, map, slice_index_or, length, ap, sym, subst, ◌∙◌, refl, arith}
use Rattle.std.specs.Prelude.{IfOk, IfErr}
use Rattle.depot.specs.declared.cause.Cause.{Cause}
use Rattle.depot.specs.declared.loans.Loans.{Loans}
use Rattle.depot.specs.declared.view.Resting.{Resting}
use Rattle.depot.specs.declared.view.View.{View}
use Rattle.depot.specs.declared.worker.Worker.{Worker}
use Rattle.depot.specs.Lending.{AreOf, AreOnce, GetsCount, GetsLoans, KeepsAll, PutsCount, PutsLoans, cached, log_of}
use Rattle.depot.specs.Resting.{IsBare}
use Rattle.depot.specs.Seats.{Site, IsCause}
use Rattle.mbufpool_c.specs.Pools.{AreAt, Flushed, GetsIn, Pooled, PutsIn, SamePool, no_rests, rests_of}

-- there is one view, which is such
one_view : (p r : Option ℕ) (vs : List View) → map (λ (v : View). v.population) vs ≡ p ∷ []
    → map (λ (v : View). v.rounds) vs ≡ r ∷ [] → map (λ (v : View). v.out) vs ≡ [] ∷ []
    → map (λ (v : View). rests_of v.resting) vs ≡ no_rests ∷ []
    → (v : View) × (vs ≡ v ∷ []) × (v.population ≡ p) × (v.rounds ≡ r) × (v.out ≡ []) × (rests_of v.resting ≡ no_rests)
one_view p r [] e d f h = let n = ap (λ (xs : List (Option ℕ)). length xs) e in absurd (omega arith)
one_view p r (v ∷ []) e d f h = (
  v,
  refl,
  ap (λ (xs : List (Option ℕ)). slice_index_or xs 0 p) e,
  ap (λ (xs : List (Option ℕ)). slice_index_or xs 0 r) d,
  ap (λ (xs : List (List ℕ)). slice_index_or xs 0 []) f,
  ap (λ (xs : List (List (List ℕ))). slice_index_or xs 0 []) h,
)
one_view p r (v ∷ w ∷ vs) e d f h = let n = ap (λ (xs : List (Option ℕ)). length xs) e in absurd (omega arith)

-- one that has been at no place, by its equation and by its record
bare_of : (r : Resting) → rests_of r ≡ no_rests → IsBare r
bare_of r e = record {
  marks = ap (λ (xs : List (List ℕ)). slice_index_or xs 0 []) e;
  listed = ap (λ (xs : List (List ℕ)). slice_index_or xs 1 []) e;
  gets = ap (λ (xs : List (List ℕ)). slice_index_or xs 2 []) e;
  puts = ap (λ (xs : List (List ℕ)). slice_index_or xs 3 []) e;
  strays = ap (λ (xs : List (List ℕ)). slice_index_or xs 4 []) e;
  stale = ap (λ (xs : List (List ℕ)). slice_index_or xs 5 []) e;
}

none_of : (r : Resting) → IsBare r → rests_of r ≡ no_rests
none_of r bare =
    λ i. bare.marks i ∷ bare.listed i ∷ bare.gets i ∷ bare.puts i ∷ bare.strays i ∷ bare.stale i ∷ []

pub at_of : (g : Site) (x : Loans) → AreAt g x → AreOf g x
at_of g x at = let one = one_view (Some g.population) (Some g.rounds) x.views at.1 at.2 at.3 at.4 in record {
  view = one.0;
  views = one.1;
  table = at.0;
  population = one.2;
  rounds = one.3;
  none = one.4;
  bare = bare_of one.0.resting one.5;
}

pub of_at : (g : Site) (x : Loans) → AreOf g x → AreAt g x
of_at g x of = (
  of.table,
  ap (λ (vs : List View). map (λ (v : View). v.population) vs) of.views ∙ ap (λ (p : Option ℕ). p ∷ []) of.population,
  ap (λ (vs : List View). map (λ (v : View). v.rounds) vs) of.views ∙ ap (λ (r : Option ℕ). r ∷ []) of.rounds,
  ap (λ (vs : List View). map (λ (v : View). v.out) vs) of.views ∙ ap (λ (xs : List ℕ). xs ∷ []) of.none,
  ap (λ (vs : List View). map (λ (v : View). rests_of v.resting) vs) of.views
      ∙ ap (λ (xs : List (List ℕ)). xs ∷ []) (none_of of.view.resting of.bare),
)

-- what a flush did, by its answer
pub flushed : (tries : ℕ) (answer : Result (Unit {0}) Cause) (w v : Worker) → IfOk answer (λ _. length (cached v) ≡ 0) →
    IfErr answer (λ cause. IsCause tries cause (log_of w) (log_of v)) → Flushed tries answer w v
flushed tries (Ok _) w v ok err = ok
flushed tries (Err cause) w v ok err = err

-- a handle's worker got at hand, or put
pub gets-at-hand : (xs : List ℕ) (old : Option Pooled) (s t : Pooled) (x y : Loans) → old ≡ Some s → SamePool s t →
    AreOnce s.site y → GetsLoans s.site.tries (Ok xs) s.worker x t.worker y → GetsCount (Ok xs) s.worker t.worker →
    KeepsAll (log_of s.worker) x (log_of t.worker) y → GetsIn xs old x 0 (Some t) y
gets-at-hand xs old s t x y is same once got count all =
    subst (λ (v : Option Pooled). GetsIn xs v x 0 (Some t) y) (sym is) (Ok tt, t, refl, refl, same, once, got, count, all)

pub puts-at-hand : (xs : List ℕ) (old : Option Pooled) (s t : Pooled) (x y : Loans) → old ≡ Some s → SamePool s t →
    AreOnce s.site y → PutsLoans s.site.tries xs (Ok tt) s.worker x t.worker y → PutsCount xs (Ok tt) s.worker t.worker →
    KeepsAll (log_of s.worker) x (log_of t.worker) y → PutsIn xs old x 0 (Some t) y
puts-at-hand xs old s t x y is same once put count all =
    subst (λ (v : Option Pooled). PutsIn xs v x 0 (Some t) y) (sym is) (Ok tt, t, refl, refl, same, once, put, count, all)

-- it did nothing at hand, and then what a call apart does
pub gets-apart : (xs : List ℕ) (old new : Option Pooled) (s t : Pooled) (x y z : Loans) (status : ℕ) → old ≡ Some s →
    (t ≡ s) × (y ≡ x) → GetsIn xs (Some t) y status new z → GetsIn xs old x status new z
gets-apart xs old new s t x y z status is none did =
    subst (λ (v : Option Pooled). GetsIn xs v x status new z) (sym (is ∙ ap (λ (p : Pooled). Some p) (sym none.0)))
    (subst (λ (l : Loans). GetsIn xs (Some t) l status new z) none.1 did)

pub puts-apart : (xs : List ℕ) (old new : Option Pooled) (s t : Pooled) (x y z : Loans) (status : ℕ) → old ≡ Some s →
    (t ≡ s) × (y ≡ x) → PutsIn xs (Some t) y status new z → PutsIn xs old x status new z
puts-apart xs old new s t x y z status is none did =
    subst (λ (v : Option Pooled). PutsIn xs v x status new z) (sym (is ∙ ap (λ (p : Pooled). Some p) (sym none.0)))
    (subst (λ (l : Loans). PutsIn xs (Some t) l status new z) none.1 did)
