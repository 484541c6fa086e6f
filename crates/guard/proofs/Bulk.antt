-- Gets and puts one after another.
use Rattle.std.proofs.Common.{◌≡◌, ◌≢◌, ℕ, ◌+◌, ◌-◌, ◌<◌, ◌≤◌, List, [], ◌∷◌, ◌++◌, Result, Ok, Err, length, take, drop, get_or, refl, sym, ap, ◌∙◌, subst, ⊎_elim, arith}
use Rattle.std.specs.Prelude.{IfOk, IfErr, replicate}
use Rattle.std.proofs.lemmas.Bool.{cases_eq}
use Rattle.std.proofs.lemmas.Grind.{take_at_read}
use Rattle.std.proofs.lemmas.List.{take-append-drop, append_assoc}
use Rattle.commons.specs.Bag.{bag, one}
use Rattle.commons.proofs.Bags.{bag-nil, bag-append, bag-single, one-same}
use Rattle.depot.specs.declared.view.Resting.{Resting}
use Rattle.depot.specs.declared.view.View.{View}
use Rattle.depot.specs.Seats.{Site}
use Rattle.depot.proofs.Bags.{one-other}
use Rattle.depot.proofs.Looks.{times-same, times-other}
use Rattle.guard.specs.declared.refusal.NotPut.{NotPut}
use Rattle.guard.specs.declared.worker.GuardWorker.{GuardWorker}
use Rattle.guard.specs.Guards.{view_of, resting_of, Gets, Puts, PutsIt, PutsSome, PutsAll, PutsBack, Still, Later, IsNotPut, StopsAt, WasRefused}
use Rattle.guard.proofs.Since.{later-none, later-on, puts-still}

pub gets-none-yet : (a : Resting) → Gets [] a a
gets-none-yet a = record {
  gets = λ i. let n = bag-nil i in omega arith;
  marks = λ i. let n = bag-nil i in omega arith;
  puts = refl;
  strays = refl;
}

pub gets-more : (xs ys : List ℕ) (e : ℕ) (a b c : Resting) → ys ≡ xs ++ e ∷ [] → Gets xs a b → Gets (e ∷ []) b c → Gets ys a c
gets-more xs ys e a b c is x y = subst (λ (l : List ℕ). Gets l a c) (sym is) (record {
  gets = λ i. let p = x.gets i in let q = y.gets i in let s = bag-append xs (e ∷ []) i in omega arith;
  marks = λ i. let p = x.marks i in let q = y.marks i in let s = bag-append xs (e ∷ []) i in omega arith;
  puts = y.puts ∙ x.puts;
  strays = y.strays ∙ x.strays;
})

pub gets-still : (xs : List ℕ) (a b c : Resting) → Gets xs a b → Still b c → Gets xs a c
gets-still xs a b c x y = record {
  gets = λ i. ap (λ (l : List ℕ). bag l i) y.gets ∙ x.gets i;
  marks = λ i. y.marks i ∙ x.marks i;
  puts = y.puts ∙ x.puts;
  strays = y.strays ∙ x.strays;
}

puts-none : (a : Resting) → Puts [] [] a a
puts-none a = record {
  puts = λ i. let n = bag-nil i in omega arith;
  strays = λ i. let n = bag-nil i in omega arith;
  gets = refl;
  marks = λ i. omega arith;
}

puts-on : (xs ys us vs : List ℕ) (a b c : Resting) → Puts xs ys a b → Puts us vs b c → Puts (xs ++ us) (ys ++ vs) a c
puts-on xs ys us vs a b c x y = record {
  puts = λ i. let p = x.puts i in let q = y.puts i in let s = bag-append xs us i in omega arith;
  strays = λ i. let p = x.strays i in let q = y.strays i in let s = bag-append ys vs i in omega arith;
  gets = y.gets ∙ x.gets;
  marks = λ i. let p = x.marks i in let q = y.marks i in omega arith;
}

-- it was out, or it wasn't
times-both : (was e i : ℕ) → was ≤ 1 → bag (replicate was e) i + bag (replicate (1 - was) e) i ≡ one e i
times-both was e i most =
    ⊎_elim
    (λ (is : i ≡ e).
    let a : bag (replicate was e) i ≡ was = ap (λ (x : ℕ). bag (replicate was e) x) is ∙ times-same was e in
    let b : bag (replicate (1 - was) e) i ≡ 1 - was = ap (λ (x : ℕ). bag (replicate (1 - was) e) x) is ∙ times-same (1 - was) e in
    let c : one e i ≡ 1 = ap (λ (x : ℕ). one e x) is ∙ one-same e in
    omega arith)
    (λ (n : i ≢ e).
    let a = times-other was i e n in let b = times-other (1 - was) i e n in let c = one-other i e n in omega arith)
    (cases_eq i e)

pub some-none : (a : Resting) → PutsSome [] a a
some-none a = record { ys = []; zs = []; puts = puts-none a; among = λ i. let n = bag-nil i in omega arith }

pub some-more : (xs us : List ℕ) (e : ℕ) (r : Result (Unit {0}) NotPut) (a b c : Resting) → us ≡ xs ++ e ∷ [] → PutsSome xs a b →
    IfOk r (λ _. PutsIt e b c) → IfErr r (λ _. Still b c) → PutsSome us a c
some-more xs us e (Ok met) a b c is x y n = subst (λ (l : List ℕ). PutsSome l a c) (sym is) (record {
  ys = x.ys ++ replicate y.0 e;
  zs = x.zs ++ replicate (1 - y.0) e;
  puts = puts-on x.ys x.zs (replicate y.0 e) (replicate (1 - y.0) e) a b c x.puts y.2;
  among = λ i.
      let p = x.among i in let q = times-both y.0 e i y.1 in
      let s = bag-append x.ys (replicate y.0 e) i in let t = bag-append x.zs (replicate (1 - y.0) e) i in
      let u = bag-append xs (e ∷ []) i in let v = bag-single e i in omega arith;
})
some-more xs us e (Err why) a b c is x y n = subst (λ (l : List ℕ). PutsSome l a c) (sym is) (record {
  ys = x.ys;
  zs = x.zs;
  puts = puts-still x.ys x.zs a b c x.puts n;
  among = λ i. let p = x.among i in let u = bag-append xs (e ∷ []) i in omega arith;
})

-- what was refused before a later state
refused-then : (g : Site) (u v w : View) (i : ℕ) → (why : NotPut) × WasRefused g u v i why → Later v w →
    (why : NotPut) × WasRefused g u w i why
refused-then g u v w i r l = (r.0, (r.1.0, r.1.1, r.1.2, r.1.3, later-on (view_of r.1.1) v w r.1.4 l))

pub back-none : (g : Site) (a : GuardWorker) → PutsBack g [] a a
back-none g a = record {
  ys = [];
  zs = [];
  rs = [];
  puts = puts-none (resting_of a);
  are = λ i. let n = bag-nil i in omega arith;
  not = λ i some. let n = bag-nil i in absurd (omega arith);
}

pub back-more : (g : Site) (xs us : List ℕ) (e : ℕ) (r : Result (Unit {0}) NotPut) (a b c : GuardWorker) → us ≡ xs ++ e ∷ [] →
    PutsBack g xs a b → Later (view_of a) (view_of b) → Later (view_of b) (view_of c) →
    IfOk r (λ _. PutsIt e (resting_of b) (resting_of c)) → IfErr r (λ _. Still (resting_of b) (resting_of c)) →
    IfErr r (λ why. IsNotPut g why e b c) → PutsBack g us a c
back-more g xs us e (Ok met) a b c is x before later y n not = subst (λ (l : List ℕ). PutsBack g l a c) (sym is) (record {
  ys = x.ys ++ replicate y.0 e;
  zs = x.zs ++ replicate (1 - y.0) e;
  rs = x.rs;
  puts = puts-on x.ys x.zs (replicate y.0 e) (replicate (1 - y.0) e) (resting_of a) (resting_of b) (resting_of c) x.puts y.2;
  are = λ i.
      let p = x.are i in let q = times-both y.0 e i y.1 in
      let s = bag-append x.ys (replicate y.0 e) i in let t = bag-append x.zs (replicate (1 - y.0) e) i in
      let u = bag-append xs (e ∷ []) i in let v = bag-single e i in omega arith;
  not = λ i some. refused-then g (view_of a) (view_of b) (view_of c) i (x.not i some) later;
})
back-more g xs us e (Err why) a b c is x before later y n not = subst (λ (l : List ℕ). PutsBack g l a c) (sym is) (record {
  ys = x.ys;
  zs = x.zs;
  rs = x.rs ++ e ∷ [];
  puts = puts-still x.ys x.zs (resting_of a) (resting_of b) (resting_of c) x.puts n;
  are = λ i.
      let p = x.are i in let s = bag-append x.rs (e ∷ []) i in let u = bag-append xs (e ∷ []) i in omega arith;
  not = λ i some.
      ⊎_elim
      (λ (same : i ≡ e).
      subst (λ (j : ℕ). (was : NotPut) × WasRefused g (view_of a) (view_of c) j was) (sym same)
      (why, (b, c, before, not, later-none (view_of c))))
      (λ (other : i ≢ e).
      refused-then g (view_of a) (view_of b) (view_of c) i
      (x.not i
      (let s = bag-append x.rs (e ∷ []) i in let u = bag-single e i in let o = one-other i e other in omega arith))
      later)
      (cases_eq i e);
})

-- all of a list were put, as far as it was looked at
pub all-none : (a : Resting) → PutsAll [] a a
all-none a = record { ys = []; zs = []; puts = puts-none a; are = λ i. let n = bag-nil i in omega arith }

pub all-more : (xs us : List ℕ) (e : ℕ) (a b c : Resting) → us ≡ xs ++ e ∷ [] → PutsAll xs a b → PutsIt e b c → PutsAll us a c
all-more xs us e a b c is x y = subst (λ (l : List ℕ). PutsAll l a c) (sym is) (record {
  ys = x.ys ++ replicate y.0 e;
  zs = x.zs ++ replicate (1 - y.0) e;
  puts = puts-on x.ys x.zs (replicate y.0 e) (replicate (1 - y.0) e) a b c x.puts y.2;
  are = λ i.
      let p = x.are i in let q = times-both y.0 e i y.1 in
      let s = bag-append x.ys (replicate y.0 e) i in let t = bag-append x.zs (replicate (1 - y.0) e) i in
      let u = bag-append xs (e ∷ []) i in let v = bag-single e i in omega arith;
})

pub all-still : (xs : List ℕ) (a b c : Resting) → PutsAll xs a b → Still b c → PutsAll xs a c
all-still xs a b c x n = record {
  ys = x.ys;
  zs = x.zs;
  puts = puts-still x.ys x.zs a b c x.puts n;
  are = x.are;
}

pub cut-there : (xs : List ℕ) (n : ℕ) → n < length xs → xs ≡ take n xs ++ get_or xs n 0 ∷ drop (n + 1) xs
cut-there xs n inside =
    sym (take-append-drop (n + 1) xs)
    ∙ ap (λ (l : List ℕ). l ++ drop (n + 1) xs) (take_at_read xs n 0 inside).1
    ∙ append_assoc (take n xs) (get_or xs n 0 ∷ []) (drop (n + 1) xs)

-- a list whose next was refused
pub stops-there : (g : Site) (v : View) (a b : GuardWorker) (xs : List ℕ) (n e : ℕ) (rest : List ℕ) (why : NotPut) →
    n < length xs → xs ≡ take n xs ++ e ∷ rest → Later v (view_of a) → IsNotPut g why e a b →
    StopsAt g xs n (Err why) v (view_of b)
stops-there g v a b xs n e rest why inside is before not = (e, rest, inside, is, (a, b, before, not, later-none (view_of b)))
