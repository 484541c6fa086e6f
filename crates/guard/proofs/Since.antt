-- What a guarded worker has read and found, from one state to a later one.
use Rattle.std.proofs.Common.{◌≡◌, ℕ, zero, suc, ◌+◌, ◌-◌, ◌≤◌, Bool, true, false, List, [], ◌∷◌, ◌++◌, length, take, Result, Ok, Err, refl, sym, ap, ◌∙◌, subst, arith}
use Rattle.std.specs.Prelude.{IfOk, IfErr}
use Rattle.std.proofs.lemmas.List.{append_assoc, append-nil, length-append}
use Rattle.commons.specs.Bag.{bag}
use Rattle.depot.specs.declared.cause.Cause.{Cause}
use Rattle.depot.specs.declared.view.Resting.{Resting}
use Rattle.depot.specs.declared.view.View.{View}
use Rattle.depot.specs.Answers.{losing, noting}
use Rattle.depot.specs.Placing.{forgetting, taking_back, resting_in, resting_out, claiming}
use Rattle.depot.specs.Resting.{finds, after_get, after_put, look_get, look_put}
use Rattle.depot.specs.Rule.{Sat}
use Rattle.depot.specs.Seats.{Site, Logs, IsCause}
use Rattle.guard.specs.declared.refusal.NotPut.{NotPut}
use Rattle.guard.specs.declared.refusal.NotPut.TheVariants.{Stranger, Home, Kept, Lost, Full}
use Rattle.guard.specs.declared.worker.GuardWorker.{GuardWorker}
use Rattle.guard.specs.Keeping.{Keep}
use Rattle.guard.specs.Guards.{view_of, resting_of, most_told, Later, SameSeat, Tells, Since, LastFound, RefusedIn, IsNotPut, Still, Gets, Puts, PutsIt}

pub later-none : (v : View) → Later v v
later-none v = record {
  more = [];
  heads = sym (append-nil v.heads);
  looks = [];
  found = sym (append-nil v.resting.found);
  lost = omega arith;
  same = record { from = refl; to = refl; let_out = refl; taken_in = refl };
}

pub later-logs : (v w : View) → Logs v w → Later v w
later-logs v w l = record {
  more = l.more;
  heads = l.heads;
  looks = [];
  found = ap (λ (r : Resting). r.found) l.resting ∙ sym (append-nil v.resting.found);
  lost = l.lost;
  same = record {
    from = ap (λ (r : Resting). r.from) l.resting;
    to = ap (λ (r : Resting). r.to) l.resting;
    let_out = l.let_out;
    taken_in = l.taken_in;
  };
}

pub later-on : (u v w : View) → Later u v → Later v w → Later u w
later-on u v w a b = record {
  more = a.more ++ b.more;
  heads = b.heads ∙ ap (λ xs. xs ++ b.more) a.heads ∙ append_assoc u.heads a.more b.more;
  looks = a.looks ++ b.looks;
  found = b.found ∙ ap (λ xs. xs ++ b.looks) a.found ∙ append_assoc u.resting.found a.looks b.looks;
  lost = let x = a.lost in let y = b.lost in omega arith;
  same = record {
    from = b.same.from ∙ a.same.from;
    to = b.same.to ∙ a.same.to;
    let_out = b.same.let_out ∙ a.same.let_out;
    taken_in = b.same.taken_in ∙ a.same.taken_in;
  };
}

-- a step that read no head and found nothing
pub later-quiet : (v w : View) → w.heads ≡ v.heads → w.resting.found ≡ v.resting.found → v.lost ≤ w.lost → SameSeat v w → Later v w
later-quiet v w heads found lost same = record {
  more = [];
  heads = heads ∙ sym (append-nil v.heads);
  looks = [];
  found = found ∙ sym (append-nil v.resting.found);
  lost = lost;
  same = same;
}

-- a look at a place
after-get-found : (b : Bool) (r : Resting) (e : ℕ) → (after_get b r e).found ≡ r.found
after-get-found true r e = refl
after-get-found false r e = refl

after-put-found : (b : Bool) (r : Resting) (e : ℕ) → (after_put b r e).found ≡ r.found
after-put-found true r e = refl
after-put-found false r e = refl

after-get-from : (b : Bool) (r : Resting) (e : ℕ) → (after_get b r e).from ≡ r.from
after-get-from true r e = refl
after-get-from false r e = refl

after-get-to : (b : Bool) (r : Resting) (e : ℕ) → (after_get b r e).to ≡ r.to
after-get-to true r e = refl
after-get-to false r e = refl

after-put-from : (b : Bool) (r : Resting) (e : ℕ) → (after_put b r e).from ≡ r.from
after-put-from true r e = refl
after-put-from false r e = refl

after-put-to : (b : Bool) (r : Resting) (e : ℕ) → (after_put b r e).to ≡ r.to
after-put-to true r e = refl
after-put-to false r e = refl

later-looked : (v : View) (ms : List (ℕ × List ℕ)) (n : Sat) (x : Resting) (e found : ℕ) →
    n ≡ (record v { resting = x }, ms) → x.found ≡ v.resting.found ++ (e, found) ∷ [] →
    x.from ≡ v.resting.from → x.to ≡ v.resting.to → Later v n.0
later-looked v ms n x e found is seen from to =
    subst (λ (m : Sat). Later v m.0) (sym is) (record {
      more = [];
      heads = sym (append-nil v.heads);
      looks = (e, found) ∷ [];
      found = seen;
      lost = omega arith;
      same = record { from = from; to = to; let_out = refl; taken_in = refl };
    })

pub later-get : (v : View) (ms : List (ℕ × List ℕ)) (n : Sat) (e found : ℕ) →
    n ≡ (record v { resting = look_get v.resting e found }, ms) → Later v n.0
later-get v ms n e found is =
    later-looked v ms n (look_get v.resting e found) e found is (after-get-found _ (finds v.resting e found) e)
    (after-get-from _ (finds v.resting e found) e) (after-get-to _ (finds v.resting e found) e)

pub later-put : (v : View) (ms : List (ℕ × List ℕ)) (n : Sat) (e found : ℕ) →
    n ≡ (record v { resting = look_put v.resting e found }, ms) → Later v n.0
later-put v ms n e found is =
    later-looked v ms n (look_put v.resting e found) e found is (after-put-found _ (finds v.resting e found) e)
    (after-put-from _ (finds v.resting e found) e) (after-put-to _ (finds v.resting e found) e)

-- other steps at a place
pub later-step : (v w : View) (ms : List (ℕ × List ℕ)) (n : Sat) → n ≡ (w, ms) → w.heads ≡ v.heads →
    w.resting.found ≡ v.resting.found → v.lost ≤ w.lost → SameSeat v w → Later v n.0
later-step v w ms n is heads found lost same =
    subst (λ (m : Sat). Later v m.0) (sym is) (later-quiet v w heads found lost same)

pub later-lost : (v : View) (ms : List (ℕ × List ℕ)) (n : Sat) → n ≡ (losing v, ms) → Later v n.0
later-lost v ms n is =
    later-step v (losing v) ms n is refl refl (omega arith)
    (record { from = refl; to = refl; let_out = refl; taken_in = refl })

pub later-forget : (v : View) (ms : List (ℕ × List ℕ)) (n : Sat) (e : ℕ) → n ≡ (forgetting v e, ms) → Later v n.0
later-forget v ms n e is =
    later-step v (forgetting v e) ms n is refl refl (omega arith)
    (record { from = refl; to = refl; let_out = refl; taken_in = refl })

pub later-back : (v : View) (ms : List (ℕ × List ℕ)) (n : Sat) (e : ℕ) → n ≡ (taking_back v e, ms) → Later v n.0
later-back v ms n e is =
    later-step v (taking_back v e) ms n is refl refl (omega arith)
    (record { from = refl; to = refl; let_out = refl; taken_in = refl })

pub later-kept : (v : View) (ms : List (ℕ × List ℕ)) (n : Sat) (e : ℕ) → n ≡ (resting_in v e, ms) → Later v n.0
later-kept v ms n e is =
    later-step v (resting_in v e) ms n is refl refl (omega arith)
    (record { from = refl; to = refl; let_out = refl; taken_in = refl })

pub later-out : (v : View) (ms : List (ℕ × List ℕ)) (n : Sat) (e : ℕ) → n ≡ (resting_out v e, ms) → Later v n.0
later-out v ms n e is =
    later-step v (resting_out v e) ms n is refl refl (omega arith)
    (record { from = refl; to = refl; let_out = refl; taken_in = refl })

pub later-noted : (v : View) (ms : List (ℕ × List ℕ)) (n : Sat) → n ≡ (noting v ms, ms) → Later v n.0
later-noted v ms n is =
    later-step v (noting v ms) ms n is refl refl (omega arith)
    (record { from = refl; to = refl; let_out = refl; taken_in = refl })

pub later-claimed : (v : View) (ms : List (ℕ × List ℕ)) (n : Sat) (e : ℕ) →
    (was : ℕ) × (was ≤ 1) × (n ≡ (claiming v e was, ms)) → Later v n.0
later-claimed v ms n e c =
    later-step v (claiming v e c.0) ms n c.2 refl refl (omega arith)
    (record { from = refl; to = refl; let_out = refl; taken_in = refl })

pub claimed-stale : (v : View) (ms : List (ℕ × List ℕ)) (n : Sat) (e : ℕ) →
    (was : ℕ) × (was ≤ 1) × (n ≡ (claiming v e was, ms)) → n.0.resting.stale ≡ v.resting.stale
claimed-stale v ms n e c = ap (λ (m : Sat). m.0.resting.stale) c.2

-- as many of two lists as there is room for
take-more : (n : ℕ) (xs ys : List ℕ) → take n xs ++ take (n - length (take n xs)) ys ≡ take n (xs ++ ys)
take-more zero [] ys = refl
take-more (suc n) [] ys = ap (λ (m : ℕ). take m ys) (let a : suc n - 0 ≡ suc n = omega arith in a)
take-more zero (x ∷ xs) ys = refl
take-more (suc n) (x ∷ xs) ys =
    let less : suc n - suc (length (take n xs)) ≡ n - length (take n xs) = omega arith in
    ap (λ (m : ℕ). x ∷ (take n xs ++ take m ys)) less ∙ ap (λ (l : List ℕ). x ∷ l) (take-more n xs ys)

-- the stale entries that were found
pub tells-none : (a b : GuardWorker) → (resting_of b).stale ≡ (resting_of a).stale → b.stale ≡ a.stale → Tells a b
tells-none a b found told = record {
  entries = [];
  found = found ∙ sym (append-nil (resting_of a).stale);
  told = told ∙ sym (ap (λ (l : List ℕ). a.stale ++ l) (nothing (most_told - length a.stale)) ∙ append-nil a.stale);
}
  where
    nothing : (n : ℕ) → take {A = ℕ} n [] ≡ []
    nothing zero = refl
    nothing (suc n) = refl

tells-room : (n : ℕ) (xs ys zs : List ℕ) → ys ≡ xs ++ zs → n - length ys ≡ n - length xs - length zs
tells-room n xs ys zs is =
    let all = ap (λ (l : List ℕ). length l) is in let more = length-append xs zs in omega arith

tells-all : (n : ℕ) (ks ls ms xs ys : List ℕ) → ls ≡ ks ++ take (n - length ks) xs → ms ≡ ls ++ take (n - length ls) ys →
    ms ≡ ks ++ take (n - length ks) (xs ++ ys)
tells-all n ks ls ms xs ys first second =
    second
    ∙ ap (λ (m : ℕ). ls ++ take m ys) (tells-room n ks ls (take (n - length ks) xs) first)
    ∙ ap (λ (l : List ℕ). l ++ take (n - length ks - length (take (n - length ks) xs)) ys) first
    ∙ append_assoc ks (take (n - length ks) xs) (take (n - length ks - length (take (n - length ks) xs)) ys)
    ∙ ap (λ (l : List ℕ). ks ++ l) (take-more (n - length ks) xs ys)

pub tells-on : (a b c : GuardWorker) → Tells a b → Tells b c → Tells a c
tells-on a b c x y = record {
  entries = x.entries ++ y.entries;
  found = y.found ∙ ap (λ (l : List ℕ). l ++ y.entries) x.found
      ∙ append_assoc (resting_of a).stale x.entries y.entries;
  told = tells-all most_told a.stale b.stale c.stale x.entries y.entries x.told y.told;
}

-- from one state of a worker to a later one
pub since-none : (a : GuardWorker) → Since a a
since-none a = record { later = later-none (view_of a); tells = tells-none a a refl refl }

pub since-on : (a b c : GuardWorker) → Since a b → Since b c → Since a c
since-on a b c x y = record {
  later = later-on (view_of a) (view_of b) (view_of c) x.later y.later;
  tells = tells-on a b c x.tells y.tells;
}

pub since-quiet : (a b : GuardWorker) → Later (view_of a) (view_of b) → (resting_of b).stale ≡ (resting_of a).stale →
    b.stale ≡ a.stale → Since a b
since-quiet a b later found told = record { later = later; tells = tells-none a b found told }

pub since-from : (a b c : GuardWorker) → Later (view_of a) (view_of b) → (resting_of b).stale ≡ (resting_of a).stale →
    b.stale ≡ a.stale → Since b c → Since a c
since-from a b c later found told more = since-on a b c (since-quiet a b later found told) more

pub since-kept : (a : GuardWorker) (k : Keep) (c : GuardWorker) → Since (record a { kept = k }) c → Since a c
since-kept a k c more = since-from a (record a { kept = k }) c (later-none (view_of a)) refl refl more

-- a refusal is one also between an earlier and a later state
pub refused-at : (tries : ℕ) (cause : Cause) (v w : View) → IsCause tries cause v w → RefusedIn tries cause v w
refused-at tries cause v w was =
    record { first = v; last = w; before = later-none v; was = was; after = later-none w }

pub refused-on : (tries : ℕ) (cause : Cause) (u v w : View) → Later u v → RefusedIn tries cause v w → RefusedIn tries cause u w
refused-on tries cause u v w a r = record {
  first = r.first;
  last = r.last;
  before = later-on u v r.first a r.before;
  was = r.was;
  after = r.after;
}

pub refused-by : (tries : ℕ) (cause : Cause) (u v w : View) → RefusedIn tries cause u v → Later v w → RefusedIn tries cause u w
refused-by tries cause u v w r a = record {
  first = r.first;
  last = r.last;
  before = r.before;
  was = r.was;
  after = later-on r.last v w r.after a;
}

pub refused-after : (r : Result ℕ Cause) (tries : ℕ) (u v w : View) → Later u v →
    IfErr r (λ cause. RefusedIn tries cause v w) → IfErr r (λ cause. RefusedIn tries cause u w)
refused-after (Ok x) tries u v w later was = tt
refused-after (Err cause) tries u v w later was = refused-on tries cause u v w later was

last-found-on : (a b c : View) (i found : ℕ) → Later a b → LastFound b.resting c.resting i found →
    LastFound a.resting c.resting i found
last-found-on a b c i found l f = record {
  more = l.looks ++ f.more;
  is = f.is ∙ ap (λ xs. xs ++ (f.more ++ (i, found) ∷ [])) l.found
      ∙ append_assoc a.resting.found l.looks (f.more ++ (i, found) ∷ [])
      ∙ ap (λ xs. a.resting.found ++ xs) (sym (append_assoc l.looks f.more ((i, found) ∷ [])));
}

pub not-put-on : (g : Site) (why : NotPut) (i : ℕ) (a b c : GuardWorker) → Later (view_of a) (view_of b) →
    IsNotPut g why i b c → IsNotPut g why i a c
not-put-on g Stranger i a b c l n = n
not-put-on g Home i a b c l n = last-found-on (view_of a) (view_of b) (view_of c) i 0 l n
not-put-on g Kept i a b c l n = (n.0, n.1, last-found-on (view_of a) (view_of b) (view_of c) i n.0 l n.2, n.3)
not-put-on g Lost i a b c l n =
    (n.0, last-found-on (view_of a) (view_of b) (view_of c) i n.0 l n.1, let x = l.lost in let y = n.2 in omega arith)
not-put-on g (Full cause) i a b c l n = refused-on g.tries cause (view_of a) (view_of b) (view_of c) l n

-- one after another
pub still-none : (a : Resting) → Still a a
still-none a = record { gets = refl; puts = refl; strays = refl; marks = λ i. refl }

pub still-same : (a b : Resting) → b ≡ a → Still a b
still-same a b same = subst (Still a) (sym same) (still-none a)

pub still-on : (a b c : Resting) → Still a b → Still b c → Still a c
still-on a b c x y = record {
  gets = y.gets ∙ x.gets;
  puts = y.puts ∙ x.puts;
  strays = y.strays ∙ x.strays;
  marks = λ i. y.marks i ∙ x.marks i;
}

pub gets-from : (xs : List ℕ) (a b c : Resting) → b ≡ a → Gets xs b c → Gets xs a c
gets-from xs a b c same gets = subst (λ (r : Resting). Gets xs r c) same gets

pub gets-after : (xs : List ℕ) (a b c : Resting) → Still a b → Gets xs b c → Gets xs a c
gets-after xs a b c x y = record {
  gets = λ i. y.gets i ∙ ap (λ (l : List ℕ). bag l i + bag xs i) x.gets;
  marks = λ i. let p = y.marks i in let q = x.marks i in omega arith;
  puts = y.puts ∙ x.puts;
  strays = y.strays ∙ x.strays;
}

pub puts-after : (xs ys : List ℕ) (a b c : Resting) → Still a b → Puts xs ys b c → Puts xs ys a c
puts-after xs ys a b c x y = record {
  puts = λ i. y.puts i ∙ ap (λ (l : List ℕ). bag l i + bag xs i) x.puts;
  strays = λ i. y.strays i ∙ ap (λ (l : List ℕ). bag l i + bag ys i) x.strays;
  gets = y.gets ∙ x.gets;
  marks = λ i. let p = y.marks i in let q = x.marks i in omega arith;
}

pub puts-it-after : (e : ℕ) (a b c : Resting) → Still a b → PutsIt e b c → PutsIt e a c
puts-it-after e a b c x y = (y.0, y.1, puts-after _ _ a b c x y.2)

pub puts-still : (xs ys : List ℕ) (a b c : Resting) → Puts xs ys a b → Still b c → Puts xs ys a c
puts-still xs ys a b c x y = record {
  puts = λ i. ap (λ (l : List ℕ). bag l i) y.puts ∙ x.puts i;
  strays = λ i. ap (λ (l : List ℕ). bag l i) y.strays ∙ x.strays i;
  gets = y.gets ∙ x.gets;
  marks = λ i. let p = x.marks i in let q = y.marks i in omega arith;
}

pub puts-it-still : (e : ℕ) (a b c : Resting) → PutsIt e a b → Still b c → PutsIt e a c
puts-it-still e a b c x y = (x.0, x.1, puts-still _ _ a b c x.2 y)

-- a put that was tried before
pub put-at-last : (r : Result (Unit {0}) NotPut) (e : ℕ) (a b c : Resting) → Still a b → IfOk r (λ _. PutsIt e b c) →
    IfOk r (λ _. PutsIt e a c)
put-at-last (Ok _) e a b c still put = puts-it-after e a b c still put
put-at-last (Err why) e a b c still put = tt

pub not-put-at-last : (r : Result (Unit {0}) NotPut) (g : Site) (i : ℕ) (a b c : GuardWorker) → Later (view_of a) (view_of b) →
    IfErr r (λ why. IsNotPut g why i b c) → IfErr r (λ why. IsNotPut g why i a c)
not-put-at-last (Ok _) g i a b c later not = tt
not-put-at-last (Err why) g i a b c later not = not-put-on g why i a b c later not
