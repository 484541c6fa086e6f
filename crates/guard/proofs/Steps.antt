-- What a guarded worker is after what its seat did at an element's place.
use Rattle.std.proofs.Common.{◌≡◌, ◌≢◌, ℕ, ◌+◌, ◌-◌, ◌<◌, ◌≤◌, Bool, true, false, ◌&&◌, not, List, [], ◌∷◌, ◌++◌, length, get_or, refl, sym, ap, ◌∙◌, subst, ⊎_elim, arith}
use Rattle.std.specs.Prelude.{nat_lt, slice_set, replicate, take}
use Rattle.std.proofs.lemmas.Bool.{cases_lt, lt-ltb, le-ltb, and_left, and_right, and_from}
use Rattle.std.proofs.lemmas.List.{length-set, length-append, length-replicate}
use Rattle.commons.specs.Bag.{bag}
use Rattle.commons.proofs.Bags.{bag-nil, bag-cons, bag-append, bag-single, one-same}
use Rattle.depot.specs.declared.rack.Rack.{Rack}
use Rattle.depot.specs.declared.view.Resting.{Resting}
use Rattle.depot.specs.declared.view.View.{View}
use Rattle.depot.specs.Answers.{noting, IsOwned}
use Rattle.depot.specs.Bags.{without}
use Rattle.depot.specs.Placing.{resting_out, resting_in, claiming, taking_back, forgetting}
use Rattle.depot.specs.Racks.{Racked, SameLent, Lends}
use Rattle.depot.specs.Resting.{numbers, wiped, is_at, is_marked, finds, rest_out, rest_in, unlist, drops, after_get, after_put, look_get, look_put, claims}
use Rattle.depot.specs.Rule.{Sat}
use Rattle.depot.specs.Seats.{Site, lent}
use Rattle.depot.proofs.Bags.{one-other}
use Rattle.depot.proofs.Looks.{bag-wiped, its-number, only-number}
use Rattle.guard.specs.declared.worker.GuardWorker.{GuardWorker}
use Rattle.guard.specs.Between.{Body, Lacks, Holds}
use Rattle.guard.specs.Guards.{view_of, resting_of, most_told, IsGuard, Gets, PutsIt, Still, LastFound, Later, Since}
use Rattle.guard.specs.Keeping.{Keep, Takes}
use Rattle.guard.proofs.Since.{later-get, later-put, later-forget, since-quiet}
use Rattle.guard.proofs.Workers.{worker, body-of, guard-of, marked-set, marked-wiped, Off, On, counted-same, counted-off, counted-on, body-again, mark-inside, unmarked-none, lacks-inside, lacks-listed, lacks-within}

resting-is : (m n : Sat) → m ≡ n → m.0.resting ≡ n.0.resting
resting-is m n is = ap (λ (x : Sat). x.0.resting) is

-- of what is wiped no more is left than there was
wiped-less : (i e : ℕ) (xs : List ℕ) → bag (wiped e xs) i ≤ bag xs i
wiped-less i e xs = ⊎_elim (λ h. let a = h.1 in omega arith) (λ h. let a = h.1 in omega arith) (bag-wiped i e xs)

wiped-none : (i e : ℕ) (xs : List ℕ) → bag xs e ≡ 0 → bag (wiped e xs) i ≡ bag xs i
wiped-none i e xs none = ⊎_elim
    (λ h. let a = h.1 in let b : bag xs i ≡ 0 = subst (λ (x : ℕ). bag xs x ≡ 0) h.0 none in omega arith)
    (λ h. h.1) (bag-wiped i e xs)

-- an element comes to the list
pushed-listed : (k m : Keep) (xs : List ℕ) (e : ℕ) → Takes e m k → ((i : ℕ) → bag k.items i ≡ bag xs i) →
    (i : ℕ) → bag m.items i ≡ bag (e ∷ xs) i
pushed-listed k m xs e push had i =
    let more = push.items i in let a = had i in let cons = bag-cons e xs i in omega arith

pushed-within : (g : Site) (k m : Keep) (e : ℕ) → e < g.population → Takes e m k →
    ((i : ℕ) → g.population ≤ i → bag k.items i ≡ 0) → (i : ℕ) → g.population ≤ i → bag m.items i ≡ 0
pushed-within g k m e inside push had i past =
    let more = push.items i in let a = had i past in
    let none = one-other i e (λ h. absurd (omega arith)) in omega arith

-- the seat has dropped a stale entry, which had left the list
pub record Dropped (g : Site) (e : ℕ) (w : GuardWorker) (t : Rack) : Type 0 where
  pub racked : Racked g t
  pub settled : (i : ℕ) → lent t.seat.me i ≡ 0
  pub later : Later (view_of w) t.seat.me.0
  pub left : Resting
  pub is : t.seat.me.0.resting ≡ left
  pub from : left.from ≡ (resting_of w).from
  pub to : left.to ≡ (resting_of w).to
  pub listed : left.listed ≡ without e (resting_of w).listed
  pub marks : left.marks ≡ (resting_of w).marks
  pub gets : left.gets ≡ (resting_of w).gets
  pub puts : left.puts ≡ (resting_of w).puts
  pub strays : left.strays ≡ (resting_of w).strays
  pub stale : left.stale ≡ (resting_of w).stale ++ e ∷ []

-- an entry that has left the list was looked at
module _ (g : Site) (e : ℕ) (w : GuardWorker) (l : Lacks g e w) (found : ℕ)
    (t : Rack) (racked : Racked g t) (same : SameLent w.rack.seat.me t.seat.me)
    (me : t.seat.me ≡ (record (view_of w) { resting = look_get (resting_of w) e found }, w.rack.seat.me.1)) where
  abbrev r : Resting
  r = resting_of w

  abbrev was : GuardWorker
  was = record w { kept = l.keep }

  body : Body g was
  body = body-of g was l.was

  its : (b : Bool) → (is_at r found && not (is_marked r e)) ≡ b → t.seat.me.0.resting ≡ after_get b (finds r e found) e
  its b h = resting-is t.seat.me _ me ∙ ap (λ (c : Bool). after_get c (finds r e found) e) h

  at_rest : (i : ℕ) → lent t.seat.me i ≡ 0
  at_rest i = same i ∙ l.was.settled i

  inside : e < g.population
  inside = lacks-inside g e w l

  marked_inside : e < length w.marks
  marked_inside = mark-inside g was body e inside

  -- it is out now
  yes : found ≡ w.number → get_or w.marks e false ≡ false → (is_at r found && not (is_marked r e)) ≡ true
  yes here unmarked =
      and_from (is_at r found) (not (is_marked r e))
      (lt-ltb 0 (numbers r found)
      (let one_of = subst (λ (n : ℕ). numbers r n ≡ 1) (sym here) (its-number r w.number l.was.number) in omega arith))
      (ap (λ (b : Bool). not b) (sym (l.was.marks e inside) ∙ unmarked))

  pub entry-of : found ≡ w.number → get_or w.marks e false ≡ false → (ms : List Bool) → ms ≡ slice_set w.marks e true →
      (c : ℕ) → Off w.count c → IsGuard g (worker t w.number w.kept ms w.stale c)
  entry-of here unmarked ms set_it c off =
      subst (λ (a : List Bool). IsGuard g (worker t w.number w.kept a w.stale c)) (sym set_it)
      (guard-of g (worker t w.number w.kept (slice_set w.marks e true) w.stale c)
      (body-again g was body t racked (after_get true (finds r e found) e) (its true (yes here unmarked)) refl refl
      w.kept (lacks-listed g e w l) (lacks-within g e w l)
      (slice_set w.marks e true) (length-set w.marks e true)
      (λ i h. marked-set w.marks r.marks e i marked_inside (l.was.marks i h))
      w.stale c (counted-off w.count c r (after_get true (finds r e found) e) off (omega arith) refl refl l.was.counted))
      at_rest)

  pub entry-got : found ≡ w.number → get_or w.marks e false ≡ false → Gets (e ∷ []) r t.seat.me.0.resting
  entry-got here unmarked =
      subst (Gets (e ∷ []) r) (sym (its true (yes here unmarked))) (record {
        gets = λ i. let a = bag-cons e r.gets i in let b = bag-single e i in omega arith;
        marks = λ i. let a = bag-cons e r.marks i in let b = bag-single e i in omega arith;
        puts = refl;
        strays = refl;
      })

  pub entry-since : found ≡ w.number → get_or w.marks e false ≡ false → (ms : List Bool) (c : ℕ) →
      Since w (worker t w.number w.kept ms w.stale c)
  entry-since here unmarked ms c =
      since-quiet w (worker t w.number w.kept ms w.stale c) (later-get (view_of w) _ t.seat.me e found me)
      (ap (λ (x : Resting). x.stale) (its true (yes here unmarked))) refl

  -- or its entry was stale
  pub entry-dropped : (is_at r found && not (is_marked r e)) ≡ false → Dropped g e w t
  entry-dropped h = record {
    racked = racked;
    settled = at_rest;
    later = later-get (view_of w) _ t.seat.me e found me;
    left = drops (finds r e found) e;
    is = its false h;
    from = refl;
    to = refl;
    listed = refl;
    marks = refl;
    gets = refl;
    puts = refl;
    strays = refl;
    stale = refl;
  }

  pub is-out : get_or w.marks e false ≡ true → (is_at r found && not (is_marked r e)) ≡ false
  is-out marked =
      and_right (is_at r found) (not (is_marked r e))
      (ap (λ (b : Bool). not b) (sym (l.was.marks e inside) ∙ marked))

  pub is-gone : found ≢ w.number → (is_at r found && not (is_marked r e)) ≡ false
  is-gone n =
      and_left (is_at r found) (not (is_marked r e))
      (le-ltb 0 (numbers r found) (⊎_elim (λ (h : 0 < numbers r found). absurd (n (only-number r w.number found l.was.number h)))
      (λ h. h) (cases_lt 0 (numbers r found))))

-- a stale entry is dropped, and told
module _ (g : Site) (e : ℕ) (w : GuardWorker) (l : Lacks g e w) (t : Rack) (d : Dropped g e w t)
    (n : GuardWorker) (rest : n ≡ worker t w.number w.kept w.marks n.stale n.count) where
  dropped-is : resting_of n ≡ d.left
  dropped-is = ap resting_of rest ∙ d.is

  pub dropped-of : Off w.count n.count → IsGuard g n
  dropped-of off =
      subst (IsGuard g) (sym rest) (guard-of g (worker t w.number w.kept w.marks n.stale n.count)
      (body-again g (record w { kept = l.keep }) (body-of g _ l.was) t d.racked d.left d.is d.from d.to
      w.kept (λ i. lacks-listed g e w l i ∙ sym (ap (λ (xs : List ℕ). bag xs i) d.listed)) (lacks-within g e w l)
      w.marks refl
      (λ i h. l.was.marks i h ∙ sym (ap (λ (xs : List ℕ). nat_lt 0 (bag xs i)) d.marks))
      n.stale n.count
      (counted-off w.count n.count (resting_of w) d.left off one_more
      (ap (λ (xs : List ℕ). length xs) d.puts) (ap (λ (xs : List ℕ). length xs) d.strays) l.was.counted))
      d.settled)
    where
      one_more : length d.left.gets + length d.left.stale ≡ length (resting_of w).gets + length (resting_of w).stale + 1
      one_more =
          let a : length d.left.gets ≡ length (resting_of w).gets = ap (λ (xs : List ℕ). length xs) d.gets in
          let b : length d.left.stale ≡ length ((resting_of w).stale ++ e ∷ []) = ap (λ (xs : List ℕ). length xs) d.stale in
          let f = length-append (resting_of w).stale (e ∷ []) in
          omega arith

  pub dropped-still : Still (resting_of w) (resting_of n)
  dropped-still = subst (Still (resting_of w)) (sym dropped-is) (record {
    gets = d.gets;
    puts = d.puts;
    strays = d.strays;
    marks = λ i. ap (λ (xs : List ℕ). bag xs i) d.marks;
  })

  pub dropped-since : n.stale ≡ w.stale ++ take (most_told - length w.stale) (e ∷ []) → Since w n
  dropped-since told = record {
    later = subst (λ (v : View). Later (view_of w) v) (sym (ap view_of rest)) d.later;
    tells = record { entries = e ∷ []; found = ap (λ (x : Resting). x.stale) dropped-is ∙ d.stale; told = told };
  }

-- an entry that has left the list was taken from its place
module _ (g : Site) (e : ℕ) (w : GuardWorker) (l : Lacks g e w) (t : Rack) (racked : Racked g t) where
  pub gone-dropped : t.seat.me ≡ (forgetting (view_of w) e, w.rack.seat.me.1) → SameLent w.rack.seat.me t.seat.me →
      Dropped g e w t
  gone-dropped me same = record {
    racked = racked;
    settled = λ i. same i ∙ l.was.settled i;
    later = later-forget (view_of w) _ t.seat.me e me;
    left = drops (resting_of w) e;
    is = resting-is t.seat.me _ me;
    from = refl;
    to = refl;
    listed = refl;
    marks = refl;
    gets = refl;
    puts = refl;
    strays = refl;
    stale = refl;
  }

  pub back-holds : t.seat.me ≡ (taking_back (view_of w) e, w.rack.seat.me.1) → Lends (e ∷ []) w.rack.seat.me t.seat.me →
      Holds g e (worker t w.number w.kept w.marks w.stale w.count)
  back-holds me came = record {
    body =
        body-again g (record w { kept = l.keep }) (body-of g _ l.was) t racked (unlist (resting_of w) e)
        (resting-is t.seat.me _ me) refl refl w.kept (lacks-listed g e w l) (lacks-within g e w l)
        w.marks refl l.was.marks w.stale w.count
        (counted-same w.count (resting_of w) (unlist (resting_of w) e) refl refl refl refl l.was.counted);
    inside = lacks-inside g e w l;
    held = λ i. let a = came i in let b = l.was.settled i in let single = bag-single e i in omega arith;
  }

-- an entry that was taken back is kept again
pub kept-again : (g : Site) (e : ℕ) (w : GuardWorker) → Lacks g e w → get_or w.marks e false ≡ false → (x : Resting) →
    x ≡ rest_in (unlist (resting_of w) e) e → Still (resting_of w) x
kept-again g e w l unmarked x is =
    subst (Still (resting_of w)) (sym is) (record {
      gets = refl;
      puts = refl;
      strays = refl;
      marks = λ i. wiped-none i e (resting_of w).marks
          (unmarked-none g (record w { kept = l.keep }) (body-of g _ l.was) e (lacks-inside g e w l) unmarked);
    })

-- an element that is outside of the magazines is out, with what else is there
module _ (g : Site) (w : GuardWorker) (b : Body g w) (e : ℕ) (inside : e < g.population) (t : Rack) (racked : Racked g t)
    (me : t.seat.me ≡ (resting_out (view_of w) e, w.rack.seat.me.1)) where
  pub out-body : (ms : List Bool) → ms ≡ slice_set w.marks e true → (c : ℕ) → Off w.count c →
      Body g (worker t w.number w.kept ms w.stale c)
  out-body ms set_it c off =
      subst (λ (a : List Bool). Body g (worker t w.number w.kept a w.stale c)) (sym set_it)
      (body-again g w b t racked (rest_out (resting_of w) e) (resting-is t.seat.me _ me) refl refl
      w.kept b.listed b.within
      (slice_set w.marks e true) (length-set w.marks e true)
      (λ i x. marked-set w.marks (resting_of w).marks e i (mark-inside g w b e inside) (b.marks i x))
      w.stale c (counted-off w.count c (resting_of w) (rest_out (resting_of w) e) off (omega arith) refl refl b.counted))

  pub out-got : Gets (e ∷ []) (resting_of w) t.seat.me.0.resting
  out-got =
      subst (Gets (e ∷ []) (resting_of w)) (sym (resting-is t.seat.me _ me)) (record {
        gets = λ i. let a = bag-cons e (resting_of w).gets i in let b = bag-single e i in omega arith;
        marks = λ i. let a = bag-cons e (resting_of w).marks i in let b = bag-single e i in omega arith;
        puts = refl;
        strays = refl;
      })

-- an element of the hand
module _ (g : Site) (e : ℕ) (w : GuardWorker) (h : Holds g e w) (t : Rack) (racked : Racked g t) where
  abbrev its_rest : Resting
  its_rest = resting_of w

  -- stays there
  pub holds-still : t.seat.me.0.resting ≡ its_rest → SameLent w.rack.seat.me t.seat.me →
      Holds g e (worker t w.number w.kept w.marks w.stale w.count)
  holds-still rest same = record {
    body =
        body-again g w h.body t racked its_rest rest refl refl w.kept h.body.listed h.body.within w.marks refl h.body.marks
        w.stale w.count h.body.counted;
    inside = h.inside;
    held = λ i. same i ∙ h.held i;
  }

  -- goes into the magazines
  pub holds-stored : t.seat.me.0.resting ≡ its_rest → Lends (e ∷ []) t.seat.me w.rack.seat.me →
      IsGuard g (worker t w.number w.kept w.marks w.stale w.count)
  holds-stored rest gone =
      guard-of g (worker t w.number w.kept w.marks w.stale w.count)
      (body-again g w h.body t racked its_rest rest refl refl w.kept h.body.listed h.body.within w.marks refl h.body.marks
      w.stale w.count h.body.counted)
      (settled-again gone)
    where
      settled-again : Lends (e ∷ []) t.seat.me w.rack.seat.me → (i : ℕ) → lent t.seat.me i ≡ 0
      settled-again left i = let a = left i in let b = h.held i in let single = bag-single e i in omega arith

  -- is kept in the list
  module _ (me : t.seat.me ≡ (resting_in (view_of w) e, w.rack.seat.me.1)) (gone : Lends (e ∷ []) t.seat.me w.rack.seat.me)
    where
      pub holds-kept : (k : Keep) → Takes e k w.kept → (ms : List Bool) → ms ≡ slice_set w.marks e false →
          IsGuard g (worker t w.number k ms w.stale w.count)
      holds-kept k push ms set_it =
          subst (λ (a : List Bool). IsGuard g (worker t w.number k a w.stale w.count)) (sym set_it)
          (guard-of g (worker t w.number k (slice_set w.marks e false) w.stale w.count)
          (body-again g w h.body t racked (rest_in its_rest e) (resting-is t.seat.me _ me) refl refl
          k (pushed-listed w.kept k its_rest.listed e push h.body.listed) (pushed-within g w.kept k e h.inside push h.body.within)
          (slice_set w.marks e false) (length-set w.marks e false)
          (λ i x. marked-wiped w.marks its_rest.marks e i (mark-inside g w h.body e h.inside) (h.body.marks i x))
          w.stale w.count (counted-same w.count its_rest (rest_in its_rest e) refl refl refl refl h.body.counted))
          (λ i. let a = gone i in let b = h.held i in let single = bag-single e i in omega arith))

  -- is out
  module _ (me : t.seat.me ≡ (resting_out (view_of w) e, w.rack.seat.me.1)) (gone : Lends (e ∷ []) t.seat.me w.rack.seat.me)
    where
      pub holds-out : (ms : List Bool) → ms ≡ slice_set w.marks e true → (c : ℕ) → Off w.count c →
          IsGuard g (worker t w.number w.kept ms w.stale c)
      holds-out ms set_it c off =
          guard-of g (worker t w.number w.kept ms w.stale c)
          (out-body g w h.body e h.inside t racked me ms set_it c off)
          (λ i. let a = gone i in let b = h.held i in let single = bag-single e i in omega arith)

      pub holds-got : Gets (e ∷ []) its_rest t.seat.me.0.resting
      holds-got = out-got g w h.body e h.inside t racked me

-- what is outside of a rack's magazines is one of the pool's
owned-inside : (g : Site) (t : Rack) → Racked g t → IsOwned g.table.slots t.seat.me.0 → (e : ℕ) → 0 < lent t.seat.me e →
    e < g.population
owned-inside g t racked owned e there =
    ⊎_elim (λ (h : e < g.population). h)
    (λ past. let none = owned.below g.population e racked.of.population past in absurd (omega arith))
    (cases_lt e g.population)

-- one has come from the magazines
module _ (g : Site) (w : GuardWorker) (is : IsGuard g w) (a : Rack) (e : ℕ) (racked : Racked g a)
    (came : Lends (e ∷ []) w.rack.seat.me a.seat.me) where
  pub came-inside : IsOwned g.table.slots a.seat.me.0 → e < g.population
  came-inside owned =
      owned-inside g a racked owned e
      (let all = came e in let single = bag-single e e in let is_one = one-same e in omega arith)

module _ (g : Site) (w : GuardWorker) (is : IsGuard g w) (a b : Rack) (e : ℕ) (racked : Racked g b)
    (came : Lends (e ∷ []) w.rack.seat.me a.seat.me) (rest : a.seat.me.0.resting ≡ resting_of w)
    (noted : b.seat.me ≡ (noting a.seat.me.0 a.seat.me.1, a.seat.me.1)) (same : SameLent a.seat.me b.seat.me) where
  pub came-holds : e < g.population → Holds g e (worker b w.number w.kept w.marks w.stale w.count)
  came-holds inside = record {
    body =
        body-again g w (body-of g w is) b racked (resting_of w) (resting-is b.seat.me _ noted ∙ rest) refl refl
        w.kept is.listed is.within w.marks refl is.marks w.stale w.count is.counted;
    inside = inside;
    held = λ i. let s = same i in let l = came i in let n = is.settled i in let single = bag-single e i in omega arith;
  }

swapped : (xs ys : List ℕ) (i : ℕ) → bag (xs ++ ys) i ≡ bag ys i + bag xs i
swapped xs ys i = let a = bag-append xs ys i in omega arith

-- an element that rested elsewhere was claimed
module _ (g : Site) (w : GuardWorker) (is : IsGuard g w) (e : ℕ) (inside : e < g.population) (a : Rack) (racked : Racked g a)
    (claimed : (was : ℕ) × (was ≤ 1) × (a.seat.me ≡ (claiming (view_of w) e was, w.rack.seat.me.1)))
    (came : Lends (e ∷ []) w.rack.seat.me a.seat.me) where
  claimed-is : a.seat.me.0.resting ≡ claims (resting_of w) e claimed.0
  claimed-is = resting-is a.seat.me _ claimed.2

  pub claimed-holds : (c : ℕ) → On w.count c → Holds g e (worker a w.number w.kept w.marks w.stale c)
  claimed-holds c on = record {
    body =
        body-again g w (body-of g w is) a racked (claims (resting_of w) e claimed.0) claimed-is refl refl
        w.kept is.listed is.within w.marks refl is.marks w.stale c
        (counted-on w.count c (resting_of w) (claims (resting_of w) e claimed.0) on refl refl one_more is.counted);
    inside = inside;
    held = λ i. let l = came i in let n = is.settled i in let single = bag-single e i in omega arith;
  }
    where
      one_more : length (replicate claimed.0 e ++ (resting_of w).puts) + length (replicate (1 - claimed.0) e ++ (resting_of w).strays)
          ≡ length (resting_of w).puts + length (resting_of w).strays + 1
      one_more =
          let p = length-append (replicate claimed.0 e) (resting_of w).puts in
          let q = length-append (replicate (1 - claimed.0) e) (resting_of w).strays in
          let u = length-replicate claimed.0 e in let v = length-replicate (1 - claimed.0) e in
          let most = claimed.1 in
          omega arith

  -- whatever becomes of its mark, it was put
  pub claimed-put : (x : Resting) → x.puts ≡ (claims (resting_of w) e claimed.0).puts →
      x.strays ≡ (claims (resting_of w) e claimed.0).strays → x.gets ≡ (resting_of w).gets →
      ((i : ℕ) → bag x.marks i ≤ bag (resting_of w).marks i) → PutsIt e (resting_of w) x
  claimed-put x puts strays gets marks = (
    claimed.0,
    claimed.1,
    record {
      puts = λ i. ap (λ (l : List ℕ). bag l i) puts ∙ swapped (replicate claimed.0 e) (resting_of w).puts i;
      strays = λ i. ap (λ (l : List ℕ). bag l i) strays ∙ swapped (replicate (1 - claimed.0) e) (resting_of w).strays i;
      gets = gets;
      marks = marks;
    },
  )

  pub claimed-stored : (x : Resting) → x ≡ a.seat.me.0.resting → PutsIt e (resting_of w) x
  claimed-stored x same =
      subst (PutsIt e (resting_of w)) (sym (same ∙ claimed-is))
      (claimed-put (claims (resting_of w) e claimed.0) refl refl refl (λ i. omega arith))

  pub claimed-kept : (x : Resting) → x ≡ rest_in a.seat.me.0.resting e → PutsIt e (resting_of w) x
  claimed-kept x same =
      subst (PutsIt e (resting_of w)) (sym (same ∙ ap (λ (r : Resting). rest_in r e) claimed-is))
      (claimed-put (rest_in (claims (resting_of w) e claimed.0) e) refl refl refl
      (λ i. wiped-less i e (resting_of w).marks))

-- an element was looked at, to put it
module _ (g : Site) (w : GuardWorker) (is : IsGuard g w) (e found : ℕ) (inside : e < g.population)
    (t : Rack) (racked : Racked g t) (same : SameLent w.rack.seat.me t.seat.me)
    (me : t.seat.me ≡ (record (view_of w) { resting = look_put (resting_of w) e found }, w.rack.seat.me.1)) where
  look-is : (b : Bool) → (is_at (resting_of w) found && is_marked (resting_of w) e) ≡ b →
      t.seat.me.0.resting ≡ after_put b (finds (resting_of w) e found) e
  look-is b h =
      resting-is t.seat.me _ me ∙ ap (λ (c : Bool). after_put c (finds (resting_of w) e found) e) h

  look-rest : (i : ℕ) → lent t.seat.me i ≡ 0
  look-rest i = same i ∙ is.settled i

  yes-put : found ≡ w.number → get_or w.marks e false ≡ true → (is_at (resting_of w) found && is_marked (resting_of w) e) ≡ true
  yes-put here marked =
      and_from (is_at (resting_of w) found) (is_marked (resting_of w) e)
      (lt-ltb 0 (numbers (resting_of w) found)
      (let one_of = subst (λ (n : ℕ). numbers (resting_of w) n ≡ 1) (sym here) (its-number (resting_of w) w.number is.number) in
      omega arith))
      (sym (is.marks e inside) ∙ marked)

  pub here-of : found ≡ w.number → get_or w.marks e false ≡ true → (k : Keep) → Takes e k w.kept →
      (ms : List Bool) → ms ≡ slice_set w.marks e false → (c : ℕ) → On w.count c →
      IsGuard g (worker t w.number k ms w.stale c)
  here-of here marked k push ms set_it c on =
      subst (λ (l : List Bool). IsGuard g (worker t w.number k l w.stale c)) (sym set_it)
      (guard-of g (worker t w.number k (slice_set w.marks e false) w.stale c)
      (body-again g w (body-of g w is) t racked (after_put true (finds (resting_of w) e found) e) (look-is true (yes-put here marked))
      refl refl k
      (pushed-listed w.kept k (resting_of w).listed e push is.listed) (pushed-within g w.kept k e inside push is.within)
      (slice_set w.marks e false) (length-set w.marks e false)
      (λ i h. marked-wiped w.marks (resting_of w).marks e i (mark-inside g w (body-of g w is) e inside) (is.marks i h))
      w.stale c
      (counted-on w.count c (resting_of w) (after_put true (finds (resting_of w) e found) e) on refl refl (omega arith) is.counted))
      look-rest)

  pub here-put : found ≡ w.number → get_or w.marks e false ≡ true → PutsIt e (resting_of w) t.seat.me.0.resting
  here-put here marked =
      subst (PutsIt e (resting_of w)) (sym (look-is true (yes-put here marked))) (
        1,
        omega arith,
        record {
          puts = λ i. let c = bag-cons e (resting_of w).puts i in let o = bag-single e i in omega arith;
          strays = λ i. let o = bag-nil i in omega arith;
          gets = refl;
          marks = λ i. wiped-less i e (resting_of w).marks;
        },
      )

  pub here-since : found ≡ w.number → get_or w.marks e false ≡ true → (k : Keep) (ms : List Bool) (c : ℕ) →
      Since w (worker t w.number k ms w.stale c)
  here-since here marked k ms c =
      since-quiet w (worker t w.number k ms w.stale c) (later-put (view_of w) _ t.seat.me e found me)
      (ap (λ (x : Resting). x.stale) (look-is true (yes-put here marked))) refl

  -- it isn't out with this worker
  module _ (not_out : (is_at (resting_of w) found && is_marked (resting_of w) e) ≡ false) where
    pub seen-is : t.seat.me.0.resting ≡ finds (resting_of w) e found
    seen-is = look-is false not_out

    pub seen-of : IsGuard g (worker t w.number w.kept w.marks w.stale w.count)
    seen-of =
        guard-of g (worker t w.number w.kept w.marks w.stale w.count)
        (body-again g w (body-of g w is) t racked (finds (resting_of w) e found) seen-is refl refl w.kept is.listed is.within
        w.marks refl is.marks w.stale w.count is.counted)
        look-rest

    pub seen-still : Still (resting_of w) t.seat.me.0.resting
    seen-still =
        subst (Still (resting_of w)) (sym seen-is) (record { gets = refl; puts = refl; strays = refl; marks = λ i. refl })

    pub seen-found : LastFound (resting_of w) t.seat.me.0.resting e found
    seen-found = record { more = []; is = ap (λ (r : Resting). r.found) seen-is }

    pub seen-since : Since w (worker t w.number w.kept w.marks w.stale w.count)
    seen-since =
        since-quiet w (worker t w.number w.kept w.marks w.stale w.count) (later-put (view_of w) _ t.seat.me e found me)
        (ap (λ (x : Resting). x.stale) seen-is) refl

  pub is-unmarked : get_or w.marks e false ≡ false → (is_at (resting_of w) found && is_marked (resting_of w) e) ≡ false
  is-unmarked unmarked = and_right (is_at (resting_of w) found) (is_marked (resting_of w) e) (sym (is.marks e inside) ∙ unmarked)

  pub is-elsewhere : found ≢ w.number → (is_at (resting_of w) found && is_marked (resting_of w) e) ≡ false
  is-elsewhere n =
      and_left (is_at (resting_of w) found) (is_marked (resting_of w) e)
      (le-ltb 0 (numbers (resting_of w) found)
      (⊎_elim (λ (h : 0 < numbers (resting_of w) found). absurd (n (only-number (resting_of w) w.number found is.number h)))
      (λ h. h) (cases_lt 0 (numbers (resting_of w) found))))
