-- Every step keeps the law of headers.
use Rattle.std.proofs.Common.{◌≡◌, ◌≢◌, ℕ, suc, ◌+◌, ◌<◌, ◌≤◌, Bool, true, List, [], ◌∷◌, ◌++◌, Option, Some, None, length, set, refl, sym, ap, ◌∙◌, subst, arith, ⊎_elim, is_none, filter}
use Rattle.std.specs.Prelude.{sum_by, IfSome, slice_index, ◌==◌, ◌&&◌}
use Rattle.std.proofs.lemmas.Bool.{cond_both, cases_lt, eqb-true, eq-eqb, ne_eqb, ltb-true, cond-true, cond-false}
use Rattle.std.proofs.lemmas.List.Sums.{sum_by-set, sum_by-cons}
use Rattle.commons.specs.Bag.{bag}
use Rattle.commons.specs.Packets.{own_of_packet, holds_of_packet, own_in_slot, holds_in_slot}
use Rattle.commons.proofs.PacketBags.{own_held}
use Rattle.step_core.specs.Bags.{one_if, has, minus, still_held}
use Rattle.step_core.specs.World.{Look, Chain, Phase, ToFill, Filled, Seized, TakenOut, Packet, View, Desk, World, empty_view, view_at, no_desk, desk_at, shelf, all_holds}
use Rattle.step_core.specs.Steps.{Step, LoadLength, Reserve, Add, LoadHead, LoadLink, Cut, StoreLink, Push, Claim, Sole, Raise, Lower, Reset, Hold, PutIn, Open, Seize, TakeOut, Clear, Play, given, row, reserve, cut, push, sole, raise, hold, put_in, open_desk, open_with, seize, seize_with, take_out, clear, load_link, same_head, in_range, phase_at}
use Rattle.step_core.specs.Headers.{own_shelf, all_headers, HaveHeaders, HeaderLaw, given_away, OwnsHeaders, OpensOwn}
use Rattle.step_core.proofs.Rules.{FourLaws}
use Rattle.step_core.proofs.Bags.{times-nil, times-cons, times-append, times-last, times-but_last, times-minus, one_if-cases, at_or_else}
use Rattle.step_core.proofs.Frame.{each_view}
use Rattle.step_core.proofs.StackSteps.{one_view}
use Rattle.step_core.proofs.Counts.{in_hand}
use Rattle.step_core.proofs.Desks.{desk_inside, phase_there, slot_now, word_filling, word_emptying}
use Rattle.step_core.proofs.Rows.{when_played, given_played}

-- what a filter leaves of a list
kept-le : (p : ℕ → Bool) (xs : List ℕ) (i : ℕ) → bag (filter p xs) i ≤ bag xs i
kept-le p [] i = omega arith
kept-le p (x ∷ xs) i =
    let a = kept-le p xs i in let b = times-cons i x xs in
    cond_both (p x) (x ∷ filter p xs) (filter p xs) (λ ys. bag ys i ≤ bag (x ∷ xs) i)
    (λ e. omega (arith, times-cons i x (filter p xs))) (λ e. omega arith)

kept-test : (p : ℕ → Bool) (xs : List ℕ) (i : ℕ) → 0 < bag (filter p xs) i → p i ≡ true
kept-test p [] i h = absurd (omega (arith, times-nil i))
kept-test p (x ∷ xs) i h =
    cond_both (p x) (x ∷ filter p xs) (filter p xs) (λ ys. 0 < bag ys i → p i ≡ true)
    (λ e g.
    ⊎_elim (λ (s : (x ≡ i) × (one_if (x == i) ≡ 1)). subst (λ (y : ℕ). p y ≡ true) s.0 e)
    (λ (s : (x ≢ i) × (one_if (x == i) ≡ 0)). kept-test p xs i
    (let t = s.1 in omega (arith, times-cons i x (filter p xs))))
    (one_if-cases x i))
    (λ e g. kept-test p xs i g) h

still-le : (headers holds : List ℕ) (i : ℕ) → bag (still_held headers holds) i ≤ bag headers i
still-le headers holds i = kept-le (has holds) headers i

still-held : (headers holds : List ℕ) (i : ℕ) → 0 < bag (still_held headers holds) i → 0 < bag holds i
still-held headers holds i h = ltb-true _ _ (kept-test (has holds) headers i h)

-- a sum over the views, and over the desks, of what is less in each
views-le : (f g : View → ℕ) (views : List View) →
    ((k : ℕ) → f (view_at views k) ≤ g (view_at views k)) → sum_by f views ≤ sum_by g views
views-le f g [] h = omega arith
views-le f g (x ∷ xs) h =
    let a : f x ≤ g x = h 0 in
    let b = views-le f g xs (λ k. h (suc k)) in
    omega (arith, sum_by-cons f x xs, sum_by-cons g x xs)

desks-le : (f g : Desk → ℕ) (desks : List Desk) → ((d : Desk) → f d ≤ g d) → sum_by f desks ≤ sum_by g desks
desks-le f g [] h = omega arith
desks-le f g (x ∷ xs) h =
    let a = h x in let b = desks-le f g xs h in
    omega (arith, sum_by-cons f x xs, sum_by-cons g x xs)

-- own elements on a desk, by its word
no_own : (x : Desk) (n : ℕ) → x.word ≡ n → n ≢ 2 → (i : ℕ) → bag (own_shelf x) i ≡ 0
no_own x n is ne i =
    ap (λ (xs : List ℕ). bag xs i)
    (cond-false (x.word == 2) _ _ (ne_eqb x.word 2 (λ e. ne (sym is ∙ e)))) ∙ times-nil i

full_own : (x : Desk) (p : Packet) → x.word ≡ 2 → x.slot ≡ Some p → (i : ℕ) →
    bag (own_shelf x) i ≡ bag (own_of_packet p) i
full_own x p is there i =
    ap (λ (xs : List ℕ). bag xs i)
    (cond-true (x.word == 2) _ _ (eq-eqb x.word 2 is) ∙ ap own_in_slot there)

own_shelf-le : (x : Desk) (i : ℕ) → bag (own_shelf x) i ≤ bag (shelf x) i
own_shelf-le x i =
    cond_both (x.word == 2) (own_in_slot x.slot) [] (λ ys. bag ys i ≤ bag (shelf x) i)
    (λ e. of_slot x.slot (cond-true (x.word == 2) (holds_in_slot x.slot) [] e))
    (λ e. omega (arith, times-nil i))
  where
    of_slot : (o : Option Packet) → shelf x ≡ holds_in_slot o → bag (own_in_slot o) i ≤ bag (shelf x) i
    of_slot None s = omega (arith, times-nil i)
    of_slot (Some p) s =
        let a = ap (λ (xs : List ℕ). bag xs i) s in omega (arith, own_held p i)

-- the headers of views and desks once one view is exchanged, and a desk
module _ (views : List View) (desks : List Desk) (k : ℕ) (u : View) (here : k < length views)
    (law : HaveHeaders views desks)
    (held : (i : ℕ) → 0 < bag u.headers i → 0 < bag u.holds i) where
  all_held : (j i : ℕ) → 0 < bag (view_at (set views k u) j).headers i → 0 < bag (view_at (set views k u) j).holds i
  all_held j = each_view (λ v. (i : ℕ) → 0 < bag v.headers i → 0 < bag v.holds i) views k u here held (λ j n. law.held j) j

  of_view : ((i : ℕ) → all_headers i views desks + bag u.headers i ≤ 1 + bag (view_at views k).headers i) →
      HaveHeaders (set views k u) desks
  of_view once = record {
    once =
        λ i.
        (
        let a = sum_by-set (λ (v : View). bag v.headers i) views k u (empty_view 0) here in
        let b = once i in
        omega arith);
    held = all_held;
  }

  of_desk : (d : ℕ) (x : Desk) → d < length desks →
      ((i : ℕ) → all_headers i views desks + bag u.headers i + bag (own_shelf x) i
      ≤ 1 + bag (view_at views k).headers i + bag (own_shelf (desk_at desks d)) i)
      → HaveHeaders (set views k u) (set desks d x)
  of_desk d x inside once = record {
    once =
        λ i.
        (
        let a = sum_by-set (λ (v : View). bag v.headers i) views k u (empty_view 0) here in
        let b = sum_by-set (λ (e : Desk). bag (own_shelf e) i) desks d x no_desk inside in
        let c = once i in
        omega arith);
    held = all_held;
  }

-- a header or an own element is a hold
headers-le : (w : World) → HeaderLaw w → (i : ℕ) →
    all_headers i w.views w.desks ≤ all_holds i w.views w.desks
headers-le w law i =
    let a =
    views-le (λ (v : View). bag v.headers i) (λ (v : View). bag v.holds i) w.views
    (λ k.
    let one = one_view (λ (v : View). bag v.headers i) w.views k (times-nil i) in
    let all = law.once i in
    ⊎_elim (λ (h : 0 < bag (view_at w.views k).headers i). let b = law.held k i h in omega arith)
    (λ (h : bag (view_at w.views k).headers i ≤ 0). omega arith)
    (cases_lt 0 (bag (view_at w.views k).headers i))) in
    let b =
    desks-le (λ (x : Desk). bag (own_shelf x) i) (λ (x : Desk). bag (shelf x) i) w.desks
    (λ x. own_shelf-le x i) in
    omega arith

abbrev Headed : Play → Type 0
Headed p = HeaderLaw p.after

module _ (w : World) (k : ℕ) (four : FourLaws w) (here : k < length w.views)
    (busy : 0 < (view_at w.views k).part) (law : HeaderLaw w) where
  -- a step that changes neither headers nor holds
  same : (u : View) → u.headers ≡ (view_at w.views k).headers → u.holds ≡ (view_at w.views k).holds →
      HaveHeaders (set w.views k u) w.desks
  same u headers holds =
      of_view w.views w.desks k u here law
      (λ i h.
      subst (λ (xs : List ℕ). 0 < bag xs i) (sym holds)
      (law.held k i (subst (λ (xs : List ℕ). 0 < bag xs i) headers h)))
      (λ i. let a = ap (λ (xs : List ℕ). bag xs i) headers in let b = law.once i in omega arith)

  -- a step on a desk that is full neither before nor afterwards, which changes neither headers nor
  -- holds
  same_desk : (d : ℕ) (x : Desk) (u : View) (m n : ℕ) → d < length w.desks → (desk_at w.desks d).word ≡ m → m ≢ 2 →
      x.word ≡ n → n ≢ 2 → u.headers ≡ (view_at w.views k).headers →
      u.holds ≡ (view_at w.views k).holds → HaveHeaders (set w.views k u) (set w.desks d x)
  same_desk d x u m n inside was not_m is not_n headers holds =
      of_desk w.views w.desks k u here law
      (λ i h.
      subst (λ (xs : List ℕ). 0 < bag xs i) (sym holds)
      (law.held k i (subst (λ (xs : List ℕ). 0 < bag xs i) headers h)))
      d x inside
      (λ i. let a = ap (λ (xs : List ℕ). bag xs i) headers in let b = law.once i in
      omega (arith, no_own x n is not_n i, no_own (desk_at w.desks d) m was not_m i))

  -- holds have ended, and the headers are those that are still held
  less : (u : View) → u.headers ≡ still_held (view_at w.views k).headers u.holds → HaveHeaders (set w.views k u) w.desks
  less u headers =
      of_view w.views w.desks k u here law
      (λ i h.
      still-held (view_at w.views k).headers u.holds i
      (subst (λ (xs : List ℕ). 0 < bag xs i) headers h))
      (λ i. let a = ap (λ (xs : List ℕ). bag xs i) headers in let b = law.once i in
      omega (arith, still-le (view_at w.views k).headers u.holds i))

  -- what is claimed was nobody's header
  claims : (i : ℕ) (u : View) → 0 < bag (view_at w.views k).hand i →
      u.headers ≡ (view_at w.views k).headers ++ i ∷ [] →
      u.holds ≡ (view_at w.views k).holds ++ i ∷ [] → HaveHeaders (set w.views k u) w.desks
  claims i u mine headers holds =
      let at = in_hand w k here busy four.stack four.counts i mine in
      let none : all_headers i w.views w.desks ≡ 0 =
      (let a = at.3 in omega (arith, headers-le w law i)) in
      let v = view_at w.views k in
      of_view w.views w.desks k u here law
      (λ x h.
      subst (λ (xs : List ℕ). 0 < bag xs x) (sym holds) (at_or_else i
      (λ y. 0 < bag (v.headers ++ i ∷ []) y → 0 < bag (v.holds ++ i ∷ []) y)
      (λ g. omega (arith, times-last i v.holds))
      (λ y n g.
      let c = law.held k y (omega (arith, times-but_last y i v.headers n)) in
      omega (arith, times-but_last y i v.holds n))
      x (subst (λ (xs : List ℕ). 0 < bag xs x) headers h)))
      (λ x.
      let a = ap (λ (xs : List ℕ). bag xs x) headers in
      let c : all_headers x w.views w.desks + bag (v.headers ++ i ∷ []) x ≤ 1 + bag v.headers x =
      at_or_else i
      (λ y. all_headers y w.views w.desks + bag (v.headers ++ i ∷ []) y ≤ 1 + bag v.headers y)
      (omega (arith, times-last i v.headers))
      (λ y n. let b = law.once y in omega (arith, times-but_last y i v.headers n)) x in
      omega arith)

  -- a hold more, and the headers are the same
  more : (u : View) (i : ℕ) → u.headers ≡ (view_at w.views k).headers →
      u.holds ≡ (view_at w.views k).holds ++ i ∷ [] → HaveHeaders (set w.views k u) w.desks
  more u i headers holds =
      of_view w.views w.desks k u here law
      (λ x h.
      subst (λ (xs : List ℕ). 0 < bag xs x) (sym holds)
      (let a = law.held k x (subst (λ (xs : List ℕ). 0 < bag xs x) headers h) in
      omega (arith, times-append x (view_at w.views k).holds (i ∷ []))))
      (λ x. let a = ap (λ (xs : List ℕ). bag xs x) headers in let b = law.once x in omega arith)

  -- own elements that were headers pass to the desk
  gives_away : (d : ℕ) (p : Packet) (u : View) →
      (view_at w.views k).work ≡ Some (record { desk = d; phase = Filled p }) →
      OwnsHeaders (view_at w.views k) p →
      u.headers ≡ still_held (minus (view_at w.views k).headers (own_of_packet p)) u.holds →
      HaveHeaders (set w.views k u)
      (set w.desks d (record { word = 2; slot = (desk_at w.desks d).slot }))
  gives_away d p u work own headers =
      let v = view_at w.views k in
      let o = desk_at w.desks d in
      let is = word_filling w k d here four (Filled p) work refl in
      let there = slot_now w k d here four (Filled p) work in
      of_desk w.views w.desks k u here law
      (λ i h.
      still-held (minus v.headers (own_of_packet p)) u.holds i
      (subst (λ (xs : List ℕ). 0 < bag xs i) headers h))
      d _ (desk_inside w.desks d (omega arith))
      (λ i.
      let a = ap (λ (xs : List ℕ). bag xs i) headers in
      let b = law.once i in
      let c = own.1 i in
      let n = no_own o 1 is (λ e. omega arith) i in
      let f = full_own (record { word = 2; slot = o.slot }) p refl there i in
      omega (
        arith,
        still-le (minus v.headers (own_of_packet p)) u.holds i,
        times-minus i v.headers (own_of_packet p),
      ))

  -- a desk is seized, and its packet's own elements pass to the headers
  takes_over : (d : ℕ) (p : Packet) (u : View) → d < length w.desks → (desk_at w.desks d).word ≡ 2 →
      (desk_at w.desks d).slot ≡ Some p → u.headers ≡ (view_at w.views k).headers ++ own_of_packet p
      → u.holds ≡ (view_at w.views k).holds ++ holds_of_packet p →
      HaveHeaders (set w.views k u)
      (set w.desks d (record { word = 3; slot = (desk_at w.desks d).slot }))
  takes_over d p u inside two there headers holds =
      let v = view_at w.views k in
      let o = desk_at w.desks d in
      of_desk w.views w.desks k u here law
      (λ i h.
      subst (λ (xs : List ℕ). 0 < bag xs i) (sym holds)
      (let g : 0 < bag (v.headers ++ own_of_packet p) i =
      subst (λ (xs : List ℕ). 0 < bag xs i) headers h in
      let a = times-append i v.headers (own_of_packet p) in
      let b = times-append i v.holds (holds_of_packet p) in
      let c = own_held p i in
      ⊎_elim (λ (l : 0 < bag v.headers i). let e = law.held k i l in omega arith)
      (λ (l : bag v.headers i ≤ 0). omega arith) (cases_lt 0 (bag v.headers i))))
      d _ inside
      (λ i.
      let a = ap (λ (xs : List ℕ). bag xs i) headers in
      let b = law.once i in
      let n = no_own (record { word = 3; slot = o.slot }) 3 refl (λ e. omega arith) i in
      let f = full_own o p two there i in
      omega (arith, times-append i v.headers (own_of_packet p)))

  -- ---- the kinds of step

  cuts : (l : Look) → Headed (cut w k (view_at w.views k) l)
  cuts l = cond_both (same_head w.head l.head) _ _ Headed (λ s. same _ refl refl) (λ s. same _ refl refl)

  pushes : (l : Look) (c : Chain) → Headed (push w k (view_at w.views k) l c)
  pushes l c = cond_both (same_head w.head l.head) _ _ Headed (λ s. same _ refl refl) (λ s. same _ refl refl)

  soles : (i : ℕ) (free : Bool) → Headed (sole w k (view_at w.views k) i free)
  soles i free = cond_both (free && (slice_index w.counts i == 1)) _ _ Headed (λ e. less _ refl) (λ e. law)

  raises : (i old : ℕ) → Headed (raise w k (view_at w.views k) i old)
  raises i old = cond_both (slice_index w.counts i == old) _ _ Headed (λ e. more _ i refl refl) (λ e. law)

  holds_desk : (d : ℕ) → d < length w.desks → Headed (hold w k (view_at w.views k) d)
  holds_desk d inside =
      cond_both ((desk_at w.desks d).word == 0) _ _ Headed
      (λ e.
      same_desk d _ _ 0 1 inside (eqb-true _ _ e) (λ z. omega arith) refl (λ z. omega arith) refl
      refl)
      (λ e. law)

  puts_in : (d : ℕ) (p : Packet) (ph : Phase) → phase_at d (view_at w.views k).work ≡ Some ph →
      IfSome (put_in w k (view_at w.views k) d p ph) Headed
  puts_in d p ToFill e =
      let is = word_filling w k d here four ToFill (phase_there d (view_at w.views k).work ToFill e) refl in
      same_desk d _ _ 1 1 (desk_inside w.desks d (omega arith)) is (λ z. omega arith) is
      (λ z. omega arith) refl refl
  puts_in d p (Filled q) e = tt
  puts_in d p (Seized q) e = tt
  puts_in d p TakenOut e = tt

  opens : (d : ℕ) (ph : Phase) → phase_at d (view_at w.views k).work ≡ Some ph →
      IfSome (given_away ph) (OwnsHeaders (view_at w.views k)) →
      IfSome (open_desk w k (view_at w.views k) d ph) Headed
  opens d ToFill e own = tt
  opens d (Filled p) e own = when_played Headed _ (open_with w k (view_at w.views k) d p)
      (λ t. gives_away d p _ (phase_there d (view_at w.views k).work (Filled p) e) own refl)
  opens d (Seized p) e own = tt
  opens d TakenOut e own = tt

  seizes : (d : ℕ) → d < length w.desks → IfSome (seize w k (view_at w.views k) d) Headed
  seizes d inside =
      cond_both ((desk_at w.desks d).word == 2)
      (given (desk_at w.desks d).slot (λ p. Some (seize_with w k (view_at w.views k) d p))) _
      (λ o. IfSome o Headed)
      (λ e.
      given_played Headed (desk_at w.desks d).slot _
      (λ p s. takes_over d p _ inside (eqb-true _ _ e) s refl refl))
      (λ e. law)

  takes_out : (d : ℕ) (ph : Phase) → phase_at d (view_at w.views k).work ≡ Some ph →
      IfSome (take_out w k (view_at w.views k) d ph) Headed
  takes_out d ToFill e = tt
  takes_out d (Filled p) e = tt
  takes_out d (Seized p) e =
      let is =
      word_emptying w k d here four (Seized p)
      (phase_there d (view_at w.views k).work (Seized p) e) refl in
      same_desk d _ _ 3 3 (desk_inside w.desks d (omega arith)) is (λ z. omega arith) is
      (λ z. omega arith) refl refl
  takes_out d TakenOut e = tt

  clears : (d : ℕ) (ph : Phase) → phase_at d (view_at w.views k).work ≡ Some ph →
      IfSome (clear w k (view_at w.views k) d ph) Headed
  clears d ToFill e = tt
  clears d (Filled p) e = tt
  clears d (Seized p) e = tt
  clears d TakenOut e =
      let is =
      word_emptying w k d here four TakenOut (phase_there d (view_at w.views k).work TakenOut e)
      refl in
      same_desk d _ _ 3 0 (desk_inside w.desks d (omega arith)) is (λ z. omega arith) refl
      (λ z. omega arith) refl refl

  pub row_headed : (s : Step) → in_range w s ≡ true → OpensOwn (view_at w.views k) s →
      IfSome (row w k (view_at w.views k) s) Headed
  row_headed LoadLength r own = law
  row_headed (Reserve old n) r own =
      when_played Headed _ (reserve w k (view_at w.views k) old n)
      (λ t. cond_both (w.length == old) _ _ Headed (λ e. same _ refl refl) (λ e. law))
  row_headed (Add n) r own = when_played Headed _ _ (λ t. same _ refl refl)
  row_headed LoadHead r own = same _ refl refl
  row_headed (LoadLink i) r own =
      given_played Headed (view_at w.views k).look _ (λ l e.
      when_played Headed _ (load_link w k (view_at w.views k) i l) (λ t. same _ refl refl))
  row_headed Cut r own =
      given_played Headed (view_at w.views k).look _ (λ l e.
      when_played Headed _ (cut w k (view_at w.views k) l) (λ t. cuts l))
  row_headed (StoreLink i j) r own = when_played Headed _ _ (λ t. same _ refl refl)
  row_headed Push r own =
      given_played Headed (view_at w.views k).look _ (λ l e.
      given_played Headed (view_at w.views k).chain _ (λ c f.
      when_played Headed _ (push w k (view_at w.views k) l c) (λ t. pushes l c)))
  row_headed (Claim i) r own = when_played Headed _ _ (λ t. claims i _ (ltb-true _ _ t) refl refl)
  row_headed (Sole i free) r own = when_played Headed _ _ (λ t. soles i free)
  row_headed (Raise i old) r own = when_played Headed _ _ (λ t. raises i old)
  row_headed (Lower i) r own = when_played Headed _ _ (λ t. less _ refl)
  row_headed (Reset i) r own = when_played Headed _ _ (λ t. same _ refl refl)
  row_headed (Hold d) r own = when_played Headed _ _ (λ t. holds_desk d (ltb-true _ _ r))
  row_headed (PutIn d p) r own = given_played Headed (phase_at d (view_at w.views k).work) _ (puts_in d p)
  row_headed (Open d) r own =
      given_played Headed (phase_at d (view_at w.views k).work) _
      (λ ph e.
      opens d ph e
      (subst (λ (o : Option Phase).
      IfSome o (λ q. IfSome (given_away q) (OwnsHeaders (view_at w.views k)))) e own))
  row_headed (Seize d) r own =
      cond_both (is_none (view_at w.views k).work) (seize w k (view_at w.views k) d) None
      (λ o. IfSome o Headed) (λ t. seizes d (ltb-true _ _ r)) (λ t. tt)
  row_headed (TakeOut d) r own = given_played Headed (phase_at d (view_at w.views k).work) _ (takes_out d)
  row_headed (Clear d) r own = given_played Headed (phase_at d (view_at w.views k).work) _ (clears d)
