-- The links of a list that is pushed.
use Rattle.std.proofs.Common.{◌≡◌, ◌≢◌, ℕ, zero, suc, ◌+◌, ◌-◌, ◌<◌, ◌≤◌, ◌==◌, true, false, List, [], ◌∷◌, ◌++◌, length, take, reverse, refl, sym, ap, ◌∙◌, subst, arith, append-nil, get_or}
use Rattle.std.specs.Prelude.{Option, Some, None, ◌&&◌, nat_lt}
use Rattle.std.proofs.lemmas.List.{reverse-append, length-reverse}
use Rattle.std.proofs.lemmas.Bool.{eq-eqb, ne_eqb, cond-true, cond-false, and_from, lt-ltb}
use Rattle.commons.specs.Bag.{bag, one}
use Rattle.commons.proofs.Bags.{bag-cons, bag-append, bag-reverse, bag-single, one-same, bag-take-le}
use Rattle.step_core.specs.Bags.{minus}
use Rattle.step_core.proofs.Bags.{times-minus}
use Rattle.step_core.specs.Links.{first_value, last_value, link_value}
use Rattle.step_core.specs.declared.view.Chain.{Chain}
use Rattle.std.proofs.Math.Seq.{take-suc}
use Rattle.step_core.specs.declared.view.Head.{Head}
use Rattle.step_core.specs.declared.view.View.{View}
use Rattle.step_core.specs.declared.step.Step.TheVariants.{StoreLink, LoadHead, Push}
use Rattle.step_core.specs.declared.step.Outcome.TheVariants.{Done, HeadIs, Won, LostTo}
use Rattle.step_core.specs.declared.step.Outcome.{Outcome}
use Rattle.commons.specs.Calls.{spent}
use Rattle.ground.specs.Seats.{Seated, Note, after, Steps, element_of}
use Rattle.step_core.specs.Views.{view_after, MayPush, chain_after}
use Rattle.stack_lf.specs.Effects.{start}
use Rattle.stack_lf.specs.Tries.{last_of, stores, notes, Pushed, PushFailed}
use Rattle.stack_lf.specs.Effects.{chain_of, Stored, push_as, seen_as}
use Rattle.stack_lf.proofs.Composing.{more, one_more}

pub bag-minus : (xs ys : List ℕ) (i : ℕ) → bag (minus xs ys) i ≡ bag xs i - bag ys i
bag-minus xs ys i = times-minus i xs ys

-- a link value is that of the element which it names
pub link-element : (v : ℕ) → link_value (element_of v) ≡ v
link-element zero = refl
link-element (suc i) = refl

-- what leads to the last of a list that one is added to leads to that one
pub last_value-append : (xs : List ℕ) (y : ℕ) → last_value (xs ++ y ∷ []) ≡ suc y
last_value-append [] y = refl
last_value-append (x ∷ []) y = refl
last_value-append (x ∷ z ∷ xs) y = last_value-append (z ∷ xs) y

-- a list turned around: what leads to its first, and its last
pub reverse-push : (xs : List ℕ) (x : ℕ) → reverse (xs ++ x ∷ []) ≡ x ∷ reverse xs
reverse-push xs x = reverse-append xs (x ∷ [])

pub last-reverse : (x : ℕ) (xs : List ℕ) → last_value (reverse (x ∷ xs)) ≡ suc x
last-reverse x xs = ap last_value (reverse-append (x ∷ []) xs) ∙ last_value-append (reverse xs) x

-- and so of a list that is stored
pub last_of-push : (v : ℕ) (xs : List ℕ) (x : ℕ) → last_of v (xs ++ x ∷ []) ≡ suc x
last_of-push v [] x = refl
last_of-push v (y ∷ ys) x = last_of-push (suc y) ys x

-- the steps that store the links of a list with one more are those of the list and one
pub stores-push : (v : ℕ) (xs : List ℕ) (x : ℕ) →
    stores v (xs ++ x ∷ []) ≡ stores v xs ++ stores (last_of v xs) (x ∷ [])
stores-push v [] x = refl
stores-push v (y ∷ ys) x = ap (λ (l : List Note). (StoreLink y (element_of v), Done) ∷ l)
    (stores-push (suc y) ys x)

-- the value that leads to the first of a list, or this one where it is empty
abbrev first_or : ℕ → List ℕ → ℕ
first_or v [] = v
first_or v (x ∷ xs) = suc x

-- what leads to the first of a list with one more, which is the one only where the list was empty
first_or-append : (v y : ℕ) (zs : List ℕ) → first_or v (zs ++ y ∷ []) ≡ first_or (suc y) zs
first_or-append v y [] = refl
first_or-append v y (z ∷ zs) = refl

-- the last of a list is the first of it turned around
last_of-reverse : (v : ℕ) (ys : List ℕ) → last_of v ys ≡ first_or v (reverse ys)
last_of-reverse v [] = refl
last_of-reverse v (y ∷ ys) = last_of-reverse (suc y) ys
    ∙ (sym (first_or-append v y (reverse ys)) ∙ ap (first_or v) (sym (reverse-append (y ∷ []) ys)))

-- the first of a list that has one, whatever stands for none
first_or-some : (v w : ℕ) (zs : List ℕ) → 0 < length zs → first_or v zs ≡ first_or w zs
first_or-some v w [] h = absurd (omega arith)
first_or-some v w (z ∷ zs) h = refl

-- what leads to the first, or 0 where the list is empty
first_value-or : (zs : List ℕ) → first_value zs ≡ first_or 0 zs
first_value-or [] = refl
first_value-or (z ∷ zs) = refl

-- the last of a list is the first of its chain
pub first-reverse : (v : ℕ) (ys : List ℕ) → 0 < length ys → last_of v ys ≡ first_value (reverse ys)
first-reverse v ys h = last_of-reverse v ys
    ∙ (first_or-some v 0 (reverse ys) (omega (arith, length-reverse ys))
    ∙ sym (first_value-or (reverse ys)))

abbrev the_chain : Chain → Option Chain
the_chain c = Some c

-- a chain with one more
pub chain-push : (top x : ℕ) (xs : List ℕ) → bag xs x ≡ 0 →
    ◌≡◌ {A = Option Chain} (Some (chain_after (chain_of top xs) x (last_of top xs)))
    (chain_of top (xs ++ x ∷ []))
chain-push top x [] h = refl
chain-push top x (y ∷ ys) h =
    let rs : List ℕ = reverse (y ∷ ys) in
    let other : y ≢ x = λ e. absurd (omega
    (arith, bag-cons y ys x, one-same x, ap (λ (z : ℕ). one z x) e)) in
    let a : (last_value rs == suc x) ≡ false =
    ne_eqb _ _ (λ e. other (let s : suc y ≡ suc x = sym (last-reverse y ys) ∙ e in
    omega arith)) in
    let none : bag rs x ≡ 0 = omega (arith, bag-reverse (y ∷ ys) x) in
    let b : (bag rs x == 0) ≡ true = eq-eqb _ _ none in
    let d : (last_of top (y ∷ ys) == first_value rs) ≡ true =
    eq-eqb _ _ (first-reverse top (y ∷ ys) (omega arith)) in
    let both : ((bag rs x == 0) && (last_of top (y ∷ ys) == first_value rs)) ≡ true =
    λ i. b i && d i in
    ap (λ (c : Chain). Some c) (cond-false (last_value rs == suc x) _ _ a
    ∙ (cond-true _ _ _ both ∙ ap (λ (l : List ℕ). record { items = l; end = top })
    (sym (reverse-push (y ∷ ys) x))))

-- an element at a place of a list of distinct ones isn't among those before
pub place-new : (xs : List ℕ) (k : ℕ) → k < length xs → ((i : ℕ) → bag xs i ≤ 1) →
    (bag (take k xs) (get_or xs k 0) ≡ 0) × (0 < bag xs (get_or xs k 0))
place-new xs k less once =
    let x = get_or xs k 0 in
    let e = ap (λ (l : List ℕ). bag l x) (take-suc xs k 0 less) in
    let m = once x in
    let s = bag-take-le (suc k) xs x in (
      omega (arith, bag-append (take k xs) (x ∷ []) x, bag-single x x, one-same x),
      omega
          (arith, bag-append (take k xs) (x ∷ []) x, bag-single x x, one-same x),
    )

-- one link more
pub stored-push : (top : ℕ) (xs : List ℕ) (x : ℕ) (s t u : Seated) → bag xs x ≡ 0 →
    Stored top xs s t → Steps (StoreLink x (element_of (last_of top xs))) Done t u →
    Stored top (xs ++ x ∷ []) s u
stored-push top xs x s t u new e f =
    one_more s t u (stores top xs) (record s.known.view { chain = chain_of top xs })
    (StoreLink x (element_of (last_of top xs))) Done e f
    ∙ ap (λ (z : List Note × Option Chain). after s z.0 (record s.known.view { chain = z.1 }))
    (λ j. (
      sym (stores-push top xs x) j,
      (ap (λ (v : ℕ). the_chain (chain_after (chain_of top xs) x v)) (link-element (last_of top xs))
          ∙ chain-push top x xs new) j,
    ))

-- no link is stored yet
pub stored-none : (top : ℕ) (s : Seated) → s.known.view.chain ≡ None → Stored top [] s s
stored-none top s e =
    ap (λ (z : List Note × Option Chain). record s {
      known =
          record s.known { view = record s.known.view { chain = z.1 }; steps = z.0 };
    })
    (λ j. (sym (append-nil s.known.steps) j, e j))

-- a list of one or more is a chain
pub chain-some : (top : ℕ) (xs : List ℕ) → 0 < length xs →
    ◌≡◌ {A = Option Chain} (chain_of top xs) (Some (record { items = reverse xs; end = top }))
chain-some top [] h = absurd (omega arith)
chain-some top (x ∷ xs) h = refl

-- the view of a seat that has read a head and stored the links of a list down to its top
abbrev pub linked : View → Head → List ℕ → View
linked v h xs = record v {
  look = Some (start h);
  seen = h.count;
  chain =
      Some (record { items = reverse xs; end = h.top });
}

-- the seat after it has read the head and stored the links of a list
pub links_stored : (h : Head) (xs : List ℕ) (s t u : Seated) → 0 < length xs →
    Steps LoadHead (HeadIs h) s t → Stored h.top xs t u →
    u ≡ after s ((LoadHead, HeadIs h) ∷ stores h.top xs) (linked s.known.view h xs)
links_stored h xs s t u some e f =
    more s t u ((LoadHead, HeadIs h) ∷ [])
    (record s.known.view { look = Some (start h); seen = h.count }) (stores h.top xs)
    (λ v. record v { chain = Some (record { items = reverse xs; end = h.top }) }) e
    (f ∙ ap (λ (c : Option Chain). after t (stores h.top xs) (record t.known.view { chain = c }))
    (chain-some h.top xs some))

-- a push may be tried where a head was read whose count isn't spent, and a list is chained down to
-- its top
pub may_push : (h : Head) (xs : List ℕ) (first : ℕ) (s t u : Seated) → 0 < length xs →
    h.count < spent → first ≡ last_of h.top xs → Steps LoadHead (HeadIs h) s t →
    Stored h.top xs t u → MayPush u.known.view h first
may_push h xs first s t u some less is e f =
    subst (λ (z : Seated). MayPush z.known.view h first) (sym (links_stored h xs s t u some e f)) (
      start h,
      record { items = reverse xs; end = h.top },
      refl,
      refl,
      and_from (h.top == h.top) (nat_lt h.count spent) (eq-eqb h.top h.top refl)
          (lt-ltb h.count spent less),
      refl,
      sym (is ∙ first-reverse h.top xs some),
    )

-- and after the exchange of the head
pub push_tried : (h : Head) (xs : List ℕ) (o : Outcome) (s t u w : Seated) → 0 < length xs →
    Steps LoadHead (HeadIs h) s t → Stored h.top xs t u → Steps Push o u w
    → w ≡ after s ((LoadHead, HeadIs h) ∷ (stores h.top xs ++ (Push, o) ∷ []))
    (view_after None Push o (linked s.known.view h xs))
push_tried h xs o s t u w some e f d = one_more s u w ((LoadHead, HeadIs h) ∷ stores h.top xs)
    (linked s.known.view h xs) Push o (links_stored h xs s t u some e f) d

-- a push that won: the list has left the hand and is a credit, and no chain is left
pub push_wins : (h : Head) (xs : List ℕ) (s t u w : Seated) → 0 < length xs →
    s.known.view.chain ≡ None → Steps LoadHead (HeadIs h) s t → Stored h.top xs t u →
    Steps Push Won u w
    → w ≡ after s (notes (Pushed h xs)) (push_as xs s.known.view None (h.count + 1))
push_wins h xs s t u w some none e f d =
    push_tried h xs Won s t u w some e f d
    ∙ ap (λ (z : ℕ × Option Chain). after s (notes (Pushed h xs))
    (record s.known.view {
      hand = minus s.known.view.hand (reverse xs);
      credit =
          s.known.view.credit + z.0;
      look = None;
      seen = h.count + 1;
      chain = z.1;
    }))
    (λ j. (length-reverse xs j, sym none j))

-- a push that lost: no chain is left, and the seat has seen the head that it found
pub push_loses : (h found : Head) (xs : List ℕ) (s t u w : Seated) → 0 < length xs →
    s.known.view.chain ≡ None → Steps LoadHead (HeadIs h) s t → Stored h.top xs t u →
    Steps Push (LostTo found) u w
    → w ≡ after s (notes (PushFailed h xs found))
    (seen_as s.known.view None found.count)
push_loses h found xs s t u w some none e f d =
    push_tried h xs (LostTo found) s t u w some e f d
    ∙ ap (λ (c : Option Chain). after s (notes (PushFailed h xs found))
    (record s.known.view { look = None; seen = found.count; chain = c })) (sym none)

-- the part of a seat that has read a head and stored the links of a list
pub linked_part : (h : Head) (xs : List ℕ) (s t u : Seated) → 0 < length xs →
    Steps LoadHead (HeadIs h) s t → Stored h.top xs t u → u.known.view.part ≡ s.known.view.part
linked_part h xs s t u some e f = ap (λ (z : Seated). z.known.view.part)
    (links_stored h xs s t u some e f)
