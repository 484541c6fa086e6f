-- Steps and tries after one another.
use Rattle.std.proofs.Common.{◌≡◌, ◌≢◌, ℕ, ◌+◌, List, [], ◌∷◌, ◌++◌, refl, sym, ap, ◌∙◌, arith, append_assoc, append-nil, subst}
use Rattle.std.specs.Prelude.{Result, Err, Option, None}
use Rattle.std.proofs.lemmas.List.{length-append}
use Rattle.std.proofs.lemmas.List.Elements.{All-append, All-cons}
use Rattle.commons.specs.declared.refusal.Refusal.{Refusal}
use Rattle.commons.specs.declared.refusal.Refusal.TheVariants.{HeadSpent, RefSpent, Contended}
use Rattle.commons.specs.declared.limits.Limits.{Limits}
use Rattle.commons.specs.declared.packet.Seg.{Seg}
use Rattle.step_core.specs.declared.view.Look.{Look}
use Rattle.step_core.specs.declared.view.View.{View}
use Rattle.step_core.specs.declared.step.Step.{Step}
use Rattle.step_core.specs.declared.step.Outcome.{Outcome}
use Rattle.ground.specs.Seats.{Grounded, Seated, IsOf, Note, after, Steps, MayLie, KnowsLength, KnowsCount}
use Rattle.step_core.specs.Views.{view_after}
use Rattle.stack_lf.specs.Tries.{Try, notes, notes_of}
use Rattle.stack_lf.specs.Effects.{HasLost, EndsAfter, Repeats, tried_to, seen_as}

-- steps after steps; the view afterwards is made of the one between
pub more : (s t u : Seated) (a : List Note) (v : View) (b : List Note) (w : View → View) →
    t ≡ after s a v → u ≡ after t b (w t.known.view) → u ≡ after s (a ++ b) (w v)
more s t u a v b w e f =
    f ∙ (ap (λ (x : Seated). after x b (w x.known.view)) e
    ∙ ap (λ (l : List Note). record s { known = record s.known { view = w v; steps = l } })
    (append_assoc s.known.steps a b))

-- steps, and one more
pub one_more : (s t u : Seated) (a : List Note) (v : View) (st : Step) (o : Outcome) →
    t ≡ after s a v → Steps st o t u → u ≡ after s (a ++ (st, o) ∷ []) (view_after None st o v)
one_more s t u a v st o e f = more s t u a v ((st, o) ∷ []) (view_after None st o) e f

-- the seat stays one of its ground
pub still_of : (g : Grounded) (s t : Seated) (a : List Note) (v : View) → IsOf g s →
    t ≡ after s a v → IsOf g t
still_of g s t a v h e = record {
  table = ap (λ (x : Seated). x.table) e ∙ h.table;
  limits =
      ap (λ (x : Seated). x.known.limits) e ∙ h.limits;
}

-- the steps of tries one after another, in their order
pub notes_of-append : (xs ys : List Try) → notes_of (xs ++ ys) ≡ notes_of xs ++ notes_of ys
notes_of-append [] ys = refl
notes_of-append (x ∷ xs) ys = ap (λ l. notes x ++ l) (notes_of-append xs ys)
    ∙ sym (append_assoc (notes x) (notes_of xs) (notes_of ys))

-- tries after tries
pub tries_more : (s t u : Seated) (xs ys : List Try) (v : View) (w : View → View) →
    t ≡ tried_to s xs v → u ≡ tried_to t ys (w t.known.view) → u ≡ tried_to s (xs ++ ys) (w v)
tries_more s t u xs ys v w e f = more s t u (notes_of xs) v (notes_of ys) w e f
    ∙ ap (λ (l : List Note). after s l (w v)) (sym (notes_of-append xs ys))

-- one try after tries
pub try_more : (s t u : Seated) (xs : List Try) (y : Try) (v : View) (w : View → View) →
    t ≡ tried_to s xs v → u ≡ after t (notes y) (w t.known.view) →
    u ≡ tried_to s (xs ++ y ∷ []) (w v)
try_more s t u xs y v w e f =
    more s t u (notes_of xs) v (notes y) w e f
    ∙ ap (λ (l : List Note). after s l (w v))
    (sym (notes_of-append xs (y ∷ []) ∙ ap (λ (l : List Note). notes_of xs ++ l)
    (append-nil (notes y))))

-- ---- tries that lost

-- no try yet
pub lost_none : (P : Try → Type 0) (s : Seated) → HasLost P 0 s s
lost_none P s = (
  [],
  s.known.view.look,
  s.known.view.seen,
  refl,
  (λ k d l. absurd (omega arith)),
  ap
      (λ (l : List Note). record s { known = record s.known { steps = l } })
      (sym (append-nil s.known.steps)),
)

-- one
pub lost_once : (P : Try → Type 0) (s t : Seated) (x : Try) (look : Option Look) (seen : ℕ) → P x →
    t ≡ after s (notes x) (seen_as s.known.view look seen) → HasLost P 1 s t
lost_once P s t x look seen one e = (
  x ∷ [],
  look,
  seen,
  refl,
  All-cons P x [] one (λ k d l. absurd (omega arith)),
  e ∙ ap (λ (l : List Note). after s l (seen_as s.known.view look seen))
      (sym (append-nil (notes x))),
)

-- one more
pub lost_more : (P : Try → Type 0) (k : ℕ) (s t u : Seated) → HasLost P k s t → HasLost P 1 t u →
    HasLost P (k + 1) s u
lost_more P k s t u lost one =
    let before = lost.3 in
    let more_one = one.3 in (
      lost.0 ++ one.0,
      one.1,
      one.2,
      omega (arith, length-append lost.0 one.0),
      All-append P lost.0 one.0 lost.4 one.4,
      tries_more s t u lost.0 one.0 (seen_as s.known.view lost.1 lost.2)
          (λ v. seen_as v one.1 one.2) lost.5 one.5,
    )

-- the seat stays one of its ground
pub lost_of : (g : Grounded) (P : Try → Type 0) (k : ℕ) (s t : Seated) → IsOf g s →
    HasLost P k s t → IsOf g t
lost_of g P k s t of lost =
    still_of g s t (notes_of lost.0) (seen_as s.known.view lost.1 lost.2) of lost.5

-- a last try after those that lost
pub last_try : (P : Try → Type 0) (k : ℕ) (s t u : Seated) (lost : HasLost P k s t) (x : Try)
    (w : View → View) → u ≡ after t (notes x) (w t.known.view) →
    u ≡ tried_to s (lost.0 ++ x ∷ []) (w (seen_as s.known.view lost.1 lost.2))
last_try P k s t u lost x w e =
    try_more s t u lost.0 x (seen_as s.known.view lost.1 lost.2) w lost.5 e

-- a loop whose last try was refused
pub ends_refused : (tries : ℕ) (P : Try → Type 0)
    (Ends : Result (Unit {0}) Refusal → Seated → Seated → Type 0) (cause : Refusal) (s t : Seated) →
    cause ≢ Contended → EndsAfter tries P (Ends (Err cause)) s t → Repeats tries P Ends (Err cause) s t
ends_refused tries P Ends Contended s t other h = absurd (other refl)
ends_refused tries P Ends cause s t other h = h

-- a head that is spent is another cause
pub spent_other : HeadSpent ≢ Contended
spent_other e = absurd (cc)

pub limit_other : RefSpent ≢ Contended
limit_other e = absurd (cc)

-- ---- what a seat knew before them

-- what may lie beside a view doesn't depend on what it saw of the head
unseen : (l : Limits) (v : View) (look : Option Look) (seen : ℕ) (desks : List (Option (List Seg))) →
    MayLie l (seen_as v look seen) desks → MayLie l v desks
unseen l v look seen desks lie = record {
  as_many = lie.as_many;
  packets = lie.packets;
  below = lie.below;
  apart = lie.apart;
  limited = lie.limited;
  own_once = lie.own_once;
  work = lie.work;
}

-- a length that the seat knows after lost tries it knew before them
pub knew_length : (P : Try → Type 0) (k n : ℕ) (s t : Seated) → HasLost P k s t →
    KnowsLength t.known n → KnowsLength s.known n
knew_length P k n s t lost knows =
    let now = subst (λ (z : Seated). KnowsLength z.known n) lost.5 knows in
    λ whole.
    let lie = now whole in
    (lie.0, lie.1, unseen s.known.limits s.known.view lost.1 lost.2 lie.0 lie.2, lie.3)

-- and so of a count
pub knew_count : (P : Try → Type 0) (k i n : ℕ) (s t : Seated) → HasLost P k s t →
    KnowsCount t.known i n → KnowsCount s.known i n
knew_count P k i n s t lost knows =
    let now = subst (λ (z : Seated). KnowsCount z.known i n) lost.5 knows in
    λ whole.
    let lie = now whole in
    (lie.0, lie.1, unseen s.known.limits s.known.view lost.1 lost.2 lie.0 lie.2, lie.3)
