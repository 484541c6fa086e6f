-- A whole get, a whole put and a whole raise.
use Rattle.std.proofs.Common.{◌≡◌, ℕ, ◌+◌, ◌-◌, inl, inr, ◌<◌, List, [], ◌∷◌, ◌++◌, length, reverse, refl, sym, ap, ◌∙◌, subst, arith, append_assoc}
use Rattle.std.specs.Prelude.{Result, Ok, Err, Option, IfOk}
use Rattle.commons.specs.declared.limits.Limits.{Limits}
use Rattle.commons.specs.declared.refusal.Refusal.{Refusal}
use Rattle.commons.specs.declared.refusal.Refusal.TheVariants.{NoEntries, HeadSpent, RefSpent, Contended}
use Rattle.step_core.specs.declared.view.Look.{Look}
use Rattle.step_core.specs.declared.step.Step.TheVariants.{Add}
use Rattle.step_core.specs.declared.step.Outcome.TheVariants.{Done}
use Rattle.step_core.specs.Bags.{minus}
use Rattle.step_core.specs.Views.{raised}
use Rattle.ground.specs.Seats.{Seated, Steps, KnowsCount}
use Rattle.stack_lf.specs.Tries.{Try, Reserved, Short, Added, Raised, Counted, IsLostReserve, IsLostCut, IsLostPush, IsLostRaise, KnowsShort, KnowsEnough, KnowsSpent, KnowsRaised}
use Rattle.stack_lf.specs.Effects.{tried_to, seen_as, cut_as, push_as, IsAlone, Repeats, EndsReserve, EndsCut, EndsPush, EndsRaise, GetsOnWords, PutsOnWords, Raises}
use Rattle.stack_lf.proofs.Composing.{try_more, tries_more, last_try, knew_length, knew_count}

-- ---- a get

abbrev pub Reserves : ℕ → ℕ → Result (Unit {0}) Refusal → Seated → Seated → Type 0
Reserves tries n r s t = Repeats tries (IsLostReserve n) (EndsReserve n) r s t

abbrev pub Cuts : ℕ → ℕ → List ℕ → Result (Unit {0}) Refusal → Seated → Seated → Type 0
Cuts tries n xs r s t = Repeats tries (IsLostCut n) (EndsCut n xs) r s t

-- what the seat of a reservation that won is
pub reserved_seat : (tries n : ℕ) (s t : Seated) (r : Reserves tries n (Ok tt) s t) →
    t ≡ tried_to s (r.3.0 ++ Reserved n r.4.0 ∷ [])
    (record (seen_as s.known.view r.3.1 r.3.2) { credit = s.known.view.credit + n })
reserved_seat tries n s t r =
    last_try (IsLostReserve n) r.0 s r.1 t r.3 (Reserved n r.4.0)
    (λ v. record v { credit = v.credit + n }) r.4.3

-- a seat that is the only one still is after its reservation
pub alone_reserved : (tries n : ℕ) (s t : Seated) → Reserves tries n (Ok tt) s t → IsAlone s →
    IsAlone t
alone_reserved tries n s t r alone = subst IsAlone (sym (reserved_seat tries n s t r)) alone

-- what a reservation knew of the length
pub reserved_told : (tries n : ℕ) (s t : Seated) → Reserves tries n (Ok tt) s t → KnowsEnough n s
reserved_told tries n s t r =
    (r.4.0, r.4.1, knew_length (IsLostReserve n) r.0 r.4.0 s r.1 r.3 r.4.2)

-- and what a refused one knew of it
pub unreserved_told : (tries n : ℕ) (cause : Refusal) (s t : Seated) →
    Reserves tries n (Err cause) s t → cause ≡ NoEntries → KnowsShort n s
unreserved_told tries n cause s t r e =
    let short = subst (λ (c : Refusal). Reserves tries n (Err c) s t) e r in
    (short.4.0, short.4.1, knew_length (IsLostReserve n) short.0 short.4.0 s short.1 short.3 short.4.2)

-- what was reserved and cut off is no credit more
no_more : (c n : ℕ) (xs : List ℕ) → length xs ≡ n → c + n - length xs ≡ c
no_more c n xs e = omega arith

fewer : (k tries : ℕ) (ts : List Try) → k < tries → length ts ≡ k → length ts < tries
fewer k tries ts less e = omega arith

-- a get that succeeds: a reservation and a cut that won, each behind tries that lost
pub get_met : (tries n : ℕ) (xs : List ℕ) (s t u : Seated) → Reserves tries n (Ok tt) s t →
    Cuts tries n xs (Ok tt) t u → GetsOnWords tries n xs (Ok tt) s u
get_met tries n xs s t u r c =
    let misses : List Try = r.3.0 in
    let cuts : List Try = c.3.0 in
    let v = r.4.0 in
    let won = c.4 in
    let x : Try = won.0 in
    let all = append_assoc misses (Reserved n v ∷ []) (cuts ++ x ∷ []) in (
      (misses ++ Reserved n v ∷ []) ++ (cuts ++ x ∷ []),
      won.1,
      won.2,
      (
        misses,
        cuts,
        v,
        x,
        fewer r.0 tries misses r.2 r.3.3,
        r.3.4,
        r.4.1,
        fewer c.0 tries cuts c.2 c.3.3,
        c.3.4,
        won.3,
        won.4,
        all,
      ),
      tries_more s t u (misses ++ Reserved n v ∷ []) (cuts ++ x ∷ [])
          (record (seen_as s.known.view r.3.1 r.3.2) { credit = s.known.view.credit + n })
          (λ w. cut_as xs w won.1 won.2) (reserved_seat tries n s t r)
          (last_try (IsLostCut n) c.0 t c.1 u c.3 x (λ w. cut_as xs w won.1 won.2) won.5)
          ∙ ap (λ (m : ℕ). tried_to s ((misses ++ Reserved n v ∷ []) ++ (cuts ++ x ∷ []))
          (record (seen_as s.known.view won.1 won.2) { hand = s.known.view.hand ++ xs; credit = m }))
          (no_more s.known.view.credit n xs won.3),
    )

-- a get whose reservation is refused: a length below n was read, or all tries lost
pub get_unreserved : (tries n : ℕ) (xs : List ℕ) (cause : Refusal) (s t : Seated) →
    Reserves tries n (Err cause) s t → GetsOnWords tries n xs (Err cause) s t
get_unreserved tries n xs NoEntries s t r =
    let misses : List Try = r.3.0 in (
      misses ++ Short r.4.0 ∷ [],
      r.3.1,
      r.3.2,
      (misses, r.4.0, fewer r.0 tries misses r.2 r.3.3, r.3.4, r.4.1, refl),
      last_try (IsLostReserve n) r.0 s r.1 t r.3 (Short r.4.0) (λ v. v) r.4.3,
    )
get_unreserved tries n xs Contended s t r = (r.0, r.1, r.2, inl (r.3, r.4), r.5)
get_unreserved tries n xs cause s t r = absurd r.4

same_credit : (c n : ℕ) → c + n - n ≡ c
same_credit c n = omega arith

-- what was reserved is given back
given_back : (s t u w : Seated) (n : ℕ) (ts cuts : List Try) (look before : Option Look)
    (seen first : ℕ) →
    t ≡ tried_to s ts (record (seen_as s.known.view before first) { credit = s.known.view.credit + n }) →
    u ≡ tried_to t cuts (seen_as t.known.view look seen) → Steps (Add n) Done u w
    → w ≡ tried_to s ((ts ++ cuts) ++ Added n ∷ []) (seen_as s.known.view look seen)
given_back s t u w n ts cuts look before seen first e f d =
    try_more s u w (ts ++ cuts) (Added n)
    (record (seen_as s.known.view look seen) { credit = s.known.view.credit + n })
    (λ v. record v { credit = v.credit - n })
    (tries_more s t u ts cuts
    (record (seen_as s.known.view before first) { credit = s.known.view.credit + n })
    (λ v. seen_as v look seen) e f) d
    ∙ ap (λ (m : ℕ). tried_to s ((ts ++ cuts) ++ Added n ∷ [])
    (record (seen_as s.known.view look seen) { credit = m })) (same_credit s.known.view.credit n)

-- a get whose cut is refused: the head was spent, or all tries lost, and what was reserved is given
-- back
pub get_uncut : (tries n : ℕ) (xs : List ℕ) (cause : Refusal) (s t u w : Seated) →
    Reserves tries n (Ok tt) s t → Cuts tries n xs (Err cause) t u → Steps (Add n) Done u w →
    GetsOnWords tries n xs (Err cause) s w
get_uncut tries n xs HeadSpent s t u w r c d =
    let misses : List Try = r.3.0 in
    let cuts : List Try = c.3.0 in
    let v = r.4.0 in
    let x : Try = c.4.0 in (
      ((misses ++ Reserved n v ∷ []) ++ (cuts ++ x ∷ [])) ++ Added n ∷ [],
      c.4.1,
      c.4.2,
      (
        misses,
        cuts,
        v,
        x,
        fewer r.0 tries misses r.2 r.3.3,
        r.3.4,
        r.4.1,
        fewer c.0 tries cuts c.2 c.3.3,
        c.3.4,
        c.4.3,
        append_assoc (misses ++ Reserved n v ∷ []) (cuts ++ x ∷ []) (Added n ∷ [])
            ∙ (append_assoc misses (Reserved n v ∷ []) ((cuts ++ x ∷ []) ++ Added n ∷ [])
            ∙ ap (λ (l : List Try). misses ++ Reserved n v ∷ l)
            (append_assoc cuts (x ∷ []) (Added n ∷ []))),
      ),
      given_back s t u w n (misses ++ Reserved n v ∷ []) (cuts ++ x ∷ []) c.4.1 r.3.1 c.4.2 r.3.2
          (reserved_seat tries n s t r)
          (last_try (IsLostCut n) c.0 t c.1 u c.3 x (λ z. seen_as z c.4.1 c.4.2) c.4.4) d,
    )
get_uncut tries n xs Contended s t u w r c d =
    let misses : List Try = r.3.0 in
    let cuts : List Try = c.0 in
    let v = r.4.0 in (
      ((misses ++ Reserved n v ∷ []) ++ cuts) ++ Added n ∷ [],
      c.1,
      c.2,
      inr (
        misses,
        cuts,
        v,
        fewer r.0 tries misses r.2 r.3.3,
        r.3.4,
        r.4.1,
        c.3,
        c.4,
        append_assoc (misses ++ Reserved n v ∷ []) cuts
            (Added n ∷ []) ∙ append_assoc misses (Reserved n v ∷ []) (cuts ++ Added n ∷ []),
      ),
      given_back s t u w n (misses ++ Reserved n v ∷ []) cuts c.1 r.3.1 c.2 r.3.2
          (reserved_seat tries n s t r) c.5 d,
    )
get_uncut tries n xs cause s t u w r c d = absurd c.4

-- ---- a put

abbrev pub Pushes : ℕ → List ℕ → Result (Unit {0}) Refusal → Seated → Seated → Type 0
Pushes tries xs r s t = Repeats tries (IsLostPush xs) (EndsPush xs) r s t

-- a put that succeeds: a push that won, behind tries that lost, and the addition to the length
pub put_met : (tries : ℕ) (xs : List ℕ) (s t u : Seated) → Pushes tries xs (Ok tt) s t →
    Steps (Add (length xs)) Done t u → PutsOnWords tries xs (Ok tt) s u
put_met tries xs s t u p d =
    let ts : List Try = p.3.0 in
    let won = p.4 in
    let x : Try = won.0 in (
      (ts ++ x ∷ []) ++ Added (length xs) ∷ [],
      won.1,
      won.2,
      (
        ts,
        x,
        fewer p.0 tries ts p.2 p.3.3,
        p.3.4,
        won.3,
        append_assoc ts (x ∷ []) (Added (length xs) ∷ []),
      ),
      try_more s t u (ts ++ x ∷ []) (Added (length xs))
          (push_as xs s.known.view won.1 won.2) (λ v. record v { credit = v.credit - length xs })
          (last_try (IsLostPush xs) p.0 s p.1 t p.3 x (λ v. push_as xs v won.1 won.2) won.4) d
          ∙ ap (λ (m : ℕ). tried_to s ((ts ++ x ∷ []) ++ Added (length xs) ∷ [])
          (record (seen_as s.known.view won.1 won.2) {
            hand =
                minus s.known.view.hand (reverse xs);
            credit = m;
          }))
          (same_credit s.known.view.credit (length xs)),
    )

-- a put whose push is refused: the head was spent, or all tries lost
pub put_unmet : (tries : ℕ) (xs : List ℕ) (cause : Refusal) (s t : Seated) →
    Pushes tries xs (Err cause) s t → PutsOnWords tries xs (Err cause) s t
put_unmet tries xs HeadSpent s t p =
    let ts : List Try = p.3.0 in
    let stop = p.4 in
    let x : Try = stop.0 in (
      ts ++ x ∷ [],
      stop.1,
      stop.2,
      (ts, x, fewer p.0 tries ts p.2 p.3.3, p.3.4, stop.3, refl),
      last_try (IsLostPush xs) p.0 s p.1 t p.3 x (λ v. seen_as v stop.1 stop.2) stop.4,
    )
put_unmet tries xs Contended s t p = (p.0, p.1, p.2, (p.3, p.4), p.5)
put_unmet tries xs cause s t p = absurd p.4

-- ---- a raise

abbrev pub RaisesBy : Limits → ℕ → Result (Unit {0}) Refusal → Seated → Seated → Type 0
RaisesBy l i r s t = Repeats l.tries (IsLostRaise l i) (EndsRaise l i) r s t

-- by its answer: one that won, behind tries that lost; the count was at the limit; or all tries
-- lost
pub raise_whole : (l : Limits) (i : ℕ) (r : Result (Unit {0}) Refusal) (s t : Seated) →
    RaisesBy l i r s t → Raises l i r s t
raise_whole l i (Ok met) s t r =
    let ts : List Try = r.3.0 in
    let c = r.4.0 in (
      ts ++ Raised i c ∷ [],
      r.3.1,
      r.3.2,
      (ts, c, fewer r.0 l.tries ts r.2 r.3.3, r.3.4, r.4.1, refl),
      last_try (IsLostRaise l i) r.0 s r.1 t r.3 (Raised i c) (λ v. raised v i) r.4.3,
    )
raise_whole l i (Err RefSpent) s t r =
    let ts : List Try = r.3.0 in (
      ts ++ Counted i l.ref_limit ∷ [],
      r.3.1,
      r.3.2,
      (ts, fewer r.0 l.tries ts r.2 r.3.3, r.3.4, refl),
      last_try (IsLostRaise l i) r.0 s r.1 t r.3 (Counted i l.ref_limit) (λ v. v) r.4.1,
    )
raise_whole l i (Err Contended) s t r = (r.0, r.1, r.2, (r.3, r.4), r.5)
raise_whole l i (Err cause) s t r = absurd r.4

-- what a raise knew of the count
pub raised_told : (l : Limits) (i : ℕ) (r : Result (Unit {0}) Refusal) (s t : Seated) →
    s.known.limits ≡ l → RaisesBy l i r s t → IfOk r (λ _. KnowsRaised i s)
raised_told l i (Ok met) s t same r = (
  r.4.0,
  subst (λ (m : Limits). r.4.0 < m.ref_limit) (sym same) r.4.1,
  knew_count (IsLostRaise l i) r.0 i r.4.0 s r.1 r.3 r.4.2,
)
raised_told l i (Err cause) s t same r = tt

-- and what a refused one knew of it
pub unraised_told : (l : Limits) (i : ℕ) (r : Result (Unit {0}) Refusal) (s t : Seated) →
    s.known.limits ≡ l → RaisesBy l i r s t → r ≡ Err RefSpent → KnowsSpent i s
unraised_told l i r s t same by e =
    let limit = subst (λ (o : Result (Unit {0}) Refusal). RaisesBy l i o s t) e by in
    subst (λ (m : Limits). KnowsCount s.known i m.ref_limit) (sym same)
    (knew_count (IsLostRaise l i) limit.0 i l.ref_limit s limit.1 limit.3 limit.4.0)
