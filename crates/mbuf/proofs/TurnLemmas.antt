-- Calls on two pools as steps of one state of both: what ends one segment after another, and what
-- is so of the calls on either pool apart.
use Rattle.std.proofs.Common.{◌≡◌, ℕ, List, [], ◌∷◌, ◌++◌, refl, sym, ap, ◌∙◌, subst}
use Rattle.commons.specs.Calls.{Call, Leads, Made, Reading, Side, Step}
use Rattle.commons.specs.declared.limits.Limits.{Limits}
use Rattle.commons.specs.declared.packet.Seg.{Seg}
use Rattle.mbuf.specs.declared.freed.Freed.{Freed}
use Rattle.mbuf.specs.Foreign.{BothCalls, EndsForeign, EndsForeignSeg}
use Rattle.mbuf.specs.inside.Turns.{EndsInTurn, EndsSegInTurn}
use Rattle.mbuf.proofs.ForeignLemmas.{both_calls}

-- segments that end, and then one more
pub EndsInTurn-more : {S : Type 0} (first_did : S → Call → List Reading → S → Type 0) (first_side : S → Side)
    (second_did : S → Call → List Reading → S → Type 0) (second_side : S → Side) (l k : Limits)
    (segs : List Seg) (seg : Seg) (s : S) (first_cache second_cache : List ℕ) (freed : Freed) (t : S)
    (first_between second_between : List ℕ) (so_far : Freed) (u : S) (first_left second_left : List ℕ) (done : Freed) →
    EndsInTurn first_did first_side second_did second_side l k segs s first_cache second_cache freed t
    first_between second_between so_far →
    EndsSegInTurn first_did first_side second_did second_side l k seg t first_between second_between so_far u
    first_left second_left done →
    EndsInTurn first_did first_side second_did second_side l k (segs ++ seg ∷ []) s first_cache second_cache freed u
    first_left second_left done
EndsInTurn-more {S} first_did first_side second_did second_side l k [] seg s first_cache second_cache freed t
    first_between second_between so_far u first_left second_left done h e = (
      u,
      first_left,
      second_left,
      done,
      subst (λ (c : List ℕ). EndsSegInTurn first_did first_side second_did second_side l k seg s c second_cache freed u
          first_left second_left done) h.1
          (subst (λ (c : List ℕ). EndsSegInTurn first_did first_side second_did second_side l k seg s first_between c
          freed u first_left second_left done) h.2
          (subst (λ (f : Freed). EndsSegInTurn first_did first_side second_did second_side l k seg s first_between
          second_between f u first_left second_left done) h.3
          (subst (λ (x : S). EndsSegInTurn first_did first_side second_did second_side l k seg x first_between
          second_between so_far u first_left second_left done) h.0 e))),
      (refl, refl, refl, refl),
    )
EndsInTurn-more {S} first_did first_side second_did second_side l k (x ∷ segs) seg s first_cache second_cache freed t
    first_between second_between so_far u first_left second_left done h e = (
      h.0,
      h.1,
      h.2,
      h.3,
      h.4,
      EndsInTurn-more first_did first_side second_did second_side l k segs seg h.0 h.1 h.2 h.3 t first_between
          second_between so_far u first_left second_left done h.5 e,
    )

-- Steps of both on one pool are steps of that pool, and leave the other as it was.
pub Leads-apart : {S A B : Type 0} (did : S → Call → List Reading → S → Type 0) (of : S → A) (other : S → B)
    (its_did : A → Call → List Reading → A → Type 0) (its_side : A → Side) →
    ((s : S) (call : Call) (readings : List Reading) (t : S) → did s call readings t →
    its_did (of s) call readings (of t) × (other t ≡ other s)) →
    (made : List Made) (s t : S) → Leads did (λ x. its_side (of x)) s made t →
    Leads its_did its_side (of s) made (of t) × (other t ≡ other s)
Leads-apart {S} {A} {B} did of other its_did its_side tells [] s t h = (ap of h, sym (ap other h))
Leads-apart {S} {A} {B} did of other its_did its_side tells (m ∷ made) s t h =
    let led = tells s m.call m.readings h.0 h.1.led in
    let others = Leads-apart did of other its_did its_side tells made h.0 t h.2 in (
      (of h.0, record { led = led.0; cause = h.1.cause; effect = h.1.effect }, others.0),
      others.1 ∙ led.1,
    )

-- Steps of a pool are steps of both, where its state is put into that of both.
pub Leads-within : {S A : Type 0} (did : S → Call → List Reading → S → Type 0) (side : S → Side)
    (its_did : A → Call → List Reading → A → Type 0) (its_side : A → Side) (put : A → S) →
    ((a : A) (call : Call) (readings : List Reading) (b : A) → Step its_did its_side a call readings b →
    Step did side (put a) call readings (put b)) →
    (made : List Made) (a b : A) → Leads its_did its_side a made b → Leads did side (put a) made (put b)
Leads-within {S} {A} did side its_did its_side put step [] a b h = ap put h
Leads-within {S} {A} did side its_did its_side put step (m ∷ made) a b h = (
  put h.0,
  step a m.call m.readings h.0 h.1,
  Leads-within did side its_did its_side put step made h.0 b h.2,
)

-- What ended one segment after another by steps of both ended them by the calls on either pool.
pub ends_apart : {S A B : Type 0} (did now_did : S → Call → List Reading → S → Type 0) (of : S → A) (other : S → B)
    (first_did : A → Call → List Reading → A → Type 0) (first_side : A → Side)
    (second_did : B → Call → List Reading → B → Type 0) (second_side : B → Side) →
    ((s : S) (call : Call) (readings : List Reading) (t : S) → did s call readings t →
    first_did (of s) call readings (of t) × (other t ≡ other s)) →
    ((s : S) (call : Call) (readings : List Reading) (t : S) → now_did s call readings t →
    second_did (other s) call readings (other t) × (of t ≡ of s)) →
    (l k : Limits) (segs : List Seg) (s : S) (first_cache second_cache : List ℕ) (freed : Freed) (t : S)
    (first_left second_left : List ℕ) (done : Freed) →
    EndsInTurn did (λ x. first_side (of x)) now_did (λ x. second_side (other x)) l k segs s first_cache second_cache
    freed t first_left second_left done →
    BothCalls first_did first_side (of s) (of t) second_did second_side (other s) (other t) (λ firsts seconds.
    EndsForeign l k segs first_cache second_cache freed firsts seconds first_left second_left done)
ends_apart {S} {A} {B} did now_did of other first_did first_side second_did second_side first_tells second_tells l k []
    s first_cache second_cache freed t first_left second_left done h = (
      [],
      sym (ap of h.0),
      ([], sym (ap other h.0), (refl, refl, h.1, h.2, h.3)),
    )
ends_apart {S} {A} {B} did now_did of other first_did first_side second_did second_side first_tells second_tells l k
    (seg ∷ segs) s first_cache second_cache freed t first_left second_left done h =
    let one = h.4 in
    let first = Leads-apart did of other first_did first_side first_tells one.2.0 s one.0 one.2.1 in
    let second = Leads-apart now_did other of second_did second_side second_tells one.3.0 one.0 h.0 one.3.1 in
    both_calls first_did first_side (of s) (of h.0) (of t) second_did second_side (other s) (other h.0) (other t)
    (λ firsts seconds. EndsForeignSeg l k seg first_cache second_cache freed firsts seconds h.1 h.2 h.3)
    (λ firsts seconds. EndsForeign l k segs h.1 h.2 h.3 firsts seconds first_left second_left done)
    (λ firsts seconds. EndsForeign l k (seg ∷ segs) first_cache second_cache freed firsts seconds first_left
    second_left done)
    (λ a b x y ended others. (a, x, b, y, h.1, h.2, h.3, refl, refl, ended, others)) (
      one.2.0,
      subst (λ (a : A). Leads first_did first_side (of s) one.2.0 a) (sym second.1) first.0,
      (
        one.3.0,
        subst (λ (b : B). Leads second_did second_side b one.3.0 (other h.0)) first.1 second.0,
        record { so_far = one.1; base = one.2.2; own = one.3.2 },
      ),
    )
    (ends_apart did now_did of other first_did first_side second_did second_side first_tells second_tells l k segs h.0
    h.1 h.2 h.3 t first_left second_left done h.5)
