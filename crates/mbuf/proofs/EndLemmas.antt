-- Holds that end one after another.
use Rattle.std.proofs.Common.{◌≡◌, ◌≤◌, ◌+◌, ◌*◌, ℕ, List, [], ◌∷◌, ◌++◌, refl, sym, ap, ◌∙◌, subst, append_assoc, nat_lt, arith}
use Rattle.std.proofs.lemmas.Bool.{cond-true, lt-ltb}
use Rattle.std.proofs.lemmas.List.{append-nil}
use Rattle.commons.specs.Bag.{bag}
use Rattle.commons.specs.Bounds.{max_population}
use Rattle.commons.specs.declared.limits.Limits.{Limits}
use Rattle.commons.specs.Calls.{Reading, Call, Side, calls_of, Calls}
use Rattle.commons.proofs.Bags.{bag-append, bag-nil, bag-single}
use Rattle.commons.proofs.Leading.{calls_of-append, Leads-append}
use Rattle.mempool.specs.WorkerCache.{WorkerCache}
use Rattle.mbuf.specs.PacketRules.{EndsHold, EndsHolds}
use Rattle.mbuf.specs.declared.freed.Freed.{Freed}
use Rattle.mbuf.specs.inside.Ending.{EndedHold, EndedHolds, LostHolds}

-- one hold that ends, as a list of one
pub EndsHolds-one : (l : Limits) (e : ℕ) (cache : List ℕ) (freed : Freed) (calls : List Call)
    (left : List ℕ) (done : Freed) →
    EndsHold l e cache freed calls left done → EndsHolds l (e ∷ []) cache freed calls left done
EndsHolds-one l e cache freed calls left done h = (calls, [], left, done, sym (append-nil calls), h, (refl, refl, refl))

-- holds that end, and then others
EndsHolds-append : (l : Limits) (es fs : List ℕ) (cache : List ℕ) (freed : Freed) (a : List Call)
    (between : List ℕ) (so_far : Freed) (b : List Call) (left : List ℕ) (done : Freed) →
    EndsHolds l es cache freed a between so_far → EndsHolds l fs between so_far b left done →
    EndsHolds l (es ++ fs) cache freed (a ++ b) left done
EndsHolds-append l [] fs cache freed a between so_far b left done h k =
    subst (λ (calls : List Call). EndsHolds l fs cache freed (calls ++ b) left done) (sym h.0)
    (subst (λ (c : List ℕ). EndsHolds l fs c freed b left done) h.1
    (subst (λ (f : Freed). EndsHolds l fs between f b left done) h.2 k))
EndsHolds-append l (e ∷ es) fs cache freed a between so_far b left done h k = (
  h.0,
  h.1 ++ b,
  h.2,
  h.3,
  ap (λ (calls : List Call). calls ++ b) h.4
      ∙ append_assoc h.0 h.1 b,
  h.5,
  EndsHolds-append l es fs h.2 h.3 h.1 between so_far b left done h.6 k,
)

-- calls were made by which these holds ended
abbrev pub Ended : {S : Type 0} (did : S → Call → List Reading → S → Type 0) (side : S → Side)
    (s t : S) → Limits → List ℕ → List ℕ → Freed → List ℕ → Freed → Type 0
Ended did side s t l es cache freed left done = Calls did side s t (λ calls. EndsHolds l es cache freed calls left done)

-- ---- what has ended, and what stands then

-- no hold has ended
pub none_lost : (old : WorkerCache) (before : Side) → ((i : ℕ) → before.hand i ≡ bag old.cache i) →
    LostHolds [] old before old before
none_lost old before hand = record {
  hand = hand;
  holds = λ i. omega (arith, bag-nil i);
  headers = λ i some. refl;
  limits = refl;
  number = record { limits = refl; number = refl };
}

-- Holds that ended, and others after them, ended together.
pub both_lost : {es fs : List ℕ} {old mid new : WorkerCache} {s t u : Side} (all : List ℕ) →
    ((i : ℕ) → bag all i ≡ bag es i + bag fs i) →
    LostHolds es old s mid t → LostHolds fs mid t new u → LostHolds all old s new u
both_lost all parts h k = record {
  hand = k.hand;
  holds = λ i. omega (arith, h.holds i, k.holds i, parts i);
  headers = λ i some. k.headers i some ∙ h.headers i (omega (arith, some, k.holds i));
  limits = k.limits ∙ h.limits;
  number = record {
    limits = k.number.limits ∙ h.number.limits;
    number = k.number.number ∙ h.number.number;
  };
}

-- nothing was asked, and no hold has ended
pub none_ended : {S : Type 0} (did : S → Call → List Reading → S → Type 0) (side : S → Side)
    (old : WorkerCache) (before : S) (so_far : Freed) (most : ℕ) →
    ((i : ℕ) → (side before).hand i ≡ bag old.cache i) → so_far.back ≤ most →
    so_far.flushed ≤ max_population * so_far.back →
    EndedHolds did side [] old before so_far most so_far old before
none_ended did side old before so_far most hand back flushed = record {
  calls = ([], refl, (refl, refl, refl));
  lost = none_lost old (side before) hand;
  back = back;
  flushed = flushed;
}

-- one hold that ended, as a list of one
pub one_ended : {S : Type 0} {did : S → Call → List Reading → S → Type 0} {side : S → Side}
    {e : ℕ} {old : WorkerCache} {before : S} {so_far : Freed} {most : ℕ} {done : Freed}
    {new : WorkerCache} {after : S} →
    EndedHold did side e old before so_far most done new after →
    EndedHolds did side (e ∷ []) old before so_far most done new after
one_ended {S} {did} {side} {e} {old} {before} {so_far} {most} {done} {new} {after} one = record {
  calls = (
    one.calls.0,
    one.calls.1,
    EndsHolds-one old.limits e old.cache so_far (calls_of one.calls.0) new.cache done one.calls.2,
  );
  lost = record {
    hand = one.hand;
    holds = λ i. omega (arith, one.holds i, bag-single e i);
    headers =
        λ i some. one.headers i
        ∙ cond-true (nat_lt 0 ((side after).holds i)) ((side before).headers i) 0
        (lt-ltb 0 ((side after).holds i) some);
    limits = one.limits;
    number = one.number;
  };
  back = one.back;
  flushed = one.flushed;
}

-- Holds that ended by some calls, and others by later ones, ended by all of these in turn.
pub both_ended : {S : Type 0} {did : S → Call → List Reading → S → Type 0} {side : S → Side}
    {es fs : List ℕ} {old mid new : WorkerCache} {s t u : S} {so_far between done : Freed} {m n : ℕ} →
    EndedHolds did side es old s so_far m between mid t →
    EndedHolds did side fs mid t between n done new u →
    EndedHolds did side (es ++ fs) old s so_far n done new u
both_ended {S} {did} {side} {es} {fs} {old} {mid} {new} {s} {t} {u} {so_far} {between} {done} {m} {n} h k = record {
  calls = (
    h.calls.0 ++ k.calls.0,
    Leads-append did side h.calls.0 k.calls.0 s t u h.calls.1 k.calls.1,
    subst (λ (calls : List Call). EndsHolds old.limits (es ++ fs) old.cache so_far calls new.cache done)
        (sym (calls_of-append h.calls.0 k.calls.0))
        (EndsHolds-append old.limits es fs old.cache so_far (calls_of h.calls.0) mid.cache between
        (calls_of k.calls.0) new.cache done h.calls.2
        (subst (λ (l : Limits). EndsHolds l fs mid.cache between (calls_of k.calls.0) new.cache done)
        h.lost.number.limits k.calls.2)),
  );
  lost = both_lost (es ++ fs) (bag-append es fs) h.lost k.lost;
  back = k.back;
  flushed = k.flushed;
}

-- another bound on what has gone back
pub ended_within : {S : Type 0} {did : S → Call → List Reading → S → Type 0} {side : S → Side}
    {es : List ℕ} {old new : WorkerCache} {s t : S} {so_far done : Freed} {m : ℕ} (n : ℕ) →
    done.back ≤ n → EndedHolds did side es old s so_far m done new t →
    EndedHolds did side es old s so_far n done new t
ended_within n within h = record { calls = h.calls; lost = h.lost; back = within; flushed = h.flushed }
