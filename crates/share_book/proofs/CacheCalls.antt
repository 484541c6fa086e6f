-- A cache's calls over the lists are the reference model's requests.
use Rattle.std.proofs.Common.{ℕ, ◌≡◌, ◌+◌, ◌-◌, List, [], ◌∷◌, ◌++◌, length, drop, Result, Ok, Err, refl, sym, ap, subst, arith}
use Rattle.std.proofs.lemmas.Bool.{eq-eqb, le-ltb, lt-ltb, ne_eqb}
use Rattle.commons.specs.declared.limits.Limits.{Limits}
use Rattle.commons.specs.declared.refusal.Refusal.{Refusal}
use Rattle.commons.specs.declared.refusal.Refusal.TheVariants.{NoEntries, Contended, HeadSpent}
use Rattle.commons.specs.Calls.{spent, Call, GetList, PutList}
use Rattle.commons.specs.Lists.{Lists, DidGet, DidPut}
use Rattle.mempool.specs.declared.put.Put.{Put}
use Rattle.mempool.specs.Caches.{Gets, Nothing, Direct, FromCache, Refill, RefillRefused, NoRefill, Puts, NothingPut, Bypass, BypassPutOff, Flush, FlushPutOff, Keep, WholeBypass, WholeBypassPutOff, WholeFlush, WholeFlushPutOff, WholeKeep, Flushes, Empty, Whole, WholePutOff}
use Rattle.pool_model.specs.CacheModel.{ask, push, get, put, flush}
use Rattle.pool_model.specs.CacheLaw.{Meets}
use Rattle.commons.specs.PlainCalls.{LeadsPlain}
use Rattle.share_book.specs.inside.Own.{shared_of}
use Rattle.pool_model.proofs.CacheRules.{flushed_by, got_by, put_by}

-- a request that succeeded or was refused is the model's
asked : (w : ℕ) (s : Lists) (n : ℕ) (a : Result (List ℕ) Refusal) (t : Lists) → DidGet w s n a t →
    (a, shared_of t) ≡ ask n (shared_of s)
asked w s n (Ok xs) t d =
    rw (le-ltb (length s.common) n d.0, ne_eqb s.changes spent (omega (arith, d.1)), d.2, d.3) refl
asked w s n (Err NoEntries) t d = rw (lt-ltb (length s.common) n d.0, d.1) refl
asked w s n (Err HeadSpent) t d = rw (le-ltb (length s.common) n d.0, eq-eqb s.changes spent d.1, d.2) refl
asked w s n (Err Contended) t d = absurd d
asked w s n (Err _) t d = absurd d

-- a push on the lists is answered as the model does: by whether the count of changes is spent
pushed : (s : Lists) (xs : List ℕ) (a : Result (Unit {0}) Refusal) (t : Lists) → DidPut s xs a t →
    (a, shared_of t) ≡ push xs (shared_of s)
pushed s xs (Ok tt) t d = rw (ne_eqb s.changes spent (omega (arith, d.0)), d.1) refl
pushed s xs (Err HeadSpent) t d = rw (eq-eqb s.changes spent d.0, d.1) refl
pushed s xs (Err Contended) t d = absurd d
pushed s xs (Err _) t d = absurd d

-- the calls are requests of the stack
abbrev pub AreRequests : List Call → Type 0
AreRequests [] = Unit {0}
AreRequests (GetList n answer ∷ calls) = AreRequests calls
AreRequests (PutList list answer ∷ calls) = AreRequests calls
AreRequests (_ ∷ calls) = ⊥

-- requests on the lists are answered by their stack
meets : (w : ℕ) (s : Lists) (calls : List Call) (t : Lists) → AreRequests calls →
    LeadsPlain w s calls t → Meets (shared_of s) calls (shared_of t)
meets w s [] t r h = ap shared_of h
meets w s (GetList n answer ∷ calls) t r h = (shared_of h.0, asked w s n answer h.0 h.1, meets w h.0 calls t r h.4)
meets w s (PutList list answer ∷ calls) t r h = (shared_of h.0, pushed s list answer h.0 h.1, meets w h.0 calls t r h.4)
meets w s (_ ∷ calls) t r h = absurd r

requests : (calls known : List Call) → calls ≡ known → AreRequests known → AreRequests calls
requests calls known e h = subst AreRequests (sym e) h

-- a get asks the stack for a list, once or twice or not at all, and makes no other call
pub gets_request : (l : Limits) (cache : List ℕ) (n : ℕ) (calls : List Call)
    (answer : Result (List ℕ) Refusal) (left : List ℕ) → Gets l cache n calls answer left →
    AreRequests calls
gets_request l cache n calls answer left (Nothing z c a k) = requests calls [] c tt
gets_request l cache n calls answer left (Direct p q c k) = requests calls (GetList n answer ∷ []) c tt
gets_request l cache n calls answer left (FromCache p q r c a k) = requests calls [] c tt
gets_request l cache n calls answer left (Refill p q r m more c a k) =
    requests calls (GetList (n + l.cache - length cache) (Ok more) ∷ []) c tt
gets_request l cache n calls answer left (RefillRefused p q r m cause c k) =
    requests calls (GetList (n + l.cache - length cache) (Err cause) ∷ GetList n answer ∷ []) c tt
gets_request l cache n calls answer left (NoRefill p q r m c k) = requests calls (GetList n answer ∷ []) c tt

-- a put gives the stack a list, once or not at all, and makes no other call
pub puts_request : (l : Limits) (cache list : List ℕ) (calls : List Call) (answer : Put)
    (left : List ℕ) → Puts l cache list calls answer left → AreRequests calls
puts_request l cache list calls answer left (NothingPut z c a k) = requests calls [] c tt
puts_request l cache list calls answer left (Bypass rule p c a k) = requests calls (PutList list (Ok tt) ∷ []) c tt
puts_request l cache list calls answer left (BypassPutOff rule p cause c a k) =
    requests calls (PutList list (Err cause) ∷ []) c tt
puts_request l cache list calls answer left (Flush rule p q r m c a k) =
    requests calls (PutList (drop l.cache (cache ++ list)) (Ok tt) ∷ []) c tt
puts_request l cache list calls answer left (FlushPutOff rule p q r m cause c a k) =
    requests calls (PutList (drop l.cache (cache ++ list)) (Err cause) ∷ []) c tt
puts_request l cache list calls answer left (Keep rule p q b c a k) = requests calls [] c tt
puts_request l cache list calls answer left (WholeBypass rule p c a k) =
    requests calls (PutList list (Ok tt) ∷ []) c tt
puts_request l cache list calls answer left (WholeBypassPutOff rule p cause c a k) =
    requests calls (PutList list (Err cause) ∷ []) c tt
puts_request l cache list calls answer left (WholeFlush rule p q r m c a k) =
    requests calls (PutList cache (Ok tt) ∷ []) c tt
puts_request l cache list calls answer left (WholeFlushPutOff rule p q r m cause c a k) =
    requests calls (PutList cache (Err cause) ∷ []) c tt
puts_request l cache list calls answer left (WholeKeep rule p q b c a k) = requests calls [] c tt

-- a flush gives the stack the whole cache, or nothing, and makes no other call
flushes_request : (cache : List ℕ) (calls : List Call) (answer : Put) (left : List ℕ) →
    Flushes cache calls answer left → AreRequests calls
flushes_request cache calls answer left (Empty z c a k) = requests calls [] c tt
flushes_request cache calls answer left (Whole p c a k) = requests calls (PutList cache (Ok tt) ∷ []) c tt
flushes_request cache calls answer left (WholePutOff p cause c a k) =
    requests calls (PutList cache (Err cause) ∷ []) c tt

-- a get by these calls is the model's
pub got : (w : ℕ) (s : Lists) (l : Limits) (cache : List ℕ) (n : ℕ) (calls : List Call)
    (answer : Result (List ℕ) Refusal) (left : List ℕ) (t : Lists) →
    Gets l cache n calls answer left → LeadsPlain w s calls t →
    (answer, left, shared_of t) ≡ get l n cache (shared_of s)
got w s l cache n calls answer left t g h =
    got_by (shared_of s) (shared_of t) l cache n calls answer left g
    (meets w s calls t (gets_request l cache n calls answer left g) h)

-- and so is a put
pub was_put : (w : ℕ) (s : Lists) (l : Limits) (cache list : List ℕ) (calls : List Call)
    (answer : Put) (left : List ℕ) (t : Lists) →
    Puts l cache list calls answer left → LeadsPlain w s calls t →
    (answer, left, shared_of t) ≡ put l list cache (shared_of s)
was_put w s l cache list calls answer left t p h =
    put_by (shared_of s) (shared_of t) l cache list calls answer left p
    (meets w s calls t (puts_request l cache list calls answer left p) h)

-- and a flush
pub was_flushed : (w : ℕ) (s : Lists) (cache : List ℕ) (calls : List Call) (answer : Put) (left : List ℕ) (t : Lists) →
    Flushes cache calls answer left → LeadsPlain w s calls t → (answer, left, shared_of t) ≡ flush cache (shared_of s)
was_flushed w s cache calls answer left t f h =
    flushed_by (shared_of s) (shared_of t) cache calls answer left f
    (meets w s calls t (flushes_request cache calls answer left f) h)
