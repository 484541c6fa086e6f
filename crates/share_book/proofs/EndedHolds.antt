-- Holds that end over the lists, where the counts are the holds that are left.
use Rattle.std.proofs.Common.{ℕ, ◌≡◌, ◌≢◌, ◌+◌, ◌-◌, ◌<◌, ◌==◌, inl, inr, List, [], ◌∷◌, length, get_or, set, get_or-set_same, get_or-set_other, Option, Ok, Err, refl, sym, ap, ◌∙◌, subst, arith}
use Rattle.std.proofs.lemmas.Bool.{cases_lt, cases_eq, cond-true, cond-false, eq-eqb, ne_eqb}
use Rattle.std.proofs.lemmas.List.{get_or_past}
use Rattle.commons.specs.Bag.{bag}
use Rattle.commons.specs.Calls.{Call, GetList, PutList}
use Rattle.commons.specs.declared.limits.Limits.{Limits}
use Rattle.commons.specs.declared.packet.Seg.{Seg}
use Rattle.commons.specs.declared.place.Place.{Place}
use Rattle.commons.specs.declared.refusal.Refusal.TheVariants.{NoEntries, HeadSpent}
use Rattle.commons.specs.Lists.{Lists, IsTable, held_count, holds_of_all, place_of, nowhere}
use Rattle.commons.specs.Packets.{held_in}
use Rattle.commons.proofs.Bags.{bag-cons, one-same}
use Rattle.commons.proofs.Places.{one-apart}
use Rattle.mbuf.specs.declared.freed.Freed.{Freed}
use Rattle.mbuf.specs.PacketRules.{EndsHold, Stays, GoesBack, EndsHolds}
use Rattle.pool_model.specs.Pool.{Shared}
use Rattle.pool_model.specs.CacheModel.{put}
use Rattle.pool_model.specs.HoldModel.{put_back, end_holds}
use Rattle.pool_model.proofs.HeldBags.{next_hold}
use Rattle.commons.specs.PlainCalls.{LeadsPlain}
use Rattle.share_book.specs.inside.Own.{shared_of}
use Rattle.share_book.proofs.CacheCalls.{AreRequests, puts_request, was_put}
use Rattle.commons.proofs.PlainCalls.{LeadsPlain-split, LeadsPlain-table}

-- who holds what: each worker, and each desk's packet
abbrev holding : Lists → List (List ℕ) × List (Option (List Seg))
holding s = (s.holds, s.desks)

-- requests of the stack leave the holds
requests_keep : (w : ℕ) (s : Lists) (calls : List Call) (t : Lists) → AreRequests calls →
    LeadsPlain w s calls t → holding t ≡ holding s
requests_keep w s [] t r h = ap holding (sym h)
requests_keep w s (GetList n (Ok xs) ∷ calls) t r h = requests_keep w h.0 calls t r h.4 ∙ ap holding h.1.3
requests_keep w s (GetList n (Err NoEntries) ∷ calls) t r h = requests_keep w h.0 calls t r h.4 ∙ ap holding h.1.1
requests_keep w s (GetList n (Err HeadSpent) ∷ calls) t r h = requests_keep w h.0 calls t r h.4 ∙ ap holding h.1.2
requests_keep w s (GetList n (Err _) ∷ calls) t r h = absurd h.1
requests_keep w s (PutList list (Ok _) ∷ calls) t r h = requests_keep w h.0 calls t r h.4 ∙ ap holding h.1.1
requests_keep w s (PutList list (Err HeadSpent) ∷ calls) t r h = requests_keep w h.0 calls t r h.4 ∙ ap holding h.1.1
requests_keep w s (PutList list (Err _) ∷ calls) t r h = absurd h.1
requests_keep w s (_ ∷ calls) t r h = absurd r

-- and so the counts
pub requests_count : (w : ℕ) (s : Lists) (calls : List Call) (t : Lists) → IsTable s →
    AreRequests calls → LeadsPlain w s calls t → (i : ℕ) →
    held_count (place_of t i) ≡ held_count (place_of s i)
requests_count w s calls t table r h i =
    (LeadsPlain-table w s calls t table h).counted i
    ∙ ap (λ (x : List (List ℕ) × List (Option (List Seg))). holds_of_all
    (record s { holds = x.0 }) i + held_in x.1 i) (requests_keep w s calls t r h)
    ∙ sym (table.counted i)

-- how often the holds that are still to end, and others, hold each element
abbrev pub Counts : Lists → List ℕ → (ℕ → ℕ) → Type 0
Counts s es others = (i : ℕ) → held_count (place_of s i) ≡ bag es i + others i

-- an element that is held is one of the pool
pub held_within : (places : List Place) (e : ℕ) → 0 < held_count (get_or places e nowhere) → e < length places
held_within places e h = elim (cases_lt e (length places)) [
  | inl l ↦ l
  | inr l ↦ absurd (let none = rw (get_or_past places e nowhere l) at h in omega (arith, none))
]

-- once a hold has ended, its element has this place, and is held once less
counts_less : (places : List Place) (e : ℕ) (place : Place) (es : List ℕ) (others : ℕ → ℕ) →
    held_count place ≡ held_count (get_or places e nowhere) - 1 →
    ((i : ℕ) → held_count (get_or places i nowhere) ≡ bag (e ∷ es) i + others i) → (i : ℕ) →
    held_count (get_or (set places e place) i nowhere) ≡ bag es i + others i
counts_less places e place es others less h i = elim (cases_eq i e) [
  | inl q ↦
      let here = h e in
      let within = held_within places e (omega (arith, here, bag-cons e es e, one-same e)) in
      rw (q, get_or-set_same places e place nowhere within) (omega (arith, less, here, bag-cons e es e, one-same e))
  | inr q ↦ rw (get_or-set_other places e i place nowhere q) (omega (arith, h i, bag-cons e es i, one-apart e i q))
]

-- the end of one hold is the model's, and leaves the counts of the others
pub end_one : (w : ℕ) (l : Limits) (others : ℕ → ℕ) (e : ℕ) (es : List ℕ) (s t : Lists) (cache : List ℕ)
    (freed : Freed) (calls : List Call) (left : List ℕ) (done : Freed) →
    EndsHold l e cache freed calls left done → LeadsPlain w s calls t → Counts s (e ∷ es) others →
    ((done, left, shared_of t) ≡ next_hold l others e es (freed, cache, shared_of s)) × Counts t es others
end_one w l others e es s t cache freed calls left done (Stays c k d) led counts =
    let h = subst (λ (cs : List Call). LeadsPlain w s cs t) c led in
    let was = h.1.1 in
    let some : bag es e + others e ≢ 0 = λ z. omega (arith, z, was.0, counts e, bag-cons e es e, one-same e) in
    let stack : shared_of t ≡ shared_of s = ap shared_of (sym h.4) ∙ ap shared_of h.1.2 in (
      rw (k, d, stack) (sym (cond-false (bag es e + others e == 0)
          (put_back freed (put l (e ∷ []) cache (shared_of s))) (freed, cache, shared_of s)
          (ne_eqb (bag es e + others e) 0 some))),
      λ i. ap (λ (x : Lists). held_count (place_of x i)) (sym h.4 ∙ h.1.2)
          ∙ counts_less s.places e h.1.0 es others (ap held_count was.1) counts i,
    )
end_one w l others e es s t cache freed calls left done (GoesBack puts answer p c d) led counts =
    let h = subst (λ (cs : List Call). LeadsPlain w s cs t) c led in
    let was = h.1.1 in
    let one : held_count (place_of s e) ≡ 1 = ap held_count was.0 in
    let none : bag es e + others e ≡ 0 = omega (arith, one, counts e, bag-cons e es e, one-same e) in
    let put_is =
    was_put w h.0 l cache (e ∷ []) puts answer left t p h.4
    ∙ ap (λ (x : Shared). put l (e ∷ []) cache x) (ap shared_of h.1.2) in
    let less : held_count h.1.0 ≡ held_count (place_of s e) - 1 =
    ap held_count was.1 ∙ sym (ap (λ (n : ℕ). n - 1) one) in (
      rw d (ap (put_back freed) put_is ∙ sym (cond-true (bag es e + others e == 0)
          (put_back freed (put l (e ∷ []) cache (shared_of s))) (freed, cache, shared_of s)
          (eq-eqb (bag es e + others e) 0 none))),
      λ i. requests_count w h.0 puts t h.3 (puts_request l cache (e ∷ []) puts answer left p) h.4 i
          ∙ ap (λ (x : Lists). held_count (place_of x i)) h.1.2 ∙ counts_less s.places e h.1.0 es others less counts i,
    )

-- holds that end one after another are the model's
pub ended : (w : ℕ) (l : Limits) (others : ℕ → ℕ) (es : List ℕ) (s t : Lists) (cache : List ℕ)
    (freed : Freed) (calls : List Call) (left : List ℕ) (done : Freed) →
    EndsHolds l es cache freed calls left done → LeadsPlain w s calls t → Counts s es others →
    (done, left, shared_of t) ≡ end_holds l others es (freed, cache, shared_of s)
ended w l others [] s t cache freed calls left done ends led counts =
    let h = subst (λ (cs : List Call). LeadsPlain w s cs t) ends.0 led in
    rw (ends.1, ends.2, ← h) refl
ended w l others (e ∷ es) s t cache freed calls left done ends led counts =
    let first = ends.0 in
    let rest = ends.1 in
    let between = ends.2 in
    let so_far = ends.3 in
    let h = LeadsPlain-split w s first rest t (subst (λ (cs : List Call). LeadsPlain w s cs t) ends.4 led) in
    let one = end_one w l others e es s h.0 cache freed first between so_far ends.5 h.1 counts in
    ended w l others es h.0 t between so_far rest left done ends.6 h.2 one.1 ∙ ap (end_holds l others es) one.0
