-- What the calls' answers say: why each was refused, and what one that succeeded moved.
use Rattle.std.proofs.Common.{length-take, add-one, ◌≡◌, ◌≢◌, Option, Some, None, ℕ, ◌+◌, ◌-◌, ◌<◌, List, [], ◌∷◌, ◌++◌, reverse, Result, Ok, Err, ◌==◌, true, refl, sym, ap, ◌∙◌, arith}
use Rattle.std.specs.List.{range_with_len}
use Rattle.std.proofs.lemmas.List.{reverse-append}
use Rattle.std.proofs.lemmas.Option.{none-some}
use Rattle.std.proofs.lemmas.Bool.Decides.{nat_tests}
use Rattle.commons.specs.declared.packet.Seg.{Seg}
use Rattle.commons.specs.declared.refusal.Refusal.{Refusal}
use Rattle.commons.specs.declared.refusal.Refusal.TheVariants.{NoEntries, Contended, HeadSpent, RefSpent, DeskTaken, DeskEmpty, NoSuchDesk}
use Rattle.commons.specs.declared.refusal.Lowered.{Lowered}
use Rattle.commons.specs.declared.refusal.Lowered.TheVariants.{Last, Still}
use Rattle.commons.specs.Calls.{Count, Desk, GetList, PutList, CountOf, Raise, Lower, Offer, Take, HasCause, last_count, last_desk, with_list}
use Rattle.commons.specs.Lists.{Lists, DidGet, DidPut, DidRaise, DidLower, DidOffer, DidTake, place_of, held_count, desk_of, desk_word, read_by}

-- what a get read is the cause of its refusal
pub cause_get : (s : Lists) (w n : ℕ) (r : Result (Unit {0}) Refusal) (xs : List ℕ) (t : Lists) →
    DidGet w s n (with_list r xs) t →
    HasCause s.limits (GetList n (with_list r xs)) (read_by s (GetList n (with_list r xs)))
cause_get s w n (Ok _) xs t d = (rw d.2 (omega (arith, length-take n s.common, d.0)), d.1)
cause_get s w n (Err NoEntries) xs t d = d.0
cause_get s w n (Err HeadSpent) xs t d = ap Some d.1
cause_get s w n (Err Contended) xs t d = absurd d
cause_get s w n (Err _) xs t d = d

-- what a put read is the cause of its refusal
pub cause_put : (s : Lists) (xs : List ℕ) (r : Result (Unit {0}) Refusal) (t : Lists) →
    DidPut s xs r t → HasCause s.limits (PutList xs r) (read_by s (PutList xs r))
cause_put s xs (Ok _) t d = d.0
cause_put s xs (Err HeadSpent) t d = ap Some d.0
cause_put s xs (Err Contended) t d = absurd d
cause_put s xs (Err _) t d = d

-- numbers that go down, with the next one behind them, are read backwards from that one on
pub down_one : (xs : List ℕ) (count i : ℕ) → i < count → reverse xs ≡ range_with_len (count - i) i →
    reverse (xs ++ (count - 1 - i) ∷ []) ≡ range_with_len (count - (i + 1)) (i + 1)
down_one xs count i l h =
    let a : count - (i + 1) ≡ count - 1 - i = omega arith in
    let b : count - 1 - i + 1 ≡ count - i = omega arith in
    rw (reverse-append, h, a, add-one) (rw b refl)

-- the last count of an element is the only one that was read, and so is the last word of a desk
pub last_count-one : (i n : ℕ) → last_count i (Count i n ∷ []) ≡ Some n
last_count-one i n = let e : i == i ≡ true = grind (arith, nat_tests) in rw e refl

last_desk-one : (d n : ℕ) → last_desk d (Desk d n ∷ []) ≡ Some n
last_desk-one d n = let e : d == d ≡ true = grind (arith, nat_tests) in rw e refl

-- what a count read is its answer
pub cause_count : (s : Lists) (i n : ℕ) → n ≡ held_count (place_of s i) →
    HasCause s.limits (CountOf i n) (read_by s (CountOf i n))
cause_count s i n is = last_count-one i (held_count (place_of s i)) ∙ ap Some (sym is)

-- what a raise read is the cause of its answer
pub cause_raise : (s : Lists) (w i : ℕ) (r : Result (Unit {0}) Refusal) (t : Lists) →
    DidRaise w s i r t → HasCause s.limits (Raise i r) (read_by s (Raise i r))
cause_raise s w i (Ok _) t d = rw (last_count-one i (held_count (place_of s i))) d.0
cause_raise s w i (Err RefSpent) t d = last_count-one i (held_count (place_of s i)) ∙ ap Some d.0
cause_raise s w i (Err Contended) t d = absurd d
cause_raise s w i (Err _) t d = d

-- what a lower read is the cause of its answer
pub cause_lower : (s : Lists) (w i : ℕ) (answer : Lowered) (t : Lists) → DidLower w s i answer t →
    HasCause s.limits (Lower i answer) (read_by s (Lower i answer))
cause_lower s w i Last t d = rw d.1.0 (last_count-one i 1)
cause_lower s w i Still t d = rw (last_count-one i (held_count (place_of s i))) d.1.0

-- a desk that isn't empty has another word than an empty one
other_word : (x : Option (List Seg)) → x ≢ None → desk_word x ≢ 0
other_word None h = λ e. h refl
other_word (Some packet) h = λ e. absurd (omega (arith, e))

-- what an offer, or a take, read is the cause of its answer
pub cause_offer : (s : Lists) (w d : ℕ) (packet : List Seg) (r : Result (Unit {0}) Refusal)
    (t : Lists) → DidOffer w s d packet r t →
    HasCause s.limits (Offer d packet r) (read_by s (Offer d packet r))
cause_offer s w d packet (Ok _) t h = (
  h.0,
  last_desk-one d (desk_word (desk_of s d))
      ∙ ap (λ (x : Option (List Seg)). Some (desk_word x)) h.1,
)
cause_offer s w d packet (Err NoSuchDesk) t h = h.0
cause_offer s w d packet (Err DeskTaken) t h =
    (h.0, rw (last_desk-one d (desk_word (desk_of s d))) (other_word (desk_of s d) h.1))
cause_offer s w d packet (Err _) t h = h

-- an empty desk has another word than a full one
empty_word : (x : Option (List Seg)) → x ≡ None → desk_word x ≢ 2
empty_word None h = λ e. absurd (omega (arith, e))
empty_word (Some packet) h = absurd (none-some packet (sym h))

-- the desk's word that a take read is that of a full desk where it succeeds, and else refuses it
pub cause_take : (s : Lists) (w d : ℕ) (r : Result (List Seg) Refusal) (t : Lists) →
    DidTake w s d r t → HasCause s.limits (Take d r) (read_by s (Take d r))
cause_take s w d (Ok packet) t h = (
  h.0,
  last_desk-one d (desk_word (desk_of s d))
      ∙ ap (λ (x : Option (List Seg)). Some (desk_word x)) h.1,
)
cause_take s w d (Err NoSuchDesk) t h = h.0
cause_take s w d (Err DeskEmpty) t h =
    (h.0, rw (last_desk-one d (desk_word (desk_of s d))) (empty_word (desk_of s d) h.1))
cause_take s w d (Err _) t h = h
