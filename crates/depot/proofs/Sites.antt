-- A rack is one still, once its seat has done something at an element's place.
use Rattle.std.proofs.Common.{◌≡◌, ℕ, ◌+◌, ◌-◌, ◌<◌, ◌≤◌, Bool, true, false, List, [], ◌∷◌, length, refl, sym, ap, ◌∙◌, subst, ⊎_elim, arith}
use Rattle.std.specs.Prelude.{IsTrue, IsFalse}
use Rattle.std.proofs.lemmas.Bool.{false≢true, true≢false}
use Rattle.atomic_table.specs.declared.shared.Seat.{Seat}
use Rattle.commons.specs.Bag.{bag, one}
use Rattle.commons.proofs.Bags.{bag-cons, bag-single}
use Rattle.depot.specs.declared.rack.Rack.{Rack}
use Rattle.depot.specs.declared.view.View.{View}
use Rattle.depot.specs.Answers.{contents, losing}
use Rattle.depot.specs.Bags.{without}
use Rattle.depot.specs.Placing.{claiming, taking_back, forgetting, claim_found, back_found}
use Rattle.depot.specs.Racks.{Racked, SameLent, Lends}
use Rattle.depot.specs.Rule.{Sat}
use Rattle.depot.specs.Seats.{Site, IsOf, names, lent}
use Rattle.depot.proofs.Bags.{bag-without, one-cases}
use Rattle.depot.proofs.Racking.{seated}

module _ (g : Site) (w : Rack) (t : Seat (List ℕ) View) (r : Racked g w) (of : IsOf g t)
    (v : View) (me : t.me ≡ (v, w.seat.me.1)) (out : v.out ≡ w.seat.me.0.out) where
  -- its hand has what is in its magazines
  pub handed : ((i : ℕ) → bag (contents w.seat.me.1) i ≤ bag v.hand i) → Racked g (seated w t)
  handed hand = record {
    of = of;
    sound = record {
      hand = λ i.
          let a : bag (contents t.me.1) i ≡ bag (contents w.seat.me.1) i =
          ap (λ (m : Sat). bag (contents m.1) i) me in
          let b : bag t.me.0.hand i ≡ bag v.hand i = ap (λ (m : Sat). bag m.0.hand i) me in
          let c = hand i in omega arith;
      out = λ i. ap (λ (m : Sat). bag (names m.1) i) me ∙ r.sound.out i
          ∙ sym (ap (λ (m : Sat). bag m.0.out i) me ∙ ap (λ (xs : List ℕ). bag xs i) out);
    };
    small = r.small;
    rounds = r.rounds;
    at_hand = r.at_hand;
    magazines = ap (λ (m : Sat). names m.1) me ∙ r.magazines;
    inside = λ m some_there. r.inside m
        (let e = ap (λ (n : Sat). bag (names n.1) m) me in omega arith);
    fit = rw me r.fit;
    size = let e = ap (λ (n : Sat). length n.1) me in let s = r.size in omega arith;
    capacity = r.capacity;
  }

  its_lent : (i : ℕ) → lent t.me i ≡ bag v.hand i - bag (contents w.seat.me.1) i
  its_lent i = ap (λ (m : Sat). lent m i) me

  -- the hand is as it was
  pub same-hand : v.hand ≡ w.seat.me.0.hand → Racked g (seated w t)
  same-hand same =
      handed (λ i. let a = r.sound.hand i in
      let b : bag v.hand i ≡ bag w.seat.me.0.hand i =
      ap (λ (xs : List ℕ). bag xs i) same in omega arith)

  pub same-lent : v.hand ≡ w.seat.me.0.hand → SameLent w.seat.me t.me
  same-lent same i = its_lent i ∙ ap (λ (xs : List ℕ). bag xs i - bag (contents w.seat.me.1) i) same

  -- one that is in no magazine has left it
  module _ (x : ℕ) (left : v.hand ≡ without x w.seat.me.0.hand)
      (some_lent : 0 < lent w.seat.me x) where
    fewer : (i : ℕ) → bag v.hand i ≡ bag w.seat.me.0.hand i - one x i
    fewer i = ap (λ (xs : List ℕ). bag xs i) left ∙ bag-without i x w.seat.me.0.hand

    within : (i : ℕ) → one x i ≤ lent w.seat.me i
    within i = ⊎_elim
        (λ a. let e = a.1 in
        let there : 0 < lent w.seat.me i = subst (λ (y : ℕ). 0 < lent w.seat.me y) a.0 some_lent in
        omega arith)
        (λ b. let e = b.1 in omega arith) (one-cases x i)

    pub left-hand : Racked g (seated w t)
    left-hand =
        handed (λ i. let a = fewer i in let b = within i in let c = r.sound.hand i in omega arith)

    pub left-lent : Lends (x ∷ []) t.me w.seat.me
    left-lent i =
        let a = fewer i in let b = within i in let c = r.sound.hand i in let d = its_lent i in
        let e = bag-single x i in omega arith

  -- one more has come
  module _ (x : ℕ) (came : v.hand ≡ x ∷ w.seat.me.0.hand) where
    more : (i : ℕ) → bag v.hand i ≡ one x i + bag w.seat.me.0.hand i
    more i = ap (λ (xs : List ℕ). bag xs i) came ∙ bag-cons x w.seat.me.0.hand i

    pub come-hand : Racked g (seated w t)
    come-hand = handed (λ i. let a = more i in let c = r.sound.hand i in omega arith)

    pub come-lent : Lends (x ∷ []) w.seat.me t.me
    come-lent i =
        let a = more i in let c = r.sound.hand i in let d = its_lent i in
        let e = bag-single x i in omega arith

module _ (g : Site) (w : Rack) (t : Seat (List ℕ) View) (r : Racked g w) (of : IsOf g t)
    (x : ℕ) where
  pub claim-racked : (won : Bool) → claim_found won x w.seat.me t.me → Racked g (seated w t)
  claim-racked true is = come-hand g w t r of (claiming w.seat.me.0 x is.0) is.2 refl x refl
  claim-racked false is = same-hand g w t r of (losing w.seat.me.0) is refl refl

  pub claim-won : (won : Bool) → claim_found won x w.seat.me t.me → IsTrue won →
      Lends (x ∷ []) w.seat.me t.me
  claim-won true is h = come-lent g w t r of (claiming w.seat.me.0 x is.0) is.2 refl x refl
  claim-won false is h = absurd (false≢true h)

  pub claim-lost : (won : Bool) → claim_found won x w.seat.me t.me → IsFalse won →
      SameLent w.seat.me t.me
  claim-lost true is h = absurd (true≢false h)
  claim-lost false is h = same-lent g w t r of (losing w.seat.me.0) is refl refl

  pub back-racked : (won : Bool) → back_found won x w.seat.me t.me → Racked g (seated w t)
  back-racked true is = come-hand g w t r of (taking_back w.seat.me.0 x) is refl x refl
  back-racked false is = same-hand g w t r of (forgetting w.seat.me.0 x) is refl refl

  pub back-won : (won : Bool) → back_found won x w.seat.me t.me → IsTrue won →
      Lends (x ∷ []) w.seat.me t.me
  back-won true is h = come-lent g w t r of (taking_back w.seat.me.0 x) is refl x refl
  back-won false is h = absurd (false≢true h)

  pub back-lost : (won : Bool) → back_found won x w.seat.me t.me → IsFalse won →
      SameLent w.seat.me t.me
  back-lost true is h = absurd (true≢false h)
  back-lost false is h = same-lent g w t r of (forgetting w.seat.me.0 x) is refl refl
