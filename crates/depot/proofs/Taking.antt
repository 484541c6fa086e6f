-- A rack that takes loans in, or lets them out.
use Rattle.std.proofs.Common.{◌≡◌, ℕ, ◌+◌, List, [], ◌∷◌, length, sym, ap, ◌∙◌, subst, arith}
use Rattle.atomic_table.specs.declared.shared.Seat.{Seat}
use Rattle.commons.specs.Bag.{bag}
use Rattle.commons.proofs.Bags.{bag-nil, bag-append}
use Rattle.depot.specs.declared.loans.Loans.{Loans}
use Rattle.depot.specs.declared.rack.Rack.{Rack}
use Rattle.depot.specs.declared.view.Resting.{Resting}
use Rattle.depot.specs.declared.view.View.{View}
use Rattle.depot.specs.Answers.{contents, noting, other_part, both_views, IsOwned}
use Rattle.depot.specs.Bags.{minus}
use Rattle.depot.specs.Lending.{AreOf, AreOnce, elements, hands_of}
use Rattle.depot.specs.Racks.{Racked}
use Rattle.depot.specs.Resting.{no_resting, IsBare}
use Rattle.depot.specs.Rule.{Sat}
use Rattle.depot.specs.Seats.{Site, IsOf, names, lent}
use Rattle.depot.proofs.Bags.{bag-minus}
use Rattle.depot.proofs.Racking.{seated}

first_out : List View → List ℕ
first_out [] = []
first_out (v ∷ vs) = v.out

pub none-out : (g : Site) (x : Loans) (v : View) → AreOf g x → x.views ≡ v ∷ [] → v.out ≡ []
unfolding first_out
none-out g x v of is = ap first_out (sym is ∙ of.views) ∙ of.none

first_resting : List View → Resting
first_resting [] = no_resting
first_resting (v ∷ vs) = v.resting

pub bare-of : (g : Site) (x : Loans) (v : View) → AreOf g x → x.views ≡ v ∷ [] → IsBare v.resting
unfolding first_resting
bare-of g x v of is = subst IsBare (ap first_resting (sym of.views ∙ is)) of.bare

module _ (g : Site) (w : Rack) (t : Seat (List ℕ) View) (x : Loans) (v : View) (r : Racked g w)
    (of : AreOf g x) (is : x.views ≡ v ∷ []) (t_of : IsOf g t) (me : t.me ≡ (both_views w.seat.me.0 v, w.seat.me.1)) where
  in_hand : (i : ℕ) → bag t.me.0.hand i ≡ bag w.seat.me.0.hand i + bag v.hand i
  in_hand i = ap (λ (m : Sat). bag m.0.hand i) me ∙ bag-append w.seat.me.0.hand v.hand i

  are : (i : ℕ) → bag (elements x) i ≡ bag v.hand i
  are i = ap (λ (vs : List View). bag (hands_of vs) i) is

  in_held : (i : ℕ) → bag (contents t.me.1) i ≡ bag (contents w.seat.me.1) i
  in_held i = ap (λ (m : Sat). bag (contents m.1) i) me

  in_out : (i : ℕ) → bag t.me.0.out i ≡ bag w.seat.me.0.out i
  in_out i =
      let a = ap (λ (m : Sat). bag m.0.out i) me in
      let b = bag-append w.seat.me.0.out v.out i in
      let c : bag v.out i ≡ bag [] i = ap (λ (xs : List ℕ). bag xs i) (none-out g x v of is) in
      let d = bag-nil i in
      omega arith

  pub in-racked : Racked g (seated w t)
  in-racked = record {
    of = t_of;
    sound = record {
      hand = λ i. let a = in_hand i in let b = in_held i in let c = r.sound.hand i in omega arith;
      out = λ i. ap (λ (m : Sat). bag (names m.1) i) me ∙ r.sound.out i ∙ sym (in_out i);
    };
    small = r.small;
    rounds = r.rounds;
    at_hand = r.at_hand;
    magazines = ap (λ (m : Sat). names m.1) me ∙ r.magazines;
    inside = λ m some. r.inside m (let e = ap (λ (n : Sat). bag (names n.1) m) me in omega arith);
    fit = rw me r.fit;
    size = let e = ap (λ (n : Sat). length n.1) me in let s = r.size in omega arith;
    capacity = r.capacity;
  }

  pub in-lent : (i : ℕ) → lent t.me i ≡ lent w.seat.me i + bag (elements x) i
  in-lent i =
      let a = in_hand i in let b = in_held i in let c = are i in let d = r.sound.hand i in omega arith

-- what is let out is the hand without what is in the magazines
module _ (g : Site) (w : Rack) (n : Seat (List ℕ) View) (y : Seat (List ℕ) View) (x : Loans) (r : Racked g w)
    (noted : n.me ≡ (noting w.seat.me.0 w.seat.me.1, w.seat.me.1)) (other : y.me ≡ (other_part n.me.0, []))
    (views : x.views ≡ y.me.0 ∷ []) where
  pub out-lent : (i : ℕ) → bag (elements x) i ≡ lent w.seat.me i
  out-lent i =
      ap (λ (vs : List View). bag (hands_of vs) i) views
      ∙ ap (λ (m : Sat). bag m.0.hand i) other
      ∙ ap (λ (m : Sat). bag (minus m.0.hand m.0.kept) i) noted
      ∙ bag-minus i w.seat.me.0.hand (contents w.seat.me.1)

  pub out-once : IsOwned g.table.slots w.seat.me.0 → AreOnce g x
  out-once owned = record {
    once = λ i. let a = out-lent i in let b = owned.once i in omega arith;
    below = λ i past. let a = out-lent i in let b = owned.below g.population i r.of.population past in omega arith;
  }
