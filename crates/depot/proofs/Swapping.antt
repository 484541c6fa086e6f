-- A rack to which a magazine comes, or from which one goes, or of which a call has stayed without
-- effect.
use Rattle.std.proofs.Common.{◌≡◌, ℕ, ◌+◌, ◌-◌, ◌<◌, ◌≤◌, List, ◌∷◌, length, refl, sym, ap, ◌∙◌, arith, Global}
use Rattle.std.specs.declared.collections.VecDeque.{VecDeque}
use Rattle.std.specs.VecDeque.{deque_capacity}
use Rattle.atomic_table.specs.declared.shared.Seat.{Seat}
use Rattle.atomic_table.specs.Table.{rest}
use Rattle.commons.specs.Bag.{bag, one}
use Rattle.commons.proofs.Bags.{bag-cons, bag-append, bag-head, length-le}
use Rattle.depot.specs.declared.rack.Rack.{Rack}
use Rattle.depot.specs.declared.view.Stack.{Stack}
use Rattle.depot.specs.declared.view.View.{View}
use Rattle.depot.specs.Answers.{contents, noting, IsOwned}
use Rattle.depot.specs.Bags.{Includes}
use Rattle.depot.specs.Racks.{Rows, front_of, stock, room, Racked, SameLent, Keeps, Gains, Yields}
use Rattle.depot.specs.Rule.{Sat, Suits}
use Rattle.depot.specs.declared.view.Stack.TheVariants.{Full, Partial, Empty}
use Rattle.depot.specs.Seats.{Site, IsOf, Logs, names, Stays, Comes, Goes}
use Rattle.depot.proofs.Bags.{bag-without, bag-minus, below-past, below-le, below-inside}
use Rattle.depot.proofs.Racking.{seated, is-front}
use Rattle.depot.proofs.Turns.{held-cons, names-size, names-rest, fit-rest, stock-rest, size-rest}

-- a call without effect
pub stay-keeps : (rounds : ℕ) (a b : Sat) → Stays a b → Keeps rounds a b
stay-keeps rounds a b s = record {
  size = ap (λ (ms : Rows). length ms) s.magazines;
  stock = ap stock s.magazines;
  room = ap (λ (ms : Rows). room rounds ms) s.magazines;
  lent = λ i.
      let e : bag b.0.hand i ≡ bag a.0.hand i = ap (λ (xs : List ℕ). bag xs i) s.hand in
      let f : bag (contents b.1) i ≡ bag (contents a.1) i = ap (λ (ms : Rows). bag (contents ms) i) s.magazines in
      omega arith;
}

pub stay-racked : (g : Site) (w : Rack) (t : Seat (List ℕ) View) → Racked g w → IsOf g t → Stays w.seat.me t.me →
    Racked g (seated w t)
stay-racked g w t r of s = record {
  of = of;
  sound = record {
    hand = λ i.
        let e : bag t.me.0.hand i ≡ bag w.seat.me.0.hand i = ap (λ (xs : List ℕ). bag xs i) s.hand in
        let f : bag (contents t.me.1) i ≡ bag (contents w.seat.me.1) i = ap (λ (ms : Rows). bag (contents ms) i) s.magazines in
        let old = r.sound.hand i in
        omega arith;
    out = λ i. ap (λ (ms : Rows). bag (names ms) i) s.magazines ∙ r.sound.out i
        ∙ sym (ap (λ (xs : List ℕ). bag xs i) s.out);
  };
  small = r.small;
  rounds = r.rounds;
  at_hand = r.at_hand;
  magazines = ap names s.magazines ∙ r.magazines;
  inside = λ m some. r.inside m (let e = ap (λ (ms : Rows). bag (names ms) m) s.magazines in omega arith);
  fit = rw s.magazines r.fit;
  size = let e = ap (λ (ms : Rows). length ms) s.magazines in let old = r.size in omega arith;
  capacity = r.capacity;
}

-- a magazine of a stack has at most as many elements as a full one
pub suits-fit : (rounds : ℕ) (k : Stack) (xs : List ℕ) → Suits rounds k xs → length xs ≤ rounds
suits-fit rounds Full xs s = omega arith
suits-fit rounds Partial xs s = s.1
suits-fit rounds Empty xs s = let e = ap (λ (ys : List ℕ). length ys) s in omega arith

-- what is out with a seat, once each, is as much as the depot has at most
pub owned-size : (slots : ℕ) (v : View) (ms : Rows) → IsOwned slots v → ((i : ℕ) → bag (names ms) i ≡ bag v.out i) →
    length ms ≤ slots
owned-size slots v ms owned same =
    let a = names-size ms in
    let b = length-le slots (names ms)
    (λ i. let s = same i in let o = owned.magazines i in let l = below-le slots i in omega arith)
    (λ i past_i. let s = same i in let o = owned.magazines i in let l = below-past slots i past_i in omega arith) in
    omega arith

pub owned-inside : (slots : ℕ) (v : View) (ms : Rows) → IsOwned slots v → ((i : ℕ) → bag (names ms) i ≡ bag v.out i) →
    (m : ℕ) → 0 < bag (names ms) m → m < slots
owned-inside slots v ms owned same m some =
    below-inside slots m (let s = same m in let o = owned.magazines m in omega arith)

-- a magazine comes, and the seat notes what it has
module _ (g : Site) (w : Rack) (t n : Seat (List ℕ) View) (k : Stack) (m : ℕ) (r : Racked g w) (of : IsOf g n)
    (comes : Comes g.rounds k m w.seat.me t.me) (noted : n.me ≡ (noting t.me.0 t.me.1, t.me.1))
    (owned : IsOwned g.table.slots t.me.0) where
  rows : n.me.1 ≡ (m, comes.elements) ∷ w.seat.me.1
  rows = ap (λ (s : Sat). s.1) noted ∙ comes.magazines

  come_hand : (i : ℕ) → bag n.me.0.hand i ≡ bag w.seat.me.0.hand i + bag comes.elements i
  come_hand i =
      ap (λ (s : Sat). bag s.0.hand i) noted
      ∙ ap (λ (xs : List ℕ). bag xs i) comes.hand ∙ bag-append w.seat.me.0.hand comes.elements i

  come_held : (i : ℕ) → bag (contents n.me.1) i ≡ bag comes.elements i + bag (contents w.seat.me.1) i
  come_held i = ap (λ (ms : Rows). bag (contents ms) i) rows ∙ held-cons (m, comes.elements) w.seat.me.1 i

  come_out : (i : ℕ) → bag (names n.me.1) i ≡ bag t.me.0.out i
  come_out i =
      ap (λ (ms : Rows). bag (names ms) i) rows
      ∙ bag-cons m (names w.seat.me.1) i
      ∙ ap (λ (a : ℕ). one m i + a) (r.sound.out i)
      ∙ sym (ap (λ (xs : List ℕ). bag xs i) comes.out ∙ bag-cons m w.seat.me.0.out i)

  pub come-room : length w.seat.me.1 + 1 ≤ g.table.slots
  come-room =
      let a = owned-size g.table.slots t.me.0 n.me.1 owned come_out in
      let b = ap (λ (ms : Rows). length ms) rows in
      omega arith

  pub come-racked : (behind : VecDeque ℕ Global) → behind.items ≡ w.front ∷ w.behind.items →
      deque_capacity behind ≡ deque_capacity w.behind →
      Racked g (record { seat = n; front = m; rounds = w.rounds; at_hand = w.at_hand; behind = behind })
  come-racked behind items same_cap = record {
    of = of;
    sound = record {
      hand = λ i. let a = come_hand i in let b = come_held i in let c = r.sound.hand i in omega arith;
      out = λ i. come_out i ∙ sym (ap (λ (s : Sat). bag s.0.out i) noted);
    };
    small = r.small;
    rounds = r.rounds;
    at_hand = r.at_hand;
    magazines = ap names rows ∙ ap (λ (ms : List ℕ). m ∷ ms) (r.magazines ∙ sym items);
    inside = owned-inside g.table.slots t.me.0 n.me.1 owned come_out;
    fit = rw rows (suits-fit g.rounds k comes.elements comes.suits, r.fit);
    size = owned-size g.table.slots t.me.0 n.me.1 owned come_out;
    capacity = let c = r.capacity in omega arith;
  }

  pub come-logs : Logs w.seat.me.0 n.me.0
  come-logs = rw noted (record {
    more = comes.logs.more;
    heads = comes.logs.heads;
    lost = comes.logs.lost;
    population = comes.logs.population;
    rounds = comes.logs.rounds;
    resting = comes.logs.resting;
    let_out = comes.logs.let_out;
    taken_in = comes.logs.taken_in;
  })

  pub come-lent : SameLent w.seat.me n.me
  come-lent i = let a = come_hand i in let b = come_held i in let c = r.sound.hand i in omega arith

  pub come-suits : Suits g.rounds k (front_of n.me.1)
  come-suits = rw rows comes.suits

  pub come-gains : Gains g.rounds w.seat.me n.me
  come-gains = rw rows (record { size = omega arith; stock = refl; room = refl })

-- the magazine in front of a rack is out with its seat, and its elements are in the hand
module _ (g : Site) (w : Rack) (r : Racked g w) where
  pub front-bag : 0 < bag (names w.seat.me.1) w.front
  front-bag =
      let b : bag (names w.seat.me.1) w.front ≡ bag (w.front ∷ w.behind.items) w.front =
      ap (λ (ms : List ℕ). bag ms w.front) r.magazines in
      let c = bag-head w.front w.behind.items in
      omega arith

  pub front-out : 0 < bag w.seat.me.0.out w.front
  front-out = let a = r.sound.out w.front in let b = front-bag in omega arith

  pub front-inside : w.front < g.table.slots
  front-inside = r.inside w.front front-bag

  pub front-in-hand : Includes w.seat.me.0.hand (front_of w.seat.me.1)
  front-in-hand i =
      let a = r.sound.hand i in
      let b : bag (contents w.seat.me.1) i ≡ bag (front_of w.seat.me.1) i + bag (contents (rest w.seat.me.1)) i =
      ap (λ (ms : Rows). bag (contents ms) i) (is-front g w r) ∙ held-cons (w.front, front_of w.seat.me.1) (rest w.seat.me.1) i in
      omega arith

-- the magazine in front goes
module _ (g : Site) (w : Rack) (t : Seat (List ℕ) View) (r : Racked g w) (of : IsOf g t)
    (goes : Goes w.front (front_of w.seat.me.1) (rest w.seat.me.1) w.seat.me t.me) where
  go_hand : (i : ℕ) → bag t.me.0.hand i ≡ bag w.seat.me.0.hand i - bag (front_of w.seat.me.1) i
  go_hand i = ap (λ (ys : List ℕ). bag ys i) goes.hand ∙ bag-minus i w.seat.me.0.hand (front_of w.seat.me.1)

  go_held : (i : ℕ) → bag (contents w.seat.me.1) i ≡ bag (front_of w.seat.me.1) i + bag (contents t.me.1) i
  go_held i =
      ap (λ (ms : Rows). bag (contents ms) i) (is-front g w r)
      ∙ held-cons (w.front, front_of w.seat.me.1) (rest w.seat.me.1) i
      ∙ ap (λ (ms : Rows). bag (front_of w.seat.me.1) i + bag (contents ms) i) (sym goes.magazines)

  go_names : names t.me.1 ≡ w.behind.items
  go_names = ap names goes.magazines ∙ names-rest w.front w.behind.items w.seat.me.1 r.magazines

  go_out : (i : ℕ) → bag (names w.seat.me.1) i ≡ one w.front i + bag (names t.me.1) i
  go_out i =
      ap (λ (ms : List ℕ). bag ms i) r.magazines
      ∙ bag-cons w.front w.behind.items i
      ∙ ap (λ (ms : List ℕ). one w.front i + bag ms i) (sym go_names)

  pub go-racked : (next : ℕ) (behind : VecDeque ℕ Global) → w.behind.items ≡ next ∷ behind.items →
      deque_capacity behind ≡ deque_capacity w.behind →
      Racked g (record { seat = t; front = next; rounds = w.rounds; at_hand = w.at_hand; behind = behind })
  go-racked next behind items same_cap = record {
    of = of;
    sound = record {
      hand = λ i. let a = go_hand i in let b = go_held i in let c = r.sound.hand i in omega arith;
      out = λ i.
          let a = go_out i in
          let b = r.sound.out i in
          let c : bag t.me.0.out i ≡ bag w.seat.me.0.out i - one w.front i =
          ap (λ (ys : List ℕ). bag ys i) goes.out ∙ bag-without i w.front w.seat.me.0.out in
          omega arith;
    };
    small = r.small;
    rounds = r.rounds;
    at_hand = r.at_hand;
    magazines = go_names ∙ items;
    inside = λ m some. r.inside m (let a = go_out m in omega arith);
    fit = rw goes.magazines (fit-rest g.rounds w.seat.me.1 r.fit);
    size =
        let a = ap (λ (ms : Rows). length ms) goes.magazines in
        let b = size-rest w.front w.seat.me.1 (is-front g w r) in
        let c = r.size in
        omega arith;
    capacity = let c = r.capacity in omega arith;
  }

  pub go-lent : SameLent w.seat.me t.me
  go-lent i = let a = go_hand i in let b = go_held i in let c = r.sound.hand i in omega arith

  pub go-yields : Yields w.seat.me t.me
  go-yields = record {
    size = let a = ap (λ (ms : Rows). length ms) goes.magazines in
        let b = size-rest w.front w.seat.me.1 (is-front g w r) in omega arith;
    stock = let a = ap stock goes.magazines in
        let b = stock-rest w.front w.seat.me.1 (is-front g w r) in omega arith;
  }
