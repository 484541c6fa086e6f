-- A rack whose front magazine has other elements, or which is turned, is one.
use Rattle.std.proofs.Common.{◌≡◌, ℕ, ◌+◌, ◌-◌, ◌<◌, ◌≤◌, List, [], ◌∷◌, ◌++◌, length, refl, sym, ap, ◌∙◌, arith, Global, ⊎_elim}
use Rattle.std.specs.declared.collections.VecDeque.{VecDeque}
use Rattle.std.specs.VecDeque.{deque_capacity}
use Rattle.std.proofs.lemmas.List.{length-append}
use Rattle.atomic_table.specs.declared.shared.Seat.{Seat}
use Rattle.atomic_table.specs.Table.{turned}
use Rattle.commons.specs.Bag.{bag}
use Rattle.commons.proofs.Bags.{bag-nil, bag-append, bag-single}
use Rattle.depot.proofs.Bags.{one-cases}
use Rattle.depot.specs.declared.rack.Rack.{Rack}
use Rattle.depot.specs.declared.view.View.{View}
use Rattle.depot.specs.Answers.{contents}
use Rattle.depot.specs.Racks.{Rows, front_of, with_front, stock, room, IsFront, IsSmall, Racked, Keeps, Lets}
use Rattle.depot.specs.Rule.{Sat}
use Rattle.depot.specs.Seats.{Site, IsOf, Logs, names, lent}
use Rattle.depot.proofs.Logging.{logs-same}
use Rattle.depot.proofs.Turns.{held-cons, held-front, held-turned, names-front, names-turned, front-is, names-size, stock-front, room-front, size-front, fit-front, front-front, front-most, stock-most, room-most, stock-turned, room-turned, size-turned, fit-turned}

-- nothing was read where the view is the same
pub view-logs : (a b : Sat) → b.0 ≡ a.0 → Logs a.0 b.0
view-logs a b is =
    logs-same a.0 b.0 (ap (λ (v : View). v.heads) is) (ap (λ (v : View). v.lost) is)
    (ap (λ (v : View). v.population) is) (ap (λ (v : View). v.rounds) is) (ap (λ (v : View). v.resting) is)
    (ap (λ (v : View). v.let_out) is) (ap (λ (v : View). v.taken_in) is)

-- the magazines are as they were, and then as they were again
pub keeps-same : (rounds : ℕ) (a b : Sat) → b ≡ a → Keeps rounds a b
keeps-same rounds a b is = record {
  size = ap (λ (m : Sat). length m.1) is;
  stock = ap (λ (m : Sat). stock m.1) is;
  room = ap (λ (m : Sat). room rounds m.1) is;
  lent = λ i. ap (λ (m : Sat). lent m i) is;
}

pub keeps-on : (rounds : ℕ) (a b c : Sat) → Keeps rounds a b → Keeps rounds b c → Keeps rounds a c
keeps-on rounds a b c x y = record {
  size = y.size ∙ x.size;
  stock = y.stock ∙ x.stock;
  room = y.room ∙ x.room;
  lent = λ i. y.lent i ∙ x.lent i;
}

pub is-front : (g : Site) (w : Rack) → Racked g w → IsFront w.front w.seat.me.1
is-front g w r = front-is w.front w.behind.items w.seat.me.1 r.magazines

-- the magazines behind the front are all but one
pub behind-size : (g : Site) (w : Rack) → Racked g w → length w.seat.me.1 ≡ length w.behind.items + 1
behind-size g w r =
    let a = names-size w.seat.me.1 in let b = ap (λ (ms : List ℕ). length ms) r.magazines in omega arith

-- few elements are in a rack, and there is room for few
pub few-stock : (g : Site) (w : Rack) → Racked g w → stock w.seat.me.1 ≤ 8388480
few-stock g w r =
    let a = stock-most g.rounds w.seat.me.1 r.fit r.small.most in
    let b = r.size in
    let c = r.small.slots in
    omega arith

pub few-room : (g : Site) (w : Rack) → Racked g w → room g.rounds w.seat.me.1 ≤ 8388480
few-room g w r =
    let a = room-most g.rounds w.seat.me.1 r.small.most in
    let b = r.size in
    let c = r.small.slots in
    omega arith

-- nothing is lent at first, and then one list after another
pub lets-none : (rounds : ℕ) (a : Sat) → Lets rounds [] a a
lets-none rounds a = record {
  size = refl;
  stock = omega arith;
  room = omega arith;
  lent = λ i. let n = bag-nil i in omega arith;
}

pub lets-on : (rounds : ℕ) (xs ys : List ℕ) (a b c : Sat) → Lets rounds xs a b → Lets rounds ys b c → Lets rounds (xs ++ ys) a c
lets-on rounds xs ys a b c x y = record {
  size = y.size ∙ x.size;
  stock = let p = x.stock in let q = y.stock in let l = length-append xs ys in omega arith;
  room = let p = x.room in let q = y.room in let l = length-append xs ys in omega arith;
  lent = λ i. let p = x.lent i in let q = y.lent i in let l = bag-append xs ys i in omega arith;
}

-- what only stands otherwise meanwhile
pub lets-keep : (rounds : ℕ) (xs : List ℕ) (a b c : Sat) → Lets rounds xs a b → Keeps rounds b c → Lets rounds xs a c
lets-keep rounds xs a b c x y = record {
  size = y.size ∙ x.size;
  stock = let p = x.stock in let q = y.stock in omega arith;
  room = let p = x.room in let q = y.room in omega arith;
  lent = λ i. y.lent i ∙ x.lent i;
}

pub keep-lets : (rounds : ℕ) (xs : List ℕ) (a b c : Sat) → Keeps rounds a b → Lets rounds xs a c → Lets rounds xs b c
keep-lets rounds xs a b c y x = record {
  size = x.size ∙ sym y.size;
  stock = let p = x.stock in let q = y.stock in omega arith;
  room = let p = x.room in let q = y.room in omega arith;
  lent = λ i. let p = x.lent i in let q = y.lent i in omega arith;
}

abbrev pub seated : Rack → Seat (List ℕ) View → Rack
seated w t = record {
  seat = t;
  front = w.front;
  rounds = w.rounds;
  at_hand = w.at_hand;
  behind = w.behind;
}

one-inside : (n m k : ℕ) → m < n → 0 < bag (m ∷ []) k → k < n
one-inside n m k inside some =
    ⊎_elim (λ a. let e = a.0 in omega arith)
    (λ a. let none = a.1 in let b = bag-single m k in absurd (omega arith)) (one-cases m k)

-- a rack of one empty magazine
pub one-racked : (g : Site) (w : Rack) → IsOf g w.seat → IsSmall g → w.rounds ≡ g.rounds → w.at_hand ≤ g.rounds → w.seat.me.0.out ≡ w.front ∷ [] →
    w.seat.me.1 ≡ (w.front, []) ∷ [] → w.front < g.table.slots → w.behind.items ≡ [] → g.table.slots ≤ deque_capacity w.behind →
    Racked g w
one-racked g w of small rounds at_hand out rows inside none capacity = record {
  of = of;
  sound = record {
    hand = λ i.
        let e : bag (contents w.seat.me.1) i ≡ bag (contents ((w.front, []) ∷ [])) i = ap (λ (ms : Rows). bag (contents ms) i) rows in
        let a = held-cons (w.front, []) [] i in
        let b = bag-nil i in
        omega arith;
    out = λ i. ap (λ (ms : Rows). bag (names ms) i) rows ∙ sym (ap (λ (xs : List ℕ). bag xs i) out);
  };
  small = small;
  rounds = rounds;
  at_hand = at_hand;
  magazines = ap names rows ∙ ap (λ (xs : List ℕ). w.front ∷ xs) (sym none);
  inside = λ m some. one-inside g.table.slots w.front m inside
      (let e = ap (λ (ms : Rows). bag (names ms) m) rows in omega arith);
  fit = rw rows (omega arith, tt);
  size = let e = ap (λ (ms : Rows). length ms) rows in omega arith;
  capacity = capacity;
}

-- the magazine in front has other elements
module _ (g : Site) (w : Rack) (t : Seat (List ℕ) View) (r : Racked g w) (of : IsOf g t)
    (view : t.me.0 ≡ w.seat.me.0) (xs : List ℕ) (front : t.me.1 ≡ with_front w.seat.me.1 xs)
    (few : (i : ℕ) → bag xs i ≤ bag (front_of w.seat.me.1) i + lent w.seat.me i) (fits : length xs ≤ g.rounds) where
  held : (i : ℕ) → bag (contents t.me.1) i + bag (front_of w.seat.me.1) i ≡ bag (contents w.seat.me.1) i + bag xs i
  held i =
      ap (λ (ms : Rows). bag (contents ms) i + bag (front_of w.seat.me.1) i) front
      ∙ held-front w.front w.seat.me.1 xs i (is-front g w r)

  hand : (i : ℕ) → bag t.me.0.hand i ≡ bag w.seat.me.0.hand i
  hand i = ap (λ (v : View). bag v.hand i) view

  same_names : names t.me.1 ≡ names w.seat.me.1
  same_names = ap names front ∙ names-front w.seat.me.1 xs

  pub fronted : Racked g (seated w t)
  fronted = record {
    of = of;
    sound = record {
      hand = λ i. let a = held i in let b = hand i in let c = few i in let d = r.sound.hand i in omega arith;
      out = λ i. ap (λ (ms : List ℕ). bag ms i) same_names ∙ r.sound.out i
          ∙ sym (ap (λ (v : View). bag v.out i) view);
    };
    small = r.small;
    rounds = r.rounds;
    at_hand = r.at_hand;
    magazines = same_names ∙ r.magazines;
    inside = λ m some. r.inside m (let e = ap (λ (ms : List ℕ). bag ms m) same_names in omega arith);
    fit = rw front (fit-front g.rounds w.seat.me.1 xs r.fit fits);
    size = let e = ap (λ (ms : Rows). length ms) front in let f = size-front w.seat.me.1 xs in let s = r.size in omega arith;
    capacity = r.capacity;
  }

  pub fronted_lent : (i : ℕ) → lent t.me i + bag xs i ≡ lent w.seat.me i + bag (front_of w.seat.me.1) i
  fronted_lent i = let a = held i in let b = hand i in let c = few i in let d = r.sound.hand i in omega arith

  pub fronted_stock : stock t.me.1 + length (front_of w.seat.me.1) ≡ stock w.seat.me.1 + length xs
  fronted_stock =
      let a : stock t.me.1 ≡ stock (with_front w.seat.me.1 xs) = ap stock front in
      let b = stock-front w.front w.seat.me.1 xs (is-front g w r) in
      omega arith

  pub fronted_room : room g.rounds t.me.1 + (g.rounds - length (front_of w.seat.me.1))
      ≡ room g.rounds w.seat.me.1 + (g.rounds - length xs)
  fronted_room =
      let a : room g.rounds t.me.1 ≡ room g.rounds (with_front w.seat.me.1 xs) = ap (λ (ms : Rows). room g.rounds ms) front in
      let b = room-front g.rounds w.front w.seat.me.1 xs (is-front g w r) in
      omega arith

  pub fronted_size : length t.me.1 ≡ length w.seat.me.1
  fronted_size = ap (λ (ms : Rows). length ms) front ∙ size-front w.seat.me.1 xs

  pub fronted_front : front_of t.me.1 ≡ xs
  fronted_front = ap front_of front ∙ front-front w.front w.seat.me.1 xs (is-front g w r)

-- elements are taken off the front
module _ (g : Site) (w : Rack) (t : Seat (List ℕ) View) (r : Racked g w) (of : IsOf g t)
    (view : t.me.0 ≡ w.seat.me.0) (out : List ℕ)
    (front : t.me.1 ≡ with_front w.seat.me.1 (front_of t.me.1))
    (cut : front_of w.seat.me.1 ≡ front_of t.me.1 ++ out) where
  both : (i : ℕ) → bag (front_of w.seat.me.1) i ≡ bag (front_of t.me.1) i + bag out i
  both i = ap (λ xs. bag xs i) cut ∙ bag-append (front_of t.me.1) out i

  sizes : length (front_of w.seat.me.1) ≡ length (front_of t.me.1) + length out
  sizes = ap (λ (xs : List ℕ). length xs) cut ∙ length-append (front_of t.me.1) out

  most : length (front_of w.seat.me.1) ≤ g.rounds
  most = front-most g.rounds w.seat.me.1 r.fit

  fewer : (i : ℕ) → bag (front_of t.me.1) i ≤ bag (front_of w.seat.me.1) i + lent w.seat.me i
  fewer i = let s = both i in omega arith

  fits : length (front_of t.me.1) ≤ g.rounds
  fits = let a = sizes in let b = most in omega arith

  pub took : Racked g (seated w t)
  took = fronted g w t r of view (front_of t.me.1) front fewer fits

  pub took_lets : Lets g.rounds out w.seat.me t.me
  took_lets = record {
    size = fronted_size g w t r of view (front_of t.me.1) front fewer fits;
    stock = let a = fronted_stock g w t r of view (front_of t.me.1) front fewer fits in let b = sizes in omega arith;
    room = let a = fronted_room g w t r of view (front_of t.me.1) front fewer fits in let b = sizes in let c = most in
        omega arith;
    lent = λ i.
        let all = fronted_lent g w t r of view (front_of t.me.1) front fewer fits i in
        let s = both i in
        let f = fewer i in
        omega arith;
  }

-- elements are added to it
module _ (g : Site) (w : Rack) (t : Seat (List ℕ) View) (r : Racked g w) (of : IsOf g t)
    (view : t.me.0 ≡ w.seat.me.0) (list : List ℕ)
    (front : t.me.1 ≡ with_front w.seat.me.1 (front_of w.seat.me.1 ++ list))
    (some_lent : (i : ℕ) → bag list i ≤ lent w.seat.me i)
    (has_room : length (front_of w.seat.me.1) + length list ≤ g.rounds) where
  with_list : (i : ℕ) → bag (front_of w.seat.me.1 ++ list) i ≡ bag (front_of w.seat.me.1) i + bag list i
  with_list i = bag-append (front_of w.seat.me.1) list i

  with_length : length (front_of w.seat.me.1 ++ list) ≡ length (front_of w.seat.me.1) + length list
  with_length = length-append (front_of w.seat.me.1) list

  more : (i : ℕ) → bag (front_of w.seat.me.1 ++ list) i ≤ bag (front_of w.seat.me.1) i + lent w.seat.me i
  more i = let s = with_list i in let l = some_lent i in omega arith

  whole : length (front_of w.seat.me.1 ++ list) ≤ g.rounds
  whole = let a = with_length in let b = has_room in omega arith

  pub added : Racked g (seated w t)
  added = fronted g w t r of view (front_of w.seat.me.1 ++ list) front more whole

  pub added_lets : Lets g.rounds list t.me w.seat.me
  added_lets = record {
    size = sym (fronted_size g w t r of view (front_of w.seat.me.1 ++ list) front more whole);
    stock = let a = fronted_stock g w t r of view (front_of w.seat.me.1 ++ list) front more whole in
        let b = with_length in omega arith;
    room = let a = fronted_room g w t r of view (front_of w.seat.me.1 ++ list) front more whole in
        let b = with_length in let c = has_room in omega arith;
    lent = λ i.
        let all = fronted_lent g w t r of view (front_of w.seat.me.1 ++ list) front more whole i in
        let s = with_list i in
        omega arith;
  }

  pub added_front : front_of t.me.1 ≡ front_of w.seat.me.1 ++ list
  added_front = fronted_front g w t r of view (front_of w.seat.me.1 ++ list) front more whole

-- the next magazine comes to the front
module _ (g : Site) (w : Rack) (t : Seat (List ℕ) View) (r : Racked g w) (table : t.table_id ≡ w.seat.table_id)
    (me : t.me ≡ (w.seat.me.0, turned w.seat.me.1)) where
  rows_are : t.me.1 ≡ turned w.seat.me.1
  rows_are = ap (λ (m : Sat). m.1) me

  view_is : t.me.0 ≡ w.seat.me.0
  view_is = ap (λ (m : Sat). m.0) me

  turned_held : (i : ℕ) → bag (contents t.me.1) i ≡ bag (contents w.seat.me.1) i
  turned_held i = ap (λ (m : Sat). bag (contents m.1) i) me ∙ held-turned w.seat.me.1 i

  turned_names : names t.me.1 ≡ w.behind.items ++ w.front ∷ []
  turned_names = ap names rows_are ∙ names-turned w.front w.behind.items w.seat.me.1 r.magazines

  turned_bag : (i : ℕ) → bag (names t.me.1) i ≡ bag (names w.seat.me.1) i
  turned_bag i =
      let a = ap (λ (ms : List ℕ). bag ms i) turned_names in
      let b = bag-append w.behind.items (w.front ∷ []) i in
      let c : bag (names w.seat.me.1) i ≡ bag ((w.front ∷ []) ++ w.behind.items) i = ap (λ (ms : List ℕ). bag ms i) r.magazines in
      let d = bag-append (w.front ∷ []) w.behind.items i in
      omega arith

  pub turned_racked : (next : ℕ) (behind : VecDeque ℕ Global) → w.behind.items ++ w.front ∷ [] ≡ next ∷ behind.items →
      deque_capacity behind ≡ deque_capacity w.behind →
      Racked g (record { seat = t; front = next; rounds = w.rounds; at_hand = w.at_hand; behind = behind })
  turned_racked next behind items same_cap = record {
    of = record {
      table = table ∙ r.of.table;
      population = ap (λ (v : View). v.population) view_is ∙ r.of.population;
      rounds = ap (λ (v : View). v.rounds) view_is ∙ r.of.rounds;
    };
    sound = record {
      hand = λ i. let a = turned_held i in let b = r.sound.hand i in
          let c : bag t.me.0.hand i ≡ bag w.seat.me.0.hand i = ap (λ (v : View). bag v.hand i) view_is in omega arith;
      out = λ i. turned_bag i ∙ r.sound.out i ∙ sym (ap (λ (v : View). bag v.out i) view_is);
    };
    small = r.small;
    rounds = r.rounds;
    at_hand = r.at_hand;
    magazines = turned_names ∙ items;
    inside = λ m some. r.inside m (let e = turned_bag m in omega arith);
    fit = rw rows_are (fit-turned g.rounds w.seat.me.1 r.fit);
    size = let e = ap (λ (ms : Rows). length ms) rows_are in let f = size-turned w.seat.me.1 in let s = r.size in omega arith;
    capacity = let c = r.capacity in omega arith;
  }

  pub turned_keeps : Keeps g.rounds w.seat.me t.me
  turned_keeps = record {
    size = ap (λ (ms : Rows). length ms) rows_are ∙ size-turned w.seat.me.1;
    stock = ap stock rows_are ∙ stock-turned w.seat.me.1;
    room = ap (λ (ms : Rows). room g.rounds ms) rows_are ∙ room-turned g.rounds w.seat.me.1;
    lent = λ i.
        let a = turned_held i in
        let c : bag t.me.0.hand i ≡ bag w.seat.me.0.hand i = ap (λ (v : View). bag v.hand i) view_is in
        omega arith;
  }
