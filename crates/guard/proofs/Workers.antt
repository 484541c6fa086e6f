-- A guarded worker within a call: what each part of it is, after a part has changed.
use Rattle.std.proofs.Common.{◌≡◌, ◌≢◌, ℕ, ◌+◌, ◌-◌, ◌%◌, ◌^◌, ◌<◌, ◌≤◌, Bool, true, false, List, [], ◌∷◌, length, get_or, sym, ap, ◌∙◌, subst, ⊎_elim, arith}
use Rattle.std.specs.Prelude.{nat_lt, slice_set}
use Rattle.std.proofs.Math.Nat.{mod-add-mod, add-mod_left}
use Rattle.std.proofs.lemmas.Bool.{cases_eq, cases_lt, ltb-false, lt-ltb, le-ltb}
use Rattle.std.proofs.lemmas.List.{get_or-set_same, get_or-set_other}
use Rattle.commons.specs.Bag.{bag, one}
use Rattle.commons.proofs.Bags.{bag-cons, bag-single, one-same}
use Rattle.depot.specs.declared.rack.Rack.{Rack}
use Rattle.depot.specs.declared.view.Resting.{Resting}
use Rattle.depot.specs.Bags.{without}
use Rattle.depot.specs.Racks.{Racked}
use Rattle.depot.specs.Resting.{numbers, wiped, is_marked}
use Rattle.depot.specs.Seats.{Site, lent}
use Rattle.depot.proofs.Bags.{bag-without, one-other}
use Rattle.depot.proofs.Looks.{wiped-same, wiped-other, its-number}
use Rattle.guard.specs.declared.worker.GuardWorker.{GuardWorker}
use Rattle.guard.specs.Between.{Body, Lacks, Holds}
use Rattle.guard.specs.Guards.{resting_of, IsGuard, IsGuarded, Counted}
use Rattle.guard.specs.Keeping.{Keep}

abbrev pub worker : Rack → ℕ → Keep → List Bool → List ℕ → ℕ → GuardWorker
worker t n k ms st c = record { rack = t; number = n; kept = k; marks = ms; stale = st; count = c }

pub body-of : (g : Site) (w : GuardWorker) → IsGuard g w → Body g w
body-of g w is = record {
  guarded = is.guarded;
  racked = is.racked;
  number = is.number;
  some = is.some;
  listed = is.listed;
  within = is.within;
  size = is.size;
  marks = is.marks;
  counted = is.counted;
}

pub guard-of : (g : Site) (w : GuardWorker) → Body g w → ((i : ℕ) → lent w.rack.seat.me i ≡ 0) → IsGuard g w
guard-of g w b settled = record {
  guarded = b.guarded;
  racked = b.racked;
  settled = settled;
  number = b.number;
  some = b.some;
  listed = b.listed;
  within = b.within;
  size = b.size;
  marks = b.marks;
  counted = b.counted;
}

-- a mark is set, or taken away
pub marked-set : (ms : List Bool) (xs : List ℕ) (e i : ℕ) → e < length ms → get_or ms i false ≡ nat_lt 0 (bag xs i) →
    get_or (slice_set ms e true) i false ≡ nat_lt 0 (bag (e ∷ xs) i)
marked-set ms xs e i inside old =
    let cons = bag-cons e xs i in
    ⊎_elim
    (λ (is : i ≡ e).
    let once : one e i ≡ 1 = ap (λ (x : ℕ). one e x) is ∙ one-same e in
    ap (λ (x : ℕ). get_or (slice_set ms e true) x false) is ∙ get_or-set_same ms e true false inside
    ∙ sym (lt-ltb 0 (bag (e ∷ xs) i) (omega arith)))
    (λ (n : i ≢ e).
    let none = one-other i e n in
    let same : bag xs i ≡ bag (e ∷ xs) i = omega arith in
    get_or-set_other ms e i true false n ∙ old ∙ ap (λ (x : ℕ). nat_lt 0 x) same) (cases_eq i e)

pub marked-wiped : (ms : List Bool) (xs : List ℕ) (e i : ℕ) → e < length ms → get_or ms i false ≡ nat_lt 0 (bag xs i) →
    get_or (slice_set ms e false) i false ≡ nat_lt 0 (bag (wiped e xs) i)
marked-wiped ms xs e i inside old =
    ⊎_elim
    (λ (is : i ≡ e).
    let none : bag (wiped e xs) i ≡ 0 = ap (λ (x : ℕ). bag (wiped e xs) x) is ∙ wiped-same e xs in
    ap (λ (x : ℕ). get_or (slice_set ms e false) x false) is ∙ get_or-set_same ms e false false inside
    ∙ sym (le-ltb 0 (bag (wiped e xs) i) (omega arith)))
    (λ (n : i ≢ e).
    get_or-set_other ms e i false false n ∙ old ∙ ap (λ (x : ℕ). nat_lt 0 x) (sym (wiped-other i e xs n)))
    (cases_eq i e)

-- what the count is, where it counts one off, or one on
abbrev pub Off : ℕ → ℕ → Type 0
Off c d = d ≡ (c + (2 ^ 64 - 1)) % 2 ^ 64

abbrev pub On : ℕ → ℕ → Type 0
On c d = d ≡ (c + 1) % 2 ^ 64

pub counted-same : (c : ℕ) (r x : Resting) → length x.gets ≡ length r.gets → length x.stale ≡ length r.stale →
    length x.puts ≡ length r.puts → length x.strays ≡ length r.strays → Counted c r → Counted c x
counted-same c r x gets stale puts strays was =
    ap (λ (n : ℕ). n % 2 ^ 64) (let a : c + length x.gets + length x.stale ≡ c + length r.gets + length r.stale = omega arith in a)
    ∙ was
    ∙ ap (λ (n : ℕ). n % 2 ^ 64) (let a : length r.puts + length r.strays ≡ length x.puts + length x.strays = omega arith in a)

pub counted-off : (c d : ℕ) (r x : Resting) → Off c d →
    length x.gets + length x.stale ≡ length r.gets + length r.stale + 1 →
    length x.puts ≡ length r.puts → length x.strays ≡ length r.strays → Counted c r → Counted d x
counted-off c d r x off less puts strays was =
    ap (λ (n : ℕ). (n + length x.gets + length x.stale) % 2 ^ 64) off
    ∙ ap (λ (n : ℕ). n % 2 ^ 64)
    (let a : (c + (2 ^ 64 - 1)) % 2 ^ 64 + length x.gets + length x.stale
    ≡ (c + (2 ^ 64 - 1)) % 2 ^ 64 + (length r.gets + length r.stale + 1) = omega arith in a)
    ∙ mod-add-mod (c + (2 ^ 64 - 1)) (2 ^ 64) (length r.gets + length r.stale + 1)
    ∙ ap (λ (n : ℕ). n % 2 ^ 64)
    (let b : c + (2 ^ 64 - 1) + (length r.gets + length r.stale + 1)
    ≡ 2 ^ 64 + (c + length r.gets + length r.stale) = omega arith in b)
    ∙ add-mod_left (2 ^ 64) (c + length r.gets + length r.stale)
    ∙ was
    ∙ ap (λ (n : ℕ). n % 2 ^ 64) (let a : length r.puts + length r.strays ≡ length x.puts + length x.strays = omega arith in a)

pub counted-on : (c d : ℕ) (r x : Resting) → On c d → length x.gets ≡ length r.gets → length x.stale ≡ length r.stale →
    length x.puts + length x.strays ≡ length r.puts + length r.strays + 1 → Counted c r → Counted d x
counted-on c d r x on gets stale more was =
    ap (λ (n : ℕ). (n + length x.gets + length x.stale) % 2 ^ 64) on
    ∙ ap (λ (n : ℕ). n % 2 ^ 64)
    (let a : (c + 1) % 2 ^ 64 + length x.gets + length x.stale
    ≡ (c + 1) % 2 ^ 64 + (length r.gets + length r.stale) = omega arith in a)
    ∙ mod-add-mod (c + 1) (2 ^ 64) (length r.gets + length r.stale)
    ∙ ap (λ (n : ℕ). n % 2 ^ 64)
    (let b : c + 1 + (length r.gets + length r.stale) ≡ c + length r.gets + length r.stale + 1 = omega arith in b)
    ∙ sym (mod-add-mod (c + length r.gets + length r.stale) (2 ^ 64) 1)
    ∙ ap (λ (n : ℕ). (n + 1) % 2 ^ 64) was
    ∙ mod-add-mod (length r.puts + length r.strays) (2 ^ 64) 1
    ∙ ap (λ (n : ℕ). n % 2 ^ 64)
    (let a : length r.puts + length r.strays + 1 ≡ length x.puts + length x.strays = omega arith in a)

-- a worker whose seat, list, marks, store and count are others
module _ (g : Site) (w : GuardWorker) (is : Body g w) (t : Rack) (racked : Racked g t)
    (x : Resting) (me : t.seat.me.0.resting ≡ x)
    (from : x.from ≡ (resting_of w).from) (to : x.to ≡ (resting_of w).to) where
  pub body-again : (k : Keep) → ((i : ℕ) → bag k.items i ≡ bag x.listed i) → ((i : ℕ) → g.population ≤ i → bag k.items i ≡ 0) →
      (ms : List Bool) → length ms ≡ length w.marks →
      ((i : ℕ) → i < g.population → get_or ms i false ≡ is_marked x i) →
      (st : List ℕ) (c : ℕ) → Counted c x → Body g (worker t w.number k ms st c)
  body-again k listed within ms size marks st c counted = record {
    guarded = is.guarded;
    racked = racked;
    number = record {
      from = ap (λ (r : Resting). r.from) me ∙ from ∙ is.number.from;
      to = ap (λ (r : Resting). r.to) me ∙ to ∙ is.number.to;
    };
    some = is.some;
    listed = λ i. listed i ∙ sym (ap (λ (r : Resting). bag r.listed i) me);
    within = within;
    size = size ∙ is.size;
    marks = λ i h. marks i h ∙ sym (ap (λ (r : Resting). is_marked r i) me);
    counted = subst (Counted c) (sym me) counted;
  }

pub mark-inside : (g : Site) (w : GuardWorker) → Body g w → (e : ℕ) → e < g.population → e < length w.marks
mark-inside g w is e h = let size = is.size in omega arith

pub unmarked-none : (g : Site) (w : GuardWorker) → Body g w → (e : ℕ) → e < g.population → get_or w.marks e false ≡ false →
    bag (resting_of w).marks e ≡ 0
unmarked-none g w is e inside unmarked =
    let none = ltb-false 0 (bag (resting_of w).marks e) (sym (is.marks e inside) ∙ unmarked) in omega arith

-- the worker's number is one of its seat's, once
pub its-own : (g : Site) (w : GuardWorker) → Body g w → (r : Resting) → r ≡ resting_of w → numbers r w.number ≡ 1
its-own g w is r same =
    ap (λ (x : Resting). numbers x w.number) same ∙ its-number (resting_of w) w.number is.number

-- an entry that has left the list is one of the pool's
pub lacks-inside : (g : Site) (e : ℕ) (w : GuardWorker) → Lacks g e w → e < g.population
lacks-inside g e w l =
    ⊎_elim (λ (h : e < g.population). h)
    (λ past. let none = l.was.within e past in
    let all = l.takes.items e in let once = one-same e in absurd (omega arith)) (cases_lt e g.population)

pub lacks-listed : (g : Site) (e : ℕ) (w : GuardWorker) → Lacks g e w → (i : ℕ) →
    bag w.kept.items i ≡ bag (without e (resting_of w).listed) i
lacks-listed g e w l i =
    let all = l.takes.items i in let had = l.was.listed i in let less = bag-without i e (resting_of w).listed in omega arith

pub lacks-within : (g : Site) (e : ℕ) (w : GuardWorker) → Lacks g e w → (i : ℕ) → g.population ≤ i → bag w.kept.items i ≡ 0
lacks-within g e w l i past = let all = l.takes.items i in let none = l.was.within i past in omega arith

-- an element of the hand
pub holds-some : (g : Site) (e : ℕ) (w : GuardWorker) → Holds g e w → 0 < lent w.rack.seat.me e
holds-some g e w h = let held = h.held e in let once = one-same e in omega arith

pub holds-lent : (g : Site) (e : ℕ) (w : GuardWorker) → Holds g e w → (i : ℕ) → bag (e ∷ []) i ≤ lent w.rack.seat.me i
holds-lent g e w h i = let held = h.held i in let single = bag-single e i in omega arith

-- an element of the pool has a place
pub has-place : (g : Site) (e : ℕ) → IsGuarded g → e < g.population → e < g.places
has-place g e is h = let same = is.places in omega arith
