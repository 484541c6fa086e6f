-- What passes from a worker's hand to loans, and back.
use Rattle.std.proofs.Common.{◌≡◌, ℕ, ◌+◌, List, length, refl, ap, subst, arith}
use Rattle.commons.specs.Bag.{bag}
use Rattle.commons.proofs.Bags.{bag-append}
use Rattle.depot.specs.declared.cause.Cause.{Cause}
use Rattle.depot.specs.declared.cause.Cause.TheVariants.{NoEntries, NoMagazine, Contended, HeadSpent}
use Rattle.depot.specs.declared.loans.Loans.{Loans}
use Rattle.depot.specs.declared.view.Stack.{Stack}
use Rattle.depot.specs.declared.view.View.{View}
use Rattle.depot.specs.Answers.{contents}
use Rattle.depot.specs.Lending.{KeepsAll, elements}
use Rattle.depot.specs.Racks.{Rows, stock}
use Rattle.depot.specs.Rule.{Sat}
use Rattle.depot.specs.Seats.{IsCause, Logs, Reads, TakesIn, LetsOut, WasRead, quiet}
use Rattle.depot.proofs.Logging.{cause-on, cause-then, logs-same, logs-on}
use Rattle.depot.proofs.Turns.{stock-contents}

-- nothing was read and nothing passed
pub logs-none : (v : View) → Logs v v
logs-none v = logs-same v v refl refl refl refl refl refl refl

pub logs-quiet : (v w : View) → Logs v w → Reads v w
logs-quiet v w a = record {
  more = a.more;
  heads = a.heads;
  lost = a.lost;
  population = a.population;
  rounds = a.rounds;
  resting = a.resting;
  let_out = refl;
  taken_in = refl;
}

-- in between all loans were taken in, and what is left of them was let out
pub passed : (u v a b c : View) (x y : Loans) → Logs u v → Reads v a → TakesIn (elements x) v a → Logs a b → Reads b c →
    LetsOut (elements y) b c → KeepsAll u x c y
passed u v a b c x y first in_reads takes then out_reads lets = record {
  reads = logs-on (quiet u) (quiet v) (quiet c) (logs-quiet u v first)
      (logs-on (quiet v) (quiet a) (quiet c) in_reads
      (logs-on (quiet a) (quiet b) (quiet c) (logs-quiet a b then) out_reads));
  passes = λ i.
      let first_out = ap (λ (l : List ℕ). bag l i) first.let_out in
      let first_in = ap (λ (l : List ℕ). bag l i) first.taken_in in
      let takes_out = ap (λ (l : List ℕ). bag l i) takes.let_out in
      let takes_in = ap (λ (l : List ℕ). bag l i) takes.taken_in in
      let then_out = ap (λ (l : List ℕ). bag l i) then.let_out in
      let then_in = ap (λ (l : List ℕ). bag l i) then.taken_in in
      let lets_out = ap (λ (l : List ℕ). bag l i) lets.let_out in
      let lets_in = ap (λ (l : List ℕ). bag l i) lets.taken_in in
      let more_in = bag-append v.taken_in (elements x) i in
      let more_out = bag-append b.let_out (elements y) i in
      omega arith;
}

pub keeps-none : (v : View) (x : Loans) → KeepsAll v x v x
keeps-none v x = record { reads = logs-none (quiet v); passes = λ i. refl }

pub keeps-then : (u v w : View) (x y z : Loans) → KeepsAll u x v y → KeepsAll v y w z → KeepsAll u x w z
keeps-then u v w x y z a b = record {
  reads = logs-on (quiet u) (quiet v) (quiet w) a.reads b.reads;
  passes = λ i. let p = a.passes i in let q = b.passes i in omega arith;
}

-- a cause is one also between earlier and later states, whatever passes
read-quiet : (v w : View) (k : Stack) (P : ℕ → Type 0) → WasRead v w k P → WasRead (quiet v) (quiet w) k P
read-quiet v w k P a = record { before = a.before; head = a.head; behind = a.behind; heads = a.heads; such = a.such }

read-loud : (v w : View) (k : Stack) (P : ℕ → Type 0) → WasRead (quiet v) (quiet w) k P → WasRead v w k P
read-loud v w k P a = record { before = a.before; head = a.head; behind = a.behind; heads = a.heads; such = a.such }

cause-quiet : (tries : ℕ) (cause : Cause) (v w : View) → IsCause tries cause v w → IsCause tries cause (quiet v) (quiet w)
cause-quiet tries NoEntries v w a = (read-quiet v w _ _ a.0, read-quiet v w _ _ a.1)
cause-quiet tries NoMagazine v w a = read-quiet v w _ _ a
cause-quiet tries Contended v w a = a
cause-quiet tries HeadSpent v w a = (a.0, read-quiet v w _ _ a.1)

cause-loud : (tries : ℕ) (cause : Cause) (v w : View) → IsCause tries cause (quiet v) (quiet w) → IsCause tries cause v w
cause-loud tries NoEntries v w a = (read-loud v w _ _ a.0, read-loud v w _ _ a.1)
cause-loud tries NoMagazine v w a = read-loud v w _ _ a
cause-loud tries Contended v w a = a
cause-loud tries HeadSpent v w a = (a.0, read-loud v w _ _ a.1)

pub cause-reads : (tries : ℕ) (cause : Cause) (t u v w : View) → Reads t u → IsCause tries cause u v → Reads v w →
    IsCause tries cause t w
cause-reads tries cause t u v w a was b =
    cause-loud tries cause t w
    (cause-then tries cause (quiet t) (quiet v) (quiet w)
    (cause-on tries cause (quiet t) (quiet u) (quiet v) a (cause-quiet tries cause u v was)) b)

pub logs-from : (m n : Sat) (w : View) → n ≡ m → Logs n.0 w → Logs m.0 w
logs-from m n w is logs = subst (λ (a : Sat). Logs a.0 w) is logs

-- so many were taken out of the magazines, or put into them
pub less-at-hand : (m n a b d : Sat) (k : ℕ) → n ≡ m → stock a.1 + k ≡ stock n.1 → b.1 ≡ a.1 → d.1 ≡ b.1 →
    length (contents d.1) + k ≡ length (contents m.1)
less-at-hand m n a b d k is took same rows =
    let first = stock-contents m.1 in
    let last = stock-contents d.1 in
    let at = ap (λ (x : Sat). stock x.1) is in
    let kept = ap (λ (x : Rows). stock x) same in
    let left = ap (λ (x : Rows). stock x) rows in
    omega arith

pub more-at-hand : (m n a b d : Sat) (k : ℕ) → n ≡ m → a.1 ≡ n.1 → stock a.1 + k ≡ stock b.1 → d.1 ≡ b.1 →
    length (contents d.1) ≡ length (contents m.1) + k
more-at-hand m n a b d k is same put rows =
    let first = stock-contents m.1 in
    let last = stock-contents d.1 in
    let at = ap (λ (x : Sat). stock x.1) is in
    let kept = ap (λ (x : Rows). stock x) same in
    let left = ap (λ (x : Rows). stock x) rows in
    omega arith
