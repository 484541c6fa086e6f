-- What a seat has read, from one state to a later one.
use Rattle.std.proofs.Common.{◌≡◌, ℕ, Bool, true, false, List, [], ◌∷◌, ◌++◌, Ok, refl, sym, ap, ◌∙◌, subst, arith}
use Rattle.std.proofs.lemmas.Bool.{false≢true, true≢false}
use Rattle.std.proofs.lemmas.List.{append_assoc, append-nil}
use Rattle.atomic_table.specs.Table.{rest}
use Rattle.depot.specs.declared.cause.Cause.{Cause}
use Rattle.depot.specs.declared.cause.Cause.TheVariants.{NoEntries, NoMagazine, Contended, HeadSpent}
use Rattle.depot.specs.declared.view.Stack.{Stack}
use Rattle.depot.specs.declared.view.View.{View}
use Rattle.depot.specs.Answers.{looked}
use Rattle.depot.specs.Bags.{minus, without}
use Rattle.depot.specs.Rule.{Sat}
use Rattle.depot.specs.Seats.{Logs, LastRead, IsCause, IsCauseAt, IsGiveCause, WasRead, Stays, Comes, Goes, Loses, GivesOnce}

pub logs-same : (v w : View) → w.heads ≡ v.heads → w.lost ≡ v.lost → w.population ≡ v.population →
    w.rounds ≡ v.rounds → w.resting ≡ v.resting → w.let_out ≡ v.let_out → w.taken_in ≡ v.taken_in → Logs v w
logs-same v w heads lost population rounds resting let_out taken_in = record {
  more = [];
  heads = heads ∙ sym (append-nil v.heads);
  lost = omega arith;
  population = population;
  rounds = rounds;
  resting = resting;
  let_out = let_out;
  taken_in = taken_in;
}

-- one after another
pub logs-on : (u v w : View) → Logs u v → Logs v w → Logs u w
logs-on u v w a b = record {
  more = a.more ++ b.more;
  heads = b.heads ∙ ap (λ xs. xs ++ b.more) a.heads ∙ append_assoc u.heads a.more b.more;
  lost = let x = a.lost in let y = b.lost in omega arith;
  population = b.population ∙ a.population;
  rounds = b.rounds ∙ a.rounds;
  resting = b.resting ∙ a.resting;
  let_out = b.let_out ∙ a.let_out;
  taken_in = b.taken_in ∙ a.taken_in;
}

last-on : (u v w : View) (k : Stack) (P : ℕ → Type 0) → Logs u v → LastRead v w k P → LastRead u w k P
last-on u v w k P a b = record {
  more = a.more ++ b.more;
  head = b.head;
  heads = b.heads ∙ ap (λ xs. xs ++ (b.more ++ (k, b.head) ∷ [])) a.heads
      ∙ append_assoc u.heads a.more (b.more ++ (k, b.head) ∷ [])
      ∙ ap (λ xs. u.heads ++ xs) (sym (append_assoc a.more b.more ((k, b.head) ∷ [])));
  such = b.such;
}

-- a cause of one take is one also from an earlier state on
pub at-on : (tries : ℕ) (k : Stack) (cause : Cause) (u v w : View) → Logs u v → IsCauseAt tries k cause v w →
    IsCauseAt tries k cause u w
at-on tries k NoEntries u v w a b = last-on u v w _ _ a b
at-on tries k NoMagazine u v w a b = (b.0, last-on u v w _ _ a b.1)
at-on tries k Contended u v w a b = let x = a.lost in omega arith
at-on tries k HeadSpent u v w a b = last-on u v w _ _ a b

pub give-on : (tries : ℕ) (k : Stack) (cause : Cause) (u v w : View) → Logs u v → IsGiveCause tries k cause v w →
    IsGiveCause tries k cause u w
give-on tries k NoEntries u v w a b = b
give-on tries k NoMagazine u v w a b = b
give-on tries k Contended u v w a b = let x = a.lost in omega arith
give-on tries k HeadSpent u v w a b = last-on u v w _ _ a b

-- a head that was read last was read
pub last-read : (v w : View) (k : Stack) (P : ℕ → Type 0) → LastRead v w k P → WasRead v w k P
last-read v w k P a = record { before = a.more; head = a.head; behind = []; heads = a.heads; such = a.such }

-- one that was read was read also from an earlier state on, and up to a later one
pub read-on : (u v w : View) (k : Stack) (P : ℕ → Type 0) → Logs u v → WasRead v w k P → WasRead u w k P
read-on u v w k P a b = record {
  before = a.more ++ b.before;
  head = b.head;
  behind = b.behind;
  heads = b.heads ∙ ap (λ xs. xs ++ (b.before ++ (k, b.head) ∷ b.behind)) a.heads
      ∙ append_assoc u.heads a.more (b.before ++ (k, b.head) ∷ b.behind)
      ∙ ap (λ xs. u.heads ++ xs) (sym (append_assoc a.more b.before ((k, b.head) ∷ b.behind)));
  such = b.such;
}

pub read-then : (u v w : View) (k : Stack) (P : ℕ → Type 0) → WasRead u v k P → Logs v w → WasRead u w k P
read-then u v w k P a b = record {
  before = a.before;
  head = a.head;
  behind = a.behind ++ b.more;
  heads = b.heads ∙ ap (λ xs. xs ++ b.more) a.heads
      ∙ append_assoc u.heads (a.before ++ (k, a.head) ∷ a.behind) b.more
      ∙ ap (λ xs. u.heads ++ xs) (append_assoc a.before ((k, a.head) ∷ a.behind) b.more);
  such = a.such;
}

-- a cause is one also from an earlier state on
pub cause-on : (tries : ℕ) (cause : Cause) (u v w : View) → Logs u v → IsCause tries cause v w → IsCause tries cause u w
cause-on tries NoEntries u v w a b = (read-on u v w _ _ a b.0, read-on u v w _ _ a b.1)
cause-on tries NoMagazine u v w a b = read-on u v w _ _ a b
cause-on tries Contended u v w a b = let x = a.lost in omega arith
cause-on tries HeadSpent u v w a b = (b.0, read-on u v w _ _ a b.1)

-- and up to a later one
pub cause-then : (tries : ℕ) (cause : Cause) (u v w : View) → IsCause tries cause u v → Logs v w → IsCause tries cause u w
cause-then tries NoEntries u v w a b = (read-then u v w _ _ a.0 b, read-then u v w _ _ a.1 b)
cause-then tries NoMagazine u v w a b = read-then u v w _ _ a b
cause-then tries Contended u v w a b = let x = b.lost in omega arith
cause-then tries HeadSpent u v w a b = (a.0, read-then u v w _ _ a.1 b)

pub stays-same : (m : Sat) → Stays m m
stays-same m = record { logs = logs-same m.0 m.0 refl refl refl refl refl refl refl; hand = refl; out = refl; magazines = refl }

pub stays-on : (a b c : Sat) → Stays a b → Stays b c → Stays a c
stays-on a b c x y = record {
  logs = logs-on a.0 b.0 c.0 x.logs y.logs;
  hand = y.hand ∙ x.hand;
  out = y.out ∙ x.out;
  magazines = y.magazines ∙ x.magazines;
}

pub comes-on : (rounds : ℕ) (k : Stack) (m : ℕ) (a b c : Sat) → Stays a b → Comes rounds k m b c → Comes rounds k m a c
comes-on rounds k m a b c x y = record {
  elements = y.elements;
  suits = y.suits;
  logs = logs-on a.0 b.0 c.0 x.logs y.logs;
  hand = y.hand ∙ ap (λ xs. xs ++ y.elements) x.hand;
  out = y.out ∙ ap (λ xs. m ∷ xs) x.out;
  magazines = y.magazines ∙ ap (λ xs. (m, y.elements) ∷ xs) x.magazines;
}

-- a head was read

pub read-stays : (m m' : Sat) (k : Stack) (head : ℕ) → (link : ℕ) × (m' ≡ (looked m.0 k head link, m.1)) → Stays m m'
read-stays m m' k head is =
    subst (Stays m) (sym is.1) (record {
      logs = record {
        more = (k, head) ∷ [];
        heads = refl;
        lost = omega arith;
        population = refl;
        rounds = refl;
        resting = refl;
        let_out = refl;
        taken_in = refl;
      };
      hand = refl;
      out = refl;
      magazines = refl;
    })

pub read-last : (m m' : Sat) (j k : Stack) (head : ℕ) (P : ℕ → Type 0) → j ≡ k →
    (link : ℕ) × (m' ≡ (looked m.0 j head link, m.1)) → P head → LastRead m.0 m'.0 k P
read-last m m' j k head P same is such =
    subst (λ (n : Sat). LastRead m.0 n.0 k P) (sym is.1)
    (subst (λ (i : Stack). LastRead m.0 (looked m.0 j head is.0) i P) same
    (record { more = []; head = head; heads = refl; such = such }))

-- a seat that has done nothing has its magazine still, and gives it as before
pub front-stays : (a b : Sat) (m : ℕ) (xs : List ℕ) → Stays a b → a.1 ≡ (m, xs) ∷ rest a.1 → b.1 ≡ (m, xs) ∷ rest b.1
front-stays a b m xs x is = subst (λ (c : List (ℕ × List ℕ)). c ≡ (m, xs) ∷ rest c) (sym x.magazines) is

pub goes-on : (m : ℕ) (xs : List ℕ) (a b c : Sat) → Stays a b → Goes m xs (rest b.1) b c → Goes m xs (rest a.1) a c
goes-on m xs a b c x y = record {
  logs = logs-on a.0 b.0 c.0 x.logs y.logs;
  hand = y.hand ∙ ap (λ hand. minus hand xs) x.hand;
  out = y.out ∙ ap (λ out. without m out) x.out;
  magazines = y.magazines ∙ ap (λ ms. rest ms) x.magazines;
}

pub gave : (tries : ℕ) (k : Stack) (m : ℕ) (xs : List ℕ) (rest : List (ℕ × List ℕ)) (a b : Sat) (won : Bool) → won ≡ true →
    GivesOnce tries k m xs rest (Ok won) a b → Goes m xs rest a b
gave tries k m xs rest a b true e g = g
gave tries k m xs rest a b false e g = absurd (false≢true e)

pub gave_not : (tries : ℕ) (k : Stack) (m : ℕ) (xs : List ℕ) (rest : List (ℕ × List ℕ)) (a b : Sat) (won : Bool) → won ≡ false →
    GivesOnce tries k m xs rest (Ok won) a b → Loses a b
gave_not tries k m xs rest a b false e g = g
gave_not tries k m xs rest a b true e g = absurd (true≢false e)
