-- What a seat knew of the stack's changes before tries that made none.
use Rattle.std.proofs.Common.{◌≡◌, ℕ, ◌+◌, List, [], ◌∷◌, ◌++◌, length, refl, ap, ◌∙◌, subst, arith}
use Rattle.std.specs.Prelude.{Ok, Err, replicate}
use Rattle.std.proofs.lemmas.List.{length-append, length-replicate}
use Rattle.std.proofs.lemmas.List.Sums.{sum_by-append, sum_by-cons}
use Rattle.commons.specs.Calls.{spent}
use Rattle.commons.specs.declared.refusal.Refusal.{Refusal}
use Rattle.commons.specs.declared.refusal.Refusal.TheVariants.{HeadSpent}
use Rattle.step_core.specs.declared.step.Step.{Step}
use Rattle.step_core.specs.declared.step.Outcome.{Outcome}
use Rattle.step_core.specs.declared.view.View.{View}
use Rattle.ground.specs.Changing.{KnowsChanges, changes_by, changes_in}
use Rattle.ground.specs.Seats.{Seated, Note}
use Rattle.stack_lf.specs.Tries.{Try, Reserved, notes, notes_of, IsLostReserve, IsLostCut, IsLostPush}
use Rattle.stack_lf.specs.Effects.{HasLost, tried_to, seen_as}
use Rattle.stack_lf.specs.Notes.{in_notes}
use Rattle.stack_lf.proofs.Taking.{IsChange, in_tries, none_in, skip, miss_none, lost_cut_none, lost_push_none}
use Rattle.stack_lf.proofs.Whole.{Reserves, Cuts, Pushes, reserved_seat}

-- one for each change of the stack
abbrev each_change : Step → Outcome → List ℕ
each_change s o = replicate (changes_by s o) 0

-- no load, no store and no lost exchange is one
are_changes : IsChange each_change
are_changes = (
  (λ v. refl),
  (λ h. refl),
  (λ i v. refl),
  (λ i j. refl),
  (λ n v w. refl),
  (λ h. refl),
  λ h. refl,
)

-- there are as many as the notes tell
counted : (ns : List Note) → changes_in ns ≡ length (in_notes each_change ns)
counted [] = refl
counted (n ∷ ns) =
    let rest = counted ns in
    let first : changes_in (n ∷ ns) ≡ changes_by n.0 n.1 + changes_in ns =
    sum_by-cons (λ (m : Note). changes_by m.0 m.1) n ns in
    let both : length (in_notes each_change (n ∷ ns)) ≡ length (each_change n.0 n.1) + length (in_notes each_change ns) =
    length-append (each_change n.0 n.1) (in_notes each_change ns) in
    let many : length (each_change n.0 n.1) ≡ changes_by n.0 n.1 =
    length-replicate {A = ℕ} (changes_by n.0 n.1) 0 in
    omega arith

-- tries of which none changed the stack
unchanged : (s t : Seated) (ts : List Try) (v : View) (m : ℕ) → t ≡ tried_to s ts v →
    v.part ≡ s.known.view.part → in_tries each_change ts ≡ [] → KnowsChanges t.known m →
    KnowsChanges s.known m
unchanged s t ts v m e part none knows =
    let now = subst (λ (z : Seated). KnowsChanges z.known m) e knows in
    let changes = λ (n : Note). changes_by n.0 n.1 in
    let same : changes_in (s.known.steps ++ notes_of ts) ≡ changes_in s.known.steps =
    sum_by-append changes s.known.steps (notes_of ts)
    ∙ omega (arith, counted (notes_of ts), ap (λ (l : List ℕ). length l) none) in
    let own = now.own in
    record {
      own = omega arith;
      all = λ whole. let all = now.all (part ∙ whole) in omega arith;
    }

-- lost tries
knew_changes : (P : Try → Type 0) (k m : ℕ) (s t : Seated) →
    ((x : Try) → P x → in_notes each_change (notes x) ≡ []) → HasLost P k s t →
    KnowsChanges t.known m → KnowsChanges s.known m
knew_changes P k m s t none lost knows =
    unchanged s t lost.0 (seen_as s.known.view lost.1 lost.2) m lost.5 refl
    (none_in each_change P lost.0 none lost.4) knows

-- a reservation
before_reserved : (tries n m : ℕ) (s t : Seated) → Reserves tries n (Ok tt) s t →
    KnowsChanges t.known m → KnowsChanges s.known m
before_reserved tries n m s t r knows =
    unchanged s t (r.3.0 ++ Reserved n r.4.0 ∷ [])
    (record (seen_as s.known.view r.3.1 r.3.2) { credit = s.known.view.credit + n }) m
    (reserved_seat tries n s t r) refl
    (skip each_change r.3.0 (Reserved n r.4.0 ∷ [])
    (none_in each_change (IsLostReserve n) r.3.0 (miss_none each_change are_changes n) r.3.4)) knows

-- a get that found the head spent: so did its seat before
pub uncut_told : (tries n : ℕ) (xs : List ℕ) (cause : Refusal) (s t u : Seated) →
    Reserves tries n (Ok tt) s t → Cuts tries n xs (Err cause) t u → cause ≡ HeadSpent →
    KnowsChanges s.known spent
uncut_told tries n xs cause s t u r c e =
    let stop = subst (λ (z : Refusal). Cuts tries n xs (Err z) t u) e c in
    before_reserved tries n spent s t r
    (knew_changes (IsLostCut n) stop.0 spent t stop.1 (lost_cut_none each_change are_changes n) stop.3 stop.4.5)

-- a reservation isn't refused so
pub unreserved_unspent : (tries n : ℕ) (cause : Refusal) (s t : Seated) →
    Reserves tries n (Err cause) s t → cause ≡ HeadSpent → KnowsChanges s.known spent
unreserved_unspent tries n cause s t r e =
    absurd (subst (λ (z : Refusal). Reserves tries n (Err z) s t) e r).4

-- a put that found the head spent
pub unpushed_told : (tries : ℕ) (xs : List ℕ) (cause : Refusal) (s t : Seated) →
    Pushes tries xs (Err cause) s t → cause ≡ HeadSpent → KnowsChanges s.known spent
unpushed_told tries xs cause s t p e =
    let stop = subst (λ (z : Refusal). Pushes tries xs (Err z) s t) e p in
    knew_changes (IsLostPush xs) stop.0 spent s stop.1 (lost_push_none each_change are_changes xs) stop.3 stop.4.5
