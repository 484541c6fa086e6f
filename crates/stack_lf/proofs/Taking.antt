-- What the steps of a call took of the stack and its length, and gave to them.
use Rattle.std.proofs.Common.{◌≡◌, ℕ, suc, ◌<◌, ◌≤◌, ⊎_elim, List, [], ◌∷◌, ◌++◌, length, map, All, refl, sym, ap, ◌∙◌, arith}
use Rattle.std.specs.Prelude.{Result, Ok, Err, Option}
use Rattle.std.proofs.lemmas.List.Concat.{flat_map-append}
use Rattle.commons.specs.declared.refusal.Refusal.{Refusal}
use Rattle.commons.specs.declared.refusal.Refusal.TheVariants.{NoEntries, Contended, HeadSpent}
use Rattle.step_core.specs.declared.view.Head.{Head}
use Rattle.step_core.specs.declared.step.Step.{Step}
use Rattle.step_core.specs.declared.step.Step.TheVariants.{LoadLength, Reserve, Add, LoadHead, LoadLink, Cut, StoreLink, Push}
use Rattle.step_core.specs.declared.step.Outcome.{Outcome}
use Rattle.step_core.specs.declared.step.Outcome.TheVariants.{Value, HeadIs, Won, Got, Lost, LostTo, Done}
use Rattle.ground.specs.Seats.{Note, element_of}
use Rattle.stack_lf.specs.Tries.{Try, Walk, IsWalk, Short, ReserveFailed, Reserved, Stopped, Ended, PopFailed, Popped, PushFailed, Pushed, Added, notes, notes_of, link_note, elements, stores, IsLostReserve, IsLostCut, IsWonCut, IsLostPush, IsWonPush, IsSpent, IsGet, IsPut}
use Rattle.stack_lf.specs.Notes.{cut_by, reserved_by, added_by, pushed_by, in_notes, TakesOnce, GivesOnce}
use Rattle.stack_lf.proofs.Composing.{notes_of-append}
use Rattle.stack_lf.proofs.Reading.{all_tail}

-- a kind of note that no load, no store and no lost exchange is
abbrev pub IsChange : {A : Type 0} → (Step → Outcome → List A) → Type 0
IsChange {A} f =
    ((v : ℕ) → f LoadLength (Value v) ≡ []) × ((h : Head) → f LoadHead (HeadIs h) ≡ [])
    × ((i v : ℕ) → f (LoadLink i) (Value v) ≡ [])
    × ((i : ℕ) (j : Option ℕ) → f (StoreLink i j) Done ≡ [])
    × ((n v w : ℕ) → f (Reserve v n) (Lost w) ≡ []) × ((h : Head) → f Cut (LostTo h) ≡ [])
    × ((h : Head) → f Push (LostTo h) ≡ [])

-- those of a kind in the steps of tries
abbrev pub in_tries : {A : Type 0} → (Step → Outcome → List A) → List Try → List A
in_tries f ts = in_notes f (notes_of ts)

-- a step that isn't of the kind, before others
past : {A : Type 0} (f : Step → Outcome → List A) (s : Step) (o : Outcome) (ns : List Note) →
    f s o ≡ [] → in_notes f ((s, o) ∷ ns) ≡ in_notes f ns
past f s o ns e = ap (λ l. l ++ in_notes f ns) e

-- steps of which none is of the kind, before others
past_all : {A : Type 0} (f : Step → Outcome → List A) (front back : List Note) →
    in_notes f front ≡ [] → in_notes f (front ++ back) ≡ in_notes f back
past_all f front back e =
    flat_map-append (λ (n : Note). f n.0 n.1) front back ∙ ap (λ l. l ++ in_notes f back) e

-- loads of links are of no such kind
links_none : {A : Type 0} (f : Step → Outcome → List A) → IsChange f → (ps : Walk) →
    in_notes f (map link_note ps) ≡ []
links_none f c [] = refl
links_none f c (p ∷ ps) =
    past f (LoadLink p.0) (Value p.1) (map link_note ps) (c.2 p.0 p.1) ∙ links_none f c ps

-- nor are stores of links
stores_none : {A : Type 0} (f : Step → Outcome → List A) → IsChange f → (v : ℕ) (xs : List ℕ) →
    in_notes f (stores v xs) ≡ []
stores_none f c v [] = refl
stores_none f c v (x ∷ xs) =
    past f (StoreLink x (element_of v)) Done (stores (suc x) xs) (c.3 x (element_of v))
    ∙ stores_none f c (suc x) xs

-- a try that is another has the same of the kind
by_eq : {A : Type 0} (f : Step → Outcome → List A) (x y : Try) (l : List A) → x ≡ y →
    in_notes f (notes y) ≡ l → in_notes f (notes x) ≡ l
by_eq f x y l e h = ap (λ (t : Try). in_notes f (notes t)) e ∙ h

-- a read head, steps of which none is of the kind, and one more
head_then : {A : Type 0} (f : Step → Outcome → List A) → IsChange f → (h : Head)
    (ns more : List Note) → in_notes f ns ≡ [] →
    in_notes f ((LoadHead, HeadIs h) ∷ (ns ++ more)) ≡ in_notes f more
head_then f c h ns more e =
    past f LoadHead (HeadIs h) (ns ++ more) (c.1 h) ∙ past_all f ns more e

-- a reservation that lost has none of the kind
pub miss_none : {A : Type 0} (f : Step → Outcome → List A) → IsChange f → (n : ℕ) (x : Try) →
    IsLostReserve n x → in_notes f (notes x) ≡ []
miss_none f c n x h =
    by_eq f x (ReserveFailed n h.0 h.1) [] h.4
    (past f LoadLength (Value h.0) ((Reserve h.0 n, Lost h.1) ∷ []) (c.0 h.0)
    ∙ past f (Reserve h.0 n) (Lost h.1) [] (c.4 n h.0 h.1))

-- nor has a cut that lost
pub lost_cut_none : {A : Type 0} (f : Step → Outcome → List A) → IsChange f → (n : ℕ) (x : Try) →
    IsLostCut n x → in_notes f (notes x) ≡ []
lost_cut_none f c n x h = ⊎_elim
    (λ (a : (k : Head) × (ps : Walk) × (length ps < n) × IsWalk k.top ps 0 × (x ≡ Ended k ps)).
    by_eq f x (Ended a.0 a.1) [] a.4
    (past f LoadHead (HeadIs a.0) (map link_note a.1) (c.1 a.0) ∙ links_none f c a.1))
    (λ (b : (k found : Head) × (ps : Walk) × (u : ℕ) × (length ps ≡ n)
    × (k.count < found.count) × IsWalk k.top ps u × (x ≡ PopFailed k ps found)).
    by_eq f x (PopFailed b.0 b.2 b.1) [] b.7
    (head_then f c b.0 (map link_note b.2) ((Cut, LostTo b.1) ∷ []) (links_none f c b.2)
    ∙ past f Cut (LostTo b.1) [] (c.5 b.1)))
    h

-- a cut that won has its exchange alone
won_cut : {A : Type 0} (f : Step → Outcome → List A) → IsChange f → (xs : List ℕ) (x : Try) →
    IsWonCut xs x → in_notes f (notes x) ≡ in_notes f ((Cut, Got xs) ∷ [])
won_cut f c xs x h =
    by_eq f x (Popped h.0 h.1) (in_notes f ((Cut, Got xs) ∷ [])) h.6
    (head_then f c h.0 (map link_note h.1) ((Cut, Got (elements h.1)) ∷ []) (links_none f c h.1)
    ∙ ap (λ (l : List ℕ). in_notes f ((Cut, Got l) ∷ [])) (sym h.3))

-- a push that lost has none
pub lost_push_none : {A : Type 0} (f : Step → Outcome → List A) → IsChange f → (xs : List ℕ)
    (x : Try) → IsLostPush xs x → in_notes f (notes x) ≡ []
lost_push_none f c xs x h =
    by_eq f x (PushFailed h.0 xs h.1) [] h.3
    (head_then f c h.0 (stores (h.0).top xs) ((Push, LostTo h.1) ∷ [])
    (stores_none f c (h.0).top xs)
    ∙ past f Push (LostTo h.1) [] (c.6 h.1))

-- a push that won has its exchange alone
won_push : {A : Type 0} (f : Step → Outcome → List A) → IsChange f → (xs : List ℕ) (x : Try) →
    IsWonPush xs x → in_notes f (notes x) ≡ in_notes f ((Push, Won) ∷ [])
won_push f c xs x h =
    by_eq f x (Pushed h.0 xs) (in_notes f ((Push, Won) ∷ [])) h.2
    (head_then f c h.0 (stores (h.0).top xs) ((Push, Won) ∷ []) (stores_none f c (h.0).top xs))

-- a try that found the head spent has none
spent_none : {A : Type 0} (f : Step → Outcome → List A) → IsChange f → (x : Try) → IsSpent x →
    in_notes f (notes x) ≡ []
spent_none f c x h =
    by_eq f x (Stopped h.0) [] h.2 (past f LoadHead (HeadIs h.0) [] (c.1 h.0))

-- tries of which none has a step of the kind
pub none_in : {A : Type 0} (f : Step → Outcome → List A) (P : Try → Type 0) (ts : List Try) →
    ((x : Try) → P x → in_notes f (notes x) ≡ []) → All P ts → in_tries f ts ≡ []
none_in f P [] g h = refl
none_in f P (x ∷ ts) g h =
    past_all f (notes x) (notes_of ts) (g x (h 0 x (omega arith)))
    ∙ none_in f P ts g (all_tail P x ts h)

-- and others behind them
pub skip : {A : Type 0} (f : Step → Outcome → List A) (front back : List Try) →
    in_tries f front ≡ [] → in_tries f (front ++ back) ≡ in_tries f back
skip f front back e =
    ap (λ (l : List Note). in_notes f l) (notes_of-append front back)
    ∙ past_all f (notes_of front) (notes_of back) e

-- a try that is one step of the kind, before others
then_others : {A : Type 0} (f : Step → Outcome → List A) (x : Try) (ts : List Try) (l m : List A) →
    in_notes f (notes x) ≡ l → in_tries f ts ≡ m → in_tries f (x ∷ ts) ≡ l ++ m
then_others f x ts l m e h =
    flat_map-append (λ (n : Note). f n.0 n.1) (notes x) (notes_of ts)
    ∙ ap (λ (z : List _ × List _). z.0 ++ z.1) (λ j. (e j, h j))

-- a reservation that won has its exchange alone
reserved_step : {A : Type 0} (f : Step → Outcome → List A) → IsChange f → (n v : ℕ) →
    in_notes f (notes (Reserved n v)) ≡ in_notes f ((Reserve v n, Won) ∷ [])
reserved_step f c n v = past f LoadLength (Value v) ((Reserve v n, Won) ∷ []) (c.0 v)

-- ---- a get

-- a get that succeeds: its reservation, and its cut
get_won : {A : Type 0} (f : Step → Outcome → List A) → IsChange f → (tries n : ℕ) (xs : List ℕ)
    (ts : List Try) → IsGet tries n (Ok xs) ts → (v : ℕ) × (in_tries f ts
    ≡ in_notes f ((Reserve v n, Won) ∷ []) ++ (in_notes f ((Cut, Got xs) ∷ []) ++ []))
get_won f c tries n xs ts d =
    let misses : List Try = d.0 in
    let cuts : List Try = d.1 in
    let v : ℕ = d.2 in
    let x : Try = d.3 in (
      v,
      ap (λ (l : List Try). in_tries f l) d.11
          ∙ (skip f misses (Reserved n v ∷ (cuts ++ x ∷ []))
          (none_in f (IsLostReserve n) misses (miss_none f c n) d.5)
          ∙ then_others f (Reserved n v) (cuts ++ x ∷ []) (in_notes f ((Reserve v n, Won) ∷ []))
          (in_notes f ((Cut, Got xs) ∷ []) ++ []) (reserved_step f c n v)
          (skip f cuts (x ∷ []) (none_in f (IsLostCut n) cuts (lost_cut_none f c n) d.8)
          ∙ then_others f x [] (in_notes f ((Cut, Got xs) ∷ [])) [] (won_cut f c xs x d.10) refl)),
    )

-- a get that found too few: nothing of the kind
get_short : {A : Type 0} (f : Step → Outcome → List A) → IsChange f → (tries n : ℕ)
    (ts : List Try) → IsGet tries n (Err NoEntries) ts → in_tries f ts ≡ []
get_short f c tries n ts d =
    ap (λ (l : List Try). in_tries f l) d.5
    ∙ (skip f d.0 (Short d.1 ∷ []) (none_in f (IsLostReserve n) d.0 (miss_none f c n) d.3)
    ∙ past f LoadLength (Value d.1) [] (c.0 d.1))

-- a get that found the head spent: its reservation, and what it gave back
get_spent : {A : Type 0} (f : Step → Outcome → List A) → IsChange f → (tries n : ℕ)
    (ts : List Try) → IsGet tries n (Err HeadSpent) ts → (v : ℕ) × (in_tries f ts
    ≡ in_notes f ((Reserve v n, Won) ∷ []) ++ in_notes f ((Add n, Done) ∷ []))
get_spent f c tries n ts d =
    let misses : List Try = d.0 in
    let cuts : List Try = d.1 in
    let v : ℕ = d.2 in
    let x : Try = d.3 in (
      v,
      ap (λ (l : List Try). in_tries f l) d.10
          ∙ (skip f misses (Reserved n v ∷ (cuts ++ x ∷ Added n ∷ []))
          (none_in f (IsLostReserve n) misses (miss_none f c n) d.5)
          ∙ then_others f (Reserved n v) (cuts ++ x ∷ Added n ∷ [])
          (in_notes f ((Reserve v n, Won) ∷ [])) (in_notes f ((Add n, Done) ∷ []))
          (reserved_step f c n v)
          (skip f cuts (x ∷ Added n ∷ []) (none_in f (IsLostCut n) cuts (lost_cut_none f c n) d.8)
          ∙ then_others f x (Added n ∷ []) [] (in_notes f ((Add n, Done) ∷ []))
          (spent_none f c x d.9) refl)),
    )

-- what a get that was beaten after its reservation took and gave
abbrev IsGivenBack : ℕ → ℕ → List Try → Type 0
IsGivenBack tries n ts =
    (misses cuts : List Try) × (v : ℕ)
    × (length misses < tries) × All (IsLostReserve n) misses × (n ≤ v)
    × (length cuts ≡ tries) × All (IsLostCut n) cuts
    × (ts ≡ misses ++ Reserved n v ∷ (cuts ++ Added n ∷ []))

-- its reservation, and what it gave back
get_given : {A : Type 0} (f : Step → Outcome → List A) → IsChange f → (tries n : ℕ)
    (ts : List Try) → (b : IsGivenBack tries n ts) → in_tries f ts
    ≡ in_notes f ((Reserve b.2 n, Won) ∷ []) ++ in_notes f ((Add n, Done) ∷ [])
get_given f c tries n ts b =
    let misses : List Try = b.0 in
    let cuts : List Try = b.1 in
    let v : ℕ = b.2 in
    ap (λ (l : List Try). in_tries f l) b.8
    ∙ (skip f misses (Reserved n v ∷ (cuts ++ Added n ∷ []))
    (none_in f (IsLostReserve n) misses (miss_none f c n) b.4)
    ∙ then_others f (Reserved n v) (cuts ++ Added n ∷ [])
    (in_notes f ((Reserve v n, Won) ∷ [])) (in_notes f ((Add n, Done) ∷ []))
    (reserved_step f c n v)
    (skip f cuts (Added n ∷ []) (none_in f (IsLostCut n) cuts (lost_cut_none f c n) b.7)))

-- cuts are of such a kind
cut_changes : IsChange cut_by
cut_changes = (
  (λ v. refl),
  (λ h. refl),
  (λ i v. refl),
  (λ i j. refl),
  (λ n v w. refl),
  (λ h. refl),
  λ h. refl,
)

-- and so are reservations
reserved_changes : IsChange reserved_by
reserved_changes = (
  (λ v. refl),
  (λ h. refl),
  (λ i v. refl),
  (λ i j. refl),
  (λ n v w. refl),
  (λ h. refl),
  λ h. refl,
)

-- and additions to the length
added_changes : IsChange added_by
added_changes = (
  (λ v. refl),
  (λ h. refl),
  (λ i v. refl),
  (λ i j. refl),
  (λ n v w. refl),
  (λ h. refl),
  λ h. refl,
)

-- and pushes
pushed_changes : IsChange pushed_by
pushed_changes = (
  (λ v. refl),
  (λ h. refl),
  (λ i v. refl),
  (λ i j. refl),
  (λ n v w. refl),
  (λ h. refl),
  λ h. refl,
)

-- of a get that was beaten: no list was cut off, and what was reserved was added again
beaten_once : (tries n : ℕ) (ts : List Try) → IsGet tries n (Err Contended) ts →
    TakesOnce n (Err Contended) ts
beaten_once tries n ts d = ⊎_elim
    (λ (a : (length ts ≡ tries) × All (IsLostReserve n) ts). (
      none_in cut_by (IsLostReserve n) ts (miss_none cut_by cut_changes n) a.1,
      none_in added_by (IsLostReserve n) ts (miss_none added_by added_changes n) a.1
          ∙ sym (none_in reserved_by (IsLostReserve n) ts (miss_none reserved_by reserved_changes n) a.1),
    ))
    (λ (b : IsGivenBack tries n ts). (
      get_given cut_by cut_changes tries n ts b,
      get_given added_by added_changes tries n ts b
          ∙ sym (get_given reserved_by reserved_changes tries n ts b),
    ))
    d

-- what a get took and gave, by its answer
pub cut_once : (tries n : ℕ) (answer : Result (List ℕ) Refusal) (ts : List Try) →
    IsGet tries n answer ts → TakesOnce n answer ts
cut_once tries n (Ok xs) ts d = (
  (get_won cut_by cut_changes tries n xs ts d).1,
  d.9,
  (get_won reserved_by reserved_changes tries n xs ts d).1,
  (get_won added_by added_changes tries n xs ts d).1,
)
cut_once tries n (Err NoEntries) ts d = (
  get_short cut_by cut_changes tries n ts d,
  get_short reserved_by reserved_changes tries n ts d,
  get_short added_by added_changes tries n ts d,
)
cut_once tries n (Err HeadSpent) ts d = (
  (get_spent cut_by cut_changes tries n ts d).1,
  (get_spent added_by added_changes tries n ts d).1
      ∙ sym (get_spent reserved_by reserved_changes tries n ts d).1,
)
cut_once tries n (Err Contended) ts d = beaten_once tries n ts d
cut_once tries n (Err _) ts d = absurd d

-- ---- a put

-- a put that succeeds: its push, and the addition to the length
put_won : {A : Type 0} (f : Step → Outcome → List A) → IsChange f → (tries : ℕ) (xs : List ℕ)
    (ts : List Try) → IsPut tries xs (Ok tt) ts → in_tries f ts
    ≡ in_notes f ((Push, Won) ∷ []) ++ in_notes f ((Add (length xs), Done) ∷ [])
put_won f c tries xs ts d =
    ap (λ (l : List Try). in_tries f l) d.5
    ∙ (skip f d.0 (d.1 ∷ Added (length xs) ∷ [])
    (none_in f (IsLostPush xs) d.0 (lost_push_none f c xs) d.3)
    ∙ then_others f d.1 (Added (length xs) ∷ []) (in_notes f ((Push, Won) ∷ []))
    (in_notes f ((Add (length xs), Done) ∷ [])) (won_push f c xs d.1 d.4) refl)

-- a put that found the head spent: nothing of the kind
put_spent : {A : Type 0} (f : Step → Outcome → List A) → IsChange f → (tries : ℕ) (xs : List ℕ)
    (ts : List Try) → IsPut tries xs (Err HeadSpent) ts → in_tries f ts ≡ []
put_spent f c tries xs ts d =
    ap (λ (l : List Try). in_tries f l) d.5
    ∙ (skip f d.0 (d.1 ∷ []) (none_in f (IsLostPush xs) d.0 (lost_push_none f c xs) d.3)
    ∙ then_others f d.1 [] [] [] (spent_none f c d.1 d.4) refl)

-- what a put gave, by its answer
pub push_once : (tries : ℕ) (xs : List ℕ) (answer : Result (Unit {0}) Refusal) (ts : List Try) →
    IsPut tries xs answer ts → GivesOnce xs answer ts
push_once tries xs (Ok _) ts d = (
  ap (λ (l : List ℕ). length l) (put_won pushed_by pushed_changes tries xs ts d),
  put_won added_by added_changes tries xs ts d,
)
push_once tries xs (Err HeadSpent) ts d = (
  ap (λ (l : List ℕ). length l) (put_spent pushed_by pushed_changes tries xs ts d),
  put_spent added_by added_changes tries xs ts d,
)
push_once tries xs (Err Contended) ts d = (
  ap (λ (l : List ℕ). length l)
      (none_in pushed_by (IsLostPush xs) ts (lost_push_none pushed_by pushed_changes xs) d.1),
  none_in added_by (IsLostPush xs) ts (lost_push_none added_by added_changes xs) d.1,
)
push_once tries xs (Err _) ts d = absurd d
