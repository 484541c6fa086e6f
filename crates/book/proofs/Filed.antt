-- Shares of some workers, in the order of their numbers, that are put in a book unless their worker
-- is listed.
use Rattle.std.proofs.Common.{ℕ, zero, suc, ◌≡◌, ◌≢◌, ◌+◌, ◌-◌, ◌<◌, ◌≤◌, inl, inr, true, false, not, List, [], ◌∷◌, ◌++◌, append_assoc, length, length-append, length-set, get_or, set, map, replicate, Option, Some, None, refl, sym, ap, ◌∙◌, subst, get_or-set_other, arith}
use Rattle.std.specs.Prelude.{All, Contains, ◌==◌}
use Rattle.std.proofs.lemmas.Bool.{cases_Bool, cases_lt}
use Rattle.std.proofs.lemmas.Bool.Decides.{nat_tests}
use Rattle.std.proofs.lemmas.List.{append-nil, get_or_at, get_or_past, get_or-replicate, length-map, length-replicate}
use Rattle.std.proofs.lemmas.List.Elements.{All-pop, Contains-append_right, filter-append}
use Rattle.std.proofs.lemmas.List.Folds.{Any-from_list_any}
use Rattle.std.proofs.lemmas.Option.{none-some}
use Rattle.commons.specs.declared.limits.Limits.{Limits}
use Rattle.mbuf.specs.Members.{Member}
use Rattle.snapshot.specs.Lost.{IsAscending}
use Rattle.book.specs.Books.{AreShares, IsMissing, new_book, shares_in, with_share}
use Rattle.book.specs.Lost.{AreOrdered, IsFullBut, IsOf, is_listed, unlisted_of, with_unlisted}
use Rattle.book.specs.Places.{Places}

abbrev number : Member → ℕ
number m = m.number

-- the shares after the first ones are in the book, but for those who are listed; the places of the
-- first are free
pub record AreFiled (listed : List ℕ) (l : Limits) (all left : List Member) (b : Places) : Type 0 where
  pub limits : b.limits ≡ l
  pub size : length b.places ≡ l.workers
  pub shares : unlisted_of listed left ++ shares_in b.places ≡ unlisted_of listed all
  pub free : (k n : ℕ) (d : Member) → k < length left → n < (get_or left k d).number → get_or b.places n None ≡ None
  pub ascending : (i j : ℕ) (d : Member) → i < j → j < length left → (get_or left i d).number < (get_or left j d).number
  pub workers : All (λ m. IsOf l m.number) left

-- an empty book has no share
none_in : (n : ℕ) → shares_in (replicate n None) ≡ []
none_in zero = refl
none_in (suc n) = none_in n

none_at : (n k : ℕ) → get_or (replicate {A = Option Member} n None) k None ≡ None
none_at n k = elim (cases_lt k n) [
  | inl l ↦ get_or-replicate n k None None l
  | inr past ↦ get_or_past (replicate n None) k None (omega (arith, length-replicate {A = Option Member} n None))
]

-- numbers that ascend, by the members who have them
ascending_members : (ms : List Member) → IsAscending (map number ms) → (i j : ℕ) (d : Member) → i < j → j < length ms →
    (get_or ms i d).number < (get_or ms j d).number
ascending_members ms h i j d l within =
    let at : (k : ℕ) → k < length ms → get_or (map number ms) k d.number ≡ (get_or ms k d).number =
    (λ k below. number_at ms k d below) in
    let a = h i j d.number l (omega (arith, length-map ms number)) in
    omega (arith, a, at i (omega arith), at j within)
  where
    number_at : (xs : List Member) (k : ℕ) (d : Member) → k < length xs → get_or (map number xs) k d.number ≡ (get_or xs k d).number
    number_at [] k d below = absurd (omega arith)
    number_at (x ∷ xs) zero d below = refl
    number_at (x ∷ xs) (suc k) d below = number_at xs k d (omega arith)

-- no share is in the book yet
pub filed_none : (listed : List ℕ) (b : Places) (all : List Member) → b ≡ new_book b.limits →
    AreOrdered b.limits listed all → AreFiled listed b.limits all all b
filed_none listed b all empty ordered =
    let places : b.places ≡ replicate b.limits.workers None = ap (λ (p : Places). p.places) empty in
    record {
      limits = refl;
      size = ap length places ∙ length-replicate {A = Option Member} b.limits.workers None;
      shares =
          ap (λ (ps : List (Option Member)). unlisted_of listed all ++ shares_in ps) places
          ∙ ap (λ (ms : List Member). unlisted_of listed all ++ ms) (none_in b.limits.workers)
          ∙ append-nil (unlisted_of listed all);
      free = λ k n d l below. ap (λ (ps : List (Option Member)). get_or ps n None) places ∙ none_at b.limits.workers n;
      ascending = ascending_members all ordered.ascending;
      workers = ordered.workers;
    }

-- a share that comes before all others
first_in : (places : List (Option Member)) (k : ℕ) (m : Member) → k < length places →
    ((n : ℕ) → n ≤ k → get_or places n None ≡ None) → shares_in (set places k (Some m)) ≡ m ∷ shares_in places
first_in [] k m l free = absurd (omega arith)
first_in (Some x ∷ places) k m l free = absurd (none-some x (sym (free 0 (omega arith))))
first_in (None ∷ places) zero m l free = refl
first_in (None ∷ places) (suc k) m l free = first_in places k m (omega arith) (λ n below. free (suc n) (omega arith))

-- what is before the last of some
before_last : (current rest : List Member) (m : Member) (k : ℕ) (d : Member) → current ≡ rest ++ m ∷ [] → k < length rest →
    get_or current k d ≡ get_or rest k d
before_last current rest m k d e l = ap (λ (ms : List Member). get_or ms k d) e ∙ front rest k l
  where
    front : (xs : List Member) (k : ℕ) → k < length xs → get_or (xs ++ m ∷ []) k d ≡ get_or xs k d
    front [] k l = absurd (omega arith)
    front (x ∷ xs) zero l = refl
    front (x ∷ xs) (suc k) l = front xs k (omega arith)

module _ (listed : List ℕ) (l : Limits) (all current rest : List Member) (m : Member) (b : Places)
    (filed : AreFiled listed l all current b) (last : current ≡ rest ++ m ∷ []) where
  long : length current ≡ length rest + 1
  long = ap length last ∙ length-append rest (m ∷ [])

  here : get_or current (length rest) m ≡ m
  here = ap (λ (ms : List Member). get_or ms (length rest) m) last ∙ get_or_at rest m [] m (length rest) refl

  split : All (λ x. IsOf l x.number) rest × IsOf l m.number
  split = All-pop (λ (x : Member). IsOf l x.number) current rest (Some m) last filed.workers

  -- the places up to the last worker's are free
  free_here : (n : ℕ) → n < m.number → get_or b.places n None ≡ None
  free_here n below =
      filed.free (length rest) n m (omega (arith, long)) (subst (λ (x : Member). n < x.number) (sym here) below)

  -- so it is missing
  pub missing_yet : IsMissing b m.number
  missing_yet =
      let workers = ap (λ (k : Limits). k.workers) filed.limits in
      record {
        first = split.1.first;
        last = omega (arith, split.1.last, workers);
        empty = free_here (m.number - 1) (omega (arith, split.1.first));
      }

  -- the workers before the last have smaller numbers
  smaller : (k : ℕ) (d : Member) → k < length rest → (get_or rest k d).number < m.number
  smaller k d within =
      let less = filed.ascending k (length rest) m within (omega (arith, long)) in
      let at_rest : get_or current k m ≡ get_or rest k d =
      before_last current rest m k m last within ∙ default rest k m d within in
      subst (λ (x : Member). (get_or rest k d).number < x.number) here
      (subst (λ (x : Member). x.number < (get_or current (length rest) m).number) at_rest less)
    where
      default : (xs : List Member) (k : ℕ) (d e : Member) → k < length xs → get_or xs k d ≡ get_or xs k e
      default [] k d e l = absurd (omega arith)
      default (x ∷ xs) zero d e l = refl
      default (x ∷ xs) (suc k) d e l = default xs k d e (omega arith)

  ascending_rest : (i j : ℕ) (d : Member) → i < j → j < length rest → (get_or rest i d).number < (get_or rest j d).number
  ascending_rest i j d less within =
      let a = filed.ascending i j d less (omega (arith, long)) in
      let first = ap number (before_last current rest m i d last (omega arith)) in
      let second = ap number (before_last current rest m j d last within) in
      omega (arith, a, first, second)

  abbrev kept : List Member → List Member
  kept = unlisted_of listed

  parted : kept current ≡ kept rest ++ kept (m ∷ [])
  parted = ap (unlisted_of listed) last ∙ filter-append (λ (x : Member). not (is_listed listed x.number)) rest (m ∷ [])

  filed_with : (p : Places) → p.limits ≡ l → length p.places ≡ l.workers → shares_in p.places ≡ kept (m ∷ []) ++ shares_in b.places →
      ((n : ℕ) → n ≢ m.number - 1 → get_or p.places n None ≡ get_or b.places n None) → AreFiled listed l all rest p
  filed_with p limits size shares others = record {
    limits = limits;
    size = size;
    shares =
        ap (λ (ms : List Member). kept rest ++ ms) shares
        ∙ sym (append_assoc (kept rest) (kept (m ∷ [])) (shares_in b.places))
        ∙ ap (λ (ms : List Member). ms ++ shares_in b.places) (sym parted)
        ∙ filed.shares;
    free =
        λ k n d within below.
        let less = smaller k d within in
        others n (λ same. omega arith) ∙ free_here n (omega arith);
    ascending = ascending_rest;
    workers = split.0;
  }

  -- one share more is filed
  pub filed_more : AreFiled listed l all rest (with_unlisted listed b m)
  filed_more = elim (cases_Bool (is_listed listed m.number)) [
    | inl is_so ↦ rw is_so (filed_with b filed.limits filed.size (listed_none is_so) (λ n other. refl))
    | inr isnt ↦ rw isnt (filed_with (with_share b m) filed.limits (length-set b.places (m.number - 1) (Some m) ∙ filed.size)
        (first_in b.places (m.number - 1) m below (λ n most. free_here n (omega (arith, split.1.first))) ∙ one_more isnt)
        (λ n other. get_or-set_other b.places (m.number - 1) n (Some m) None other))
  ]
    where
      below : m.number - 1 < length b.places
      below = omega (arith, split.1.first, split.1.last, filed.size)

      listed_none : is_listed listed m.number ≡ true → shares_in b.places ≡ kept (m ∷ []) ++ shares_in b.places
      listed_none is_so = rw is_so refl

      one_more : is_listed listed m.number ≡ false → m ∷ shares_in b.places ≡ kept (m ∷ []) ++ shares_in b.places
      one_more isnt = rw isnt refl

-- ---- once all are filed

nil_of : (ms : List Member) → length ms ≡ 0 → ms ≡ []
nil_of [] e = refl
nil_of (m ∷ ms) e = absurd (omega arith)

pub filed_all : (listed : List ℕ) (l : Limits) (all left : List Member) (b : Places) → AreFiled listed l all left b →
    length left ≡ 0 → shares_in b.places ≡ unlisted_of listed all
filed_all listed l all left b filed none =
    ap (λ (ms : List Member). unlisted_of listed ms ++ shares_in b.places) (sym (nil_of left none)) ∙ filed.shares

-- a list with one in front contains what it did
in_tail : {A : Type 0} (x y : A) (xs : List A) → Contains xs y → Contains (x ∷ xs) y
in_tail x y xs there = Contains-append_right (x ∷ []) xs y there

-- a member who isn't listed is among those who aren't
kept_in : (listed : List ℕ) (ms : List Member) (k : ℕ) (d : Member) → k < length ms →
    is_listed listed (get_or ms k d).number ≡ false → Contains (unlisted_of listed ms) (get_or ms k d)
kept_in listed [] k d l isnt = absurd (omega arith)
kept_in listed (m ∷ ms) zero d l isnt = rw isnt (0, omega arith, refl)
kept_in listed (m ∷ ms) (suc k) d l isnt = elim (cases_Bool (is_listed listed m.number)) [
  | inl is_so ↦ rw is_so (kept_in listed ms k d (omega arith) isnt)
  | inr other ↦ rw other (in_tail m (get_or ms k d) (unlisted_of listed ms) (kept_in listed ms k d (omega arith) isnt))
]

-- a share of a book stands in a place
stands_in : (places : List (Option Member)) (m : Member) → Contains (shares_in places) m →
    (n : ℕ) × (get_or places n None ≡ Some m)
stands_in [] m there = absurd (let l = there.1 in omega arith)
stands_in (None ∷ places) m there = let found = stands_in places m there in (suc found.0, found.1)
stands_in (Some x ∷ places) m (zero, l, same) = (0, ap Some same)
stands_in (Some x ∷ places) m (suc k, l, same) =
    let found = stands_in places m (k, omega arith, same) in (suc found.0, found.1)

-- whether a number is listed
not_listed : (listed : List ℕ) (w : ℕ) → ¬ (Contains listed w) → is_listed listed w ≡ false
not_listed listed w other = elim (cases_Bool (is_listed listed w)) [
  | inl is_so ↦
      absurd (let found = Any-from_list_any (λ (v : ℕ). v == w) listed is_so in
      let same : found.1 ≡ w = (let test = found.4 in grind (arith, nat_tests)) in
      other (found.0, found.2, ap (λ (d : ℕ). get_or listed found.0 d) (sym same) ∙ (found.3 ∙ same)))
  | inr isnt ↦ isnt
]

-- the book has the share of each worker who isn't listed
pub filed_full : (listed : List ℕ) (l : Limits) (all : List Member) (b : Places) → b.limits ≡ l → AreShares b.places →
    shares_in b.places ≡ unlisted_of listed all → AreOrdered l listed all → IsFullBut b listed
filed_full listed l all b limits each shares ordered w unlisted =
    let workers = ap (λ (k : Limits). k.workers) limits in
    elim (ordered.all w (record { first = unlisted.missing.first; last = omega (arith, unlisted.missing.last, workers) })) as (λ _. ⊥) [
      | inl there ↦ gap there
      | inr here ↦ unlisted.other here
    ]
  where
    member_at : (ms : List Member) (k : ℕ) (v : ℕ) → k < length (map number ms) → get_or (map number ms) k v ≡ v →
        (d : Member) × (k < length ms) × ((get_or ms k d).number ≡ v)
    member_at [] k v l same = absurd (omega arith)
    member_at (m ∷ ms) zero v l same = (m, omega arith, same)
    member_at (m ∷ ms) (suc k) v l same =
        let found = member_at ms k v (omega arith) same in (found.0, omega (arith, found.1), found.2)

    gap : Contains (map number all) w → ⊥
    gap there =
        let found = member_at all there.0 w there.1 there.2 in
        let m = get_or all there.0 found.0 in
        let isnt : is_listed listed m.number ≡ false = rw found.2 (not_listed listed w unlisted.other) in
        let kept : Contains (shares_in b.places) m =
        subst (λ (ms : List Member). Contains ms m) (sym shares) (kept_in listed all there.0 found.0 found.1 isnt) in
        let place = stands_in b.places m kept in
        let is = each place.0 m place.1 in
        let at : place.0 ≡ w - 1 = omega (arith, is.number, found.2) in
        none-some m (sym (unlisted.missing.empty) ∙ ap (λ (n : ℕ). get_or b.places n None) (sym at) ∙ place.1)
