-- The shares of all workers, put in an empty book from the last to the first.
use Rattle.std.proofs.Common.{ℕ, zero, suc, ◌≡◌, ◌+◌, ◌-◌, ◌<◌, List, [], ◌∷◌, ◌++◌, append_assoc, length, length-append, get_or, set, map, replicate, Option, Some, None, refl, sym, ◌∙◌, ap, arith}
use Rattle.std.specs.List.{range_with_len}
use Rattle.std.proofs.lemmas.List.{append-nil, get_or_at, length-map, length-replicate, map-append, nil_from_length, replicate_more, set_at}
use Rattle.std.proofs.lemmas.List.FromFn.{length-range_with_len, get_or-range_with_len}
use Rattle.std.proofs.lemmas.Option.{none-some}
use Rattle.mbuf.specs.Members.{Member}
use Rattle.book.specs.Books.{IsFull, IsMissing, new_book, shares_in, with_share}
use Rattle.book.specs.Places.{Places}

-- the places of these shares
abbrev pub filled : List Member → List (Option Member)
filled members = map (λ m. Some m) members

-- the members are numbered from 1, and are as many as there are workers
abbrev pub AreNumbered : ℕ → List Member → Type 0
AreNumbered workers members = map (λ m. m.number) members ≡ range_with_len 1 workers

length_numbered : (workers : ℕ) (all : List Member) → AreNumbered workers all → length all ≡ workers
length_numbered workers all w = sym (length-map all (λ m. m.number)) ∙ ap length w ∙ length-range_with_len 1 workers

-- the book before any share is put in it
pub none_yet : (b : Places) (all : List Member) → b ≡ new_book b.limits → AreNumbered b.limits.workers all →
    b ≡ record b { places = replicate (length all) None ++ filled [] }
none_yet b all e w =
    let empty = append-nil {A = Option Member} (replicate (length all) None) in
    e ∙ ap (λ ps. record b { places = ps }) (ap (λ n. replicate n None) (sym (length_numbered b.limits.workers all w)) ∙ sym empty)

-- the number of the last of the shares that aren't in the book yet
pub last_number : (workers : ℕ) (all current rest done : List Member) (s : Member) → AreNumbered workers all →
    all ≡ current ++ done → current ≡ rest ++ s ∷ [] → (s.number ≡ length rest + 1) × (length rest < workers)
last_number workers all current rest done s w e f =
    let whole : all ≡ rest ++ s ∷ done = e ∙ ap (λ ms. ms ++ done) f ∙ append_assoc rest (s ∷ []) done in
    let longer = ap length whole ∙ length-append rest (s ∷ done) in
    let below : length rest < workers = omega (arith, length_numbered workers all w, longer) in
    let numbers = ap (map (λ (m : Member). m.number)) whole ∙ map-append (λ (m : Member). m.number) rest (s ∷ done) in
    let here = ap (λ ns. get_or ns (length rest) 0) numbers
    ∙ get_or_at (map (λ m. m.number) rest) s.number (map (λ m. m.number) done) 0 (length rest) (length-map rest (λ m. m.number)) in
    let there = ap (λ ns. get_or ns (length rest) 0) w ∙ get_or-range_with_len 1 workers (length rest) 0 below in
    (omega (arith, here, there), below)

-- the last of the free places
last_free : (n : ℕ) (places : List (Option Member)) → replicate (n + 1) None ++ places ≡ replicate n None ++ None ∷ places
last_free n places =
    ap (λ (free : List (Option Member)). free ++ places) (sym (replicate_more {X = Option Member} n None))
    ∙ append_assoc (replicate n None) (None ∷ []) places

-- the places before a share more is in them
places_before : (current rest done : List Member) (s : Member) → current ≡ rest ++ s ∷ [] →
    replicate (length current) None ++ filled done ≡ replicate (length rest) None ++ None ∷ filled done
places_before current rest done s f =
    let longer : length current ≡ length rest + 1 = ap length f ∙ length-append rest (s ∷ []) ∙ omega arith in
    ap (λ n. replicate n None ++ filled done) longer ∙ last_free (length rest) (filled done)

-- one share more is in the book
pub one_filled : (first b : Places) (current rest done : List Member) (s : Member) →
    b ≡ record first { places = replicate (length current) None ++ filled done } → current ≡ rest ++ s ∷ [] →
    s.number ≡ length rest + 1 → with_share b s ≡ record first { places = replicate (length rest) None ++ filled (s ∷ done) }
one_filled first b current rest done s e f n =
    let k : s.number - 1 ≡ length rest = omega (arith, n) in
    let long = length-replicate {A = Option Member} (length rest) None in
    let put = ap (λ i. set (replicate (length current) None ++ filled done) i (Some s)) k
    ∙ ap (λ ps. set ps (length rest) (Some s)) (places_before current rest done s f)
    ∙ set_at (replicate (length rest) None) None (filled done) (Some s) (length rest) long in
    ap (λ p. with_share p s) e ∙ ap (λ ps. record first { places = ps }) put

-- and before that it is missing
pub missing_yet : (first b : Places) (current rest done : List Member) (s : Member) →
    b ≡ record first { places = replicate (length current) None ++ filled done } → current ≡ rest ++ s ∷ [] →
    s.number ≡ length rest + 1 → length rest < first.limits.workers → IsMissing b s.number
missing_yet first b current rest done s e f n l =
    let k : s.number - 1 ≡ length rest = omega (arith, n) in
    let long = length-replicate {A = Option Member} (length rest) None in
    let workers = ap (λ (p : Places). p.limits.workers) e in
    let places = ap (λ (p : Places). p.places) e ∙ places_before current rest done s f in
    record {
      first = omega (arith, n);
      last = omega (arith, n, l, workers);
      empty = ap (λ i. get_or b.places i None) k ∙ ap (λ ps. get_or ps (length rest) None) places
          ∙ get_or_at (replicate (length rest) None) None (filled done) None (length rest) long;
    }

-- a place that was filled isn't empty
some_there : (members : List Member) (k : ℕ) → k < length members → get_or (filled members) k None ≡ None → ⊥
some_there [] k l e = absurd (omega arith)
some_there (m ∷ members) zero l e = none-some m (sym e)
some_there (m ∷ members) (suc k) l e = some_there members k (omega arith) e

-- a book that has the shares of all workers lacks none
pub full_is : (b : Places) (members : List Member) → b.places ≡ filled members → AreNumbered b.limits.workers members → IsFull b
full_is b members e w v missing =
    let long = length_numbered b.limits.workers members w in
    let below : v - 1 < length members = omega (arith, missing.first, missing.last, long) in
    some_there members (v - 1) below (ap (λ ps. get_or ps (v - 1) None) (sym e) ∙ missing.empty)

-- the shares of filled places
pub shares_in-filled : (members : List Member) → shares_in (filled members) ≡ members
shares_in-filled [] = refl
shares_in-filled (m ∷ members) = ap (λ ms. m ∷ ms) (shares_in-filled members)

-- once no share is left, all are in the book
pub all_in : (first b : Places) (all current done : List Member) → length current ≡ 0 → all ≡ current ++ done →
    b ≡ record first { places = replicate (length current) None ++ filled done } → b ≡ record first { places = filled all }
all_in first b all current done none e f =
    let rest : all ≡ done = e ∙ ap (λ ms. ms ++ done) (nil_from_length current none) in
    f ∙ ap (λ n. record first { places = replicate n None ++ filled done }) none ∙ ap (λ ms. record first { places = filled ms }) (sym rest)
