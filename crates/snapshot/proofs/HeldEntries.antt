-- The entries of held elements, one after the other.
use Rattle.std.proofs.Common.{ℕ, ◌≡◌, ◌+◌, ◌<◌, nat_lt, true, cond, List, [], ◌∷◌, ◌++◌, length, get_or, take, map, filter, Vec, refl, sym, ◌∙◌, ap, arith}
use Rattle.std.specs.Prelude.{slice_index}
use Rattle.std.specs.List.{range_with_len, enumerate_from}
use Rattle.std.specs.declared.alloc.Global.{Global}
use Rattle.std.proofs.lemmas.Bool.Decides.{nat_tests}
use Rattle.std.proofs.lemmas.List.{append-nil, get_or-map, length-map, map_push, take_all}
use Rattle.std.proofs.lemmas.List.Elements.{filter_more}
use Rattle.std.proofs.lemmas.List.FromFn.{get_or-enumerate_from, get_or-map-range_with_len, get_or-range_with_len, length-enumerate_from, length-map-range_with_len, length-range_with_len}
use Rattle.commons.specs.declared.limits.Limits.{Limits}
use Rattle.pool_model.proofs.LocalPools.{local-limits}
use Rattle.pool_statement.specs.declared.statement.Held.{Held}
use Rattle.pool_statement.specs.declared.statement.Holder.{Holder}
use Rattle.snapshot.specs.declared.snapshot.Snapshot.{Snapshot}
use Rattle.snapshot.specs.inside.Adding.{entry_of, held_of, holders_in, lists_of}
use Rattle.snapshot.specs.Snapshots.{IsLawful, pool_of, times_held}
use Rattle.snapshot.proofs.PlacedShares.{length-holders}

-- the entries of the held elements among the first this many
abbrev pub entries_to : Snapshot → ℕ → List Held
entries_to s k = map (entry_of s)
    (filter (λ e. nat_lt 0 (times_held s e)) (take k (range_with_len 0 s.limits.population)))

-- a table has each element's holders
abbrev pub HasHolders : Snapshot → List (Vec Holder Global) → Type 0
HasHolders s table =
    lists_of table ≡ map (holders_in s) (range_with_len 0 s.limits.population)

-- it is the turn of element k, which has this number and this list
pub record IsTurn (s : Snapshot) (k i : ℕ) (list : Vec Holder Global) : Type 0 where
  pub below : k < s.limits.population
  pub number : i ≡ k
  pub holders : list.items ≡ holders_in s k

-- what a loop over the table meets
pub turn_of : (s : Snapshot) (table : List (Vec Holder Global)) (k i : ℕ) (list : Vec Holder Global)
    → HasHolders s table →
    (k < length (enumerate_from 0 table))
    × ((i, list) ≡ get_or (enumerate_from 0 table) k (i, list)) → IsTurn s k i list
turn_of s table k i list has met =
    let n = s.limits.population in
    let holders = holders_in s in
    let l : k < length table = omega (arith, met.0, length-enumerate_from 0 table) in
    let below : k < n = omega (
      arith,
      ap length has,
      length-map table (λ (v : Vec Holder Global). v.items),
      length-map-range_with_len holders 0 n,
    ) in
    let item = met.1 ∙ get_or-enumerate_from 0 table k (i, list) l in record {
      below = below;
      number = ap (λ (p : ℕ × Vec Holder Global). p.0) item ∙ omega arith;
      holders =
          ap (λ (p : ℕ × Vec Holder Global). p.1.items) item
          ∙ sym (get_or-map (λ (v : Vec Holder Global). v.items) table k list [] l)
          ∙ ap (λ (t : List (List Holder)). get_or t k []) has
          ∙ get_or-map-range_with_len holders 0 n k k [] below (omega arith);
    }

-- the held elements among one more
entry_at : (s : Snapshot) (k : ℕ) → k < s.limits.population →
    filter (λ e. nat_lt 0 (times_held s e)) (take (k + 1) (range_with_len 0 s.limits.population))
    ≡ filter (λ e. nat_lt 0 (times_held s e)) (take k (range_with_len 0 s.limits.population))
    ++ cond (nat_lt 0 (times_held s k))
    (k ∷ []) []
entry_at s k l =
    let all = range_with_len 0 s.limits.population in
    let here : get_or all k 0 ≡ k = get_or-range_with_len 0 s.limits.population k 0 l ∙ omega arith in
    let below : k < length all = omega (arith, length-range_with_len 0 s.limits.population) in
    rw here at (filter_more (λ e. nat_lt 0 (times_held s e)) all k 0 below)

-- the test of a count that isn't 0
more_than_none : (n : ℕ) → 0 < n → nat_lt 0 n ≡ true
more_than_none n h = grind (arith, nat_tests)

-- one more entry, where somebody holds the element
pub entry_held : (s : Snapshot) (k i count : ℕ) (list : Vec Holder Global) → IsLawful s → IsTurn s k i list →
    0 < length list.items → count ≡ slice_index s.counts i →
    entries_to s (k + 1) ≡ entries_to s k ++ record { elem = i; count = count; holders = list.items } ∷ []
entry_held s k i count list lawful turn some is =
    let held : length list.items ≡ times_held s k =
    ap length turn.holders ∙ length-holders s k lawful.shape in
    let counted : count ≡ times_held s k =
    is ∙ ap (slice_index s.counts) turn.number ∙ lawful.counted k turn.below ∙ omega arith in
    rw (
      entry_at s k turn.below,
      more_than_none (times_held s k) (omega arith),
      map_push,
      turn.number,
      counted,
      turn.holders,
    ) refl

-- no more entry, where nobody does
pub entry_none : (s : Snapshot) (k i : ℕ) (list : Vec Holder Global) → IsLawful s → IsTurn s k i list →
    length list.items ≡ 0 → entries_to s (k + 1) ≡ entries_to s k
entry_none s k i list lawful turn none =
    let held : times_held s k ≡ 0 =
    sym (length-holders s k lawful.shape) ∙ sym (ap length turn.holders) ∙ none in
    rw (entry_at s k turn.below, held, append-nil) refl

-- the entries once all elements are seen
pub entries_all : (s : Snapshot) (table : List (Vec Holder Global)) (k : ℕ) → HasHolders s table →
    k ≡ length (enumerate_from 0 table) →
    entries_to s k ≡ map (entry_of s) (held_of s)
entries_all s table k has e =
    let n = s.limits.population in
    let size = length-map-range_with_len (holders_in s) 0 n in
    let all : take k (range_with_len 0 n) ≡ range_with_len 0 n =
    take_all k (range_with_len 0 n) (omega (
      arith,
      length-range_with_len 0 n,
      length-enumerate_from 0 table,
      ap length has,
      length-map table (λ (v : Vec Holder Global). v.items),
      size,
    )) in
    rw all (ap (λ (l : Limits). map (entry_of s) (filter (λ e. nat_lt 0 (times_held s e)) (range_with_len 0 l.population)))
    (sym (local-limits s.foreign (pool_of s))))
