-- What the data of a snapshot shows is that snapshot.
use Rattle.std.proofs.Common.{◌≡◌, ℕ, suc, ◌<◌, ◌^◌, List, [], ◌∷◌, Option, None, Some, option_and_then, codes, map, get_or, refl, sym, ap, ◌∙◌, arith}
use Rattle.std.specs.Prelude.{All, ⊤}
use Rattle.std.proofs.lemmas.Bool.Decides.{nat_tests}
use Rattle.commons.specs.declared.limits.Limits.{Limits}
use Rattle.commons.specs.declared.limits.PutRule.{PutRule}
use Rattle.commons.specs.declared.limits.PutRule.TheVariants.{Keep, Whole}
use Rattle.commons.specs.declared.packet.Seg.{Seg}
use Rattle.statement_text.specs.StatementData.{base_data, count_data, counts_data, seg_data}
use Rattle.pool_statement.specs.declared.guest.Guest.{Guest}
use Rattle.serde_json.specs.Data.{Data}
use Rattle.serde_json.specs.Find.{as_number, as_u64}
use Rattle.serde_json.specs.View.{items_of}
use Rattle.snapshot.specs.declared.snapshot.ShareData.{ShareData}
use Rattle.snapshot.specs.declared.snapshot.Snapshot.{Snapshot}
use Rattle.snapshot_json.specs.SnapshotData.{FitsBase, FitsGuest, FitsPlace, FitsSeg, FitsShare, HasWords, common_data, guest_data, limits_data, place_data, places_data, rule_data, share_data, snapshot_data}
use Rattle.snapshot_json.specs.Reading.{IsOfPool}
use Rattle.snapshot_json.specs.Shown.{beside_stack, guest_in, items_at, items_in, limits_at, limits_in, list_of, number32_in, number_in, numbers_at, place_in, rule_from, seg_in, share_in, some_within, with_words, within}

-- a number below the bound is kept
within-own : (bound n : ℕ) → n < bound → within bound n ≡ n
within-own bound n l = grind (arith, nat_tests)

some_within-own : (n : ℕ) → n < 2 ^ 32 → some_within n ≡ Some n
some_within-own n l = grind (arith, nat_tests)

-- a list whose items each show what they are made of shows what it is made of
all_own : {X : Type 0} (f : X → Data) (g : Data → X) (P : X → Type 0) → ((x : X) → P x → g (f x) ≡ x) →
    (xs : List X) → All P xs → map g (list_of (items_of (map f xs))) ≡ xs
all_own f g P own [] fits = refl
all_own f g P own (x ∷ xs) fits =
    let first : g (f x) ≡ x = own x (fits 0 x (omega arith)) in
    let rest : map g (list_of (items_of (map f xs))) ≡ xs = all_own f g P own xs (λ k d l. fits (suc k) d (omega arith)) in
    cc

-- numbers below 2^32
counts_own : (ns : List ℕ) → All (λ n. n < 2 ^ 32) ns → map number32_in (items_in (counts_data ns)) ≡ ns
counts_own ns fits = all_own count_data number32_in (λ n. n < 2 ^ 32) (λ n l. within-own (2 ^ 32) n l) ns fits

-- a base below 2^32 is kept, and none stays none
base_own : (base : Option ℕ) → FitsBase base →
    option_and_then some_within (option_and_then (λ f. option_and_then as_u64 (as_number f)) (Some (base_data base)))
    ≡ base
base_own None fits = refl
base_own (Some e) fits = some_within-own e fits

seg_own : (seg : Seg) → FitsSeg seg → seg_in (seg_data seg) ≡ seg
seg_own seg fits = rw (
  within-own (2 ^ 32) seg.elem fits.elem,
  base_own seg.base fits.base,
  within-own (2 ^ 16) seg.data_off fits.off,
  within-own (2 ^ 16) seg.data_len fits.len,
  within-own (2 ^ 16) seg.buf_len fits.buf,
) refl

place_own : (place : Option (List Seg)) → FitsPlace place → place_in (place_data place) ≡ place
place_own None fits = refl
place_own (Some segs) fits =
    let same : map seg_in (list_of (items_of (map seg_data segs))) ≡ segs = all_own seg_data seg_in FitsSeg seg_own segs fits in
    ap Some same

places_own : (places : List (Option (List Seg))) → All FitsPlace places → map place_in (items_in (places_data places)) ≡ places
places_own = all_own place_data place_in FitsPlace place_own

share_own : (share : ShareData) → FitsShare share → share_in (share_data share) ≡ share
share_own share fits = rw (
  within-own (2 ^ 32) share.worker fits.worker,
  counts_own share.cache fits.cache,
  places_own share.slots fits.slots,
) refl

guest_own : (guest : Guest) → FitsGuest guest → guest_in (guest_data guest) ≡ guest
guest_own guest fits = rw (
  within-own (2 ^ 32) guest.worker fits.worker,
  within-own (2 ^ 32) guest.elem fits.elem,
) refl

-- the rule of a number
rule_own : (rule : PutRule) → rule_from (number_in (rule_data rule)) ≡ rule
rule_own Keep = refl
rule_own Whole = refl

limits_own : (l : Limits) → limits_in (limits_data l) ≡ l
limits_own l = rw rule_own refl

-- the members beside the stack show what they are made of, in either form
words_own : (s : Snapshot) (top len : ℕ) (links : List ℕ) → HasWords s →
    beside_stack (snapshot_data s) top len links ≡ record s { top = top; length = len; links = links }
words_own s top len links fits = rw (
  limits_own s.limits,
  counts_own s.counts fits.counts,
  places_own s.desks fits.desks,
  all_own share_data share_in FitsShare share_own s.shares fits.shares,
  all_own guest_data guest_in FitsGuest guest_own s.guests fits.guests,
) refl

pub common_own : (s : Snapshot) (common : List ℕ) (top len : ℕ) (links : List ℕ) → HasWords s →
    beside_stack (common_data s common) top len links ≡ record s { top = top; length = len; links = links }
common_own s common top len links fits = rw (
  limits_own s.limits,
  counts_own s.counts fits.counts,
  places_own s.desks fits.desks,
  all_own share_data share_in FitsShare share_own s.shares fits.shares,
  all_own guest_data guest_in FitsGuest guest_own s.guests fits.guests,
) refl

-- and so do all members of the form with words
pub snapshot_own : (s : Snapshot) → HasWords s → with_words (snapshot_data s) ≡ s
snapshot_own s fits =
    rw (within-own (2 ^ 32) s.top fits.top, counts_own s.links fits.links) (words_own s s.top s.length s.links fits)

-- the common list shows its elements
pub list_own : (s : Snapshot) (common : List ℕ) → IsOfPool s.limits.population common →
    numbers_at (codes "common") (common_data s common) ≡ common
list_own s common of_pool = counts_own common
    (λ k d l. let below : get_or common k d < s.limits.population = of_pool.1 k d l in
    omega (arith, below, of_pool.0))

-- numbers of any size are shown by their JSON
plain_own : (ns : List ℕ) → map number_in (items_in (counts_data ns)) ≡ ns
plain_own ns = all_own count_data number_in (λ n. ⊤) (λ n l. refl) ns (λ k d l. tt)

-- from the data with a list both the limits and the list can be read off
pub limits_same : (s t : Snapshot) (xs ys : List ℕ) → common_data s xs ≡ common_data t ys → s.limits ≡ t.limits
limits_same s t xs ys e = sym (limits_own s.limits) ∙ ap (limits_at (codes "limits")) e ∙ limits_own t.limits

pub list_same : (s t : Snapshot) (xs ys : List ℕ) → common_data s xs ≡ common_data t ys → xs ≡ ys
list_same s t xs ys e =
    sym (plain_own xs) ∙ ap (λ (d : Data). map number_in (items_at (codes "common") d)) e ∙ plain_own ys
