-- A value is the data of one snapshot at most.
use Rattle.std.proofs.Common.{ℕ, ◌≡◌, List, Option, None, Some, codes, length, inl, inr, sym, ap, ◌∙◌}
use Rattle.std.specs.Prelude.{IsSomeAnd}
use Rattle.commons.specs.declared.limits.Limits.{Limits}
use Rattle.statement_text.specs.StatementData.{counts_data}
use Rattle.serde_json.specs.Data.{Data}
use Rattle.serde_json.specs.Find.{get}
use Rattle.serde_json.specs.Read.{read}
use Rattle.snapshot.specs.declared.snapshot.Snapshot.{Snapshot}
use Rattle.snapshot_json.specs.Reading.{IsSnapshotText}
use Rattle.snapshot_json.specs.Shown.{beside_stack, with_words}
use Rattle.snapshot_json.specs.SnapshotData.{HasCommon, HasWords, IsSnapshotData, common_data, links_of, snapshot_data, top_of}
use Rattle.snapshot_json.proofs.Own.{common_own, limits_same, list_same, snapshot_own}

-- only one of the two forms has a common list
pub apart : (s t : Snapshot) (common : List ℕ) → snapshot_data s ≡ common_data t common → ⊥
apart s t common e =
    let found : ◌≡◌ {A = Option Data} None (Some (counts_data common)) = ap (get (codes "common")) e in
    absurd cc

-- a snapshot whose words are those of a list
stacked : (s : Snapshot) (common : List ℕ) (len : ℕ) → HasWords s → HasCommon common s → s.length ≡ len →
    beside_stack (common_data s common) (top_of common) len (links_of s.limits.population common) ≡ s
stacked s common len fits has same =
    ap (λ (top : ℕ). beside_stack (common_data s common) top len (links_of s.limits.population common)) (sym has.top)
    ∙ ap (λ (links : List ℕ). beside_stack (common_data s common) s.top len links) (sym has.links)
    ∙ ap (λ (l : ℕ). beside_stack (common_data s common) s.top l s.links) (sym same)
    ∙ common_own s common s.top s.length s.links fits

pub same_snapshot : (d : Data) (s t : Snapshot) → HasWords s → HasWords t → IsSnapshotData d s →
    IsSnapshotData d t → s ≡ t
same_snapshot d s t p q (inl a) (inl b) =
    sym (snapshot_own s p) ∙ ap with_words (sym a ∙ b) ∙ snapshot_own t q
same_snapshot d s t p q (inl a) (inr b) = absurd (apart s t b.0 (sym a ∙ b.1))
same_snapshot d s t p q (inr a) (inl b) = absurd (apart t s a.0 (sym b ∙ a.1))
same_snapshot d s t p q (inr a) (inr b) =
    let e : common_data s a.0 ≡ common_data t b.0 = sym a.1 ∙ b.1 in
    let list : a.0 ≡ b.0 = list_same s t a.0 b.0 e in
    let limits : s.limits ≡ t.limits = limits_same s t a.0 b.0 e in
    sym (stacked s a.0 (length a.0) p a.2 a.2.len)
    ∙ ap (λ (x : Data). beside_stack x (top_of a.0) (length a.0) (links_of s.limits.population a.0)) e
    ∙ ap (λ (xs : List ℕ). beside_stack (common_data t b.0) (top_of xs) (length xs) (links_of s.limits.population xs)) list
    ∙ ap (λ (l : Limits). beside_stack (common_data t b.0) (top_of b.0) (length b.0) (links_of l.population b.0)) limits
    ∙ stacked t b.0 (length b.0) q b.2 b.2.len

-- and so are bytes
pub same_text : (bytes : List ℕ) (s t : Snapshot) → HasWords s → HasWords t → IsSnapshotText bytes s →
    IsSnapshotText bytes t → s ≡ t
same_text bytes s t p q a b = of_value (read bytes) a.value b.value
  where
    of_value : (found : Option Data) → IsSomeAnd found (λ d. IsSnapshotData d s) →
        IsSomeAnd found (λ d. IsSnapshotData d t) → s ≡ t
    of_value None x y = absurd x
    of_value (Some d) x y = same_snapshot d s t p q x y
