-- A text whose list has an element twice is no snapshot's.
use Rattle.std.proofs.Common.{ℕ, ◌≢◌, ◌≤◌, List, [], Option, None, Some, codes, inl, inr, refl, subst, sym, ap, ◌∙◌, arith}
use Rattle.std.specs.Prelude.{IsSomeAnd}
use Rattle.commons.specs.Bag.{bag}
use Rattle.commons.proofs.Bags.{bag-nil}
use Rattle.json.specs.Json.{Json, document}
use Rattle.json.specs.Strict.{HasUniqueKeys}
use Rattle.serde_json.specs.Data.{Data}
use Rattle.serde_json.specs.Find.{get}
use Rattle.serde_json.specs.Read.{read}
use Rattle.snapshot.specs.declared.snapshot.Snapshot.{Snapshot}
use Rattle.snapshot_json.specs.Reading.{HasLeastDouble, IsFaultOf, IsNoListData, IsNoSnapshotData, IsNoSnapshotText, IsOfPool}
use Rattle.snapshot_json.specs.Readings.{with_list}
use Rattle.snapshot_json.specs.Repeats.{IsNoRepeatingText, IsRepeatingData, IsRepeatingText, IsTextFaultOf, doubled_by}
use Rattle.snapshot_json.specs.SnapshotData.{HasCommon, HasWords, IsSnapshotData}
use Rattle.snapshot_json.specs.declared.fault.SnapshotFault.{SnapshotFault}
use Rattle.snapshot_json.specs.declared.fault.SnapshotFault.TheVariants.{OutOfMemory, TooLong, NotJson, Wrong, Doubled}
use Rattle.snapshot_json.specs.declared.text.Repeats.{Repeats}
use Rattle.snapshot_json.proofs.Refused.{refused-twice}
use Rattle.snapshot_json.proofs.Unique.{apart}

-- the words of an empty stack
pub empty-list : (s : Snapshot) (common : List ℕ) → IsOfPool s.limits.population common → HasCommon [] (with_list s [])
empty-list s common of_pool = record {
  population = of_pool.0;
  known = λ k e l. absurd (omega (arith, l));
  once = λ e. omega (arith, bag-nil e);
  top = refl;
  len = refl;
  links = refl;
}

-- those of a list of elements of the pool, each once
pub once-listed : (s : Snapshot) (common : List ℕ) → IsOfPool s.limits.population common → ((e : ℕ) → bag common e ≤ 1)
    → HasCommon common (with_list s common)
once-listed s common of_pool once = record {
  population = of_pool.0;
  known = of_pool.1;
  once = once;
  top = refl;
  len = refl;
  links = refl;
}

-- such data is no snapshot's: not with words, and not with a list whose elements stand there once
pub repeats_none : (d : Data) (r : Repeats) → IsRepeatingData d r → IsNoSnapshotData d
repeats_none d r are = λ s fits is. elim is [
  | inl words ↦ apart s r.snapshot r.common (sym words ∙ are.value)
  | inr listed ↦
      refused-twice r.snapshot r.common r.double.elem r.double.first r.double.second are.least
      s listed.0 fits (sym are.value ∙ listed.1) listed.2
]

-- and such bytes are no snapshot's
pub repeats_text : (bytes : List ℕ) (r : Repeats) → IsRepeatingText bytes r → IsNoSnapshotText bytes
repeats_text bytes r are = λ s fits is. of_value s fits (read bytes) are.value is.value
  where
    of_value : (s : Snapshot) → HasWords s → (found : Option Data) → IsSomeAnd found (λ d. IsRepeatingData d r) →
        IsSomeAnd found (λ d. IsSnapshotData d s) → ⊥
    of_value s fits None x y = absurd x
    of_value s fits (Some d) x y = repeats_none d r x s fits y

-- they have the element twice
pub repeats_told : (bytes : List ℕ) (r : Repeats) → IsRepeatingText bytes r → IsFaultOf bytes (doubled_by r)
repeats_told bytes r are = of_value (read bytes) are.value
  where
    of_value : (found : Option Data) → IsSomeAnd found (λ d. IsRepeatingData d r) →
        IsSomeAnd found (λ d. HasLeastDouble d r.double.elem r.double.first r.double.second)
    of_value None x = absurd x
    of_value (Some d) x = (r.common, ap (get (codes "common")) x.value, x.least)

-- of such a text no fault is told, but that memory was refused
pub told_no_repeats : (bytes : List ℕ) (fault : SnapshotFault) → IsTextFaultOf bytes fault →
    fault ≢ OutOfMemory → IsNoRepeatingText bytes
told_no_repeats bytes OutOfMemory tells other = absurd (other refl)
told_no_repeats bytes TooLong tells other = λ r fits is. omega (arith, tells, is.size)
told_no_repeats bytes (NotJson byte) tells other = λ r fits is. elim tells [
  | inl not ↦ not is.utf8
  | inr more ↦ elim more [
    | inl none ↦ subst (λ (o : Option Data). IsSomeAnd o (λ d. IsRepeatingData d r)) none is.value
    | inr none ↦ subst (λ (o : Option Json). IsSomeAnd o HasUniqueKeys) none is.once
  ]
]
told_no_repeats bytes (Wrong flaw) tells other = λ r fits is.
    of_value r fits (read bytes) (of_keys (document bytes) tells.value is.once) is.value
  where
    of_keys : {X : Type 0} → (o : Option Json) → IsSomeAnd o (λ j. HasUniqueKeys j → X) → IsSomeAnd o HasUniqueKeys → X
    of_keys None x y = absurd x
    of_keys (Some j) x y = x y

    of_value : (r : Repeats) → HasWords r.snapshot → (found : Option Data) → IsSomeAnd found IsNoListData →
        IsSomeAnd found (λ d. IsRepeatingData d r) → ⊥
    of_value r fits None x y = absurd x
    of_value r fits (Some d) x y = x r.snapshot r.common fits y.value y.known
told_no_repeats bytes (Doubled elem first second) tells other = absurd tells

-- what a fault says of bytes that are no text is what it says where a snapshot is asked for
pub told_fault : (bytes : List ℕ) (fault : SnapshotFault) → IsTextFaultOf bytes fault → IsFaultOf bytes fault
told_fault bytes (Doubled elem first second) tells = absurd tells
told_fault bytes fault tells = tells
