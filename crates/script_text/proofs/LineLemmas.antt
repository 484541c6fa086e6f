-- The lines of a text are those that the reading function gives, and no others.
use Rattle.std.proofs.Common.{◌≡◌, ◌≢◌, ℕ, eqb, List, [], ◌∷◌, ◌++◌, refl, sym, ap, ◌∙◌, append_assoc}
use Rattle.std.specs.List.{AllByRecursion, flat_map}
use Rattle.std.proofs.lemmas.Bool.{eqb-true, eqb-false, ne_eqb, cond-false, cond_both}
use Rattle.std.proofs.lemmas.List.Concat.{flat_map-cons}
use Rattle.script_text.specs.Text.{IsUnbroken, with_end, AreLines}
use Rattle.script_text.specs.inside.Reading.{Parts, with_byte, parts}

abbrev pub parts_of : List (List ℕ) → List ℕ → Parts
parts_of lines rest = record { lines = lines; rest = rest }

-- a byte that ends no line belongs to the first line, or to the rest where none ends
parts-grow : (byte : ℕ) (bytes : List ℕ) → byte ≢ 10 →
    parts (byte ∷ bytes) ≡ with_byte byte (parts bytes).lines (parts bytes).rest
unfolding parts
parts-grow byte bytes h =
    cond-false (eqb byte 10) (parts_of ([] ∷ (parts bytes).lines) (parts bytes).rest)
    (with_byte byte (parts bytes).lines (parts bytes).rest) (ne_eqb byte 10 h)

-- a line that is with_end is the first
pub parts-line : (line more : List ℕ) → IsUnbroken line →
    parts (line ++ 10 ∷ more) ≡ parts_of (line ∷ (parts more).lines) (parts more).rest
unfolding parts
parts-line [] more h = refl
parts-line (byte ∷ line) more h =
    parts-grow byte (line ++ 10 ∷ more) h.0
    ∙ ap (λ (p : Parts). with_byte byte p.lines p.rest) (parts-line line more h.1)

-- where no line ends, all is the rest
pub parts-rest : (bytes : List ℕ) → IsUnbroken bytes → parts bytes ≡ parts_of [] bytes
unfolding parts
parts-rest [] h = refl
parts-rest (byte ∷ bytes) h =
    parts-grow byte bytes h.0
    ∙ ap (λ (p : Parts). with_byte byte p.lines p.rest) (parts-rest bytes h.1)

-- lines that each end with a line feed are cut at these, and at no others
parts-lines : (lines : List (List ℕ)) (rest : List ℕ) → AllByRecursion IsUnbroken lines →
    IsUnbroken rest → parts (flat_map with_end lines ++ rest) ≡ parts_of lines rest
parts-lines [] rest each last = parts-rest rest last
parts-lines (line ∷ lines) rest each last =
    let more = flat_map with_end lines ++ rest in
    let regrouped : flat_map with_end (line ∷ lines) ++ rest ≡ line ++ 10 ∷ more =
    ap (λ (t : List ℕ). t ++ rest) (flat_map-cons with_end line lines)
    ∙ append_assoc (line ++ 10 ∷ []) (flat_map with_end lines) rest
    ∙ append_assoc line (10 ∷ []) more in
    ap parts regrouped ∙ parts-line line more each.0
    ∙ ap (λ (p : Parts). parts_of (line ∷ p.lines) p.rest) (parts-lines lines rest each.1 last)

-- a text has one reading as lines
pub lines_once : (text : List ℕ) (lines : List (List ℕ)) (rest : List ℕ) →
    AreLines text lines rest → parts text ≡ parts_of lines rest
lines_once text lines rest h = ap parts h.whole ∙ parts-lines lines rest h.each h.last

-- a line feed in front ends an empty line
AreLines-end : (byte : ℕ) (bytes : List ℕ) (lines : List (List ℕ)) (rest : List ℕ) → byte ≡ 10 →
    AreLines bytes lines rest → AreLines (byte ∷ bytes) ([] ∷ lines) rest
AreLines-end byte bytes lines rest e h = record {
  whole =
      ap (λ (b : ℕ). b ∷ bytes) e ∙ ap (λ (t : List ℕ). 10 ∷ t) h.whole
      ∙ sym (ap (λ (t : List ℕ). t ++ rest) (flat_map-cons with_end [] lines));
  each = (tt, h.each);
  last = h.last;
}

-- another byte in front makes the first line longer, or the rest
AreLines-grow : (byte : ℕ) (bytes : List ℕ) (lines : List (List ℕ)) (rest : List ℕ) → byte ≢ 10 →
    AreLines bytes lines rest →
    AreLines (byte ∷ bytes) (with_byte byte lines rest).lines (with_byte byte lines rest).rest
AreLines-grow byte bytes [] rest ne h = record
    { whole = ap (λ (t : List ℕ). byte ∷ t) h.whole; each = tt; last = (ne, h.last) }
AreLines-grow byte bytes (line ∷ lines) rest ne h = record {
  whole =
      ap (λ (t : List ℕ). byte ∷ t) h.whole
      ∙ ap (λ (t : List ℕ). byte ∷ (t ++ rest)) (flat_map-cons with_end line lines)
      ∙ sym (ap (λ (t : List ℕ). t ++ rest) (flat_map-cons with_end (byte ∷ line) lines));
  each = ((ne, h.each.0), h.each.1);
  last = h.last;
}

-- the lines and the rest that are read of a text are a reading of it
pub parts_are : (text : List ℕ) → AreLines text (parts text).lines (parts text).rest
unfolding parts
parts_are [] = record { whole = refl; each = tt; last = tt }
parts_are (byte ∷ bytes) =
    cond_both (eqb byte 10) (parts_of ([] ∷ (parts bytes).lines) (parts bytes).rest)
    (with_byte byte (parts bytes).lines (parts bytes).rest)
    (λ (p : Parts). AreLines (byte ∷ bytes) p.lines p.rest)
    (λ e. AreLines-end byte bytes (parts bytes).lines (parts bytes).rest (eqb-true byte 10 e) (parts_are bytes))
    (λ e. AreLines-grow byte bytes (parts bytes).lines (parts bytes).rest (eqb-false byte 10 e) (parts_are bytes))
