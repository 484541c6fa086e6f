-- The words of a line are those that the reading function gives, and no others.
use Rattle.std.proofs.Common.{◌≡◌, ◌≢◌, ℕ, Bool, true, false, cond, eqb, List, [], ◌∷◌, ◌++◌, refl, ap, ◌∙◌, arith, inl, inr}
use Rattle.std.specs.List.{AllByRecursion}
use Rattle.std.proofs.lemmas.Bool.{eqb-true, eqb-false, ne_eqb, eq-eqb, cond-true, cond-false, cond_both, false≢true}
use Rattle.script_text.specs.Text.{AreSpaces, IsWord, EndsWord, BeginsWith, Spells, IsSkipped}
use Rattle.script_text.specs.inside.Reading.{on_first, in_word, words_of, is_skipped}

-- a space in front adds no word
words-space : (byte : ℕ) (bytes : List ℕ) → byte ≡ 32 → words_of (byte ∷ bytes) ≡ words_of bytes
unfolding words_of
words-space byte bytes e =
    cond-true (eqb byte 32) (words_of bytes) (in_word byte bytes (words_of bytes))
    (eq-eqb byte 32 e)

-- another byte in front is the first word's, or a word of its own
words-in : (byte : ℕ) (bytes : List ℕ) → byte ≢ 32 → words_of (byte ∷ bytes) ≡ in_word byte bytes (words_of bytes)
unfolding words_of
words-in byte bytes ne =
    cond-false (eqb byte 32) (words_of bytes) (in_word byte bytes (words_of bytes))
    (ne_eqb byte 32 ne)

-- spaces in front don't count
words-gap : (gap rest : List ℕ) → AreSpaces gap → words_of (gap ++ rest) ≡ words_of rest
words-gap [] rest h = refl
words-gap (byte ∷ gap) rest h = words-space byte (gap ++ rest) h.0 ∙ words-gap gap rest h.1

-- a line of spaces has no word
pub words-none : (line : List ℕ) → AreSpaces line → words_of line ≡ []
unfolding words_of
words-none [] h = refl
words-none (byte ∷ line) h = words-space byte line h.0 ∙ words-none line h.1

-- a byte before a space, or at the end, is a word of its own
in_word-end : (byte : ℕ) (rest : List ℕ) (words : List (List ℕ)) → EndsWord rest →
    in_word byte rest words ≡ (byte ∷ []) ∷ words
in_word-end byte [] words h = refl
in_word-end byte (next ∷ rest) words h =
    cond-true (eqb next 32) ((byte ∷ []) ∷ words) (on_first byte words) (eq-eqb next 32 h)

-- a byte before another byte of a word makes that word longer
in_word-grow : (byte next : ℕ) (bytes : List ℕ) (words : List (List ℕ)) → next ≢ 32 →
    in_word byte (next ∷ bytes) words ≡ on_first byte words
in_word-grow byte next bytes words ne =
    cond-false (eqb next 32) ((byte ∷ []) ∷ words) (on_first byte words) (ne_eqb next 32 ne)

-- a word ends where a space or the end stands, and the words behind it are those of the rest
words-word : (byte : ℕ) (word rest : List ℕ) → byte ≢ 32 → AllByRecursion (λ b. b ≢ 32) word →
    EndsWord rest → words_of (byte ∷ (word ++ rest)) ≡ (byte ∷ word) ∷ words_of rest
words-word byte [] rest ne h ends = words-in byte rest ne ∙ in_word-end byte rest (words_of rest) ends
words-word byte (next ∷ word) rest ne h ends =
    words-in byte (next ∷ (word ++ rest)) ne
    ∙ in_word-grow byte next (word ++ rest) (words_of (next ∷ (word ++ rest))) h.0
    ∙ ap (on_first byte) (words-word next word rest h.0 h.1 ends)

-- a word at the front is the first, as it has a first byte
words-at : (word rest : List ℕ) → IsWord word → EndsWord rest → words_of (word ++ rest) ≡ word ∷ words_of rest
words-at [] rest h ends = absurd (omega (arith, h.some))
words-at (byte ∷ word) rest h ends = words-word byte word rest h.unspaced.0 h.unspaced.1 ends

-- the word at the front of a line is the first
pub words-begin : (line word rest : List ℕ) → BeginsWith line word rest → words_of line ≡ word ∷ words_of rest
words-begin line word rest h =
    ap words_of h.whole ∙ words-gap h.gap (word ++ rest) h.spaces
    ∙ words-at word rest h.is_word h.ends

-- a line has one reading as words
pub spelled_once : (words : List (List ℕ)) (line : List ℕ) → Spells line words → words_of line ≡ words
spelled_once [] line h = words-none line h
spelled_once (word ∷ words) line h =
    words-begin line word h.0 h.1
    ∙ ap (λ (ws : List (List ℕ)). word ∷ ws) (spelled_once words h.0 h.2)

-- a space in front belongs to the gap before the first word
Spells-space : (words : List (List ℕ)) (byte : ℕ) (line : List ℕ) → byte ≡ 32 → Spells line words →
    Spells (byte ∷ line) words
Spells-space [] byte line e h = (e, h)
Spells-space (word ∷ words) byte line e h = (
  h.0,
  record {
    gap = byte ∷ h.1.gap;
    spaces = (e, h.1.spaces);
    is_word = h.1.is_word;
    ends = h.1.ends;
    whole = ap (λ (l : List ℕ). byte ∷ l) h.1.whole;
  },
  h.2,
)

one_byte : (byte : ℕ) → byte ≢ 32 → IsWord (byte ∷ [])
one_byte byte ne = record { some = omega arith; unspaced = (ne, tt) }

-- a byte before a space, or at the end, is spelled as a word of its own
Spells-new : (words : List (List ℕ)) (byte : ℕ) (rest : List ℕ) → byte ≢ 32 → EndsWord rest →
    Spells rest words → Spells (byte ∷ rest) ((byte ∷ []) ∷ words)
Spells-new words byte rest ne ends h = (
  rest,
  record { gap = []; spaces = tt; is_word = one_byte byte ne; ends = ends; whole = refl },
  h,
)

-- a line that begins with no space has no gap in front
no_gap : (gap : List ℕ) (next : ℕ) (bytes text : List ℕ) → next ≢ 32 → AreSpaces gap →
    next ∷ bytes ≡ gap ++ text → next ∷ bytes ≡ text
no_gap [] next bytes text ne h e = e
no_gap (byte ∷ gap) next bytes text ne h e = let same : next ≡ byte = cc in absurd (ne (same ∙ h.0))

-- a byte in front of a word, with no gap between, makes that word longer
Spells-grow : (words : List (List ℕ)) (byte next : ℕ) (bytes : List ℕ) → byte ≢ 32 → next ≢ 32 →
    Spells (next ∷ bytes) words → Spells (byte ∷ next ∷ bytes) (on_first byte words)
Spells-grow [] byte next bytes ne next_ne h = absurd (next_ne h.0)
Spells-grow (word ∷ words) byte next bytes ne next_ne h = (
  h.0,
  record {
    gap = [];
    spaces = tt;
    is_word = record { some = omega arith; unspaced = (ne, h.1.is_word.unspaced) };
    ends = h.1.ends;
    whole = ap (λ (l : List ℕ). byte ∷ l) (no_gap h.1.gap next bytes (word ++ h.0) next_ne h.1.spaces h.1.whole);
  },
  h.2,
)

-- a byte in front is a word of its own, or belongs to the first word
Spells-in : (byte : ℕ) (bytes : List ℕ) (words : List (List ℕ)) → byte ≢ 32 → Spells bytes words →
    Spells (byte ∷ bytes) (in_word byte bytes words)
Spells-in byte [] words ne h = Spells-new words byte [] ne tt h
Spells-in byte (next ∷ bytes) words ne h =
    cond_both (eqb next 32) ((byte ∷ []) ∷ words) (on_first byte words)
    (λ (ws : List (List ℕ)). Spells (byte ∷ next ∷ bytes) ws)
    (λ e. Spells-new words byte (next ∷ bytes) ne (eqb-true next 32 e) h)
    (λ e. Spells-grow words byte next bytes ne (eqb-false next 32 e) h)

-- the words that are read of a line are a reading of it
pub words_are : (line : List ℕ) → Spells line (words_of line)
unfolding words_of
words_are [] = tt
words_are (byte ∷ bytes) =
    cond_both (eqb byte 32) (words_of bytes) (in_word byte bytes (words_of bytes))
    (λ (ws : List (List ℕ)). Spells (byte ∷ bytes) ws)
    (λ e. Spells-space (words_of bytes) byte bytes (eqb-true byte 32 e) (words_are bytes))
    (λ e. Spells-in byte bytes (words_of bytes) (eqb-false byte 32 e) (words_are bytes))

-- ---- lines that are skipped

-- a first word that begins with `#` is skipped, whether it ends there or not
marked_first : (b : Bool) (words : List (List ℕ)) → is_skipped (cond b ((35 ∷ []) ∷ words) (on_first 35 words)) ≡ true
marked_first true words = refl
marked_first false [] = refl
marked_first false (word ∷ words) = refl

-- a line that begins with `#` is skipped, whatever stands behind it
marked : (rest : List ℕ) → is_skipped (words_of (35 ∷ rest)) ≡ true
unfolding words_of
marked [] = refl
marked (next ∷ rest) = marked_first (eqb next 32) (words_of (next ∷ rest))

-- a line of spaces has no word, and one with `#` behind its gap a first word that is marked
pub skipped_is : (line : List ℕ) → IsSkipped line → is_skipped (words_of line) ≡ true
skipped_is line (inl spaces) = ap is_skipped (words-none line spaces)
skipped_is line (inr h) = ap is_skipped (ap words_of h.3 ∙ words-gap h.0 (35 ∷ h.1) h.2) ∙ marked h.1

-- a line without words is spaces, and one whose first word is marked has `#` behind its gap
skipped_by : (words : List (List ℕ)) (line : List ℕ) → Spells line words → is_skipped words ≡ true → IsSkipped line
skipped_by [] line h e = inl h
skipped_by ([] ∷ words) line h e = absurd (false≢true e)
skipped_by ((byte ∷ word) ∷ words) line h e =
    inr (
      h.1.gap,
      word ++ h.0,
      h.1.spaces,
      h.1.whole
          ∙ ap (λ (b : ℕ). h.1.gap ++ b ∷ (word ++ h.0)) (eqb-true byte 35 e),
    )

pub skipped_from : (line : List ℕ) → is_skipped (words_of line) ≡ true → IsSkipped line
skipped_from line e = skipped_by (words_of line) line (words_are line) e
