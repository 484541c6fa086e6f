-- What the first line end and the first word's place say of a text's lines and of a line's words.
use Rattle.std.proofs.Common.{◌≡◌, ◌≢◌, ℕ, ◌+◌, ◌-◌, ◌<◌, ◌≤◌, Bool, true, false, cond, eqb, ltb, List, [], ◌∷◌, ◌++◌, length, get_or, take, drop, Option, Some, None, refl, sym, ap, ◌∙◌, subst, arith, inl, inr, position}
use Rattle.std.specs.Prelude.{not, unwrap_or}
use Rattle.std.specs.List.{AllByRecursion, prefix_len, position_or_len}
use Rattle.std.proofs.lemmas.Bool.{eqb-true, eqb-false, not-true, not-false, cases_lt, cases_Bool, ltb-false, cond-true, cond-false}
use Rattle.std.proofs.lemmas.List.{take-append-drop, drop_more, length-take, length-drop, get_or-take, get_or-drop, take_all, drop_all}
use Rattle.std.proofs.lemmas.List.Elements.{All-from_get_or, recursion_from_All}
use Rattle.std.proofs.lemmas.List.Quantifiers.{position-Some}
use Rattle.script_text.specs.Text.{IsUnbroken, EndsWord}
use Rattle.script_text.specs.inside.Reading.{parts, words_of}
use Rattle.script_text.proofs.LineLemmas.{parts_of, parts-line, parts-rest}
use Rattle.script_text.proofs.WordLemmas.{words-none, words-begin}

-- what holds of each element below a place holds of the front up to it
front_all : (P : ℕ → Type 0) (xs : List ℕ) (n : ℕ) → n ≤ length xs →
    ((k : ℕ) → k < n → P (get_or xs k 0)) → AllByRecursion P (take n xs)
front_all P xs n le h =
    recursion_from_All P (take n xs) (All-from_get_or P (take n xs) 0 (λ k lt.
    let below : k < n = omega (arith, length-take n xs) in
    rw (get_or-take n xs k 0 below) (h k below)))

whole_all : (P : ℕ → Type 0) (xs : List ℕ) → ((k : ℕ) → k < length xs → P (get_or xs k 0)) → AllByRecursion P xs
whole_all P xs h = recursion_from_All P xs (All-from_get_or P xs 0 h)

-- where the front that passes a test is the whole, each element passes
all_pass : (q : ℕ → Bool) (xs : List ℕ) → length xs ≤ prefix_len q xs → AllByRecursion (λ x. q x ≡ true) xs
all_pass q [] le = tt
all_pass q (x ∷ xs) le = elim (cases_Bool (q x)) [
  | inl passes ↦ (
    passes,
    all_pass q xs (
        let more : prefix_len q (x ∷ xs) ≡ 1 + prefix_len q xs =
        cond-true (q x) (1 + prefix_len q xs) 0 passes in
        omega (arith, more, le)),
  )
  | inr fails ↦ let none : prefix_len q (x ∷ xs) ≡ 0 =
      cond-false (q x) (1 + prefix_len q xs) 0 fails in absurd (omega (arith, none, le))
]

-- where nothing was chosen, the test wasn't met
none_cond : (b : Bool) (x : ℕ) → ◌≡◌ {A = Option ℕ} (cond b (Some x) None) None → b ≡ false
none_cond true x e = absurd cc
none_cond false x e = refl

-- where no place is found for a test, no element meets it
position-None : (p : ℕ → Bool) (xs : List ℕ) → position p xs ≡ None → AllByRecursion (λ x. not (p x) ≡ true) xs
position-None p xs e =
    all_pass (λ x. not (p x)) xs (ltb-false (position_or_len p xs) (length xs)
    (none_cond (ltb (position_or_len p xs) (length xs)) (position_or_len p xs) e))

-- what holds of each element, and so what follows from it
each_weaker : (P Q : ℕ → Type 0) → ((x : ℕ) → P x → Q x) → (xs : List ℕ) → AllByRecursion P xs → AllByRecursion Q xs
each_weaker P Q f [] h = tt
each_weaker P Q f (x ∷ xs) h = (f x h.0, each_weaker P Q f xs h.1)

-- a text is cut at its first line end
pub parts_at : (text : List ℕ) (i : ℕ) → position (λ b. eqb b 10) text ≡ Some i →
    parts text
    ≡ parts_of (take i text ∷ (parts (drop (i + 1) text)).lines) (parts (drop (i + 1) text)).rest
parts_at text i e =
    let h = position-Some (λ b. eqb b 10) text i 0 e in
    let unbroken : IsUnbroken (take i text) =
    front_all (λ b. b ≢ 10) text i (omega (arith, h.0))
    (λ k lt. eqb-false (get_or text k 0) 10 (h.2 k lt)) in
    let cut : text ≡ take i text ++ 10 ∷ drop (i + 1) text =
    sym (take-append-drop i text) ∙ ap (λ (r : List ℕ). take i text ++ r)
    (drop_more text i 0 h.0
    ∙ ap (λ (b : ℕ). b ∷ drop (i + 1) text) (eqb-true (get_or text i 0) 10 h.1)) in
    ap parts cut ∙ parts-line (take i text) (drop (i + 1) text) unbroken

-- a text without a line feed has no line, and all of it is the rest
pub parts_none : (text : List ℕ) → position (λ b. eqb b 10) text ≡ None → parts text ≡ parts_of [] text
parts_none text e =
    parts-rest text (each_weaker (λ b. not (eqb b 10) ≡ true) (λ b. b ≢ 10)
    (λ b h. eqb-false b 10 (not-true (eqb b 10) h)) text (position-None (λ b. eqb b 10) text e))

-- a line is cut at its first word
pub words_missing : (line : List ℕ) → position (λ b. not (eqb b 32)) line ≡ None → words_of line ≡ []
words_missing line e =
    words-none line (each_weaker (λ b. not (not (eqb b 32)) ≡ true) (λ b. b ≡ 32)
    (λ b h. eqb-true b 32 (not-false (eqb b 32) (not-true (not (eqb b 32)) h))) line
    (position-None (λ b. not (eqb b 32)) line e))

record IsCut (text : List ℕ) (n : ℕ) : Type 0 where
  some : 1 ≤ n
  within : n ≤ length text
  unspaced : AllByRecursion (λ b. b ≢ 32) (take n text)
  ends : EndsWord (drop n text)

-- a word ends at the first space, or with the text
cut_at : (o : Option ℕ) (text : List ℕ) (n : ℕ) → position (λ b. eqb b 32) text ≡ o →
    n ≡ unwrap_or o (length text) → 1 ≤ length text → get_or text 0 0 ≢ 32 → IsCut text n
cut_at None text n e is some first =
    let all : take n text ≡ text = take_all n text (omega (arith, is)) in
    let nothing : drop n text ≡ [] = drop_all n text (omega (arith, is)) in
    record {
      some = omega (arith, is);
      within = omega (arith, is);
      unspaced =
          rw all (each_weaker (λ b. not (eqb b 32) ≡ true) (λ b. b ≢ 32)
          (λ b h. eqb-false b 32 (not-true (eqb b 32) h)) text
          (position-None (λ b. eqb b 32) text e));
      ends = subst EndsWord (sym nothing) tt;
    }
cut_at (Some i) text n e is some first =
    let h = position-Some (λ b. eqb b 32) text i 0 e in
    let space : get_or text i 0 ≡ 32 = eqb-true (get_or text i 0) 32 h.1 in
    let cut : drop n text ≡ get_or text i 0 ∷ drop (i + 1) text =
    ap (λ (k : ℕ). drop k text) is ∙ drop_more text i 0 h.0 in
    let positive : 1 ≤ i =
    elim (cases_lt 0 i) [
      | inl lt ↦ omega arith
      | inr le ↦ let zero_is : i ≡ 0 =
          omega arith in absurd (first (ap (λ (k : ℕ). get_or text k 0) (sym zero_is) ∙ space))
    ] in
    record {
      some = omega (arith, is);
      within = omega (arith, is, h.0);
      unspaced =
          front_all (λ b. b ≢ 32) text n (omega (arith, is, h.0))
          (λ k lt. eqb-false (get_or text k 0) 32 (h.2 k (omega (arith, is))));
      ends = subst EndsWord (sym cut) space;
    }

-- spaces in front are passed over, and the first word ends at the next space or with the line
pub words_cut : (line text after : List ℕ) (s n : ℕ) →
    position (λ b. not (eqb b 32)) line ≡ Some s → text ≡ drop s line →
    n ≡ unwrap_or (position (λ b. eqb b 32) text) (length text) → after ≡ drop n text →
    words_of line ≡ take n text ∷ words_of after
words_cut line text after s n e text_is n_is after_is =
    let h = position-Some (λ b. not (eqb b 32)) line s 0 e in
    let read : get_or text 0 0 ≡ get_or line s 0 =
    ap (λ (t : List ℕ). get_or t 0 0) text_is ∙ get_or-drop s line 0 0
    ∙ ap (λ (k : ℕ). get_or line k 0) (let same : s + 0 ≡ s = omega arith in same) in
    let first : get_or text 0 0 ≢ 32 =
    λ space.
    eqb-false (get_or line s 0) 32 (not-true (eqb (get_or line s 0) 32) h.1)
    (sym read ∙ space) in
    let long : length text ≡ length line - s = ap length text_is ∙ length-drop s line in
    let cut = cut_at (position (λ b. eqb b 32) text) text n refl n_is (omega (arith, long, h.0)) first in
    let whole : line ≡ take s line ++ (take n text ++ drop n text) =
    sym (take-append-drop s line)
    ∙ ap (λ (r : List ℕ). take s line ++ r) (sym text_is ∙ sym (take-append-drop n text)) in
    words-begin line (take n text) (drop n text) (record {
      gap = take s line;
      spaces =
          front_all (λ b. b ≡ 32) line s (omega (arith, h.0)) (λ k lt.
          eqb-true (get_or line k 0) 32 (not-false (eqb (get_or line k 0) 32) (h.2 k lt)));
      is_word = record { some = omega (arith, length-take n text, cut.some, cut.within); unspaced = cut.unspaced };
      ends = cut.ends;
      whole = whole;
    }) ∙ ap (λ (r : List ℕ). take n text ∷ words_of r) (sym after_is)
