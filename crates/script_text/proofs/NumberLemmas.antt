-- A number is what the reading function gives, and a name is what passes its test.
use Rattle.std.proofs.Common.{◌≡◌, ℕ, suc, ◌+◌, ◌-◌, ◌*◌, ◌^◌, ◌<◌, ◌≤◌, Bool, true, false, ltb, leb, List, [], ◌∷◌, ◌++◌, length, get_or, take, drop, Some, None, refl, sym, ap, ◌∙◌, arith, inl, inr, subst}
use Rattle.std.specs.Prelude.{◌&&◌, ◌||◌, ◌⊎◌, option_and_then}
use Rattle.std.specs.List.{AllByRecursion, list_all}
use Rattle.std.proofs.lemmas.Bool.{ltb-true, leb-true, lt-ltb, le-leb, le-ltb, and_left, and_right, and_parts, and_from, or_cases, or_left, or_right, cond-true, cond-false, false≢true}
use Rattle.std.proofs.lemmas.Option.{cond_some}
use Rattle.std.proofs.lemmas.List.{length-append, length_push, take_more, take_all, take-append-drop}
use Rattle.std.proofs.lemmas.List.Folds.{list_all_at}
use Rattle.std.proofs.Math.Nat.{mul-le-mul_left, pow-suc, pow-le-pow_right}
use Rattle.script_text.specs.Numbers.{IsDigit, digits_value, IsNumber}
use Rattle.script_text.specs.Names.{IsLetter, IsName}
use Rattle.script_text.proofs.FoundLemmas.{and_then_some, found_is, if_some}
use Rattle.script_text.specs.inside.Reading.{is_digit, is_number, number_at, short_number, short_number_at, is_letter, is_name_word}

-- ---- a test of each element

-- what passes a test element by element has, element by element, what the test says
pub all_from : {X : Type 0} (p : X → Bool) (P : X → Type 0) → ((x : X) → p x ≡ true → P x) →
    (xs : List X) → list_all p xs ≡ true → AllByRecursion P xs
all_from p P each [] e = tt
all_from p P each (x ∷ xs) e =
    let both = and_parts (p x) (list_all p xs) e in (each x both.0, all_from p P each xs both.1)

-- what has a thing element by element passes the test for it
pub all_to : {X : Type 0} (p : X → Bool) (P : X → Type 0) → ((x : X) → P x → p x ≡ true) →
    (xs : List X) → AllByRecursion P xs → list_all p xs ≡ true
all_to p P each [] h = refl
all_to p P each (x ∷ xs) h = and_from (p x) (list_all p xs) (each x h.0) (all_to p P each xs h.1)

-- a byte that passes the test of bounds is within them
pub within_from : (low high byte : ℕ) → (leb low byte && leb byte high) ≡ true → (low ≤ byte) × (byte ≤ high)
within_from low high byte e =
    let both = and_parts (leb low byte) (leb byte high) e in
    (leb-true low byte both.0, leb-true byte high both.1)

pub within_to : (low high byte : ℕ) → (low ≤ byte) × (byte ≤ high) → (leb low byte && leb byte high) ≡ true
within_to low high byte h = and_from (leb low byte) (leb byte high) (le-leb low byte h.0) (le-leb byte high h.1)

-- ---- numbers

regroup : (d p x e : ℕ) → d * (p * 10) + (x * 10 + e) ≡ (d * p + x) * 10 + e
regroup d p x e = omega arith

front_le : (d p q x y : ℕ) → p ≤ q → x ≤ y → d * p + x ≤ d * q + y
front_le d p q x y le more = omega (arith, mul-le-mul_left d le, more)

abbrev front_tests : List ℕ → Bool
front_tests word = leb 1 (length word) && leb (length word) 20

-- a word that is read as a number is 1 to 20 digits, with that value, below 2^64
pub number_from : (word : List ℕ) (value : ℕ) → number_at word ≡ Some value → IsNumber word value
unfolding number_at
number_from word value e =
    let got = cond_some (is_number word) (digits_value word) value e in
    let a = and_parts (front_tests word && list_all is_digit word) (ltb (digits_value word) (2 ^ 64)) got.0 in
    let b = and_parts (front_tests word) (list_all is_digit word) a.0 in
    let c = and_parts (leb 1 (length word)) (leb (length word) 20) b.0 in
    let below = ltb-true (digits_value word) (2 ^ 64) a.1 in
    record {
      some = leb-true 1 (length word) c.0;
      few = leb-true (length word) 20 c.1;
      digits = all_from is_digit IsDigit (λ byte h. within_from 48 57 byte h) word b.1;
      value_is = sym got.1;
      fits = rw (← got.1) below;
    }

-- a number of the grammar passes each part of the test, and is read as its value
pub number_is : (word : List ℕ) (value : ℕ) → IsNumber word value → number_at word ≡ Some value
unfolding number_at
number_is word value h =
    let below : digits_value word < 2 ^ 64 = rw (← h.value_is) h.fits in
    let c =
    and_from (leb 1 (length word)) (leb (length word) 20) (le-leb 1 (length word) h.some)
    (le-leb (length word) 20 h.few) in
    let b =
    and_from (front_tests word) (list_all is_digit word) c
    (all_to is_digit IsDigit (λ byte d. within_to 48 57 byte d) word h.digits) in
    let a =
    and_from (front_tests word && list_all is_digit word) (ltb (digits_value word) (2 ^ 64)) b
    (lt-ltb (digits_value word) (2 ^ 64) below) in
    cond-true (is_number word) (Some (digits_value word)) None a ∙ ap (λ (n : ℕ). Some n) (sym h.value_is)

-- with one digit more the value is ten times that of the others, and the digit's
digits_value-push : (digits : List ℕ) (digit : ℕ) →
    digits_value (digits ++ digit ∷ []) ≡ digits_value digits * 10 + (digit - 48)
digits_value-push [] digit = omega arith
digits_value-push (d ∷ digits) digit =
    let more : length (digits ++ digit ∷ []) ≡ suc (length digits) = omega (arith, length_push digits digit) in
    let wide : 10 ^ suc (length digits) ≡ 10 ^ length digits * 10 = pow-suc 10 (length digits) in
    rw (more, wide, digits_value-push digits digit)
    (regroup (d - 48) (10 ^ length digits) (digits_value digits) (digit - 48))

-- a further digit makes the value ten times as much, and itself more
pub digits_value-more : (word : List ℕ) (i : ℕ) → i < length word →
    digits_value (take (i + 1) word) ≡ digits_value (take i word) * 10 + (get_or word i 0 - 48)
digits_value-more word i lt =
    ap digits_value (take_more word i 0 lt) ∙ digits_value-push (take i word) (get_or word i 0)

-- more digits make no less
digits_value-front : (front back : List ℕ) → digits_value front ≤ digits_value (front ++ back)
digits_value-front [] back = omega arith
digits_value-front (d ∷ front) back =
    let long : length front ≤ length (front ++ back) = omega (arith, length-append front back) in
    front_le (d - 48) (10 ^ length front) (10 ^ length (front ++ back)) (digits_value front)
    (digits_value (front ++ back))
    (pow-le-pow_right (let ten : 0 < 10 = omega arith in ten) long)
    (digits_value-front front back)

pub digits_value-take : (word : List ℕ) (i : ℕ) → digits_value (take i word) ≤ digits_value word
digits_value-take word i = let h = digits_value-front (take i word) (drop i word) in rw (take-append-drop i word) at h

-- a number too great has no value
pub number_too_great : (word : List ℕ) (i : ℕ) → 2 ^ 64 ≤ digits_value (take i word) → number_at word ≡ None
unfolding number_at
number_too_great word i great =
    cond-false (is_number word) (Some (digits_value word)) None (and_right
    (front_tests word && list_all is_digit word) (ltb (digits_value word) (2 ^ 64))
    (le-ltb (digits_value word) (2 ^ 64) (omega (arith, digits_value-take word i, great))))

-- a word with a byte that is no digit is no number
pub number_with_other : (word : List ℕ) (i : ℕ) → i < length word →
    is_digit (get_or word i 0) ≡ false → number_at word ≡ None
unfolding number_at
number_with_other word i lt other =
    cond-false (is_number word) (Some (digits_value word)) None (and_left
    (front_tests word && list_all is_digit word) (ltb (digits_value word) (2 ^ 64))
    (and_right (front_tests word) (list_all is_digit word)
    (list_all_at is_digit word i 0 lt other)))

-- a word without bytes, or with more than 20, is no number
pub number_of_length : (word : List ℕ) → (leb 1 (length word) && leb (length word) 20) ≡ false → number_at word ≡ None
unfolding number_at
number_of_length word e =
    cond-false (is_number word) (Some (digits_value word)) None (and_left
    (front_tests word && list_all is_digit word) (ltb (digits_value word) (2 ^ 64))
    (and_left (front_tests word) (list_all is_digit word) e))

-- a word of digits, as they were read one after another
pub number_whole : (word : List ℕ) (value n : ℕ) → 1 ≤ length word → length word ≤ 20 →
    n ≡ length word → value < 2 ^ 64 → value ≡ digits_value (take n word) →
    list_all is_digit (take n word) ≡ true → number_at word ≡ Some value
number_whole word value n some few n_is fits value_is digits =
    let all : take n word ≡ word = take_all n word (omega (arith, n_is)) in
    number_is word value (record {
      some = some;
      few = few;
      digits = all_from is_digit IsDigit (λ byte h. within_from 48 57 byte h) word (rw all at digits);
      value_is = rw all at value_is;
      fits = fits;
    })

-- a number of at most 65535 that a word spells
pub short_number_from : (word : List ℕ) (n : ℕ) → short_number_at word ≡ Some n → IsNumber word n × (n ≤ 65535)
short_number_from word n e =
    let h = and_then_some short_number (number_at word) n e in
    let c = if_some (leb h.0 65535) (Some h.0) n h.2 in
    let same = found_is h.0 n c.1 in (
      subst (λ (k : ℕ). IsNumber word k) same (number_from word h.0 h.1),
      subst (λ (k : ℕ). k ≤ 65535) same (leb-true h.0 65535 c.0),
    )

-- a number that is at most 65,535 is taken as a length or a desk
pub short_number_is : (word : List ℕ) (n : ℕ) → IsNumber word n → n ≤ 65535 → short_number_at word ≡ Some n
short_number_is word n h short =
    ap (option_and_then short_number) (number_is word n h)
    ∙ cond-true (leb n 65535) (Some n) None (le-leb n 65535 short)

-- ---- names

-- a word that passes the test for names begins with a letter, is short, and has letters and digits
pub name_from : (word : List ℕ) → is_name_word word ≡ true → IsName word
unfolding is_name_word
name_from [] e = absurd (false≢true e)
name_from (byte ∷ word) e =
    let test = λ (b : ℕ). is_letter b || is_digit b in
    let a = and_parts (is_letter byte && leb (length (byte ∷ word)) 16) (list_all test (byte ∷ word)) e in
    let b = and_parts (is_letter byte) (leb (length (byte ∷ word)) 16) a.0 in
    record {
      first = within_from 97 122 byte b.0;
      few = leb-true (length (byte ∷ word)) 16 b.1;
      each =
          all_from test (λ b. IsLetter b ⊎ IsDigit b) (λ x h.
          elim (or_cases (is_letter x) (is_digit x) h)
          [ inl l ↦ inl (within_from 97 122 x l) | inr d ↦ inr (within_from 48 57 x d) ])
          (byte ∷ word) a.1;
    }

-- a letter passes the first of two tests, and a digit the second
letter_or_digit : (x : ℕ) → IsLetter x ⊎ IsDigit x → (is_letter x || is_digit x) ≡ true
letter_or_digit x (inl l) = or_left (is_letter x) (is_digit x) (within_to 97 122 x l)
letter_or_digit x (inr d) = or_right (is_letter x) (is_digit x) (within_to 48 57 x d)

-- a name of the grammar passes each part of the test
pub name_is : (word : List ℕ) → IsName word → is_name_word word ≡ true
unfolding is_name_word
name_is [] h = absurd h.first
name_is (byte ∷ word) h =
    let test = λ (b : ℕ). is_letter b || is_digit b in
    and_from (is_letter byte && leb (length (byte ∷ word)) 16) (list_all test (byte ∷ word))
    (and_from (is_letter byte) (leb (length (byte ∷ word)) 16) (within_to 97 122 byte h.first)
    (le-leb (length (byte ∷ word)) 16 h.few))
    (all_to test (λ b. IsLetter b ⊎ IsDigit b) letter_or_digit (byte ∷ word) h.each)
