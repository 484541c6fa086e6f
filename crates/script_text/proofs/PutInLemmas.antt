-- A step that puts a packet into a slot is what the reading function gives.
use Rattle.std.proofs.Common.{◌≡◌, ◌≢◌, ℕ, ◌+◌, ◌<◌, ◌≤◌, Bool, true, leb, ltb, List, [], ◌∷◌, ◌++◌, length, length-append, get_or, take, drop, Option, Some, None, refl, sym, ap, ◌∙◌, subst, append_assoc, arith, position}
use Rattle.std.specs.Prelude.{option_and_then, codes, ◌==◌, not}
use Rattle.std.specs.List.{AllByRecursion, prefix_len}
use Rattle.std.proofs.lemmas.Bool.{cond-true, cond-false, leb-true, le-leb, lt-ltb, le-ltb, eqb-true, ne_eqb, eq-eqb}
use Rattle.std.proofs.lemmas.List.{take-append-drop, drop_more, length_push}
use Rattle.std.proofs.lemmas.List.Quantifiers.{position-Some}
use Rattle.std.proofs.Math.Seq.{take-append_seam, drop-append_seam}
use Rattle.script_text.specs.declared.steps.Step.{Step}
use Rattle.script_text.specs.declared.steps.Step.TheVariants.{PutIn}
use Rattle.script_text.specs.declared.steps.StepSegment.{StepSegment}
use Rattle.script_text.specs.Numbers.{IsDigit}
use Rattle.script_text.specs.StepLine.{IsDesk, IsSegment, AreSegments, IsPutIn}
use Rattle.script_text.specs.inside.Reading.{number_at, short_number_at}
use Rattle.script_text.specs.inside.PutInReading.{direct, indirect, segment_by, segment_at, segments_from, put_in_from}
use Rattle.script_text.proofs.FoundLemmas.{and_then_some, found_is, if_some, if_none}
use Rattle.script_text.proofs.NumberLemmas.{number_from, number_is, short_number_from, short_number_is}

-- ---- the words one after another

-- where no word is left, the segments so far are all, if there are any
pub no_more : (so_far : List StepSegment) → 1 ≤ length so_far → segments_from so_far [] ≡ Some so_far
unfolding segments_from
no_more so_far some = cond-true (leb 1 (length so_far)) (Some so_far) None (le-leb 1 (length so_far) some)

-- no segments at all are none of a packet
pub none_at_all : (so_far : List StepSegment) → length so_far ≡ 0 → segments_from so_far [] ≡ None
unfolding segments_from
none_at_all [] e = refl
none_at_all (segment ∷ so_far) e = absurd (omega (arith, e))

-- behind 32 segments no word may stand
pub too_many : (so_far : List StepSegment) (word : List ℕ) (words : List (List ℕ)) → length so_far ≡ 32 →
    segments_from so_far (word ∷ words) ≡ None
unfolding segments_from
too_many so_far word words e = cond-true (length so_far == 32) None
    (option_and_then (λ segment. segments_from (so_far ++ segment ∷ []) words) (segment_at word))
    (eq-eqb (length so_far) 32 e)

-- before that a word has to be a segment, with which the others are read
one_word : (so_far : List StepSegment) (word : List ℕ) (words : List (List ℕ)) → length so_far ≢ 32 →
    segments_from so_far (word ∷ words) ≡ option_and_then
    (λ segment. segments_from (so_far ++ segment ∷ []) words) (segment_at word)
unfolding segments_from
one_word so_far word words ne = cond-false (length so_far == 32) None
    (option_and_then (λ segment. segments_from (so_far ++ segment ∷ []) words) (segment_at word))
    (ne_eqb (length so_far) 32 ne)

-- where it is known which segment a word is, the others are read with that one
pub one_more : (so_far : List StepSegment) (word : List ℕ) (words : List (List ℕ))
    (found : Option StepSegment) → length so_far ≢ 32 → found ≡ segment_at word →
    segments_from so_far (word ∷ words) ≡ option_and_then
    (λ segment. segments_from (so_far ++ segment ∷ []) words) found
one_more so_far word words found ne e = one_word so_far word words ne
    ∙ ap (option_and_then (λ segment. segments_from (so_far ++ segment ∷ []) words)) (sym e)

-- ---- a segment

-- the byte is no `>`
abbrev other_byte : ℕ → Bool
other_byte byte = not (byte == 62)

-- a list of one byte has the length 1
one_byte : length {A = ℕ} (62 ∷ []) ≡ 1
one_byte = refl

-- a `>` is a byte, whatever stands behind it
some_byte : (other : List ℕ) → 1 ≤ length {A = ℕ} (62 ∷ other)
some_byte other = omega arith

-- a digit is no `>`
digit_other : (byte : ℕ) → IsDigit byte → other_byte byte ≡ true
digit_other byte h = ap not (ne_eqb byte 62 (λ same. absurd (omega (arith, h.1, same))))

-- a `>` is looked for past all digits
digits_before : (own rest : List ℕ) → AllByRecursion IsDigit own → prefix_len other_byte rest ≡ 0 →
    prefix_len other_byte (own ++ rest) ≡ length own
digits_before [] rest h none = none
digits_before (byte ∷ own) rest h none =
    let one : prefix_len other_byte (byte ∷ (own ++ rest)) ≡ 1 + prefix_len other_byte (own ++ rest) =
    cond-true (other_byte byte) (1 + prefix_len other_byte (own ++ rest)) 0 (digit_other byte h.0) in
    omega (arith, one, digits_before own rest h.1 none)

-- nothing behind a list leaves it as it is
append-nothing : (xs : List ℕ) → xs ++ [] ≡ xs
append-nothing [] = refl
append-nothing (x ∷ xs) = ap (λ (ys : List ℕ). x ∷ ys) (append-nothing xs)

-- no `>` is among digits
mark-none : (word : List ℕ) → AllByRecursion IsDigit word → position (λ byte. byte == 62) word ≡ None
mark-none word h =
    let whole : prefix_len other_byte word ≡ length word =
    ap (prefix_len other_byte) (sym (append-nothing word)) ∙ digits_before word [] h refl in
    cond-false (ltb (prefix_len other_byte word) (length word)) (Some (prefix_len other_byte word)) None
    (le-ltb (prefix_len other_byte word) (length word) (omega (arith, whole)))

-- the first `>` of a word is the one that its leading digits end at
mark-here : (own other : List ℕ) → AllByRecursion IsDigit own →
    position (λ byte. byte == 62) (own ++ (codes ">" ++ other)) ≡ Some (length own)
mark-here own other h =
    let rest = codes ">" ++ other in
    let at : prefix_len other_byte (own ++ rest) ≡ length own = digits_before own rest h refl in
    let within : prefix_len other_byte (own ++ rest) < length (own ++ rest) = omega (arith, at, length-append own rest, some_byte other) in
    cond-true (ltb (prefix_len other_byte (own ++ rest)) (length (own ++ rest)))
    (Some (prefix_len other_byte (own ++ rest))) None
    (lt-ltb (prefix_len other_byte (own ++ rest)) (length (own ++ rest)) within)
    ∙ ap (λ (n : ℕ). Some n) at

-- a word without `>` is an element's number, and one with it is cut there in two numbers
segment_by_from : (o : Option ℕ) (word : List ℕ) (segment : StepSegment) →
    position (λ byte. byte == 62) word ≡ o → segment_by o word ≡ Some segment →
    IsSegment word segment.element segment.base
segment_by_from None word segment e f =
    let n = and_then_some (λ element. Some (direct element)) (number_at word) segment f in
    subst (λ (s : StepSegment). IsSegment word s.element s.base) (found_is (direct n.0) segment n.2) (number_from word n.0 n.1)
segment_by_from (Some end) word segment e f =
    let h = position-Some (λ byte. byte == 62) word end 0 e in
    let a = and_then_some (λ element. option_and_then (λ base. Some (indirect element base))
    (number_at (drop (end + 1) word))) (number_at (take end word)) segment f in
    let b = and_then_some (λ base. Some (indirect a.0 base)) (number_at (drop (end + 1) word)) segment a.2 in
    let cut : word ≡ take end word ++ 62 ∷ drop (end + 1) word = sym (take-append-drop end word)
    ∙ ap (λ (r : List ℕ). take end word ++ r)
    (drop_more word end 0 h.0 ∙ ap (λ (byte : ℕ). byte ∷ drop (end + 1) word)
    (eqb-true (get_or word end 0) 62 h.1)) in
    subst (λ (s : StepSegment). IsSegment word s.element s.base) (found_is (indirect a.0 b.0) segment b.2)
    (take end word, drop (end + 1) word, cut, number_from (take end word) a.0 a.1, number_from (drop (end + 1) word) b.0 b.1)

-- a word that is read as a segment is that segment
segment_from : (word : List ℕ) (segment : StepSegment) → segment_at word ≡ Some segment → IsSegment word segment.element segment.base
segment_from word segment e = segment_by_from (position (λ byte. byte == 62) word) word segment refl e

-- what stands behind the first `>` is found by leaving off what stands before it, and it
drop_past : (own other : List ℕ) → drop (length own + 1) (own ++ 62 ∷ other) ≡ other
drop_past own other =
    let long : length own + 1 ≡ length (own ++ 62 ∷ []) = omega (arith, length-append own (62 ∷ []), one_byte) in
    ap (λ (xs : List ℕ). drop (length own + 1) xs) (sym (append_assoc own (62 ∷ []) other))
    ∙ ap (λ (n : ℕ). drop n ((own ++ 62 ∷ []) ++ other)) long ∙ drop-append_seam (own ++ 62 ∷ []) other

-- a segment is read from its word
segment_is : (word : List ℕ) (element : ℕ) (base : Option ℕ) → IsSegment word element base →
    segment_at word ≡ Some (record { element = element; base = base })
segment_is word element None h = ap (λ (o : Option ℕ). segment_by o word) (mark-none word h.digits)
    ∙ ap (option_and_then (λ n. Some (direct n))) (number_is word element h)
segment_is word element (Some base) h =
    let own = h.0 in
    let other = h.1 in
    let whole = own ++ (codes ">" ++ other) in
    let first = ap number_at (take-append_seam own (codes ">" ++ other)) ∙ number_is own element h.3 in
    let second = ap number_at (drop_past own other) ∙ number_is other base h.4 in
    ap segment_at h.2 ∙ ap (λ (o : Option ℕ). segment_by o whole) (mark-here own other h.3.digits)
    ∙ ap (option_and_then (λ n. option_and_then (λ b. Some (indirect n b)) (number_at (drop (length own + 1) whole)))) first
    ∙ ap (option_and_then (λ b. Some (indirect element b))) second

-- ---- the segments

-- no segments behind others leave them as they are
append-none : (xs : List StepSegment) → xs ++ [] ≡ xs
append-none [] = refl
append-none (x ∷ xs) = ap (λ (ys : List StepSegment). x ∷ ys) (append-none xs)

-- the segments that were read are those so far, and then one for each word
record SegmentsCome (so_far : List StepSegment) (words : List (List ℕ)) (all : List StepSegment) : Type 0 where
  segments : List StepSegment
  all_are : all ≡ so_far ++ segments
  are_segments : AreSegments words segments
  some : 1 ≤ length all
  few : length all ≤ 32

-- words that are read as segments are those segments, one after another
segments_come : (words : List (List ℕ)) (so_far all : List StepSegment) → length so_far ≤ 32 →
    segments_from so_far words ≡ Some all → SegmentsCome so_far words all
unfolding segments_from
segments_come [] so_far all few e =
    let c = if_some (leb 1 (length so_far)) (Some so_far) all e in
    let same = found_is so_far all c.1 in
    subst (λ (a : List StepSegment). SegmentsCome so_far [] a) same
    (record { segments = []; all_are = sym (append-none so_far); are_segments = tt; some = leb-true 1 (length so_far) c.0; few = few })
segments_come (word ∷ words) so_far all few e =
    let c = if_none (length so_far == 32)
    (option_and_then (λ segment. segments_from (so_far ++ segment ∷ []) words) (segment_at word)) all e in
    let ne : length so_far ≢ 32 = λ full. (let clash = sym c.0 ∙ eq-eqb (length so_far) 32 full in absurd cc) in
    let s = and_then_some (λ segment. segments_from (so_far ++ segment ∷ []) words) (segment_at word) all c.1 in
    let more = segments_come words (so_far ++ s.0 ∷ []) all (omega (arith, length_push so_far s.0, few, ne)) s.2 in
    record {
      segments = s.0 ∷ more.segments;
      all_are = more.all_are ∙ append_assoc so_far (s.0 ∷ []) more.segments;
      are_segments = (segment_from word s.0 s.1, more.are_segments);
      some = more.some;
      few = more.few;
    }

-- segments are read from their words, one after another
segments_go : (segments so_far : List StepSegment) (words : List (List ℕ)) → AreSegments words segments →
    1 ≤ length (so_far ++ segments) → length (so_far ++ segments) ≤ 32 →
    segments_from so_far words ≡ Some (so_far ++ segments)
segments_go [] so_far [] h some few =
    let whole = append-none so_far in no_more so_far
    (subst (λ (xs : List StepSegment). 1 ≤ length xs) whole some)
    ∙ ap (λ (xs : List StepSegment). Some xs) (sym whole)
segments_go [] so_far (word ∷ words) h some few = absurd h
segments_go (segment ∷ segments) so_far [] h some few = absurd h
segments_go (segment ∷ segments) so_far (word ∷ words) h some few =
    let regrouped = append_assoc so_far (segment ∷ []) segments in
    let room : length so_far ≢ 32 = λ full. absurd (omega (arith, length-append so_far (segment ∷ segments), few, full)) in
    one_word so_far word words room
    ∙ ap (option_and_then (λ s. segments_from (so_far ++ s ∷ []) words)) (segment_is word segment.element segment.base h.0)
    ∙ segments_go segments (so_far ++ segment ∷ []) words h.1
    (subst (λ (xs : List StepSegment). 1 ≤ length xs) (sym regrouped) some)
    (subst (λ (xs : List StepSegment). length xs ≤ 32) (sym regrouped) few)
    ∙ ap (λ (xs : List StepSegment). Some xs) regrouped

-- ---- the step

-- behind `putin` the words are this desk and these segments, and the step has them
pub record PutInComes (words : List (List ℕ)) (step : Step) : Type 0 where
  pub desk : ℕ
  pub segments : List StepSegment
  pub step_is : PutIn desk segments ≡ step
  pub is_put_in : (word : List ℕ) → word ≡ codes "putin" → IsPutIn (word ∷ words) desk segments

-- what is read behind `putin` are a desk and 1 to 32 segments
pub put_in_comes : (words : List (List ℕ)) (step : Step) → put_in_from words ≡ Some step → PutInComes words step
put_in_comes [] step e = absurd cc
put_in_comes (number ∷ words) step e =
    let d = and_then_some (λ desk. option_and_then (λ segments. Some (PutIn desk segments))
    (segments_from [] words)) (short_number_at number) step e in
    let s = and_then_some (λ segments. Some (PutIn d.0 segments)) (segments_from [] words) step d.2 in
    let read = segments_come words [] s.0 (omega arith) s.1 in
    record {
      desk = d.0;
      segments = s.0;
      step_is = found_is (PutIn d.0 s.0) step s.2;
      is_put_in = λ word is. record {
        number = number;
        rest = words;
        words_are = ap (λ (w : List ℕ). w ∷ number ∷ words) is;
        is_desk = short_number_from number d.0 d.1;
        are_segments = subst (AreSegments words) (sym read.all_are) read.are_segments;
        some = read.some;
        few = read.few;
      };
    }

-- a desk and 1 to 32 segments are read as their step
pub put_in_is : (number : List ℕ) (rest : List (List ℕ)) (desk : ℕ) (segments : List StepSegment) →
    IsDesk number desk → AreSegments rest segments → 1 ≤ length segments → length segments ≤ 32 →
    put_in_from (number ∷ rest) ≡ Some (PutIn desk segments)
put_in_is number rest desk segments is_desk are_segments some few =
    ap (option_and_then (λ d. option_and_then (λ s. Some (PutIn d s)) (segments_from [] rest)))
    (short_number_is number desk is_desk.0 is_desk.1)
    ∙ ap (option_and_then (λ s. Some (PutIn desk s))) (segments_go segments [] rest are_segments some few)
