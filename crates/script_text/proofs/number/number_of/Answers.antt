use Rattle.std.proofs.Common.{◌≡◌, ◌+◌, ◌^◌, ◌≤◌, false, leb, take, get_or, length, sym, ◌∙◌, arith}
use Rattle.std.specs.Prelude.{◌&&◌}
use Rattle.std.specs.List.{list_all}
use Rattle.std.proofs.lemmas.Bool.{and_from}
use Rattle.std.proofs.lemmas.Bool.Decides.{nat_tests}
use Rattle.std.proofs.lemmas.List.Folds.{list_all_more}
use Rattle.script_text.specs.Numbers.{digits_value}
use Rattle.script_text.specs.inside.Reading.{is_digit}
use Rattle.script_text.proofs.NumberLemmas.{number_too_great, number_with_other, number_of_length, number_whole, digits_value-more}
use Rattle.script_text.proofs.number.number_of.Goals as goal

-- a word without bytes, or of more than 20, is no number
pub returns-then-is_empty : goal.returns-then-is_empty
returns-then-is_empty c =
    let w = c.args.word.now in
    let e : (leb 1 (length w) && leb (length w) 20) ≡ false = grind (arith, nat_tests) in
    sym (number_of_length w e)

-- a byte that is no digit makes the word none
pub returns-in_err-digit : goal.returns-in_err-digit
returns-in_err-digit c =
    c.from_residual.ensures ∙ sym (number_with_other c.args.word.now c.loop-byte.byte-index
    c.loop-byte-test.true (sym c.in_err-digit.ensures.digit))

-- ten times the value so far is 2^64 or more, and further digits make no less
pub returns-in_err-checked_mul : goal.returns-in_err-checked_mul
returns-in_err-checked_mul c =
    let i = c.loop-byte.byte-index in
    let more = digits_value-more c.args.word.now i c.loop-byte-test.true in
    let great : 2 ^ 64 ≤ digits_value (take (i + 1) c.args.word.now) =
    omega (arith, more, c.loop-byte.invariant.value_is, c.in_err-checked_mul.ensures) in
    c.from_residual-in_err-checked_mul.ensures ∙ sym (number_too_great c.args.word.now (i + 1) great)

-- with this digit the value is 2^64 or more, and further digits make no less
pub returns-in_err-value : goal.returns-in_err-value
returns-in_err-value c =
    let i = c.loop-byte.byte-index in
    let more = digits_value-more c.args.word.now i c.loop-byte-test.true in
    let great : 2 ^ 64 ≤ digits_value (take (i + 1) c.args.word.now) =
    omega (
      arith,
      more,
      c.loop-byte.invariant.value_is,
      c.in_ok-checked_mul.ensures,
      c.in_ok-digit.ensures.value,
      c.in_err-value.ensures,
    ) in
    c.from_residual-in_err-value.ensures ∙ sym (number_too_great c.args.word.now (i + 1) great)

-- the value of one digit more is ten times that so far and the digit, and it fits
pub loop-byte-preserved : goal.loop-byte-preserved
loop-byte-preserved c =
    let i = c.loop-byte.byte-index in
    let more = digits_value-more c.args.word.now i c.loop-byte-test.true in
    record {
      fits = omega (arith, c.in_ok-value.ensures);
      value_is =
          omega (
            arith,
            more,
            c.loop-byte.invariant.value_is,
            c.in_ok-checked_mul.ensures,
            c.in_ok-digit.ensures.value,
            c.in_ok-value.ensures,
          );
      digits =
          list_all_more is_digit c.args.word.now i 0 c.loop-byte-test.true
          ∙ and_from (list_all is_digit (take i c.args.word.now))
          (is_digit (get_or c.args.word.now i 0)) c.loop-byte.invariant.digits
          (sym c.in_ok-digit.ensures.digit);
    }

-- all bytes were digits, 1 to 20 of them, and their value fits
pub returns : goal.returns
returns c =
    let some : 1 ≤ length c.args.word.now = grind (arith, nat_tests) in
    let n = c.loop-byte.byte-index in
    sym (number_whole c.args.word.now c.loop-byte.value n some c.if-word-gt-MAX_DIGITS.false
    (omega arith) c.loop-byte.invariant.fits c.loop-byte.invariant.value_is
    c.loop-byte.invariant.digits)
