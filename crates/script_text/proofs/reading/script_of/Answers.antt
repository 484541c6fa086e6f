use Rattle.std.proofs.Common.{◌≡◌, ℕ, ◌-◌, length, max, Err, sym, ap, ◌∙◌, arith}
use Rattle.std.specs.Prelude.{option_map}
use Rattle.std.proofs.lemmas.Bool.{eqb-true, eqb-false}
use Rattle.commons.specs.declared.refusal.Refusal.TheVariants.{ScriptFault}
use Rattle.script_text.specs.inside.ScriptReading.{read_text}
use Rattle.script_text.specs.PoolLine.{numbers_of_pools}
use Rattle.script_text.specs.inside.Agreement.{state_of}
use Rattle.script_text.proofs.JudgedLemmas.{read_more, stops, unfinished_rest, no_pool_line, whole_script, text_too_long, text_short, same_state}
use Rattle.script_text.proofs.reading.script_of.Goals as goal

pub returns-then-bytes-gt-MAX_BYTES : goal.returns-then-bytes-gt-MAX_BYTES
returns-then-bytes-gt-MAX_BYTES g c = text_too_long g.C.FromWords.lexicon c.args.bytes.now c.if-bytes-gt-MAX_BYTES.true

-- the lines before were read, so what stops this one is the text's refusal, with its number
pub returns-in-Err : goal.returns-in-Err
returns-in-Err g c =
    let whole = c.loop-line.invariant.same ∙ sym (text_short g.C.FromWords.lexicon c.args.bytes.now c.if-bytes-gt-MAX_BYTES.false) in
    rw c.refused_at.ensures (stops g.C.FromWords.lexicon c.in-Err.stop (state_of c.loop-line.reader) c.loop-line.number
    c.loop-line.rest.now c.in-Some.line.now c.in-Some.after.now (read_text g.C.FromWords.lexicon c.args.bytes.now)
    c.in-Some.ensures.lines c.in-Err.ensures.read whole)

-- one line more was read, and reading on from there is reading the whole
pub loop-line-preserved : goal.loop-line-preserved
loop-line-preserved g c = record {
  positive = omega arith;
  counted = omega (arith, c.in-Some.ensures.shorter, c.loop-line.invariant.counted);
  kept = c.in_default-read_line.ensures.kept;
  same =
      sym (read_more g.C.FromWords.lexicon (state_of c.loop-line.reader) (state_of c.read_line.new.self)
      c.loop-line.number c.loop-line.rest.now c.in-Some.line.now c.in-Some.after.now
      c.in-Some.ensures.lines c.in_default-read_line.ensures.read)
      ∙ c.loop-line.invariant.same;
}

-- no line feed is left and some bytes are, so the line of this number isn't ended
pub returns-then-not-is_empty : goal.returns-then-not-is_empty
returns-then-not-is_empty g c =
    let whole = c.loop-line.invariant.same ∙ sym (text_short g.C.FromWords.lexicon c.args.bytes.now c.if-bytes-gt-MAX_BYTES.false) in
    let some = eqb-false (length c.loop-line.rest.now) 0 (sym c.is_empty.ensures ∙ c.if-not-is_empty.true) in
    unfinished_rest g.C.FromWords.lexicon (state_of c.loop-line.reader) c.loop-line.number c.loop-line.rest.now
    (read_text g.C.FromWords.lexicon c.args.bytes.now) c.in_default.ensures.lines (omega (arith, some)) whole

-- nothing is left behind the last line and pools were told, so the text is this script
pub returns-in-Some-finish : goal.returns-in-Some-finish
returns-in-Some-finish g c =
    let whole = c.loop-line.invariant.same ∙ sym (text_short g.C.FromWords.lexicon c.args.bytes.now c.if-bytes-gt-MAX_BYTES.false) in
    let none = eqb-true (length c.loop-line.rest.now) 0 (sym c.is_empty.ensures ∙ c.if-not-is_empty.false) in
    let s = state_of c.loop-line.reader in
    let script = c.in-Some-finish.script in
    same_state g.C.FromWords.lexicon s (numbers_of_pools script.pools) script.lines
    (read_text g.C.FromWords.lexicon c.args.bytes.now) (ap (option_map numbers_of_pools) c.in-Some-finish.ensures.0)
    c.in-Some-finish.ensures.1
    (whole_script g.C.FromWords.lexicon s c.loop-line.number c.loop-line.rest.now (numbers_of_pools script.pools)
    (read_text g.C.FromWords.lexicon c.args.bytes.now) c.in_default.ensures.lines none
    (ap (option_map numbers_of_pools) c.in-Some-finish.ensures.0)
    whole)

-- nothing is left and no pools were told, so every line was skipped
pub returns-in-None : goal.returns-in-None
returns-in-None g c =
    let whole = c.loop-line.invariant.same ∙ sym (text_short g.C.FromWords.lexicon c.args.bytes.now c.if-bytes-gt-MAX_BYTES.false) in
    let none = eqb-true (length c.loop-line.rest.now) 0 (sym c.is_empty.ensures ∙ c.if-not-is_empty.false) in
    let same : max 1 (c.loop-line.number - 1) ≡ c.max.result = omega (arith, c.max.ensures) in
    no_pool_line g.C.FromWords.lexicon (state_of c.loop-line.reader) c.loop-line.number c.loop-line.rest.now
    (read_text g.C.FromWords.lexicon c.args.bytes.now) c.in_default.ensures.lines none
    (ap (option_map numbers_of_pools) c.in-None.ensures) whole
    ∙ ap (λ (n : ℕ). Err (ScriptFault n)) same
