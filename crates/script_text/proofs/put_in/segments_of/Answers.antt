use Rattle.std.proofs.Common.{List, ◌≡◌, ◌≢◌, ◌≤◌, ◌∷◌, ◌++◌, [], length, sym, ap, ◌∙◌, arith}
use Rattle.std.specs.Prelude.{Some, None, vec_len}
use Rattle.std.proofs.lemmas.Bool.{eqb-true, eqb-false}
use Rattle.std.proofs.lemmas.List.{length_push}
use Rattle.script_text.specs.declared.steps.StepSegment.{StepSegment}
use Rattle.script_text.specs.inside.Reading.{words_of}
use Rattle.script_text.specs.inside.PutInReading.{segments_from}
use Rattle.script_text.proofs.PutInLemmas.{no_more, none_at_all, too_many, one_more}
use Rattle.script_text.proofs.put_in.segments_of.Goals as goal

-- a word stands behind 32 segments
pub returns-then-len-eq-MAX_SEGMENTS : goal.returns-then-len-eq-MAX_SEGMENTS
returns-then-len-eq-MAX_SEGMENTS c =
    let segments = c.loop-word.segments.items in
    let full : length segments ≡ 32 = omega (arith, c.len.ensures, c.loop-word.segments.ok.0, c.if-len-eq-MAX_SEGMENTS.true) in
    sym (too_many segments c.in-Some.word.now (words_of c.in-Some.after.now) full)
    ∙ sym (ap (segments_from segments) c.in-Some.ensures.words) ∙ c.loop-word.invariant.same

-- a word that is no segment leaves none
pub returns-in_default-segment_of : goal.returns-in_default-segment_of
returns-in_default-segment_of c =
    let segments = c.loop-word.segments.items in
    let room : length segments ≢ 32 = λ full. c.if-len-eq-MAX_SEGMENTS.false (c.len.ensures ∙ c.loop-word.segments.ok.0 ∙ full) in
    let none = sym c.in_default-segment_of.is ∙ c.segment_of.ensures in
    sym (one_more segments c.in-Some.word.now (words_of c.in-Some.after.now) None room none)
    ∙ sym (ap (segments_from segments) c.in-Some.ensures.words) ∙ c.loop-word.invariant.same

-- one segment more is read, and those with it and behind it are the whole
pub loop-word-preserved : goal.loop-word-preserved
loop-word-preserved c =
    let segments = c.loop-word.segments.items in
    let segment = c.in-Some-segment_of.segment in
    let room : length segments ≢ 32 = λ full. c.if-len-eq-MAX_SEGMENTS.false (c.len.ensures ∙ c.loop-word.segments.ok.0 ∙ full) in
    let found = sym c.in-Some-segment_of.is ∙ c.segment_of.ensures in
    let items : c.push.new.self.items ≡ segments ++ segment ∷ [] = c.in_ok-push.ensures.items in
    record {
      same = ap (λ (ss : List StepSegment). segments_from ss (words_of c.in-Some.after.now)) items
          ∙ sym (one_more segments c.in-Some.word.now (words_of c.in-Some.after.now) (Some segment) room found)
          ∙ sym (ap (segments_from segments) c.in-Some.ensures.words) ∙ c.loop-word.invariant.same;
      few = let long : length c.push.new.self.items ≡ length (segments ++ segment ∷ []) = ap length items in
          omega (arith, long, length_push segments segment, c.loop-word.invariant.few, room);
    }

-- no word is left and none was there
pub returns-then-is_empty : goal.returns-then-is_empty
returns-then-is_empty c =
    let segments = c.loop-word.segments.items in
    let none = eqb-true (vec_len c.loop-word.segments) 0 (sym c.is_empty.ensures ∙ c.if-is_empty.true) in
    let empty : length segments ≡ 0 = omega (arith, c.loop-word.segments.ok.0, none) in
    sym (none_at_all segments empty) ∙ sym (ap (segments_from segments) c.in_default.ensures.words) ∙ c.loop-word.invariant.same

-- no word is left, so the segments so far are all
pub returns-else-is_empty : goal.returns-else-is_empty
returns-else-is_empty c =
    let segments = c.loop-word.segments.items in
    let one = eqb-false (vec_len c.loop-word.segments) 0 (sym c.is_empty.ensures ∙ c.if-is_empty.false) in
    let some : 1 ≤ length segments = omega (arith, c.loop-word.segments.ok.0, one) in
    ap (λ (ss : List StepSegment). Some ss) c.new.ensures ∙ sym (no_more segments some)
    ∙ sym (ap (segments_from segments) c.in_default.ensures.words) ∙ c.loop-word.invariant.same
