use Rattle.std.proofs.Common.{sym, ap, ◌∙◌, arith}
use Rattle.script_text.specs.inside.Reading.{Parts, parts}
use Rattle.script_reasons.specs.Walks.{first_from}
use Rattle.script_reasons.proofs.WrittenLemmas as lemmas
use Rattle.script_reasons.proofs.walking.first_written.Goals as goal

-- the line isn't skipped, and each line before it was
pub returns-then-not-is_skipped : goal.returns-then-not-is_skipped
returns-then-not-is_skipped c =
    let n = c.loop-line.number in
    let line = c.in-Some.line.now in
    sym c.loop-line.invariant.same ∙ ap (λ (p : Parts). first_from n p.lines) c.in-Some.ensures.lines
    ∙ lemmas.first_written n line (parts c.in-Some.after.now).lines
    (sym c.is_skipped.ensures ∙ c.if-not-is_skipped.true)

-- one line more is skipped, and what is left has the line that is sought
pub loop-line-preserved : goal.loop-line-preserved
loop-line-preserved c =
    let n = c.loop-line.number in
    let line = c.in-Some.line.now in
    record {
      counted = omega (arith, c.in-Some.ensures.shorter, c.loop-line.invariant.counted);
      same =
          sym (ap (λ (p : Parts). first_from n p.lines) c.in-Some.ensures.lines
          ∙ lemmas.first_skipped n line (parts c.in-Some.after.now).lines
          (sym c.is_skipped.ensures ∙ c.if-not-is_skipped.false))
          ∙ c.loop-line.invariant.same;
    }

-- no line is left
pub returns : goal.returns
returns c =
    sym c.loop-line.invariant.same
    ∙ ap (λ (p : Parts). first_from c.loop-line.number p.lines) c.in_default.ensures.lines
    ∙ lemmas.first_none c.loop-line.number
