use Rattle.std.proofs.Common.{ap, ◌∙◌, sym, Option, Some, None}
use Rattle.std.specs.Prelude.{option_and_then, option_map}
use Rattle.std.proofs.lemmas.Result.{err_from_is_err_and, MatchResult-weaker}
use Rattle.script_text.specs.inside.ScriptReading.{with_numbers, are_ready}
use Rattle.script_text.specs.declared.lines.Pools.{Pools}
use Rattle.script_text.specs.PoolLine.{numbers_of_pools}
use Rattle.script_text.specs.inside.Agreement.{state_of}
use Rattle.script_text.proofs.JudgedLemmas.{read_not_plain, read_skipped, read_as, judged_ok, judged_fault, stops_command, stops_pool}
use Rattle.script_text.proofs.reader.Reader.read_line.Goals as goal

-- a line that isn't plain has no reading, so it is a fault
pub returns-then-not-is_plain-clause-read : goal.returns-then-not-is_plain-clause-read
returns-then-not-is_plain-clause-read g c =
    let s = state_of c.args.self.now in
    judged_fault g.C.FromWords.lexicon s c.args.number c.args.line.now (read_not_plain g.C.FromWords.lexicon s c.args.number c.args.line.now
    (sym c.is_plain.ensures ∙ c.if-not-is_plain.true))

-- a skipped line tells nothing, and what was told is still a pool's
pub returns-then-is_skipped-clause-read : goal.returns-then-is_skipped-clause-read
returns-then-is_skipped-clause-read g c =
    let s = state_of c.args.self.now in
    judged_ok g.C.FromWords.lexicon s s c.args.number c.args.line.now (read_skipped g.C.FromWords.lexicon s c.args.number c.args.line.now
    (sym c.is_plain.ensures ∙ c.if-not-is_plain.false)
    (sym c.is_skipped.ensures ∙ c.if-is_skipped.true)) c.requires.ready

-- with no pools told the line has to be the pool line, and what stops that stops it
pub returns-in_err-made_pools-in-None-clause-read : goal.returns-in_err-made_pools-in-None-clause-read
returns-in_err-made_pools-in-None-clause-read g c =
    let s = state_of c.args.self.now in
    let p = err_from_is_err_and c.from_residual.result c.from_residual.ensures.1 in
    let read =
    read_as g.C.FromWords.lexicon s c.args.number c.args.line.now None
    (sym c.is_plain.ensures ∙ c.if-not-is_plain.false)
    (sym c.is_skipped.ensures ∙ c.if-is_skipped.false) (ap (option_map numbers_of_pools) c.in-None.is) in
    rw (p.1, p.2) (stops_pool g.C.FromWords.lexicon c.in_err-made_pools-in-None.field-0.0 s c.args.number c.args.line.now
    read (rw c.knows_second.ensures at c.in_err-made_pools-in-None.ensures))

-- with no pools told the line is the pool line, and its pools are a pool's
pub returns-in_ok-made_pools-in-None-clause-read : goal.returns-in_ok-made_pools-in-None-clause-read
returns-in_ok-made_pools-in-None-clause-read g c =
    let s = state_of c.args.self.now in
    let pools = c.in_ok-made_pools-in-None.field-0 in
    let read =
    read_as g.C.FromWords.lexicon s c.args.number c.args.line.now None
    (sym c.is_plain.ensures ∙ c.if-not-is_plain.false)
    (sym c.is_skipped.ensures ∙ c.if-is_skipped.false) (ap (option_map numbers_of_pools) c.in-None.is) in
    judged_ok g.C.FromWords.lexicon s (with_numbers s (numbers_of_pools pools)) c.args.number c.args.line.now (read
    ∙ ap (option_and_then (λ n. Some (with_numbers s n)))
    (rw c.knows_second.ensures at c.in_ok-made_pools-in-None.ensures.0))
    c.in_ok-made_pools-in-None.ensures.1

-- behind the pool line the line is a command, or what stops that stops it
pub returns-in-Some-clause-read : goal.returns-in-Some-clause-read
returns-in-Some-clause-read g c =
    let s = state_of c.args.self.now in
    let next = state_of c.read_command.new.self in
    let n = c.args.number in
    let line = c.args.line.now in
    let read =
    read_as g.C.FromWords.lexicon s n line (Some (numbers_of_pools c.in-Some.pools))
    (sym c.is_plain.ensures ∙ c.if-not-is_plain.false)
    (sym c.is_skipped.ensures ∙ c.if-is_skipped.false) (ap (option_map numbers_of_pools) c.in-Some.is) in
    MatchResult-weaker c.read_command.result c.read_command.ensures.read
    (λ x h. judged_ok g.C.FromWords.lexicon s next n line (read ∙ h)
    (ap (λ (o : Option Pools). are_ready (option_map numbers_of_pools o)) c.read_command.ensures.pools
    ∙ c.requires.ready))
    (λ stop h. stops_command g.C.FromWords.lexicon stop s n line _ read h)
