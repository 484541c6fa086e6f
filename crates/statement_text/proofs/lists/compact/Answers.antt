use Rattle.std.proofs.Common.{◌≤◌, Some, ap, subst, sym, ◌∙◌, arith}
use Rattle.serde_json.specs.Data.{Data, depth}
use Rattle.serde_json.specs.Read.{max_depth, read}
use Rattle.serde_json.specs.Written.{compact_text, has_float}
use Rattle.statement_text.specs.StatementData.{numbers_of}
use Rattle.statement_text.proofs.Depths.{counts_low}
use Rattle.statement_text.proofs.NoFloats.{counts_whole}
use Rattle.statement_text.proofs.lists.compact.Goals as goal

-- the value has no float, so its text is the compact one
pub returns-clause-text : goal.returns-clause-text
unfolding numbers_of
returns-clause-text c =
    let is = c.in_ok-numbers.ensures in
    c.in_ok-text.ensures.text (ap has_float is ∙ counts_whole c.args.numbers.now) ∙ ap compact_text is

-- and it is no deeper than a reader goes
pub returns-clause-reads_back : goal.returns-clause-reads_back
unfolding numbers_of
returns-clause-reads_back c =
    let ns = c.args.numbers.now in
    let is = c.in_ok-numbers.ensures in
    let text = c.in_ok-text.ensures.text (ap has_float is ∙ counts_whole ns) ∙ ap compact_text is in
    let low = subst (λ (d : Data). depth d ≤ max_depth) (sym is) (let k = counts_low ns in omega arith) in
    ap read (sym text) ∙ c.in_ok-text.ensures.reads_back low ∙ ap Some is
