use Rattle.std.proofs.Common.{◌≤◌, Some, ap, subst, sym, ◌∙◌, arith}
use Rattle.serde_json.specs.Data.{Data, depth}
use Rattle.serde_json.specs.Read.{max_depth, read}
use Rattle.serde_json.specs.Written.{compact_text, has_float}
use Rattle.statement_text.specs.StatementData.{json_of_settled}
use Rattle.statement_text.proofs.Depths.{settled_low}
use Rattle.statement_text.proofs.NoFloats.{settled_whole}
use Rattle.statement_text.proofs.json.settled_compact.Goals as goal

-- the value has no float, so its text is the compact one
pub returns-clause-text : goal.returns-clause-text
unfolding json_of_settled
returns-clause-text c =
    let is = c.in_ok-settled.ensures in
    c.in_ok-text.ensures.text (ap has_float is ∙ settled_whole c.args.settled.now) ∙ ap compact_text is

-- and it is no deeper than a reader goes
pub returns-clause-reads_back : goal.returns-clause-reads_back
unfolding json_of_settled
returns-clause-reads_back c =
    let s = c.args.settled.now in
    let is = c.in_ok-settled.ensures in
    let text = c.in_ok-text.ensures.text (ap has_float is ∙ settled_whole s) ∙ ap compact_text is in
    let low = subst (λ (d : Data). depth d ≤ max_depth) (sym is) (let k = settled_low s in omega arith) in
    ap read (sym text) ∙ c.in_ok-text.ensures.reads_back low ∙ ap Some is
