use Rattle.std.proofs.Common.{◌≤◌, ap, subst, sym, ◌∙◌, arith}
use Rattle.serde_json.specs.Data.{Data, depth}
use Rattle.serde_json.specs.Read.{max_depth}
use Rattle.serde_json.specs.Written.{has_float}
use Rattle.audit_text.proofs.WholeData.{faults_low, faults_whole}
use Rattle.audit_text.proofs.json.one_line.Goals as goal

-- no fault has a float
pub compact-requires-clause-whole : goal.compact-requires-clause-whole
compact-requires-clause-whole c =
    ap has_float c.in_ok-value.ensures ∙ faults_whole c.args.stack.now c.args.snapshot.now c.args.faults.now

-- and none nests deep
pub compact-requires-clause-low : goal.compact-requires-clause-low
compact-requires-clause-low c =
    subst (λ (d : Data). depth d ≤ max_depth) (sym c.in_ok-value.ensures)
    (let low = faults_low c.args.stack.now c.args.snapshot.now c.args.faults.now in omega arith)
