use Rattle.std.proofs.Common.{◌≤◌, ap, subst, sym, ◌∙◌, arith}
use Rattle.serde_json.specs.Data.{Data, depth}
use Rattle.serde_json.specs.Read.{max_depth}
use Rattle.serde_json.specs.Written.{has_float}
use Rattle.audit_text.specs.FaultData.{faults_data}
use Rattle.audit_text.proofs.WholeData.{faults_low, faults_whole, two_low, two_whole}
use Rattle.audit_text.proofs.json.two_lines.Goals as goal

-- no fault of either has a float
pub compact-requires-clause-whole : goal.compact-requires-clause-whole
compact-requires-clause-whole c =
    ap has_float c.in_ok-value.ensures
    ∙ two_whole (faults_data c.args.first_stack.now c.args.first.now c.args.first_faults.now)
    (faults_data c.args.second_stack.now c.args.second.now c.args.second_faults.now)
    (faults_whole c.args.first_stack.now c.args.first.now c.args.first_faults.now)
    (faults_whole c.args.second_stack.now c.args.second.now c.args.second_faults.now)

-- and none nests deep
pub compact-requires-clause-low : goal.compact-requires-clause-low
compact-requires-clause-low c =
    subst (λ (d : Data). depth d ≤ max_depth) (sym c.in_ok-value.ensures)
    (let low = two_low (faults_data c.args.first_stack.now c.args.first.now c.args.first_faults.now)
    (faults_data c.args.second_stack.now c.args.second.now c.args.second_faults.now)
    (faults_low c.args.first_stack.now c.args.first.now c.args.first_faults.now)
    (faults_low c.args.second_stack.now c.args.second.now c.args.second_faults.now) in omega arith)
