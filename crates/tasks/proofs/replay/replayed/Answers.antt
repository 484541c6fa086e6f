use Rattle.std.proofs.Common.{IfOk, subst, sym}
use Rattle.tasks.specs.Forms.{IsPrintedAs}
use Rattle.tasks.specs.declared.task.Form.{Form}
use Rattle.tasks.proofs.replay.replayed.Goals as goal

-- the form is text, and this is printed in it
pub returns-in-Text-clause-printed : goal.returns-in-Text-clause-printed
returns-in-Text-clause-printed c =
    subst (λ (f : Form). IfOk c.run_replay.result (λ out. IsPrintedAs f c.args.script.now out.items))
    (sym c.in-Text.is) c.run_replay.ensures.printed

-- and so for JSON
pub returns-in-Json-clause-printed : goal.returns-in-Json-clause-printed
returns-in-Json-clause-printed c =
    subst (λ (f : Form). IfOk c.run_replay_json.result (λ out. IsPrintedAs f c.args.script.now out.items))
    (sym c.in-Json.is) c.run_replay_json.ensures.printed
