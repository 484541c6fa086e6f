use Rattle.std.proofs.Common.{IfOk, subst, sym}
use Rattle.tasks.specs.Forms.{IsDoneAs}
use Rattle.tasks.specs.declared.task.Task.{Task}
use Rattle.tasks.proofs.replay.done.Goals as goal

-- the task is a run, and this is printed for it
pub returns-in_ok-text-in-Run-clause-printed : goal.returns-in_ok-text-in-Run-clause-printed
returns-in_ok-text-in-Run-clause-printed g c =
    subst (λ (t : Task). IsDoneAs t c.args.script.now c.in_ok-text-in-Run.field-0.items)
    (sym c.in-Run.is) c.in_ok-text-in-Run.ensures.printed

-- and so for steps
pub returns-in_ok-run_steps-in-Steps-clause-printed : goal.returns-in_ok-run_steps-in-Steps-clause-printed
returns-in_ok-run_steps-in-Steps-clause-printed g c =
    subst (λ (t : Task). IsDoneAs t c.args.script.now c.in_ok-run_steps-in-Steps.field-0.items)
    (sym c.in-Steps.is) c.in_ok-run_steps-in-Steps.ensures.printed

-- and for a run at whose end a worker is lost
pub returns-in_ok-text-in-RunLost-clause-printed : goal.returns-in_ok-text-in-RunLost-clause-printed
returns-in_ok-text-in-RunLost-clause-printed g c =
    subst (λ (t : Task). IsDoneAs t c.args.script.now c.in_ok-text-in-RunLost.field-0.items)
    (sym c.in-RunLost.is) c.in_ok-text-in-RunLost.ensures.printed

-- and for an audit
pub returns-in-Audit-clause-printed : goal.returns-in-Audit-clause-printed
returns-in-Audit-clause-printed g c =
    subst (λ (t : Task). IfOk c.text-in-Audit.result (λ out. IsDoneAs t c.args.script.now out.items))
    (sym c.in-Audit.is) c.text-in-Audit.ensures.printed

-- a replay's snapshots are asked for, and these are printed
pub returns-in_ok-run_replay_snapshot-in-ReplaySnapshot-clause-printed :
    goal.returns-in_ok-run_replay_snapshot-in-ReplaySnapshot-clause-printed
returns-in_ok-run_replay_snapshot-in-ReplaySnapshot-clause-printed g c =
    subst (λ (t : Task). IsDoneAs t c.args.script.now c.in_ok-run_replay_snapshot-in-ReplaySnapshot.field-0.items)
    (sym c.in-ReplaySnapshot.is) c.in_ok-run_replay_snapshot-in-ReplaySnapshot.ensures.printed

-- a run's snapshots are asked for, and these are printed
pub returns-in_ok-run_script_snapshot-in-RunSnapshot-clause-printed :
    goal.returns-in_ok-run_script_snapshot-in-RunSnapshot-clause-printed
returns-in_ok-run_script_snapshot-in-RunSnapshot-clause-printed g c =
    subst (λ (t : Task). IsDoneAs t c.args.script.now c.in_ok-run_script_snapshot-in-RunSnapshot.field-0.items)
    (sym c.in-RunSnapshot.is) c.in_ok-run_script_snapshot-in-RunSnapshot.ensures.printed

-- and for a picture
pub returns-in-Picture-clause-printed : goal.returns-in-Picture-clause-printed
returns-in-Picture-clause-printed g c =
    subst (λ (t : Task). IfOk c.picture.result (λ out. IsDoneAs t c.args.script.now out.items))
    (sym c.in-Picture.is) c.picture.ensures.drawn
