use Rattle.std.proofs.Common.{refl}
use Rattle.snapshot.proofs.Told.{told-listed}
use Rattle.snapshot.proofs.all_faults.all_faults_on.Goals as goal

-- all kinds but those of words
pub returns : goal.returns
returns c =
    let others = rw c.new-faults.ensures.items at c.in_ok-note_others.ensures in
    told-listed c.args.stack.now c.args.snapshot.now c.note_others.new.faults.items (c.if-not-has_shape.ensures.0 refl) others
