use Rattle.std.proofs.Common.{inl, inr}
use Rattle.snapshot.proofs.Told.{told-broken}
use Rattle.snapshot.proofs.all_faults.after_break.Goals as goal

-- why the walk has no end first, and then all other kinds
pub returns-in_ok-note_others-in_default : goal.returns-in_ok-note_others-in_default
returns-in_ok-note_others-in_default c =
    let s = c.args.snapshot.now in
    let others = rw c.in_ok-faults-in_default.ensures at c.in_ok-note_others-in_default.ensures in
    elim c.requires.broken [
      | inl memory ↦ absurd (c.in_default.not-OutOfMemory memory)
      | inr why ↦ told-broken s c.args.fault c.note_others.new.faults.items c.requires.shape why others
    ]
