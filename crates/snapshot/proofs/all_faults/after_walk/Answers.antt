use Rattle.snapshot.proofs.Told.{told-walked}
use Rattle.snapshot.proofs.all_faults.after_walk.Goals as goal

-- the length word first, and then all other kinds
pub returns : goal.returns
returns c =
    let s = c.args.snapshot.now in
    let first = rw c.new-faults.ensures.items at c.in_ok-note_length.ensures in
    let others = rw c.requires.walk at c.in_ok-note_others.ensures in
    told-walked s c.note_length.new.faults.items c.note_others.new.faults.items c.requires.shape c.requires.ends
    first others
