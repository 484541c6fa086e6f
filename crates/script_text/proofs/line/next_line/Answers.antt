use Rattle.std.proofs.Common.{◌+◌, sym}
use Rattle.std.proofs.lemmas.List.{take_rest}
use Rattle.script_text.proofs.CutLemmas.{parts_at, parts_none}
use Rattle.script_text.proofs.line.next_line.Goals as goal

pub returns-in_err-end-clause-lines : goal.returns-in_err-end-clause-lines
returns-in_err-end-clause-lines c = rw c.from_residual.ensures (parts_none c.args.text.now (sym c.in_err-end.ensures))

-- the line ends before the first line feed, and what is behind that has the other lines
pub returns-clause-lines : goal.returns-clause-lines
returns-clause-lines c =
    let end = c.in_ok-end.end in
    rw (take_rest c.args.text.now (end + 1)) (parts_at c.args.text.now end (sym c.in_ok-end.ensures))
