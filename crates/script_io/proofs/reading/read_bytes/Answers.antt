use Rattle.std.proofs.Common.{rules}
use Rattle.script_io.proofs.PieceLemmas.{lost_with, read_further, read_up_to, read_whole}
use Rattle.script_io.proofs.reading.read_bytes.Goals as goal

-- memory was refused for bytes that are lost with those before them
pub returns-in_err-count-clause-memory : goal.returns-in_err-count-clause-memory
returns-in_err-count-clause-memory g c refused =
    lost_with _ _ _ _ c.loop-r.invariant.taken (c.in_err-count.ensures.memory (search rules))

-- the reader is at its end
pub returns-then-count-eq0-clause-bytes : goal.returns-then-count-eq0-clause-bytes
returns-then-count-eq0-clause-bytes g c =
    let more = c.in_ok-count.ensures.more in
    read_whole _ _ _ c.args.limit (read_further _ _ _ _ _ _ c.loop-r.invariant.taken more) (more.end c.if-count-eq0.true) (search rules)

-- as many bytes were read as are read at most
pub returns-clause-bytes : goal.returns-clause-bytes
returns-clause-bytes g c = read_up_to _ _ _ c.args.limit c.loop-r.invariant.taken (search rules)
