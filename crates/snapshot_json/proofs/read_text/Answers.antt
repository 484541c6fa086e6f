use Rattle.std.proofs.Common.{arith}
use Rattle.snapshot_json.proofs.read_text.Goals as goal

-- a text of a snapshot isn't too long
pub returns-then-bytes-gt-MAX_BYTES-clause-none : goal.returns-then-bytes-gt-MAX_BYTES-clause-none
returns-then-bytes-gt-MAX_BYTES-clause-none c = λ other s fits is. omega (arith, c.if-bytes-gt-MAX_BYTES.true, is.size)
