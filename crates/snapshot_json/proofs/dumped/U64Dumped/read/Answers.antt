use Rattle.std.proofs.Common.{Some, ap, sym, ◌∙◌}
use Rattle.snapshot_json.proofs.Dumps.{count_read}
use Rattle.snapshot_json.proofs.dumped.U64Dumped.read.Goals as goal

-- the digits are the number's
pub returns-then-is_written : goal.returns-then-is_written
returns-then-is_written c =
    let so = c.is_written.ensures c.if-is_written.true in
    count_read _ _ so.0 (sym c.in_ok-digits.ensures ∙ ap Some so.1)
