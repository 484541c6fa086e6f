use Rattle.std.proofs.Common.{refl, sym, ◌∙◌}
use Rattle.json.specs.Value.{value_view}
use Rattle.snapshot_json.proofs.Dumps.{null_is}
use Rattle.snapshot_json.proofs.dumped.OptionSeqSegDumped.read.Goals as goal

pub returns-then-is_null : goal.returns-then-is_null
returns-then-is_null c = rw (null_is (value_view c.args.value.now) (sym c.is_null.ensures ∙ c.if-is_null.true)) refl
