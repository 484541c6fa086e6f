use Rattle.std.proofs.Common.{◌+◌, ◌*◌}
use Rattle.snapshot_json.proofs.flaws.+value.Given as goal

abbrev pub decreases-value : goal.decreases-value
decreases-value l = 2 * l.depth

abbrev pub decreases-object : goal.decreases-object
decreases-object l = 2 * l.depth + 1

abbrev pub decreases-list : goal.decreases-list
decreases-list l = 2 * l.depth + 1
