use Rattle.std.proofs.Common.{◌≡◌, ◌-◌, map}
use Rattle.std.specs.List.{range_with_len}
use Rattle.share_book.specs.TwinSites.{new_twin}
use Rattle.share_book.proofs.twin_site.no_twins.Given as goal

-- the workers so far
abbrev pub invariant-loop-number : goal.invariant-loop-number
invariant-loop-number l = l.members.items ≡ map (new_twin l.first l.second) (range_with_len 1 (l.number - 1))
