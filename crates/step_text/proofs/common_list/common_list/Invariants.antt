use Rattle.std.proofs.Common.{◌≡◌, ℕ, ◌-◌, length}
use Rattle.step_text.proofs.CommonLemmas.{Followed}
use Rattle.step_text.proofs.common_list.common_list.Given as goal

-- how many elements are left at most
abbrev pub decreases-loop-next : goal.decreases-loop-next
decreases-loop-next l = length l.links - length l.list.items

abbrev pub invariant-loop-next : goal.invariant-loop-next
invariant-loop-next l = record {
  followed : Followed l.world l.list.items l.next;
  links : l.links ≡ l.world.links;
}
