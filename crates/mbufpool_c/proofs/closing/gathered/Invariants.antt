use Rattle.std.proofs.Common.{◌≡◌, ◌-◌, All, reverse}
use Rattle.mbufpool_c.specs.inside.Shared.{AreAbove}
use Rattle.mbufpool_c.proofs.closing.gathered.Given as goal

-- those whose entries were passed are there, or missing
abbrev pub invariant-loop-k : goal.invariant-loop-k
invariant-loop-k l = record {
  entries : All (λ tag. tag ≡ l.ground) l.entries.items;
  above : AreAbove l.ground (l.count - l.k) (reverse l.workers.items) l.missing.items;
  all : l.count ≡ l.ground.limits.workers;
}
