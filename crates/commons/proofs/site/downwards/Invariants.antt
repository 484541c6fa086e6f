use Rattle.std.proofs.Common.{◌≡◌, ◌-◌, reverse, vec_len}
use Rattle.std.specs.List.{range_with_len}
use Rattle.commons.proofs.site.downwards.Given as goal

-- so many numbers from the top down are listed, the least last
abbrev pub invariant-loop-i : goal.invariant-loop-i
invariant-loop-i l = record {
  so_far : reverse l.numbers.items ≡ range_with_len (l.count - l.i) l.i;
  len : vec_len l.numbers ≡ l.i;
}
