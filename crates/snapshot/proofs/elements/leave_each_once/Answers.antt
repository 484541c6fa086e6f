use Rattle.std.proofs.Common.{eqb}
use Rattle.std.proofs.lemmas.List.Filters.{dedup_is}
use Rattle.snapshot.proofs.Gathered.{set-of}
use Rattle.snapshot.proofs.elements.leave_each_once.Goals as goal

-- sorted first, and then without repeats
pub returns : goal.returns
returns c =
    let sorted = c.sort.new.self.items in
    set-of c.args.elems.now.items sorted c.dedup.new.self.items c.in_ok-sort.ensures.permutation
    c.in_ok-sort.ensures.sorted (dedup_is eqb sorted c.dedup.new.self.items c.dedup.ensures.filtered)
