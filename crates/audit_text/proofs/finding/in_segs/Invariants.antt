use Rattle.std.proofs.Common.{◌≡◌, ◌++◌, drop}
use Rattle.audit_text.specs.Places.{segs_from}
use Rattle.audit_text.proofs.finding.in_segs.Given as goal

-- the places so far, with those in the segments to come, are all
abbrev pub invariant-loop-k : goal.invariant-loop-k
invariant-loop-k l =
    l.out.items ++ segs_from l.bases l.elem l.table l.index l.k (drop l.k l.segs)
    ≡ l.fn.out.items ++ segs_from l.bases l.elem l.table l.index 0 l.segs
