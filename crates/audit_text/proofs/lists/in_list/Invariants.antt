use Rattle.std.proofs.Common.{◌≡◌, ◌++◌, drop}
use Rattle.audit_text.specs.Places.{free_from}
use Rattle.audit_text.proofs.lists.in_list.Given as goal

-- the places so far, with those in the rest of the list, are all
abbrev pub invariant-loop-index : goal.invariant-loop-index
invariant-loop-index l =
    l.out.items ++ free_from l.list l.elem l.index (drop l.index l.elems)
    ≡ l.fn.out.items ++ free_from l.list l.elem 0 l.elems
