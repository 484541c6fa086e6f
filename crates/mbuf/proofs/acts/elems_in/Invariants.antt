use Rattle.std.proofs.Common.{◌≡◌, map, take}
use Rattle.commons.specs.declared.packet.Seg.{Seg}
use Rattle.mbuf.proofs.acts.elems_in.Given as goal

-- the elements of the segments so far
abbrev pub invariant-loop-seg : goal.invariant-loop-seg
invariant-loop-seg l = l.elems.items ≡ map (λ (seg : Seg). seg.elem) (take l.seg-index l.seg-items)
