use Rattle.std.proofs.Common.{◌≡◌, ◌<◌, ◌+◌, [], ℕ, length, map, take, get_or, set}
use Rattle.commons.specs.Bag.{bag}
use Rattle.commons.specs.declared.packet.Seg.{Seg}
use Rattle.mempool.specs.WorkerCache.{KeepsNumber}
use Rattle.commons.specs.Packets.{holds_of_packet}
use Rattle.mbuf.proofs.CloneLemmas.{ClonedSo}
use Rattle.mbuf.proofs.clones.clone_within.Given as goal

-- the segments so far are cloned, and what isn't cloned yet stands where it stood
abbrev pub invariant-loop-index : goal.invariant-loop-index
invariant-loop-index g l = record {
  cloned : ClonedSo g.C.Commons.did g.C.Commons.side l.fn.c l.c l.fn.worker.limits
      (take l.index (get_or l.fn.packets l.source [])) l.fn.worker.cache
      (take l.index (get_or l.packets l.slot [])) l.worker.cache;
  packets : l.packets ≡ set l.fn.packets l.slot (get_or l.packets l.slot []);
  len : length (get_or l.packets l.slot []) ≡ l.count;
  hand : (i : ℕ) → (g.C.Commons.side l.c).hand i ≡ bag l.worker.cache i;
  holds : (i : ℕ) → (g.C.Commons.side l.c).holds i
      ≡ (g.C.Commons.side l.fn.c).holds i
      + bag (holds_of_packet (take l.index (get_or l.packets l.slot []))) i;
  headers : (i : ℕ) → (g.C.Commons.side l.c).headers i
      ≡ (g.C.Commons.side l.fn.c).headers i
      + bag (map (λ (seg : Seg). seg.elem) (take l.index (get_or l.packets l.slot []))) i;
  unheld : (i : ℕ) →
      0 < bag (map (λ (seg : Seg). seg.elem) (take l.index (get_or l.packets l.slot []))) i →
      (g.C.Commons.side l.fn.c).holds i ≡ 0;
  limits : (g.C.Commons.side l.c).limits ≡ (g.C.Commons.side l.fn.c).limits;
  number : KeepsNumber l.fn.worker l.worker;
}
