use Rattle.std.proofs.Common.{◌≡◌, ◌<◌, ◌+◌, ℕ, length, take}
use Rattle.commons.specs.Bag.{bag}
use Rattle.commons.specs.Packets.{own_of_packet}
use Rattle.mempool.specs.WorkerCache.{KeepsNumber}
use Rattle.mbuf.specs.Foreign.{BothCalls, ClonesForeign, bases_of_packet}
use Rattle.mbuf.proofs.clones.foreign.clone_segs.Given as goal

-- the segments so far are cloned
abbrev pub invariant-loop-index : goal.invariant-loop-index
invariant-loop-index g l = record {
  cloned : BothCalls g.C.Commons.did g.C.Commons.side l.fn.c l.c g.D.Commons.did g.D.Commons.side l.fn.d l.d
      (λ firsts seconds. ClonesForeign l.fn.second.limits (take l.index l.segs) l.fn.second.cache firsts seconds
      (take l.index l.packet) l.second.cache);
  first : l.first ≡ l.fn.first;
  len : length l.packet ≡ length l.segs;
  first_hand : (i : ℕ) → (g.C.Commons.side l.c).hand i ≡ (g.C.Commons.side l.fn.c).hand i;
  first_holds : (i : ℕ) → (g.C.Commons.side l.c).holds i
      ≡ (g.C.Commons.side l.fn.c).holds i + bag (bases_of_packet (take l.index l.packet)) i;
  first_headers : (i : ℕ) → (g.C.Commons.side l.c).headers i ≡ (g.C.Commons.side l.fn.c).headers i;
  first_limits : (g.C.Commons.side l.c).limits ≡ (g.C.Commons.side l.fn.c).limits;
  second_hand : (i : ℕ) → (g.D.Commons.side l.d).hand i ≡ bag l.second.cache i;
  second_holds : (i : ℕ) → (g.D.Commons.side l.d).holds i
      ≡ (g.D.Commons.side l.fn.d).holds i + bag (own_of_packet (take l.index l.packet)) i;
  second_headers : (i : ℕ) → (g.D.Commons.side l.d).headers i
      ≡ (g.D.Commons.side l.fn.d).headers i + bag (own_of_packet (take l.index l.packet)) i;
  unheld : (i : ℕ) → 0 < bag (own_of_packet (take l.index l.packet)) i → (g.D.Commons.side l.fn.d).holds i ≡ 0;
  second_limits : (g.D.Commons.side l.d).limits ≡ (g.D.Commons.side l.fn.d).limits;
  second_number : KeepsNumber l.fn.second l.second;
}
