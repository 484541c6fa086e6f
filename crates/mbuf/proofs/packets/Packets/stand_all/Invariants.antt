use Rattle.std.proofs.Common.{◌≡◌, ℕ, ◌+◌, map, take}
use Rattle.commons.specs.Bag.{bag}
use Rattle.commons.specs.Calls.{Claim, Calls}
use Rattle.mbuf.proofs.FreeLemmas.{StoodSo}
use Rattle.mbuf.proofs.packets.Packets.stand_all.Given as goal

-- the packets of the elements so far stand
abbrev pub invariant-loop-place : goal.invariant-loop-place
invariant-loop-place g l = record {
  so_far : StoodSo l.fn.out l.fn.self l.place l.out l.self;
  calls : Calls g.C.Commons.did g.C.Commons.side l.fn.c l.c (λ calls. calls ≡ map Claim (take l.place l.fn.out));
  hand : (i : ℕ) → (g.C.Commons.side l.fn.c).hand i ≡ (g.C.Commons.side l.c).hand i + bag (take l.place l.fn.out) i;
  holds : (i : ℕ) → (g.C.Commons.side l.c).holds i ≡ (g.C.Commons.side l.fn.c).holds i + bag (take l.place l.fn.out) i;
  headers : (i : ℕ) → (g.C.Commons.side l.c).headers i
      ≡ (g.C.Commons.side l.fn.c).headers i + bag (take l.place l.fn.out) i;
  limits : (g.C.Commons.side l.c).limits ≡ (g.C.Commons.side l.fn.c).limits;
}
