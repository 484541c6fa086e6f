use Rattle.std.proofs.lemmas.List.{length-take}
use Rattle.mbuf.specs.Acts.{HasRoom, as_reply}
use Rattle.mbuf.specs.inside.Acting.{Acted}
use Rattle.mbuf.specs.Members.{slots}
use Rattle.mbuf.specs.declared.acts.Act.TheVariants.{AllocBulk}
use Rattle.std.proofs.Common.{ℕ, ◌≡◌, ◌≤◌, [], Err, length, take, replicate, subst, refl, sym, rules, arith}
use Rattle.commons.specs.declared.refusal.Refusal.TheVariants.{PacketsFull}
use Rattle.mbuf.specs.PacketRules.{TooFull}
use Rattle.mbuf.proofs.FreeLemmas.{free_within}
use Rattle.mbuf.proofs.FreshLemmas.{fresh_none}
use Rattle.mbuf.proofs.acts.alloc_bulk.Goals as goal

-- More are asked for than there are slots, so fewer are free, and nothing is asked.
pub returns-then-count-gt-SLOTS : goal.returns-then-count-gt-SLOTS
returns-then-count-gt-SLOTS g c =
    let few = free_within 0 c.args.packets.now.table in
    record {
      calls = (
        [],
        refl,
        (
          Err PacketsFull,
          TooFull (omega (arith, few, c.has_slots.ensures, c.if-count-gt-SLOTS.true)) refl refl refl,
          refl,
        ),
      );
      fresh = fresh_none _ _;
      own = search rules;
      guests = search rules;
      refused = search rules;
    }

-- as many places are lent as are asked for
lent : (count : ℕ) → count ≤ slots → length (take count (replicate {A = ℕ} slots 0)) ≡ count
lent count few = omega (arith, length-take count (replicate {A = ℕ} slots 0), few)

-- As many places are lent as are asked for, so the bulk is that of the act.
pub returns : goal.returns
returns g c =
    subst (λ (n : ℕ). Acted g.C.Commons.did g.C.Commons.side (AllocBulk n) c.args.packets.now c.args.c.now
    (as_reply c.alloc_all.result) c.alloc_all.new.packets c.alloc_all.new.c)
    (lent c.args.count c.if-count-gt-SLOTS.false) c.alloc_all.ensures

-- As many places are lent as are asked for, which are no more than the slots.
pub alloc_all-requires : goal.alloc_all-requires
alloc_all-requires g c =
    let lent = lent c.args.count c.if-count-gt-SLOTS.false in (
      search rules,
      (
        c.requires.own,
        (
          omega (arith, lent, c.if-count-gt-SLOTS.false),
          subst (λ (n : ℕ). HasRoom g.row.ROOM (AllocBulk n)) (sym lent) c.requires.room,
        ),
      ),
    )
