-- What the worker has is its own on both lists, and what it did leaves the others what they have,
-- and is one more act of the model.
use Rattle.std.proofs.Common.{ℕ, ◌≡◌, ◌-◌, ◌+◌, ◌<◌, [], length, length-set, set, sym, subst, ap, ◌∙◌, rules, arith}
use Rattle.std.proofs.lemmas.List.{get_or_default}
use Rattle.commons.specs.Beside.{KeepsSides}
use Rattle.commons.specs.declared.limits.Limits.{Limits}
use Rattle.commons.specs.Lists.{side_of}
use Rattle.mbuf.specs.Acts.{as_reply}
use Rattle.mbuf.specs.Twins.{OwnTwin}
use Rattle.pool_model.specs.TwinModel.{TwinDone}
use Rattle.share_book.specs.AsModel.{pools_of}
use Rattle.share_book.specs.TwinSites.{TwinLists, twin_at}
use Rattle.share_book.specs.inside.TwinSite.{AreTables, lists_of}
use Rattle.share_book.proofs.TwinMembers.{twins_after}
use Rattle.share_book.proofs.TwinReaching.{twins_further}
use Rattle.share_book.proofs.TwinShown.{performed_twins}
use Rattle.share_book.proofs.twin_site.TwinSite.perform_in.Goals as goal

-- it is a worker of both pools, and what was lent is its own
pub act_alone-requires : goal.act_alone-requires
act_alone-requires g c =
    let s = lists_of c.self.inside in
    let w = c.args.worker in
    let i = c.self.invariant.tables in
    let below : w - 1 < length s.members = omega (arith, c.self.inside.members.ok) in
    let again : w - 1 + 1 ≡ w = omega arith in
    let twin = c.index_mut-twin.ensures.value
    ∙ get_or_default s.members (w - 1) c.index_mut-twin.result.now (twin_at (record s { members = [] }) 0) below in
    let own = rw again at (i.each (w - 1) below).own in
    let lent : OwnTwin c.index_mut-twin.result.now (side_of s.first w) (side_of s.second w) = rw twin own in (
      search rules,
      (
        c.requires.room,
        (omega arith, (omega (arith, below, i.workers), (omega (arith, below, i.workers, i.pools.twins.workers), lent))),
      ),
    )

-- the others keep hand, holds and headers on both lists, the one who acted owns what its calls left
-- it, and what it did is one more act of the model
pub invariant_of-self : goal.invariant_of-self
invariant_of-self g c =
    let s = lists_of c.self.inside in
    let t : TwinLists = record { first = c.act_alone.new.first; second = c.act_alone.new.second; members = [] } in
    let w = c.args.worker in
    let m = c.act_alone.new.twin in
    let i = c.self.invariant.tables in
    let e = c.act_alone.ensures in
    let nobody = twin_at (record s { members = [] }) 0 in
    let below : w - 1 < length s.members = omega (arith, c.self.inside.members.ok) in
    let up : w ≡ w - 1 + 1 = omega arith in
    let twin = c.index_mut-twin.ensures.value
    ∙ get_or_default s.members (w - 1) c.index_mut-twin.result.now nobody below in
    let tables : AreTables (record t { members = set s.members (w - 1) m }) = record {
      pools = rw (e.first_sides.limits, e.second_sides.limits) i.pools;
      first = e.first_sides.table;
      second = e.second_sides.table;
      workers =
          length-set s.members (w - 1) m ∙ i.workers
          ∙ sym (ap (λ (l : Limits). l.workers) e.first_sides.limits);
      each =
          twins_after s.first s.second t.first t.second s.members (w - 1) m nobody (twin_at t 0) below i.each
          (subst (λ (x : ℕ). KeepsSides x s.first t.first) up e.first_sides)
          (subst (λ (x : ℕ). KeepsSides x s.second t.second) up e.second_sides)
          (rw twin at e.member)
          (subst (λ (x : ℕ). OwnTwin m (side_of t.first x) (side_of t.second x)) up e.own);
    } in
    let modelled =
    performed_twins s w c.args.act (as_reply c.act_alone.result) m t.first t.second i (omega arith) (omega (arith, below))
    e.first_sides.limits e.second_sides.limits (rw twin at e.acts) in
    record {
      tables = tables;
      reached =
          twins_further (pools_of s) (pools_of (record t { members = set s.members (w - 1) m })) w c.args.act
          c.self.invariant.reached (ap (λ (d : TwinDone). d.1) modelled) e.first_sides.limits e.second_sides.limits;
    }

-- calls and answer are the model's act
pub returns-clause-modelled : goal.returns-clause-modelled
returns-clause-modelled g c =
    let s = lists_of c.self.inside in
    let w = c.args.worker in
    let e = c.act_alone.ensures in
    let nobody = twin_at (record s { members = [] }) 0 in
    let below : w - 1 < length s.members = omega (arith, c.self.inside.members.ok) in
    let twin = c.index_mut-twin.ensures.value
    ∙ get_or_default s.members (w - 1) c.index_mut-twin.result.now nobody below in
    rw (sym c.self.view_is)
    (performed_twins s w c.args.act (as_reply c.act_alone.result) c.act_alone.new.twin c.act_alone.new.first
    c.act_alone.new.second c.self.invariant.tables (omega arith) (omega (arith, below)) e.first_sides.limits
    e.second_sides.limits (rw twin at e.acts))
