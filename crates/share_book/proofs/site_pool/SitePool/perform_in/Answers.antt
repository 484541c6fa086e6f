-- What the worker did is what the model does, so acts reach the pool, and its workers keep their
-- numbers.
use Rattle.std.proofs.Common.{◌≡◌, ◌-◌, ◌+◌, ◌<◌, length, length-set, set, sym, subst, ap, ◌∙◌, arith}
use Rattle.commons.specs.declared.limits.Limits.{Limits}
use Rattle.std.proofs.lemmas.List.{get_or_default}
use Rattle.mbuf.specs.Acts.{Reply, as_reply}
use Rattle.mbuf.specs.Fresh.{new_elements}
use Rattle.pool_model.specs.Pool.{Pool, nobody}
use Rattle.pool_model.specs.Standing.{GaveOnly}
use Rattle.share_book.specs.inside.SitePool.{pool_with}
use Rattle.share_book.proofs.Members.{members_after, performed}
use Rattle.share_book.proofs.Reaching.{fresh_reached, gave_nothing, none_fresh, reached_further, reached_numbered, refused_reached, unchanged}
use Rattle.share_book.proofs.site_pool.SitePool.perform_in.Goals as goal

-- the others keep hand, holds and headers, the one who acted owns what its calls left it,
-- and what it did is one more act of the model.
pub invariant_of-self : goal.invariant_of-self
invariant_of-self g c =
    let s = c.self.inside.site in
    let t = c.act_alone.new.site in
    let members = c.self.inside.members.items in
    let w = c.args.worker in
    let m = c.act_alone.new.packets in
    let limits = c.act_alone.ensures.sides.limits in
    let n : w ≡ w - 1 + 1 = omega arith in
    let below : w - 1 < length members = omega (arith, c.self.inside.members.ok) in
    let packets = c.index_mut-packets.ensures.value ∙ get_or_default members (w - 1) c.index_mut-packets.result.now (nobody s.limits) below in
    let did = c.act_alone.ensures.calls in
    let modelled = performed s t members w c.args.act did.0 (as_reply c.act_alone.result) m c.self.invariant.table c.self.invariant.workers c.self.invariant.each (omega arith) (omega (arith, c.self.inside.members.ok)) limits (rw packets at did.2) did.1 in
    let after = pool_with t (set members (w - 1) m) in
    let reached = reached_further (pool_with s members) after w c.args.act c.self.invariant.reached (ap (λ (d : Reply × Pool). d.1) modelled) limits in
    record {
      table = c.act_alone.ensures.sides.table;
      workers = length-set members (w - 1) m ∙ c.self.invariant.workers ∙ sym (ap (λ (l : Limits). l.workers) limits);
      each = members_after s t members (w - 1) w m n below c.self.invariant.workers c.self.invariant.each c.act_alone.ensures.sides (reached_numbered after reached).numbers c.act_alone.ensures.own;
      reached = reached;
    }

-- calls and answer are the model's act, so the laws of the model's acts are laws of this one
pub returns : goal.returns
returns g c =
    let s = c.self.inside.site in
    let members = c.self.inside.members.items in
    let w = c.args.worker in
    let below : w - 1 < length members = omega (arith, c.self.inside.members.ok) in
    let packets = c.index_mut-packets.ensures.value ∙ get_or_default members (w - 1) c.index_mut-packets.result.now (nobody s.limits) below in
    let did = c.act_alone.ensures.calls in
    let modelled = performed s c.act_alone.new.site members w c.args.act did.0 (as_reply c.act_alone.result) c.act_alone.new.packets c.self.invariant.table c.self.invariant.workers c.self.invariant.each (omega arith) (omega (arith, c.self.inside.members.ok)) c.act_alone.ensures.sides.limits (rw packets at did.2) did.1 in
    let law = c.no_element_is_given_while_it_is_held.ensures in
    rw (sym c.self.view_is) (record {
      done = modelled;
      fresh = fresh_reached (pool_with s members) w c.args.act _ c.self.invariant.reached modelled law.fresh;
      own = subst (λ (done : Reply × Pool). GaveOnly (new_elements done.0) (pool_with s members) done.1) (sym modelled) (law.own (pool_with s members) w c.args.act);
      refused = refused_reached (pool_with s members) w c.args.act _ c.self.invariant.reached modelled c.a_refused_act_changes_nothing.ensures.same c.a_refused_act_changes_nothing.ensures.clone;
    })

pub returns-then-worker-eq0-clause-fresh : goal.returns-then-worker-eq0-clause-fresh
returns-then-worker-eq0-clause-fresh g c = none_fresh _ _

pub returns-then-worker-eq0-clause-own : goal.returns-then-worker-eq0-clause-own
returns-then-worker-eq0-clause-own g c = gave_nothing _

pub returns-then-worker-eq0-clause-refused : goal.returns-then-worker-eq0-clause-refused
returns-then-worker-eq0-clause-refused g c = unchanged c.args.worker c.args.act _
