-- An answer with room for any bulk is the reply itself.
use Rattle.std.proofs.Common.{◌≡◌, subst, rules}
use Rattle.mbuf.specs.Acts.{Reply}
use Rattle.mbuf.specs.Fresh.{AreFresh, new_elements}
use Rattle.mbuf.specs.Refused.{IfRefused}
use Rattle.mbuf.proofs.ActLemmas.{any_room, as_reply-same}
use Rattle.pool_model.specs.Pool.{Pool, held_of}
use Rattle.pool_model.specs.PacketModel.{perform as performed}
use Rattle.pool_model.specs.Standing.{GaveOnly, PoolAsBefore}
use Rattle.share_book.proofs.site_pool.SitePool.perform.Goals as goal

pub perform_in-requires : goal.perform_in-requires
perform_in-requires c = (search rules, any_room c.args.act)

-- the reply is the answer of `perform_in`, which is the model's
pub returns-clause-done : goal.returns-clause-done
returns-clause-done c =
    let told = λ (r : Reply). ◌≡◌ {A = Reply × Pool} (r, c.perform_in.new.self) (performed c.args.self.now c.args.worker c.args.act) in
    subst told (as_reply-same c.perform_in.result) c.perform_in.ensures.done

-- the elements told of as new are those of that answer, which no packet held
pub returns-clause-fresh : goal.returns-clause-fresh
returns-clause-fresh c =
    let given = λ (r : Reply). AreFresh c.args.self.now.limits.population (held_of c.args.self.now.members c.args.self.now.shared.desks) (new_elements r) in
    subst given (as_reply-same c.perform_in.result) c.perform_in.ensures.fresh

-- the own elements that packets got are those that this answer tells of, and no others
pub returns-clause-own : goal.returns-clause-own
returns-clause-own c =
    let gave = λ (r : Reply). GaveOnly (new_elements r) c.args.self.now c.perform_in.new.self in
    subst gave (as_reply-same c.perform_in.result) c.perform_in.ensures.own

-- a reply is a refusal just where the answer is, and that left the pool as before
pub returns-clause-refused : goal.returns-clause-refused
returns-clause-refused c =
    subst (λ (r : Reply). IfRefused r (PoolAsBefore c.args.worker c.args.act c.args.self.now c.perform_in.new.self)) (as_reply-same c.perform_in.result) c.perform_in.ensures.refused
