-- A worker's packets are its own where it has none, and its seat names nothing.
use Rattle.std.proofs.Common.{◌≡◌, ◌++◌, ◌∷◌, [], ◌∙◌, ap, subst, sym}
use Rattle.std.specs.Prelude.{IfOk}
use Rattle.mbuf.specs.Members.{Member}
use Rattle.step_core.specs.declared.view.View.{View}
use Rattle.word_pool.specs.Workers.{WorkerState}
use Rattle.word_pool.proofs.Crews.{new_is_own}
use Rattle.word_pool.proofs.pool.add_worker.Goals as goal

-- the seat has a worker's part
pub new-requires-clause-part : goal.new-requires-clause-part
new-requires-clause-part c = sym (ap (λ (v : View). v.part) c.requires.unused.view)

-- a worker who has nothing has packets of its own over a seat that names nothing
pub new-requires-clause-own : goal.new-requires-clause-own
new-requires-clause-own c =
    new_is_own c.args.limits.now c.args.number c.args.seat c.in-Ok.packets c.in-Ok.ensures.ok c.requires.unused

-- so it is the new worker that is added
pub returns-in-Ok-clause-added : goal.returns-in-Ok-clause-added
returns-in-Ok-clause-added c =
    let same = c.new.ensures ∙ ap (λ (m : Member). record { seat = c.args.seat; member = m }) c.in-Ok.ensures.ok in
    subst (λ (w : WorkerState). IfOk c.add.result (λ _. c.add.new.workers.items ≡ c.args.workers.now.items ++ w ∷ [])) same
    c.add.ensures.added
