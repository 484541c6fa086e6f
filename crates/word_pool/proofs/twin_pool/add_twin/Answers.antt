-- A worker of two pools who has nothing is the new worker that is added.
use Rattle.std.proofs.Common.{◌≡◌, ◌++◌, ◌∷◌, [], ◌∙◌, ap, subst}
use Rattle.std.specs.Prelude.{IfOk}
use Rattle.mbuf.specs.Twins.{TwinMember}
use Rattle.word_pool.specs.TwinWorkers.{TwinState}
use Rattle.word_pool.specs.inside.Crews.{new_member}
use Rattle.word_pool.proofs.TwinCrews.{new_twin_is_own, newcomer_at}
use Rattle.word_pool.proofs.twin_pool.add_twin.Goals as goal

-- what it has is its own, at seats that name nothing
pub new-requires-clause-own : goal.new-requires-clause-own
new-requires-clause-own c =
    new_twin_is_own c.args.first.now c.args.second.now c.args.number c.args.seats.first c.args.seats.second
    c.in-Ok.twin c.in-Ok.ensures.first c.in-Ok.ensures.second c.requires.first_unused c.requires.second_unused

pub returns-in-Ok-clause-added : goal.returns-in-Ok-clause-added
returns-in-Ok-clause-added c =
    let l = c.args.first.now in
    let k = c.args.second.now in
    let n = c.args.number in
    let seats = c.args.seats in
    let made : c.in-Ok.twin ≡ record { first = new_member l n; second = new_member k n } =
    λ i. record { first = c.in-Ok.ensures.first i; second = c.in-Ok.ensures.second i } in
    let same : c.new.result ≡ newcomer_at l k n seats.first seats.second =
    c.new.ensures ∙ ap (λ (t : TwinMember). record { first = seats.first; second = seats.second; member = t }) made in
    subst (λ (w : TwinState). IfOk c.add.result (λ _. c.add.new.workers.items ≡ c.args.workers.now.items ++ w ∷ [])) same
    c.add.ensures.added
