use Rattle.std.proofs.Common.{ap, subst, ◌∙◌}
use Rattle.mbuf.specs.Acts.{as_reply}
use Rattle.mbuf.specs.declared.acts.Act.{Act}
use Rattle.word_pool.specs.Workers.{Acts}
use Rattle.mbufpool_c.specs.Labelled.{ActsBy, Labelled, labels_after}
use Rattle.mbufpool_c.proofs.workers.OwnWorker.act.Goals as goal

-- the worker did it in the slots that C's numbers stood for
pub returns : goal.returns
returns g c =
    let answered = as_reply c.act_in-answer.result in
    let after : Labelled = record { worker = c.act_in-answer.new.self; labels = c.go_by.new.labels } in
    subst (λ (v : Labelled). ActsBy c.args.asked v answered after) c.self.view_is (record {
      acts =
          subst (λ (a : Act). Acts a c.self.inside.worker answered c.act_in-answer.new.self) c.in_slots-act.ensures
          c.act_in-answer.ensures;
      labels =
          c.go_by.ensures ∙ ap (λ (a : Act). labels_after a answered c.self.inside.labels) c.in_slots-act.ensures;
    })
