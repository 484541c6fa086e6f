use Rattle.std.proofs.Common.{◌∙◌}
use Rattle.mbuf.specs.Acts.{cloned}
use Rattle.mbufpool_c.proofs.ToldLemmas.{clone_status, clone_told}
use Rattle.mbufpool_c.proofs.packets.make_clone.Goals as goal

-- the clone is told by the label of its slot, and by its first segment's own element
pub returns : goal.returns
returns c =
    let answer = c.clone_packet-answer.result in
    let after = c.clone_packet-answer.new.self in (
      cloned answer after.worker.member.table,
      c.clone_packet-answer.ensures,
      c.tell_new.ensures.status ∙ clone_status answer after.worker.member.table,
      c.tell_new.ensures.told ∙ clone_told answer after.labels after.worker.member.table c.args.out.now,
    )
