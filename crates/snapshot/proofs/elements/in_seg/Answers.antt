use Rattle.std.proofs.lemmas.Result.{IfOk-weaker}
use Rattle.commons.specs.Bag.{bag, one}
use Rattle.commons.specs.Packets.{hold_of, holds_of_seg}
use Rattle.commons.proofs.PacketBags.{bag-seg}
use Rattle.snapshot.specs.inside.Gathered.{HasGathered}
use Rattle.snapshot.proofs.Gathered.{gathered-then}
use Rattle.snapshot.proofs.elements.in_seg.Goals as goal

-- a segment names its base and its own element
pub returns : goal.returns
returns c =
    let seg = c.args.seg in
    let limit = c.args.population in
    let old = c.args.named.now.items in
    let mid = c.in_base.new.named.items in
    let new = c.gather.new.named.items in
    IfOk-weaker c.gather.result (λ _. HasGathered limit (one seg.elem) mid new)
    (λ _. HasGathered limit (bag (holds_of_seg seg)) old new)
    (λ _ is. gathered-then limit (bag (hold_of seg.base)) (one seg.elem) (bag (holds_of_seg seg)) old mid new
    c.in_ok-in_base.ensures is (bag-seg seg)) c.gather.ensures
