use Rattle.snapshot.proofs.AddedHolders.{added-push}
use Rattle.snapshot.proofs.placing.add_hold.Goals as goal

-- the element's list alone has got the holder
pub returns : goal.returns
returns c =
    added-push c.args.elem c.args.holder c.args.table.now.items c.index_mut.result.now
    c.push.new.self c.requires c.index_mut.ensures.value c.in_ok-push.ensures.items
