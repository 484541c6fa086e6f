-- New lists are new pools of the model.
use Rattle.std.proofs.Common.{rules}
use Rattle.share_book.specs.TwinSites.{AreTwinPools}
use Rattle.share_book.proofs.TwinReaching.{all_new}
use Rattle.share_book.proofs.twin_site.TwinSite.make.Goals as goal

pub returns-clause-model : goal.returns-clause-model
returns-clause-model c =
    let l = c.args.first.now in
    let k = c.args.second.now in
    let pools : AreTwinPools l k = search rules in
    all_new l k c.opened.result pools c.opened.ensures.ok
