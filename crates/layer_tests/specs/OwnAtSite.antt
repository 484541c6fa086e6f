-- A worker's packets beside the lists.
use Rattle.commons.specs.declared.plain.PlainCommons.{PlainCommons}
use Rattle.commons.specs.Lists.{side_of}
use Rattle.mbuf.specs.Members.{Member}
use Rattle.mbuf.specs.Own.{Own}
use Rattle.mbuf.specs.Twins.{OwnTwin, TwinMember}

-- the packets are the worker's own at its site
abbrev pub OwnAtSite : Member → PlainCommons → Type 0
OwnAtSite m c = Own m (side_of c.site.now c.worker)

-- the worker of two pools is its own at both their sites
abbrev pub OwnAtSites : TwinMember → PlainCommons → PlainCommons → Type 0
OwnAtSites t c d = OwnTwin t (side_of c.site.now c.worker) (side_of d.site.now d.worker)
