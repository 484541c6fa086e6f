-- What the lists leave has their common lists as walks, so it has the statements of the model's pools.
use Rattle.std.proofs.Common.{sym}
use Rattle.share_book.specs.inside.TwinSite.{lists_of}
use Rattle.share_book.proofs.TwinPools.{first_stated, second_stated}
use Rattle.share_book.proofs.twin_site.TwinSite.leaves_its_statements.Goals as goal

pub returns-clause-first : goal.returns-clause-first
returns-clause-first c = rw (sym c.self.view_is) (first_stated (lists_of c.self.inside) c.self.invariant.tables)

pub returns-clause-second : goal.returns-clause-second
returns-clause-second c = rw (sym c.self.view_is) (second_stated (lists_of c.self.inside) c.self.invariant.tables)
