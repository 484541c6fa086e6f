-- Each worker owns its part of the lists of either pool, which show a table, so each is lawful.
use Rattle.std.proofs.Common.{sym}
use Rattle.share_book.specs.inside.TwinSite.{lists_of}
use Rattle.share_book.proofs.TwinPools.{first_lawful, second_lawful}
use Rattle.share_book.proofs.twin_site.TwinSite.is_lawful_by_types.Goals as goal

pub returns-clause-first : goal.returns-clause-first
returns-clause-first c = rw (sym c.self.view_is) (first_lawful (lists_of c.self.inside) c.self.invariant.tables)

pub returns-clause-second : goal.returns-clause-second
returns-clause-second c = rw (sym c.self.view_is) (second_lawful (lists_of c.self.inside) c.self.invariant.tables)
