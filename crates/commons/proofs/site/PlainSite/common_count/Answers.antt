use Rattle.std.proofs.Common.{arith}
use Rattle.std.proofs.lemmas.List.{length-reverse}
use Rattle.commons.proofs.Tables.{length_common}
use Rattle.commons.specs.inside.Site.{lists_of}
use Rattle.commons.proofs.site.PlainSite.common_count.Goals as goal

-- the list has each element at most once, so its length is at most the population
pub overflow_cast-result : goal.overflow_cast-result
overflow_cast-result c =
    let table = c.self.invariant.table in
    omega (
      arith,
      length_common (lists_of c.self.inside) table,
      c.self.inside.common.ok,
      table.pool.population,
      length-reverse c.self.inside.common.items,
    )
