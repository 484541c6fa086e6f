use Rattle.std.proofs.Common.{Some, sym, ap, ◌∙◌}
use Rattle.script_text.specs.declared.pool_line.LineNumbers.{LineNumbers}
use Rattle.script_text.specs.inside.Reading.{words_of}
use Rattle.script_text.proofs.BesideLemmas.{read_beside}
use Rattle.script_text.proofs.reader.made_pools.Goals as goal

-- what the line gives to a second pool is beside the first
pub can_be_made-requires : goal.can_be_made-requires
can_be_made-requires c =
    read_beside c.args.knows_second (words_of c.args.line.now) c.in-Some-pools.pools
    (sym c.line_numbers_of.ensures ∙ c.in-Some.is ∙ ap (λ (n : LineNumbers). Some n) c.in-Some-pools.ensures)
