use Rattle.std.proofs.Common.{rules}
use Rattle.ground.proofs.Joining.{notes}
use Rattle.ground.proofs.Noting.{base_linked}
use Rattle.ground.proofs.parcels.note_base.Goals as goal

-- the word is one of the table, and the load changes nothing but what is noted
pub load-requires : goal.load-requires
load-requires c = (
  search rules,
  base_linked _ _ _ _ c.in-Some.is c.link_word.ensures c.requires.words,
  notes _ _ _ _ _ _ c.requires.part,
)
