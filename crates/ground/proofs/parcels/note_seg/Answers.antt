use Rattle.std.proofs.Common.{◌<◌, rules, sym, subst}
use Rattle.ground.specs.Rule.{Sat}
use Rattle.ground.proofs.Joining.{notes}
use Rattle.ground.proofs.Noting.{bases_linked, own_linked}
use Rattle.ground.proofs.parcels.note_seg.Goals as goal

-- the base's word is one of the table
pub note_base-requires-clause-words : goal.note_base-requires-clause-words
note_base-requires-clause-words c = bases_linked c.args.seg.now _ c.requires.words

-- so is the own element's, and the load changes nothing but what is noted
pub load-requires : goal.load-requires
load-requires c = (
  search rules,
  own_linked c.args.seg.now _ _ c.link_word.ensures c.requires.words,
  notes _ _ _ _ _ _ (subst (λ (m : Sat). 0 < m.0.view.part) (sym c.note_base.ensures.me) c.requires.part),
)
