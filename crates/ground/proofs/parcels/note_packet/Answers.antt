use Rattle.std.proofs.Common.{◌<◌, List, get_or, rules, sym, ap, subst, ◌∙◌}
use Rattle.std.proofs.lemmas.List.{take_all}
use Rattle.commons.specs.declared.packet.Seg.{Seg}
use Rattle.commons.specs.Packets.{no_seg}
use Rattle.ground.specs.declared.known.Parcel.{Parcel}
use Rattle.ground.specs.Parting.{parcel_of, with_parcel, with_seg}
use Rattle.ground.specs.Rule.{Sat}
use Rattle.ground.proofs.Joining.{notes}
use Rattle.ground.proofs.Noting.{seg_linked, one_noted}
use Rattle.ground.proofs.parcels.note_packet.Goals as goal

-- the load changes nothing but what is noted
pub load-requires : goal.load-requires
load-requires c = (search rules, c.requires.some, notes _ _ _ _ _ _ c.requires.part)

-- nothing is noted at first
pub loop-seg-init : goal.loop-seg-init
loop-seg-init c =
    record { table = c.load.ensures.0; id = c.load.ensures.1; me = c.load.ensures.2 }

-- the words of the segment are ones of the table
pub note_seg-requires-clause-words : goal.note_seg-requires-clause-words
note_seg-requires-clause-words c =
    seg_linked c.args.segs.now c.loop-seg.seg-index _ _ c.loop-seg-test.true c.requires.words

-- the seat has its part
pub note_seg-requires-clause-part : goal.note_seg-requires-clause-part
note_seg-requires-clause-part c =
    subst (λ (m : Sat). 0 < m.0.view.part) (sym c.loop-seg.invariant.me) c.requires.part

-- the segment is noted behind those before it
pub loop-seg-preserved : goal.loop-seg-preserved
loop-seg-preserved c =
    let before = c.loop-seg.invariant in
    let seg : Seg = get_or c.args.segs.now c.loop-seg.seg-index no_seg in
    record {
      table = c.note_seg.ensures.table ∙ before.table;
      id = c.note_seg.ensures.id ∙ before.id;
      me =
          c.note_seg.ensures.me
          ∙ (ap (λ (m : Sat). with_parcel (with_seg seg m.0.parcel) m) before.me
          ∙ ap (λ (x : Parcel). with_parcel x c.args.seat.now.me)
          (one_noted c.args.segs.now c.loop-seg.seg-index no_seg c.loop-seg-test.true));
    }

-- all segments are noted
pub returns-clause-me : goal.returns-clause-me
returns-clause-me c =
    c.loop-seg.invariant.me
    ∙ ap (λ (xs : List Seg). with_parcel (parcel_of xs) c.args.seat.now.me)
    (take_all c.loop-seg.seg-index c.args.segs.now c.loop-seg-test.false)
