use Rattle.std.proofs.Common.{◌-◌, arith}
use Rattle.word_tests.proofs.Cutting.{may_cut_one}
use Rattle.word_tests.proofs.tests.lost.cut_reserved.Goals as goal

-- one element is reserved, and the link of the top was read
pub cut-requires-clause-look : goal.cut-requires-clause-look
cut-requires-clause-look c =
    let h = c.load_head-head.result in
    may_cut_one h (h.top - 1) c.load_link-next.result c.args.seat.now c.load_head-head.new.seat
    c.load_link-next.new.seat c.load_head-head.ensures.step c.load_link-next.ensures.step
    c.requires.credit (omega arith)
