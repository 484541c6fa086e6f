use Rattle.std.proofs.Common.{◌≡◌, length, slice_index_or, arith}
use Rattle.word_tests.proofs.Carrying.{got_one, carries_claimed}
use Rattle.word_tests.proofs.stack.carrying.make.Goals as goal

-- the one element that was got is in the hand
pub claim-requires : goal.claim-requires
claim-requires c =
    let len : length c.get_list.new.out ≡ 1 = omega (arith, c.get_list.auto.out) in
    got_one c.get_list.new.out c.args.c.now.seat c.get_list.new.self.seat len
    c.in_ok-get_list.ensures.did.step.effect

-- the packet is of the element that was claimed
pub returns-clause-carries : goal.returns-clause-carries
returns-clause-carries c =
    carries_claimed c.single.result (slice_index_or c.get_list.new.out 0 0) 128 c.args.len 2048
    c.get_list.new.self.seat c.claim.new.self.seat c.single.ensures c.claim.ensures.did.step.effect
