use Rattle.std.proofs.Common.{rules, ◌≡◌, ◌++◌, ◌∷◌, [], ◌-◌, arith}
use Rattle.commons.proofs.Answers.{down_one}
use Rattle.commons.proofs.site.downwards.Goals as goal

-- the number pushed is one less than the last, so read backwards the list begins one earlier
pub loop-i-preserved : goal.loop-i-preserved
loop-i-preserved c = record {
  so_far =
      let items : c.push.new.self.items ≡ c.loop-i.numbers.items
      ++ (c.args.count - 1 - c.loop-i.i) ∷ [] =
      search (rules, c.in_ok-push.ensures.items) in
      rw items (down_one c.loop-i.numbers.items c.args.count c.loop-i.i (omega arith) c.loop-i.invariant.so_far);
  len = search (rules, c.in_ok-push.ensures.len, c.loop-i.invariant.len);
}
