use Rattle.std.proofs.Common.{length, ◌≡◌, sym, arith, rules}
use Rattle.commons.proofs.Bags.{bag-of_one}
use Rattle.mempool.proofs.Singles.{one_alone}
use Rattle.mempool.proofs.worker.Worker.get_list_of_one.Goals as goal

-- A list of one element is that element alone, and that is what left the cache or the stack.
pub returns-in-Ok : goal.returns-in-Ok
returns-in-Ok g c =
    let len : length c.get_apart.new.out ≡ 1 = omega (arith, c.get_apart.auto.out) in
    record {
      calls = rw (sym (one_alone c.get_apart.new.out len)) c.in-Ok.ensures.calls;
      hand = λ i. omega (arith, c.in-Ok.ensures.hand i, bag-of_one c.get_apart.new.out i len);
      refused = search rules;
      cache_err = search rules;
      holds = search rules;
      headers = search rules;
      limits = search rules;
      number = search rules;
    }
