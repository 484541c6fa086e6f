use Rattle.std.proofs.Common.{length, ◌≡◌, Ok, Err, [], ◌∷◌, sym, refl, arith, rules}
use Rattle.commons.specs.Calls.{GetList}
use Rattle.commons.proofs.Bags.{bag-of_one}
use Rattle.mempool.specs.Caches.{Direct}
use Rattle.mempool.proofs.Singles.{one_alone}
use Rattle.mempool.proofs.worker.Worker.get_direct.Goals as goal

-- The stack gave a list of one, which is its element alone, and that came into the hand.
pub returns-in-Ok : goal.returns-in-Ok
returns-in-Ok g c =
    let len : length c.get_list.new.out ≡ 1 = omega (arith, c.get_list.auto.out) in
    let d = c.in-Ok.ensures.did in
    record {
      calls = rw (sym (one_alone c.get_list.new.out len)) (
        record { call = GetList 1 (Ok c.get_list.new.out); readings = d.readings } ∷ [],
        (c.get_list.new.self, d.step, refl),
        Direct (omega arith) (omega (arith, c.requires.small)) refl refl,
      );
      hand = λ i. omega (arith, d.step.effect.hand i, bag-of_one c.get_list.new.out i len);
      refused = search rules;
      cache_err = search rules;
      holds = search rules;
      headers = search rules;
      limits = search rules;
      number = search rules;
    }

-- The stack refused, and nothing changed.
pub returns-in-Err : goal.returns-in-Err
returns-in-Err g c =
    let d = c.in-Err.ensures.did in
    record {
      calls = (
        record { call = GetList 1 (Err c.in-Err.cause); readings = d.readings } ∷ [],
        (c.get_list.new.self, d.step, refl),
        Direct (omega arith) (omega (arith, c.requires.small)) refl refl,
      );
      hand = search rules;
      refused = search rules;
      cache_err = search rules;
      holds = search rules;
      headers = search rules;
      limits = search rules;
      number = search rules;
    }
