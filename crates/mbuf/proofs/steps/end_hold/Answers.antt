use Rattle.std.proofs.Common.{[], ◌∷◌, refl, rules, arith}
use Rattle.commons.proofs.Bags.{bags}
use Rattle.commons.specs.Calls.{Lower, calls_of}
use Rattle.commons.specs.declared.refusal.Lowered.TheVariants.{Last, Still}
use Rattle.mbuf.specs.PacketRules.{Stays, GoesBack}
use Rattle.mbuf.proofs.steps.end_hold.Goals as goal

-- Another hold was left: the one call lowered the count, and the cache is as before.
pub returns-in-Still : goal.returns-in-Still
returns-in-Still g c =
    let d = c.in-Still.ensures.did in
    record {
      calls = (
        record { call = Lower c.args.elem Still; readings = d.readings } ∷ [],
        (c.lower.new.self, d.step, refl),
        Stays refl refl refl,
      );
      hand = λ i. grind (arith, bags, c.requires.hand i);
      holds = search rules;
      headers = search rules;
      limits = search rules;
      number = search rules;
      back = omega arith;
      flushed = search rules;
    }

-- The last hold went: the calls are the lower and then those of the put of the element.
pub returns-in-Last : goal.returns-in-Last
returns-in-Last g c =
    let d = c.in-Last.ensures.did in
    let e = c.put_one.ensures.calls in
    record {
      calls = (
        record { call = Lower c.args.elem Last; readings = d.readings } ∷ e.0,
        (c.lower.new.self, d.step, e.1),
        GoesBack (calls_of e.0) c.put_one.result e.2 refl c.counted.ensures.counted,
      );
      hand = λ i. grind (arith, bags, c.put_one.ensures.hand i, c.requires.hand i);
      holds = search rules;
      headers = search rules;
      limits = search rules;
      number = search rules;
      back = search rules;
      flushed = grind (arith);
    }
