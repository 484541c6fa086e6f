use Rattle.std.proofs.lemmas.List.{take-append-drop}
use Rattle.std.proofs.Common.{sym, ap, ◌∙◌, ◌≡◌, ◌+◌, ◌-◌, ◌++◌, ℕ, List, length, take, drop, vec_len, arith, refl, [], ◌∷◌, Ok, Err, rules}
use Rattle.commons.specs.Calls.{GetList, with_list}
use Rattle.commons.proofs.Bags.{bag-last, bag-take-drop}
use Rattle.mempool.specs.Caches.{NoRefill, RefillRefused, Refill}
use Rattle.mempool.proofs.worker.Worker.refilled_apart.Goals as goal

-- No refill can succeed, so the stack is asked only for what is needed.
pub returns-then-n-size : goal.returns-then-n-size
returns-then-n-size g c =
    let fewer = rw (sym c.self.view_is) at c.requires.fewer in
    let more_than = rw (sym c.self.view_is) at c.requires.more in
    let d = c.get_list.ensures.did in
    let ok = c.self.inside.cache.ok in
    record {
      calls = rw (sym c.self.view_is) (
        record {
          call = GetList (length c.args.out.now) (with_list c.get_list.result c.get_list.new.out);
          readings = d.readings;
        } ∷ [],
        (c.get_list.new.self, d.step, refl),
        NoRefill (omega (arith, more_than)) fewer more_than (omega arith) refl refl,
      );
      hand = search rules;
      refused = search rules;
      cache_err = search rules;
      holds = search rules;
      headers = search rules;
      limits = search rules;
      number = search rules;
    }

-- a list whose front is old is old and what follows
joined : (old new : List ℕ) (k : ℕ) → take k new ≡ old → old ++ drop k new ≡ new
joined old new k e = ap (λ xs. xs ++ drop k new) (sym e) ∙ take-append-drop k new

-- The cache was refilled with what came into the hand, and the last of it was given.
pub returns-in-Ok : goal.returns-in-Ok
returns-in-Ok g c =
    let fewer = rw (sym c.self.view_is) at c.requires.fewer in
    let more_than = rw (sym c.self.view_is) at c.requires.more in
    let d = c.in-Ok.ensures.did in
    let k = vec_len c.self.inside.cache in
    let new = c.refill.new.cache.items in
    let all = joined c.self.inside.cache.items new k c.in-Ok.ensures.ok in
    let ok = c.self.inside.cache.ok in
    let len : c.len-len.result ≡ length c.self.inside.cache.items = omega (arith, ok) in
    record {
      calls = rw (sym c.self.view_is) (
        record {
          call =
              GetList (length c.args.out.now + c.self.inside.limits.cache - c.len-len.result)
              (Ok (drop k new));
          readings = d.readings;
        } ∷ [],
        (c.refill.new.c, d.step, refl),
        Refill (omega (arith, more_than)) fewer more_than (omega arith) (drop k new)
            (rw len)
            (rw all (ap Ok c.take_last.ensures.out))
            (rw all c.take_last.ensures.cache),
      );
      hand = λ i.
          let parts = rw c.in-Ok.ensures.ok at (bag-take-drop k new i) in
          rw (sym c.self.view_is, c.take_last.ensures.out, c.take_last.ensures.cache)
          (omega (arith, parts, d.step.effect.hand i, bag-last new (length new - length c.args.out.now) i));
      refused = search rules;
      cache_err = search rules;
      holds = search rules;
      headers = search rules;
      limits = search rules;
      number = search rules;
    }

-- The refill was refused, and the stack was asked for what is needed.
pub returns-in-Err : goal.returns-in-Err
returns-in-Err g c =
    let fewer = rw (sym c.self.view_is) at c.requires.fewer in
    let more_than = rw (sym c.self.view_is) at c.requires.more in
    let d = c.in-Err.ensures.did in
    let e = c.get_list-in-Err.ensures.did in
    let ok = c.self.inside.cache.ok in
    let len : c.len-len.result ≡ length c.self.inside.cache.items = omega (arith, ok) in
    record {
      calls = rw (sym c.self.view_is) (
        record {
          call =
              GetList (length c.args.out.now + c.self.inside.limits.cache - c.len-len.result)
              (Err c.in-Err._cause);
          readings = d.readings;
        }
            ∷ record {
              call =
                  GetList (length c.args.out.now)
                  (with_list c.get_list-in-Err.result c.get_list-in-Err.new.out);
              readings = e.readings;
            } ∷ [],
        (c.refill.new.c, d.step, (c.get_list-in-Err.new.self, e.step, refl)),
        RefillRefused (omega (arith, more_than)) fewer more_than (omega arith) c.in-Err._cause (rw len)
            c.in-Err.ensures.err,
      );
      hand = search rules;
      refused = search rules;
      cache_err = search rules;
      holds = search rules;
      headers = search rules;
      limits = search rules;
      number = search rules;
    }
