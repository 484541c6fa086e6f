use Rattle.std.proofs.Common.{◌≡◌, ◌-◌, ◌∙◌, ℕ, List, [], Ok, length, vec_len, refl, sym, ap, arith}
use Rattle.std.proofs.lemmas.Bool.{eqb-false}
use Rattle.commons.specs.Bag.{bag}
use Rattle.commons.proofs.Bags.{bag-last, bag-of_one}
use Rattle.mempool.specs.Caches.{FromCache}
use Rattle.mempool.proofs.Singles.{one_alone}
use Rattle.mempool.proofs.worker.Worker.get_one.Goals as goal

-- the cache has one
pub returns-then-not-is_empty-clause-calls : goal.returns-then-not-is_empty-clause-calls
returns-then-not-is_empty-clause-calls g c =
    let len : length c.take_last.new.out ≡ 1 = omega (arith, c.take_last.auto.out) in
    let ok = c.self.inside.cache.ok in
    let some = eqb-false (vec_len c.self.inside.cache) 0 (sym c.is_empty.ensures ∙ c.if-not-is_empty.true) in
    rw (sym c.self.view_is) (
      [],
      refl,
      FromCache (omega arith) (omega (arith, c.if-self-le1.false)) (omega (arith, some, ok)) refl
          (ap Ok (sym (one_alone c.take_last.new.out len) ∙ c.take_last.ensures.out))
          c.take_last.ensures.cache,
    )

-- what left the cache is the one element that was answered
pub returns-then-not-is_empty-clause-hand : goal.returns-then-not-is_empty-clause-hand
returns-then-not-is_empty-clause-hand g c i =
    let len : length c.take_last.new.out ≡ 1 = omega (arith, c.take_last.auto.out) in
    let given = ap (λ (xs : List ℕ). bag xs i) c.take_last.ensures.out in
    rw (sym c.self.view_is, c.take_last.ensures.cache)
    (omega (
      arith,
      given,
      bag-of_one c.take_last.new.out i len,
      bag-last c.self.inside.cache.items (length c.self.inside.cache.items - 1) i,
    ))
