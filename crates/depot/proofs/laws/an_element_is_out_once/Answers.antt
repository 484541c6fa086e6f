use Rattle.std.proofs.Common.{◌≡◌, ℕ, ◌<◌, ◌≤◌, ⊎_elim, subst, sym, arith}
use Rattle.std.proofs.lemmas.Bool.{cases_lt}
use Rattle.depot.specs.Laws.{number_at}
use Rattle.depot.specs.Resting.{named}
use Rattle.depot.proofs.Bags.{below-at}
use Rattle.depot.proofs.Guarding.{out-most}
use Rattle.depot.proofs.laws.an_element_is_out_once.Goals as goal

pub returns-clause-one_place : goal.returns-clause-one_place
returns-clause-one_place c p s r i inside =
    let all = r.elements i in let one_of = below-at p.population i inside in omega arith

pub returns-clause-one_seat : goal.returns-clause-one_seat
returns-clause-one_seat c p s r i = (
  λ some_there. r.guarded.numbered i some_there,
  let most = out-most s.views (number_at s i) i in
      let once = r.guarded.once (number_at s i) in
      ⊎_elim (λ (h : 0 < number_at s i). omega arith)
      (λ (h : number_at s i ≤ 0).
      let zero_there : number_at s i ≡ 0 = omega arith in
      let nobody : named s.views (number_at s i) ≡ 0 =
      subst (λ (n : ℕ). named s.views n ≡ 0) (sym zero_there) r.guarded.nobody in
      omega arith)
      (cases_lt 0 (number_at s i)),
)

pub returns-clause-put_between_gets : goal.returns-clause-put_between_gets
returns-clause-put_between_gets c p s r i = (
  r.guarded.counts i,
  let most = out-most s.views (number_at s i) i in let once = r.guarded.once (number_at s i) in omega arith,
)
