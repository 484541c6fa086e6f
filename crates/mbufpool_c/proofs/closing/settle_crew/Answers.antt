use Rattle.std.proofs.Common.{◌≡◌, [], inl, inr, List, Box, Global, None, subst, sym}
use Rattle.step_core.specs.World.{every_part}
use Rattle.word_pool.specs.Lost.{AreLostOf}
use Rattle.word_pool.specs.Workers.{WorkerState, parts_of}
use Rattle.mbufpool_c.specs.Closes.{IsSettled, IsStated}
use Rattle.mbufpool_c.specs.declared.ending.Ending.{Ending}
use Rattle.mbufpool_c.proofs.CloseLemmas.{if_ok, if_ok_both}
use Rattle.mbufpool_c.proofs.closing.settle_crew.Goals as goal

-- they have every part
pub settle_all-requires : goal.settle_all-requires
settle_all-requires c = record {
  numbers = c.requires.crew.numbers;
  each = c.requires.crew.each;
  parts =
      subst (λ (ms : List WorkerState). parts_of ms ≡ every_part c.args.ground.limits) c.as_slice.ensures.value
      (c.all_received.ensures.0 c.if-all_received.true);
}

-- so the pool has its statement
pub returns-then-all_received-clause-settled : goal.returns-then-all_received-clause-settled
returns-then-all_received-clause-settled c =
    let g = c.args.ground in
    let ms = c.args.workers.items in
    if_ok (λ (e : Box Ending Global). IsStated g ms e.value) (λ (e : Box Ending Global). IsSettled g [] ms e.value)
    (λ e stated. inl stated) c.settle_all.result c.settle_all.ensures.settled

-- or packets are under way, and what they hold alone is lost
pub returns-clause-settled : goal.returns-clause-settled
returns-clause-settled c =
    let g = c.args.ground in
    let ms = c.args.workers.items in
    if_ok_both (λ (e : Box Ending Global). e.value.statement ≡ None)
    (λ (e : Box Ending Global). AreLostOf g [] ms e.value.lost.items)
    (λ (e : Box Ending Global). IsSettled g [] ms e.value)
    (λ e none lost. inr (
      (λ parts.
          let whole =
          c.all_received.ensures.1
          (subst (λ (xs : List WorkerState). parts_of xs ≡ every_part g.limits) (sym c.as_slice.ensures.value) parts) in
          let not = c.if-all_received.false in
          absurd cc),
      (none, c.requires.left, lost),
    ))
    c.settle_without.result c.settle_without.ensures.statement c.settle_without.ensures.lost
