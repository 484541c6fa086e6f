use Rattle.std.proofs.Common.{◌≡◌, ◌<◌, [], List, ℕ, Box, Global, None, length, arith, refl, subst, sym}
use Rattle.word_pool.specs.Lost.{AreLeft, AreLostOf}
use Rattle.mbufpool_c.specs.Closes.{AreApart, HasClosed, IsSettled}
use Rattle.mbufpool_c.specs.declared.ending.Ending.{Ending}
use Rattle.mbufpool_c.proofs.CloseLemmas.{closed_all, closed_some, empty_of, if_ok, if_ok_both}
use Rattle.mbufpool_c.proofs.SharedLemmas.{all_there, some_there}
use Rattle.mbufpool_c.proofs.closing.settle.Goals as goal

-- nobody is missing
pub settle_crew-requires-clause-crew : goal.settle_crew-requires-clause-crew
settle_crew-requires-clause-crew c =
    all_there c.args.ground c.args.found.0.items c.args.found.1.items c.requires
    (empty_of c.args.found.1.items (omega (arith, c.if-len-eq0-2.true, c.len-2.ensures, c.args.found.1.ok)))

pub settle_crew-requires-clause-left : goal.settle_crew-requires-clause-left
settle_crew-requires-clause-left c =
    let some : 0 < length c.args.found.0.items = omega (arith, c.if-len-eq0.false, c.len.ensures, c.args.found.0.ok) in
    subst (λ (ws : List ℕ). AreLeft c.args.ground ws c.args.found.0.items)
    (empty_of c.args.found.1.items (omega (arith, c.if-len-eq0-2.true, c.len-2.ensures, c.args.found.1.ok)))
    (some_there c.args.ground c.args.found.0.items c.args.found.1.items c.requires some)

-- so they are settled, all of them
pub returns-then-len-eq0-2-clause-closed : goal.returns-then-len-eq0-2-clause-closed
returns-then-len-eq0-2-clause-closed c =
    let ms = c.args.found.0.items in
    let missing = c.args.found.1.items in
    let none : missing ≡ [] = empty_of missing (omega (arith, c.if-len-eq0-2.true, c.len-2.ensures, c.args.found.1.ok)) in
    let as_many : length ms ≡ length c.args.numbers.now =
    omega (arith, c.if-len-numbers.false, c.len-else-len-eq0.ensures, c.args.found.0.ok) in
    let apart : AreApart c.args.numbers.now missing =
    subst (AreApart c.args.numbers.now) c.as_slice.ensures.value (c.if-not-are_apart.ensures refl) in
    if_ok (λ (e : Box Ending Global). IsSettled c.args.ground [] ms e.value)
    (λ (e : Box Ending Global). HasClosed c.args.ground c.args.numbers.now e.value)
    (λ e settled. closed_all c.args.numbers.now c.args.ground ms missing e.value c.requires none as_many apart settled)
    c.settle_crew.result c.settle_crew.ensures.settled

-- somebody is there
pub settle_without-requires : goal.settle_without-requires
settle_without-requires c =
    let some : 0 < length c.args.found.0.items = omega (arith, c.if-len-eq0.false, c.len.ensures, c.args.found.0.ok) in
    subst (λ (ws : List ℕ). AreLeft c.args.ground ws c.args.found.0.items) (sym c.as_slice-2.ensures.value)
    (some_there c.args.ground c.args.found.0.items c.args.found.1.items c.requires some)

-- and those are settled
pub returns-clause-closed : goal.returns-clause-closed
returns-clause-closed c =
    let ms = c.args.found.0.items in
    let missing = c.args.found.1.items in
    let some : 0 < length ms = omega (arith, c.if-len-eq0.false, c.len.ensures, c.args.found.0.ok) in
    let gone : 0 < length missing = omega (arith, c.if-len-eq0-2.false, c.len-2.ensures, c.args.found.1.ok) in
    let as_many : length ms ≡ length c.args.numbers.now =
    omega (arith, c.if-len-numbers.false, c.len-else-len-eq0.ensures, c.args.found.0.ok) in
    let apart : AreApart c.args.numbers.now missing =
    subst (AreApart c.args.numbers.now) c.as_slice.ensures.value (c.if-not-are_apart.ensures refl) in
    let left : AreLeft c.args.ground missing ms = some_there c.args.ground ms missing c.requires some in
    if_ok_both (λ (e : Box Ending Global). e.value.statement ≡ None)
    (λ (e : Box Ending Global). AreLostOf c.args.ground c.as_slice-2.result.now ms e.value.lost.items)
    (λ (e : Box Ending Global). HasClosed c.args.ground c.args.numbers.now e.value)
    (λ e none lost. closed_some c.args.numbers.now c.args.ground ms missing e.value c.requires gone as_many apart (
      none,
      left,
      subst (λ (ws : List ℕ). AreLostOf c.args.ground ws ms e.value.lost.items) c.as_slice-2.ensures.value lost,
    ))
    c.settle_without.result c.settle_without.ensures.statement c.settle_without.ensures.lost
