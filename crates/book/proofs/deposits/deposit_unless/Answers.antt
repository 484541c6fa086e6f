use Rattle.std.proofs.Common.{◌≡◌, ◌∙◌, true, false, refl, sym}
use Rattle.book.specs.Lost.{is_listed}
use Rattle.book.proofs.deposits.deposit_unless.Goals as goal

-- the worker is listed
pub returns-then-contains : goal.returns-then-contains
returns-then-contains c =
    let listed : is_listed c.args.listed.now c.args.share.number ≡ true =
    sym (rw c.worker.ensures at c.contains.ensures.value) ∙ c.if-contains.true in
    rw listed refl

-- the worker isn't
pub returns-else-contains : goal.returns-else-contains
returns-else-contains c =
    let other : is_listed c.args.listed.now c.args.share.number ≡ false =
    sym (rw c.worker.ensures at c.contains.ensures.value) ∙ c.if-contains.false in
    rw (c.fill.ensures, other) refl
