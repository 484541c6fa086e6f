use Rattle.std.proofs.Common.{◌≡◌, [], ◌∷◌, ◌++◌, append_assoc, length, sym, ◌∙◌, ap, arith}
use Rattle.std.proofs.lemmas.List.{append-nil}
use Rattle.book.proofs.AllShares.{all_in, filled, full_is, last_number, missing_yet, none_yet, one_filled, shares_in-filled}
use Rattle.book.specs.Books.{shares_in}
use Rattle.book.specs.Places.{Places}
use Rattle.book.proofs.deposits.deposit_all.Goals as goal

-- no share is in the book yet, and all are still to be put there
pub loop-share-init : goal.loop-share-init
loop-share-init c =
    ([], sym (append-nil c.args.shares.items), none_yet c.args.book.now c.args.shares.items c.requires.empty c.requires.workers)

-- the last share that was left is in the book
pub loop-share-preserved : goal.loop-share-preserved
loop-share-preserved c =
    let i = c.loop-share.invariant in
    let first = c.args.book.now in
    let current = c.loop-share.shares.items in
    let rest = c.pop.new.self.items in
    let s = c.in-Some.share in
    let popped = c.in-Some.ensures.items in
    let last = last_number first.limits.workers c.args.shares.items current rest i.0 s c.requires.workers i.1 popped in (
      s ∷ i.0,
      i.1 ∙ ap (λ ms. ms ++ i.0) popped ∙ append_assoc rest (s ∷ []) i.0,
      c.fill.ensures ∙ one_filled first c.loop-share.book current rest i.0 s i.2 popped last.0,
    )

-- its place was free
pub fill-requires : goal.fill-requires
fill-requires c =
    let i = c.loop-share.invariant in
    let first = c.args.book.now in
    let current = c.loop-share.shares.items in
    let rest = c.pop.new.self.items in
    let s = c.in-Some.share in
    let popped = c.in-Some.ensures.items in
    let last = last_number first.limits.workers c.args.shares.items current rest i.0 s c.requires.workers i.1 popped in
    missing_yet first c.loop-share.book current rest i.0 s i.2 popped last.0 last.1

-- none is left, so all are in the book
in_the_book : (c : goal.After-destroy_empty) → c.loop-share.book ≡ record c.args.book.now { places = filled c.args.shares.items }
in_the_book c =
    let i = c.loop-share.invariant in
    let none : length c.loop-share.shares.items ≡ 0 = omega (arith, c.in_default.ensures.cases.0, c.loop-share.shares.ok) in
    all_in c.args.book.now c.loop-share.book c.args.shares.items c.loop-share.shares.items i.0 none i.1 i.2

pub returns-clause-filled : goal.returns-clause-filled
returns-clause-filled c = in_the_book c

pub returns-clause-shares : goal.returns-clause-shares
returns-clause-shares c = ap (λ (b : Places). shares_in b.places) (in_the_book c) ∙ shares_in-filled c.args.shares.items

-- each worker's share is in its place, so none is missing
pub returns-clause-full : goal.returns-clause-full
returns-clause-full c =
    let limits = ap (λ (b : Places). b.limits.workers) (in_the_book c) in
    full_is c.loop-share.book c.args.shares.items (ap (λ (b : Places). b.places) (in_the_book c)) (rw limits c.requires.workers)
