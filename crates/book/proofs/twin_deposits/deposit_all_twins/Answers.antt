use Rattle.std.proofs.Common.{◌≡◌, length, ap, arith}
use Rattle.book.specs.Places.{Places}
use Rattle.book.proofs.TwinShares.{AreAllFiled, AreAllNumbered, book_is_full, filed_all, filed_more, filed_none, first_shares, place_is_free, second_shares}
use Rattle.book.proofs.twin_deposits.deposit_all_twins.Goals as goal

-- no share is in the book yet
pub loop-share-init : goal.loop-share-init
loop-share-init c =
    filed_none c.args.book.now c.args.shares.items c.requires.empty
    (record { first = c.requires.first; second = c.requires.second })

-- the last share that was left is in the book
pub loop-share-preserved : goal.loop-share-preserved
loop-share-preserved c =
    let numbered : AreAllNumbered c.args.book.now c.args.shares.items = record { first = c.requires.first; second = c.requires.second } in
    rw c.in_default-deposit.ensures.filled
    (filed_more c.args.book.now c.args.shares.items c.loop-share.shares.items c.pop.new.self.items c.loop-share.book
    c.in-Some.share numbered c.loop-share.invariant c.in-Some.ensures.items)

-- its place was free
pub unreachable-requires : goal.unreachable-requires
unreachable-requires c =
    let numbered : AreAllNumbered c.args.book.now c.args.shares.items = record { first = c.requires.first; second = c.requires.second } in
    let missing =
    place_is_free c.args.book.now c.args.shares.items c.loop-share.shares.items c.pop.new.self.items c.loop-share.book
    c.in-Some.share numbered c.loop-share.invariant c.in-Some.ensures.items in
    let ok = rw c.in-Err.is at (c.deposit.ensures.room.1 missing) in
    grind (arith, ok)

-- none is left, so all are in the book
in_the_book : (c : goal.After-destroy_empty) → AreAllFiled c.args.book.now c.args.shares.items c.loop-share.book
in_the_book c =
    let none : length c.loop-share.shares.items ≡ 0 = omega (arith, c.in_default.ensures.cases.0, c.loop-share.shares.ok) in
    filed_all c.args.book.now c.args.shares.items c.loop-share.shares.items c.loop-share.book c.loop-share.invariant none

pub returns-clause-first_limits : goal.returns-clause-first_limits
returns-clause-first_limits c = ap (λ (b : Places). b.limits) (in_the_book c).first

pub returns-clause-second_limits : goal.returns-clause-second_limits
returns-clause-second_limits c = ap (λ (b : Places). b.limits) (in_the_book c).second

pub returns-clause-first_shares : goal.returns-clause-first_shares
returns-clause-first_shares c = first_shares c.args.book.now c.args.shares.items c.loop-share.book (in_the_book c)

pub returns-clause-second_shares : goal.returns-clause-second_shares
returns-clause-second_shares c = second_shares c.args.book.now c.args.shares.items c.loop-share.book (in_the_book c)

-- each worker's share is in its place, so none is missing
pub returns-clause-full : goal.returns-clause-full
returns-clause-full c =
    book_is_full c.args.book.now c.args.shares.items c.loop-share.book (in_the_book c)
    (record { first = c.requires.first; second = c.requires.second })
