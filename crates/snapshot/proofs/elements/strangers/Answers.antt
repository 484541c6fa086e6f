use Rattle.snapshot.proofs.Gathered.{strangers-are}
use Rattle.snapshot.proofs.elements.strangers.Goals as goal

-- the stack, shares, desks and guests are all that names elements
pub returns : goal.returns
returns c =
    let s = c.args.snapshot.now in
    let stack = rw c.new-named.ensures.items at c.in_ok-in_list.ensures in
    let shares = rw c.as_slice.ensures at c.in_ok-in_shares.ensures in
    let desks = rw c.as_slice-2.ensures at c.in_ok-in_table.ensures in
    let guests = rw c.as_slice-3.ensures at c.in_ok-in_guests.ensures in
    strangers-are c.args.stack.now s c.in_list.new.named.items c.in_shares.new.named.items c.in_table.new.named.items
    c.in_guests.new.named.items c.leave_each_once.new.elems.items stack shares desks guests
    c.in_ok-leave_each_once.ensures
