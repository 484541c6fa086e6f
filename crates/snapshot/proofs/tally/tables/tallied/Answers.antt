use Rattle.std.proofs.Common.{arith}
use Rattle.snapshot.proofs.Times.{held-is}
use Rattle.snapshot.proofs.tally.tables.tallied.Goals as goal

-- each row counts the shares and then the desks, and the guests, or the stack and then the caches
pub returns : goal.returns
returns c =
    let s = c.args.snapshot.now in
    let shares = rw c.as_slice.ensures at c.count_shares.ensures in
    let desks = rw c.as_slice-2.ensures at c.count_table.ensures in
    let stack = c.count_all.ensures in
    let guests = rw c.as_slice-3.ensures at c.count_guests.ensures in
    let caches = rw c.as_slice-4.ensures at c.count_caches.ensures in
    let own = c.in_ok-own.ensures in
    let held = c.in_ok-held.ensures in
    let free = c.in_ok-free.ensures in record {
      own = record {
        len = omega (arith, desks.own.len, shares.own.len, own.len);
        counts = λ e l.
            let first = shares.own.counts e (omega (arith, own.len)) in
            let second = desks.own.counts e (omega (arith, shares.own.len, own.len)) in
            omega (arith, second, first, own.counts e l);
      };
      held = record {
        len = omega (arith, guests.len, desks.held.len, shares.held.len, held.len);
        counts = λ e l.
            let first = shares.held.counts e (omega (arith, held.len)) in
            let second = desks.held.counts e (omega (arith, shares.held.len, held.len)) in
            let third = guests.counts e (omega (arith, desks.held.len, shares.held.len, held.len)) in
            omega (arith, third, second, first, held.counts e l, held-is s e);
      };
      free = record {
        len = omega (arith, caches.len, stack.len, free.len);
        counts = λ e l.
            let first = stack.counts e (omega (arith, free.len)) in
            let second = caches.counts e (omega (arith, stack.len, free.len)) in
            omega (arith, second, first, free.counts e l);
      };
    }
