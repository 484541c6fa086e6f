use Rattle.std.proofs.Common.{◌≡◌, ◌-◌, ◌+◌, ◌<◌, length, length-set, Some, ◌∙◌, arith}
use Rattle.book.proofs.FilledPlaces.{one_more}
use Rattle.book.proofs.book.Book.deposit.Goals as goal

-- the share stands in the place of its worker
pub invariant_of-self : goal.invariant_of-self
invariant_of-self c =
    let places = c.self.inside.places.items in
    let k = c.worker-number.result - 1 in
    let below : k < length places = omega (arith, c.self.inside.places.ok, c.if-number-eq0.false, c.if-number-len.false, c.len.ensures) in
    let number : c.args.share.number ≡ k + 1 = omega (arith, c.worker-number.ensures, c.if-number-eq0.false) in
    rw c.replace.ensures.after (record {
      range = c.self.invariant.range;
      workers = length-set places k (Some c.args.share) ∙ c.self.invariant.workers;
      each = one_more places k c.args.share c.self.invariant.each below (record { number = number; slots = c.has_slots.ensures });
    })
