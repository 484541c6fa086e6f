use Rattle.std.proofs.Common.{◌≡◌, ◌≤◌, vec_len, vec_capacity, replicate, None}
use Rattle.book.proofs.book.no_shares.Given as goal

-- there is room, and this many places are there
abbrev pub invariant-loop : goal.invariant-loop
invariant-loop l = (vec_len l.places ≡ l.counter) × (l.workers ≤ vec_capacity l.places) × (l.places.items ≡ replicate l.counter None)
