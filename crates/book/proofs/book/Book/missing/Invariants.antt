use Rattle.std.proofs.Common.{◌≡◌, ◌<◌, ℕ, get_or, None}
use Rattle.book.proofs.book.Book.missing.Given as goal

-- each place so far is filled
abbrev pub invariant-loop-at : goal.invariant-loop-at
invariant-loop-at l = (n : ℕ) → n < l.at → get_or l.self.places n None ≡ None → ⊥
