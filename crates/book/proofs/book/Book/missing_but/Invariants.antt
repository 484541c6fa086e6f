use Rattle.std.proofs.Common.{◌≡◌, ◌+◌, ◌<◌, ℕ, get_or, None}
use Rattle.std.specs.Prelude.{Contains}
use Rattle.book.proofs.book.Book.missing_but.Given as goal

-- each place so far is filled, or its worker is listed
abbrev pub invariant-loop-at : goal.invariant-loop-at
invariant-loop-at l = (n : ℕ) → n < l.at → get_or l.self.places n None ≡ None → Contains l.listed (n + 1)
