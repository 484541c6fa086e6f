use Rattle.std.proofs.Common.{◌≡◌, ◌++◌, replicate}
use Rattle.ground.proofs.rows.push_many.Given as goal

abbrev pub invariant-loop : goal.invariant-loop
invariant-loop l = l.words.items ≡ l.initial.words.items ++ replicate l.counter l.fn.word
