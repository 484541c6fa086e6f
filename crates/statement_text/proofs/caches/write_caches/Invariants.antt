use Rattle.std.proofs.Common.{◌≡◌, ◌++◌, ◌+◌, drop}
use Rattle.statement_text.specs.StatementText.{caches_text}
use Rattle.statement_text.proofs.caches.write_caches.Given as goal

-- what was written, and what is left to write
abbrev pub invariant-loop-index : goal.invariant-loop-index
invariant-loop-index l =
    l.out.items ++ caches_text (l.index + 1) (drop l.index l.caches)
    ≡ l.fn.out.items ++ caches_text 1 l.caches
