use Rattle.std.proofs.Common.{◌≡◌, ◌++◌, take}
use Rattle.std.specs.List.{flat_map}
use Rattle.statement_text.specs.StatementText.{desk_text}
use Rattle.statement_text.proofs.segments.write_desks.Given as goal

abbrev pub invariant-loop-desk : goal.invariant-loop-desk
invariant-loop-desk l =
    l.out.items ≡ l.fn.out.items ++ flat_map desk_text (take l.desk-index l.desks)
