-- The line of JSON in its pieces is the text of the whole value.
use Rattle.std.proofs.Common.{◌≡◌, ◌++◌, append_assoc, codes}
use Rattle.json.specs.Print.{escape_byte}
use Rattle.serde_json.specs.Data.{Data, object, member, no_members}
use Rattle.serde_json.specs.Written.{compact_text}
use Rattle.pool_statement.specs.declared.statement.Statement.{Statement}
use Rattle.statement_text.specs.StatementData.{json_of, statement_data}
use Rattle.stays.specs.StayData.{since_json_of, stays_data}
use Rattle.stays.specs.Stays.{stays_between}
use Rattle.stays.specs.inside.JsonLine.{line_of}

-- of whatever two values, with a line feed behind
whole : (first second : Data) →
    codes "{\"statement\":" ++ compact_text first ++ codes ",\"stays\":" ++ compact_text second ++ codes "}\n"
    ≡ compact_text (object (member (codes "statement") first (member (codes "stays") second no_members))) ++ codes "\n"
unfolding escape_byte
whole first second = simp append_assoc

-- so of a statement, and of what stays
pub line-is : (newer older : Statement) → line_of (json_of newer) (stays_between newer older) ≡ since_json_of newer older ++ codes "\n"
unfolding json_of since_json_of
line-is newer older = whole (statement_data newer) (stays_data (stays_between newer older))
