use Rattle.statement_text.proofs.Distinct.{statement_same}
use Rattle.statement_text.proofs.laws.a_statements_json_is_its_own.Goals as goal

pub returns : goal.returns
returns c = statement_same
