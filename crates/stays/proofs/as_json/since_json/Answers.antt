use Rattle.std.proofs.Common.{◌≡◌, ℕ, ◌-◌, List, length, take, codes, ap, ◌∙◌, arith}
use Rattle.std.specs.Prelude.{vec_len}
use Rattle.std.proofs.lemmas.List.{length-append, take_at}
use Rattle.statement_text.specs.StatementData.{json_of}
use Rattle.stays.specs.inside.JsonLine.{line_of}
use Rattle.stays.proofs.JsonLines.{line-is}
use Rattle.stays.proofs.as_json.since_json.Goals as goal

-- without its line feed the statement's line is the statement's text
pub returns-in-Ok-clause-text : goal.returns-in-Ok-clause-text
returns-in-Ok-clause-text c =
    let newer = c.args.newer.now in
    let json = json_of newer in
    let is = c.in_ok-statement.ensures.text in
    let short : length json ≡ vec_len c.in_ok-statement.statement - 1 =
    omega (arith, c.in_ok-statement.statement.ok, ap length is, length-append json (codes "\n")) in
    let front : c.pop.new.self.items ≡ json =
    c.pop.ensures.rest ∙ ap (take (vec_len c.in_ok-statement.statement - 1)) is
    ∙ take_at json (codes "\n") (vec_len c.in_ok-statement.statement - 1) short in
    c.in-Ok.ensures
    ∙ ap (λ (text : List ℕ). line_of text c.as_slice-2.result.now) (c.as_slice.ensures.value ∙ front)
    ∙ ap (line_of json) (c.as_slice-2.ensures.value ∙ c.in_ok-stay.ensures.stay)
    ∙ line-is newer c.args.older.now
