use Rattle.std.proofs.Common.{ℕ, ap, ◌∙◌}
use Rattle.std.specs.Prelude.{find}
use Rattle.tasks.specs.Pairs.{differs, limits_with, rule_number}
use Rattle.tasks.proofs.comparing.differing.Goals as goal

-- the put rules' numbers are theirs
pub returns : goal.returns
returns c =
    let newer = c.args.newer.now in
    let older = c.args.older.now in
    c.differing_with.ensures
    ∙ ap (λ (n : ℕ). find differs (limits_with newer older n c.rule-2.result)) c.rule.ensures
    ∙ ap (λ (n : ℕ). find differs (limits_with newer older (rule_number newer.put_rule) n)) c.rule-2.ensures
