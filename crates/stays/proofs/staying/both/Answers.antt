use Rattle.std.proofs.Common.{rules, List, ap, ◌∙◌}
use Rattle.std.specs.Prelude.{filter}
use Rattle.std.proofs.lemmas.Fn.{filter_same}
use Rattle.stays.specs.Stays.{has_parts, used_in}
use Rattle.stays.specs.declared.used.Used.{Used}
use Rattle.stays.specs.inside.Knowing.{knows}
use Rattle.stays.proofs.Knowing.{filter-alike}
use Rattle.stays.proofs.staying.both.Goals as goal

-- what is retained is what the table has, and that is what the older statement lists
pub returns : goal.returns
returns c =
    let known = c.in_ok-known.known in
    let older = c.args.older.now in
    filter_same _ (λ (one : Used). knows known one.parts) _ (λ one b f' k. search rules) _ _ c.retain.ensures.filtered
    ∙ filter-alike (λ (one : Used). knows known one.parts) (λ (one : Used). has_parts (used_in older) one.parts)
    (λ one. c.in_ok-known.ensures one.parts ∙ ap (λ (used : List Used). has_parts used one.parts) c.in_ok-listed.ensures) _
    ∙ ap (λ (used : List Used). filter (λ (one : Used). has_parts (used_in older) one.parts) used) c.in_ok-stay.ensures
