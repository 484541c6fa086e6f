use Rattle.std.proofs.Common.{ap, ◌∙◌}
use Rattle.serde_json.specs.Written.{compact_text, has_float}
use Rattle.stays.proofs.NoFloats.{stays_whole}
use Rattle.stays.proofs.as_json.compact.Goals as goal

-- the value has no float, so its text is the compact one
pub returns : goal.returns
returns c =
    let is = c.in_ok-stays.ensures in
    c.in_ok-text.ensures.text (ap has_float is ∙ stays_whole c.args.stay.now) ∙ ap compact_text is
