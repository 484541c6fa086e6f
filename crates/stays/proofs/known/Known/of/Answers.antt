use Rattle.std.proofs.Common.{Bool, true, cond, List, ap, sym, ◌∙◌}
use Rattle.std.specs.Cmp.Lexicographic.{pointwise}
use Rattle.stays.specs.Stays.{same_part}
use Rattle.stays.specs.declared.used.Part.{Part}
use Rattle.stays.specs.inside.Knowing.{has_key}
use Rattle.stays.proofs.Knowing.{has_key-more, has_parts-more}
use Rattle.stays.proofs.known.Known.of.Goals as goal

-- the table has one packet more, as the packets so far have
pub loop-one-preserved : goal.loop-one-preserved
loop-one-preserved c = λ parts.
    let old = c.loop-one.keys in
    let one = c.in-Some.one in
    has_key-more old c.insert.new.self c.into_vec.result c.in_ok-insert.field-0 c.in_ok-insert.ensures.added
    c.in_ok-insert.ensures.keys parts
    ∙ ap (λ (key : List Part). cond (pointwise same_part key parts) true (has_key old parts)) c.into_vec.ensures
    ∙ ap (λ (b : Bool). cond (pointwise same_part one.parts parts) true b) (c.loop-one.invariant parts)
    ∙ sym (has_parts-more c.loop-one.yielded one parts)
