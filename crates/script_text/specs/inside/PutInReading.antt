-- How the words of a step that puts a packet into a slot are read, as functions on lists,
-- for the crate's own functions. Of public clauses those alone cite this module that look at single words.
use Rattle.std.specs.Prelude.{ℕ, ◌+◌, if◌then◌else◌, ◌==◌, nat_le, List, [], ◌∷◌, ◌++◌, length, Option, Some, None, option_and_then, take, drop, position}
use Rattle.script_text.specs.declared.steps.Step.{Step}
use Rattle.script_text.specs.declared.steps.Step.TheVariants.{PutIn}
use Rattle.script_text.specs.declared.steps.StepSegment.{StepSegment}
use Rattle.script_text.specs.inside.Reading.{number_at, short_number_at}

-- a direct segment
abbrev pub direct : ℕ → StepSegment
direct element = record { element = element; base = None }

-- a segment that uses another element's buffer
abbrev pub indirect : ℕ → ℕ → StepSegment
indirect element base = record { element = element; base = Some base }

-- the segment of a word in which a `>` stands there
abbrev pub segment_by : Option ℕ → List ℕ → Option StepSegment
segment_by None word = option_and_then (λ element. Some (direct element)) (number_at word)
segment_by (Some end) word = option_and_then
    (λ element. option_and_then (λ base. Some (indirect element base))
    (number_at (drop (end + 1) word))) (number_at (take end word))

-- the segment that a word spells
abbrev pub segment_at : List ℕ → Option StepSegment
segment_at word = segment_by (position (λ byte. byte == 62) word) word

-- the segments so far and those that the words spell, where they are 1 to 32
unfoldable pub segments_from : List StepSegment → List (List ℕ) → Option (List StepSegment)
segments_from so_far [] = if nat_le 1 (length so_far) then Some so_far else None
segments_from so_far (word ∷ words) =
    if length so_far == 32 then None else option_and_then
    (λ segment. segments_from (so_far ++ segment ∷ []) words) (segment_at word)

-- the step, from the words after its verb
abbrev pub put_in_from : List (List ℕ) → Option Step
put_in_from [] = None
put_in_from (number ∷ words) = option_and_then
    (λ desk. option_and_then (λ segments. Some (PutIn desk segments)) (segments_from [] words))
    (short_number_at number)
