-- What is printed of each line of a script of steps, and which world the lines lead to.
use Rattle.std.specs.Prelude.{ℕ, min, Bool, true, false, List, [], ◌∷◌, ◌++◌, map, length, nat_le, ◌&&◌, Option, None, Some, option_map, option_and_then, codes, decimal, if◌then◌else◌}
use Rattle.commons.specs.declared.refusal.Refusal.TheVariants.{StepRefused}
use Rattle.commons.specs.Refusals.{name_of, number_of}
use Rattle.script_text.specs.declared.steps.Step.{Step as Asked}
use Rattle.script_text.specs.declared.steps.Step.TheVariants as asked
use Rattle.script_text.specs.declared.steps.StepSegment.{StepSegment}
use Rattle.script_text.specs.StepLine.{StepLine}
use Rattle.step_core.specs.World.{World, Limits, Seg, Packet}
use Rattle.step_core.specs.declared.step.Step.{Step}
use Rattle.step_core.specs.declared.step.Step.TheVariants.{LoadLength, Reserve, Add, LoadHead, LoadLink, Cut, StoreLink, Push, Claim, Sole, Raise, Lower, Reset, Hold, PutIn, Open, Seize, TakeOut, Clear}
use Rattle.step_core.specs.declared.step.Outcome.{Outcome}
use Rattle.step_core.specs.declared.step.Outcome.TheVariants.{Value, HeadIs, Won, Got, Lost, LostTo, Done, Found}
use Rattle.step_core.specs.Steps.{play}
use Rattle.element_text.specs.Elements.{joined}
use Rattle.step_text.specs.WorldText.{end_text, head_text, segment_text}

-- the number of an element; the end has one that no pool has
abbrev pub number_or_none : Option ℕ → ℕ
number_or_none None = 18446744073709551615
number_or_none (Some element) = element

-- the number of an element in a segment; one that is too long for it becomes one that no pool has
abbrev pub in_segment : ℕ → ℕ
in_segment number = min number 4294967295

-- the segment without data, after the headroom of a fresh mbuf
abbrev pub segment_of : Limits → StepSegment → Seg
segment_of limits s = record {
  elem = in_segment s.element;
  base = option_map in_segment s.base;
  data_off = min 128 limits.buf;
  data_len = 0;
  buf_len = limits.buf;
}

-- the packet of 1 to 32 segments; of none or more there is no packet
abbrev pub packet_of : Limits → List StepSegment → Option Packet
packet_of limits segments =
    if nat_le 1 (length segments) && nat_le (length segments) 32
    then Some (map (segment_of limits) segments) else None

-- the step that a line asks for, in a pool within these limits
abbrev pub step_of : Limits → Asked → Option Step
step_of limits asked.LoadLength = Some LoadLength
step_of limits (asked.Reserve old n) = Some (Reserve old n)
step_of limits (asked.Add n) = Some (Add n)
step_of limits asked.LoadHead = Some LoadHead
step_of limits (asked.LoadLink element) = Some (LoadLink (number_or_none element))
step_of limits asked.Cut = Some Cut
step_of limits (asked.StoreLink element next) = Some (StoreLink (number_or_none element) next)
step_of limits asked.Push = Some Push
step_of limits (asked.Claim element) = Some (Claim (number_or_none element))
step_of limits (asked.Sole element free) = Some (Sole (number_or_none element) free)
step_of limits (asked.Raise element old) = Some (Raise (number_or_none element) old)
step_of limits (asked.Lower element) = Some (Lower (number_or_none element))
step_of limits (asked.Reset element) = Some (Reset (number_or_none element))
step_of limits (asked.Hold desk) = Some (Hold desk)
step_of limits (asked.PutIn desk segments) = option_map (PutIn desk) (packet_of limits segments)
step_of limits (asked.Open desk) = Some (Open desk)
step_of limits (asked.Seize desk) = Some (Seize desk)
step_of limits (asked.TakeOut desk) = Some (TakeOut desk)
step_of limits (asked.Clear desk) = Some (Clear desk)

-- what a line's step answers and makes of the world; None where it is refused
abbrev pub play_line : World → StepLine → Option (Outcome × World)
play_line w line = option_and_then (play w line.worker) (step_of w.limits line.command)

-- whether what the step reads is a link
abbrev pub reads_link : Asked → Bool
reads_link (asked.LoadLink element) = true
reads_link _ = false

-- a number that was read, as a link or as it is
abbrev pub value_text : Bool → ℕ → List ℕ
value_text true value = codes "link " ++ end_text value
value_text false value = codes "value " ++ decimal value

-- what a step answers
abbrev pub outcome_text : Bool → Outcome → List ℕ
outcome_text link (Value value) = value_text link value
outcome_text link (HeadIs head) = head_text head
outcome_text link Won = codes "won"
outcome_text link (Got elements) = codes "won" ++ joined decimal elements
outcome_text link (Lost value) = codes "lost " ++ decimal value
outcome_text link (LostTo head) = codes "lost " ++ head_text head
outcome_text link Done = codes "done"
outcome_text link (Found packet) = codes "packet" ++ joined segment_text packet

-- the refusal of a step, whose condition fails
abbrev pub refused_text : List ℕ
refused_text =
    codes "refused " ++ decimal (number_of StepRefused) ++ codes " " ++ name_of StepRefused

-- what is reported of a step that was played, or refused
abbrev pub reply_of : Asked → Option Outcome → List ℕ
reply_of step None = refused_text
reply_of step (Some outcome) = outcome_text (reads_link step) outcome

-- the line that tells it, with the number of the line that asked
unfoldable pub answer_line : StepLine → Option Outcome → List ℕ
answer_line line outcome =
    decimal line.number ++ codes ": " ++ reply_of line.command outcome ++ codes "\n"

-- a refused step leaves the world as it was
abbrev pub left_by : Option (Outcome × World) → World → World
left_by None w = w
left_by (Some (outcome, after)) w = after

-- what is reported of a line in a world
abbrev pub line_text : World → StepLine → List ℕ
line_text w line = answer_line line (option_map (λ p. p.0) (play_line w line))

-- the world after a line
abbrev pub after_line : World → StepLine → World
after_line w line = left_by (play_line w line) w

-- the replies to all lines, each on the world that those before it left
abbrev pub lines_text : World → List StepLine → List ℕ
lines_text w [] = []
lines_text w (line ∷ lines) = line_text w line ++ lines_text (after_line w line) lines

-- the world after all lines
abbrev pub after_lines : World → List StepLine → World
after_lines w [] = w
after_lines w (line ∷ lines) = after_lines (after_line w line) lines
