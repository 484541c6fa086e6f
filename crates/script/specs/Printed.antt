-- All that the replay of a script prints.
use Rattle.std.specs.Prelude.{ℕ, ◌≡◌, List, ◌++◌, codes, flat_map}
use Rattle.statement_text.specs.StatementData.{json_of_settled}
use Rattle.script_text.specs.declared.lines.Pools.{Pools}
use Rattle.script_text.specs.Commands.{Line}
use Rattle.script_text.specs.Grammar.{IsScript}
use Rattle.script.specs.Replay.{replies_to, end_of, new_run, settled_of}
use Rattle.script.specs.ReplyText.{reply_line}
use Rattle.statement_text.specs.StatementText.{text_of_settled}

-- the reference model's reply to each line, and what the pools come to at the end
abbrev pub printed_for : Pools → List Line → List ℕ
printed_for pools lines =
    flat_map (λ p. reply_line p.0 p.1) (replies_to lines (new_run pools))
    ++ text_of_settled (settled_of (end_of lines (new_run pools)).stock)

-- the bytes are a script, and this is printed for it
pub record IsPrintedFor (bytes out : List ℕ) : Type 0 where
  pub pools : Pools
  pub lines : List Line
  pub script : IsScript bytes pools lines
  pub printed : out ≡ printed_for pools lines

-- the JSON of what the reference model's pools come to at the end, as one line
abbrev pub json_for : Pools → List Line → List ℕ
json_for pools lines = json_of_settled (settled_of (end_of lines (new_run pools)).stock) ++ codes "\n"

-- the bytes are a script, and this is printed for it as JSON
pub record IsJsonFor (bytes out : List ℕ) : Type 0 where
  pub pools : Pools
  pub lines : List Line
  pub script : IsScript bytes pools lines
  pub printed : out ≡ json_for pools lines
