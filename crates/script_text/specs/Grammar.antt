-- The grammar of scripts of commands: which bytes are which script, and which line is the first
-- faulty one.
use Rattle.std.specs.Prelude.{ℕ, List, true}
use Rattle.script_text.specs.declared.lines.Pools.{Pools}
use Rattle.commons.specs.declared.refusal.Refusal.{Refusal}
use Rattle.script_text.specs.declared.commands.Command.{Command}
use Rattle.script_text.specs.Commands.{Line, names_made, needs_second}
use Rattle.script_text.specs.CommandLine.{IsCommand}
use Rattle.script_text.specs.Scripts as scripts
use Rattle.script_text.specs.Scripts.{Language}

-- the language of commands
abbrev pub commands : Language Command
commands = record {
  IsCommand = IsCommand;
  names_made = names_made;
  knows_second = true;
  needs_second = needs_second;
}

-- the bytes are the script with pools of these limits and with these command lines
abbrev pub IsScript : List ℕ → Pools → List Line → Type 0
IsScript bytes pools lines = scripts.IsScript commands bytes pools lines

-- the first faulty line has this number; it is 0 where there are more bytes than a script has
abbrev pub IsFirstFault : List ℕ → ℕ → Type 0
IsFirstFault bytes number = scripts.IsFirstFault commands bytes number

-- the pool line has a reading, as each line before it, and no pools have its numbers
abbrev pub HasBadPool : List ℕ → Type 0
HasBadPool bytes = scripts.HasBadPool commands bytes

-- why the bytes are refused; of a refusal for lack of memory nothing is said, and no other is
-- given
abbrev pub IsCause : List ℕ → Refusal → Type 0
IsCause bytes refusal = scripts.IsCause commands bytes refusal

-- the bytes are some script
abbrev pub IsSomeScript : List ℕ → Type 0
IsSomeScript bytes = scripts.IsSomeScript commands bytes

-- some line of the bytes is the first faulty one
abbrev pub HasSomeFault : List ℕ → Type 0
HasSomeFault bytes = scripts.HasSomeFault commands bytes
