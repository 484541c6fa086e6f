use Rattle.std.proofs.Common.{◌≡◌, ◌≤◌, ◌++◌, true, length}
use Rattle.std.specs.List.{list_all}
use Rattle.script_text.specs.inside.Reading.{is_name_word, words_of}
use Rattle.script_text.proofs.command_line.names_of.Given as goal

-- the words so far are names, and those that are left stand behind them
abbrev pub invariant-loop-word : goal.invariant-loop-word
invariant-loop-word l = record {
  split : words_of l.rest ≡ l.names.items ++ words_of l.left;
  named : list_all is_name_word l.names.items ≡ true;
  few : length l.names.items ≤ 256;
}

abbrev pub decreases-loop-word : goal.decreases-loop-word
decreases-loop-word l = length l.left
