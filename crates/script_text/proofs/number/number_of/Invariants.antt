use Rattle.std.proofs.Common.{◌≡◌, ◌<◌, ◌^◌, true, take}
use Rattle.std.specs.List.{list_all}
use Rattle.script_text.specs.Numbers.{digits_value}
use Rattle.script_text.specs.inside.Reading.{is_digit}
use Rattle.script_text.proofs.number.number_of.Given as goal

-- the bytes so far are digits, and this is their value
abbrev pub invariant-loop-byte : goal.invariant-loop-byte
invariant-loop-byte l = record {
  fits : l.value < 2 ^ 64;
  value_is : l.value ≡ digits_value (take l.byte-index l.word);
  digits : list_all is_digit (take l.byte-index l.word) ≡ true;
}
