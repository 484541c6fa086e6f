-- What is told of a script that isn't read.
use Rattle.std.specs.Prelude.{ℕ, List, ◌++◌, codes, decimal}
use Rattle.script_reasons.specs.declared.reason.Explanation.{Explanation}
use Rattle.script_reasons.specs.declared.reason.Reason.{Reason}
use Rattle.script_reasons.specs.declared.reason.Reason.TheVariants as reasons
use Rattle.script_reasons.specs.declared.reason.Layout as layouts
use Rattle.script_reasons.specs.declared.reason.Layout.TheVariants.{ManyBytes, LongLine, Unended, NoPool, PoolTwice, ManyCommands, ManyNames, ManySegments}
use Rattle.script_reasons.specs.declared.reason.WordFault.{WordFault}
use Rattle.script_reasons.specs.declared.reason.WordFault.TheVariants.{BeforePool, UnknownKey, KeyAlone, KeyTwice, NeedsSecond, SecondOfSteps, NotDecimal, LongNumber, LargeNumber, WorkerAlone, UnknownCommand, UnknownStep, NotName, NameTwice, NotElement, NotSegment}

-- the sentence on the form of a text or of a line
abbrev pub sentence_of : layouts.Layout → List ℕ
sentence_of ManyBytes = codes "a script has at most 1048576 bytes"
sentence_of LongLine = codes "a line has at most 8192 bytes"
sentence_of Unended = codes "the line has no end: put a line feed behind it"
sentence_of NoPool = codes "there is no pool line: write 'pool N', with N elements"
sentence_of PoolTwice = codes "a second pool line: a script has one"
sentence_of ManyCommands = codes "a script has at most 10000 lines behind the pool line"
sentence_of ManyNames = codes "a bulk has at most 256 names"
sentence_of ManySegments = codes "a packet has at most 32 segments"

-- what stands in front of a word that is wrong
abbrev pub before_word : WordFault → List ℕ
before_word UnknownKey = codes "unknown key '"
before_word UnknownCommand = codes "unknown command '"
before_word UnknownStep = codes "unknown step '"
before_word _ = codes "'"

-- and what behind it
abbrev pub after_word : WordFault → List ℕ
after_word BeforePool = codes "' stands before the pool line: write 'pool N' first"
after_word UnknownKey = codes "'"
after_word KeyAlone = codes "' has no number: write one behind it"
after_word KeyTwice = codes "' stands twice: give it once"
after_word NeedsSecond = codes "' needs a second pool: give 'second N' on the pool line"
after_word SecondOfSteps = codes "' is for scripts of commands: steps have one pool"
after_word NotDecimal = codes "' is not a number: write 1 to 20 decimal digits"
after_word LongNumber = codes "' is too long: a number has 1 to 20 digits"
after_word LargeNumber = codes "' is above 18446744073709551615"
after_word WorkerAlone = codes "' has no command: write one behind it"
after_word UnknownCommand = codes "'"
after_word UnknownStep = codes "'"
after_word NotName = codes "' is not a name: write 1 to 16 of a to z and 0 to 9, a letter first"
after_word NameTwice = codes "' is made twice in this line: give each packet its own name"
after_word NotElement = codes "' is not an element: write a number, or - for the end"
after_word NotSegment = codes "' is not a segment: write E, or E>B with a base B"

-- a word in quotes
abbrev pub quoted : List ℕ → List ℕ
quoted word = codes "'" ++ word ++ codes "'"

-- a number, what it is a number of, and another one behind these words
abbrev pub numbers_text : List ℕ → ℕ → List ℕ → ℕ → List ℕ
numbers_text what value words other =
    what ++ codes " " ++ decimal value ++ words ++ decimal other

-- which line made a name
unfoldable pub maker_text : ℕ → List ℕ
maker_text line =
    codes " is made by line " ++ decimal line ++ codes ": give each packet its own name"

-- the sentence on what is wrong in a line
abbrev pub reason_text : Reason → List ℕ
reason_text (reasons.Layout layout) = sentence_of layout
reason_text (reasons.Byte byte) =
    codes "byte " ++ decimal byte
    ++ codes " is not of a line: write spaces and printed ASCII characters"
reason_text (reasons.Word fault word) = before_word fault ++ word.now ++ after_word fault
reason_text (reasons.Missing usage) =
    codes "a word is missing: write '" ++ usage.now ++ codes "'"
reason_text (reasons.Extra word usage) =
    quoted word.now ++ codes " is a word too many: write " ++ quoted usage.now
reason_text (reasons.Above what value most) =
    numbers_text what.now value (codes " is above ") most
reason_text (reasons.Below what value least) =
    numbers_text what.now value (codes " is below ") least
reason_text (reasons.Threshold what cache elements) =
    numbers_text what.now cache (codes " needs a pool of at least ") elements
reason_text (reasons.Made name line) = quoted name.now ++ maker_text line

-- the line and the column in front of the sentence
unfoldable pub place_text : ℕ → ℕ → List ℕ
place_text line column =
    codes "line " ++ decimal line ++ codes ", column " ++ decimal column ++ codes ": "

-- the explanation, as it is written
abbrev pub text_of : Explanation → List ℕ
text_of explanation =
    place_text explanation.line explanation.column ++ reason_text explanation.reason
