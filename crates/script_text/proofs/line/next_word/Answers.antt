use Rattle.std.proofs.Common.{◌-◌, length, take, drop, sym}
use Rattle.std.proofs.lemmas.List.{take_rest}
use Rattle.script_text.proofs.CutLemmas.{words_cut, words_missing}
use Rattle.script_text.proofs.line.next_word.Goals as goal

-- a line in which every byte is a space has no word
pub returns-in_err-start-clause-words : goal.returns-in_err-start-clause-words
returns-in_err-start-clause-words c =
    rw c.from_residual.ensures (words_missing c.args.line.now (sym c.in_err-start.ensures))

-- the word begins at the first byte that is no space, and ends before the next space or line end
pub returns-clause-words : goal.returns-clause-words
returns-clause-words c =
    let line = c.args.line.now in
    let start = c.in_ok-start.start in
    let text = take (length line - start) (drop start line) in
    let len = c.unwrap_or-len.result in
    words_cut line text (take (length text - len) (drop len text)) start len
    (sym c.in_ok-start.ensures) (take_rest line start)
    (rw c.first_space.ensures at c.unwrap_or-len.ensures) (take_rest text len)
