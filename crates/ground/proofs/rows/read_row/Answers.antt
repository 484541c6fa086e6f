use Rattle.std.proofs.Common.{◌+◌, rules, arith, ◌∙◌, sym, ap, ◌++◌, ◌∷◌, [], ℕ, List}
use Rattle.ground.proofs.Closes.{read_more, index_at}
use Rattle.ground.proofs.rows.read_row.Goals as goal

-- a word is small
pub overflow_cast-word : goal.overflow_cast-word
overflow_cast-word c =
    let is =
    index_at c.args.left.now.words.items (c.args.from + c.loop-i.i) c.word.result c.word.ensures in
    let small = c.requires.small (c.args.from + c.loop-i.i) (omega arith) in
    omega arith

-- one word more
pub loop-i-preserved : goal.loop-i-preserved
loop-i-preserved c =
    let e = c.push_reserved.ensures in
    let i = c.loop-i.invariant in (
      e.items
          ∙ ap (λ (l : List ℕ). l ++ c.word.result ∷ []) i.0
          ∙ sym (read_more c.args.left.now.words.items c.args.from c.loop-i.i c.word.result c.word.ensures),
      search rules,
      search rules,
    )
