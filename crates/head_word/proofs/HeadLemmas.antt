-- A word has one count and one top.
use Rattle.std.proofs.Common.{◌≡◌, ℕ, Option, Some, None, refl, sym, ap, ◌∙◌, arith}
use Rattle.head_word.specs.Heads.{OneHead, OneWord, low_of}

-- the low bits tell the top
same_top : (top other : Option ℕ) → low_of top ≡ low_of other → top ≡ other
same_top None None e = refl
same_top None (Some j) e = absurd (omega arith)
same_top (Some i) None e = absurd (omega arith)
same_top (Some i) (Some j) e = ap Some (let h : i ≡ j = omega arith in h)

pub one_word : OneWord
one_word top count word other a b = a.is ∙ sym b.is

pub one_head : OneHead
one_head top other count number word a b =
    let p = a.is in let q = b.is in let l = a.low_in_range in let m = b.low_in_range in
    let counts : count ≡ number = omega arith in
    (same_top top other (omega arith), counts)
