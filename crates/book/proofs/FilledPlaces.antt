-- Shares that are put in a book.
use Rattle.std.proofs.Common.{ℕ, ◌≡◌, ◌<◌, inl, inr, List, length, get_or, set, Option, Some, None, sym, ◌∙◌, ap, get_or-set_same, get_or-set_other}
use Rattle.std.proofs.lemmas.Bool.{cases_eq}
use Rattle.std.proofs.lemmas.Option.{same_Some}
use Rattle.mbuf.specs.Members.{Member}
use Rattle.book.specs.Books.{AreShares, IsShare}

-- one share more, in the place of its worker
pub one_more : (places : List (Option Member)) (k : ℕ) (s : Member) → AreShares places → k < length places → IsShare k s →
    AreShares (set places k (Some s))
one_more places k s each l is n m e = elim (cases_eq n k) [
  | inl same ↦
      let at_n = ap (λ i. get_or (set places k (Some s)) i None) (sym same) ∙ e in
      let here : Some s ≡ Some m = sym (get_or-set_same places k (Some s) None l) ∙ at_n in
      rw (same, ← same_Some s m here) is
  | inr other ↦ each n m (sym (get_or-set_other places k n (Some s) None other) ∙ e)
]
