-- What stands linked, once a word is changed.
use Rattle.std.proofs.Common.{◌≡◌, ◌≢◌, ℕ, suc, ◌<◌, ◌≤◌, List, [], ◌∷◌, length, set, refl, sym, ap, ◌∙◌, subst, arith}
use Rattle.std.specs.Prelude.{slice_index}
use Rattle.std.proofs.lemmas.List.{get_or-set_other, get_or-set_same, set-get_or}
use Rattle.commons.specs.Bag.{bag, one}
use Rattle.commons.proofs.Bags.{bag-cons, bag-head, one-same}
use Rattle.depot.specs.declared.view.Stack.{Stack}
use Rattle.depot.specs.declared.view.Stack.TheVariants.{Full, Partial, Empty}
use Rattle.depot.specs.Heads.{top_of, count_of, next_head}
use Rattle.depot.specs.Layout.{head_at, stack_at, link_at, head_in, link_in}
use Rattle.depot.specs.Rule.{Linked}

-- a write of a word that is no link leaves each list linked
pub linked-kept : (words new : List ℕ) → ((m : ℕ) → link_in new m ≡ link_in words m) →
    (top : ℕ) (ms : List ℕ) → Linked words top ms → Linked new top ms
linked-kept words new same top [] is = is
linked-kept words new same top (m ∷ ms) is =
    (is.0, linked-kept words new same (link_in new m) ms (subst (λ (t : ℕ). Linked words t ms) (sym (same m)) is.1))

-- and so does a write of a link of a magazine that isn't in the list
pub linked-else : (words new : List ℕ) (x : ℕ) → ((m : ℕ) → m ≢ x → link_in new m ≡ link_in words m) →
    (top : ℕ) (ms : List ℕ) → bag ms x ≡ 0 → Linked words top ms → Linked new top ms
linked-else words new x same top [] none is = is
linked-else words new x same top (m ∷ ms) none is =
    let cons = bag-cons m ms x in
    let other : m ≢ x =
    λ e. let one_of : one m x ≡ 1 = ap (λ (y : ℕ). one y x) e ∙ one-same x in absurd (omega arith) in (
      is.0,
      linked-else words new x same (link_in new m) ms (omega arith)
          (subst (λ (t : ℕ). Linked words t ms) (sym (same m other)) is.1),
    )

-- the top of what is linked stands in the list
pub linked-top : (words : List ℕ) (top m : ℕ) (ms : List ℕ) → Linked words top ms → top ≡ suc m →
    0 < bag ms m
linked-top words top m [] is e = absurd (omega arith)
linked-top words top m (x ∷ ms) is e =
    let same : x ≡ m = omega arith in
    subst (λ (y : ℕ). 0 < bag (x ∷ ms) y) same (bag-head x ms)

-- words
head-below : (k : Stack) → head_at k < 32
head-below Full = omega arith
head-below Partial = omega arith
head-below Empty = omega arith

pub head-kept : (words : List ℕ) (m x : ℕ) (k : Stack) → head_in (set words (link_at m) x) k ≡ head_in words k
head-kept words m x k =
    let low = head-below k in get_or-set_other words (link_at m) (head_at k) x 0 (λ e. absurd (omega arith))

pub link-kept : (words : List ℕ) (k : Stack) (x m : ℕ) → link_in (set words (head_at k) x) m ≡ link_in words m
link-kept words k x m =
    let low = head-below k in get_or-set_other words (head_at k) (link_at m) x 0 (λ e. absurd (omega arith))

pub link-other : (words : List ℕ) (m x j : ℕ) → j ≢ m → link_in (set words (link_at m) x) j ≡ link_in words j
link-other words m x j n =
    get_or-set_other words (link_at m) (link_at j) x 0 (λ e. n (omega arith))

pub link-set : (words : List ℕ) (m x : ℕ) → link_at m < length words → link_in (set words (link_at m) x) m ≡ x
link-set words m x h = get_or-set_same words (link_at m) x 0 h

pub head-set : (words : List ℕ) (k : Stack) (x : ℕ) → 32 ≤ length words → head_in (set words (head_at k) x) k ≡ x
head-set words k x h = let low = head-below k in get_or-set_same words (head_at k) x 0 (omega arith)

-- two stacks, whose heads are two words
abbrev pub Apart : Stack → Stack → Type 0
Apart j k = head_at j ≢ head_at k

pub head-other : (words : List ℕ) (k j : Stack) (x : ℕ) → Apart j k →
    head_in (set words (head_at k) x) j ≡ head_in words j
head-other words k j x apart = get_or-set_other words (head_at k) (head_at j) x 0 apart

-- what holds of a stack and of the other ones holds of each
pub each_stack : (P : Stack → Type 0) (k : Stack) → P k → ((j : Stack) → Apart j k → P j) → (j : Stack) → P j
each_stack P Full here else Full = here
each_stack P Full here else Partial = else Partial (λ e. absurd (omega arith))
each_stack P Full here else Empty = else Empty (λ e. absurd (omega arith))
each_stack P Partial here else Full = else Full (λ e. absurd (omega arith))
each_stack P Partial here else Partial = here
each_stack P Partial here else Empty = else Empty (λ e. absurd (omega arith))
each_stack P Empty here else Full = else Full (λ e. absurd (omega arith))
each_stack P Empty here else Partial = else Partial (λ e. absurd (omega arith))
each_stack P Empty here else Empty = here

pub stack-at : (k : Stack) → stack_at (head_at k) ≡ k
stack-at Full = refl
stack-at Partial = refl
stack-at Empty = refl

-- the next head
pub next-top : (head top : ℕ) → top < 65536 → top_of (next_head head top) ≡ top
next-top head top h = omega arith

pub next-count : (head top : ℕ) → top < 65536 → count_of (next_head head top) ≡ suc (count_of head)
next-count head top h = omega arith

pub words-kept : (words : List ℕ) (i : ℕ) → set words i (slice_index words i) ≡ words
words-kept words i = set-get_or words i 0
