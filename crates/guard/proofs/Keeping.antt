-- What is taken out of the list of a worker's elements, and what is added to it.
use Rattle.std.proofs.Common.{◌≡◌, ℕ, ◌+◌, ◌-◌, ◌<◌, ◌≤◌, List, [], ◌∷◌, ◌++◌, Option, Some, None, length, slice_index_or, refl, sym, ap, ◌∙◌, subst, arith}
use Rattle.std.specs.Prelude.{MatchOption}
use Rattle.std.specs.List.{remove}
use Rattle.std.specs.Option.{option_to_list}
use Rattle.std.proofs.lemmas.List.{length-append, append-nil}
use Rattle.commons.specs.Bag.{bag, one}
use Rattle.commons.proofs.Bags.{bag-cons, bag-append, bag-single}
use Rattle.guard.specs.Keeping.{Keep, Takes}

-- those that are ready, and those that wait
abbrev pub keep : List ℕ → List ℕ → ℕ → ℕ → Keep
keep xs ys most near = record { items = xs ++ ys; most = most; near = near - length xs }

nothing : (xs : List ℕ) → length xs ≡ 0 → xs ≡ []
nothing [] h = refl
nothing (x ∷ xs) h = absurd (omega arith)

-- two lists have an element more than two others
pub taken : (e : ℕ) (us vs xs ys : List ℕ) (most near : ℕ) → length xs + length ys + 1 ≡ length us + length vs →
    ((i : ℕ) → bag us i + bag vs i ≡ one e i + (bag xs i + bag ys i)) → length us + length vs ≤ most →
    Takes e (keep us vs most near) (keep xs ys most near)
taken e us vs xs ys most near less items room = record {
  items = λ i. let a = bag-append us vs i in let b = bag-append xs ys i in let c = items i in omega arith;
  less = let a = length-append us vs in let b = length-append xs ys in omega arith;
  room = let b = length-append xs ys in omega arith;
  most = refl;
}

pub takes-of : (e : ℕ) (k a b : Keep) → a ≡ k → Takes e a b → Takes e k b
takes-of e k a b is takes = subst (λ (x : Keep). Takes e x b) is takes

pub adds-to : (e : ℕ) (k a b : Keep) → b ≡ k → Takes e a b → Takes e a k
adds-to e k a b is takes = subst (λ (x : Keep). Takes e a x) is takes

-- an element at the end
pub more-last : (e : ℕ) (us xs : List ℕ) → us ≡ xs ++ e ∷ [] → (i : ℕ) → bag us i ≡ one e i + bag xs i
more-last e us xs is i =
    let all = ap (λ (l : List ℕ). bag l i) is in let more = bag-append xs (e ∷ []) i in
    let single = bag-single e i in omega arith

pub longer-last : (e : ℕ) (us xs : List ℕ) → us ≡ xs ++ e ∷ [] → length us ≡ length xs + 1
longer-last e us xs is =
    let all = ap (λ (l : List ℕ). length l) is in let more = length-append xs (e ∷ []) in omega arith

-- an element in front
pub more-first : (e : ℕ) (us xs : List ℕ) → us ≡ e ∷ xs → (i : ℕ) → bag us i ≡ one e i + bag xs i
more-first e us xs is i = let all = ap (λ (l : List ℕ). bag l i) is in let more = bag-cons e xs i in omega arith

pub is-first : (e : ℕ) (us xs : List ℕ) → 0 < length us → e ≡ slice_index_or us 0 e → xs ≡ remove us 0 → us ≡ e ∷ xs
is-first e [] xs some is rest = absurd (omega arith)
is-first e (a ∷ us) xs some is rest = ap (λ (x : ℕ). x ∷ us) (sym is) ∙ ap (λ (l : List ℕ). e ∷ l) (sym rest)

-- the last of those that are ready, where there is one
pub takes-last : (r : Option ℕ) (k : Keep) (us vs xs : List ℕ) (most near : ℕ) → keep us vs most near ≡ k →
    us ≡ xs ++ option_to_list r → length us + length vs ≤ most →
    MatchOption r (keep xs vs most near ≡ k) (λ e. Takes e k (keep xs vs most near))
takes-last None k us vs xs most near is cut room =
    ap (λ (l : List ℕ). keep l vs most near) (sym (append-nil xs) ∙ sym cut) ∙ is
takes-last (Some e) k us vs xs most near is cut room =
    takes-of e k (keep us vs most near) (keep xs vs most near) is
    (taken e us vs xs vs most near (let a = longer-last e us xs cut in omega arith)
    (λ i. let a = more-last e us xs cut i in omega arith) room)

-- the first of those that wait, where there is one, and none is ready
pub takes-first : (r : Option ℕ) (k : Keep) (us vs ys : List ℕ) (most near n m : ℕ) (P : ℕ → Type 0) → keep us vs most near ≡ k →
    length us ≡ 0 → vs ≡ option_to_list r ++ ys → length vs ≡ n → MatchOption r ((n ≡ 0) × (m ≡ 0)) P →
    length us + length vs ≤ most → 0 < most →
    MatchOption r ((keep us ys most near ≡ k) × (k.items ≡ []) × (0 < k.most)) (λ e. Takes e k (keep us ys most near))
takes-first None k us vs ys most near n m P is none cut size cases room some = (
  ap (λ (l : List ℕ). keep us l most near) (sym cut) ∙ is,
  sym (ap (λ (a : Keep). a.items) is) ∙ ap (λ (l : List ℕ). l ++ vs) (nothing us none) ∙ nothing vs (size ∙ cases.0),
  subst (λ (a : Keep). 0 < a.most) is some,
)
takes-first (Some e) k us vs ys most near n m P is none cut size cases room some =
    takes-of e k (keep us vs most near) (keep us ys most near) is
    (taken e us vs us ys most near (let all = ap (λ (l : List ℕ). length l) cut in omega arith)
    (λ i. let a = more-first e vs ys cut i in omega arith) room)
