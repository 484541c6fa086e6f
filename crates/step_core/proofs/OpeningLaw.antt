-- The opening world is lawful.
use Rattle.std.proofs.Common.{◌≡◌, ℕ, zero, suc, ◌+◌, ◌*◌, ◌<◌, ◌≤◌, ◌≢◌, Some, None, length, get_or, replicate, refl, sym, ap, ◌∙◌, subst, arith, ⊎_elim}
use Rattle.std.specs.Prelude.{IfSome, sum_by, slice_index, ◌==◌}
use Rattle.std.proofs.lemmas.Bool.{cases_lt}
use Rattle.std.proofs.lemmas.List.{length-replicate, get_or-replicate, get_or_past}
use Rattle.std.proofs.lemmas.List.Folds.{sum_by-replicate}
use Rattle.commons.specs.Bag.{bag}
use Rattle.step_core.specs.Bags.{one_if, below}
use Rattle.step_core.specs.World.{Limits, Head, View, Desk, Packet, empty_view, no_desk, desk_at, link_in, shelf, every_part, worker_part}
use Rattle.step_core.specs.Links.{Path, Spells, first_value}
use Rattle.step_core.specs.Law.{left_in, fills, empties}
use Rattle.step_core.specs.Opening.{count_up, links_up, opening}
use Rattle.step_core.proofs.Rules.{StackView, CountView, FourLaws}
use Rattle.step_core.proofs.Bags.{times-nil, times-cons, below-at, below-past, one_if-cases}

spells_up : (f : ℕ → ℕ) (i n : ℕ) → ((j : ℕ) → j < n → f (i + j) ≡ slice_index (links_up i n) j) →
    Spells f (first_value (count_up i n)) (count_up i n)
spells_up f i zero h = refl
spells_up f i (suc zero) h = (refl, ap f (let e : i ≡ i + 0 = omega arith in e) ∙ h 0 (omega arith))
spells_up f i (suc (suc n)) h = (
  refl,
  subst (λ (v : ℕ). Path f v (count_up (suc i) (suc n)) 0)
      (sym (ap f (let e : i ≡ i + 0 = omega arith in e) ∙ h 0 (omega arith)))
      (spells_up f (suc i) (suc n) (λ j l. ap f (let e : suc i + j ≡ i + suc j = omega arith in e)
      ∙ h (suc j) (omega arith))),
)

times-count_up : (x i n : ℕ) → bag (count_up i n) x + below i x ≡ below (i + n) x
times-count_up x i zero = let e : i + 0 ≡ i = omega arith in let m = ap (λ k. below k x) e in omega (arith, times-nil x)
times-count_up x i (suc n) =
    let more = times-count_up x (suc i) n in
    let e : suc i + n ≡ i + suc n = omega arith in let m = ap (λ k. below k x) e in
    let b : below (suc i) x ≡ below i x + one_if (i == x) = next in
    omega (arith, times-cons x i (count_up (suc i) n))
  where
    next : below (suc i) x ≡ below i x + one_if (i == x)
    next = ⊎_elim
        (λ (s : (i ≡ x) × (one_if (i == x) ≡ 1)). let h =
        s.0 in let t =
        s.1 in omega (arith, below-at (suc i) x (omega arith), below-past i x (omega arith)))
        (λ (s : (i ≢ x) × (one_if (i == x) ≡ 0)). let h = s.0 in let t = s.1 in
        ⊎_elim
        (λ (l : x < i). omega (arith, below-at (suc i) x (omega arith), below-at i x l))
        (λ (l : i ≤ x). omega (arith, below-past (suc i) x (omega arith), below-past i x l))
        (cases_lt x i))
        (one_if-cases i x)

pub length-links_up : (i n : ℕ) → length (links_up i n) ≡ n
length-links_up i zero = refl
length-links_up i (suc zero) = refl
length-links_up i (suc (suc n)) = ap suc (length-links_up (suc i) (suc n))

length-count_up : (i n : ℕ) → length (count_up i n) ≡ n
length-count_up i zero = refl
length-count_up i (suc n) = ap suc (length-count_up (suc i) n)

links_up-range : (i n j : ℕ) → slice_index (links_up i n) j ≤ i + n
links_up-range i zero j = omega arith
links_up-range i (suc zero) zero = omega arith
links_up-range i (suc zero) (suc j) = omega arith
links_up-range i (suc (suc n)) zero = omega arith
links_up-range i (suc (suc n)) (suc j) = let m = links_up-range (suc i) (suc n) j in omega arith

first_up-range : (n : ℕ) → first_value (count_up 0 n) ≤ n
first_up-range zero = omega arith
first_up-range (suc n) = omega arith

-- a list of one thing, read anywhere
read_same : {X : Type 0} (P : X → Type 0) (n : ℕ) (x d : X) → P x → P d → (k : ℕ) → P (get_or (replicate n x) k d)
read_same P n x d here past k = ⊎_elim
    (λ (l : k < n). subst P (sym (get_or-replicate n k x d l)) here)
    (λ (l : n ≤ k). subst P (sym (get_or_past (replicate n x) k d (let e = length-replicate n x in omega arith))) past)
    (cases_lt k n)

no_sum : {X : Type 0} (f : X → ℕ) (n : ℕ) (x : X) → f x ≡ 0 → sum_by f (replicate n x) ≡ 0
no_sum f n x e = sum_by-replicate f n x ∙ (ap (λ y. n * y) e ∙ omega arith)

quiet_view : (population workers : ℕ) (head : Head) (link : ℕ → ℕ) (part : ℕ) →
    StackView population workers head link (empty_view part)
quiet_view population workers head link part = record {
  seen = omega arith;
  look = tt;
  chain = tt;
  no_hand = λ e. refl;
  no_credit = λ e. refl;
  no_look = λ e. refl;
  no_chain = λ e. refl;
}

pub opening_lawful : (l : Limits) → 1 ≤ l.ref_limit → FourLaws (opening l)
opening_lawful l some = record {
  stack = record {
    common = count_up 0 l.population;
    spelled =
        spells_up (link_in (links_up 0 l.population)) 0 l.population
        (λ j le. ap (link_in (links_up 0 l.population)) (let e : 0 + j ≡ j = omega arith in e));
    one_place = λ i.
        (let h = no_sum (λ (v : View). bag v.hand i) l.workers (empty_view worker_part) (times-nil i) in
        let z = no_sum (λ (v : View). bag v.zeros i) l.workers (empty_view worker_part) (times-nil i) in
        let b = no_sum (λ (v : View). bag v.holds i) l.workers (empty_view worker_part) (times-nil i) in
        let s = no_sum (λ (d : Desk). bag (shelf d) i) l.desks no_desk (times-nil i) in
        let e : 0 + l.population ≡ l.population = omega arith in
        let c = times-count_up i 0 l.population in let m = ap (λ n. below n i) e in
        omega (arith, below-past 0 i (omega arith)));
    credited =
        (
        let c = no_sum (λ (v : View). v.credit) l.workers (empty_view worker_part) refl in
        omega (arith, length-count_up 0 l.population));
    views =
        read_same (StackView l.population (every_part l) _ _) l.workers (empty_view worker_part) (empty_view 0)
        (quiet_view l.population (every_part l) _ _ worker_part) (quiet_view l.population (every_part l) _ _ 0);
    parts = sum_by-replicate (λ (v : View). v.part) l.workers (empty_view worker_part) ∙ omega arith;
    all_links = length-links_up 0 l.population;
    links_in_range = λ i. (let a = links_up-range 0 l.population i in omega arith);
    top_in_range = first_up-range l.population;
  };
  counts = record {
    counted = λ i le.
        (let z = no_sum (λ (v : View). bag v.zeros i) l.workers (empty_view worker_part) (times-nil i) in
        let b = no_sum (λ (v : View). bag v.holds i) l.workers (empty_view worker_part) (times-nil i) in
        let s = no_sum (λ (d : Desk). bag (shelf d) i) l.desks no_desk (times-nil i) in
        let c : slice_index (replicate l.population 1) i ≡ 1 = get_or-replicate l.population i 1 0 le in omega arith);
    limited = read_same (λ n. n ≤ l.ref_limit) l.population 1 0 some (omega arith);
    some_limit = some;
    all_counts = length-replicate l.population 1;
    views =
        read_same CountView l.workers (empty_view worker_part) (empty_view 0)
        (record { no_zeros = λ e. refl; no_holds = λ e. refl })
        (record { no_zeros = λ e. refl; no_holds = λ e. refl });
  };
  desks = record {
    words = read_same (λ d. d.word ≤ 3) l.desks no_desk no_desk (omega arith) (omega arith);
    filled =
        λ d. no_sum (λ (v : View). fills d v.work) l.workers (empty_view worker_part) refl
        ∙ sym (read_same (λ e. one_if (e.word == 1) ≡ 0) l.desks no_desk no_desk refl refl d);
    emptied =
        λ d. no_sum (λ (v : View). empties d v.work) l.workers (empty_view worker_part) refl
        ∙ sym (read_same (λ e. one_if (e.word == 3) ≡ 0) l.desks no_desk no_desk refl refl d);
    empty = read_same (λ e. e.word ≡ 0 → e.slot ≡ None) l.desks no_desk no_desk (λ h. refl) (λ h. refl);
    full =
        read_same (λ e. e.word ≡ 2 → (p : Packet) × (e.slot ≡ Some p)) l.desks no_desk no_desk
        (λ h. absurd (omega arith)) (λ h. absurd (omega arith));
    views = read_same (λ v. v.part ≡ 0 → v.work ≡ None) l.workers (empty_view worker_part) (empty_view 0) (λ e. refl) (λ e. refl);
  };
  slots =
      record {
        slots =
            read_same (λ v.
            IfSome v.work
            (λ x. (desk_at (replicate l.desks no_desk) x.desk).slot ≡ left_in x.phase))
            l.workers (empty_view worker_part) (empty_view 0) tt tt;
      };
}
