-- Other views that sum up to the same keep a world's laws: a view that is cut in two, two views
-- that are made one, and the view of a pool's only seat in the place of one for each worker. A
-- header may end there.
use Rattle.std.proofs.Common.{◌≡◌, ℕ, zero, suc, ◌+◌, ◌-◌, ◌*◌, ◌<◌, ◌≤◌, ◌≢◌, Bool, true, List, [], ◌∷◌, ◌++◌, Option, None, filter, length, replicate, set, refl, sym, ap, subst, ◌∙◌, arith, ⊎_elim, get_or-set_other}
use Rattle.std.specs.Prelude.{sum_by, IfSome}
use Rattle.std.proofs.lemmas.Bool.{cases_eq, cases_lt, cond_both, ltb-true}
use Rattle.std.proofs.lemmas.List.{length-append, length-set}
use Rattle.std.proofs.lemmas.List.Folds.{sum_by-replicate}
use Rattle.std.proofs.lemmas.List.Sums.{sum_by-set, sum_by-cons, sum_by_push}
use Rattle.commons.specs.Bag.{bag}
use Rattle.commons.specs.declared.limits.Limits.{Limits}
use Rattle.commons.specs.Packets.{holds_of_packet, own_of_packet}
use Rattle.commons.proofs.PacketBags.{own_held}
use Rattle.step_core.specs.Bags.{Includes, has, minus, without}
use Rattle.step_core.specs.declared.view.Chain.{Chain}
use Rattle.step_core.specs.declared.view.View.{View}
use Rattle.step_core.specs.World.{World, Packet, view_at, desk_at, link_in, empty_view, worker_part, every_part}
use Rattle.step_core.specs.Law.{Lawful, fills, empties, left_in}
use Rattle.step_core.specs.Headers.{HeaderLaw, OwnsHeaders}
use Rattle.step_core.specs.Opening.{opening}
use Rattle.step_core.proofs.Rules.{StackView, CountView, ChainParts, FourLaws}
use Rattle.step_core.proofs.Regroup.{four_of_eight, eight_of_four}
use Rattle.step_core.proofs.OpeningLaw.{opening_lawful}
use Rattle.step_core.proofs.Bags.{times-nil, times-cons, times-other, times-append, times-one, times-not_one, times-minus, times-without_here, times-without_other, at_or_else}
use Rattle.step_core.proofs.Frame.{each_view}
use Rattle.step_core.proofs.HeaderWalks.{opens_with_headers}
use Rattle.step_core.proofs.StackSteps.{one_view, if_some}
use Rattle.ground.specs.Own.{AtRest}
use Rattle.ground.specs.Opening.{opening_alone}
use Rattle.ground.specs.Parting.{less, lending, loan_of, parting, parcel_view, both_views}

-- what is summed over the views is as before, and there are no more headers
record SameSums (before after : List View) : Type 0 where
  hand : (i : ℕ) → sum_by (λ v. bag v.hand i) after ≡ sum_by (λ v. bag v.hand i) before
  zeros : (i : ℕ) → sum_by (λ v. bag v.zeros i) after ≡ sum_by (λ v. bag v.zeros i) before
  holds : (i : ℕ) → sum_by (λ v. bag v.holds i) after ≡ sum_by (λ v. bag v.holds i) before
  headers : (i : ℕ) → sum_by (λ v. bag v.headers i) after ≤ sum_by (λ v. bag v.headers i) before
  credit : sum_by (λ v. v.credit) after ≡ sum_by (λ v. v.credit) before
  part : sum_by (λ v. v.part) after ≡ sum_by (λ v. v.part) before
  fill : (d : ℕ) → sum_by (λ v. fills d v.work) after ≡ sum_by (λ v. fills d v.work) before
  empty : (d : ℕ) → sum_by (λ v. empties d v.work) after ≡ sum_by (λ v. empties d v.work) before

-- what the laws say of one view
record ViewLaw (w : World) (v : View) : Type 0 where
  stack : StackView w.limits.population (every_part w.limits) w.head (link_in w.links) v
  counts : CountView v
  desks : v.part ≡ 0 → v.work ≡ None
  slots : IfSome v.work (λ x. (desk_at w.desks x.desk).slot ≡ left_in x.phase)
  headers : (i : ℕ) → 0 < bag v.headers i → 0 < bag v.holds i

view_law : (w : World) → FourLaws w → HeaderLaw w → (k : ℕ) → ViewLaw w (view_at w.views k)
view_law w law headers k = record {
  stack = law.stack.views k;
  counts = law.counts.views k;
  desks = law.desks.views k;
  slots = law.slots.slots k;
  headers = headers.held k;
}

reviewed : (w : World) (views : List View) → FourLaws w → SameSums w.views views →
    ((k : ℕ) → ViewLaw w (view_at views k)) → Lawful (record w { views = views })
reviewed w views law same each = eight_of_four (record w { views = views }) (record {
  stack = record {
    common = law.stack.common;
    spelled = law.stack.spelled;
    one_place =
        λ i.
        (let a = same.hand i in
        let b = same.zeros i in
        let c = same.holds i in
        let p = law.stack.one_place i in
        omega arith);
    credited = (let a = same.credit in let p = law.stack.credited in omega arith);
    views = λ k. (each k).stack;
    parts = same.part ∙ law.stack.parts;
    all_links = law.stack.all_links;
    links_in_range = law.stack.links_in_range;
    top_in_range = law.stack.top_in_range;
  };
  counts = record {
    counted =
        λ i l.
        (let b = same.zeros i in
        let c = same.holds i in
        let p = law.counts.counted i l in
        omega arith);
    limited = law.counts.limited;
    some_limit = law.counts.some_limit;
    all_counts = law.counts.all_counts;
    views = λ k. (each k).counts;
  };
  desks = record {
    words = law.desks.words;
    filled = λ d. same.fill d ∙ law.desks.filled d;
    emptied = λ d. same.empty d ∙ law.desks.emptied d;
    empty = law.desks.empty;
    full = law.desks.full;
    views = λ k. (each k).desks;
  };
  slots = record { slots = λ k. (each k).slots };
})

headed : (w : World) (views : List View) → HeaderLaw w → SameSums w.views views →
    ((k : ℕ) → ViewLaw w (view_at views k)) → HeaderLaw (record w { views = views })
headed w views headers same each = record {
  once = λ i. (let a = same.headers i in let b = headers.once i in omega arith);
  held = λ k. (each k).headers;
}

nothing_known : (w : World) (part : ℕ) → ViewLaw w (empty_view part)
nothing_known w part = record {
  stack = record {
    seen = omega arith;
    look = tt;
    chain = tt;
    no_hand = λ e. refl;
    no_credit = λ e. refl;
    no_look = λ e. refl;
    no_chain = λ e. refl;
  };
  counts = record { no_zeros = λ e. refl; no_holds = λ e. refl };
  desks = λ e. refl;
  slots = tt;
  headers = λ i h. absurd (omega (arith, times-nil i));
}

each_push : (P : View → Type 0) (views : List View) (u : View) → P u → P (empty_view 0) →
    ((k : ℕ) → P (view_at views k)) → (k : ℕ) → P (view_at (views ++ u ∷ []) k)
each_push P [] u here past all zero = here
each_push P [] u here past all (suc k) = past
each_push P (x ∷ xs) u here past all zero = all 0
each_push P (x ∷ xs) u here past all (suc k) = each_push P xs u here past (λ j. all (suc j)) k

-- what one of two views has, once a view is cut in two, of what is cut: a part, and elements of the
-- hand, of the holds and of the headers
pub record Share : Type 0 where
  pub part : ℕ
  pub hand : List ℕ
  pub holds : List ℕ
  pub headers : List ℕ

-- a view with this share, and a new one that has nothing else
abbrev pub keeping : View → Share → View
keeping v s = record v { part = s.part; hand = s.hand; holds = s.holds; headers = s.headers }

abbrev pub having : Share → View
having s = record (empty_view s.part) { hand = s.hand; holds = s.holds; headers = s.headers }

-- the views once the one at k keeps one share, and a new view has the other
abbrev pub cut_views : List View → ℕ → Share → Share → List View
cut_views views k kept given = set views k (keeping (view_at views k) kept) ++ having given ∷ []

-- both have a part, and together what the one had, but for headers that have ended; and each holds
-- its headers
record IsCut (v : View) (kept given : Share) : Type 0 where
  some : 0 < kept.part
  any : 0 < given.part
  all : kept.part + given.part ≡ v.part
  elements : (i : ℕ) → bag kept.hand i + bag given.hand i ≡ bag v.hand i
  held : (i : ℕ) → bag kept.holds i + bag given.holds i ≡ bag v.holds i
  headed : (i : ℕ) → bag kept.headers i + bag given.headers i ≤ bag v.headers i
  kept_held : (i : ℕ) → 0 < bag kept.headers i → 0 < bag kept.holds i
  given_held : (i : ℕ) → 0 < bag given.headers i → 0 < bag given.holds i

module _ (w : World) (k : ℕ) (here : k < length w.views) (lawful : Lawful w) (headers : HeaderLaw w)
    (kept given : Share) (cut : IsCut (view_at w.views k) kept given)
    (chained : IfSome (view_at w.views k).chain (ChainParts w.limits.population (link_in w.links) kept.hand)) where
  -- a sum changes by what the two views give in the place of the one
  cut_sum : (f : View → ℕ) → sum_by f (cut_views w.views k kept given) + f (view_at w.views k)
      ≡ sum_by f w.views + (f (keeping (view_at w.views k) kept) + f (having given))
  cut_sum f =
      let left = keeping (view_at w.views k) kept in
      let c = sum_by_push f (set w.views k left) (having given) in
      let d = sum_by-set f w.views k left (empty_view 0) here in
      omega arith

  cut_kept : (f : View → ℕ) →
      f (keeping (view_at w.views k) kept) + f (having given) ≡ f (view_at w.views k) →
      sum_by f (cut_views w.views k kept given) ≡ sum_by f w.views
  cut_kept f both = let sum = cut_sum f in omega arith

  cut_same : SameSums w.views (cut_views w.views k kept given)
  cut_same = record {
    hand = λ i. cut_kept (λ v. bag v.hand i) (cut.elements i);
    zeros = λ i. cut_kept (λ v. bag v.zeros i) (omega (arith, times-nil i));
    holds = λ i. cut_kept (λ v. bag v.holds i) (cut.held i);
    headers = λ i. (let sum = cut_sum (λ v. bag v.headers i) in let few = cut.headed i in omega arith);
    credit = cut_kept (λ v. v.credit) (omega arith);
    part = cut_kept (λ v. v.part) cut.all;
    fill = λ d. cut_kept (λ v. fills d v.work) (omega arith);
    empty = λ d. cut_kept (λ v. empties d v.work) (omega arith);
  }

  cut_mine : ViewLaw w (keeping (view_at w.views k) kept)
  cut_mine =
      let law = four_of_eight w lawful in
      let mine = view_law w law headers k in
      let all = law.stack.parts in
      let whole = one_view (λ (x : View). x.part) w.views k refl in
      let some = cut.some in
      let any = cut.any in
      let both = cut.all in
      record {
        stack = record {
          seen = mine.stack.seen;
          look =
              if_some (view_at w.views k).look _ _
              (λ l m.
              record {
                not_ahead = m.not_ahead;
                was_seen = m.was_seen;
                same_count = λ e. absurd (omega arith);
                same_top = m.same_top;
                walked = m.walked;
                top_in_range = m.top_in_range;
                in_range = m.in_range;
              })
              mine.stack.look;
          chain = chained;
          no_hand = λ e. absurd (omega arith);
          no_credit = λ e. absurd (omega arith);
          no_look = λ e. absurd (omega arith);
          no_chain = λ e. absurd (omega arith);
        };
        counts = record {
          no_zeros = λ e. absurd (omega arith);
          no_holds = λ e. absurd (omega arith);
        };
        desks = λ e. absurd (omega arith);
        slots = mine.slots;
        headers = cut.kept_held;
      }

  cut_new : ViewLaw w (having given)
  cut_new =
      let any = cut.any in
      record {
        stack = record {
          seen = omega arith;
          look = tt;
          chain = tt;
          no_hand = λ e. absurd (omega arith);
          no_credit = λ e. refl;
          no_look = λ e. refl;
          no_chain = λ e. refl;
        };
        counts = record { no_zeros = λ e. refl; no_holds = λ e. absurd (omega arith) };
        desks = λ e. refl;
        slots = tt;
        headers = cut.given_held;
      }

  cut_each : (j : ℕ) → ViewLaw w (view_at (cut_views w.views k kept given) j)
  cut_each =
      each_push (ViewLaw w) (set w.views k (keeping (view_at w.views k) kept)) (having given) cut_new
      (nothing_known w 0)
      (each_view (ViewLaw w) w.views k (keeping (view_at w.views k) kept) here cut_mine
      (λ j n. view_law w (four_of_eight w lawful) headers j))

  cut_lawful : Lawful (record w { views = cut_views w.views k kept given })
  cut_lawful = reviewed w _ (four_of_eight w lawful) cut_same cut_each

  cut_headers : HeaderLaw (record w { views = cut_views w.views k kept given })
  cut_headers = headed w _ headers cut_same cut_each

-- shares of a view that keeps its holds and headers, and of a new one that has none
abbrev kept_share : View → ℕ → List ℕ → Share
kept_share v part hand = record { part = part; hand = hand; holds = v.holds; headers = v.headers }

abbrev new_share : ℕ → List ℕ → Share
new_share part hand = record { part = part; hand = hand; holds = []; headers = [] }

keeps_holds : (w : World) (k : ℕ) → HeaderLaw w → (part : ℕ) (hand : List ℕ) (given : ℕ) (handed : List ℕ) → 0 < part →
    0 < given → part + given ≡ (view_at w.views k).part →
    ((i : ℕ) → bag hand i + bag handed i ≡ bag (view_at w.views k).hand i) →
    IsCut (view_at w.views k) (kept_share (view_at w.views k) part hand) (new_share given handed)
keeps_holds w k headers part hand given handed some any all elements = record {
  some = some;
  any = any;
  all = all;
  elements = elements;
  held = λ i. omega (arith, times-nil i);
  headed = λ i. omega (arith, times-nil i);
  kept_held = headers.held k;
  given_held = λ i h. absurd (omega (arith, times-nil i));
}

-- the views once a worker's part of the one at k goes to a new view that names nothing
abbrev pub split_views : List View → ℕ → List View
split_views views k = set views k (less (view_at views k)) ++ empty_view worker_part ∷ []

module _ (w : World) (k : ℕ) (here : k < length w.views) (two : worker_part < (view_at w.views k).part)
    (lawful : Lawful w) (headers : HeaderLaw w) where
  is_split : IsCut (view_at w.views k)
      (kept_share (view_at w.views k) ((view_at w.views k).part - worker_part) (view_at w.views k).hand)
      (new_share worker_part [])
  is_split =
      keeps_holds w k headers ((view_at w.views k).part - worker_part) (view_at w.views k).hand worker_part []
      (omega arith) (omega arith) (omega arith) (λ i. omega (arith, times-nil i))

  pub split_lawful : Lawful (record w { views = split_views w.views k })
  split_lawful =
      cut_lawful w k here lawful headers _ _ is_split ((four_of_eight w lawful).stack.views k).chain

  pub split_headers : HeaderLaw (record w { views = split_views w.views k })
  split_headers =
      cut_headers w k here lawful headers _ _ is_split ((four_of_eight w lawful).stack.views k).chain

-- the views once one element of the hand of the one at k goes to a new view
abbrev pub lent_views : List View → ℕ → ℕ → List View
lent_views views k i = set views k (lending i (view_at views k)) ++ loan_of i ∷ []

-- a hand is the element that is taken of it, and what is left
pub lent_elements : (hand : List ℕ) (i : ℕ) → 0 < bag hand i → (j : ℕ) →
    bag (without i hand) j + bag (i ∷ []) j ≡ bag hand j
lent_elements hand i has =
    at_or_else i (λ j. bag (without i hand) j + bag (i ∷ []) j ≡ bag hand j)
    (omega (arith, times-without_here i hand, times-one i))
    (λ j n. omega (arith, times-without_other j i hand n, times-not_one j i n))

module _ (w : World) (k i : ℕ) (here : k < length w.views) (two : 2 ≤ (view_at w.views k).part)
    (has : 0 < bag (view_at w.views k).hand i) (bare : (view_at w.views k).chain ≡ None) (lawful : Lawful w)
    (headers : HeaderLaw w) where
  is_lent : IsCut (view_at w.views k)
      (kept_share (view_at w.views k) ((view_at w.views k).part - 1) (without i (view_at w.views k).hand))
      (new_share 1 (i ∷ []))
  is_lent =
      keeps_holds w k headers ((view_at w.views k).part - 1) (without i (view_at w.views k).hand) 1 (i ∷ [])
      (omega arith) (omega arith) (omega arith) (lent_elements (view_at w.views k).hand i has)

  unchained : IfSome (view_at w.views k).chain
      (ChainParts w.limits.population (link_in w.links) (without i (view_at w.views k).hand))
  unchained =
      subst (λ (c : Option Chain).
      IfSome c (ChainParts w.limits.population (link_in w.links) (without i (view_at w.views k).hand)))
      (sym bare) tt

  pub lent_lawful : Lawful (record w { views = lent_views w.views k i })
  lent_lawful = cut_lawful w k here lawful headers _ _ is_lent unchained

  pub lent_headers : HeaderLaw (record w { views = lent_views w.views k i })
  lent_headers = cut_headers w k here lawful headers _ _ is_lent unchained

-- what a filter leaves of a list stands in it so often at most, and passes its test
filter_le : (p : ℕ → Bool) (xs : List ℕ) (i : ℕ) → bag (filter p xs) i ≤ bag xs i
filter_le p [] i = omega arith
filter_le p (x ∷ xs) i =
    let rest = filter_le p xs i in
    cond_both (p x) (x ∷ filter p xs) (filter p xs) (λ ys. bag ys i ≤ bag (x ∷ xs) i)
    (λ e. omega (arith, times-cons i x (filter p xs), times-cons i x xs))
    (λ e. omega (arith, times-cons i x xs))

filter_test : (p : ℕ → Bool) (xs : List ℕ) (i : ℕ) → 0 < bag (filter p xs) i → p i ≡ true
filter_test p [] i h = absurd (omega (arith, times-nil i))
filter_test p (x ∷ xs) i h =
    cond_both (p x) (x ∷ filter p xs) (filter p xs) (λ ys. 0 < bag ys i → p i ≡ true)
    (λ e g.
    ⊎_elim (λ (s : x ≡ i). subst (λ (y : ℕ). p y ≡ true) s e)
    (λ (n : x ≢ i). filter_test p xs i (let same = times-other i x (filter p xs) n in omega arith)) (cases_eq x i))
    (λ e g. filter_test p xs i g) h

-- the views once what a packet holds, and its own elements as headers, go from the one at k to a
-- new view
abbrev pub parcel_views : List View → ℕ → Packet → List View
parcel_views views k p = set views k (parting p (view_at views k)) ++ parcel_view p ∷ []

-- of a view that may give the packet away: how often it holds an element then, and how often that
-- is its header
module _ (v : View) (p : Packet) (held : Includes v.holds (holds_of_packet p)) (owns : OwnsHeaders v p) where
  pub parted_holds : (i : ℕ) → bag (parting p v).holds i + bag (holds_of_packet p) i ≡ bag v.holds i
  parted_holds i = let all = held i in omega (arith, times-minus i v.holds (holds_of_packet p))

  pub parted_headers : (i : ℕ) → bag (parting p v).headers i + bag (own_of_packet p) i ≤ bag v.headers i
  parted_headers i =
      let all = owns.1 i in
      omega (
        arith,
        filter_le (has (minus v.holds (holds_of_packet p))) (minus v.headers (own_of_packet p)) i,
        times-minus i v.headers (own_of_packet p),
      )

  pub parted_held : (i : ℕ) → 0 < bag (parting p v).headers i → 0 < bag (parting p v).holds i
  parted_held i h =
      ltb-true _ _ (filter_test (has (minus v.holds (holds_of_packet p))) (minus v.headers (own_of_packet p)) i h)

module _ (w : World) (k : ℕ) (p : Packet) (here : k < length w.views) (two : 2 ≤ (view_at w.views k).part)
    (held : Includes (view_at w.views k).holds (holds_of_packet p)) (owns : OwnsHeaders (view_at w.views k) p)
    (lawful : Lawful w) (headers : HeaderLaw w) where
  is_parcelled : IsCut (view_at w.views k)
      (record {
        part = (view_at w.views k).part - 1;
        hand = (view_at w.views k).hand;
        holds = (parting p (view_at w.views k)).holds;
        headers = (parting p (view_at w.views k)).headers;
      })
      (record { part = 1; hand = []; holds = holds_of_packet p; headers = own_of_packet p })
  is_parcelled = record {
    some = omega arith;
    any = omega arith;
    all = omega arith;
    elements = λ i. omega (arith, times-nil i);
    held = parted_holds (view_at w.views k) p held owns;
    headed = parted_headers (view_at w.views k) p held owns;
    kept_held = parted_held (view_at w.views k) p held owns;
    given_held = λ i h. (let own = own_held p i in omega arith);
  }

  pub parcel_lawful : Lawful (record w { views = parcel_views w.views k p })
  parcel_lawful =
      cut_lawful w k here lawful headers _ _ is_parcelled ((four_of_eight w lawful).stack.views k).chain

  pub parcel_headers : HeaderLaw (record w { views = parcel_views w.views k p })
  parcel_headers =
      cut_headers w k here lawful headers _ _ is_parcelled ((four_of_eight w lawful).stack.views k).chain

no_lengths : (xs ys : List ℕ) → length xs ≡ 0 → length ys ≡ 0 → length (xs ++ ys) ≡ 0
no_lengths xs ys a b = omega (arith, length-append xs ys)

-- the views once what those at k and j name is at k
abbrev pub union : List View → ℕ → ℕ → View
union views k j = both_views (view_at views k) (view_at views j)

abbrev pub joined_views : List View → ℕ → ℕ → List View
joined_views views k j = set (set views k (union views k j)) j (empty_view 0)

module _ (w : World) (k j : ℕ) (here : k < length w.views) (there : j < length w.views)
    (apart : j ≢ k)
    (rest : AtRest (view_at w.views k)) (rest' : AtRest (view_at w.views j))
    (lawful : Lawful w) (headers : HeaderLaw w) where
  still_there : j < length (set w.views k (union w.views k j))
  still_there = let e = length-set w.views k (union w.views k j) in omega arith

  join_kept : (f : View → ℕ) →
      f (union w.views k j) ≡ f (view_at w.views k) + f (view_at w.views j) →
      f (empty_view 0) ≡ 0 → sum_by f (joined_views w.views k j) ≡ sum_by f w.views
  join_kept f a b =
      let u = union w.views k j in
      let c = sum_by-set f (set w.views k u) j (empty_view 0) (empty_view 0) still_there in
      let d = sum_by-set f w.views k u (empty_view 0) here in
      let e : f (view_at (set w.views k u) j) ≡ f (view_at w.views j) =
      ap f (get_or-set_other w.views k j u (empty_view 0) apart) in
      omega arith

  join_same : SameSums w.views (joined_views w.views k j)
  join_same =
      let v = view_at w.views k in
      let u = view_at w.views j in
      record {
        hand = λ i. join_kept (λ x. bag x.hand i) (times-append i v.hand u.hand) (times-nil i);
        zeros =
            λ i. join_kept (λ x. bag x.zeros i)
            (let a = ap (λ (xs : List ℕ). bag xs i) rest.zeros in
            let b = ap (λ (xs : List ℕ). bag xs i) rest'.zeros in
            omega (arith, times-nil i))
            (times-nil i);
        holds = λ i. join_kept (λ x. bag x.holds i) (times-append i v.holds u.holds) (times-nil i);
        headers =
            λ i.
            (let sum = join_kept (λ x. bag x.headers i) (times-append i v.headers u.headers) (times-nil i) in
            omega arith);
        credit =
            join_kept (λ x. x.credit)
            (let a = rest.credit in let b = rest'.credit in omega arith) refl;
        part = join_kept (λ x. x.part) refl refl;
        fill =
            λ d. join_kept (λ x. fills d x.work)
            (let a = ap (fills d) rest.work in
            let b = ap (fills d) rest'.work in
            omega arith)
            refl;
        empty =
            λ d. join_kept (λ x. empties d x.work)
            (let a = ap (empties d) rest.work in
            let b = ap (empties d) rest'.work in
            omega arith)
            refl;
      }

  join_mine : ViewLaw w (union w.views k j)
  join_mine =
      let law = four_of_eight w lawful in
      let mine = view_law w law headers k in
      let theirs = view_law w law headers j in
      let v = view_at w.views k in
      let u = view_at w.views j in
      record {
        stack = record {
          seen = (let a = mine.stack.seen in let b = theirs.stack.seen in omega arith);
          look = tt;
          chain = tt;
          no_hand =
              λ e.
              no_lengths v.hand u.hand (mine.stack.no_hand (omega arith))
              (theirs.stack.no_hand (omega arith));
          no_credit = λ e. refl;
          no_look = λ e. refl;
          no_chain = λ e. refl;
        };
        counts = record {
          no_zeros = λ e. refl;
          no_holds =
              λ e.
              no_lengths v.holds u.holds (mine.counts.no_holds (omega arith))
              (theirs.counts.no_holds (omega arith));
        };
        desks = λ e. refl;
        slots = tt;
        headers =
            λ i h.
            ⊎_elim
            (λ (p : 0 < bag v.headers i).
            let q = mine.headers i p in
            omega (arith, times-append i v.holds u.holds))
            (λ (p : bag v.headers i ≤ 0).
            let q = theirs.headers i (omega (arith, times-append i v.headers u.headers)) in
            omega (arith, times-append i v.holds u.holds))
            (cases_lt 0 (bag v.headers i));
      }

  join_each : (m : ℕ) →
      ViewLaw w (view_at (joined_views w.views k j) m)
  join_each =
      each_view (ViewLaw w) (set w.views k (union w.views k j)) j
      (empty_view 0) still_there (nothing_known w 0)
      (λ i n.
      each_view (ViewLaw w) w.views k (union w.views k j) here join_mine
      (λ i n. view_law w (four_of_eight w lawful) headers i) i)

  pub join_lawful :
      Lawful (record w { views = joined_views w.views k j })
  join_lawful = reviewed w _ (four_of_eight w lawful) join_same join_each

  pub join_headers :
      HeaderLaw (record w { views = joined_views w.views k j })
  join_headers = headed w _ headers join_same join_each

-- at the start the view of the only seat stands in the place of one for each worker
alone_same : (l : Limits) →
    SameSums (replicate l.workers (empty_view worker_part)) (empty_view (every_part l) ∷ [])
alone_same l = record {
  hand = λ i. quiet (λ v. bag v.hand i) (times-nil i) (times-nil i);
  zeros = λ i. quiet (λ v. bag v.zeros i) (times-nil i) (times-nil i);
  holds = λ i. quiet (λ v. bag v.holds i) (times-nil i) (times-nil i);
  headers = λ i. (let sum = quiet (λ v. bag v.headers i) (times-nil i) (times-nil i) in omega arith);
  credit = quiet (λ v. v.credit) refl refl;
  part =
      omega (
        arith,
        sum_by-cons (λ (v : View). v.part) (empty_view (every_part l)) [],
        sum_by-replicate (λ (v : View). v.part) l.workers (empty_view worker_part),
      );
  fill = λ d. quiet (λ v. fills d v.work) refl refl;
  empty = λ d. quiet (λ v. empties d v.work) refl refl;
}
  where
    quiet : (f : View → ℕ) → f (empty_view (every_part l)) ≡ 0 → f (empty_view worker_part) ≡ 0 →
        sum_by f (empty_view (every_part l) ∷ []) ≡ sum_by f (replicate l.workers (empty_view worker_part))
    quiet f a b =
        let c : sum_by f (replicate l.workers (empty_view worker_part)) ≡ 0 =
        sum_by-replicate f l.workers (empty_view worker_part)
        ∙ (ap (λ (n : ℕ). l.workers * n) b ∙ omega arith) in
        omega (arith, sum_by-cons f (empty_view (every_part l)) [])

alone_each : (l : Limits) (k : ℕ) → ViewLaw (opening l) (view_at (empty_view (every_part l) ∷ []) k)
alone_each l zero = nothing_known (opening l) (every_part l)
alone_each l (suc k) = nothing_known (opening l) 0

pub alone_lawful : (l : Limits) → 1 ≤ l.ref_limit → Lawful (opening_alone l)
alone_lawful l some =
    reviewed (opening l) (empty_view (every_part l) ∷ []) (opening_lawful l some) (alone_same l)
    (alone_each l)

pub alone_headers : (l : Limits) → HeaderLaw (opening_alone l)
alone_headers l =
    headed (opening l) (empty_view (every_part l) ∷ []) (opens_with_headers l) (alone_same l)
    (alone_each l)
