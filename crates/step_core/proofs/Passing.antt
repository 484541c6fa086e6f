-- Where elements pass from hand to hand, every law stays.
use Rattle.std.proofs.Common.{◌≡◌, ◌≢◌, ℕ, ◌<◌, ◌≤◌, List, ◌++◌, length, refl, sym, ◌∙◌, subst, arith}
use Rattle.std.specs.Prelude.{sum_by, IfSome}
use Rattle.commons.specs.Bag.{bag}
use Rattle.step_core.specs.Bags.{minus}
use Rattle.step_core.specs.declared.view.View.{View}
use Rattle.step_core.specs.World.{World, view_at, link_in, desk_at, every_part}
use Rattle.step_core.specs.Law.{LookRule, ChainRule, Lawful, NamesNothing, fills, empties, left_in}
use Rattle.step_core.specs.Headers.{HeaderLaw}
use Rattle.step_core.specs.Kept.{IsWorld}
use Rattle.step_core.proofs.Bags.{times-minus}
use Rattle.step_core.specs.Passing.{with_hand, IsWithout, AreUnchained, passed, HandsMayPass, PassingKeepsLaw, PassingKeepsWorld, PassingKeepsHeaders}
use Rattle.step_core.proofs.PassedHands.{empty_left, chain_left, chain_more, length_kept, hands_kept, sum_kept, each_passed, field_kept}

-- the hand without these elements is what is left of it
pub hands_may_pass : HandsMayPass
hands_may_pass w j k xs giver taker all free =
    let left = minus (view_at w.views j).hand xs in (
      record w { views = passed w.views j k xs left },
      record {
        giver = giver;
        taker = taker;
        left = left;
        taken = λ i. let has = all i in omega (arith, times-minus i (view_at w.views j).hand xs);
        unchained = free;
        after = refl;
      },
    )

module _ (w : World) (j k : ℕ) (xs left : List ℕ) (apart : j ≢ k) (giver : j < length w.views)
    (taker : k < length w.views) (taken : IsWithout left (view_at w.views j).hand xs)
    (free : AreUnchained (view_at w.views j) xs) (some : (view_at w.views k).part ≢ 0)
    (law : Lawful w) where
  views : List View
  views = passed w.views j k xs left

  -- a fact of each view, which doesn't read the hand
  each : (P : View → Type 0) → P (with_hand (view_at w.views j) left) →
      P (with_hand (view_at w.views k) (xs ++ (view_at w.views k).hand)) →
      ((m : ℕ) → P (view_at w.views m)) → (m : ℕ) → P (view_at views m)
  unfolding views
  each = each_passed w.views j k xs left apart giver taker taken

  sum : (f : View → ℕ) → ((v : View) (hand : List ℕ) → f (with_hand v hand) ≡ f v) →
      sum_by f views ≡ sum_by f w.views
  unfolding views
  sum = sum_kept w.views j k xs left apart giver taker taken

  -- a worker of part 0 had nothing to give, and none gets anything
  idle : (m : ℕ) → (view_at views m).part ≡ 0 → NamesNothing (view_at views m)
  idle =
      each (λ v. v.part ≡ 0 → NamesNothing v)
      (λ e.
      let before = law.parts.idle j e in record {
        hand = empty_left left (view_at w.views j).hand xs taken before.hand;
        zeros = before.zeros;
        holds = before.holds;
        credit = before.credit;
        look = before.look;
        chain = before.chain;
        work = before.work;
      })
      (λ e. absurd (some e)) law.parts.idle

  pub lawful_passed : Lawful (record w { views = passed w.views j k xs left })
  unfolding views
  lawful_passed = record {
    common = law.common;
    places = record {
      spelled = law.places.spelled;
      one_place = λ i.
          let place = law.places.one_place i in
          let hands = hands_kept w.views j k xs left apart giver taker taken i in
          let zeros = sum (λ v. bag v.zeros i) (λ v h. refl) in
          let holds = sum (λ v. bag v.holds i) (λ v h. refl) in
          omega arith;
    };
    counts = record {
      counted = λ i below.
          let count = law.counts.counted i below in
          let zeros = sum (λ v. bag v.zeros i) (λ v h. refl) in
          let holds = sum (λ v. bag v.holds i) (λ v h. refl) in
          omega arith;
    };
    lengths = record {
      credited = let all = law.lengths.credited in let same = sum (λ v. v.credit) (λ v h. refl) in omega arith;
    };
    looks = record {
      seen = each (λ v. v.seen ≤ w.head.count) (law.looks.seen j) (law.looks.seen k) law.looks.seen;
      look =
          each
          (λ v. IfSome v.look (LookRule (every_part w.limits) w.head (link_in w.links) v.part v.seen))
          (law.looks.look j) (law.looks.look k) law.looks.look;
    };
    chains = record {
      chain =
          each (λ v. IfSome v.chain (ChainRule (link_in w.links) v.hand))
          (chain_left (link_in w.links) left (view_at w.views j).hand xs
          (view_at w.views j).chain taken free (law.chains.chain j))
          (chain_more (link_in w.links) (view_at w.views k).hand xs (view_at w.views k).chain
          (law.chains.chain k))
          law.chains.chain;
    };
    desks = record {
      words = law.desks.words;
      filled = λ d. sum (λ v. fills d v.work) (λ v h. refl) ∙ law.desks.filled d;
      emptied = λ d. sum (λ v. empties d v.work) (λ v h. refl) ∙ law.desks.emptied d;
      empty = law.desks.empty;
      full = law.desks.full;
      slots =
          each (λ v. IfSome v.work (λ x. (desk_at w.desks x.desk).slot ≡ left_in x.phase))
          (law.desks.slots j) (law.desks.slots k) law.desks.slots;
    };
    parts = record {
      parts = sum (λ v. v.part) (λ v h. refl) ∙ law.parts.parts;
      idle = idle;
    };
    ranges = record {
      links = law.ranges.links;
      links_in_range = law.ranges.links_in_range;
      counts = law.ranges.counts;
      counts_in_range = law.ranges.counts_in_range;
      ref_limit = law.ranges.ref_limit;
      top = law.ranges.top;
      looks =
          each
          (λ v. IfSome v.look (λ l.
          (l.head.top ≤ w.limits.population) × (l.next ≤ w.limits.population)))
          (law.ranges.looks j) (law.ranges.looks k) law.ranges.looks;
      chains =
          each (λ v. IfSome v.chain (λ c. c.end ≤ w.limits.population)) (law.ranges.chains j)
          (law.ranges.chains k) law.ranges.chains;
    };
  }

-- by what the second world is of the first
pub passing_keeps_law : PassingKeepsLaw
passing_keeps_law w u j k xs apart p some law =
    subst Lawful (sym p.after)
    (lawful_passed w j k xs p.left apart p.giver p.taker p.taken p.unchained some law)

-- headers and holds aren't of a hand
pub passing_keeps_headers : PassingKeepsHeaders
passing_keeps_headers w u j k xs apart p law =
    subst HeaderLaw (sym p.after) (record {
      once = λ i.
          let same =
          sum_kept w.views j k xs p.left apart p.giver p.taker p.taken (λ v. bag v.headers i)
          (λ v h. refl) in
          let before = law.once i in
          omega arith;
      held =
          each_passed w.views j k xs p.left apart p.giver p.taker p.taken
          (λ v. (i : ℕ) → 0 < bag v.headers i → 0 < bag v.holds i)
          (law.held j) (law.held k) law.held;
    })

-- a worker of a pool's world has a part
pub passing_keeps_world : PassingKeepsWorld
passing_keeps_world w u j k xs apart p is =
    let kept = λ (m : ℕ). field_kept w.views j k xs p.left apart p.giver p.taker p.taken (λ v. v.part) (λ v h. refl) m in
    let views = length_kept w.views j k xs p.left apart p.giver p.taker p.taken in
    subst IsWorld (sym p.after) (record {
      pool = is.pool;
      views = views ∙ is.views;
      part = λ m here. kept m ∙ is.part m (omega arith);
      desks = is.desks;
      count = is.count;
      law =
          lawful_passed w j k xs p.left apart p.giver p.taker p.taken p.unchained
          (λ none. let one = is.part k p.taker in absurd (omega arith)) is.law;
    })
