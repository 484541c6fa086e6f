-- The eight laws, as the four parts that steps keep, and back.
use Rattle.std.proofs.Common.{ℕ, ◌≤◌, Option, Some, None}
use Rattle.std.specs.Prelude.{IfSome}
use Rattle.step_core.specs.World.{Look, Chain, View, World, view_at, link_in, every_part}
use Rattle.step_core.specs.Law.{Lawful, LookRule, ChainRule}
use Rattle.step_core.proofs.Rules.{FourLaws, LookParts, ChainParts}

both_looks : (workers population : ℕ) (head : Rattle.step_core.specs.World.Head) (link : ℕ → ℕ)
    (part seen : ℕ) (o : Option Look) → IfSome o (LookRule workers head link part seen) →
    IfSome o (λ l. (l.head.top ≤ population) × (l.next ≤ population)) →
    IfSome o (LookParts population workers head link part seen)
both_looks workers population head link part seen None a b = tt
both_looks workers population head link part seen (Some l) a b = record {
  not_ahead = a.not_ahead;
  was_seen = a.was_seen;
  same_count = a.same_count;
  same_top = a.same_top;
  walked = a.walked;
  top_in_range = b.0;
  in_range = b.1;
}

both_chains : (population : ℕ) (link : ℕ → ℕ) (v : View) (o : Option Chain) →
    IfSome o (ChainRule link v.hand) → IfSome o (λ c. c.end ≤ population) →
    IfSome o (ChainParts population link v.hand)
both_chains population link v None a b = tt
both_chains population link v (Some c) a b = record
    { not_empty = a.not_empty; in_hand = a.in_hand; linked = a.linked; in_range = b }

look_rule : (workers population : ℕ) (head : Rattle.step_core.specs.World.Head) (link : ℕ → ℕ)
    (part seen : ℕ) (o : Option Look) →
    IfSome o (LookParts population workers head link part seen) →
    IfSome o (LookRule workers head link part seen)
    × IfSome o (λ l. (l.head.top ≤ population) × (l.next ≤ population))
look_rule workers population head link part seen None a = (tt, tt)
look_rule workers population head link part seen (Some l) a = (
  record {
    not_ahead = a.not_ahead;
    was_seen = a.was_seen;
    same_count = a.same_count;
    same_top = a.same_top;
    walked = a.walked;
  },
  (a.top_in_range, a.in_range),
)

chain_rule : (population : ℕ) (link : ℕ → ℕ) (v : View) (o : Option Chain) →
    IfSome o (ChainParts population link v.hand) →
    IfSome o (ChainRule link v.hand) × IfSome o (λ c. c.end ≤ population)
chain_rule population link v None a = (tt, tt)
chain_rule population link v (Some c) a =
    (record { not_empty = a.not_empty; in_hand = a.in_hand; linked = a.linked }, a.in_range)

pub four_of_eight : (w : World) → Lawful w → FourLaws w
four_of_eight w law = record {
  stack = record {
    common = law.common;
    spelled = law.places.spelled;
    one_place = law.places.one_place;
    credited = law.lengths.credited;
    views = λ k. record {
      seen = law.looks.seen k;
      look =
          both_looks (every_part w.limits) w.limits.population w.head (link_in w.links) _ _
          (view_at w.views k).look (law.looks.look k) (law.ranges.looks k);
      chain =
          both_chains w.limits.population (link_in w.links) (view_at w.views k)
          (view_at w.views k).chain (law.chains.chain k) (law.ranges.chains k);
      no_hand = λ e. (law.parts.idle k e).hand;
      no_credit = λ e. (law.parts.idle k e).credit;
      no_look = λ e. (law.parts.idle k e).look;
      no_chain = λ e. (law.parts.idle k e).chain;
    };
    parts = law.parts.parts;
    all_links = law.ranges.links;
    links_in_range = law.ranges.links_in_range;
    top_in_range = law.ranges.top;
  };
  counts = record {
    counted = law.counts.counted;
    limited = law.ranges.counts_in_range;
    some_limit = law.ranges.ref_limit;
    all_counts = law.ranges.counts;
    views = λ k. record { no_zeros = λ e. (law.parts.idle k e).zeros; no_holds = λ e. (law.parts.idle k e).holds };
  };
  desks = record {
    words = law.desks.words;
    filled = law.desks.filled;
    emptied = law.desks.emptied;
    empty = law.desks.empty;
    full = law.desks.full;
    views = λ k e. (law.parts.idle k e).work;
  };
  slots = record { slots = law.desks.slots };
}

pub eight_of_four : (w : World) → FourLaws w → Lawful w
eight_of_four w law = record {
  common = law.stack.common;
  places = record { spelled = law.stack.spelled; one_place = law.stack.one_place };
  counts = record { counted = law.counts.counted };
  lengths = record { credited = law.stack.credited };
  looks = record { seen = λ k. (law.stack.views k).seen; look = λ k. (looked k).0 };
  chains = record { chain = λ k. (chained k).0 };
  desks = record {
    words = law.desks.words;
    filled = law.desks.filled;
    emptied = law.desks.emptied;
    empty = law.desks.empty;
    full = law.desks.full;
    slots = law.slots.slots;
  };
  parts = record {
    parts = law.stack.parts;
    idle = λ k e. record {
      hand = (law.stack.views k).no_hand e;
      zeros = (law.counts.views k).no_zeros e;
      holds = (law.counts.views k).no_holds e;
      credit = (law.stack.views k).no_credit e;
      look = (law.stack.views k).no_look e;
      chain = (law.stack.views k).no_chain e;
      work = law.desks.views k e;
    };
  };
  ranges = record {
    links = law.stack.all_links;
    links_in_range = law.stack.links_in_range;
    counts = law.counts.all_counts;
    counts_in_range = law.counts.limited;
    ref_limit = law.counts.some_limit;
    top = law.stack.top_in_range;
    looks = λ k. (looked k).1;
    chains = λ k. (chained k).1;
  };
}
  where
    looked : (k : ℕ) → IfSome (view_at w.views k).look (LookRule (every_part w.limits) w.head
        (link_in w.links) (view_at w.views k).part (view_at w.views k).seen)
        × IfSome (view_at w.views k).look
        (λ l. (l.head.top ≤ w.limits.population) × (l.next ≤ w.limits.population))
    looked k =
        look_rule (every_part w.limits) w.limits.population w.head (link_in w.links) _ _
        (view_at w.views k).look (law.stack.views k).look

    chained : (k : ℕ) →
        IfSome (view_at w.views k).chain (ChainRule (link_in w.links) (view_at w.views k).hand)
        × IfSome (view_at w.views k).chain (λ c. c.end ≤ w.limits.population)
    chained k =
        chain_rule w.limits.population (link_in w.links) (view_at w.views k)
        (view_at w.views k).chain (law.stack.views k).chain
