-- What two grounds left is lawful, with the shares of the views that closed them.
use Rattle.std.proofs.Common.{ℕ, ◌≡◌, ◌+◌, ◌≤◌, true, false, get_or, List, [], length, map, Option, refl, sym, ap, ◌∙◌, subst, arith, ◌*◌}
use Rattle.std.specs.Prelude.{All, flat_map}
use Rattle.std.specs.List.{range_with_len}
use Rattle.std.proofs.lemmas.List.{nil_from_length}
use Rattle.std.proofs.lemmas.List.Elements.{All-map, All-weaker}
use Rattle.std.proofs.lemmas.List.FromFn.{length-range_with_len}
use lib.ListN.{length-map}
use Rattle.commons.specs.Bag.{bag}
use Rattle.commons.specs.declared.closed.Closed.{Closed}
use Rattle.commons.specs.declared.limits.Limits.{Limits}
use Rattle.commons.specs.declared.packet.Seg.{Seg}
use Rattle.commons.specs.Packets.{held_in, own_in}
use Rattle.mbuf.specs.Foreign.{bases_in}
use Rattle.mbuf.specs.Members.{Member}
use Rattle.mbuf.specs.Twins.{TwinMember}
use Rattle.pool_model.specs.Guests.{guests_by, local_table}
use Rattle.pool_model.proofs.Listed.{sum_by-map}
use Rattle.ground.specs.Lying.{LieByNotes}
use Rattle.ground.specs.Seats.{Grounded, Note, Seated}
use Rattle.step_core.specs.declared.view.View.{View}
use Rattle.snapshot.specs.Closing.{share_of}
use Rattle.snapshot.specs.declared.snapshot.ShareData.{ShareData}
use Rattle.snapshot.specs.declared.snapshot.Snapshot.{Snapshot}
use Rattle.pool_model.specs.Guests.{elements_with, entry_with}
use Rattle.pool_statement.specs.declared.statement.Held.{Held}
use Rattle.snapshot.specs.Snapshots.{ListsItsElements, own_pool, statement_in, times_held}
use Rattle.snapshot.proofs.Times.{held-is}
use Rattle.book.specs.declared.closed_twin.ClosedTwin.{ClosedTwin}
use Rattle.book.specs.Left.{AreLeftWhole, IsLawfulByTypes, first_of, second_of}
use Rattle.book.proofs.Spelled.{lawful}
use Rattle.book.proofs.TwinGuests.{guests_are_bases, guests_of_workers, local_holds, sum_both, sum_same}
use Rattle.word_pool.specs.TwinShares.{AreFirstShares, AreSecondShares, AreTwinShares}
use Rattle.word_pool.specs.TwinWorkers.{TwinState, AreStatementsOfTwins, IsTwinWorker, first_crew, second_crew}
use Rattle.word_pool.specs.Workers.{WorkerState, IsWorker}
use Rattle.ground.specs.Changing.{IsFresh, IsUnmoved, closed_at_start}
use Rattle.word_pool.specs.Leaving.{IsLeftAtRest}
use Rattle.word_pool.specs.inside.TwinCrews.{AreTwinsClosed}
use Rattle.word_pool.proofs.OneView.{common, held_few, words_show}
use Rattle.word_pool.proofs.Parts.{parts_each}
use Rattle.word_pool.proofs.TwinJoins.{count_of_twins}
use Rattle.word_pool.proofs.WholeLeft.{AreNumbered}
use Rattle.step_core.specs.World.{worker_part, every_part}

-- the parts of both pools, and their numbers
abbrev pub firsts : List TwinMember → List Member
firsts ms = map (λ m. m.first) ms

abbrev pub seconds : List TwinMember → List Member
seconds ms = map (λ m. m.second) ms

-- they are as many as there are workers
as_many : (workers : ℕ) (members : List Member) → AreNumbered workers members → length members ≡ workers
as_many workers members n =
    sym (length-map members (λ (m : Member). m.number)) ∙ ap length n ∙ length-range_with_len 1 workers

module _ (l : Limits) (c : Closed) (v : View) (members : List TwinMember) (h : IsLeftAtRest l c v) where
  -- the first pool's: its guests are the bases of foreign clones
  first_held : AreFirstShares members v → (i : ℕ) →
      times_held (first_of l c members) i ≡ bag v.holds i + held_in c.desks i
  first_held are i = omega (
    arith,
    held-is (first_of l c members) i,
    sum_by-map (λ (share : ShareData). held_in share.slots i) share_of (firsts members),
    sum_by-map (λ (m : Member). held_in m.table i) (λ (m : TwinMember). m.first) members,
    guests_are_bases (seconds members) i,
    sum_by-map (λ (m : Member). bases_in m.table i) (λ (m : TwinMember). m.second) members,
    sum_both (λ (m : TwinMember). held_in m.first.table i) (λ (m : TwinMember). bases_in m.second.table i) members,
    are.packets i,
  )

  pub first_left : AreFirstShares members v → AreNumbered l.workers (firsts members) →
      AreNumbered l.workers (seconds members) → IsLawfulByTypes (first_of l c members)
  first_left are numbers others =
      lawful (first_of l c members) (common l c v h)
      (words_show l c v h (firsts members) (flat_map guests_by (seconds members)) false
      (λ i. sum_by-map (λ (m : Member). bag m.cache i) (λ (m : TwinMember). m.first) members ∙ are.caches i)
      (first_held are)
      (λ i. omega (arith, sum_by-map (λ (m : Member). own_in m.table i) (λ (m : TwinMember). m.first) members, are.headers i))
      numbers
      (guests_of_workers l.workers 1 (seconds members) (omega arith)
      (omega (arith, as_many l.workers (seconds members) others))
      (others ∙ ap (range_with_len 1) (sym (as_many l.workers (seconds members) others)))))

  -- the second's, which has no desks: the bases of its packets are foreign
  second_held : l.desks ≡ 0 → AreSecondShares members v → (i : ℕ) →
      times_held (second_of l c members) i ≡ bag v.holds i + held_in c.desks i
  second_held none are i =
      let desks = ap length h.left.desks ∙ length-map h.left.world.desks _ ∙ h.left.desk_count ∙ none in
      let empty : c.desks ≡ [] = nil_from_length c.desks desks in
      omega (
        arith,
        held-is (second_of l c members) i,
        sum_by-map (λ (share : ShareData). held_in (local_table true share.slots) i) share_of (seconds members),
        sum_by-map (λ (m : Member). held_in (local_table true m.table) i) (λ (m : TwinMember). m.second) members,
        sum_same (λ (m : TwinMember). held_in (local_table true m.second.table) i)
            (λ (m : TwinMember). own_in m.second.table i) members (λ m. local_holds m.second.table i),
        ap (λ (ps : List (Option (List Seg))). held_in (local_table true ps) i) empty,
        ap (λ (ps : List (Option (List Seg))). held_in ps i) empty,
        are.packets i,
      )

  pub second_left : l.desks ≡ 0 → AreSecondShares members v → AreNumbered l.workers (seconds members) →
      IsLawfulByTypes (second_of l c members)
  second_left none are numbers =
      lawful (second_of l c members) (common l c v h)
      (words_show l c v h (seconds members) [] true
      (λ i. sum_by-map (λ (m : Member). bag m.cache i) (λ (m : TwinMember). m.second) members ∙ are.caches i)
      (second_held none are)
      (λ i. omega (arith, sum_by-map (λ (m : Member). own_in m.table i) (λ (m : TwinMember). m.second) members, are.headers i))
      numbers (guests_of_workers l.workers 1 [] (omega arith) (omega arith) refl))

-- no count in a statement is above what each element is held
counts_of : (s : Snapshot) (n : ℕ) → ((i : ℕ) → times_held s i ≤ n) → All (λ held. held.count ≤ n) (statement_in s).held
counts_of s n few =
    All-map (λ (held : Held). held.count ≤ n) (entry_with s.guests (own_pool s).members (own_pool s).shared.desks)
    (elements_with s.guests (own_pool s)) (λ k d within. few (get_or (elements_with s.guests (own_pool s)) k d))

abbrev first_of_crew : TwinState → WorkerState
first_of_crew m = record { seat = m.first; member = m.member.first }

abbrev second_of_crew : TwinState → WorkerState
second_of_crew m = record { seat = m.second; member = m.member.second }

-- each worker of two grounds is one of either, with a worker's part
first_workers : (g h : Grounded) (ms : List TwinState) → All (IsTwinWorker g h) ms → All (IsWorker g) (first_crew ms)
first_workers g h ms each =
    All-map (IsWorker g) (λ (m : TwinState). first_of_crew m) ms
    (All-weaker (IsTwinWorker g h) (λ (m : TwinState). IsWorker g (first_of_crew m))
    (λ m is. record { of = is.first; part = is.first_part }) ms each)

second_workers : (g h : Grounded) (ms : List TwinState) → All (IsTwinWorker g h) ms → All (IsWorker h) (second_crew ms)
second_workers g h ms each =
    All-map (IsWorker h) (λ (m : TwinState). second_of_crew m) ms
    (All-weaker (IsTwinWorker g h) (λ (m : TwinState). IsWorker h (second_of_crew m))
    (λ m is. record { of = is.second; part = is.second_part }) ms each)

-- ---- of the workers of two grounds that were closed, each by the one seat of theirs

module _ (g h : Grounded) (ms : List TwinState) (s u : Seated) (c : ClosedTwin) (are : AreTwinsClosed g h ms s u c) where
  first_parts : s.known.view.part ≡ every_part g.limits
  first_parts =
      are.first_whole.made.part ∙ parts_each g (first_crew ms) (first_workers g h ms are.all.each)
      ∙ ap (λ (n : ℕ). n * worker_part) (length-map ms (λ (m : TwinState). first_of_crew m) ∙ count_of_twins g h ms are.all)

  second_parts : u.known.view.part ≡ every_part h.limits
  second_parts =
      are.second_whole.made.part ∙ parts_each h (second_crew ms) (second_workers g h ms are.all.each)
      ∙ ap (λ (n : ℕ). n * worker_part)
      (length-map ms (λ (m : TwinState). second_of_crew m) ∙ count_of_twins g h ms are.all
      ∙ sym are.all.pools.twins.workers)

  first_at_rest : IsLeftAtRest g.limits c.first s.known.view
  first_at_rest = record { left = are.first.left; whole = first_parts; rest = are.first_whole.made.rest }

  second_at_rest : IsLeftAtRest h.limits c.second u.known.view
  second_at_rest = record { left = are.second.left; whole = second_parts; rest = are.second_whole.made.rest }

  first_numbers : AreNumbered g.limits.workers (firsts c.shares.items)
  first_numbers = rw are.same are.all.first_numbers

  second_numbers : AreNumbered h.limits.workers (seconds c.shares.items)
  second_numbers = rw are.same are.all.second_numbers

  -- they left two whole pools at rest
  pub twins_left_whole : AreLeftWhole c
  twins_left_whole = record {
    pools = rw (are.first.limits, are.second.limits) are.all.pools.twins;
    first_numbers = rw are.first.limits first_numbers;
    second_numbers = rw are.second.limits second_numbers;
    first_lawful =
        rw are.first.limits
        (first_left g.limits c.first s.known.view c.shares.items first_at_rest are.shares.first first_numbers
        (second_numbers ∙ ap (range_with_len 1) are.all.pools.twins.workers));
    second_lawful =
        rw are.second.limits
        (second_left h.limits c.second u.known.view c.shares.items second_at_rest are.all.pools.no_desks
        are.shares.second second_numbers);
  }

  abbrev first_snapshot : Snapshot
  first_snapshot = first_of c.first_limits c.first c.shares.items

  abbrev second_snapshot : Snapshot
  second_snapshot = second_of c.second_limits c.second c.shares.items

  -- and their statements are those of these workers
  pub statements_of_twins : ListsItsElements first_snapshot (statement_in first_snapshot) →
      ListsItsElements second_snapshot (statement_in second_snapshot) →
      AreStatementsOfTwins g h ms (statement_in first_snapshot, statement_in second_snapshot)
  statements_of_twins = rw (are.first.limits, are.second.limits, are.same) (λ once again. record {
    first_known = s.known;
    second_known = u.known;
    first_seat = are.first_whole.made;
    second_seat = are.second_whole.made;
    first_limits = are.first_whole.of.limits;
    second_limits = are.second_whole.of.limits;
    first_whole = first_parts;
    second_whole = second_parts;
    first_desks = are.first_desks;
    second_desks = are.second_desks;
    idle = are.idle;
    shares = subst (λ (xs : List TwinMember). AreTwinShares xs s.known.view u.known.view) are.same are.shares;
    statements = record {
      first = c.first;
      second = c.second;
      first_left = are.first.left;
      second_left = are.second.left;
      first_desks = are.first.desks;
      second_desks = are.second.desks;
      first_start = are.first.start;
      second_start = are.second.start;
      first_same = refl;
      second_same = refl;
      first_once = once;
      second_once = again;
    };
    first_lying =
        subst (λ (notes : List Note). LieByNotes notes c.first.desks) are.first_whole.made.notes
        (are.first.noted first_parts);
    second_lying =
        subst (λ (notes : List Note). LieByNotes notes c.second.desks) are.second_whole.made.notes
        (are.second.noted second_parts);
  })

  -- no count in them is above the reference limit of its pool
  pub twin_counts : All (λ held. held.count ≤ c.first_limits.ref_limit) (statement_in first_snapshot).held
      × All (λ held. held.count ≤ c.second_limits.ref_limit) (statement_in second_snapshot).held
  twin_counts = rw (are.first.limits, are.second.limits) (
    counts_of (first_of g.limits c.first c.shares.items) g.limits.ref_limit
        (λ i.
        omega (
          arith,
          first_held g.limits c.first s.known.view c.shares.items first_at_rest are.shares.first i,
          held_few g.limits c.first s.known.view first_at_rest i,
        )),
    counts_of (second_of h.limits c.second c.shares.items) h.limits.ref_limit
        (λ i.
        omega (
          arith,
          second_held h.limits c.second u.known.view c.shares.items second_at_rest are.all.pools.no_desks
              are.shares.second i,
          held_few h.limits c.second u.known.view second_at_rest i,
        )),
  )

  -- where neither seat of theirs has taken a step, both left what they began with
  pub twins_fresh : IsUnmoved s.known → IsUnmoved u.known →
      (c.first ≡ closed_at_start g.limits) × (c.second ≡ closed_at_start h.limits)
  twins_fresh one two =
      let first : IsFresh s.known = record {
        whole = first_parts ∙ ap (λ (l : Limits). every_part l) (sym are.first_whole.of.limits);
        unmoved = one;
      } in
      let second : IsFresh u.known = record {
        whole = second_parts ∙ ap (λ (l : Limits). every_part l) (sym are.second_whole.of.limits);
        unmoved = two;
      } in
      (are.first.start first, are.second.start second)
