-- Two pools on the lists, each of which is lawful by itself, with the statement of the model's pool.
use Rattle.std.proofs.Common.{ℕ, ◌≡◌, ◌+◌, ◌-◌, ◌<◌, true, false, List, [], length, get_or, map, Option, refl, sym, ap, ◌∙◌, arith}
use Rattle.std.specs.Prelude.{flat_map, sum_by}
use Rattle.std.specs.List.{range_with_len}
use Rattle.std.proofs.lemmas.List.{get_or-map, length-map, nil_from_length}
use Rattle.commons.specs.declared.packet.Seg.{Seg}
use Rattle.commons.specs.Lists.{Lists, held_count, holds_of_all, place_of}
use Rattle.commons.specs.Packets.{held_in, own_in}
use Rattle.mbuf.specs.Foreign.{bases_in}
use Rattle.mbuf.specs.Members.{Member}
use Rattle.mbuf.specs.Twins.{TwinMember}
use Rattle.pool_model.specs.Guests.{AreOfWorkers, guests_by, local_table}
use Rattle.pool_model.specs.TwinModel.{first_statement, second_statement}
use Rattle.pool_model.proofs.Listed.{sum_by-map}
use Rattle.snapshot.specs.Closing.{share_of}
use Rattle.snapshot.specs.declared.snapshot.ShareData.{ShareData}
use Rattle.snapshot.specs.Snapshots.{statement_in, times_held}
use Rattle.snapshot.proofs.Times.{held-is}
use Rattle.book.specs.Left.{IsLawfulByTypes}
use Rattle.share_book.specs.AsModel.{pools_of}
use Rattle.share_book.specs.TwinSites.{TwinLists, first_snapshot, second_snapshot, twin_at}
use Rattle.share_book.specs.inside.TwinSite.{AreTables}
use Rattle.share_book.proofs.Counts.{sums_agree}
use Rattle.book.proofs.TwinGuests.{guests_are_bases, guests_of_workers, local_holds, sum_both, sum_same}
use Rattle.share_book.proofs.TwinLawful.{IsPart, lists_lawful, lists_walk}
use Rattle.share_book.proofs.TwinMembers.{first_numbers, second_numbers}
use Rattle.share_book.proofs.TwinStatements.{lists_stated}

abbrev pub firsts : List TwinMember → List Member
firsts ms = map (λ m. m.first) ms

abbrev pub seconds : List TwinMember → List Member
seconds ms = map (λ m. m.second) ms

module _ (s : TwinLists) (t : AreTables s) where
  abbrev nobody : TwinMember
  nobody = twin_at (record s { members = [] }) 0

  -- the row of the holds of the worker at k
  row : (u : Lists) (k i n : ℕ) → get_or (get_or u.holds (k + 1 - 1) []) i 0 ≡ n → get_or (get_or u.holds k []) i 0 ≡ n
  row u k i n h = let same : k + 1 - 1 ≡ k = omega arith in rw same at h

  -- ---- the first pool

  first_parts : (n : ℕ) → n < length (firsts s.members) → IsPart s.first n (get_or (firsts s.members) n nobody.first)
  first_parts n l =
      let within : n < length s.members = omega (arith, l, length-map s.members (λ (m : TwinMember). m.first)) in
      let own = (t.each n within).own.first in
      rw (get_or-map (λ (m : TwinMember). m.first) s.members n nobody nobody.first within)
      (record { cached = own.cached; headed = own.headed })

  pub first_rows : (i : ℕ) →
      holds_of_all s.first i ≡ sum_by (λ (m : TwinMember). held_in m.first.table i + bases_in m.second.table i) s.members
  first_rows i =
      sums_agree (λ row. get_or row i 0) (λ (m : TwinMember). held_in m.first.table i + bases_in m.second.table i)
      s.first.holds s.members [] nobody (t.first.workers ∙ sym t.workers)
      (λ k b. row s.first k i _ ((t.each k b).own.first.held i))

  first_held : (i : ℕ) → times_held (first_snapshot s) i ≡ held_count (place_of s.first i)
  first_held i = omega (
    arith,
    held-is (first_snapshot s) i,
    sum_by-map (λ (share : ShareData). held_in share.slots i) share_of (firsts s.members),
    sum_by-map (λ (m : Member). held_in m.table i) (λ (m : TwinMember). m.first) s.members,
    guests_are_bases (seconds s.members) i,
    sum_by-map (λ (m : Member). bases_in m.table i) (λ (m : TwinMember). m.second) s.members,
    first_rows i,
    sum_both (λ (m : TwinMember). held_in m.first.table i) (λ (m : TwinMember). bases_in m.second.table i) s.members,
    t.first.counted i,
  )

  many_first : length (firsts s.members) ≡ s.first.limits.workers
  many_first = length-map s.members (λ (m : TwinMember). m.first) ∙ t.workers

  many_second : length (seconds s.members) ≡ s.second.limits.workers
  many_second = length-map s.members (λ (m : TwinMember). m.second) ∙ t.workers ∙ sym t.pools.twins.workers

  numbers_first : map (λ (m : Member). m.number) (firsts s.members) ≡ range_with_len 1 s.first.limits.workers
  numbers_first = first_numbers s.first s.second s.members nobody t.each ∙ ap (range_with_len 1) t.workers

  numbers_second : map (λ (m : Member). m.number) (seconds s.members) ≡ range_with_len 1 (length (seconds s.members))
  numbers_second =
      second_numbers s.first s.second s.members nobody t.each
      ∙ ap (range_with_len 1) (sym (length-map s.members (λ (m : TwinMember). m.second)))

  -- foreign clones are of workers of the first pool
  of_workers : AreOfWorkers s.first.limits.workers (flat_map guests_by (seconds s.members))
  of_workers =
      guests_of_workers s.first.limits.workers 1 (seconds s.members) (omega arith)
      (omega (arith, many_second, t.pools.twins.workers)) numbers_second

  pub first_lawful : IsLawfulByTypes (first_snapshot s)
  first_lawful =
      lists_lawful s.first (firsts s.members) (flat_map guests_by (seconds s.members)) false nobody.first t.first many_first
      first_parts first_held numbers_first of_workers

  -- its workers are of it
  first_limited : (n : ℕ) → n < length (firsts s.members) →
      (get_or (firsts s.members) n nobody.first).limits ≡ s.first.limits
  first_limited n l =
      let within : n < length s.members = omega (arith, l, length-map s.members (λ (m : TwinMember). m.first)) in
      rw (get_or-map (λ (m : TwinMember). m.first) s.members n nobody nobody.first within)
      (t.each n within).own.first.limits

  -- what the first pool leaves has the statement of the model's first pool
  pub first_stated : statement_in (first_snapshot s) ≡ first_statement (pools_of s)
  first_stated =
      let guests = flat_map guests_by (seconds s.members) in
      lists_stated s.first (firsts s.members) guests false nobody.first first_limited
      (lists_walk s.first (firsts s.members) guests false nobody.first t.first many_first first_parts first_held
      numbers_first of_workers)

  -- ---- the second

  pub no_desks : s.second.desks ≡ []
  no_desks = nil_from_length s.second.desks (t.second.desks ∙ t.pools.no_desks)

  second_parts : (n : ℕ) → n < length (seconds s.members) → IsPart s.second n (get_or (seconds s.members) n nobody.second)
  second_parts n l =
      let within : n < length s.members = omega (arith, l, length-map s.members (λ (m : TwinMember). m.second)) in
      let own = (t.each n within).own.second in
      rw (get_or-map (λ (m : TwinMember). m.second) s.members n nobody nobody.second within)
      (record { cached = own.cached; headed = own.headed })

  pub second_rows : (i : ℕ) → holds_of_all s.second i ≡ sum_by (λ (m : TwinMember). own_in m.second.table i) s.members
  second_rows i =
      sums_agree (λ row. get_or row i 0) (λ (m : TwinMember). own_in m.second.table i)
      s.second.holds s.members [] nobody (t.second.workers ∙ t.pools.twins.workers ∙ sym t.workers)
      (λ k b. row s.second k i _ ((t.each k b).own.second.held i))

  second_held : (i : ℕ) → times_held (second_snapshot s) i ≡ held_count (place_of s.second i)
  second_held i = omega (
    arith,
    held-is (second_snapshot s) i,
    sum_by-map (λ (share : ShareData). held_in (local_table true share.slots) i) share_of (seconds s.members),
    sum_by-map (λ (m : Member). held_in (local_table true m.table) i) (λ (m : TwinMember). m.second) s.members,
    sum_same (λ (m : TwinMember). held_in (local_table true m.second.table) i) (λ (m : TwinMember). own_in m.second.table i)
        s.members (λ m. local_holds m.second.table i),
    second_rows i,
    ap (λ (desks : List (Option (List Seg))). held_in (local_table true desks) i) no_desks,
    ap (λ (desks : List (Option (List Seg))). held_in desks i) no_desks,
    t.second.counted i,
  )

  -- it has no guests
  of_nobody : AreOfWorkers s.second.limits.workers []
  of_nobody = guests_of_workers s.second.limits.workers 1 [] (omega arith) (omega arith) refl

  numbered_second : map (λ (m : Member). m.number) (seconds s.members) ≡ range_with_len 1 s.second.limits.workers
  numbered_second = numbers_second ∙ ap (range_with_len 1) many_second

  pub second_lawful : IsLawfulByTypes (second_snapshot s)
  second_lawful =
      lists_lawful s.second (seconds s.members) [] true nobody.second t.second many_second
      second_parts second_held numbered_second of_nobody

  second_limited : (n : ℕ) → n < length (seconds s.members) →
      (get_or (seconds s.members) n nobody.second).limits ≡ s.second.limits
  second_limited n l =
      let within : n < length s.members = omega (arith, l, length-map s.members (λ (m : TwinMember). m.second)) in
      rw (get_or-map (λ (m : TwinMember). m.second) s.members n nobody nobody.second within)
      (t.each n within).own.second.limits

  -- and what the second leaves that of the second
  pub second_stated : statement_in (second_snapshot s) ≡ second_statement (pools_of s)
  second_stated =
      lists_stated s.second (seconds s.members) [] true nobody.second second_limited
      (lists_walk s.second (seconds s.members) [] true nobody.second t.second many_second second_parts second_held
      numbered_second of_nobody)
