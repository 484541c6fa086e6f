-- What a worker of two pools does over the lists is what the reference model does.
use Rattle.std.proofs.Common.{ℕ, ◌≡◌, ◌+◌, List, [], get_or, set, Option, Some, None, Result, refl, sym, ap, ◌∙◌, arith}
use Rattle.std.proofs.lemmas.List.Sums.{sum_by-set}
use Rattle.commons.specs.Calls.{Call}
use Rattle.commons.specs.declared.limits.Limits.{Limits}
use Rattle.commons.specs.declared.packet.Seg.{Seg}
use Rattle.commons.specs.declared.refusal.Refusal.{Refusal}
use Rattle.commons.specs.declared.refusal.Refusal.TheVariants.{NoSuchPacket, TooShort}
use Rattle.commons.specs.Lists.{Lists}
use Rattle.commons.specs.Packets.{held_in, own_in, own_of_packet}
use Rattle.commons.specs.PlainCalls.{LeadsPlain}
use Rattle.commons.proofs.Bags.{bag-nil}
use Rattle.commons.proofs.PacketBags.{held_in-set, own_in-set, stands_within}
use Rattle.mbuf.specs.declared.acts.Act.{Act}
use Rattle.mbuf.specs.declared.acts.Answer.TheVariants as reply
use Rattle.mbuf.specs.declared.freed.Freed.{Freed}
use Rattle.mbuf.specs.Acts.{Performs, Reply, freed as freed_reply, told_count, told_len}
use Rattle.mbuf.specs.Foreign.{CloneFreed, FreesForeign, NoClone, bases_in, bases_of_packet}
use Rattle.mbuf.specs.Lengths.{adjusted, trimmed}
use Rattle.mbuf.specs.Members.{Member}
use Rattle.mbuf.specs.PacketRules.{Resizes, freed_nothing, resize}
use Rattle.mbuf.specs.Sharing.{CountsOf}
use Rattle.mbuf.specs.Twins.{TwinMember}
use Rattle.mbuf.proofs.ForeignLemmas.{bases_in-set}
use Rattle.pool_model.specs.PacketModel.{held_elsewhere, member_act, without_packet}
use Rattle.pool_model.specs.Pool.{Pool, Shared, held_of, member_at, nobody, own_by, with_member}
use Rattle.pool_model.specs.TwinModel.{Stocks, TwinDone, TwinPool, based_by, count_clone, end_foreign, free_clone, free_clone_in, held_in_first, held_in_second, members_without, resize_clone, resize_told, stocks_of, twin_act, with_stocks}
use Rattle.twin_acts.specs.TwinActs.{PerformsTwin}
use Rattle.twin_acts.specs.declared.acts.TwinAct.{TwinAct}
use Rattle.twin_acts.specs.declared.acts.TwinAct.TheVariants.{OnFirst, CloneInto, AdjClone, TrimClone, CountClone, FreeClone}
use Rattle.share_book.specs.inside.Own.{shared_of}
use Rattle.share_book.specs.inside.TwinStates.{Shows, stocks_with, twins_with}
use Rattle.share_book.proofs.EndedHolds.{Counts}
use Rattle.share_book.proofs.ForeignClones.{cloned_into_by, stays, stocks}
use Rattle.share_book.proofs.ForeignEnds.{foreign_ended}
use Rattle.share_book.proofs.PacketCalls.{Elsewhere, performed_by}
use Rattle.share_book.proofs.SharedBuffers.{count_by, nothing}

-- the reply, and both pools
abbrev outcome : Reply → Pool → Pool → TwinDone
outcome r first second = (r, record { first = first; second = second })

module _ (twins : TwinPool) (n : ℕ) (s u : Lists) (t : TwinMember) (shows : Shows twins n s u t) where
  -- the limits of the first pool are those of the worker's packets
  first_limits : twins.first.limits ≡ t.first.limits
  first_limits = shows.first_limits ∙ sym shows.first_of

  -- and those of the second are those of its foreign clones
  second_limits : twins.second.limits ≡ t.second.limits
  second_limits = shows.second_limits ∙ sym shows.second_of

  -- the clone in a slot stands in the model's table
  there : (slot : ℕ) → get_or (member_at twins.second n).table slot None ≡ get_or t.second.table slot None
  there slot = ap (λ (m : Member). get_or m.table slot None) shows.second_member

  -- how often the packets of the first pool and the foreign clones that stay hold an element
  abbrev based_elsewhere : ℕ → ℕ → ℕ
  based_elsewhere slot i =
      held_of twins.first.members twins.first.shared.desks i + based_by (members_without twins.second n slot) i

  -- each element of the first pool is held by the bases of the clone in a slot, and by all others
  bases_counted : (slot : ℕ) (segs : List Seg) → get_or t.second.table slot None ≡ Some segs →
      Counts s (bases_of_packet segs) (based_elsewhere slot)
  bases_counted slot segs here i =
      let m : Member = member_at twins.second n in
      let found : get_or m.table slot None ≡ Some segs = there slot ∙ here in
      let inner = rw found at (bases_in-set m.table slot None i (stands_within m.table slot segs found)) in
      let outer =
      sum_by-set (λ (x : Member). bases_in x.table i) twins.second.members n (without_packet slot m)
      (nobody twins.second.limits) shows.second_here in
      omega (arith, shows.first_held i, inner, outer, bag-nil i)

  -- and each of the second by the own elements of that clone, and by those of all others
  own_counted : (slot : ℕ) (segs : List Seg) → get_or t.second.table slot None ≡ Some segs →
      Counts u (own_of_packet segs) (own_by (members_without twins.second n slot))
  own_counted slot segs here i =
      let m : Member = member_at twins.second n in
      let found : get_or m.table slot None ≡ Some segs = there slot ∙ here in
      let inner = rw found at (own_in-set m.table slot None i (stands_within m.table slot segs found)) in
      let outer =
      sum_by-set (λ (x : Member). own_in x.table i) twins.second.members n (without_packet slot m)
      (nobody twins.second.limits) shows.second_here in
      omega (arith, shows.second_held i, inner, outer, bag-nil i)

  -- how often an element is held where a packet of the first pool goes, foreign clones counted
  abbrev first_elsewhere : ℕ → ℕ → ℕ
  first_elsewhere slot i = held_elsewhere twins.first n slot i + based_by twins.second.members i

  -- each element is held by the packet of the first pool in a slot, and by all others
  held_counted : Elsewhere s t.first first_elsewhere
  held_counted slot segs here i =
      let m : Member = member_at twins.first n in
      let found : get_or m.table slot None ≡ Some segs =
      ap (λ (x : Member). get_or x.table slot None) shows.first_member ∙ here in
      let inner = rw found at (held_in-set m.table slot None i (stands_within m.table slot segs found)) in
      let outer =
      sum_by-set (λ (x : Member). held_in x.table i) twins.first.members n (without_packet slot m)
      (nobody twins.first.limits) shows.first_here in
      omega (arith, shows.first_held i, inner, outer, bag-nil i)

module _ (twins : TwinPool) (n w : ℕ) (s u s' u' : Lists) (t after : TwinMember) (firsts seconds : List Call)
    (led : LeadsPlain w s firsts s') (led' : LeadsPlain w u seconds u') (shows : Shows twins n s u t) where
  -- the first pool is as before where nothing was called there and the worker is as before
  first_stays : firsts ≡ [] → after.first ≡ t.first →
      with_member twins.first n after.first (shared_of s') ≡ twins.first
  first_stays called same =
      stays twins.first n after.first (shared_of s') (same ∙ sym shows.first_member)
      (nothing w s s' firsts called led ∙ sym shows.first_shared)

  -- and so is the second
  second_stays : seconds ≡ [] → after.second ≡ t.second →
      with_member twins.second n after.second (shared_of u') ≡ twins.second
  second_stays called same =
      stays twins.second n after.second (shared_of u') (same ∙ sym shows.second_member)
      (nothing w u u' seconds called led' ∙ sym shows.second_shared)

  -- the outcome of a free: what was put back is told, the clone's slot is empty, the caches as left
  abbrev freed_with : ℕ → Freed × Stocks → TwinDone
  freed_with slot d =
      (reply.Freed d.0, with_stocks twins n d.1 (set (member_at twins.second n).table slot None))

  -- a foreign clone that is freed
  freed_by : (slot : ℕ) (answer : Result Freed Refusal) →
      FreesForeign t.first t.second slot firsts seconds answer after.first after.second →
      ◌≡◌ {A = TwinDone} (freed_reply answer, twins_with twins n after s' u') (free_clone twins n slot)
  freed_by slot answer (NoClone f c d a k k') =
      let none : Reply = reply.Refused NoSuchPacket in
      rw a (ap (λ (p : Pool). outcome none p (with_member twins.second n after.second (shared_of u'))) (first_stays c k)
      ∙ ap (outcome none twins.first) (second_stays d k')
      ∙ sym (ap (free_clone_in twins n slot) (there twins n s u t shows slot ∙ f)))
  freed_by slot answer (CloneFreed segs first_left second_left done f ends a k k') =
      let based : ℕ → ℕ = based_elsewhere twins n s u t shows slot in
      let owned : ℕ → ℕ = own_by (members_without twins.second n slot) in
      let over_lists =
      (foreign_ended w t.first.limits t.second.limits based owned segs s s' u u' t.first.cache t.second.cache
      first_left second_left freed_nothing done firsts seconds ends led led'
      (bases_counted twins n s u t shows slot segs f) (own_counted twins n s u t shows slot segs f)).0 in
      let is : end_foreign twins.first.limits twins.second.limits based owned segs (freed_nothing, stocks_of twins n)
      ≡ (done, stocks_with first_left s' second_left u') =
      ap (λ (l : Limits). end_foreign l twins.second.limits based owned segs (freed_nothing, stocks_of twins n))
      (first_limits twins n s u t shows)
      ∙ ap (λ (l : Limits). end_foreign t.first.limits l based owned segs (freed_nothing, stocks_of twins n))
      (second_limits twins n s u t shows)
      ∙ ap (λ (x : Stocks). end_foreign t.first.limits t.second.limits based owned segs (freed_nothing, x))
      (stocks twins n s u t shows)
      ∙ over_lists in
      let left : ◌≡◌ {A = TwinDone} (freed_reply answer, twins_with twins n after s' u')
      (freed_with slot (done, stocks_with first_left s' second_left u')) =
      rw (a, k, k', shows.first_member, shows.second_member) refl in
      left ∙ sym (ap (free_clone_in twins n slot) (there twins n s u t shows slot ∙ f) ∙ ap (freed_with slot) is)

  -- an act on the first pool leaves the second, and is answered as the model does, where foreign
  -- clones hold elements too
  on_first_by : (act : Act) (r : Reply) → Performs act t.first firsts r after.first → seconds ≡ [] →
      after.second ≡ t.second →
      ◌≡◌ {A = TwinDone} (r, twins_with twins n after s' u') (twin_act twins n (OnFirst act))
  on_first_by act r did called same =
      let others : ℕ → ℕ → ℕ = first_elsewhere twins n s u t shows in
      let done =
      performed_by act w s s' t.first after.first firsts r (held_in_first twins) others did led shows.first_table
      (sym shows.first_of) shows.first_held (held_counted twins n s u t shows) in
      let is : ◌≡◌ {A = Reply × Member × Shared} (r, after.first, shared_of s')
      (member_act act (held_in_first twins) others (member_at twins.first n) twins.first.shared) =
      done
      ∙ ap (λ (x : Shared). member_act act (held_in_first twins) others t.first x) (sym shows.first_shared)
      ∙ ap (λ (m : Member). member_act act (held_in_first twins) others m twins.first.shared)
      (sym shows.first_member) in
      ap (outcome r (with_member twins.first n after.first (shared_of s'))) (second_stays called same)
      ∙ ap (λ (d : Reply × Member × Shared). outcome d.0 (with_member twins.first n d.1 d.2) twins.second) is

  -- a change of a clone's lengths leaves the first pool
  resized_by : (change : List Seg → Option (List Seg)) (slot : ℕ) (answer : Result ℕ Refusal) (r : Reply) →
      Resizes change TooShort t.second slot answer after.second → after.first ≡ t.first → firsts ≡ [] →
      seconds ≡ [] → r ≡ told_len answer →
      ◌≡◌ {A = TwinDone} (r, twins_with twins n after s' u') (resize_clone change twins n slot)
  resized_by change slot answer r did same called called' told =
      let shared : shared_of u' ≡ twins.second.shared =
      nothing w u u' seconds called' led' ∙ sym shows.second_shared in
      let second : Pool = with_member twins.second n after.second (shared_of u') in
      ap (λ (x : Reply). outcome x (with_member twins.first n after.first (shared_of s')) second) told
      ∙ ap (λ (p : Pool). outcome (told_len answer) p second) (first_stays called same)
      ∙ ap (λ (x : Shared). outcome (told_len answer) twins.first (with_member twins.second n after.second x)) shared
      ∙ ap (resize_told twins n) (did ∙ ap (resize change TooShort slot) (sym shows.second_member))

  -- a count of a clone's first element leaves all
  counted_by : (slot : ℕ) (answer : Result ℕ Refusal) (r : Reply) →
      CountsOf (get_or t.second.table slot None) seconds answer → after ≡ t → firsts ≡ [] → r ≡ told_count answer →
      ◌≡◌ {A = TwinDone} (r, twins_with twins n after s' u') (twin_act twins n (CountClone slot))
  counted_by slot answer r counts same called told =
      let done =
      count_by w u u' t.second slot (held_in_second twins) seconds answer (get_or t.second.table slot None) refl
      counts led' shows.second_held in
      let second : Pool = with_member twins.second n after.second (shared_of u') in
      let left : second ≡ twins.second =
      stays twins.second n after.second (shared_of u')
      (ap (λ (x : TwinMember). x.second) same ∙ sym shows.second_member)
      (ap (λ (d : Reply × Member × Shared). d.2) done ∙ sym shows.second_shared) in
      let answered : r ≡ count_clone twins n slot =
      told ∙ ap (λ (d : Reply × Member × Shared). d.0) done ∙ rw shows.second_member refl in
      ap (λ (x : Reply). outcome x (with_member twins.first n after.first (shared_of s')) second) answered
      ∙ ap (λ (p : Pool). outcome (count_clone twins n slot) p second)
      (first_stays called (ap (λ (x : TwinMember). x.first) same))
      ∙ ap (outcome (count_clone twins n slot) twins.first) left

-- what an act of a worker of two pools does by these calls is the model's
pub performed_twin_by : (act : TwinAct) (twins : TwinPool) (n w : ℕ) (s u s' u' : Lists) (t after : TwinMember)
    (firsts seconds : List Call) (r : Reply) → PerformsTwin act t firsts seconds r after →
    LeadsPlain w s firsts s' → LeadsPlain w u seconds u' → Shows twins n s u t →
    ◌≡◌ {A = TwinDone} (r, twins_with twins n after s' u') (twin_act twins n act)
performed_twin_by (OnFirst act) twins n w s u s' u' t after firsts seconds r p led led' shows =
    on_first_by twins n w s u s' u' t after firsts seconds led led' shows act r p.0 p.1 p.2
performed_twin_by (CloneInto source) twins n w s u s' u' t after firsts seconds r p led led' shows =
    rw p.2 (cloned_into_by twins n w s u s' u' t after source firsts seconds p.0 p.1 led led' shows)
performed_twin_by (AdjClone slot len) twins n w s u s' u' t after firsts seconds r p led led' shows =
    resized_by twins n w s u s' u' t after firsts seconds led led' shows (adjusted len) slot p.0 r p.1 p.2 p.3 p.4 p.5
performed_twin_by (TrimClone slot len) twins n w s u s' u' t after firsts seconds r p led led' shows =
    resized_by twins n w s u s' u' t after firsts seconds led led' shows (trimmed len) slot p.0 r p.1 p.2 p.3 p.4 p.5
performed_twin_by (CountClone slot) twins n w s u s' u' t after firsts seconds r p led led' shows =
    counted_by twins n w s u s' u' t after firsts seconds led led' shows slot p.0 r p.1 p.2 p.3 p.4
performed_twin_by (FreeClone slot) twins n w s u s' u' t after firsts seconds r p led led' shows =
    rw p.2 (freed_by twins n w s u s' u' t after firsts seconds led led' shows slot p.0 p.1)
