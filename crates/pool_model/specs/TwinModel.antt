-- The reference model of two pools: lists alone, with no counts. The second pool's packets are
-- foreign clones, by worker and slot: their own elements are of the second pool, and their bases
-- are of the first.
use Rattle.std.specs.Prelude.{ℕ, ◌+◌, ◌-◌, ◌==◌, ◌&&◌, nat_le, if◌then◌else◌, true, false, flat_map, sum_by, List, [], ◌∷◌, ◌++◌, length, slice_index_or, slice_set, Option, Some, None, Result, Ok, Err}
use Rattle.commons.specs.Bag.{bag}
use Rattle.commons.specs.declared.limits.Limits.{Limits}
use Rattle.commons.specs.declared.packet.Seg.{Seg}
use Rattle.commons.specs.declared.refusal.Refusal.{Refusal}
use Rattle.commons.specs.declared.refusal.Refusal.TheVariants.{NoEntries, NoSuchPacket, RefSpent, StrangerShare, TooShort}
use Rattle.commons.specs.Packets.{hold_of, own_of_packet}
use Rattle.mbuf.specs.declared.acts.Act.{Act}
use Rattle.mbuf.specs.Acts.{Reply, told_count, told_len}
use Rattle.mbuf.specs.declared.acts.Answer.TheVariants as reply
use Rattle.mbuf.specs.declared.freed.Freed.{Freed}
use Rattle.mbuf.specs.Lengths.{adjusted, trimmed}
use Rattle.mbuf.specs.Members.{Member}
use Rattle.mbuf.specs.PacketRules.{free_slot, freed_nothing, of_packet, resize}
use Rattle.mbuf.specs.Sharing.{attached, buffer_of, clonable, first_seg}
use Rattle.pool_model.specs.CacheModel.{get}
use Rattle.pool_model.specs.HoldModel.{end_holds}
use Rattle.mbuf.specs.Foreign.{bases_in, bases_of_packet}
use Rattle.pool_model.specs.Guests.{guests_by, statement_with}
use Rattle.pool_model.specs.PacketModel.{held_elsewhere, member_act, without_packet}
use Rattle.pool_model.specs.Pool.{Pool, Shared, held_of, member_at, new_pool, own_by, with_member}
use Rattle.pool_statement.specs.declared.statement.Statement.{Statement}
use Rattle.twin_acts.specs.declared.acts.TwinAct.{TwinAct}
use Rattle.twin_acts.specs.declared.acts.TwinAct.TheVariants.{OnFirst, CloneInto, AdjClone, TrimClone, CountClone, FreeClone}

-- the first pool, and the second
pub record TwinPool : Type 0 where
  pub first : Pool
  pub second : Pool

-- new pools
abbrev pub new_twin_pool : Limits → Limits → TwinPool
new_twin_pool l k = record { first = new_pool l; second = new_pool k }

-- ---- who holds what

-- how often the foreign clones of these workers use the buffer of an element of the first pool
abbrev pub based_by : List Member → ℕ → ℕ
based_by members i = sum_by (λ m. bases_in m.table i) members

-- how often an element of the first pool is held: by its packets, in slots and on desks, and as a
-- base of foreign clones
abbrev pub held_in_first : TwinPool → ℕ → ℕ
held_in_first twin i = held_of twin.first.members twin.first.shared.desks i + based_by twin.second.members i

-- and one of the second: by foreign clones, as their own element
abbrev pub held_in_second : TwinPool → ℕ → ℕ
held_in_second twin i = own_by twin.second.members i

-- the workers of a pool but for the packet in a slot of one
abbrev pub members_without : Pool → ℕ → ℕ → List Member
members_without pool n slot = slice_set pool.members n (without_packet slot (member_at pool n))

-- ---- acts on the first pool

-- as on a pool alone, where holds are those of foreign clones too
abbrev pub act_on_first : TwinPool → ℕ → Act → Reply × Member × Shared
act_on_first twin n act =
    member_act act (held_in_first twin)
    (λ slot i. held_elsewhere twin.first n slot i + based_by twin.second.members i)
    (member_at twin.first n) twin.first.shared

-- ---- a worker's caches, and both stacks

pub record Stocks : Type 0 where
  pub first_cache : List ℕ
  pub first : Shared
  pub second_cache : List ℕ
  pub second : Shared

abbrev pub stocks_of : TwinPool → ℕ → Stocks
stocks_of twin n = record {
  first_cache = (member_at twin.first n).cache;
  first = twin.first.shared;
  second_cache = (member_at twin.second n).cache;
  second = twin.second.shared;
}

-- what comes of the first pool's, and of the second's
abbrev pub with_first : Stocks → Freed × List ℕ × Shared → Freed × Stocks
with_first s done = (done.0, record s { first_cache = done.1; first = done.2 })

abbrev pub with_second : Stocks → Freed × List ℕ × Shared → Freed × Stocks
with_second s done = (done.0, record s { second_cache = done.1; second = done.2 })

-- ---- foreign clones that are freed

-- The segments end in order, each the base's hold first, in the first pool, and then the own
-- element's, in the second; based and owned is how often all others hold each element.
abbrev pub end_foreign : Limits → Limits → (ℕ → ℕ) → (ℕ → ℕ) → List Seg → Freed × Stocks → Freed × Stocks
end_foreign l k based owned [] so_far = so_far
end_foreign l k based owned (seg ∷ segs) so_far =
    let base = with_first so_far.1 (end_holds l (λ i. bag (bases_of_packet segs) i + based i) (hold_of seg.base)
    (so_far.0, so_far.1.first_cache, so_far.1.first)) in
    end_foreign l k based owned segs (with_second base.1
    (end_holds k (λ i. bag (own_of_packet segs) i + owned i) (seg.elem ∷ [])
    (base.0, base.1.second_cache, base.1.second)))

-- ---- packets that are cloned into the second pool

-- what segments become that are cloned: their clones, or a refusal; and what is left
abbrev pub ClonedInto : Type 0
ClonedInto = Result (List Seg) Refusal × Stocks

-- a clone is given up: those cloned so far end in order, and then an element that was got for the
-- next one
abbrev pub give_up_into : Limits → Limits → TwinPool → List Seg → List ℕ → Refusal → Stocks → ClonedInto
give_up_into l k twin new over cause s =
    let ended = end_foreign l k (held_in_first twin) (λ i. bag over i + held_in_second twin i) new (freed_nothing, s) in (
      Err cause,
      (with_second ended.1 (end_holds k (held_in_second twin) over
          (ended.0, ended.1.second_cache, ended.1.second))).1,
    )

-- what follows a get of one element of the second pool
abbrev pub with_element_into : Stocks → Result (List ℕ) Refusal × List ℕ × Shared → (ℕ → Stocks → ClonedInto) →
    (Refusal → Stocks → ClonedInto) → ClonedInto
with_element_into s (Ok [], cache, t) met refused = refused NoEntries (record s { second_cache = cache; second = t })
with_element_into s (Ok (e ∷ _), cache, t) met refused = met e (record s { second_cache = cache; second = t })
with_element_into s (Err cause, cache, t) met refused = refused cause (record s { second_cache = cache; second = t })

-- The segments are cloned in order; new is what was cloned so far. Each clone is a new element of
-- the second pool that holds the segment's buffer in the first, where that may have one hold more.
abbrev pub clone_segs_into : Limits → Limits → TwinPool → List Seg → List Seg → Stocks → ClonedInto
clone_segs_into l k twin [] new s = (Ok new, s)
clone_segs_into l k twin (seg ∷ segs) new s =
    with_element_into s (get k 1 s.second_cache s.second)
    (λ e t.
    if held_in_first twin (buffer_of seg) + bag (bases_of_packet new) (buffer_of seg) == l.ref_limit
    then give_up_into l k twin new (e ∷ []) RefSpent t
    else clone_segs_into l k twin segs (new ++ attached e seg ∷ []) t)
    (λ cause t. give_up_into l k twin new [] cause t)

-- ---- what a worker does with foreign clones, and what is left of it

-- what a worker of two pools has afterwards, and both pools
abbrev pub TwinDone : Type 0
TwinDone = Reply × TwinPool

-- the pools once a worker has these caches and this table of foreign clones
abbrev pub with_stocks : TwinPool → ℕ → Stocks → List (Option (List Seg)) → TwinPool
with_stocks twin n s clones = record {
  first = with_member twin.first n (record (member_at twin.first n) { cache = s.first_cache }) s.first;
  second = with_member twin.second n
      (record (member_at twin.second n) { cache = s.second_cache; table = clones }) s.second;
}

-- the clone stands in its slot, unless it was given up
abbrev pub clone_stands : TwinPool → ℕ → ℕ → ClonedInto → TwinDone
clone_stands twin n slot (Ok new, s) =
    (reply.Cloned slot (record { items = own_of_packet new }), with_stocks twin n s (slice_set (member_at twin.second n).table slot (Some new)))
clone_stands twin n slot (Err cause, s) = (reply.Refused cause, with_stocks twin n s (member_at twin.second n).table)

abbrev pub clone_into_at : TwinPool → ℕ → Result (List Seg × ℕ) Refusal → TwinDone
clone_into_at twin n (Err cause) = (reply.Refused cause, twin)
clone_into_at twin n (Ok (segs, slot)) = clone_stands twin n slot
    (clone_segs_into twin.first.limits twin.second.limits twin segs [] (stocks_of twin n))

-- a clone of the first pool's packet in a slot stands in the lowest free slot of the second
abbrev pub clone_into : TwinPool → ℕ → ℕ → TwinDone
clone_into twin n source =
    clone_into_at twin n
    (clonable (slice_index_or (member_at twin.first n).table source None) (free_slot (member_at twin.second n).table))

-- the clone's segments end in order, and its slot is free
abbrev pub free_clone_in : TwinPool → ℕ → ℕ → Option (List Seg) → TwinDone
free_clone_in twin n slot None = (reply.Refused NoSuchPacket, twin)
free_clone_in twin n slot (Some segs) =
    let others = members_without twin.second n slot in
    let done = end_foreign twin.first.limits twin.second.limits
    (λ i. held_of twin.first.members twin.first.shared.desks i + based_by others i) (own_by others) segs
    (freed_nothing, stocks_of twin n) in
    (reply.Freed done.0, with_stocks twin n done.1 (slice_set (member_at twin.second n).table slot None))

abbrev pub free_clone : TwinPool → ℕ → ℕ → TwinDone
free_clone twin n slot = free_clone_in twin n slot (slice_index_or (member_at twin.second n).table slot None)

-- a change of a clone's lengths
abbrev pub resize_told : TwinPool → ℕ → Result ℕ Refusal × Member → TwinDone
resize_told twin n done =
    (told_len done.0, record twin { second = with_member twin.second n done.1 twin.second.shared })

abbrev pub resize_clone : (List Seg → Option (List Seg)) → TwinPool → ℕ → ℕ → TwinDone
resize_clone change twin n slot = resize_told twin n (resize change TooShort slot (member_at twin.second n))

-- the count of a clone's first element
abbrev pub count_clone : TwinPool → ℕ → ℕ → Reply
count_clone twin n slot =
    told_count (of_packet (λ segs. held_in_second twin (first_seg segs).elem)
    (slice_index_or (member_at twin.second n).table slot None))

-- ---- by the worker's number

abbrev pub twin_act : TwinPool → ℕ → TwinAct → TwinDone
twin_act twin n (OnFirst act) =
    let done = act_on_first twin n act in
    (done.0, record twin { first = with_member twin.first n done.1 done.2 })
twin_act twin n (CloneInto source) = clone_into twin n source
twin_act twin n (AdjClone slot len) = resize_clone (adjusted len) twin n slot
twin_act twin n (TrimClone slot len) = resize_clone (trimmed len) twin n slot
twin_act twin n (CountClone slot) = (count_clone twin n slot, twin)
twin_act twin n (FreeClone slot) = free_clone twin n slot

-- the reply to what a worker is asked to do, and the pools afterwards; a worker outside the pools
-- does nothing
abbrev pub perform_twin : TwinPool → ℕ → TwinAct → TwinDone
perform_twin twin w act =
    if nat_le 1 w && nat_le w (length twin.first.members) then twin_act twin (w - 1) act
    else (reply.Refused StrangerShare, twin)

-- the pools once workers of these numbers have done these acts, one after another
abbrev pub after_twin_acts : List (ℕ × TwinAct) → TwinPool → TwinPool
after_twin_acts [] twin = twin
after_twin_acts (done ∷ more) twin = after_twin_acts more (perform_twin twin done.0 done.1).1

-- ---- their statements

-- the first pool's, whose guests are the bases of foreign clones
abbrev pub first_statement : TwinPool → Statement
first_statement twin = statement_with false (flat_map guests_by twin.second.members) twin.first

-- and the second's, whose packets have bases that are foreign
abbrev pub second_statement : TwinPool → Statement
second_statement twin = statement_with true [] twin.second
