-- Worked rows of two pools, computed by the model.
use Rattle.std.proofs.Common.{◌≡◌, List, [], ◌∷◌, None, Some, refl}
use Rattle.commons.specs.Bag as bags
use Rattle.commons.specs.declared.limits.Limits.{Limits}
use Rattle.commons.specs.declared.limits.PutRule.TheVariants.{Keep}
use Rattle.commons.specs.declared.packet.Seg.{Seg}
use Rattle.commons.specs.declared.refusal.Refusal.TheVariants.{NoEntries}
use Rattle.mbuf.specs.declared.acts.Act.TheVariants.{Alloc, Append, Chain, CountOf, Free}
use Rattle.mbuf.specs.declared.acts.Answer.TheVariants as reply
use Rattle.mbuf.specs.Acts.{Reply}
use Rattle.mbuf.specs.declared.freed.Freed.{Freed}
use Rattle.pool_statement.specs.declared.statement.Holder.TheVariants.{Worker}
use Rattle.pool_model.specs.TwinModel.{TwinPool, first_statement, new_twin_pool, perform_twin, second_statement}
use Rattle.twin_acts.specs.declared.acts.TwinAct.{TwinAct}
use Rattle.twin_acts.specs.declared.acts.TwinAct.TheVariants.{OnFirst, CloneInto, CountClone, FreeClone}

-- a first pool of 4 elements and a desk, and a second of 2
one : Limits
one = record { population = 4; cache = 0; workers = 1; desks = 1; buf = 2048; ref_limit = 65535; tries = 64; start_count = 0; put_rule = Keep }

two : Limits
two = record { population = 2; cache = 0; workers = 1; desks = 0; buf = 0; ref_limit = 65535; tries = 64; start_count = 0; put_rule = Keep }

-- the replies to one worker's acts, and the pools afterwards
abbrev replies : List TwinAct → TwinPool → List Reply
replies [] twin = []
replies (act ∷ acts) twin = let done = perform_twin twin 1 act in done.0 ∷ replies acts done.1

-- both pools after one worker's acts
abbrev end : List TwinAct → TwinPool → TwinPool
end [] twin = twin
end (act ∷ acts) twin = end acts (perform_twin twin 1 act).1

-- ---- a packet of 100 bytes is cloned into the second pool, and freed

abbrev row : List TwinAct
row = OnFirst Alloc ∷ OnFirst (Append 0 100) ∷ CloneInto 0 ∷ OnFirst (CountOf 0) ∷ OnFirst (Free 0) ∷ CountClone 0 ∷ []

nothing_back : Freed
nothing_back = record { back = 0; flushed = 0; put_off = None }

-- the clone's elements are those of the second pool, and the free puts nothing back
row_replies : replies row (new_twin_pool one two)
    ≡ reply.Allocated 0 0 ∷ reply.Len 100 ∷ reply.Cloned 0 (record { items = 0 ∷ [] }) ∷ reply.Count 2
    ∷ reply.Freed nothing_back ∷ reply.Count 1 ∷ []
unfolding one two nothing_back bags.bag
row_replies = refl

-- the first pool lists no packet, and its element is held by the worker
row_first : let s = first_statement (end row (new_twin_pool one two)) in
    (s.available ≡ 3) × (s.common ≡ 1 ∷ 2 ∷ 3 ∷ []) × (s.packets ≡ [])
    × (s.held ≡ record { elem = 0; count = 1; holders = Worker 1 ∷ [] } ∷ [])
unfolding one two bags.bag
row_first = (refl, refl, refl, refl)

clone : Seg
clone = record { elem = 0; base = Some 0; data_off = 128; data_len = 100; buf_len = 2048 }

-- the second pool's statement lists the clone
row_second : let s = second_statement (end row (new_twin_pool one two)) in
    (s.available ≡ 1) × (s.common ≡ 1 ∷ []) × (s.packets ≡ record { worker = 1; slot = 0; segs = clone ∷ [] } ∷ [])
    × (s.held ≡ record { elem = 0; count = 1; holders = Worker 1 ∷ [] } ∷ [])
unfolding one two clone bags.bag
row_second = (refl, refl, refl, refl)

-- ---- the clone is freed

abbrev freed_row : List TwinAct
freed_row = OnFirst Alloc ∷ OnFirst (Append 0 100) ∷ CloneInto 0 ∷ OnFirst (CountOf 0) ∷ OnFirst (Free 0) ∷ FreeClone 0 ∷ []

-- its base goes back to the first pool and its element to the second
freed_ends : let twin = end freed_row (new_twin_pool one two) in
    (twin.first.shared.common ≡ 0 ∷ 1 ∷ 2 ∷ 3 ∷ []) × (twin.second.shared.common ≡ 0 ∷ 1 ∷ [])
unfolding one two bags.bag
freed_ends = (refl, refl)

-- ---- a chain of two is cloned into a pool of one element

small : Limits
small = record { population = 1; cache = 0; workers = 1; desks = 0; buf = 0; ref_limit = 65535; tries = 64; start_count = 0; put_rule = Keep }

abbrev refused_row : List TwinAct
refused_row = OnFirst Alloc ∷ OnFirst Alloc ∷ OnFirst (Chain 0 1) ∷ CloneInto 0 ∷ OnFirst (CountOf 0) ∷ []

-- the clone of two segments is refused, and the second pool's one element is back
refused_ends : (replies refused_row (new_twin_pool one small)
    ≡ reply.Allocated 0 0 ∷ reply.Allocated 1 1 ∷ reply.Chained 2 0 ∷ reply.Refused NoEntries ∷ reply.Count 1 ∷ [])
    × ((end refused_row (new_twin_pool one small)).second.shared.common ≡ 0 ∷ [])
unfolding one small bags.bag
refused_ends = (refl, refl)
