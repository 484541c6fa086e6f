-- The reference model of packets that share buffers. It has no counts: held is how often all
-- packets of the pool hold each element.
use Rattle.std.specs.Prelude.{ℕ, ◌+◌, ◌-◌, ◌==◌, if◌then◌else◌, map, List, [], ◌∷◌, ◌++◌, slice_index_or, slice_set, Some, None, Result, Ok, Err}
use Rattle.commons.specs.Bag.{bag, one}
use Rattle.commons.specs.declared.limits.Limits.{Limits}
use Rattle.commons.specs.declared.packet.Seg.{Seg}
use Rattle.commons.specs.declared.refusal.Refusal.{Refusal}
use Rattle.commons.specs.declared.refusal.Refusal.TheVariants.{InUse, NoEntries, RefSpent}
use Rattle.mbuf.specs.Acts.{Reply}
use Rattle.mbuf.specs.declared.acts.Answer.TheVariants as reply
use Rattle.mbuf.specs.Acts.{told_count}
use Rattle.commons.specs.Packets.{holds_of_packet}
use Rattle.mbuf.specs.Members.{Member}
use Rattle.mbuf.specs.PacketRules.{free_slot, freed_nothing, fresh_seg, of_packet}
use Rattle.mbuf.specs.Sharing.{attached, buffer_of, clonable, detachable, first_seg, pair_in}
use Rattle.pool_model.specs.Pool.{Shared}
use Rattle.pool_model.specs.CacheModel.{get}
use Rattle.pool_model.specs.HoldModel.{end_holds}

-- a packet that nothing else holds is attached, where the buffer may have one hold more
abbrev pub attach_to : Result (ℕ × Seg) Refusal → (ℕ → ℕ) → ℕ → Member → Reply × Member
attach_to (Err cause) held mi m = (reply.Refused cause, m)
attach_to (Ok (e, seg)) held mi m =
    if held e == 1
    then (if held (buffer_of seg) == m.limits.ref_limit then (reply.Refused RefSpent, m) else (reply.Attached, record m { table = slice_set m.table mi (Some (attached e seg ∷ [])) }))
    else (reply.Refused InUse, m)

abbrev pub attach : (ℕ → ℕ) → ℕ → ℕ → Member → Reply × Member
attach held mi target m = attach_to (pair_in m mi target) held mi m

-- the base's hold ends, and the packet is as a fresh one
abbrev pub detach_from : Result (ℕ × ℕ) Refusal → (ℕ → ℕ) → ℕ → Member → Shared → Reply × Member × Shared
detach_from (Err cause) held slot m s = (reply.Refused cause, m, s)
detach_from (Ok (e, base)) held slot m s =
    let done = end_holds m.limits (λ i. held i - one base i) (base ∷ []) (freed_nothing, m.cache, s) in
    (reply.Freed done.0, record m { cache = done.1; table = slice_set m.table slot (Some (fresh_seg m.limits e ∷ [])) }, done.2)

abbrev pub detach : (ℕ → ℕ) → ℕ → Member → Shared → Reply × Member × Shared
detach held slot m s = detach_from (detachable (slice_index_or m.table slot None)) held slot m s

-- What segments become that are cloned: their clones, or a refusal; and the cache and the stack
-- that are left.
abbrev pub Cloned : Type 0
Cloned = Result (List Seg) Refusal × List ℕ × Shared

-- a clone is given up: these holds end in order
abbrev pub give_up : Limits → (ℕ → ℕ) → List ℕ → Refusal → List ℕ → Shared → Cloned
give_up l held holds cause cache s = let done = end_holds l held holds (freed_nothing, cache, s) in (Err cause, done.1, done.2)

-- what follows a get of one element (which gives one, where it succeeds)
abbrev pub with_element : Result (List ℕ) Refusal × List ℕ × Shared → (ℕ → List ℕ → Shared → Cloned) → (Refusal → List ℕ → Shared → Cloned) → Cloned
with_element (Ok [], cache, s) met refused = refused NoEntries cache s
with_element (Ok (e ∷ _), cache, s) met refused = met e cache s
with_element (Err cause, cache, s) met refused = refused cause cache s

-- The segments are cloned in order; new is what was cloned so far. Each clone is a new element
-- that holds the segment's buffer, where that may have one hold more.
abbrev pub clone_segs : Limits → (ℕ → ℕ) → List Seg → List Seg → List ℕ → Shared → Cloned
clone_segs l held [] new cache s = (Ok new, cache, s)
clone_segs l held (seg ∷ segs) new cache s =
    with_element (get l 1 cache s)
    (λ e left t.
    if held (buffer_of seg) + bag (holds_of_packet new) (buffer_of seg) == l.ref_limit
    then give_up l held (holds_of_packet new ++ e ∷ []) RefSpent left t
    else clone_segs l held segs (new ++ attached e seg ∷ []) left t)
    (λ cause left t. give_up l held (holds_of_packet new) cause left t)

-- the clone stands in its slot, unless it was given up
abbrev pub clone_to : ℕ → Member → Cloned → Reply × Member × Shared
clone_to slot m (Ok new, cache, s) = (reply.Cloned slot (record { items = map (λ seg. seg.elem) new }), record m { cache = cache; table = slice_set m.table slot (Some new) }, s)
clone_to slot m (Err cause, cache, s) = (reply.Refused cause, record m { cache = cache }, s)

abbrev pub clone_at : Result (List Seg × ℕ) Refusal → (ℕ → ℕ) → Member → Shared → Reply × Member × Shared
clone_at (Err cause) held m s = (reply.Refused cause, m, s)
clone_at (Ok (segs, slot)) held m s = clone_to slot m (clone_segs m.limits held segs [] m.cache s)

abbrev pub clone : (ℕ → ℕ) → ℕ → Member → Shared → Reply × Member × Shared
clone held source m s = clone_at (clonable (slice_index_or m.table source None) (free_slot m.table)) held m s

-- how often all packets hold a packet's first segment's element
abbrev pub count : (ℕ → ℕ) → ℕ → Member → Reply
count held slot m = told_count (of_packet (λ segs. held (first_seg segs).elem) (slice_index_or m.table slot None))
