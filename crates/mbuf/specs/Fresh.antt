-- When elements that a worker is given were nobody's.
use Rattle.std.specs.Prelude.{ℕ, ◌≡◌, ◌<◌, ◌≤◌, List, [], ◌∷◌, map, flat_map, slice_index_or, Option, None}
use Rattle.commons.specs.Bag.{bag}
use Rattle.commons.specs.Packets.{own_in_slot}
use Rattle.commons.specs.declared.packet.Seg.{Seg}
use Rattle.mbuf.specs.Acts.{Reply}
use Rattle.mbuf.specs.declared.acts.Answer.TheVariants.{Allocated, Bulk, Cloned}

-- elements of a pool of this population, each once, of which none was held so far
pub record AreFresh (population : ℕ) (held : ℕ → ℕ) (es : List ℕ) : Type 0 where
  pub below : (i : ℕ) → 0 < bag es i → i < population
  pub once : (i : ℕ) → bag es i ≤ 1
  pub unheld : (i : ℕ) → 0 < bag es i → held i ≡ 0

-- the own elements of the packets in these slots
abbrev pub own_in_slots : List (Option (List Seg)) → List ℕ → List ℕ
own_in_slots table slots = flat_map (λ slot. own_in_slot (slice_index_or table slot None)) slots

-- the elements that a reply says were given to a worker
abbrev pub new_elements : Reply → List ℕ
new_elements (Allocated slot e) = e ∷ []
new_elements (Bulk packets) = map (λ packet. packet.elem) packets.items
new_elements (Cloned slot elems) = elems.items
new_elements _ = []
