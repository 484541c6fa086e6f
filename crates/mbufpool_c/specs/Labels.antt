-- By which numbers C has a worker's packets: the slot of a packet, with the generation that the slot
-- has now.
use Rattle.std.specs.Prelude.{ℕ, ◌≡◌, ◌+◌, ◌%◌, ◌^◌, ◌<◌, ◌==◌, List, cond, length, slice_index_or, slice_set}
use Rattle.std.specs.List.{range_with_len}

-- no slot of a worker: one more than its last
abbrev pub no_slot : ℕ
no_slot = 256

-- the labels of the slots of a new worker: each is its slot
abbrev pub first_labels : List ℕ
first_labels = range_with_len 0 256

-- the label of a slot
abbrev pub label_in : List ℕ → ℕ → ℕ
label_in labels slot = slice_index_or labels (slot % 256) 0

-- the slot that a number stands for: that whose label it is now, or none
abbrev pub slot_in : List ℕ → ℕ → ℕ
slot_in labels number = cond (label_in labels number == number) (number % 256) no_slot

-- the label of the same slot in the next generation
abbrev pub next_label : ℕ → ℕ
next_label label = (label + 256) % 2 ^ 32

-- the labels once the packet in a slot went
abbrev pub went_from : ℕ → List ℕ → List ℕ
went_from slot labels = slice_set labels (slot % 256) (next_label (label_in labels slot))

-- there is one for each slot, which ends with the slot
pub record AreLabels (labels : List ℕ) : Type 0 where
  pub count : length labels ≡ 256
  pub each : (k d : ℕ) → k < 256 → slice_index_or labels k d % 256 ≡ k
