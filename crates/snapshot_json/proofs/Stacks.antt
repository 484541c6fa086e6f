-- The words of a stack, from its lowest element up.
use Rattle.std.proofs.Common.{ℕ, suc, ◌≡◌, ◌<◌, List, drop, get_or, length, set, ap, drop-cons}
use Rattle.snapshot_json.specs.SnapshotData.{links_of, top_of}

-- the list from one element up has that element's link besides
pub links-step : (population : ℕ) (common : List ℕ) (k : ℕ) → k < length common →
    links_of population (drop k common)
    ≡ set (links_of population (drop (suc k) common)) (get_or common k 0) (top_of (drop (suc k) common))
links-step population common k l = ap (links_of population) (drop-cons common k 0 l)

pub top-step : (common : List ℕ) (k : ℕ) → k < length common → top_of (drop k common) ≡ suc (get_or common k 0)
top-step common k l = ap top_of (drop-cons common k 0 l)
