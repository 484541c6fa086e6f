-- What the steps of cloning into a second pool do. No public clause cites this module.
use Rattle.std.specs.Prelude.{ℕ, ◌≡◌, List, [], ◌++◌, Option, Result, Ok, Err}
use Rattle.commons.specs.declared.limits.Limits.{Limits}
use Rattle.commons.specs.declared.packet.Seg.{Seg}
use Rattle.commons.specs.declared.refusal.Refusal.{Refusal}
use Rattle.commons.specs.Calls.{Call}
use Rattle.commons.specs.Packets.{hold_of}
use Rattle.mbuf.specs.Foreign.{ClonesForeign, ClonesForeignSeg, EndsForeign, GivesUpForeign, StopsForeign}
use Rattle.mbuf.specs.PacketRules.{EndsHolds, freed_nothing}
use Rattle.mbuf.specs.declared.freed.Freed.{Freed}
use Rattle.mbuf.specs.declared.clones.Stop.{Stop}

-- a segment is cloned, or isn't
abbrev pub TriesForeignSeg : Limits → Seg → List ℕ → List Call → List Call → Result Seg Stop → List ℕ → Type 0
TriesForeignSeg l seg cache firsts seconds (Ok new) left =
    ClonesForeignSeg l seg cache firsts seconds new left
TriesForeignSeg l seg cache firsts seconds (Err stop) left =
    StopsForeign l seg cache firsts seconds stop.cause stop.over left

-- the bases of which there is one hold more then
abbrev pub new_bases : Result Seg Stop → List ℕ
new_bases (Ok new) = hold_of new.base
new_bases (Err stop) = []

-- segments are cloned, or given up
abbrev pub TriesForeign : Limits → Limits → List Seg → List ℕ → List ℕ → List Call → List Call →
    List Seg → Result (Unit {0}) Refusal → List ℕ → List ℕ → Type 0
TriesForeign l k segs first_cache second_cache firsts seconds new (Ok _) first_left second_left =
    ClonesForeign k segs second_cache firsts seconds new second_left × (first_left ≡ first_cache)
TriesForeign l k segs first_cache second_cache firsts seconds new (Err cause) first_left second_left =
    GivesUpForeign l k segs first_cache second_cache firsts seconds cause first_left second_left

-- clones are freed in order, and then an element that is left over is put back into the second pool
pub record GivesBack (l k : Limits) (segs : List Seg) (over : Option ℕ)
    (first_cache second_cache : List ℕ) (firsts seconds : List Call)
    (first_left second_left : List ℕ) : Type 0 where
  pub second_end : List Call
  pub over_end : List Call
  pub called : seconds ≡ second_end ++ over_end
  pub between : List ℕ
  pub freed : Freed
  pub ended : EndsForeign l k segs first_cache second_cache freed_nothing firsts second_end
      first_left between freed
  pub done : Freed
  pub over_ended : EndsHolds k (hold_of over) between freed over_end second_left done
