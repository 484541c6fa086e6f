-- Each operation on a word that a call notes is a step of the machine, whatever the other seats
-- have done before it.
use Rattle.std.specs.Prelude.{◌≡◌, ℕ, suc, ◌+◌, ◌-◌, ◌%◌, ◌^◌, ◌<◌, ◌≤◌, ◌==◌, Bool, true, List, [], ◌∷◌, length, map, slice_index, Some, None}
use mathlib.Core.Option.{some, none}
use lib.ListN.{get_elem?}
use prog.Atomic.{either}
use Rattle.atomic_table.specs.Table.{State, Act, Valid, step, stepped, carried_after}
use Rattle.commons.specs.Bag.{bag}
use Rattle.commons.specs.Packets.{IsPacket, holds_of_packet}
use Rattle.commons.specs.declared.limits.Limits.{Limits}
use Rattle.commons.specs.declared.packet.Seg.{Seg}
use Rattle.step_core.specs.Bags.{Includes}
use Rattle.step_core.specs.Headers.{OwnsHeaders}
use Rattle.step_core.specs.Runs.{Reaches}
use Rattle.step_core.specs.Schedules.{Schedule}
use Rattle.step_core.specs.Views.{MayCut, MayPush, at_desk, walks_to}
use Rattle.step_core.specs.Steps.{next_head}
use Rattle.step_core.specs.declared.step.Step.{Step}
use Rattle.step_core.specs.declared.step.Step.TheVariants.{LoadLength, Reserve, Add, LoadHead, LoadLink, Cut, StoreLink, Push, Claim, Sole, Raise, Lower, Reset, Hold, PutIn, Open, Seize, TakeOut, Clear}
use Rattle.step_core.specs.declared.step.Outcome.{Outcome}
use Rattle.step_core.specs.declared.step.Outcome.TheVariants.{Value, HeadIs, Done, Found}
use Rattle.step_core.specs.declared.view.Head.{Head}
use Rattle.step_core.specs.declared.view.Phase.TheVariants.{ToFill, Seized}
use Rattle.ground.specs.declared.known.Known.{Known}
use Rattle.ground.specs.DeskAnswers.{hold_answers, open_answers, seize_answers, clear_answers}
use Rattle.ground.specs.Layout.{pack, unpack, head_word, length_word, link_word, count_word, desk_word}
use Rattle.ground.specs.Own.{Owned, AtDesk, KnowsDesks}
use Rattle.ground.specs.Rule.{Slot, Sat, Ruled}
use Rattle.ground.specs.Seats.{element_of, front_of}
use Rattle.ground.specs.StepAnswers.{exchanged, cut_found, push_found, loaded_length, reserved, added, loaded_head, loaded_link, cut_answers, stored_link, push_answers, claim_answers, sole_answers, raise_answers, lower_answers, reset_answers}

-- a seat that has a part, and the slot of the desk that it works at, and knows the desks if it is
-- the only one of its pool
abbrev pub Sits : Sat → Type 0
Sits m = (0 < m.0.view.part) × AtDesk m.0.view.work m.1 × KnowsDesks m.0

-- these steps, all by this worker
abbrev pub by_worker : ℕ → List Step → Schedule
by_worker worker steps = map (λ s. (worker, s)) steps

-- Whatever state the table has, ruled and with this seat, when the operation comes that writes f of
-- what it finds into the word i: the rule holds of the state afterwards, the machine plays these
-- steps of the seat's worker from the world before to the world afterwards, with these outcomes,
-- and the seat is told this.
abbrev pub OperationMoves : (l : Limits) (slots id : ℕ) → Sat → ℕ → (ℕ → ℕ) → List Step → (ℕ → List Outcome) →
    (ℕ → Sat → Type 0) → Type 0
OperationMoves l slots id me i f steps outcomes then =
    (s : State Slot Known) (r : Ruled l s) → length s.homes ≡ slots → get_elem? s.views id ≡ some me.0 →
    slice_index s.words i < 18446744073709551616 →
    (n : Known) × (a : Act Slot) × Valid s.homes me.1 a
    × ((after : Ruled l (stepped s i (f (slice_index s.words i)) id me.1 n a))
    × Reaches r.world (by_worker (suc id) steps) (outcomes (slice_index s.words i)) after.world)
    × then (slice_index s.words i) (n, carried_after me.1 a)

-- So each operation that a call notes does, under the call's conditions. A packet is put in and
-- taken out by an exchange of a slot, which is with the seat then: its step comes with the one on
-- the desk's word.
pub record OperationsAreSteps : Type 0 where
  pub load_length : (l : Limits) (slots id : ℕ) (me : Sat) → Sits me →
      OperationMoves l slots id me length_word (λ n. n) (LoadLength ∷ []) (λ x. Value x ∷ [])
      (loaded_length (step slots length_word 0 0 none) me)
  pub reserve : (l : Limits) (slots id : ℕ) (me : Sat) (old new : ℕ) → new < old → Sits me →
      OperationMoves l slots id me length_word (λ x. either (x == old) new x) (Reserve old (old - new) ∷ [])
      (λ x. exchanged (x == old) x ∷ []) (reserved (step slots length_word old new none) me)
  pub add : (l : Limits) (slots id : ℕ) (me : Sat) (n : ℕ) → 1 ≤ n → n ≤ me.0.view.credit → Sits me →
      OperationMoves l slots id me length_word (λ x. (x + n) % 2 ^ 64) (Add n ∷ []) (λ _. Done ∷ [])
      (added (step slots length_word n 0 none) me)
  pub load_head : (l : Limits) (slots id : ℕ) (me : Sat) → Sits me →
      OperationMoves l slots id me head_word (λ n. n) (LoadHead ∷ []) (λ x. HeadIs (unpack x) ∷ [])
      (loaded_head (step slots head_word 0 0 none) me)
  pub load_link : (l : Limits) (slots id : ℕ) (me : Sat) (i k : ℕ) → k ≡ link_word i →
      walks_to me.0.view.look i ≡ true → Sits me → Owned me.0.limits me.0.view →
      OperationMoves l slots id me k (λ n. n) (LoadLink i ∷ []) (λ x. Value x ∷ [])
      (loaded_link (step slots k 0 0 none) me)
  pub cut : (l : Limits) (slots id : ℕ) (me : Sat) (head : Head) (next old new : ℕ) → old ≡ pack head →
      new ≡ pack (next_head next head.count) → MayCut me.0.view head next → Sits me →
      OperationMoves l slots id me head_word (λ x. either (x == old) new x) (Cut ∷ [])
      (λ x. cut_found (x == old) (front_of me.0.view.look) x ∷ []) (cut_answers (step slots head_word old new none) me)
  pub store_link : (l : Limits) (slots id : ℕ) (me : Sat) (i k x : ℕ) → k ≡ link_word i →
      0 < bag me.0.view.hand i → x ≤ l.population → Sits me → Owned me.0.limits me.0.view →
      OperationMoves l slots id me k (λ _. x) (StoreLink i (element_of x) ∷ []) (λ _. Done ∷ [])
      (λ _. stored_link (step slots k x 0 none) me x)
  pub push : (l : Limits) (slots id : ℕ) (me : Sat) (head : Head) (first old new : ℕ) → old ≡ pack head →
      new ≡ pack (next_head first head.count) → MayPush me.0.view head first → Sits me →
      OperationMoves l slots id me head_word (λ x. either (x == old) new x) (Push ∷ []) (λ x. push_found (x == old) x ∷ [])
      (push_answers (step slots head_word old new none) me)
  pub claim : (l : Limits) (slots id : ℕ) (me : Sat) (i k : ℕ) → k ≡ count_word l.population i →
      i < l.population → 0 < bag me.0.view.hand i → Sits me →
      OperationMoves l slots id me k (λ n. n) (Claim i ∷ []) (λ x. Value x ∷ []) (claim_answers (step slots k 0 0 none) me)
  pub sole : (l : Limits) (slots id : ℕ) (me : Sat) (free : Bool) (i k : ℕ) → k ≡ count_word l.population i →
      i < l.population → 0 < bag me.0.view.holds i → Sits me →
      OperationMoves l slots id me k (λ n. n) (Sole i free ∷ []) (λ x. Value x ∷ [])
      (sole_answers free (step slots k 0 0 none) me)
  pub raise : (l : Limits) (slots id : ℕ) (me : Sat) (i k old new : ℕ) → k ≡ count_word l.population i →
      i < l.population → 0 < bag me.0.view.holds i → old < l.ref_limit → new ≡ old + 1 → Sits me →
      OperationMoves l slots id me k (λ x. either (x == old) new x) (Raise i old ∷ []) (λ x. exchanged (x == old) x ∷ [])
      (raise_answers (step slots k old new none) me)
  pub lower : (l : Limits) (slots id : ℕ) (me : Sat) (i k : ℕ) → k ≡ count_word l.population i →
      i < l.population → 0 < bag me.0.view.holds i → Sits me →
      OperationMoves l slots id me k (λ n. (n + (2 ^ 64 - 1)) % 2 ^ 64) (Lower i ∷ []) (λ x. Value x ∷ [])
      (lower_answers (step slots k 1 0 none) me)
  pub reset : (l : Limits) (slots id : ℕ) (me : Sat) (i k : ℕ) → k ≡ count_word l.population i →
      i < l.population → 0 < bag me.0.view.zeros i → Sits me →
      OperationMoves l slots id me k (λ _. 1) (Reset i ∷ []) (λ _. Done ∷ []) (λ _. reset_answers (step slots k 1 0 none) me 1)
  pub hold_desk : (l : Limits) (slots id : ℕ) (me : Sat) (d k : ℕ) → k ≡ desk_word l.population d → d < l.desks →
      me.0.view.work ≡ None → Sits me →
      OperationMoves l slots id me k (λ x. either (x == 0) 1 x) (Hold d ∷ []) (λ x. exchanged (x == 0) x ∷ [])
      (hold_answers (step slots k 0 1 none) me)
  pub open_desk : (l : Limits) (slots id : ℕ) (me : Sat) (d k : ℕ) (p : List Seg) →
      k ≡ desk_word l.population d → d < l.desks → me.0.view.work ≡ at_desk d ToFill →
      me.1 ≡ (d, Some p) ∷ [] → IsPacket p → Includes me.0.view.holds (holds_of_packet p) →
      OwnsHeaders me.0.view p → Sits me →
      OperationMoves l slots id me k (λ _. 2) (PutIn d p ∷ Open d ∷ []) (λ _. Done ∷ Done ∷ [])
      (λ _. open_answers (step slots k 2 0 none) me 2)
  pub seize_desk : (l : Limits) (slots id : ℕ) (me : Sat) (d k : ℕ) → k ≡ desk_word l.population d → d < l.desks →
      me.0.view.work ≡ None → Sits me →
      OperationMoves l slots id me k (λ x. either (x == 2) 3 x) (Seize d ∷ []) (λ x. exchanged (x == 2) x ∷ [])
      (seize_answers (step slots k 2 3 none) me)
  pub clear_desk : (l : Limits) (slots id : ℕ) (me : Sat) (d k : ℕ) (p : List Seg) →
      k ≡ desk_word l.population d → d < l.desks → me.0.view.work ≡ at_desk d (Seized p) →
      me.1 ≡ (d, None) ∷ [] → Sits me →
      OperationMoves l slots id me k (λ _. 0) (TakeOut d ∷ Clear d ∷ []) (λ _. Found p ∷ Done ∷ [])
      (λ _. clear_answers (step slots k 0 0 none) me 0)
