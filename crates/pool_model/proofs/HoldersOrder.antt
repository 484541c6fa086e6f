-- The holders of an element ascend: workers by their numbers, and then desks.
use Rattle.std.proofs.Common.{ℕ, zero, suc, ◌≡◌, ◌+◌, ◌≤◌, List, [], ◌∷◌, replicate, Option, arith}
use Rattle.std.specs.Prelude.{All, AllPairs}
use Rattle.std.proofs.lemmas.List.Elements.{All-nil, All-append, All-replicate, All-weaker}
use Rattle.std.proofs.lemmas.List.Kept.{AllPairs-cons}
use Rattle.commons.specs.Bag.{bag}
use Rattle.commons.specs.declared.packet.Seg.{Seg}
use Rattle.commons.specs.Packets.{holds_in_slot}
use Rattle.pool_statement.specs.declared.statement.Holder.{Holder}
use Rattle.pool_statement.specs.declared.statement.Holder.TheVariants.{Worker, Desk}
use Rattle.pool_model.specs.Statements.{desks_of, IsNotAfter}
use Rattle.pool_model.proofs.Pairs.{AllPairs-append, AllPairs-nil}

-- one holder, as often as it holds the element, stands in order with itself
pub copies-order : (n : ℕ) (holder : Holder) → IsNotAfter holder holder → AllPairs IsNotAfter (replicate n holder)
copies-order zero holder same = AllPairs-nil IsNotAfter
copies-order (suc n) holder same =
    AllPairs-cons IsNotAfter holder (replicate n holder)
    (All-replicate (IsNotAfter holder) n holder same) (copies-order n holder same)

-- a worker of this number or a higher one, and no desk
abbrev pub IsWorkerFrom : ℕ → Holder → Type 0
IsWorkerFrom low (Worker w) = low ≤ w
IsWorkerFrom low (Desk d) = ⊥

-- a desk of this number or a higher one, and no worker
abbrev pub IsDeskFrom : ℕ → Holder → Type 0
IsDeskFrom low (Worker w) = ⊥
IsDeskFrom low (Desk d) = low ≤ d

-- who is numbered above a worker is numbered from that one on
pub worker_from : (number : ℕ) (holder : Holder) → IsWorkerFrom (number + 1) holder → IsWorkerFrom number holder
worker_from number (Worker w) h = omega (arith, h)
worker_from number (Desk d) h = absurd h

-- a worker stands before each one of a higher number
pub worker_before : (v number : ℕ) → v ≡ number → (holder : Holder) → IsWorkerFrom (number + 1) holder →
    IsNotAfter (Worker v) holder
worker_before v number e (Worker w) h = omega (arith, e, h)
worker_before v number e (Desk d) h = absurd h

-- a desk numbered above another is numbered from that one on
desk_from : (desk : ℕ) (holder : Holder) → IsDeskFrom (desk + 1) holder → IsDeskFrom desk holder
desk_from desk (Worker w) h = absurd h
desk_from desk (Desk d) h = omega (arith, h)

-- a desk stands before each one of a higher number
desk_before : (desk : ℕ) (holder : Holder) → IsDeskFrom (desk + 1) holder → IsNotAfter (Desk desk) holder
desk_before desk (Worker w) h = absurd h
desk_before desk (Desk d) h = omega (arith, h)

-- every desk stands behind every worker, whatever their numbers are
pub desks_behind : (low other : ℕ) (one two : Holder) → IsWorkerFrom low one → IsDeskFrom other two → IsNotAfter one two
desks_behind low other (Worker w) (Worker v) h k = absurd k
desks_behind low other (Worker w) (Desk d) h k = tt
desks_behind low other (Desk e) two h k = absurd h

-- the desks that hold an element are numbered from the first of them on
pub desks_of-from : (desk : ℕ) (desks : List (Option (List Seg))) (i : ℕ) → All (IsDeskFrom desk) (desks_of desk desks i)
desks_of-from desk [] i = All-nil (IsDeskFrom desk)
desks_of-from desk (slot ∷ desks) i =
    All-append (IsDeskFrom desk) (replicate (bag (holds_in_slot slot) i) (Desk desk)) (desks_of (desk + 1) desks i)
    (All-replicate (IsDeskFrom desk) (bag (holds_in_slot slot) i) (Desk desk) (omega arith))
    (All-weaker (IsDeskFrom (desk + 1)) (IsDeskFrom desk) (desk_from desk)
    (desks_of (desk + 1) desks i) (desks_of-from (desk + 1) desks i))

-- desks ascend by number, and each stands as often as its packet holds the element
pub desks_of-order : (desk : ℕ) (desks : List (Option (List Seg))) (i : ℕ) → AllPairs IsNotAfter (desks_of desk desks i)
desks_of-order desk [] i = AllPairs-nil IsNotAfter
desks_of-order desk (slot ∷ desks) i =
    let copies : List Holder = replicate (bag (holds_in_slot slot) i) (Desk desk) in
    let later = desks_of (desk + 1) desks i in
    AllPairs-append IsNotAfter copies later
    (copies-order (bag (holds_in_slot slot) i) (Desk desk) (omega arith))
    (desks_of-order (desk + 1) desks i)
    (All-replicate (λ holder. All (IsNotAfter holder) later) (bag (holds_in_slot slot) i) (Desk desk)
    (All-weaker (IsDeskFrom (desk + 1)) (IsNotAfter (Desk desk)) (desk_before desk) later
    (desks_of-from (desk + 1) desks i)))
