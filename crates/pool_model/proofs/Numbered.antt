-- The workers of a pool stay numbered from 1, each with all its slots, and the desks as many.
use Rattle.std.proofs.Common.{ℕ, zero, suc, ◌≡◌, ◌+◌, List, [], ◌∷◌, length, length-set, get_or, set, Option, None, refl, ◌∙◌, ◌<◌, arith}
use Rattle.std.specs.Prelude.{All}
use Rattle.std.proofs.lemmas.List.{length-replicate}
use Rattle.std.proofs.lemmas.List.Elements.{All-cons, All-nil}
use Rattle.commons.specs.declared.limits.Limits.{Limits}
use Rattle.commons.specs.declared.packet.Seg.{Seg}
use Rattle.mbuf.specs.declared.acts.Act.{Act}
use Rattle.mbuf.specs.Members.{Member, slots}
use Rattle.pool_model.specs.Pool.{Pool, nobody, new_members, new_pool}
use Rattle.pool_model.specs.PacketModel.{after_acts, perform}
use Rattle.pool_model.proofs.ActLeaves.{after_act}
use Rattle.pool_model.proofs.AfterActs.{after_acts-keeps}
use Rattle.pool_model.proofs.DeskStays.{desks_as_many}
use Rattle.pool_model.proofs.NewMembers.{length-new_members}

-- workers with numbers in a row from this one on
abbrev pub AreInOrder : ℕ → List Member → Type 0
AreInOrder number [] = Unit {0}
AreInOrder number (m ∷ members) = (m.number ≡ number) × AreInOrder (number + 1) members

-- workers with numbers in a row from this one on, each with all its slots
abbrev pub AreNumbered : ℕ → List Member → Type 0
AreNumbered number [] = Unit {0}
AreNumbered number (m ∷ members) = (m.number ≡ number) × (length m.table ≡ slots) × AreNumbered (number + 1) members

-- workers that are numbered in a row and have all their slots are numbered in a row
pub numbered_in_order : (number : ℕ) (members : List Member) → AreNumbered number members → AreInOrder number members
numbered_in_order number [] a = tt
numbered_in_order number (m ∷ members) a = (a.0, numbered_in_order (number + 1) members a.2)

-- workers that are numbered in a row and have all their slots have all their slots
pub full_tables : (number : ℕ) (members : List Member) → AreNumbered number members →
    All (λ m. length m.table ≡ slots) members
full_tables number [] a = All-nil (λ (m : Member). length m.table ≡ slots)
full_tables number (m ∷ members) a =
    All-cons (λ (m : Member). length m.table ≡ slots) m members a.1 (full_tables (number + 1) members a.2)

-- a pool within these limits, with a worker for each number and a place for each desk
pub record IsNumbered (l : Limits) (pool : Pool) : Type 0 where
  pub limits : pool.limits ≡ l
  pub workers : length pool.members ≡ l.workers
  pub numbers : AreNumbered 1 pool.members
  pub desks : length pool.shared.desks ≡ l.desks

-- where one worker changes, but for its number and its number of slots, all stay numbered
numbered-set : (number : ℕ) (members : List Member) (n : ℕ) (m d : Member) →
    m.number ≡ (get_or members n d).number → length m.table ≡ length (get_or members n d).table →
    AreNumbered number members → AreNumbered number (set members n m)
numbered-set number [] n m d same long a = a
numbered-set number (x ∷ members) zero m d same long a = (same ∙ a.0, long ∙ a.1, a.2)
numbered-set number (x ∷ members) (suc n) m d same long a =
    (a.0, a.1, numbered-set (number + 1) members n m d same long a.2)

-- what a worker does leaves the pool numbered
perform-numbered : (l : Limits) (pool : Pool) (w : ℕ) (act : Act) → IsNumbered l pool →
    IsNumbered l (perform pool w act).1
perform-numbered l pool w act b = after_act (IsNumbered l) pool w act b (λ n done h left. record {
  limits = b.limits;
  workers = length-set pool.members n done.1 ∙ b.workers;
  numbers = numbered-set 1 pool.members n done.1 (nobody pool.limits) left.number left.slots b.numbers;
  desks = desks_as_many act pool.shared.desks done.2.desks left.desks ∙ b.desks;
})

-- new members are numbered in a row, each with all its slots
numbered-new : (l : Limits) (number n : ℕ) → AreNumbered number (new_members l number n)
numbered-new l number zero = tt
numbered-new l number (suc n) =
    (refl, length-replicate {A = Option (List Seg)} slots None, numbered-new l (number + 1) n)

-- the workers of a new pool are numbered from 1, as many as its limits say
new_pool-numbered : (l : Limits) → IsNumbered l (new_pool l)
new_pool-numbered l = record {
  limits = refl;
  workers = length-new_members l 1 l.workers;
  numbers = numbered-new l 1 l.workers;
  desks = length-replicate {A = Option (List Seg)} l.desks None;
}

-- after any acts of its workers a new pool is numbered
pub acts-numbered : (l : Limits) (acts : List (ℕ × Act)) → IsNumbered l (after_acts acts (new_pool l))
acts-numbered l acts = after_acts-keeps (IsNumbered l) (perform-numbered l) acts (new_pool l) (new_pool-numbered l)

-- the number of the worker at a place of the row is that of the first and the place
pub number_at : (number : ℕ) (members : List Member) (k : ℕ) (d : Member) →
    AreNumbered number members → k < length members → (get_or members k d).number ≡ number + k
number_at number [] k d a h = absurd (omega arith)
number_at number (m ∷ members) zero d a h = omega (arith, a.0)
number_at number (m ∷ members) (suc k) d a h = omega (arith, number_at (number + 1) members k d a.2 (omega arith))
