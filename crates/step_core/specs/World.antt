-- The words, the slots and what each worker knows.
use Rattle.std.specs.Prelude.{ℕ, zero, suc, ◌+◌, ◌*◌, ◌^◌, List, [], None, sum_by, slice_index, slice_index_or, if◌then◌else◌, ◌==◌}
use Rattle.commons.specs.Bag.{bag}
use Rattle.commons.specs.Calls.{desk_empty, desk_full}
use Rattle.commons.specs.Packets.{holds_in_slot}
pub use Rattle.commons.specs.declared.limits.Limits.{Limits}
pub use Rattle.commons.specs.declared.packet.Seg.{Seg}
pub use Rattle.step_core.specs.declared.view.Head.{Head}
pub use Rattle.step_core.specs.declared.view.Look.{Look}
pub use Rattle.step_core.specs.declared.view.Chain.{Chain}
pub use Rattle.step_core.specs.declared.view.Work.{Work}
pub use Rattle.step_core.specs.declared.view.View.{View}
pub use Rattle.step_core.specs.declared.view.Desk.{Desk}
pub use Rattle.step_core.specs.declared.view.Phase.{Phase}
pub use Rattle.step_core.specs.declared.view.Phase.TheVariants.{ToFill, Filled, Seized, TakenOut}

abbrev pub Packet : Type 0
Packet = List Seg

-- the words, each desk's word and slot, and the view of each worker, worker 1 first
pub record World : Type 0 where
  pub limits : Limits
  pub head : Head
  pub length : ℕ
  pub links : List ℕ
  pub counts : List ℕ
  pub desks : List Desk
  pub views : List View

-- a view that names nothing
abbrev pub empty_view : ℕ → View
empty_view part = record {
  hand = [];
  zeros = [];
  holds = [];
  headers = [];
  credit = 0;
  look = None;
  seen = 0;
  chain = None;
  work = None;
  part = part;
}

-- the view at an index, and that of a worker; workers are numbered from 1
abbrev pub view_at : List View → ℕ → View
view_at views k = slice_index_or views k (empty_view 0)

abbrev pub view_of : List View → ℕ → View
view_of views zero = empty_view 0
view_of views (suc k) = view_at views k

abbrev pub no_desk : Desk
no_desk = record { word = desk_empty; slot = None }

abbrev pub desk_at : List Desk → ℕ → Desk
desk_at desks d = slice_index_or desks d no_desk

abbrev pub link_in : List ℕ → ℕ → ℕ
link_in links i = slice_index links i

-- the holds of a full desk
abbrev pub shelf : Desk → List ℕ
shelf d = if d.word == desk_full then holds_in_slot d.slot else []

-- how often i is in all hands, among all elements whose count is 0 for the moment, and among all
-- holds
abbrev pub hands : ℕ → List View → ℕ
hands i views = sum_by (λ v. bag v.hand i) views

abbrev pub all_zeros : ℕ → List View → ℕ
all_zeros i views = sum_by (λ v. bag v.zeros i) views

abbrev pub all_holds : ℕ → List View → List Desk → ℕ
all_holds i views desks = sum_by (λ v. bag v.holds i) views + sum_by (λ d. bag (shelf d) i) desks

abbrev pub credits : List View → ℕ
credits views = sum_by (λ v. v.credit) views

abbrev pub parts : List View → ℕ
parts views = sum_by (λ v. v.part) views

-- a worker's part of a pool: so great a number that a little of it can be given away, again and
-- again
abbrev pub worker_part : ℕ
worker_part = 2 ^ 56

-- all parts of a pool: one for each worker
abbrev pub every_part : Limits → ℕ
every_part l = l.workers * worker_part
