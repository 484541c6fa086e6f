-- How a history goes on, and that each of its steps is its event.
use Rattle.std.proofs.Common.{◌≡◌, inl, ℕ, zero, suc, ◌<◌, List, [], ◌∷◌, ◌++◌, Option, Some, None, length, set, replicate, refl, sym, ap, ◌∙◌, subst, append-nil, ⊎_elim, arith}
use mathlib.Core.Option.{some, some-ne-none}
use Rattle.std.proofs.lemmas.List.{length-append, length-set}
use lib.ListN.{get_elem?}
use lib.Seq.{map-set}
use Rattle.atomic_table.proofs.Lists.{at_map, set_again}
use Rattle.commons.specs.declared.limits.Limits.{Limits}
use Rattle.step_core.specs.declared.step.Step.{Step}
use Rattle.step_core.specs.declared.step.Outcome.{Outcome}
use Rattle.step_core.specs.Law.{Lawful}
use Rattle.step_core.specs.Schedules.{slot_at}
use Rattle.step_core.specs.Shows.{ShowsTable}
use Rattle.step_core.specs.Steps.{play}
use Rattle.step_core.specs.World.{World, Packet, no_desk, desk_at, view_at, empty_view, worker_part}
use Rattle.step_core.proofs.Handing.{SlotIs, slot_after}
use Rattle.step_core.proofs.Theorem.{makes_its_event, changes_little}
use Rattle.ground.specs.Parting.{less, lending, loan_of, parting, parcel_view, both_views}
use Rattle.ground.proofs.Lending.{goes_on, stays_put}
use Rattle.ground.proofs.Sending.{holds_go_on}
use Rattle.ground.proofs.TakingOver.{takes_over}
use Rattle.ground.specs.declared.known.Known.{Known}
use Rattle.ground.specs.History.{Log, Move, Stepped, Split, Lent, Parcelled, Joined, MoveLeads, Led, HistoriesAreEvents, DesksHaveWhatWasPutIn, put_in_last, log_of, logs_of, notes_of}

-- one step more, of the seat that knows n afterwards
pub led_on : (l : Limits) (h : List Move) (w : World) (ns : List Known) (id : ℕ) (m n : Known) (st : Step) (o : Outcome)
    (u : World) → get_elem? ns id ≡ some m → Lawful w → Led l h w (logs_of ns) → 0 < (view_at w.views id).part →
    play w (suc id) st ≡ Some (o, u) → log_of n ≡ (m.steps ++ notes_of st o (slot_at w.desks st), m.joined) →
    Led l (Stepped id st o ∷ h) u (logs_of (set ns id n))
led_on l h w ns id m n st o u at law led busy e noted = (
  w,
  logs_of ns,
  law,
  led,
  (
    busy,
    e,
    (
      log_of m,
      at_map log_of ns id m at,
      map-set log_of ns id n ∙ ap (λ (x : Log). set (logs_of ns) id x) noted,
    ),
  ),
)

-- a step that the seat doesn't note leads on, and leaves its log as it was
pub led_quietly : (l : Limits) (h : List Move) (w : World) (ns : List Known) (id : ℕ) (m : Known) (st : Step)
    (o : Outcome) (u : World) → get_elem? ns id ≡ some m → Lawful w → Led l h w (logs_of ns) →
    0 < (view_at w.views id).part → play w (suc id) st ≡ Some (o, u) → notes_of st o (slot_at w.desks st) ≡ [] →
    Led l (Stepped id st o ∷ h) u (logs_of ns)
led_quietly l h w ns id m st o u at law led busy e none =
    subst (λ (vs : List Known). Led l (Stepped id st o ∷ h) u (logs_of vs)) (set_again ns id m at)
    (led_on l h w ns id m m st o u at law led busy e
    ((λ i. (sym (append-nil m.steps) i, m.joined)) ∙ (λ i. (m.steps ++ sym none i, m.joined))))

-- a seat that has noted the same
pub same_logs : (ns : List Known) (id : ℕ) (m n : Known) → get_elem? ns id ≡ some m → log_of n ≡ log_of m →
    logs_of (set ns id n) ≡ logs_of ns
same_logs ns id m n at same =
    map-set log_of ns id n
    ∙ (ap (λ (x : Log). set (logs_of ns) id x) same
    ∙ (sym (map-set log_of ns id m) ∙ ap logs_of (set_again ns id m at)))

-- no slot has a packet at the start
bare_slot : (n d : ℕ) → (desk_at (replicate n no_desk) d).slot ≡ None
bare_slot zero d = refl
bare_slot (suc n) zero = refl
bare_slot (suc n) (suc d) = bare_slot n d

-- an index at which a list has something is one of it
within : {A : Type 0} (xs : List A) (i : ℕ) (x : A) → get_elem? xs i ≡ some x → i < length xs
within [] i x e = absurd (some-ne-none x (sym e))
within (y ∷ ys) zero x e = omega arith
within (y ∷ ys) (suc i) x e = let m = within ys i x e in omega arith

-- there are as many logs as views
as_many : (l : Limits) (ms : List Move) (w : World) (logs : List Log) → Led l ms w logs →
    length logs ≡ length w.views
as_many l [] w logs led =
    ap (λ (xs : List Log). length xs) led.1 ∙ sym (ap (λ (u : World). length u.views) led.0)
as_many l (Stepped id st o ∷ ms) w logs led =
    let leads : MoveLeads (Stepped id st o) led.0 led.1 w logs = led.4 in
    let before = as_many l ms led.0 led.1 led.3 in
    let same = (changes_little led.0 (suc id) st o w leads.1).views in
    let sizes = ap (λ (xs : List Log). length xs) leads.2.2 in
    let kept = length-set led.1 id (leads.2.0.0 ++ notes_of st o (slot_at led.0.desks st), leads.2.0.1) in
    omega arith
as_many l (Split id ∷ ms) w logs led =
    let leads : MoveLeads (Split id) led.0 led.1 w logs = led.4 in
    let before = as_many l ms led.0 led.1 led.3 in
    let left = less (view_at led.0.views id) in
    let views = ap (λ (u : World). length u.views) leads.1 in
    let sizes = ap (λ (xs : List Log). length xs) leads.2 in
    omega (
      arith,
      length-append led.1 (([], []) ∷ []),
      length-append (set led.0.views id left) (empty_view worker_part ∷ []),
      length-set led.0.views id left,
    )
as_many l (Lent id i ∷ ms) w logs led =
    let leads : MoveLeads (Lent id i) led.0 led.1 w logs = led.4 in
    let before = as_many l ms led.0 led.1 led.3 in
    let left = lending i (view_at led.0.views id) in
    let views = ap (λ (u : World). length u.views) leads.3 in
    let sizes = ap (λ (xs : List Log). length xs) leads.4 in
    omega (
      arith,
      length-append led.1 (([], []) ∷ []),
      length-append (set led.0.views id left) (loan_of i ∷ []),
      length-set led.0.views id left,
    )
as_many l (Parcelled id p ∷ ms) w logs led =
    let leads : MoveLeads (Parcelled id p) led.0 led.1 w logs = led.4 in
    let before = as_many l ms led.0 led.1 led.3 in
    let left = parting p (view_at led.0.views id) in
    let views = ap (λ (u : World). length u.views) leads.4 in
    let sizes = ap (λ (xs : List Log). length xs) leads.5 in
    omega (
      arith,
      length-append led.1 (([], []) ∷ []),
      length-append (set led.0.views id left) (parcel_view p ∷ []),
      length-set led.0.views id left,
    )
as_many l (Joined id other ∷ ms) w logs led =
    let leads : MoveLeads (Joined id other) led.0 led.1 w logs = led.4 in
    let before = as_many l ms led.0 led.1 led.3 in
    let u = both_views (view_at led.0.views id) (view_at led.0.views other) in
    let views = ap (λ (u : World). length u.views) leads.3 in
    let log = leads.4.0 in
    let taken = leads.4.1 in
    let all : Log = (log.0, log.1 ++ (taken.0 ++ taken.1)) in
    let sizes = ap (λ (xs : List Log). length xs) leads.4.4 in
    omega (
      arith,
      length-set (set led.0.views id u) other (empty_view 0),
      length-set led.0.views id u,
      length-set (set led.1 id all) other ([], []),
      length-set led.1 id all,
    )

-- each step is its event
pub histories_are_events : HistoriesAreEvents
histories_are_events l [] w logs led = tt
histories_are_events l (Stepped id st o ∷ ms) w logs led =
    let leads : MoveLeads (Stepped id st o) led.0 led.1 w logs = led.4 in (
      λ t r a b. makes_its_event led.0 (suc id) st o w led.2 leads.0 leads.1 t r a b,
      histories_are_events l ms led.0 led.1 led.3,
    )
histories_are_events l (Split id ∷ ms) w logs led =
    let leads : MoveLeads (Split id) led.0 led.1 w logs = led.4 in
    let some : 0 < (view_at led.0.views id).part = (let two = leads.0 in omega arith) in (
      λ t r a b. stays_put led.0 id some t r a (subst (λ (u : World). ShowsTable u r) leads.1 b),
      histories_are_events l ms led.0 led.1 led.3,
    )
histories_are_events l (Lent id i ∷ ms) w logs led =
    let leads : MoveLeads (Lent id i) led.0 led.1 w logs = led.4 in
    let some : 0 < (view_at led.0.views id).part = (let two = leads.0 in omega arith) in (
      λ t r a b. goes_on led.0 id i some leads.2 t r a (subst (λ (u : World). ShowsTable u r) leads.3 b),
      histories_are_events l ms led.0 led.1 led.3,
    )
histories_are_events l (Parcelled id p ∷ ms) w logs led =
    let leads : MoveLeads (Parcelled id p) led.0 led.1 w logs = led.4 in
    let some : 0 < (view_at led.0.views id).part = (let two = leads.0 in omega arith) in (
      λ t r a b. holds_go_on led.0 id p some leads.2 leads.3 t r a (subst (λ (u : World). ShowsTable u r) leads.4 b),
      histories_are_events l ms led.0 led.1 led.3,
    )
histories_are_events l (Joined id other ∷ ms) w logs led =
    let leads : MoveLeads (Joined id other) led.0 led.1 w logs = led.4 in
    let many = as_many l ms led.0 led.1 led.3 in
    let mine = within led.1 id leads.4.0 leads.4.2 in
    let theirs = within led.1 other leads.4.1 leads.4.3 in (
      λ t r a b.
          takes_over led.0 id other (omega arith) (omega arith) leads.0 leads.1 leads.2 t r a
          (subst (λ (u : World). ShowsTable u r) leads.3 b),
      histories_are_events l ms led.0 led.1 led.3,
    )

-- a desk's slot is empty, or has what was put in last
slot_led : (l : Limits) (ms : List Move) (w : World) (logs : List Log) → Led l ms w logs → (d : ℕ) →
    SlotIs d w (put_in_last d ms)
slot_led l [] w logs led d = inl (ap (λ (u : World). (desk_at u.desks d).slot) led.0 ∙ bare_slot l.desks d)
slot_led l (Stepped id st o ∷ ms) w logs led d =
    let leads : MoveLeads (Stepped id st o) led.0 led.1 w logs = led.4 in
    slot_after d led.0 (suc id) st o w (put_in_last d ms) leads.1 (slot_led l ms led.0 led.1 led.3 d)
slot_led l (Split id ∷ ms) w logs led d =
    let leads : MoveLeads (Split id) led.0 led.1 w logs = led.4 in
    subst (λ (u : World). SlotIs d u (put_in_last d ms)) (sym leads.1) (slot_led l ms led.0 led.1 led.3 d)
slot_led l (Lent id i ∷ ms) w logs led d =
    let leads : MoveLeads (Lent id i) led.0 led.1 w logs = led.4 in
    subst (λ (u : World). SlotIs d u (put_in_last d ms)) (sym leads.3) (slot_led l ms led.0 led.1 led.3 d)
slot_led l (Parcelled id p ∷ ms) w logs led d =
    let leads : MoveLeads (Parcelled id p) led.0 led.1 w logs = led.4 in
    subst (λ (u : World). SlotIs d u (put_in_last d ms)) (sym leads.4) (slot_led l ms led.0 led.1 led.3 d)
slot_led l (Joined id other ∷ ms) w logs led d =
    let leads : MoveLeads (Joined id other) led.0 led.1 w logs = led.4 in
    subst (λ (u : World). SlotIs d u (put_in_last d ms)) (sym leads.3) (slot_led l ms led.0 led.1 led.3 d)

pub desks_have_what_was_put_in : DesksHaveWhatWasPutIn
desks_have_what_was_put_in l ms w logs led d p there =
    ⊎_elim
    (λ (n : (desk_at w.desks d).slot ≡ None).
    absurd (let g : ◌≡◌ {A = Option Packet} (Some p) None = sym there ∙ n in cc))
    (λ (n : (desk_at w.desks d).slot ≡ put_in_last d ms). sym n ∙ there)
    (slot_led l ms w logs led d)
