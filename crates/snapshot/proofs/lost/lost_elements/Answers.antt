-- What walk, shares, desks and guests didn't mark is lost.
use Rattle.std.proofs.Common.{ℕ, ◌≡◌, ◌∙◌, ap, subst, Bool, false, length}
use Rattle.std.proofs.lemmas.List.{length-replicate}
use Rattle.std.proofs.lemmas.Result.{IfOk-weaker}
use Rattle.snapshot.specs.Lost.{AreLost}
use Rattle.snapshot.specs.inside.Marks.{AreUnmarked}
use Rattle.snapshot.proofs.Marks.{unmarked-lost}
use Rattle.snapshot.proofs.lost.lost_elements.Goals as goal

pub returns : goal.returns
returns c =
    let s = c.args.snapshot.now in
    let walked = rw c.as_slice.ensures at c.mark_walk.ensures in
    let shared = rw c.as_slice-2.ensures at c.mark_shares.ensures in
    let all = rw c.as_slice-3.ensures at c.mark_table.ensures in
    let guests = rw c.as_slice-4.ensures at c.mark_guests.ensures in
    let left = rw c.as_slice-5.ensures.value at c.unmarked.ensures in
    let long : length c.mark_guests.new.met.items ≡ s.limits.population =
    guests.len ∙ all.len ∙ shared.len ∙ walked.len ∙ ap length c.in_ok-met.ensures ∙ length-replicate {A = Bool} s.limits.population false in
    IfOk-weaker c.unmarked.result
    (λ elems. AreUnmarked c.mark_guests.new.met.items (length c.mark_guests.new.met.items) elems.items)
    (λ elems. AreLost s elems.items)
    (λ elems are. unmarked-lost s c.in_ok-met.met.items c.mark_walk.new.met.items c.mark_shares.new.met.items
    c.mark_table.new.met.items c.mark_guests.new.met.items elems.items c.in_ok-met.ensures walked shared all guests
    (subst (λ (n : ℕ). AreUnmarked c.mark_guests.new.met.items n elems.items) long are))
    left
