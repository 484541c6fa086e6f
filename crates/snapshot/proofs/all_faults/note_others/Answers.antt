use Rattle.std.proofs.Common.{IsTrue, length, arith}
use Rattle.std.specs.Prelude.{slice_index}
use Rattle.std.proofs.lemmas.Result.{IfOk-weaker}
use Rattle.snapshot.specs.declared.fault.Fault.TheVariants.{BadCount}
use Rattle.snapshot.specs.inside.Notes.{Adds, AddsBelow, IsLate, IsMiscounted}
use Rattle.snapshot.proofs.ToldKinds.{late-all}
use Rattle.snapshot.proofs.all_faults.note_others.Goals as goal

-- a row has as many numbers as the pool has elements
pub note_headers-requires : goal.note_headers-requires
note_headers-requires c =
    rw c.as_slice.ensures.value (omega (arith, c.in_ok-tally.ensures.own.len, c.requires.pool.population))

pub note_doubled-requires-clause-few : goal.note_doubled-requires-clause-few
note_doubled-requires-clause-few c =
    rw c.as_slice-held.ensures.value (omega (arith, c.in_ok-tally.ensures.held.len, c.requires.pool.population))

pub note_lost-requires-clause-few : goal.note_lost-requires-clause-few
note_lost-requires-clause-few c =
    rw c.as_slice-held.ensures.value (omega (arith, c.in_ok-tally.ensures.held.len, c.requires.pool.population))

pub note_counts-requires-clause-few : goal.note_counts-requires-clause-few
note_counts-requires-clause-few c =
    rw c.as_slice-held.ensures.value (omega (arith, c.in_ok-tally.ensures.held.len, c.requires.pool.population))

-- each pass adds what is told of its kind
pub returns : goal.returns
returns c =
    let s = c.args.snapshot.now in
    let stack = c.args.stack.now in
    let ends = c.args.ends in
    let tally = c.in_ok-tally.tally in
    let held = tally.held.items in
    let first = c.args.faults.now.items in
    let before = c.note_lost.new.faults.items in
    let last = c.note_counts.new.faults.items in
    let headers = rw c.as_slice.ensures.value at c.in_ok-note_headers.ensures in
    let doubled = rw (c.as_slice-held.ensures.value, c.as_slice-free.ensures.value) at c.in_ok-note_doubled.ensures in
    let lost = rw (c.as_slice-held.ensures.value, c.as_slice-free.ensures.value) at c.in_ok-note_lost.ensures in
    let counts = rw (c.as_slice-held.ensures.value, c.as_slice-2.ensures) at c.note_counts.ensures in
    IfOk-weaker c.note_counts.result
    (λ _. AddsBelow (length held) (λ e. BadCount e (slice_index s.counts e) (slice_index held e))
    (IsMiscounted s.counts held) before last)
    (λ _. Adds (IsLate (IsTrue ends) stack s) first last)
    (λ _ added. late-all ends stack s tally first c.note_strangers.new.faults.items c.note_packets.new.faults.items
    c.note_headers.new.faults.items c.note_doubled.new.faults.items before last c.requires.shape
    c.in_ok-tally.ensures c.in_ok-note_strangers.ensures c.in_ok-note_packets.ensures headers doubled lost added)
    counts
