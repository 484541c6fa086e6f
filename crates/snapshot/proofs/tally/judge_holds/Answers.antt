-- What the rows say of each element.
use Rattle.snapshot.proofs.TalliedFaults.{first-count, first-lost, rows-once, rows-placed}
use Rattle.snapshot.proofs.tally.judge_holds.Goals as goal

-- none is doubled, and this is the least that is lost
pub returns-in-Some-lost-clause-first : goal.returns-in-Some-lost-clause-first
returns-in-Some-lost-clause-first c =
    let s = c.args.snapshot.now in
    let free = c.args.tally.now.free.items in
    let held = c.args.tally.now.held.items in
    let frees = c.requires.tally.free in
    let holds = c.requires.tally.held in
    let once = rw (c.as_slice-held.ensures.value, c.as_slice-free.ensures.value) at c.in_default.ensures.none in
    let found = rw (c.as_slice-held.ensures.value, c.as_slice-free.ensures.value) at c.in-Some-lost.ensures.found in
    first-lost s free held c.in-Some-lost.elem frees holds (rows-once s free held frees holds c.requires.clean once)
    found.0 found.1 found.2

-- none is lost either, and this is the least whose count is wrong
pub returns-in-Some-miscounted-clause-first : goal.returns-in-Some-miscounted-clause-first
returns-in-Some-miscounted-clause-first c =
    let s = c.args.snapshot.now in
    let free = c.args.tally.now.free.items in
    let held = c.args.tally.now.held.items in
    let frees = c.requires.tally.free in
    let holds = c.requires.tally.held in
    let once = rw (c.as_slice-held.ensures.value, c.as_slice-free.ensures.value) at c.in_default.ensures.none in
    let placed = rw (c.as_slice-held.ensures.value, c.as_slice-free.ensures.value) at c.in_default-lost.ensures.none in
    let clean = rows-placed s free held frees holds (rows-once s free held frees holds c.requires.clean once) placed in
    let found =
    rw (c.as_slice-held.ensures.value, c.as_slice-counts.ensures) at c.in-Some-miscounted.ensures.found in
    rw (c.from.ensures, c.as_slice-held.ensures.value, c.as_slice-counts.ensures)
    (first-count s held c.in-Some-miscounted.elem holds c.requires.few clean found.0 found.1 found.2)
