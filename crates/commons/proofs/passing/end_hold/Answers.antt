use Rattle.std.proofs.Common.{◌∙◌, ◌<◌, ◌≤◌, length, None, arith}
use Rattle.std.proofs.lemmas.List.{get_or_default}
use Rattle.commons.proofs.Places.{counted_in}
use Rattle.commons.proofs.EndedRows.{ended-one}
use Rattle.commons.proofs.passing.end_hold.Goals as goal

-- the row has one hold less there, and a header is given up just where none is left
pub returns : goal.returns
returns c =
    let row = c.args.row.now in
    let e = c.args.element in
    let within : e < length row = counted_in row e c.requires.held in
    let wide : length row ≤ length c.args.headers.now.items = omega (arith, c.requires.within, c.args.headers.now.ok) in
    let owner =
    c.index.ensures ∙ get_or_default c.args.headers.now.items e c.index.result.now None
    (omega (arith, within, wide)) in
    rw (c.set.ensures, c.owner_left.ensures, owner, c.as_slice.ensures)
    (ended-one c.args.worker e row c.args.headers.now.items c.requires.held within wide)
