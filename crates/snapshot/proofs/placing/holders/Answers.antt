use Rattle.std.proofs.Common.{ℕ, Vec, ap, length, [], ◌∙◌, arith}
use Rattle.std.specs.declared.alloc.Global.{Global}
use Rattle.std.proofs.lemmas.List.{length-map, length-replicate}
use Rattle.snapshot.specs.inside.Adding.{lists_of}
use Rattle.snapshot.proofs.PlacedShares.{all_holders, desks_unheld, shares_within, workers_unheld}
use Rattle.snapshot.proofs.placing.holders.Goals as goal

-- there are guests of the pool's workers alone
pub by_worker-requires-clause-guests : goal.by_worker-requires-clause-guests
by_worker-requires-clause-guests c = rw c.as_slice.ensures c.requires.lawful.shape.guests

-- the list of each worker's guests is there
pub add_shares-requires-clause-workers : goal.add_shares-requires-clause-workers
add_shares-requires-clause-workers c =
    let s = c.args.snapshot.now in
    let guests = c.in_ok-guests.guests.items in
    let hosted = rw c.as_slice.ensures at c.in_ok-guests.ensures in
    rw (c.as_slice-2.ensures, c.as_slice-3.ensures.value) (λ k d l. omega (
      arith,
      shares_within s (lists_of guests) c.requires.lawful.shape hosted k d l,
      length-map guests (λ (v : Vec ℕ Global). v.items),
    ))

-- what is held is below the population
pub add_shares-requires-clause-known : goal.add_shares-requires-clause-known
add_shares-requires-clause-known c = λ i h.
    let s = c.args.snapshot.now in
    let guests = c.in_ok-guests.guests.items in
    let hosted = rw c.as_slice.ensures at c.in_ok-guests.ensures in
    let size = ap length c.in_ok-table.ensures ∙ length-replicate s.limits.population [] in
    let none = workers_unheld s (lists_of guests) i hosted (c.requires.lawful.known i (omega (arith, size))) in
    rw (← c.as_slice-2.ensures, ← c.as_slice-3.ensures.value) at none

pub add_desks-requires-clause-known : goal.add_desks-requires-clause-known
add_desks-requires-clause-known c = λ i h.
    let s = c.args.snapshot.now in
    let size = ap length c.in_ok-table.ensures ∙ length-replicate s.limits.population [] in
    rw c.as_slice-4.ensures
    (desks_unheld s i (c.requires.lawful.known i (omega (arith, size, c.in_ok-add_shares.ensures.len))))

-- workers first, and then desks
pub returns : goal.returns
returns c =
    let s = c.args.snapshot.now in
    let guests = c.in_ok-guests.guests.items in
    let hosted = rw c.as_slice.ensures at c.in_ok-guests.ensures in
    let within = shares_within s (lists_of guests) c.requires.lawful.shape hosted in
    let workers = rw (c.as_slice-2.ensures, c.as_slice-3.ensures.value) at c.in_ok-add_shares.ensures in
    let desks = rw c.as_slice-4.ensures at c.in_ok-add_desks.ensures in
    all_holders s (lists_of guests) _ _ _ hosted within c.in_ok-table.ensures workers desks
