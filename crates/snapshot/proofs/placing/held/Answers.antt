use Rattle.std.proofs.Common.{ℕ, List, ◌≡◌, ◌<◌, slice_index, length, vec_len, ap, sym, ◌∙◌, arith}
use Rattle.std.proofs.lemmas.Bool.{eqb-true, eqb-false}
use Rattle.std.proofs.lemmas.List.{length_push}
use Rattle.std.proofs.lemmas.Iterator.Adapters.{YieldsList-from_vec}
use Rattle.std.proofs.lemmas.Iterator.Consumers.{YieldsList-from_enumerate, YieldsList-turn, YieldsList-end}
use Rattle.snapshot.proofs.HeldEntries.{turn_of, entry_held, entry_none, entries_all}
use Rattle.snapshot.proofs.placing.held.Goals as goal

-- an index below the population fits
pub overflow_cast-i : goal.overflow_cast-i
overflow_cast-i c =
    let table = c.in_ok-table.table.items in
    let met = YieldsList-turn (YieldsList-from_enumerate (YieldsList-from_vec table (cc) (cc))
    (cc)) c.loop-i.yielded c.loop-i.i-iterator c.loop-i.yielded_by c.next.result c.next.new.self
    (c.in-Some.i, c.in-Some.holders) c.in-Some.is c.next.ensures.steps in
    let turn =
    turn_of c.args.snapshot.now table (length c.loop-i.yielded) c.in-Some.i c.in-Some.holders
    c.in_ok-table.ensures met in
    omega (arith, turn.below, turn.number, c.requires.pool.population)

-- there is a count for each element
pub bounds-counts-i : goal.bounds-counts-i
bounds-counts-i c =
    let table = c.in_ok-table.table.items in
    let met = YieldsList-turn (YieldsList-from_enumerate (YieldsList-from_vec table (cc) (cc))
    (cc)) c.loop-i.yielded c.loop-i.i-iterator c.loop-i.yielded_by c.next.result c.next.new.self
    (c.in-Some.i, c.in-Some.holders) c.in-Some.is c.next.ensures.steps in
    let turn =
    turn_of c.args.snapshot.now table (length c.loop-i.yielded) c.in-Some.i c.in-Some.holders
    c.in_ok-table.ensures met in
    omega (arith, turn.below, turn.number, ap length c.as_slice-counts.ensures, c.requires.lawful.shape.counts)

-- an element without a holder has no entry
pub loop-i-preserved-then-is_empty : goal.loop-i-preserved-then-is_empty
loop-i-preserved-then-is_empty c =
    let s = c.args.snapshot.now in
    let table = c.in_ok-table.table.items in
    let k = length c.loop-i.yielded in
    let list = c.in-Some.holders in
    let met = YieldsList-turn (YieldsList-from_enumerate (YieldsList-from_vec table (cc) (cc))
    (cc)) c.loop-i.yielded c.loop-i.i-iterator c.loop-i.yielded_by c.next.result c.next.new.self
    (c.in-Some.i, list) c.in-Some.is c.next.ensures.steps in
    let turn = turn_of s table k c.in-Some.i list c.in_ok-table.ensures met in
    let none : length list.items ≡ 0 =
    omega
    (arith, list.ok, eqb-true (vec_len list) 0 (sym c.is_empty.ensures ∙ c.if-is_empty.true))
    in
    rw length_push (c.loop-i.invariant ∙ sym (entry_none s k c.in-Some.i list c.requires.lawful turn none))

-- one with holders has an entry with its count
pub loop-i-preserved : goal.loop-i-preserved
loop-i-preserved c =
    let s = c.args.snapshot.now in
    let table = c.in_ok-table.table.items in
    let k = length c.loop-i.yielded in
    let list = c.in-Some.holders in
    let met = YieldsList-turn (YieldsList-from_enumerate (YieldsList-from_vec table (cc) (cc))
    (cc)) c.loop-i.yielded c.loop-i.i-iterator c.loop-i.yielded_by c.next.result c.next.new.self
    (c.in-Some.i, list) c.in-Some.is c.next.ensures.steps in
    let turn = turn_of s table k c.in-Some.i list c.in_ok-table.ensures met in
    let apart = eqb-false (vec_len list) 0 (sym c.is_empty.ensures ∙ c.if-is_empty.false) in
    let some : 0 < length list.items = omega (arith, list.ok, apart) in
    let count = ap (λ (counts : List ℕ). slice_index counts c.in-Some.i) c.as_slice-counts.ensures in
    rw (length_push, c.in_ok-push.ensures.items, c.new.ensures, c.loop-i.invariant)
    (sym (entry_held s k c.in-Some.i (slice_index c.as_slice-counts.result.now c.in-Some.i) list
    c.requires.lawful turn some count))

-- all elements were looked at
pub returns : goal.returns
returns c =
    let s = c.args.snapshot.now in
    let table = c.in_ok-table.table.items in
    let end = YieldsList-end (YieldsList-from_enumerate (YieldsList-from_vec table (cc) (cc))
    (cc)) c.loop-i.yielded c.loop-i.i-iterator c.loop-i.yielded_by c.next.result c.next.new.self
    c.in-None.is c.next.ensures.steps in
    c.new-2.ensures ∙ c.loop-i.invariant ∙ entries_all s table (length c.loop-i.yielded) c.in_ok-table.ensures end.1
