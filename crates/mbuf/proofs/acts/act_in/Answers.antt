use Rattle.std.proofs.Common.{[], Ok, Err, ap, refl, sym, rules}
use Rattle.mbuf.proofs.FreshLemmas.{fresh_none}
use Rattle.mbuf.proofs.RefusedLemmas.{resized_same}
use Rattle.mbuf.proofs.acts.act_in.Goals as goal

-- A free: its calls are the act's, and the reply tells what was freed.
pub returns-in-Ok : goal.returns-in-Ok
returns-in-Ok g c =
    let done = c.in-Ok.ensures in
    rw c.in-Free.is (record {
      calls = (done.calls.0, done.calls.1, (Ok c.in-Ok.freed, done.calls.2, refl));
      fresh = fresh_none _ _;
      own = search rules;
      guests = search rules;
      refused = search rules;
    })

-- An append asks nothing of the shared pool, and the reply tells its answer and no new element; a
-- refused one leaves the packets as they were.
pub returns-in-Append : goal.returns-in-Append
returns-in-Append g c =
    let done = c.append.ensures in
    let told = c.told_len.ensures in
    rw c.in-Append.is (record {
      calls = ([], sym done.no_call, (c.append.result, done.resized, refl, told.reply));
      fresh = rw told.none (fresh_none _ _);
      own = search rules;
      guests = search rules;
      refused =
          rw told.reply (resized_same _ _ _ _ _ _ _ _ done.resized (ap g.C.Commons.side done.no_call));
    })

-- A prepend asks nothing of the shared pool, and the reply tells its answer and no new element; a
-- refused one leaves the packets as they were.
pub returns-in-Prepend : goal.returns-in-Prepend
returns-in-Prepend g c =
    let done = c.prepend.ensures in
    let told = c.told_len-in-Prepend.ensures in
    rw c.in-Prepend.is (record {
      calls = ([], sym done.no_call, (c.prepend.result, done.resized, refl, told.reply));
      fresh = rw told.none (fresh_none _ _);
      own = search rules;
      guests = search rules;
      refused =
          rw told.reply (resized_same _ _ _ _ _ _ _ _ done.resized (ap g.C.Commons.side done.no_call));
    })

-- An adj asks nothing of the shared pool, and the reply tells its answer and no new element; a
-- refused one leaves the packets as they were.
pub returns-in-Adj : goal.returns-in-Adj
returns-in-Adj g c =
    let done = c.adj.ensures in
    let told = c.told_len-in-Adj.ensures in
    rw c.in-Adj.is (record {
      calls = ([], sym done.no_call, (c.adj.result, done.resized, refl, told.reply));
      fresh = rw told.none (fresh_none _ _);
      own = search rules;
      guests = search rules;
      refused =
          rw told.reply (resized_same _ _ _ _ _ _ _ _ done.resized (ap g.C.Commons.side done.no_call));
    })

-- A trim asks nothing of the shared pool, and the reply tells its answer and no new element; a
-- refused one leaves the packets as they were.
pub returns-in-Trim : goal.returns-in-Trim
returns-in-Trim g c =
    let done = c.trim.ensures in
    let told = c.told_len-in-Trim.ensures in
    rw c.in-Trim.is (record {
      calls = ([], sym done.no_call, (c.trim.result, done.resized, refl, told.reply));
      fresh = rw told.none (fresh_none _ _);
      own = search rules;
      guests = search rules;
      refused =
          rw told.reply (resized_same _ _ _ _ _ _ _ _ done.resized (ap g.C.Commons.side done.no_call));
    })

-- An attach that was done: its calls are the act's.
pub returns-in-Ok-attach : goal.returns-in-Ok-attach
returns-in-Ok-attach g c =
    let done = c.in-Ok-attach.ensures in
    rw c.in-Attach.is (record {
      calls = (done.calls.0, done.calls.1, (Ok tt, done.calls.2, refl));
      fresh = fresh_none _ _;
      own = search rules;
      guests = search rules;
      refused = search rules;
    })

-- An attach that was refused: its calls are the act's, and the reply tells the cause.
pub returns-in-Err-attach : goal.returns-in-Err-attach
returns-in-Err-attach g c =
    let done = c.in-Err-attach.ensures in
    rw c.in-Attach.is (record {
      calls = (done.calls.0, done.calls.1, (Err c.in-Err-attach.cause, done.calls.2, refl));
      fresh = fresh_none _ _;
      own = search rules;
      guests = search rules;
      refused = search rules;
    })

-- A detach that was done: its calls are the act's, and the reply tells what was freed.
pub returns-in-Ok-detach : goal.returns-in-Ok-detach
returns-in-Ok-detach g c =
    let done = c.in-Ok-detach.ensures in
    rw c.in-Detach.is (record {
      calls = (done.calls.0, done.calls.1, (Ok c.in-Ok-detach.freed, done.calls.2, refl));
      fresh = fresh_none _ _;
      own = search rules;
      guests = search rules;
      refused = search rules;
    })

-- A detach that was refused: its calls are the act's, and the reply tells the cause.
pub returns-in-Err-detach : goal.returns-in-Err-detach
returns-in-Err-detach g c =
    let done = c.in-Err-detach.ensures in
    rw c.in-Detach.is (record {
      calls = (done.calls.0, done.calls.1, (Err c.in-Err-detach.cause, done.calls.2, refl));
      fresh = fresh_none _ _;
      own = search rules;
      guests = search rules;
      refused = search rules;
    })

-- An offer that was done: its calls are the act's.
pub returns-in-Ok-offer : goal.returns-in-Ok-offer
returns-in-Ok-offer g c =
    let done = c.in-Ok-offer.ensures in
    rw c.in-Offer.is (record {
      calls = (done.calls.0, done.calls.1, (Ok tt, done.calls.2, refl));
      fresh = fresh_none _ _;
      own = search rules;
      guests = search rules;
      refused = search rules;
    })

-- An offer that was refused: its calls are the act's, and the reply tells the cause.
pub returns-in-Err-offer : goal.returns-in-Err-offer
returns-in-Err-offer g c =
    let done = c.in-Err-offer.ensures in
    rw c.in-Offer.is (record {
      calls = (done.calls.0, done.calls.1, (Err c.in-Err-offer.cause, done.calls.2, refl));
      fresh = fresh_none _ _;
      own = search rules;
      guests = search rules;
      refused = search rules;
    })

-- A count: its calls are the act's, and the reply tells what was read.
pub returns-in-Ok-count_of : goal.returns-in-Ok-count_of
returns-in-Ok-count_of g c =
    let done = c.in-Ok-count_of.ensures in
    rw c.in-CountOf.is (record {
      calls = (done.calls.0, done.calls.1, (Ok c.in-Ok-count_of.count, done.calls.2, refl, refl));
      fresh = fresh_none _ _;
      own = search rules;
      guests = search rules;
      refused = search rules;
    })

-- A refused count: the reply tells the cause, and the worker's side is as it was.
pub returns-in-Err-count_of : goal.returns-in-Err-count_of
returns-in-Err-count_of g c =
    let done = c.in-Err-count_of.ensures in
    rw c.in-CountOf.is (record {
      calls = (done.calls.0, done.calls.1, (Err c.in-Err-count_of.cause, done.calls.2, refl, refl));
      fresh = fresh_none _ _;
      own = search rules;
      guests = search rules;
      refused = (done.refused, refl);
    })

-- A flush: the cache's calls are the act's, and the reply tells the put.
pub returns-in-Flush : goal.returns-in-Flush
returns-in-Flush g c =
    let done = c.flush.ensures in
    rw c.in-Flush.is (record {
      calls = (done.calls.0, done.calls.1, (c.flush.result, done.calls.2, done.packets, refl));
      fresh = fresh_none _ _;
      own = search rules;
      guests = search rules;
      refused = search rules;
    })
