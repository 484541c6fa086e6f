use Rattle.std.proofs.Common.{arith, ap, length, length-append}
use Rattle.mempool.proofs.Pushes.{put_over, put_whole_passed, put_after_cache}
use Rattle.mempool.proofs.steps.overflow_apart.Goals as goal

-- The cache keeps its size, and all beyond was pushed.
pub returns-in-Keep-clause-calls : goal.returns-in-Keep-clause-calls
returns-in-Keep-clause-calls g c kept list e n =
    let ok = c.args.cache.now.ok in
    let over = c.requires.over.keep c.in-Keep.is in
    let all = ap length e in
    let parts = length-append kept list in
    put_over g.C.Commons.did g.C.Commons.side c.args.limits.now kept list
    c.args.cache.now.items c.args.c.now c.flush_beyond.new.c c.flush_beyond.result
    c.flush_beyond.new.cache.items c.in-Keep.is e (omega (arith, ok, all, parts, n, c.requires.some))
    (omega (arith, ok, all, parts, n, c.requires.short)) (omega (arith, ok, over.0)) (omega (arith, ok, over.1))
    c.flush_beyond.ensures.calls

-- The list is longer than the threshold, and was pushed past the cache.
pub returns-then-len-size-clause-calls : goal.returns-then-len-size-clause-calls
returns-then-len-size-clause-calls g c kept list e n =
    let ok = c.args.cache.now.ok in
    let all = ap length e in
    let parts = length-append kept list in
    put_whole_passed g.C.Commons.did g.C.Commons.side c.args.limits.now kept list c.args.c.now
    c.flush_beyond-then-len-size.new.c c.flush_beyond-then-len-size.result c.flush_beyond-then-len-size.new.cache.items c.in-Whole.is
    (omega (arith, ok, all, parts, n)) (rw n (rw (← e) c.flush_beyond-then-len-size.ensures.calls))

-- The cache was pushed whole, and the list came after what was left.
pub returns-else-len-size-clause-calls : goal.returns-else-len-size-clause-calls
returns-else-len-size-clause-calls g c kept list e n =
    let ok = c.args.cache.now.ok in
    let over = c.requires.over.whole c.in-Whole.is in
    let all = ap length e in
    let parts = length-append kept list in
    let pushed = c.flush_first.ensures.calls kept list e n in
    put_after_cache g.C.Commons.did g.C.Commons.side c.args.limits.now kept list pushed.0 c.args.c.now
    c.flush_first.new.c c.flush_first.result c.flush_first.new.cache.items c.in-Whole.is
    (omega (arith, ok, all, parts, n, c.requires.some)) (omega (arith, ok, all, parts, n, c.requires.short))
    (omega (arith, ok, all, parts, n)) (omega (arith, ok, all, parts, n, over)) pushed.2 pushed.1
