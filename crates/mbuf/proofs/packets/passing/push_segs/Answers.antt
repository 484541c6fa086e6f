use Rattle.std.proofs.Common.{◌<◌, [], List, length, get_or, ap, ◌∙◌, arith}
use Rattle.std.proofs.lemmas.List.{get_or_default}
use Rattle.commons.specs.declared.packet.Seg.{Seg}
use Rattle.mbuf.proofs.ChainLemmas.{one_more}
use Rattle.mbuf.proofs.packets.passing.push_segs.Goals as goal

-- One segment more stands behind the head's own, and the tail's are as before.
pub loop-index-preserved : goal.loop-index-preserved
loop-index-preserved c =
    let old = c.args.packets.now.items in
    let first = c.args.first in
    let second = c.args.second in
    let low : first < length old = omega (arith, c.requires.first, c.args.packets.now.ok) in
    let high : second < length old = omega (arith, c.requires.second, c.args.packets.now.ok) in
    let all = c.segs-index-end.ensures.segs ∙ c.index.ensures ∙ get_or_default old second c.index.result.now [] high in
    let within : c.loop-index.index < length (get_or old second []) =
    omega (arith, c.loop-index-test.true, ap (λ (s : List Seg). length s) all) in
    rw (c.push.ensures, c.segs.ensures.segs)
    (one_more old c.loop-index.packets.items first second c.loop-index.index c.index_mut.result.now
    c.index-in-loop-index.result.now low high c.requires.apart c.loop-index.invariant
    c.index_mut.ensures.value c.index-in-loop-index.ensures within)
