use Rattle.std.proofs.Common.{◌≡◌, ℕ, ◌+◌, ◌<◌, List, ◌∷◌, length, get_or, drop, Some, sym, ap, ◌∙◌, arith}
use Rattle.std.specs.Prelude.{min}
use Rattle.std.proofs.lemmas.List.{drop_more, length-drop}
use Rattle.mbuf.specs.declared.acts.NewPacket.{NewPacket}
use Rattle.script.specs.Replay.{named, all_named}
use Rattle.script.specs.declared.names.Stand.TheVariants.{Packet}
use Rattle.script.specs.Stands.{stands_in}
use Rattle.script.proofs.NameLemmas.{all_named-end}
use Rattle.script.proofs.playing.name_all.Goals as goal

-- the next name is set to the next packet's slot, as the model does with the first of what is left
pub loop-index-preserved : goal.loop-index-preserved
loop-index-preserved c =
    let made = c.args.made.now in
    let packets = c.args.packets.now in
    let k = c.loop-index.index in
    let name = c.index-made-index.result in
    let nothing : NewPacket = record { slot = 0; elem = 0 } in
    let packet = get_or packets k nothing in
    let within : k < min (length made) (length packets) = omega (arith, c.loop-index-test.true, c.min-index-end.ensures) in
    let first : drop k made ≡ name ∷ drop (k + 1) made = drop_more made k name (omega (arith, within)) ∙ ap (λ (n : List ℕ). n ∷ drop (k + 1) made) (sym c.index-made-index.is) in
    let second : drop k packets ≡ packet ∷ drop (k + 1) packets = drop_more packets k nothing (omega (arith, within)) in
    let set = rw c.as_slice.ensures at c.in_ok-set.ensures in
    let same : stands_in c.set.new.self ≡ named c.args.worker name (Some (Packet packet.slot)) (stands_in c.loop-index.names) = λ i w other. set w other i in
    ap (all_named c.args.worker (drop (k + 1) made) (drop (k + 1) packets)) same
    ∙ sym (ap (λ (ns : List (List ℕ)). all_named c.args.worker ns (packet ∷ drop (k + 1) packets) (stands_in c.loop-index.names)) first)
    ∙ sym (ap (λ (ps : List NewPacket). all_named c.args.worker (drop k made) ps (stands_in c.loop-index.names)) second)
    ∙ c.loop-index.invariant

-- the names or the packets are at their end, so each name that is left stands as it did
pub returns : goal.returns
returns c =
    let made = c.args.made.now in
    let packets = c.args.packets.now in
    let k = c.loop-index.index in
    let none : min (length (drop k made)) (length (drop k packets)) ≡ 0 = omega (arith, length-drop k made, length-drop k packets, c.min-index-end.ensures, c.loop-index-test.false) in
    sym (all_named-end c.args.worker (drop k made) (drop k packets) (stands_in c.loop-index.names) none) ∙ c.loop-index.invariant
