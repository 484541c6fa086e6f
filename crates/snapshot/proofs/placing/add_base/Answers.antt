use Rattle.std.proofs.Common.{ℕ, replicate, Option, ap, sym, ◌∙◌}
use Rattle.std.proofs.lemmas.Result.{IfOk-weaker}
use Rattle.commons.specs.Bag.{bag}
use Rattle.commons.specs.Packets.{hold_of}
use Rattle.commons.proofs.Bags.{bag-nil, bag-single}
use Rattle.snapshot.proofs.AddedHolders.{added-none, added-same, base_below}
use Rattle.snapshot.proofs.placing.add_base.Goals as goal

-- a base is held once
pub add_hold-requires : goal.add_hold-requires
add_hold-requires c = base_below _ c.in-Some.base c.args.base c.in-Some.is c.requires

-- its holder is noted once
pub returns-in-Some : goal.returns-in-Some
returns-in-Some c =
    IfOk-weaker _ _ _
    (λ _ added. added-same _ _ _ _ added (λ i. ap (λ (n : ℕ). replicate n c.args.holder)
    (sym (bag-single c.in-Some.base i) ∙ ap (λ (base : Option ℕ). bag (hold_of base) i) (sym c.in-Some.is))))
    c.add_hold.ensures

-- where there is none, no holder is noted
pub returns-in-None : goal.returns-in-None
returns-in-None c =
    added-none (λ i. replicate (bag (hold_of c.args.base) i) c.args.holder) _
    (λ i. ap (λ (base : Option ℕ). replicate (bag (hold_of base) i) c.args.holder) c.in-None.is
    ∙ ap (λ (n : ℕ). replicate n c.args.holder) (bag-nil i))
