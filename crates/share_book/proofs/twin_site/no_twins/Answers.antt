use Rattle.std.proofs.Common.{ℕ, ◌≡◌, ◌+◌, ◌-◌, List, [], ◌∷◌, ◌++◌, ap, sym, ◌∙◌, map, arith}
use Rattle.std.specs.List.{range_with_len}
use Rattle.std.proofs.lemmas.List.FromFn.{map-range_with_len_more}
use Rattle.mbuf.specs.Twins.{TwinMember}
use Rattle.share_book.specs.TwinSites.{new_twin}
use Rattle.share_book.proofs.twin_site.no_twins.Goals as goal

-- the worker just made is the next in the row
pub loop-number-preserved : goal.loop-number-preserved
loop-number-preserved c =
    let l = c.args.first.now in
    let k = c.args.second.now in
    let n = c.loop-number.number in
    let low = c.loop-number.auto.number in
    let same : c.in-Ok.twin ≡ new_twin l k n = λ i. record { first = c.in-Ok.ensures.first i; second = c.in-Ok.ensures.second i } in
    let again : n - 1 + 1 ≡ n + 1 - 1 = omega (arith, low) in
    let next : 1 + (n - 1) ≡ n = omega (arith, low) in
    c.in_default.ensures.items
    ∙ ap (λ (t : TwinMember). c.loop-number.members.items ++ t ∷ []) same
    ∙ ap (λ (ms : List TwinMember). ms ++ new_twin l k n ∷ []) c.loop-number.invariant
    ∙ sym (map-range_with_len_more (new_twin l k) 1 (n - 1) n next)
    ∙ ap (λ (many : ℕ). map (new_twin l k) (range_with_len 1 many)) again
