-- Acts made the pools of new ones, and what was closed is what they left.
use Rattle.std.proofs.Common.{ℕ, ◌≡◌, List, Result, Ok, Err, map, ap, ◌∙◌}
use Rattle.std.specs.Prelude.{IfOk}
use Rattle.mbuf.specs.Twins.{TwinMember}
use Rattle.pool_model.specs.TwinModel.{TwinPool, after_twin_acts, first_statement, new_twin_pool, second_statement}
use Rattle.snapshot.specs.Snapshots.{statement_in}
use Rattle.book.specs.Left.{first_of, second_of}
use Rattle.book.specs.declared.closed_twin.ClosedTwin.{ClosedTwin}
use Rattle.twin_acts.specs.declared.acts.TwinAct.{TwinAct}
use Rattle.share_book.specs.AsModel.{pools_of}
use Rattle.share_book.specs.Locked.{AreTwinsLeftBy}
use Rattle.share_book.specs.TwinSites.{TwinLists}
use Rattle.share_book.proofs.locked_twin.LockedTwins.close.Goals as goal

-- some acts, one after another, left this
abbrev LeftBy : ClosedTwin → Type 0
LeftBy d = (acts : List (ℕ × TwinAct)) × AreTwinsLeftBy acts d.first_limits d.second_limits d.first d.second d.shares.items

-- what is closed of pools that acts made, those left
left_by_acts : (E : Type 0) (r : Result ClosedTwin E) (s : TwinLists) →
    ((acts : List (ℕ × TwinAct)) × (pools_of s ≡ after_twin_acts acts (new_twin_pool s.first.limits s.second.limits))) →
    IfOk r (λ d. d.first_limits ≡ s.first.limits) → IfOk r (λ d. d.second_limits ≡ s.second.limits) →
    IfOk r (λ d. d.shares.items ≡ s.members) →
    IfOk r (λ d. statement_in (first_of d.first_limits d.first d.shares.items) ≡ first_statement (pools_of s)) →
    IfOk r (λ d. statement_in (second_of d.second_limits d.second d.shares.items) ≡ second_statement (pools_of s)) →
    IfOk r LeftBy
left_by_acts E (Err e) s made first_limits second_limits shares first second = tt
left_by_acts E (Ok d) s made first_limits second_limits shares first second =
    let same : pools_of s ≡ after_twin_acts made.0 (new_twin_pool d.first_limits d.second_limits) =
    rw (first_limits, second_limits) made.1 in (
      made.0,
      record {
        first_shares = ap (λ (ms : List TwinMember). map (λ m. m.first) ms) shares ∙ ap (λ (t : TwinPool). t.first.members) same;
        second_shares = ap (λ (ms : List TwinMember). map (λ m. m.second) ms) shares ∙ ap (λ (t : TwinPool). t.second.members) same;
        first = first ∙ ap first_statement same;
        second = second ∙ ap second_statement same;
      },
    )

pub returns-clause-reached : goal.returns-clause-reached
returns-clause-reached g c =
    let e = c.close.ensures in
    left_by_acts _ c.close.result c.into_site-site.result c.comes_of_acts.ensures e.first_limits e.second_limits
    e.shares e.first_model e.second_model
