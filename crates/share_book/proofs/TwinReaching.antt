-- Two pools that acts reach from new ones: new, after one act more, and what is known of them.
use Rattle.std.proofs.Common.{ℕ, zero, suc, ◌≡◌, ◌+◌, refl, List, [], ◌∷◌, ◌++◌, map, Result, Ok, Err, IfOk, sym, ap, ◌∙◌}
use Rattle.std.specs.List.{range_with_len}
use Rattle.commons.specs.declared.limits.Limits.{Limits}
use Rattle.commons.specs.declared.refusal.Refusal.{Refusal}
use Rattle.mbuf.specs.Members.{Member}
use Rattle.mbuf.specs.Twins.{TwinMember}
use Rattle.pool_model.specs.Pool.{new_members}
use Rattle.pool_model.specs.TwinModel.{TwinPool, after_twin_acts, new_twin_pool, perform_twin}
use Rattle.pool_model.proofs.NewMembers.{newcomer}
use Rattle.twin_acts.specs.declared.acts.TwinAct.{TwinAct}
use Rattle.share_book.specs.AsModel.{pools_of}
use Rattle.share_book.specs.TwinSites.{AreTwinPools, TwinLists, new_twin, new_twin_lists}
use Rattle.share_book.specs.inside.TwinSite.{IsTwinReached}

-- one act more
after_one_more : (acts : List (ℕ × TwinAct)) (twins : TwinPool) (w : ℕ) (act : TwinAct) →
    after_twin_acts (acts ++ (w, act) ∷ []) twins ≡ (perform_twin (after_twin_acts acts twins) w act).1
after_one_more [] twins w act = refl
after_one_more (done ∷ more) twins w act = after_one_more more (perform_twin twins done.0 done.1).1 w act

-- it leaves pools that are reached
pub twins_further : (twins after : TwinPool) (w : ℕ) (act : TwinAct) → IsTwinReached twins →
    after ≡ (perform_twin twins w act).1 → after.first.limits ≡ twins.first.limits →
    after.second.limits ≡ twins.second.limits → IsTwinReached after
twins_further twins after w act r e first second = (
  r.0 ++ (w, act) ∷ [],
  e ∙ ap (λ (t : TwinPool). (perform_twin t w act).1) r.1
      ∙ sym (after_one_more r.0 (new_twin_pool twins.first.limits twins.second.limits) w act)
      ∙ ap (λ (l : Limits). after_twin_acts (r.0 ++ (w, act) ∷ []) (new_twin_pool l twins.second.limits)) (sym first)
      ∙ ap (λ (k : Limits). after_twin_acts (r.0 ++ (w, act) ∷ []) (new_twin_pool after.first.limits k)) (sym second),
)

-- ---- new pools

-- the workers of either are new members
new_firsts : (l k : Limits) (number many : ℕ) →
    map (λ (m : TwinMember). m.first) (map (new_twin l k) (range_with_len number many)) ≡ new_members l number many
new_firsts l k number zero = refl
new_firsts l k number (suc many) =
    ap (λ (ms : List Member). newcomer l number ∷ ms) (new_firsts l k (number + 1) many)

new_seconds : (l k : Limits) (number many : ℕ) →
    map (λ (m : TwinMember). m.second) (map (new_twin l k) (range_with_len number many)) ≡ new_members k number many
new_seconds l k number zero = refl
new_seconds l k number (suc many) =
    ap (λ (ms : List Member). newcomer k number ∷ ms) (new_seconds l k (number + 1) many)

-- so new lists are new pools of the model
pub new_pools : (l k : Limits) → AreTwinPools l k → pools_of (new_twin_lists l k) ≡ new_twin_pool l k
new_pools l k are =
    let twins : TwinPool = new_twin_pool l k in
    ap (λ (ms : List Member). let p : TwinPool = record {
      first = record twins.first { members = ms };
      second = (pools_of (new_twin_lists l k)).second;
    } in p) (new_firsts l k 1 l.workers)
    ∙ ap (λ (ms : List Member). let p : TwinPool = record {
      first = twins.first;
      second = record twins.second { members = ms };
    } in p) (new_seconds l k 1 l.workers ∙ ap (new_members k 1) (sym are.twins.workers))

-- and are reached by no act
pub new_twins_reached : (l k : Limits) → AreTwinPools l k → IsTwinReached (pools_of (new_twin_lists l k))
new_twins_reached l k are = ([], new_pools l k are)

-- also where they were asked for
pub all_new : (l k : Limits) (r : Result TwinLists Refusal) → AreTwinPools l k → IfOk r (λ s. s ≡ new_twin_lists l k) →
    IfOk r (λ s. pools_of s ≡ new_twin_pool l k)
all_new l k (Ok s) are ok = ap pools_of ok ∙ new_pools l k are
all_new l k (Err e) are ok = tt
