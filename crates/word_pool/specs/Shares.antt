-- When the shares of a pool's workers are what one view has.
use Rattle.std.specs.Prelude.{ℕ, ◌≡◌, ◌≤◌, List, sum_by}
use Rattle.commons.specs.Bag.{bag}
use Rattle.commons.specs.Calls.{Side}
use Rattle.commons.specs.declared.limits.Limits.{Limits}
use Rattle.commons.specs.Packets.{own_in}
use Rattle.book.specs.Lost.{cached_by}
use Rattle.mbuf.specs.Members.{Member}
use Rattle.pool_model.specs.Pool.{held_by}
use Rattle.step_core.specs.declared.view.View.{View}

-- how often an element is the own one of a segment of all packets
abbrev pub owned_by : List Member → ℕ → ℕ
owned_by members i = sum_by (λ member. own_in member.table i) members

-- All caches together are the view's hand, whoever's cache an element is in; all packets together
-- hold what the view holds, each element as often; and the own elements of their segments are
-- headers of the view, each as often at most. Where no header is one twice, the own elements are
-- distinct.
pub record AreSharesOf (members : List Member) (v : View) : Type 0 where
  pub caches : (i : ℕ) → cached_by members i ≡ bag v.hand i
  pub packets : (i : ℕ) → held_by members i ≡ bag v.holds i
  pub headers : (i : ℕ) → owned_by members i ≤ bag v.headers i

-- what a worker with this view has of a pool of these limits
abbrev pub side_in : Limits → View → Side
side_in l v = record { limits = l; hand = bag v.hand; holds = bag v.holds; headers = bag v.headers }
