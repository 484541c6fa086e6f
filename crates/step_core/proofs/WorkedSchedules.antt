-- Schedules worked out by computation: a stale exchange, a lagging length, a stopped worker, a
-- hand-over.
use Rattle.std.proofs.Common.{◌≡◌, ℕ, [], ◌∷◌, List, Option, Some, None, map, refl, true, false}
use Rattle.commons.specs.Bag.{bag}
use Rattle.commons.specs.declared.limits.PutRule.TheVariants.{Keep}
use Rattle.step_core.specs.Bags.{without, minus}
use Rattle.step_core.specs.World.{Head, World, Limits, Packet}
use Rattle.step_core.specs.Steps.{LoadLength, Reserve, Add, LoadHead, LoadLink, Cut, StoreLink, Push, Claim, Sole, Raise, Lower, Reset, Hold, PutIn, Open, Seize, TakeOut, Clear, Value, HeadIs, Won, Got, Lost, LostTo, Done, Found, Outcome, Play, played}
use Rattle.step_core.specs.Opening.{opening}
use Rattle.step_core.specs.Schedules.{Schedule}
use Rattle.step_core.specs.Headline.{after_of}

-- the outcome of each step, None where it is refused, and the world after all
outcome_of : Option Play → Option Outcome
outcome_of None = None
outcome_of (Some p) = Some p.outcome

outcomes : World → Schedule → List (Option Outcome)
outcomes w [] = []
outcomes w (p ∷ rest) = outcome_of (played w p.0 p.1) ∷ outcomes (after_of w (played w p.0 p.1)) rest

world_after : World → Schedule → World
world_after w [] = w
world_after w (p ∷ rest) = world_after (after_of w (played w p.0 p.1)) rest

limits : ℕ → ℕ → ℕ → Limits
limits population workers desks = record {
  population = population;
  cache = 0;
  workers = workers;
  desks = desks;
  buf = 2048;
  ref_limit = 65535;
  tries = 64;
  start_count = 0;
  put_rule = Keep;
}

head_of : ℕ → ℕ → Head
head_of t c = record { top = t; count = c }

stale : Schedule
stale =
    (1, LoadLength) ∷ (1, Reserve 3 1) ∷ (1, LoadHead) ∷ (1, LoadLink 0)
    ∷ (2, LoadLength) ∷ (2, Reserve 2 2) ∷ (2, LoadHead) ∷ (2, LoadLink 0) ∷ (2, LoadLink 1)
    ∷ (2, Cut) ∷ (2, LoadHead) ∷ (2, StoreLink 0 (Some 2)) ∷ (2, Push)
    ∷ (1, Cut) ∷ []

stale_outcomes : outcomes (opening (limits 3 2 0)) stale
    ≡ Some (Value 3) ∷ Some Won ∷ Some (HeadIs (head_of 1 0)) ∷ Some (Value 2) ∷ Some (Value 2)
    ∷ Some Won ∷ Some (HeadIs (head_of 1 0)) ∷ Some (Value 2) ∷ Some (Value 3)
    ∷ Some (Got (0 ∷ 1 ∷ []))
    ∷ Some (HeadIs (head_of 3 1)) ∷ Some Done ∷ Some Won ∷ Some (LostTo (head_of 1 2)) ∷ []
unfolding outcome_of outcomes limits head_of stale bag without minus
stale_outcomes = refl

stale_world : ((world_after (opening (limits 3 2 0)) stale).head ≡ head_of 1 2)
    × ((world_after (opening (limits 3 2 0)) stale).length ≡ 0)
    × ((world_after (opening (limits 3 2 0)) stale).links ≡ 3 ∷ 3 ∷ 0 ∷ [])
    × (map (λ v. v.credit) (world_after (opening (limits 3 2 0)) stale).views ≡ 1 ∷ 1 ∷ [])
    × (map (λ v. v.hand) (world_after (opening (limits 3 2 0)) stale).views ≡ [] ∷ (1 ∷ []) ∷ [])
unfolding world_after limits head_of stale bag without minus
stale_world = (refl, refl, refl, refl, refl)

-- worker 0, a worker past the last, an element past the population, and a reservation of nothing
-- are refused
refused : Schedule
refused =
    (0, LoadLength) ∷ (3, LoadLength) ∷ (1, LoadLink 3) ∷ (1, StoreLink 0 (Some 3))
    ∷ (1, Reserve 0 1) ∷ (1, Cut) ∷ (1, Push) ∷ (1, Add 1) ∷ []

refused_outcomes : outcomes (opening (limits 3 2 0)) refused
    ≡ None ∷ None ∷ None ∷ None ∷ None ∷ None ∷ None ∷ None ∷ []
unfolding outcome_of outcomes limits refused bag without minus
refused_outcomes = refl

lagging : Schedule
lagging =
    (1, LoadLength) ∷ (1, Reserve 1 1) ∷ (1, LoadHead) ∷ (1, LoadLink 0) ∷ (1, Cut) ∷ (1, LoadHead)
    ∷ (1, StoreLink 0 None) ∷ (1, Push)
    ∷ (2, LoadLength) ∷ (2, Reserve 1 1) ∷ (2, Reserve 0 1) ∷ (1, Add 1) ∷ (2, Reserve 1 1) ∷ []

lagging_outcomes : outcomes (opening (limits 1 2 0)) lagging
    ≡ Some (Value 1) ∷ Some Won ∷ Some (HeadIs (head_of 1 0)) ∷ Some (Value 0) ∷ Some (Got (0 ∷ []))
    ∷ Some (HeadIs (head_of 0 1)) ∷ Some Done ∷ Some Won
    ∷ Some (Value 0) ∷ Some (Lost 0) ∷ None ∷ Some Done ∷ Some Won ∷ []
unfolding outcome_of outcomes limits head_of lagging bag without minus
lagging_outcomes = refl

stopped : Schedule
stopped =
    (1, LoadLength) ∷ (1, Reserve 3 1) ∷ (2, LoadLength) ∷ (2, Reserve 2 2) ∷ (2, LoadHead)
    ∷ (2, LoadLink 0) ∷ (2, LoadLink 1) ∷ (2, Cut) ∷ []

stopped_outcomes : outcomes (opening (limits 3 2 0)) stopped
    ≡ Some (Value 3) ∷ Some Won ∷ Some (Value 2) ∷ Some Won ∷ Some (HeadIs (head_of 1 0))
    ∷ Some (Value 2) ∷ Some (Value 3) ∷ Some (Got (0 ∷ 1 ∷ [])) ∷ []
unfolding outcome_of outcomes limits head_of stopped bag without minus
stopped_outcomes = refl

clone : Packet
clone = record { elem = 1; base = Some 0; data_off = 128; data_len = 0; buf_len = 2048 } ∷ []

far : Packet
far = record { elem = 1; base = Some 99; data_off = 0; data_len = 0; buf_len = 0 } ∷ []

hand_over : Schedule
hand_over =
    (1, LoadLength) ∷ (1, Reserve 2 2) ∷ (1, LoadHead) ∷ (1, LoadLink 0) ∷ (1, LoadLink 1)
    ∷ (1, Cut) ∷ (1, Claim 0) ∷ (1, Claim 1) ∷ (1, Sole 0 false) ∷ (1, Raise 0 1)
    ∷ (1, Hold 0) ∷ (1, PutIn 0 far) ∷ (1, PutIn 0 clone) ∷ (1, Sole 1 false) ∷ (2, Seize 0)
    ∷ (1, Open 0) ∷ (1, Sole 1 false)
    ∷ (2, Seize 0) ∷ (1, Seize 0) ∷ (2, Clear 0) ∷ (2, TakeOut 0) ∷ (2, Clear 0) ∷ (1, Sole 0 true)
    ∷ (2, Sole 0 true) ∷ (1, Lower 0) ∷ (2, Lower 0) ∷ (2, Reset 0) ∷ []

hand_over_outcomes : outcomes (opening (limits 2 2 1)) hand_over
    ≡ Some (Value 2) ∷ Some Won ∷ Some (HeadIs (head_of 1 0)) ∷ Some (Value 2) ∷ Some (Value 0)
    ∷ Some (Got (0 ∷ 1 ∷ [])) ∷ Some (Value 1) ∷ Some (Value 1) ∷ Some (Value 1) ∷ Some Won
    ∷ Some Won ∷ None ∷ Some Done ∷ Some (Value 1) ∷ Some (Lost 1) ∷ Some Done ∷ None
    ∷ Some Won ∷ Some (Lost 3) ∷ None ∷ Some (Found clone) ∷ Some Done ∷ Some (Value 2)
    ∷ Some (Value 2) ∷ Some (Value 2) ∷ Some (Value 1) ∷ Some Done ∷ []
unfolding outcome_of outcomes limits head_of hand_over clone far bag without minus
hand_over_outcomes = refl
