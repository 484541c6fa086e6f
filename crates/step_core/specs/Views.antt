-- What a step makes of the view of the worker that takes it: the parts, which the rows of the
-- steps cite, and one function of them all, `view_after`, which whoever plays the same steps on
-- words of its own may cite. That the rows make just what it tells is a law (`MakesItsView`,
-- Schedules.antt).
use Rattle.std.specs.Prelude.{◌≡◌, ℕ, suc, ◌+◌, ◌-◌, ◌<◌, ◌≤◌, Bool, true, false, List, [], ◌∷◌, ◌++◌, Option, Some, None, IfSome, length, nat_lt, nat_le, ◌==◌, ◌&&◌, if◌then◌else◌}
use Rattle.commons.specs.Bag.{bag}
use Rattle.commons.specs.Calls.{spent}
use Rattle.commons.specs.Packets.{holds_of_packet, own_of_packet}
use Rattle.step_core.specs.Bags.{minus, without, still_held}
use Rattle.step_core.specs.Links.{first_value, last_value, link_value}
use Rattle.step_core.specs.World.{Head, Look, Chain, Phase, ToFill, Filled, Seized, TakenOut, Work, View, Packet}
use Rattle.step_core.specs.declared.step.Step.{Step}
use Rattle.step_core.specs.declared.step.Step.TheVariants.{Reserve, Add, LoadHead, LoadLink, Cut, StoreLink, Push, Claim, Sole, Raise, Lower, Reset, Hold, PutIn, Open, Seize, TakeOut, Clear}
use Rattle.step_core.specs.declared.step.Outcome.{Outcome}
use Rattle.step_core.specs.declared.step.Outcome.TheVariants.{Value, HeadIs, Won, Got, LostTo, Done, Found}

-- ---- the stack

-- n of the common list are reserved, and given back
abbrev pub reserved : View → ℕ → View
reserved v n = record v { credit = v.credit + n }

abbrev pub given_back : View → ℕ → View
given_back v n = record v { credit = v.credit - n }

-- this head was read, and nothing is walked
abbrev pub looking_at : View → Head → View
looking_at v h = record v {
  look = Some (record { head = h; front = []; next = h.top });
  seen = h.count;
}

-- whether the walk of this look goes on at the element
abbrev pub walks_to : Option Look → ℕ → Bool
walks_to None i = false
walks_to (Some l) i = l.next == suc i

-- the look once the element is walked, whose link is this
abbrev pub walked_on : Option Look → ℕ → ℕ → Option Look
walked_on None i link = None
walked_on (Some l) i link = Some (record { head = l.head; front = l.front ++ i ∷ []; next = link })

-- a front that isn't empty and is reserved, and a count that isn't spent
abbrev pub can_cut : View → Look → Bool
can_cut v l =
    nat_lt 0 (length l.front) && (nat_le (length l.front) v.credit && nat_lt l.head.count spent)

-- a cut may be tried, which expects this head and leads to this next
abbrev pub MayCut : View → Head → ℕ → Type 0
MayCut v head next =
    (l : Look) × (v.look ≡ Some l) × (can_cut v l ≡ true) × (l.head ≡ head) × (l.next ≡ next)

abbrev pub MayNotCut : View → Type 0
MayNotCut v = IfSome v.look (λ l. can_cut v l ≡ false)

-- the view once its cut won
abbrev pub cut_view : View → Look → View
cut_view v l = record v {
  hand = v.hand ++ l.front;
  credit = v.credit - length l.front;
  look = None;
  seen = l.head.count + 1;
}

-- the view once an exchange of the head lost, and found this count
abbrev pub lost_look : View → ℕ → View
lost_look v count = record v { look = None; seen = count }

-- the chain after the link of i was set to j: its end moves, or it grows at its front, or a new
-- one begins
abbrev pub chain_after : Option Chain → ℕ → ℕ → Chain
chain_after None i j = record { items = i ∷ []; end = j }
chain_after (Some c) i j =
    if last_value c.items == suc i then record { items = c.items; end = j }
    else if (bag c.items i == 0) && (j == first_value c.items)
    then record { items = i ∷ c.items; end = c.end }
    else record { items = i ∷ []; end = j }

-- the view once the link of i was set to j
abbrev pub chained : View → ℕ → ℕ → View
chained v i j = record v { chain = Some (chain_after v.chain i j) }

-- a chain that ends at the look's top, and a count that isn't spent
abbrev pub can_push : Look → Chain → Bool
can_push l c = (c.end == l.head.top) && nat_lt l.head.count spent

-- a push may be tried, which expects this head and makes this its top
abbrev pub MayPush : View → Head → ℕ → Type 0
MayPush v head top =
    (l : Look) × (c : Chain) × (v.look ≡ Some l) × (v.chain ≡ Some c) × (can_push l c ≡ true)
    × (l.head ≡ head) × (first_value c.items ≡ top)

abbrev pub MayNotPush : View → Type 0
MayNotPush v = IfSome v.look (λ l. IfSome v.chain (λ c. can_push l c ≡ false))

-- the view once its push won, and made this the head's count
abbrev pub push_view : View → Chain → ℕ → View
push_view v c count = record v {
  hand = minus v.hand c.items;
  credit = v.credit + length c.items;
  look = None;
  seen = count;
  chain = None;
}

-- the view once its push lost, and found this count
abbrev pub lost_push : View → ℕ → View
lost_push v count = record v { look = None; seen = count; chain = None }

-- the link value of an element, or of none, where that is of a pool of this many elements
abbrev pub LinkOf : ℕ → Option ℕ → Option ℕ → Type 0
LinkOf population next None = population < link_value next
LinkOf population next (Some link) = (link ≡ link_value next) × (link ≤ population)

-- ---- the counts

-- the chain, unless i is in it
abbrev pub chain_without : ℕ → Option Chain → Option Chain
chain_without i None = None
chain_without i (Some c) = if bag c.items i == 0 then Some c else None

-- the view once an element of the hand was claimed
abbrev pub claimed : View → ℕ → View
claimed v i = record v {
  hand = without i v.hand;
  holds = v.holds ++ i ∷ [];
  headers = v.headers ++ i ∷ [];
  chain = chain_without i v.chain;
}

-- the view once an element that it holds is in the hand again, with count 1
abbrev pub freed : View → ℕ → View
freed v i = record v {
  hand = v.hand ++ i ∷ [];
  holds = without i v.holds;
  headers = still_held v.headers (without i v.holds);
}

-- the view once it holds an element once more
abbrev pub raised : View → ℕ → View
raised v i = record v { holds = v.holds ++ i ∷ [] }

-- the view once a hold of an element has ended, which is in the hand with count 0 where it was the
-- last
abbrev pub hold_ended : View → ℕ → Bool → View
hold_ended v i last = record v {
  holds = without i v.holds;
  headers = still_held v.headers (without i v.holds);
  zeros = if last then v.zeros ++ i ∷ [] else v.zeros;
}

-- the view once an element of its hand has count 1 again
abbrev pub was_reset : View → ℕ → View
was_reset v i = record v { hand = v.hand ++ i ∷ []; zeros = without i v.zeros }

-- ---- the desks

abbrev pub at_desk : ℕ → Phase → Option Work
at_desk d phase = Some (record { desk = d; phase = phase })

-- how far the worker is with desk d, if it works at that
abbrev pub phase_at : ℕ → Option Work → Option Phase
phase_at d None = None
phase_at d (Some x) = if x.desk == d then Some x.phase else None

-- the view with this work
abbrev pub working : View → Option Work → View
working v work = record v { work = work }

-- the headers once the packet is given away: without its own elements, and what is no longer held
abbrev pub headers_left : View → Packet → List ℕ
headers_left v p =
    still_held (minus v.headers (own_of_packet p)) (minus v.holds (holds_of_packet p))

-- the view once it gave this packet away, and once it took it
abbrev pub opened : View → Packet → View
opened v p = record v
    { holds = minus v.holds (holds_of_packet p); headers = headers_left v p }

abbrev pub seized : View → Packet → View
seized v p = record v {
  holds = v.holds ++ holds_of_packet p;
  headers = v.headers ++ own_of_packet p;
}

-- ---- all of them

abbrev pub cut_look : View → Option Look → View
cut_look v None = v
cut_look v (Some l) = cut_view v l

abbrev pub seen_by : Option Look → ℕ
seen_by None = 0
seen_by (Some l) = l.head.count + 1

abbrev pub push_chain : View → Option Chain → View
push_chain v None = v
push_chain v (Some c) = push_view v c (seen_by v.look)

abbrev pub opened_from : View → Option Phase → View
opened_from v None = v
opened_from v (Some ToFill) = v
opened_from v (Some (Filled p)) = working (opened v p) None
opened_from v (Some (Seized p)) = v
opened_from v (Some TakenOut) = v

abbrev pub seized_from : ℕ → View → Option Packet → View
seized_from d v None = v
seized_from d v (Some p) = working (seized v p) (at_desk d (Seized p))

-- What a step with this outcome makes of the view of its worker; the slot is that of the step's
-- desk before it.
abbrev pub view_after : Option Packet → Step → Outcome → View → View
view_after slot (Reserve old n) Won v = reserved v n
view_after slot (Add n) Done v = given_back v n
view_after slot LoadHead (HeadIs h) v = looking_at v h
view_after slot (LoadLink i) (Value link) v = record v { look = walked_on v.look i link }
view_after slot Cut (Got front) v = cut_look v v.look
view_after slot Cut (LostTo h) v = lost_look v h.count
view_after slot (StoreLink i next) Done v = chained v i (link_value next)
view_after slot Push Won v = push_chain v v.chain
view_after slot Push (LostTo h) v = lost_push v h.count
view_after slot (Claim i) (Value count) v = claimed v i
view_after slot (Sole i free) (Value count) v = if free && (count == 1) then freed v i else v
view_after slot (Raise i old) Won v = raised v i
view_after slot (Lower i) (Value count) v = hold_ended v i (count == 1)
view_after slot (Reset i) Done v = was_reset v i
view_after slot (Hold d) Won v = working v (at_desk d ToFill)
view_after slot (PutIn d p) Done v = working v (at_desk d (Filled p))
view_after slot (Open d) Done v = opened_from v (phase_at d v.work)
view_after slot (Seize d) Won v = seized_from d v slot
view_after slot (TakeOut d) (Found p) v = working v (at_desk d TakenOut)
view_after slot (Clear d) Done v = working v None
view_after slot step outcome v = v
