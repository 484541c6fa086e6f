-- What a seat knows, cut in two, and what two seats know, made one.
use Rattle.std.specs.Prelude.{◌≡◌, ◌+◌, ◌-◌, ℕ, max, List, [], ◌∷◌, ◌++◌, Option, None}
use Rattle.atomic_table.specs.Table.{Me}
use Rattle.commons.specs.declared.packet.Seg.{Seg}
use Rattle.commons.specs.Packets.{hold_of, holds_of_packet, own_of_packet}
use Rattle.commons.specs.declared.limits.PutRule.TheVariants.{Keep}
use Rattle.step_core.specs.Bags.{without, minus, still_held}
use Rattle.step_core.specs.declared.view.View.{View}
use Rattle.step_core.specs.Views.{opened}
use Rattle.step_core.specs.World.{empty_view, worker_part}
use Rattle.ground.specs.declared.known.Known.{Known}
use Rattle.ground.specs.declared.known.Parcel.{Parcel}
use Rattle.ground.specs.Seats.{Seated}

-- what is noted of a packet: of none, and of this one
abbrev pub no_parcel : Parcel
no_parcel = record { holds = []; own = [] }

abbrev pub parcel_of : List Seg → Parcel
parcel_of p = record { holds = holds_of_packet p; own = own_of_packet p }

-- the seat, which has noted this
abbrev pub with_parcel : Parcel → Me (Option (List Seg)) Known → Me (Option (List Seg)) Known
with_parcel x m = (record m.0 { parcel = x }, m.1)

-- all that was there, but for a worker's part
abbrev pub less : View → View
less v = record v { part = v.part - worker_part }

-- what the seat knows, but for a worker's part, and for what lies on the desks, since another seat
-- may change that now
abbrev pub less_part : Known → Known
less_part n = record n { view = less n.view; lying = None }

-- a worker's part, which names nothing and has taken no step
abbrev pub newcomer : Known → Known
newcomer n = record {
  view = empty_view worker_part;
  steps = [];
  limits = n.limits;
  lying = None;
  joined = [];
  loan = 0;
  parcel = no_parcel;
}

-- all that was there, but for one element of the hand, and a part of 1
abbrev pub lending : ℕ → View → View
lending i v = record v { hand = without i v.hand; part = v.part - 1 }

-- a part of 1, with this element in its hand, which names nothing else
abbrev pub loan_of : ℕ → View
loan_of i = record (empty_view 1) { hand = i ∷ [] }

-- what the seat knows, but for that element and that part, and for what lies on the desks
abbrev pub left_by_lending : ℕ → Known → Known
left_by_lending i n = record n { view = lending i n.view; lying = None; loan = i }

-- a part of 1 with this element alone, which has taken no step
abbrev pub lent_part : ℕ → Known → Known
lent_part i n = record {
  view = loan_of i;
  steps = [];
  limits = n.limits;
  lying = None;
  joined = [];
  loan = 0;
  parcel = no_parcel;
}

-- so of the element that the seat has chosen
abbrev pub left_by_loan : Known → Known
left_by_loan n = left_by_lending n.loan n

abbrev pub lent_loan : Known → Known
lent_loan n = lent_part n.loan n

-- the last of a list
abbrev pub last_element : List ℕ → ℕ
last_element [] = 0
last_element (x ∷ []) = x
last_element (x ∷ y ∷ ys) = last_element (y ∷ ys)

-- so of the element that stands last in the hand
abbrev pub left_by_last : Known → Known
left_by_last n = left_by_lending (last_element n.view.hand) n

abbrev pub lent_last : Known → Known
lent_last n = lent_part (last_element n.view.hand) n

-- all that an Open of this packet leaves, but for a part of 1: what the packet holds is gone, and
-- its own elements aren't headers, nor is what is held no more
abbrev pub parting : List Seg → View → View
parting p v = record (opened v p) { part = v.part - 1 }

-- a part of 1, which holds what the packet holds, has its own elements as headers, and names
-- nothing else
abbrev pub parcel_view : List Seg → View
parcel_view p = record (empty_view 1) { holds = holds_of_packet p; headers = own_of_packet p }

-- what the seat knows, but for that packet and that part, and for what lies on the desks
abbrev pub left_by_parcel : List Seg → Known → Known
left_by_parcel p n = record n { view = parting p n.view; lying = None; parcel = no_parcel }

-- a part of 1 with this packet alone, which has taken no step
abbrev pub lent_parcel : List Seg → Known → Known
lent_parcel p n = record {
  view = parcel_view p;
  steps = [];
  limits = n.limits;
  lying = None;
  joined = [];
  loan = 0;
  parcel = no_parcel;
}

-- so of the packet that the seat has noted
abbrev pub left_by_noted : Known → Known
left_by_noted n = record n {
  view = record n.view {
    holds = minus n.view.holds n.parcel.holds;
    headers = still_held (minus n.view.headers n.parcel.own) (minus n.view.holds n.parcel.holds);
    part = n.view.part - 1;
  };
  lying = None;
  parcel = no_parcel;
}

abbrev pub lent_noted : Known → Known
lent_noted n = record (lent_parcel [] n) {
  view = record (empty_view 1) { holds = n.parcel.holds; headers = n.parcel.own };
}

-- the notes of a packet with these holds more; with an own element more, which is held too; and
-- with a segment more
abbrev pub with_holds : List ℕ → Parcel → Parcel
with_holds xs x = record x { holds = x.holds ++ xs }

abbrev pub with_own : ℕ → Parcel → Parcel
with_own i x = record { holds = x.holds ++ i ∷ []; own = x.own ++ i ∷ [] }

abbrev pub with_seg : Seg → Parcel → Parcel
with_seg seg x = with_own seg.elem (with_holds (hold_of seg.base) x)

-- what two views at rest name, with the parts of both
abbrev pub both_views : View → View → View
both_views v u = record {
  hand = v.hand ++ u.hand;
  zeros = [];
  holds = v.holds ++ u.holds;
  headers = v.headers ++ u.headers;
  credit = 0;
  look = None;
  seen = max v.seen u.seen;
  chain = None;
  work = None;
  part = v.part + u.part;
}

-- what two seats know, made one: with the steps of the first, which has joined those of the second;
-- what lies on the desks isn't known yet
abbrev pub both : Known → Known → Known
both n o = record n {
  view = both_views n.view o.view;
  lying = None;
  joined = n.joined ++ (o.steps ++ o.joined);
}

-- what two seats know, made one, with what lies on the desks as it is read once they are one
abbrev pub both_with : Known → Known → Option (List (Option (List Seg))) → Known
both_with n o lying = record (both n o) { lying = lying }

abbrev pub AreBoth : Me (Option (List Seg)) Known → Known → Me (Option (List Seg)) Known → Type 0
AreBoth m o m' = (lying : Option (List (Option (List Seg)))) × (m' ≡ (both_with m.0 o lying, m.1))

-- the first seat is that of both
abbrev pub IsBoth : Seated → Known → Seated → Type 0
IsBoth s o t =
    (lying : Option (List (Option (List Seg)))) × (t ≡ record s { known = both_with s.known o lying })

-- the seat is the one that has taken others in, with what lies on the desks as it is read then
abbrev pub IsGathered : Seated → Seated → Type 0
IsGathered g t =
    (lying : Option (List (Option (List Seg)))) × (t ≡ record g { known = record g.known { lying = lying } })

-- what the second of two seats knows, once it is joined to the first
abbrev pub spent_seat : Known
spent_seat = record {
  view = empty_view 0;
  steps = [];
  limits = record {
    population = 0;
    cache = 0;
    workers = 0;
    desks = 0;
    buf = 0;
    ref_limit = 0;
    tries = 0;
    start_count = 0;
    put_rule = Keep;
  };
  lying = None;
  joined = [];
  loan = 0;
  parcel = no_parcel;
}
