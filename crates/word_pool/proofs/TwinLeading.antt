-- Calls over the words of two grounds leave a worker of both the same.
use Rattle.std.proofs.Common.{◌≡◌, List, sym}
use Rattle.commons.specs.Calls.{Leads, Made, calls_of}
use Rattle.ground.specs.Seats.{Seated}
use Rattle.mbuf.specs.Acts.{Reply}
use Rattle.mbuf.specs.Fresh.{new_elements}
use Rattle.mbuf.specs.Refused.{IfRefused}
use Rattle.mbuf.specs.Twins.{TwinMember}
use Rattle.stack_lf.specs.Sides.{side_of}
use Rattle.stack_lf.specs.Tries.{DidOnWords}
use Rattle.twin_acts.specs.TwinActs.{AreFreshByAct, KeepsTwin, PerformsTwin, TwinAsBefore}
use Rattle.twin_acts.specs.declared.acts.TwinAct.{TwinAct}
use Rattle.word_pool.specs.TwinWorkers.{DoesTwin, SeatStays}
use Rattle.word_pool.proofs.Leading.{Sits, leads_sits}

-- the seat stays
seat_stays : (s t : Seated) → Sits s t → SeatStays s t
seat_stays s t sits = record { table = sits.table; limits = sits.limits; part = sits.part }

-- a worker whose seats were led through the calls of an act did that act
pub twin_acted : (act : TwinAct) (r : Reply) (s t t' v u w w' x : Seated) (m n : TwinMember) (made others : List Made) →
    t ≡ s → v ≡ t' → w ≡ u → x ≡ w' → Leads DidOnWords side_of t made t' → Leads DidOnWords side_of w others w' →
    PerformsTwin act m (calls_of made) (calls_of others) r n →
    AreFreshByAct act m (side_of t) (side_of w) (new_elements r) →
    IfRefused r (TwinAsBefore act m (side_of t) (side_of w) n (side_of t') (side_of w')) → KeepsTwin m n →
    DoesTwin act (record { first = s; second = u; member = m }) r (record { first = v; second = x; member = n })
twin_acted act r s t t' v u w w' x m n made others there back also again led over did fresh refused keeps =
    let all : DoesTwin act (record { first = t; second = w; member = m }) r (record { first = t'; second = w'; member = n }) = record {
      calls = (made, led, (others, over, did));
      fresh = fresh;
      refused = refused;
      stays = record {
        first = seat_stays t t' (leads_sits t made t' led);
        second = seat_stays w w' (leads_sits w others w' over);
        member = keeps;
      };
    } in
    rw (sym there, sym also, back, again) all
