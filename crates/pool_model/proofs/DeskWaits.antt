-- A packet that was offered waits on its desk, and the next take gives it.
use Rattle.std.proofs.Common.{ℕ, ◌≡◌, ◌≢◌, ◌-◌, ◌<◌, ◌≤◌, nat_le, ◌&&◌, true, List, [], ◌∷◌, length, length-set, get_or, get_or-set_same, set, Some, None, refl, sym, ap, ◌∙◌, subst, arith}
use Rattle.std.specs.Prelude.{All}
use Rattle.std.proofs.lemmas.Bool.Decides.{nat_tests}
use Rattle.std.proofs.lemmas.List.Elements.{All-head, All-tail}
use Rattle.commons.proofs.PacketBags.{stands_within}
use Rattle.commons.proofs.Sames.{some-is}
use Rattle.commons.specs.Packets.{pkt_len}
use Rattle.commons.specs.declared.packet.Seg.{Seg}
use Rattle.commons.specs.declared.refusal.Refusal.TheVariants.{DeskTaken, PacketsFull}
use Rattle.mbuf.proofs.OwnLemmas.{free_slot-is}
use Rattle.mbuf.specs.Acts.{Reply}
use Rattle.mbuf.specs.declared.acts.Act.{Act}
use Rattle.mbuf.specs.declared.acts.Act.TheVariants.{Offer, Take}
use Rattle.mbuf.specs.declared.acts.Answer.TheVariants.{Offered, Refused, Taken}
use Rattle.mbuf.specs.Members.{Member}
use Rattle.mbuf.specs.PacketRules.{free_slot}
use Rattle.pool_model.specs.Pool.{Shared, Pool, nobody, with_member}
use Rattle.pool_model.specs.PacketModel.{act_on, after_acts, offer, perform}
use Rattle.pool_model.specs.Standing.{IsInSlot, IsOnDesk, IsWorker, WasGiven, worker_of}
use Rattle.pool_model.proofs.ActLeaves.{of_act}
use Rattle.pool_model.proofs.DeskLemmas.{emptied_again, left_on_desk, offer-met, offer-taken, take_off-full, take_off-met}
use Rattle.pool_model.proofs.DeskStays.{stays_in_pool}
use Rattle.pool_model.proofs.PoolActs.{with_member-same}

in_pool : (w n : ℕ) → 1 ≤ w → w ≤ n → (nat_le 1 w && nat_le w n) ≡ true
in_pool w n l b = grind (arith, nat_tests)

-- an act by a worker of the pool is that member's, and the pool has what it leaves
done_by_worker : (pool : Pool) (w : ℕ) (act : Act) → IsWorker pool w → let done =
    act_on pool (w - 1) act in ◌≡◌ {A = Reply × Pool} (perform pool w act)
    (done.0, with_member pool (w - 1) done.1 done.2)
done_by_worker pool w act is = rw (in_pool w (length pool.members) is.0 is.1) refl

-- an offer of the packet in a slot, on an empty desk of the pool
pub offer_is_met : (pool : Pool) (worker slot desk : ℕ) (packet : List Seg) →
    IsInSlot pool worker slot packet → desk < length pool.shared.desks →
    get_or pool.shared.desks desk None ≡ None → (perform pool worker (Offer slot desk)).0 ≡ Offered
offer_is_met pool worker slot desk packet stands within empty =
    ap (λ (r : Reply × Pool). r.0) (done_by_worker pool worker (Offer slot desk) stands.0)
    ∙ offer-met slot desk packet (worker_of pool worker) pool.shared stands.1 within empty

-- an offer on a desk that has a packet is refused, and the pool is as it was
pub offer_is_refused : (pool : Pool) (worker slot desk : ℕ) (packet other : List Seg) →
    IsOnDesk pool desk packet → IsInSlot pool worker slot other →
    ◌≡◌ {A = Reply × Pool} (perform pool worker (Offer slot desk)) (Refused DeskTaken, pool)
offer_is_refused pool worker slot desk packet other lies stands =
    done_by_worker pool worker (Offer slot desk) stands.0
    ∙ ap (λ (d : Reply × Member × Shared). let r : Reply × Pool =
    (d.0, with_member pool (worker - 1) d.1 d.2) in r)
    (offer-taken slot desk packet other (worker_of pool worker) pool.shared lies stands.1)
    ∙ ap (λ (p : Pool). let r : Reply × Pool = (Refused DeskTaken, p) in r)
    (with_member-same pool (worker - 1) (worker_of pool worker) pool.shared refl refl)

-- an offer succeeds only for a worker of the pool
offering_worker : (pool : Pool) (worker slot desk : ℕ) →
    (perform pool worker (Offer slot desk)).0 ≡ Offered → IsWorker pool worker
offering_worker pool worker slot desk =
    of_act (λ r. r.0 ≡ Offered → IsWorker pool worker) pool worker (Offer slot desk)
    (λ told. absurd cc) (λ n done number within is left told.
    (omega (arith, number), omega (arith, number, within)))

-- an offer that succeeds leaves on the desk the packet that stood in the slot
pub left_by_offer : (pool : Pool) (worker slot desk : ℕ) → let done =
    perform pool worker (Offer slot desk) in done.0 ≡ Offered →
    (packet : List Seg) × IsInSlot pool worker slot packet × IsOnDesk done.1 desk packet
    × (get_or (worker_of done.1 worker).table slot None ≡ None)
left_by_offer pool worker slot desk met =
    let m : Member = worker_of pool worker in
    let worker_is = offering_worker pool worker slot desk met in
    let within : worker - 1 < length pool.members = omega (arith, worker_is.0, worker_is.1) in
    let done = offer slot desk m pool.shared in
    let is = done_by_worker pool worker (Offer slot desk) worker_is in
    let told : done.0 ≡ Offered = sym (ap (λ (r : Reply × Pool). r.0) is) ∙ met in
    let left =
    left_on_desk slot desk m done.1 pool.shared done.2
    (ap (λ (r : Reply). let d : Reply × Member × Shared = (r, done.1, done.2) in d) told) in (
      left.0,
      (worker_is, left.1),
      subst (λ (r : Reply × Pool). IsOnDesk r.1 desk left.0) (sym is) left.3,
      ap (λ (r : Reply × Pool). get_or (worker_of r.1 worker).table slot None) is
          ∙ ap (λ (x : Member). get_or x.table slot None)
          (get_or-set_same pool.members (worker - 1) done.1 (nobody pool.limits) within) ∙ left.2,
    )

-- the packet that stood in the slot is the one that an offer left on the desk
offered_lies : (pool : Pool) (worker slot desk : ℕ) (packet : List Seg) →
    IsInSlot pool worker slot packet → (perform pool worker (Offer slot desk)).0 ≡ Offered →
    IsOnDesk (perform pool worker (Offer slot desk)).1 desk packet
offered_lies pool worker slot desk packet stands met =
    let left = left_by_offer pool worker slot desk met in
    left.2 ∙ ap (λ (p : List Seg). Some p) (some-is left.0 packet (sym left.1.1 ∙ stands.1))

-- a packet on a desk stays there as long as no act takes from the desk
pub lies_after : (acts : List (ℕ × Act)) (pool : Pool) (desk : ℕ) (packet : List Seg) →
    All (λ done. done.1 ≢ Take desk) acts → IsOnDesk pool desk packet →
    IsOnDesk (after_acts acts pool) desk packet
lies_after [] pool desk packet none there = there
lies_after (done ∷ more) pool desk packet none there =
    let NotTaken : ℕ × Act → Type 0 = λ d. d.1 ≢ Take desk in
    lies_after more (perform pool done.0 done.1).1 desk packet (All-tail NotTaken done more none)
    (stays_in_pool pool done.0 desk done.1 packet (All-head NotTaken done more none) there)

-- the offer left it on the desk, and no act after it takes there
pub offered_waits : (pool : Pool) (worker slot desk : ℕ) (packet : List Seg) (acts : List (ℕ × Act))
    → IsInSlot pool worker slot packet → (perform pool worker (Offer slot desk)).0 ≡ Offered →
    All (λ done. done.1 ≢ Take desk) acts →
    IsOnDesk (after_acts acts (perform pool worker (Offer slot desk)).1) desk packet
offered_waits pool worker slot desk packet acts stands met none =
    lies_after acts (perform pool worker (Offer slot desk)).1 desk packet none
    (offered_lies pool worker slot desk packet stands met)

-- a take by a worker with a free slot gives it the packet that lies on the desk
pub taken_off : (pool : Pool) (taker desk free : ℕ) (packet : List Seg) →
    IsOnDesk pool desk packet → IsWorker pool taker →
    free_slot (worker_of pool taker).table ≡ Some free →
    WasGiven taker desk free packet pool (perform pool taker (Take desk))
taken_off pool taker desk free packet there is empty =
    let m : Member = worker_of pool taker in
    let n = taker - 1 in
    let within : n < length pool.members = omega (arith, is.0, is.1) in
    let slot = free_slot-is m.table free empty in
    let took = take_off-met desk free packet m pool.shared there empty in
    let after : Member = record m { table = set m.table free (Some packet) } in
    let left : Shared = record pool.shared { desks = set pool.shared.desks desk None } in
    let whole : ◌≡◌ {A = Reply × Pool} (perform pool taker (Take desk))
    (Taken free (length packet) (pkt_len packet), with_member pool n after left) =
    done_by_worker pool taker (Take desk) is
    ∙ ap (λ (d : Reply × Member × Shared). let r : Reply × Pool =
    (d.0, with_member pool n d.1 d.2) in r) took in
    let workers : length (set pool.members n after) ≡ length pool.members = length-set pool.members n after in
    let here = get_or-set_same pool.members n after (nobody pool.limits) within in
    rw whole (record {
      reply = refl;
      stands = (
        (is.0, omega (arith, is.1, workers)),
        ap (λ (x : Member). get_or x.table free None) here
            ∙ get_or-set_same m.table free (Some packet) None slot.0,
      );
      empty = get_or-set_same pool.shared.desks desk None None (stands_within pool.shared.desks desk packet there);
      rest = here;
      shared = refl;
    })

-- right after the offer all that is shared is then as before it
pub given_back : (pool : Pool) (worker slot desk taker free : ℕ) → let done =
    perform pool worker (Offer slot desk) in done.0 ≡ Offered → IsWorker done.1 taker →
    free_slot (worker_of done.1 taker).table ≡ Some free →
    (perform done.1 taker (Take desk)).1.shared ≡ pool.shared
given_back pool worker slot desk taker free met is empty =
    let m : Member = worker_of pool worker in
    let offered = done_by_worker pool worker (Offer slot desk) (offering_worker pool worker slot desk met) in
    let done = offer slot desk m pool.shared in
    let told : done.0 ≡ Offered = sym (ap (λ (r : Reply × Pool). r.0) offered) ∙ met in
    let left = left_by_offer pool worker slot desk met in
    let given = taken_off (perform pool worker (Offer slot desk)).1 taker desk free left.0 left.2 is empty in
    given.shared ∙ ap (λ (r : Reply × Pool). let t : Shared =
    record r.1.shared { desks = set r.1.shared.desks desk None } in t) offered
    ∙ emptied_again slot desk m done.1 pool.shared done.2
    (ap (λ (r : Reply). let d : Reply × Member × Shared = (r, done.1, done.2) in d) told)

-- a take by a worker with no free slot is refused, and the packet stays on the desk
pub take_is_refused : (pool : Pool) (taker desk : ℕ) (packet : List Seg) →
    IsOnDesk pool desk packet → IsWorker pool taker →
    free_slot (worker_of pool taker).table ≡ None →
    ◌≡◌ {A = Reply × Pool} (perform pool taker (Take desk)) (Refused PacketsFull, pool)
take_is_refused pool taker desk packet there is full =
    done_by_worker pool taker (Take desk) is
    ∙ ap (λ (d : Reply × Member × Shared). let r : Reply × Pool =
    (d.0, with_member pool (taker - 1) d.1 d.2) in r) (take_off-full desk
    (worker_of pool taker) pool.shared (stands_within pool.shared.desks desk packet there)
    full)
    ∙ ap (λ (p : Pool). let r : Reply × Pool = (Refused PacketsFull, p) in r)
    (with_member-same pool (taker - 1) (worker_of pool taker) pool.shared refl refl)
