use Rattle.std.proofs.Common.{◌≡◌, ◌≤◌, ◌++◌, [], ℕ, List, length, take, refl, sym, ap, subst, ◌∙◌, Result, Ok, arith}
use Rattle.commons.specs.Calls.{Call, calls_of}
use Rattle.commons.specs.declared.limits.Limits.{Limits}
use Rattle.commons.specs.declared.refusal.Refusal.{Refusal}
use Rattle.commons.proofs.Leading.{calls_of-append, Leads-append}
use Rattle.mbuf.specs.inside.Kept.{member_of, shown}
use Rattle.mbuf.specs.Members.{Member}
use Rattle.mbuf.specs.Own.{OwnWith, no_guests}
use Rattle.mbuf.specs.PacketRules.{free_slots, stood, TooFull, BulkNotGot, FreshBulk}
use Rattle.mbuf.specs.Fresh.{own_in_slots}
use Rattle.mbuf.proofs.CloneLemmas.{unheld}
use Rattle.mbuf.proofs.FreeLemmas.{length-free, own_stood}
use Rattle.mbuf.proofs.FreshLemmas.{fresh_headers, own_in_stood}
use Rattle.mbuf.proofs.TableLemmas.{member_is}
use Rattle.mbuf.proofs.packets.Packets.alloc_bulk.Goals as goal

-- The free slots are as many as their count, which is below what was asked for.
pub returns-then-count-out-clause-calls : goal.returns-then-count-out-clause-calls
returns-then-count-out-clause-calls g c =
    let inv = c.self.invariant in
    let free = length-free 0 c.self.inside.free c.self.inside.packets.items (inv.packets ∙ sym inv.flags) in
    rw (sym c.self.view_is) (
      [],
      refl,
      TooFull (omega (arith, free, c.count.ensures, c.if-count-out.true)) refl refl refl,
    )

-- There is room for all, but the get was refused, and it left the cache as it was.
pub returns-in-Err-clause-calls : goal.returns-in-Err-clause-calls
returns-in-Err-clause-calls g c =
    let inv = c.self.invariant in
    let flags = c.self.inside.free in
    let packets = c.self.inside.packets.items in
    let w = c.get_bulk.new.self in
    let before = c.self.inside.worker in
    let got = c.in-Err.ensures.calls in
    let free = length-free 0 flags packets (inv.packets ∙ sym inv.flags) in
    rw (sym c.self.view_is) (
      got.0,
      got.1,
      BulkNotGot (omega (arith, free, c.count.ensures, c.if-count-out.false)) c.in-Err.cause
          (rw c.in-Err.ensures.cache_err at got.2) refl
          (member_is w.limits before.limits w.number before.number w.cache (shown flags packets)
          (shown flags packets) c.in-Err.ensures.number.limits c.in-Err.ensures.number.number
          refl
          ∙ ap (λ (cache : List ℕ). let m : Member =
          record {
            limits = before.limits;
            number = before.number;
            cache = cache;
            table = shown flags packets;
          } in m) c.in-Err.ensures.cache_err),
    )

-- The hand has what the cache has and, beside it, the elements that were got.
pub stand_all-requires-clause-hand : goal.stand_all-requires-clause-hand
stand_all-requires-clause-hand g c = λ i.
    let own = rw (sym c.self.view_is) at c.requires.own.1 in
    omega (arith, own.cached i, c.in-Ok.ensures.hand i)

-- The count of the free slots is no less than what was asked for, and as many were got.
pub stand_all-requires-clause-free : goal.stand_all-requires-clause-free
stand_all-requires-clause-free g c =
    let inv = c.self.invariant in
    omega (
      arith,
      length-free 0 c.self.inside.free c.self.inside.packets.items
          (inv.packets ∙ sym inv.flags),
      c.count.ensures,
      c.if-count-out.false,
      c.get_bulk.auto.out,
    )

-- The calls are those of the get and then a claim of each element, in the order of the get. The new
-- elements left the cache for the table, each with one hold and one header. They were in the hand,
-- and what is in a hand has no holds: so no packet had them.
pub returns-in-Ok : goal.returns-in-Ok
returns-in-Ok g c =
    let inv = c.self.invariant in
    let table = shown c.self.inside.free c.self.inside.packets.items in
    let es = c.get_bulk.new.out in
    let before = c.self.inside.worker in
    let w = c.get_bulk.new.self in
    let got = c.in-Ok.ensures in
    let stand = c.stand_all.ensures in
    let did = g.C.Commons.did in
    let side = g.C.Commons.side in
    let first = c.args.c.now in
    let mid = c.get_bulk.new.c in
    let last = c.stand_all.new.c in
    let met = g.met.C.Commons in
    let own = rw (sym c.self.view_is) at c.requires.own.1 in
    let asked = take (length c.args.out.now) (free_slots table) in
    let slots = take (length es) (free_slots table) in
    let long : length es ≡ length c.args.out.now = omega (arith, c.get_bulk.auto.out) in
    let room : length es ≤ length (free_slots table) =
    omega (
      arith,
      length-free 0 c.self.inside.free c.self.inside.packets.items
          (inv.packets ∙ sym inv.flags),
      c.count.ensures,
      c.if-count-out.false,
      c.get_bulk.auto.out,
    ) in
    let stands : (s : List ℕ) → c.stand_all.new.out ≡ s → c.stand_all.new.self
    ≡ record {
      limits = before.limits;
      number = before.number;
      cache = w.cache;
      table = stood before.limits es s table;
    } =
    λ s e. stand.stood
    ∙ ap (λ (out : List ℕ). let m : Member =
    record {
      limits = w.limits;
      number = w.number;
      cache = w.cache;
      table = stood w.limits es out table;
    } in m) e
    ∙ member_is w.limits before.limits w.number before.number w.cache
    (stood w.limits es s table) (stood before.limits es s table) got.number.limits
    got.number.number
    (ap (λ (l : Limits). stood l es s table) got.number.limits) in
    let is = stands slots stand.slots in
    let listed : c.stand_all.new.out ≡ asked = stand.slots ∙ ap (λ (n : ℕ). take n (free_slots table)) long in
    let list : own_in_slots c.stand_all.new.self.table c.stand_all.new.out ≡ es =
    ap (λ (m : Member). own_in_slots m.table c.stand_all.new.out) is
    ∙ ap (λ (out : List ℕ). own_in_slots (stood before.limits es slots table) out) stand.slots
    ∙ own_in_stood before.limits es table room in
    let population : (side last).limits.population ≡ before.limits.population =
    ap (λ (x : Limits). x.population) (stand.limits ∙ got.limits ∙ sym own.limits) in
    let stays =
    λ (guests : ℕ → ℕ) (owned : OwnWith guests c.args.self.now (side first)).
    subst (λ (m : Member). OwnWith guests m (side last)) (sym is)
    (own_stood guests (member_of c.self.inside) (side first) (side mid) (side last)
    w.cache es (rw (sym c.self.view_is) at owned) (stand.limits ∙ got.limits) room
    got.hand got.holds got.headers stand.hand stand.holds stand.headers) in
    record {
      calls = rw (sym c.self.view_is) (
        got.calls.0 ++ stand.calls.0,
        Leads-append did side got.calls.0 stand.calls.0 first mid last got.calls.1 stand.calls.1,
        FreshBulk es long (omega (arith, room, long)) (calls_of got.calls.0) w.cache got.calls.2
            (calls_of-append got.calls.0 stand.calls.0
            ∙ ap (λ (calls : List Call). calls_of got.calls.0 ++ calls) stand.calls.2)
            (ap (λ (out : List ℕ). let r : Result (List ℕ) Refusal = Ok out in r) listed)
            (stands asked listed),
      );
      fresh =
          rw (sym c.self.view_is, list)
          (fresh_headers (side mid) (side last) before.limits.population (side first).holds es
          (met.header_once last) (met.header_held last)
          (λ i b. met.holds_below last i (omega (arith, population, b))) stand.headers
          (λ i some.
          let none =
          unheld ((side mid).hand i) ((side mid).holds i) (met.apart mid i)
          (omega (arith, own.cached i, got.hand i, some)) in
          omega (arith, none, ap (λ (f : ℕ → ℕ). f i) got.holds)));
      own = stays no_guests;
      guests = stays;
      refused = tt;
    }
