use Rattle.std.proofs.Common.{◌≡◌, [], ◌∷◌, ◌++◌, ℕ, List, length, set, take, None, Option, Some, Result, Ok, refl, sym, ap, subst, ◌∙◌, arith}
use Rattle.commons.specs.Calls.{Claim, calls_of}
use Rattle.commons.specs.declared.limits.Limits.{Limits}
use Rattle.commons.specs.declared.packet.Seg.{Seg}
use Rattle.commons.proofs.Bags.{bag-single, one-same}
use Rattle.commons.proofs.Leading.{calls_of-append, Leads-append, Leads-one, made_by}
use Rattle.commons.specs.declared.refusal.Refusal.{Refusal}
use Rattle.mbuf.specs.inside.Kept.{member_of}
use Rattle.mbuf.specs.Members.{Member}
use Rattle.mbuf.specs.Own.{OwnWith, no_guests}
use Rattle.mbuf.specs.PacketRules.{free_slot, free_slots, fresh_seg, stood, Full, NotGot, Fresh}
use Rattle.mbuf.proofs.FreeLemmas.{taken_first, own_stood}
use Rattle.mbuf.specs.Fresh.{own_in_slots}
use Rattle.mbuf.proofs.CloneLemmas.{single_is, unheld}
use Rattle.mbuf.proofs.FreshLemmas.{fresh_headers, own_in_one}
use Rattle.mbuf.proofs.OwnLemmas.{free_slot-is}
use Rattle.mbuf.proofs.PlaceLemmas.{alike, lowest}
use Rattle.mbuf.proofs.TableLemmas.{free_slot-shown, member_is}
use Rattle.mbuf.proofs.packets.Packets.alloc.Goals as goal

-- No flag is up: no slot is free, and nothing is asked.
pub returns-in_default-clause-calls : goal.returns-in_default-clause-calls
returns-in_default-clause-calls g c =
    let p = c.self.inside in
    let none : free_slot (member_of p).table ≡ None =
    free_slot-shown p.free p.packets.items (alike p c.self.invariant) ∙ sym c.in_default.ensures in
    rw (sym c.self.view_is) ([], refl, Full none refl refl refl)

-- A slot is free, but the get was refused, and it left the cache as it was.
pub returns-in-Err-clause-calls : goal.returns-in-Err-clause-calls
returns-in-Err-clause-calls g c =
    let table = (member_of c.self.inside).table in
    let slot = c.in-Some.slot in
    let low = lowest c.self.inside slot c.self.invariant c.in-Some.ensures in
    let w = c.get_one.new.self in
    let before = c.self.inside.worker in
    let got = c.in-Err.ensures.calls in
    rw (sym c.self.view_is) (
      got.0,
      got.1,
      NotGot slot low.free c.in-Err.cause (rw c.in-Err.ensures.cache_err at got.2) refl
          (member_is w.limits before.limits w.number before.number w.cache table table
          c.in-Err.ensures.number.limits c.in-Err.ensures.number.number refl
          ∙ ap (λ (cache : List ℕ). let m : Member =
          record
          { limits = before.limits; number = before.number; cache = cache; table = table }
          in m) c.in-Err.ensures.cache_err),
    )

-- The hand has what the cache has and, beside it, the element that was got.
pub stand-requires-clause-hand : goal.stand-requires-clause-hand
stand-requires-clause-hand g c =
    let own = rw (sym c.self.view_is) at c.requires.own.1 in
    let e = c.in-Ok.elem in
    omega (arith, own.cached e, c.in-Ok.ensures.hand e, one-same e)

-- The first flag that is up is that of the table's lowest free slot.
pub stand-requires-clause-lowest : goal.stand-requires-clause-lowest
stand-requires-clause-lowest g c = (lowest c.self.inside c.in-Some.slot c.self.invariant c.in-Some.ensures).free

-- The calls are those of the get and then the claim of what it gave, whose packet stands lowest. The
-- new element left the cache for the table, and one hold and one header came with it. It was in the
-- hand, and what is in a hand has no holds: so no packet had it.
pub returns-in-Ok : goal.returns-in-Ok
returns-in-Ok g c =
    let table = (member_of c.self.inside).table in
    let slot = c.in-Some.slot in
    let low = lowest c.self.inside slot c.self.invariant c.in-Some.ensures in
    let e = c.in-Ok.elem in
    let w = c.get_one.new.self in
    let before = c.self.inside.worker in
    let got = c.in-Ok.ensures in
    let stand = c.stand.ensures in
    let effect = stand.did.step.effect in
    let did = g.C.Commons.did in
    let side = g.C.Commons.side in
    let first = c.args.c.now in
    let mid = c.get_one.new.c in
    let last = c.stand.new.c in
    let met = g.met.C.Commons in
    let own = rw (sym c.self.view_is) at c.requires.own.1 in
    let made = made_by did side mid (Claim e) last stand.did in
    let seg : (l : Limits) → List (Option (List Seg)) = λ l. set table slot (Some (fresh_seg l e ∷ [])) in
    let same_table : seg w.limits ≡ seg before.limits = ap seg got.number.limits in
    let rest = taken_first table slot (fresh_seg before.limits e ∷ []) low.free in
    let is =
    stand.stood ∙ member_is w.limits before.limits w.number before.number w.cache (seg w.limits)
    (stood before.limits (e ∷ []) (take 1 (free_slots table)) table) got.number.limits
    got.number.number (rw rest same_table) in
    let list : own_in_slots c.stand.new.self.table (slot ∷ []) ≡ e ∷ [] =
    ap (λ (m : Member). own_in_slots m.table (slot ∷ [])) stand.stood
    ∙ own_in_one table slot (fresh_seg w.limits e ∷ []) (free_slot-is table slot low.free).0
    in
    let none =
    unheld ((side mid).hand e) ((side mid).holds e) (met.apart mid e)
    (omega (arith, own.cached e, got.hand e, one-same e)) in
    let nobodys : (side first).holds e ≡ 0 = omega (arith, none, ap (λ (f : ℕ → ℕ). f e) got.holds) in
    let population : (side last).limits.population ≡ before.limits.population =
    ap (λ (x : Limits). x.population) (effect.limits ∙ got.limits ∙ sym own.limits) in
    let stays =
    λ (guests : ℕ → ℕ) (owned : OwnWith guests c.args.self.now (side first)).
    subst (λ (m : Member). OwnWith guests m (side last)) (sym is)
    (own_stood guests (member_of c.self.inside) (side first) (side mid) (side last)
    w.cache (e ∷ []) (rw (sym c.self.view_is) at owned) (effect.limits ∙ got.limits)
    (omega (arith, ap (λ (s : List ℕ). length s) rest))
    (λ i. omega (arith, got.hand i, bag-single e i)) got.holds got.headers
    (λ i. omega (arith, effect.hand i, bag-single e i))
    (λ i. omega (arith, effect.holds i, bag-single e i))
    (λ i. omega (arith, effect.headers i, bag-single e i))) in
    record {
      calls = rw (sym c.self.view_is) (
        got.calls.0 ++ made ∷ [],
        Leads-append did side got.calls.0 (made ∷ []) first mid last got.calls.1
            (Leads-one did side mid (Claim e) last stand.did),
        Fresh slot e low.free (calls_of got.calls.0) w.cache got.calls.2 (calls_of-append got.calls.0 (made ∷ []))
            (ap (λ (n : ℕ). let r : Result ℕ Refusal = Ok n in r) stand.slot)
            (stand.stood ∙ member_is w.limits before.limits w.number before.number w.cache (seg w.limits)
            (seg before.limits) got.number.limits got.number.number same_table),
      );
      fresh =
          rw (sym c.self.view_is, stand.slot, list)
          (fresh_headers (side mid) (side last) before.limits.population (side first).holds (e ∷ [])
          (met.header_once last) (met.header_held last)
          (λ i b. met.holds_below last i (omega (arith, population, b)))
          (λ i. omega (arith, effect.headers i, bag-single e i)) (λ i some. rw (single_is e i some) nobodys));
      own = stays no_guests;
      guests = stays;
      refused = tt;
    }
