-- The workers of a pool: what one does keeps the others, and is what the reference model does.
use Rattle.std.proofs.Common.{ℕ, ◌≡◌, ◌≢◌, ◌+◌, ◌-◌, ◌<◌, ◌≤◌, ◌&&◌, ◌⊎◌, inl, inr, nat_le, true, List, length, get_or, set, get_or-set_same, get_or-set_other, length-set, None, sym, ◌∙◌, ap, arith}
use Rattle.std.proofs.lemmas.List.{get_or_default}
use Rattle.std.proofs.lemmas.List.Sums.{sum_by-set}
use Rattle.std.proofs.lemmas.Bool.Decides.{nat_tests}
use Rattle.commons.specs.Beside.{KeepsSides}
use Rattle.commons.specs.Calls.{Call}
use Rattle.commons.specs.declared.limits.Limits.{Limits}
use Rattle.commons.specs.Lists.{Lists, IsTable}
use Rattle.commons.proofs.Bags.{bag-nil}
use Rattle.mbuf.specs.Acts.{Performs}
use Rattle.commons.specs.Packets.{held_in}
use Rattle.mbuf.specs.Members.{Member}
use Rattle.mbuf.specs.declared.acts.Act.{Act}
use Rattle.mbuf.specs.Acts.{Reply}
use Rattle.pool_model.specs.Pool.{Shared, Pool, nobody, held_of}
use Rattle.pool_model.specs.PacketModel.{perform, without_packet}
use Rattle.pool_model.proofs.Numbered.{AreNumbered, number_at}
use Rattle.share_book.specs.inside.SitePool.{pool_with}
use Rattle.commons.specs.PlainCalls.{LeadsPlain}
use Rattle.share_book.specs.inside.Own.{OwnOnLists}
use Rattle.share_book.proofs.Counts.{AreMembers, counts_are_holds}
use Rattle.commons.proofs.PacketBags.{held_in-set, stands_within}
use Rattle.share_book.proofs.PacketCalls.{Elsewhere, performed_by}

same_or_other : (i j : ℕ) → (j ≡ i) ⊎ (j ≢ i)
same_or_other i j = grind arith

-- another worker owns its part as before
own_other : (s t : Lists) (w v : ℕ) (m : Member) → KeepsSides w s t → v ≢ w → OwnOnLists s v m → OwnOnLists t v m
own_other s t w v m a e o =
    let side = a.others v o.first e in
    record {
      first = o.first;
      last = rw a.limits o.last;
      share = record {
        limits = o.share.limits ∙ sym a.limits;
        cached = λ i. side.hand i ∙ o.share.cached i;
        held = λ i. side.holds i ∙ o.share.held i;
        headed = λ i. omega (arith, o.share.headed i, side.headers i);
      };
    }

-- each worker keeps its number and owns its part once one of them has acted
pub members_after : (s t : Lists) (members : List Member) (n w : ℕ) (m : Member) → w ≡ n + 1 →
    n < length members → length members ≡ s.limits.workers →
    AreMembers s members → KeepsSides w s t → AreNumbered 1 (set members n m) → OwnOnLists t w m →
    AreMembers t (set members n m)
members_after s t members n w m e l len each a numbers own k b =
    let within : k < s.limits.workers = omega (arith, b, ap (λ (x : Limits). x.workers) a.limits) in
    record {
      number =
          omega (
            arith,
            number_at 1 (set members n m) k (nobody t.limits) numbers
                (omega (arith, length-set members n m)),
          );
      own = elim (same_or_other n k) [
        | inl f ↦ rw (f, get_or-set_same members n m (nobody t.limits) l, ← e) own
        | inr f ↦
            rw (
              get_or-set_other members n k m (nobody t.limits) f,
              get_or_default members k (nobody t.limits) (nobody s.limits) (omega arith),
            )
            (own_other s t w (k + 1) (get_or members k (nobody s.limits)) a
            (λ g. f (omega (arith, e, g))) (each k within).own)
      ];
    }

-- how often the packets that stay hold an element, where one of them goes: its count without the
-- packet's holds
elsewhere : (s : Lists) (members : List Member) (n : ℕ) → IsTable s →
    length members ≡ s.limits.workers → AreMembers s members → n < length members →
    Elsewhere s (get_or members n (nobody s.limits)) (λ slot i.
    held_of (set members n (without_packet slot (get_or members n (nobody s.limits)))) s.desks
    i)
elsewhere s members n t l each b slot segs there i =
    let m : Member = get_or members n (nobody s.limits) in
    let inner = rw there at (held_in-set m.table slot None i (stands_within m.table slot segs there)) in
    let outer = sum_by-set (λ (x : Member). held_in x.table i) members n (without_packet slot m) (nobody s.limits) b in
    omega (arith, counts_are_holds s members t l each i, inner, outer, bag-nil i)

pub in_pool : (w n : ℕ) → 1 ≤ w → w ≤ n → (nat_le 1 w && nat_le w n) ≡ true
in_pool w n l b = grind (arith, nat_tests)

-- what a worker did is what the model does
pub performed : (s t : Lists) (members : List Member) (w : ℕ) (act : Act) (calls : List Call)
    (r : Reply) (m : Member) → IsTable s → length members ≡ s.limits.workers →
    AreMembers s members → 1 ≤ w → w ≤ length members → t.limits ≡ s.limits →
    Performs act (get_or members (w - 1) (nobody s.limits)) calls r m → LeadsPlain w s calls t →
    ◌≡◌ {A = Reply × Pool} (r, pool_with t (set members (w - 1) m)) (perform (pool_with s members) w act)
performed s t members w act calls r m table l each first last same did led =
    let old : Member = get_or members (w - 1) (nobody s.limits) in
    let others : ℕ → ℕ → ℕ = λ slot i. held_of (set members (w - 1) (without_packet slot old)) s.desks i in
    let done =
    performed_by act w s t old m calls r (held_of members s.desks) others did led table
    (sym (each (w - 1) (omega (arith, last, l))).own.share.limits)
    (counts_are_holds s members table l each)
    (elsewhere s members (w - 1) table l each (omega arith)) in
    rw (in_pool w (length members) first last, same)
    (ap (λ (d : Reply × Member × Shared). let p : Pool =
    record { limits = s.limits; shared = d.2; members = set members (w - 1) d.1 } in
    (d.0, p)) done)
