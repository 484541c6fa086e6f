-- What each act leaves, of a worker and of a whole pool.
use Rattle.std.proofs.Common.{ℕ, ◌≡◌, ◌+◌, ◌-◌, ◌<◌, ◌&&◌, inl, inr, nat_le, List, [], length, get_or, set, None, Result, Ok, Err, refl, arith}
use Rattle.std.proofs.lemmas.List.Sums.{get_or-le-sum_by, sum_by-set}
use Rattle.std.proofs.lemmas.Bool.{cases_Bool, leb-true, and_parts}
use Rattle.commons.specs.declared.refusal.Refusal.{Refusal}
use Rattle.commons.specs.declared.refusal.Refusal.TheVariants.{NoRoom, StrangerShare, TooShort}
use Rattle.commons.specs.Packets.{held_in, pkt_len}
use Rattle.mbuf.specs.declared.acts.Act.{Act}
use Rattle.mbuf.specs.declared.acts.Act.TheVariants.{Alloc, AllocBulk, Free, Append, Prepend, Adj, Trim, Chain, Attach, Detach, ClonePacket, Offer, Take, CountOf, PktLen, NbSegs, Flush}
use Rattle.mbuf.specs.declared.acts.Answer.TheVariants.{Refused}
use Rattle.mbuf.specs.Acts.{Reply, told_count, told_len, told_segs}
use Rattle.mbuf.specs.Fresh.{new_elements}
use Rattle.mbuf.specs.Lengths.{appended, prepended, adjusted, trimmed}
use Rattle.mbuf.specs.Members.{Member}
use Rattle.mbuf.specs.PacketRules.{free_slot, of_packet}
use Rattle.mbuf.specs.Sharing.{clonable, detachable, first_seg, pair_in}
use Rattle.mbuf.proofs.OwnLemmas.{free_slot-is}
use Rattle.mbuf.proofs.ResizeLemmas.{appended_holds, prepended_holds, adjusted_holds, trimmed_holds}
use Rattle.pool_model.specs.Pool.{Shared, Pool, held_by, held_of, member_at, nobody, with_member}
use Rattle.pool_model.specs.PacketModel.{act_on, held_elsewhere, member_act, perform, without_packet}
use Rattle.pool_model.proofs.DesksLeave.{offer_in-leaves, take_off-leaves}
use Rattle.pool_model.proofs.Links.{appended_indirect, prepended_indirect, adjusted_indirect, trimmed_indirect}
use Rattle.pool_model.proofs.Leaves.{Leaves, leaves_kept, nothing_keeps}
use Rattle.pool_model.proofs.PacketsKeep.{alloc_bulk-keeps, alloc_in-keeps, chain_in-keeps, flush_member-keeps, free_in-keeps, resize_in-keeps}
use Rattle.pool_model.proofs.SharedKeep.{attach_to-keeps, clone_at-keeps, detach_from-keeps}

-- held is how often all packets hold each element, and elsewhere how often without the one in a
-- slot
pub record AreHolds (others held : ℕ → ℕ) (elsewhere : ℕ → ℕ → ℕ) (m : Member) (s : Shared) : Type 0 where
  pub all : (i : ℕ) → held i ≡ others i + held_in s.desks i + held_in m.table i
  pub rest : (slot i : ℕ) → slot < length m.table →
      elsewhere slot i ≡ others i + held_in s.desks i + held_in (set m.table slot None) i

-- what is reported of a packet, or counted, is of no new element
new-told_len : (r : Result ℕ Refusal) → new_elements (told_len r) ≡ []
new-told_len (Ok len) = refl
new-told_len (Err cause) = refl

-- a number of segments names no element, nor does a refusal
new-told_segs : (r : Result ℕ Refusal) → new_elements (told_segs r) ≡ []
new-told_segs (Ok segs) = refl
new-told_segs (Err cause) = refl

-- a count names no element, nor does a refusal
new-told_count : (r : Result ℕ Refusal) → new_elements (told_count r) ≡ []
new-told_count (Ok count) = refl
new-told_count (Err cause) = refl

-- each act leaves elements, counts and desks as `Leaves` says
pub act_leaves : (act : Act) (others held : ℕ → ℕ) (elsewhere : ℕ → ℕ → ℕ) (m : Member) (s : Shared)
    → AreHolds others held elsewhere m s →
    Leaves act others m s (member_act act held elsewhere m s)
act_leaves Alloc others held elsewhere m s h =
    leaves_kept (alloc_in-keeps _ (free_slot m.table) m s (free_slot-is m.table))
act_leaves (AllocBulk n) others held elsewhere m s h = leaves_kept (alloc_bulk-keeps _ n m s)
act_leaves (Free slot) others held elsewhere m s h =
    leaves_kept
    (free_in-keeps _ (get_or m.table slot None) (elsewhere slot) slot m s refl (h.rest slot))
act_leaves (Append slot n) others held elsewhere m s h =
    leaves_kept (resize_in-keeps _ (get_or m.table slot None) (appended n) NoRoom slot m s refl
    (appended_holds n) (appended_indirect n))
act_leaves (Prepend slot n) others held elsewhere m s h =
    leaves_kept (resize_in-keeps _ (get_or m.table slot None) (prepended n) NoRoom slot m s refl
    (prepended_holds n) (prepended_indirect n))
act_leaves (Adj slot n) others held elsewhere m s h =
    leaves_kept (resize_in-keeps _ (get_or m.table slot None) (adjusted n) TooShort slot m s refl
    (adjusted_holds n) (adjusted_indirect n))
act_leaves (Trim slot n) others held elsewhere m s h =
    leaves_kept (resize_in-keeps _ (get_or m.table slot None) (trimmed n) TooShort slot m s refl
    (trimmed_holds n) (trimmed_indirect n))
act_leaves (Chain head tail) others held elsewhere m s h =
    leaves_kept (chain_in-keeps _ (get_or m.table head None) (get_or m.table tail None) head tail m
    s refl refl)
act_leaves (Attach mi target) others held elsewhere m s h =
    leaves_kept (attach_to-keeps _ (pair_in m mi target) held mi target m s refl h.all)
act_leaves (Detach slot) others held elsewhere m s h =
    leaves_kept
    (detach_from-keeps _ (detachable (get_or m.table slot None)) held slot m s refl h.all)
act_leaves (ClonePacket source) others held elsewhere m s h =
    leaves_kept (clone_at-keeps _ (clonable (get_or m.table source None) (free_slot m.table)) held
    source m s refl h.all)
act_leaves (Offer slot desk) others held elsewhere m s h =
    offer_in-leaves others (get_or m.table slot None) slot desk m s refl
act_leaves (Take desk) others held elsewhere m s h = take_off-leaves others desk m s
act_leaves (CountOf slot) others held elsewhere m s h =
    leaves_kept (nothing_keeps _ m s _
    (new-told_count (of_packet (λ segs. held (first_seg segs).elem) (get_or m.table slot None))))
act_leaves (PktLen slot) others held elsewhere m s h =
    leaves_kept
    (nothing_keeps _ m s _ (new-told_len (of_packet pkt_len (get_or m.table slot None))))
act_leaves (NbSegs slot) others held elsewhere m s h =
    leaves_kept
    (nothing_keeps _ m s _ (new-told_segs (of_packet length (get_or m.table slot None))))
act_leaves Flush others held elsewhere m s h = leaves_kept (flush_member-keeps _ m s)

-- how often all members hold an element, once a member has changed
pub held_by-set : (members : List Member) (n : ℕ) (m d : Member) (i : ℕ) → n < length members →
    held_by (set members n m) i + held_in (get_or members n d).table i ≡ held_by members i + held_in m.table i
held_by-set members n m d i h = sum_by-set (λ (m : Member). held_in m.table i) members n m d h

-- how often the packets of the other members of a pool hold it
abbrev pub by_others : Pool → ℕ → ℕ → ℕ
by_others pool n i = held_by pool.members i - held_in (member_at pool n).table i

-- the other members' holds and this one's are all
pub by_others-add : (pool : Pool) (n i : ℕ) → n < length pool.members →
    by_others pool n i + held_in (member_at pool n).table i ≡ held_by pool.members i
by_others-add pool n i h =
    omega (
      arith,
      get_or-le-sum_by (λ (m : Member). held_in m.table i) pool.members n (nobody pool.limits) h,
    )

-- a pool's holds are the other members', this one's and the desks'; without a slot, the rest
are_holds : (pool : Pool) (n : ℕ) → n < length pool.members →
    AreHolds (by_others pool n) (held_of pool.members pool.shared.desks) (held_elsewhere pool n)
    (member_at pool n) pool.shared
are_holds pool n h = record {
  all = λ i. omega (arith, by_others-add pool n i h);
  rest =
      λ slot i within.
      omega (
        arith,
        by_others-add pool n i h,
        held_by-set pool.members n (without_packet slot (member_at pool n)) (nobody pool.limits)
            i h,
      );
}

-- What holds where a stranger is refused, and of each reply and pool in which a worker of this
-- number and what all share are as an act leaves them, holds of the act.
pub of_act : (P : Reply × Pool → Type 0) (pool : Pool) (w : ℕ) (act : Act) → P (Refused StrangerShare, pool) →
    ((n : ℕ) (done : Reply × Member × Shared) → w ≡ n + 1 → n < length pool.members →
    done ≡ act_on pool n act →
    Leaves act (by_others pool n) (member_at pool n) pool.shared done →
    P (done.0, with_member pool n done.1 done.2)) → P (perform pool w act)
of_act P pool w act stranger after = elim (cases_Bool (nat_le 1 w && nat_le w (length pool.members))) [
  | inl e ↦
      let k = and_parts (nat_le 1 w) (nat_le w (length pool.members)) e in
      let number : w ≡ w - 1 + 1 = omega (arith, leb-true 1 w k.0) in
      let within : w - 1 < length pool.members =
      omega (arith, leb-true 1 w k.0, leb-true w (length pool.members) k.1) in
      rw e (after (w - 1) (act_on pool (w - 1) act) number within refl
      (act_leaves act _ _ _ _ _ (are_holds pool (w - 1) within)))
  | inr e ↦ rw e stranger
]

-- What holds of a pool, and of each in which a worker and what all share are as an act leaves
-- them, holds after the act.
pub after_act : (P : Pool → Type 0) (pool : Pool) (w : ℕ) (act : Act) → P pool →
    ((n : ℕ) (done : Reply × Member × Shared) → n < length pool.members →
    Leaves act (by_others pool n) (member_at pool n) pool.shared done →
    P (with_member pool n done.1 done.2)) → P (perform pool w act).1
after_act P pool w act before after =
    of_act (λ r. P r.1) pool w act before (λ n done number within is left. after n done within left)
