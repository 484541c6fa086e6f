-- What a worker of two pools on the lists does is what the reference model does.
use Rattle.std.proofs.Common.{ℕ, ◌≡◌, ◌-◌, ◌<◌, ◌≤◌, List, [], length, set, Option, refl, sym, ap, ◌∙◌, arith}
use Rattle.std.proofs.lemmas.List.{get_or-map, length-map, map-set}
use Rattle.commons.specs.declared.packet.Seg.{Seg}
use Rattle.commons.specs.Lists.{Lists, held_count, place_of}
use Rattle.commons.specs.Packets.{held_in, own_in}
use Rattle.mbuf.specs.Acts.{Reply}
use Rattle.mbuf.specs.Foreign.{bases_in}
use Rattle.mbuf.specs.Members.{Member}
use Rattle.mbuf.specs.Twins.{TwinMember}
use Rattle.pool_model.specs.TwinModel.{TwinDone, TwinPool, held_in_first, held_in_second, perform_twin}
use Rattle.pool_model.proofs.Listed.{sum_by-map}
use Rattle.twin_acts.specs.declared.acts.TwinAct.{TwinAct}
use Rattle.book.proofs.TwinGuests.{sum_both}
use Rattle.share_book.specs.AsModel.{pools_of}
use Rattle.share_book.specs.TwinSites.{ActsAlone, TwinLists, twin_at}
use Rattle.share_book.specs.inside.TwinSite.{AreTables}
use Rattle.share_book.specs.inside.TwinStates.{Shows, twins_with}
use Rattle.share_book.proofs.Members.{in_pool}
use Rattle.share_book.proofs.TwinCalls.{performed_twin_by}
use Rattle.share_book.proofs.TwinPools.{first_rows, no_desks, second_rows}

abbrev first_part : TwinMember → Member
first_part m = m.first

abbrev second_part : TwinMember → Member
second_part m = m.second

module _ (s : TwinLists) (t : AreTables s) where
  -- the counts of the first pool's elements are the holds of packets and of foreign clones
  first_counts : (i : ℕ) → held_count (place_of s.first i) ≡ held_in_first (pools_of s) i
  first_counts i = omega (
    arith,
    t.first.counted i,
    first_rows s t i,
    sum_both (λ (m : TwinMember). held_in m.first.table i) (λ (m : TwinMember). bases_in m.second.table i) s.members,
    sum_by-map (λ (m : Member). held_in m.table i) first_part s.members,
    sum_by-map (λ (m : Member). bases_in m.table i) second_part s.members,
  )

  -- and those of the second's are the holds of foreign clones
  second_counts : (i : ℕ) → held_count (place_of s.second i) ≡ held_in_second (pools_of s) i
  second_counts i = omega (
    arith,
    t.second.counted i,
    second_rows s t i,
    ap (λ (desks : List (Option (List Seg))). held_in desks i) (no_desks s t),
    sum_by-map (λ (m : Member). own_in m.table i) second_part s.members,
  )

  -- the lists show pools of the model, and each of their workers
  pub lists_shown : (n : ℕ) → n < length s.members → Shows (pools_of s) n s.first s.second (twin_at s n)
  lists_shown n within =
      let nobody : TwinMember = twin_at (record s { members = [] }) 0 in
      record {
        first_limits = refl;
        second_limits = refl;
        first_shared = refl;
        second_shared = refl;
        first_here = omega (arith, within, length-map s.members first_part);
        second_here = omega (arith, within, length-map s.members second_part);
        first_member = get_or-map first_part s.members n nobody nobody.first within;
        second_member = get_or-map second_part s.members n nobody nobody.second within;
        first_of = (t.each n within).own.first.limits;
        second_of = (t.each n within).own.second.limits;
        first_table = t.first;
        second_table = t.second;
        first_held = first_counts;
        second_held = second_counts;
      }

-- once a worker has acted, the pools are those with what it has then
pools_with : (s : TwinLists) (n : ℕ) (after : TwinMember) (s' u' : Lists) → s'.limits ≡ s.first.limits →
    u'.limits ≡ s.second.limits →
    twins_with (pools_of s) n after s' u'
    ≡ pools_of (record { first = s'; second = u'; members = set s.members n after })
pools_with s n after s' u' first second =
    rw (map-set first_part s.members n after, map-set second_part s.members n after, first, second) refl

-- what it did is what the model does
pub performed_twins : (s : TwinLists) (w : ℕ) (act : TwinAct) (r : Reply) (after : TwinMember) (s' u' : Lists) →
    AreTables s → 1 ≤ w → w ≤ length s.members → s'.limits ≡ s.first.limits → u'.limits ≡ s.second.limits →
    ActsAlone w act s.first s.second (twin_at s (w - 1)) r s' u' after →
    ◌≡◌ {A = TwinDone} (r, pools_of (record { first = s'; second = u'; members = set s.members (w - 1) after }))
    (perform_twin (pools_of s) w act)
performed_twins s w act r after s' u' t low high first second acts =
    let n = w - 1 in
    let within : n < length s.members = omega arith in
    let twins = pools_of s in
    let done =
    performed_twin_by act twins n w s.first s.second s' u' (twin_at s n) after acts.firsts acts.seconds r acts.did
    acts.first acts.second (lists_shown s t n within) in
    let many : length twins.first.members ≡ length s.members = length-map s.members first_part in
    rw (in_pool w (length twins.first.members) low (omega arith))
    (ap (λ (p : TwinPool). let d : TwinDone = (r, p) in d) (sym (pools_with s n after s' u' first second)) ∙ done)
