-- The desks of a pool: as many after each act, and a packet stays on its desk until it is taken.
use Rattle.std.proofs.Common.{ℕ, ◌≡◌, ◌≢◌, inl, inr, List, length, length-set, get_or, get_or-set_other, Option, Some, None, sym, ap, ◌∙◌}
use Rattle.std.proofs.lemmas.Bool.{cases_eq}
use Rattle.commons.specs.declared.packet.Seg.{Seg}
use Rattle.mbuf.specs.declared.acts.Act.{Act}
use Rattle.mbuf.specs.declared.acts.Act.TheVariants.{Take}
use Rattle.pool_model.specs.Pool.{Pool}
use Rattle.pool_model.specs.PacketModel.{perform}
use Rattle.pool_model.proofs.ActLeaves.{after_act}
use Rattle.pool_model.proofs.Leaves.{DesksAfter, Same, Onto, Off}

-- an act writes what is on a desk or leaves it, and adds and removes none
pub desks_as_many : (act : Act) (before after : List (Option (List Seg))) →
    DesksAfter act before after → length after ≡ length before
desks_as_many act before after (Same e) = ap length e
desks_as_many act before after (Onto slot desk packet offered empty e) =
    ap length e ∙ length-set before desk (Some packet)
desks_as_many act before after (Off desk took e) = ap length e ∙ length-set before desk None

-- an act that takes from no desk, or from another one, leaves the packet on this one
desk_stays : (act : Act) (before after : List (Option (List Seg))) (desk : ℕ) (packet : List Seg) →
    DesksAfter act before after → act ≢ Take desk → get_or before desk None ≡ Some packet →
    get_or after desk None ≡ Some packet
desk_stays act before after desk packet (Same e) not_taken there = rw e there
desk_stays act before after desk packet (Onto slot other onto offered empty e) not_taken there =
    elim (cases_eq desk other) [
      | inl same ↦ absurd (let both = sym there ∙ ap (λ (n : ℕ). get_or before n None) same ∙ empty in cc)
      | inr apart ↦ rw e (get_or-set_other before other desk (Some onto) None apart ∙ there)
    ]
desk_stays act before after desk packet (Off other took e) not_taken there = elim (cases_eq desk other) [
  | inl same ↦ absurd (not_taken (took ∙ ap (λ (n : ℕ). Take n) (sym same)))
  | inr apart ↦ rw e (get_or-set_other before other desk None None apart ∙ there)
]

-- in a pool a packet stays on its desk through any act that doesn't take from it
pub stays_in_pool : (pool : Pool) (worker desk : ℕ) (act : Act) (packet : List Seg) →
    act ≢ Take desk → get_or pool.shared.desks desk None ≡ Some packet →
    get_or (perform pool worker act).1.shared.desks desk None ≡ Some packet
stays_in_pool pool worker desk act packet not_taken there =
    after_act (λ after. get_or after.shared.desks desk None ≡ Some packet) pool worker act there
    (λ n done h left.
    desk_stays act pool.shared.desks done.2.desks desk packet left.desks not_taken there)
