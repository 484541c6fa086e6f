-- Lists that leave a snapshot whose walk is their common list leave the statement of the pool that
-- they are in the model, whatever bases are foreign and whatever guests there are.
use Rattle.std.proofs.Common.{ℕ, suc, ◌≡◌, ◌<◌, Bool, true, false, List, [], ◌∷◌, length, get_or, map, Option, refl, sym, ap, ◌∙◌, arith}
use Rattle.commons.specs.declared.limits.Limits.{Limits}
use Rattle.commons.specs.declared.packet.Seg.{Seg}
use Rattle.commons.specs.Lists.{Lists}
use Rattle.mbuf.specs.Members.{Member}
use Rattle.pool_statement.specs.declared.guest.Guest.{Guest}
use Rattle.pool_model.specs.Guests.{statement_with}
use Rattle.pool_model.specs.Pool.{Pool}
use Rattle.snapshot.specs.Closing.{share_of}
use Rattle.snapshot.specs.declared.snapshot.ShareData.{ShareData}
use Rattle.snapshot.specs.Snapshots.{statement_in, walk}
use Rattle.share_book.specs.AsModel.{pool_with}
use Rattle.share_book.proofs.TwinLawful.{left_with}

-- a share as its worker, who is of a pool with these limits
abbrev again : Limits → ShareData → Member
again l share = record { limits = l; number = share.worker; cache = share.cache; table = share.slots }

-- shares lack only the pool's limits, which all members have
members_again : (l : Limits) (members : List Member) (d : Member) →
    ((n : ℕ) → n < length members → (get_or members n d).limits ≡ l) → map (again l) (map share_of members) ≡ members
members_again l [] d h = refl
members_again l (m ∷ members) d h =
    ap (λ (x : Limits). again x (share_of m) ∷ map (again l) (map share_of members)) (sym (h 0 (omega arith)))
    ∙ ap (λ (ms : List Member). m ∷ ms) (members_again l members d (λ n b. h (suc n) (omega arith)))

-- a pool by its parts
abbrev made : Limits → List Member → List (Option (List Seg)) → List ℕ → ℕ → Pool
made l members desks common changes =
    record { limits = l; shared = record { common = common; changes = changes; desks = desks }; members = members }

-- the number of changes isn't told
changes_untold : (foreign : Bool) (guests : List Guest) (l : Limits) (members : List Member)
    (desks : List (Option (List Seg))) (common : List ℕ) (few many : ℕ) →
    statement_with foreign guests (made l members desks common few)
    ≡ statement_with foreign guests (made l members desks common many)
changes_untold true guests l members desks common few many = refl
changes_untold false guests l members desks common few many = refl

-- walk and shares give common list and members again
pub lists_stated : (s : Lists) (members : List Member) (guests : List Guest) (foreign : Bool) (d : Member) →
    ((n : ℕ) → n < length members → (get_or members n d).limits ≡ s.limits) →
    walk (left_with s members guests foreign) ≡ s.common →
    statement_in (left_with s members guests foreign) ≡ statement_with foreign guests (pool_with s members)
lists_stated s members guests foreign d limits walked =
    ap (λ (ms : List Member). statement_with foreign guests
    (made s.limits ms s.desks (walk (left_with s members guests foreign)) 0)) (members_again s.limits members d limits)
    ∙ ap (λ (common : List ℕ). statement_with foreign guests (made s.limits members s.desks common 0)) walked
    ∙ changes_untold foreign guests s.limits members s.desks s.common 0 s.changes
