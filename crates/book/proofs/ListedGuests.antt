-- The guests of the first of two pools are those that the second one's statement tells of.
use Rattle.std.proofs.Common.{ℕ, ◌≡◌, ◌+◌, true, List, [], ◌∷◌, ◌++◌, map, Option, Some, None, refl, sym, subst, ap, ◌∙◌}
use Rattle.std.specs.Prelude.{flat_map}
use Rattle.std.proofs.lemmas.Grind.{flat_map-append}
use Rattle.commons.specs.declared.closed.Closed.{Closed}
use Rattle.commons.specs.declared.packet.Seg.{Seg}
use Rattle.mbuf.specs.Members.{Member}
use Rattle.pool_statement.specs.declared.guest.Guest.{Guest}
use Rattle.pool_statement.specs.declared.statement.PlacedPacket.{PlacedPacket}
use Rattle.pool_statement.specs.declared.statement.Statement.{Statement}
use Rattle.pool_model.specs.Guests.{ListsEachOnceWith, guests_by, guests_for, guests_in_slot, guests_listed, local_statement}
use Rattle.pool_model.specs.Statements.{ListsEachOnce, packets_from, packets_of}
use Rattle.pool_model.proofs.Alone.{with_alone}
use Rattle.snapshot.specs.Closing.{share_of}
use Rattle.snapshot.specs.declared.snapshot.Snapshot.{Snapshot}
use Rattle.snapshot.specs.Snapshots.{ListsItsElements, member_of, statement_in}
use Rattle.book.specs.Books.{shares_in}
use Rattle.book.specs.TwinPlaces.{TwinPlaces}
use Rattle.book.specs.TwinSettling.{first_with, second_with}

-- those for a packet that is listed
abbrev guests_told : PlacedPacket → List Guest
guests_told packet = guests_for packet.worker packet.segs

-- for the packets of a table
told_of_table : (worker slot : ℕ) (table : List (Option (List Seg))) →
    flat_map guests_told (packets_from worker slot table) ≡ flat_map (guests_in_slot worker) table
told_of_table worker slot [] = refl
told_of_table worker slot (None ∷ table) = told_of_table worker (slot + 1) table
told_of_table worker slot (Some segs ∷ table) =
    ap (λ (gs : List Guest). guests_for worker segs ++ gs) (told_of_table worker (slot + 1) table)

-- and for those of all workers
told_of_all : (members : List Member) → flat_map guests_told (flat_map packets_of members) ≡ flat_map guests_by members
told_of_all [] = refl
told_of_all (m ∷ members) =
    flat_map-append guests_told (packets_of m) (flat_map packets_of members)
    ∙ ap (λ (gs : List Guest). gs ++ flat_map guests_told (flat_map packets_of members))
    (told_of_table m.number 0 m.table)
    ∙ ap (λ (gs : List Guest). guests_by m ++ gs) (told_of_all members)

-- a share has the guests of the worker who hands it in
guests_again : (s : Snapshot) (members : List Member) →
    flat_map guests_by (map (member_of s) (map share_of members)) ≡ flat_map guests_by members
guests_again s [] = refl
guests_again s (m ∷ members) = ap (λ (gs : List Guest). guests_by m ++ gs) (guests_again s members)

-- the statement of a snapshot whose shares these workers hand in tells of their guests
pub told_by : (s : Snapshot) (members : List Member) → s.shares ≡ map share_of members →
    guests_listed (statement_in s) ≡ flat_map guests_by members
told_by s members shares =
    told_of_all (map (member_of s) s.shares)
    ∙ ap (λ shares. flat_map guests_by (map (member_of s) shares)) shares
    ∙ guests_again s members

-- So each statement lists each element of its pool once, by what the statements themselves say.
pub each_listed : (b : TwinPlaces) (first second : Closed) (one two : Statement) →
    two ≡ statement_in (second_with b second) → ListsItsElements (first_with b first) one →
    ListsItsElements (second_with b second) two →
    ListsEachOnceWith (guests_listed two) one × ListsEachOnce (local_statement true two)
each_listed b first second one two is ones twos =
    let told : guests_listed two ≡ flat_map guests_by (shares_in b.second.places) =
    ap guests_listed is ∙ told_by (second_with b second) (shares_in b.second.places) refl in (
      subst (λ (guests : List Guest). ListsEachOnceWith guests one) (sym told) ones,
      with_alone (local_statement true two) twos,
    )
