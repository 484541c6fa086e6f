-- The shares in the places of a book.
use Rattle.std.proofs.Common.{ℕ, ◌≡◌, ◌+◌, ◌<◌, List, [], ◌∷◌, ◌++◌, length, get_or, map, take, All, Option, Some, None, refl, sym, ◌∙◌, ap, suc}
use Rattle.std.proofs.lemmas.List.{append-nil, flat_map_more, map-append, take_more}
use Rattle.std.proofs.lemmas.List.Elements.{All-append, All-cons, All-nil}
use Rattle.std.specs.Prelude.{flat_map}
use Rattle.commons.specs.declared.packet.Seg.{Seg}
use Rattle.mbuf.specs.Members.{Member, slots}
use Rattle.pool_statement.specs.declared.guest.Guest.{Guest}
use Rattle.snapshot.specs.declared.snapshot.ShareData.{ShareData}
use Rattle.snapshot.specs.inside.Checked.{HasPackets, HavePackets, IsPacketIn}
use Rattle.book.specs.Books.{shares_in}
use Rattle.pool_model.specs.Guests.{guests_by, guests_in_slot}
use Rattle.snapshot.specs.Closing.{share_of}

-- the shares of places in two parts
shares_in-append : (places more : List (Option Member)) → shares_in (places ++ more) ≡ shares_in places ++ shares_in more
shares_in-append [] more = refl
shares_in-append (None ∷ places) more = shares_in-append places more
shares_in-append (Some m ∷ places) more = ap (λ ms. m ∷ ms) (shares_in-append places more)

-- the shares of one place more, as plain data
shares_more : (places : List (Option Member)) (k : ℕ) (place : Option Member) → k < length places → place ≡ get_or places k place →
    map share_of (shares_in (take (k + 1) places)) ≡ map share_of (shares_in (take k places)) ++ map share_of (shares_in (place ∷ []))
shares_more places k place l e =
    ap (λ ps. map share_of (shares_in ps)) (take_more places k place l)
    ∙ ap (λ p. map share_of (shares_in (take k places ++ p ∷ []))) (sym e)
    ∙ ap (map share_of) (shares_in-append (take k places) (place ∷ []))
    ∙ map-append share_of (shares_in (take k places)) (shares_in (place ∷ []))

-- where a share stands there
pub share_more : (places : List (Option Member)) (k : ℕ) (place : Option Member) (m : Member) → k < length places →
    place ≡ get_or places k place → place ≡ Some m →
    map share_of (shares_in (take (k + 1) places)) ≡ map share_of (shares_in (take k places)) ++ share_of m ∷ []
share_more places k place m l e f =
    shares_more places k place l e
    ∙ ap (λ p. map share_of (shares_in (take k places)) ++ map share_of (shares_in (p ∷ []))) f

-- and where none does
pub none_more : (places : List (Option Member)) (k : ℕ) (place : Option Member) → k < length places →
    place ≡ get_or places k place → place ≡ None →
    map share_of (shares_in (take (k + 1) places)) ≡ map share_of (shares_in (take k places))
none_more places k place l e f =
    shares_more places k place l e
    ∙ ap (λ p. map share_of (shares_in (take k places)) ++ map share_of (shares_in (p ∷ []))) f
    ∙ append-nil (map share_of (shares_in (take k places)))

-- the guests of one place more, where a share stands there
pub guests_more : (places : List (Option Member)) (k : ℕ) (place : Option Member) (m : Member) → k < length places →
    place ≡ get_or places k place → place ≡ Some m →
    flat_map guests_by (shares_in (take (k + 1) places)) ≡ flat_map guests_by (shares_in (take k places)) ++ guests_by m
guests_more places k place m l e f =
    ap (λ ps. flat_map guests_by (shares_in ps)) (take_more places k place l)
    ∙ ap (λ p. flat_map guests_by (shares_in (take k places ++ p ∷ []))) (sym e ∙ f)
    ∙ ap (flat_map guests_by) (shares_in-append (take k places) (Some m ∷ []))
    ∙ sym (flat_map_more guests_by [] (shares_in (take k places)) m)

-- and where none does
pub guests_none_more : (places : List (Option Member)) (k : ℕ) (place : Option Member) → k < length places →
    place ≡ get_or places k place → place ≡ None →
    flat_map guests_by (shares_in (take (k + 1) places)) ≡ flat_map guests_by (shares_in (take k places))
guests_none_more places k place l e f =
    ap (λ ps. flat_map guests_by (shares_in ps)) (take_more places k place l)
    ∙ ap (λ p. flat_map guests_by (shares_in (take k places ++ p ∷ []))) (sym e ∙ f)
    ∙ ap (flat_map guests_by) (shares_in-append (take k places) (None ∷ []) ∙ append-nil (shares_in (take k places)))

-- the guests of one slot more
pub slot_guests_more : (first : List Guest) (worker : ℕ) (table : List (Option (List Seg))) (k : ℕ) (place : Option (List Seg)) →
    k < length table → get_or table k None ≡ place →
    (first ++ flat_map (guests_in_slot worker) (take k table)) ++ guests_in_slot worker place
    ≡ first ++ flat_map (guests_in_slot worker) (take (k + 1) table)
slot_guests_more first worker table k place l e =
    flat_map_more (guests_in_slot worker) first (take k table) place
    ∙ ap (λ p. first ++ flat_map (guests_in_slot worker) (take k table ++ p ∷ [])) (sym e)
    ∙ ap (λ ps. first ++ flat_map (guests_in_slot worker) ps) (sym (take_more table k None l))

-- one place more
pub taken_more : {A : Type 0} → (places : List A) (k : ℕ) (place : A) → k < length places → place ≡ get_or places k place →
    take (k + 1) places ≡ take k places ++ place ∷ []
taken_more places k place l e = take_more places k place l ∙ ap (λ p. take k places ++ p ∷ []) (sym e)

-- a packet more, or nothing more, in a table
pub place_more : (table : List (Option (List Seg))) (place : Option (List Seg)) → HasPackets table → IsPacketIn place →
    HasPackets (table ++ place ∷ [])
place_more table place all one = All-append IsPacketIn table (place ∷ []) all (All-cons IsPacketIn place [] one (All-nil IsPacketIn))

-- one share more with packets alone in its slots
pub packets_more : (shares : List ShareData) (share : ShareData) → HavePackets shares → HasPackets share.slots →
    HavePackets (shares ++ share ∷ [])
packets_more shares share all one =
    let each : ShareData → Type 0 = λ s. HasPackets s.slots in
    All-append each shares (share ∷ []) all (All-cons each share [] one (All-nil each))

-- a share as plain data has all its slots
abbrev HasSlots : ShareData → Type 0
HasSlots share = length share.slots ≡ slots

-- the shares of a book have all their slots
pub all_slots : (places : List (Option Member)) → ((n : ℕ) (m : Member) → get_or places n None ≡ Some m → length m.table ≡ slots) →
    All HasSlots (map share_of (shares_in places))
all_slots [] h = All-nil HasSlots
all_slots (None ∷ places) h = all_slots places (λ n. h (suc n))
all_slots (Some m ∷ places) h =
    All-cons HasSlots (share_of m) (map share_of (shares_in places)) (h 0 m refl) (all_slots places (λ n. h (suc n)))
