-- The data of a value of JSON, from that of its parts.
use Rattle.std.proofs.Common.{ℕ, ◌≡◌, ◌<◌, ◌^◌, Bool, true, List, [], ◌∷◌, Some, codes, decimal, map, refl}
use Rattle.commons.specs.declared.limits.Limits.{Limits}
use Rattle.commons.specs.declared.packet.Seg.{Seg}
use Rattle.json.specs.Find.{as_bool, as_number, is_null}
use Rattle.json.specs.Json as json
use Rattle.json.specs.Json.{Json}
use Rattle.json.specs.Value.{items_of}
use Rattle.pool_statement.specs.declared.guest.Guest.{Guest}
use Rattle.serde_json.specs.Data.{Data, array, boolean}
use Rattle.serde_json.specs.Read.{of_items, of_json}
use Rattle.serde_json.specs.View as views
use Rattle.serde_json.proofs.Numbers.{number_of-decimal}
use Rattle.snapshot.specs.declared.snapshot.ShareData.{ShareData}
use Rattle.snapshot.specs.declared.snapshot.Snapshot.{Snapshot}
use Rattle.snapshot_json.specs.Dumped.{AreOf, IsOf, Passes, PassesTwo}
use Rattle.snapshot_json.specs.SnapshotData.{common_data, guest_data, guests_data, limits_data, places_data, rule_data, share_data, shares_data}
use Rattle.statement_text.specs.StatementData.{base_data, count_data, counts_data, seg_data}

-- ---- leaves

number_is : (j : Json) (s : List ℕ) → as_number j ≡ Some s → j ≡ json.number s
number_is json.null s e = absurd cc
number_is (json.boolean b) s e = absurd cc
number_is (json.number t) s e = cc
number_is (json.string t) s e = absurd cc
number_is (json.array js) s e = absurd cc
number_is (json.object ms) s e = absurd cc

-- a number whose digits are those of n
pub count_read : (j : Json) (n : ℕ) → n < 2 ^ 64 → as_number j ≡ Some (decimal n) → IsOf j (count_data n)
count_read j n l e = rw (number_is j (decimal n) e, number_of-decimal n l) refl

pub null_is : (j : Json) → is_null j ≡ true → j ≡ json.null
null_is json.null e = refl
null_is (json.boolean b) e = absurd cc
null_is (json.number t) e = absurd cc
null_is (json.string t) e = absurd cc
null_is (json.array js) e = absurd cc
null_is (json.object ms) e = absurd cc

pub flag_read : (j : Json) (b : Bool) → as_bool j ≡ Some b → IsOf j (boolean b)
flag_read json.null b e = absurd cc
flag_read (json.boolean c) b e = cc
flag_read (json.number t) b e = absurd cc
flag_read (json.string t) b e = absurd cc
flag_read (json.array js) b e = absurd cc
flag_read (json.object ms) b e = absurd cc

-- ---- lists

items_read : {X : Type 0} (f : X → Data) (js : List Json) (xs : List X) → AreOf f js xs →
    of_items (items_of js) ≡ Some (views.items_of (map f xs))
items_read f [] [] e = refl
items_read f [] (x ∷ xs) e = absurd cc
items_read f (j ∷ js) [] e = absurd cc
items_read f (j ∷ js) (x ∷ xs) e =
    let first : of_json j ≡ Some (f x) = cc in
    let rest : AreOf f js xs = cc in
    rw (first, items_read f js xs rest) refl

-- a list of values is the list of their data
pub list_read : {X : Type 0} (f : X → Data) (v : Json) (js : List Json) (xs : List X) → v ≡ json.array (items_of js) →
    AreOf f js xs → IsOf v (array (views.items_of (map f xs)))
list_read f v js xs is e = rw (is, items_read f js xs e) refl

-- ---- objects, by the members that are left

pub member_read : (key : List ℕ) (j : Json) (d : Data) (old new : json.Members) → old ≡ json.member key j new → IsOf j d →
    Passes key d old new
member_read key j d old new e h = λ found. rw (e, h) refl

pub two_read : (key next_key : List ℕ) (d e : Data) (old mid new : json.Members) → Passes key d old mid →
    Passes next_key e mid new → PassesTwo key d next_key e old new
two_read key next_key d e old mid new p q = λ found. rw (p, q) refl

pub seg_read : (seg : Seg) (v : Json) (m0 m1 m2 m3 : json.Members) →
    v ≡ json.object m0 →
    PassesTwo (codes "elem") (count_data seg.elem) (codes "base") (base_data seg.base) m0 m1 →
    PassesTwo (codes "off") (count_data seg.data_off) (codes "len") (count_data seg.data_len) m1 m2 →
    Passes (codes "buf") (count_data seg.buf_len) m2 m3 →
    m3 ≡ json.no_members →
    IsOf v (seg_data seg)
seg_read seg v m0 m1 m2 m3 e p1 p2 p3 end = rw (e, p1, p2, p3, end) refl

pub share_read : (share : ShareData) (v : Json) (m0 m1 m2 : json.Members) →
    v ≡ json.object m0 →
    PassesTwo (codes "worker") (count_data share.worker) (codes "cache") (counts_data share.cache) m0 m1 →
    Passes (codes "slots") (places_data share.slots) m1 m2 →
    m2 ≡ json.no_members →
    IsOf v (share_data share)
share_read share v m0 m1 m2 e p1 p2 end = rw (e, p1, p2, end) refl

pub guest_read : (guest : Guest) (v : Json) (m0 m1 : json.Members) →
    v ≡ json.object m0 →
    PassesTwo (codes "worker") (count_data guest.worker) (codes "elem") (count_data guest.elem) m0 m1 →
    m1 ≡ json.no_members →
    IsOf v (guest_data guest)
guest_read guest v m0 m1 e p1 end = rw (e, p1, end) refl

pub limits_read : (l : Limits) (v : Json) (m0 m1 m2 m3 m4 m5 : json.Members) →
    v ≡ json.object m0 →
    PassesTwo (codes "population") (count_data l.population) (codes "cache") (count_data l.cache) m0 m1 →
    PassesTwo (codes "workers") (count_data l.workers) (codes "desks") (count_data l.desks) m1 m2 →
    PassesTwo (codes "buf") (count_data l.buf) (codes "refs") (count_data l.ref_limit) m2 m3 →
    PassesTwo (codes "tries") (count_data l.tries) (codes "start") (count_data l.start_count) m3 m4 →
    Passes (codes "putrule") (rule_data l.put_rule) m4 m5 →
    m5 ≡ json.no_members →
    IsOf v (limits_data l)
limits_read l v m0 m1 m2 m3 m4 m5 e p1 p2 p3 p4 p5 end = rw (e, p1, p2, p3, p4, p5, end) refl

pub whole_read : (s : Snapshot) (list : List ℕ) (v : Json) (m0 m1 m2 m3 m4 : json.Members) →
    v ≡ json.object m0 →
    PassesTwo (codes "limits") (limits_data s.limits) (codes "common") (counts_data list) m0 m1 →
    PassesTwo (codes "counts") (counts_data s.counts) (codes "desks") (places_data s.desks) m1 m2 →
    PassesTwo (codes "shares") (shares_data s.shares) (codes "guests") (guests_data s.guests) m2 m3 →
    Passes (codes "foreign") (boolean s.foreign) m3 m4 →
    m4 ≡ json.no_members →
    IsOf v (common_data s list)
whole_read s list v m0 m1 m2 m3 m4 e p1 p2 p3 p4 end = rw (e, p1, p2, p3, p4, end) refl
