-- What has the same JSON is the same.
use Rattle.std.proofs.Common.{ℕ, suc, ◌≡◌, ◌<◌, ◌^◌, List, [], ◌∷◌, ◌++◌, codes, decimal, Option, None, Some, map, refl, ap, arith}
use Rattle.std.specs.Prelude.{All}
use Rattle.std.proofs.lemmas.Fmt.{decimal_injective, decimal_is_IsNumeral}
use Rattle.commons.specs.declared.packet.Seg.{Seg}
use Rattle.pool_statement.specs.declared.statement.Statement.{Statement}
use Rattle.pool_statement.specs.declared.statement.DeskPacket.{DeskPacket}
use Rattle.pool_statement.specs.declared.statement.PlacedPacket.{PlacedPacket}
use Rattle.pool_statement.specs.declared.statement.Held.{Held}
use Rattle.pool_statement.specs.declared.statement.Holder.{Holder}
use Rattle.pool_statement.specs.declared.statement.Holder.TheVariants.{Worker, Desk}
use Rattle.serde_json.specs.Data.{Data, array}
use Rattle.serde_json.specs.View.{items_of}
use Rattle.statement_text.specs.StatementData.{HasWords, IsWord, base_data, count_data, counts_data, desk_data, held_data, holder_data, packet_data, seg_data, segs_data, statement_data}

-- lists of things each of which has its own
lists_same : {X : Type 0} (f : X → Data) (P : X → Type 0) →
    ((x y : X) → P x → P y → f x ≡ f y → x ≡ y) → (xs ys : List X) → All P xs → All P ys →
    items_of (map f xs) ≡ items_of (map f ys) → xs ≡ ys
lists_same f P same [] [] p q e = refl
lists_same f P same [] (y ∷ ys) p q e = absurd cc
lists_same f P same (x ∷ xs) [] p q e = absurd cc
lists_same f P same (x ∷ xs) (y ∷ ys) p q e =
    let first : f x ≡ f y = cc in
    let rest : items_of (map f xs) ≡ items_of (map f ys) = cc in
    let head : x ≡ y = same x y (p 0 x (omega arith)) (q 0 y (omega arith)) first in
    let tail : xs ≡ ys =
    lists_same f P same xs ys (λ k d l. p (suc k) d (omega arith))
    (λ k d l. q (suc k) d (omega arith)) rest in
    cc

-- lists of things that each have a JSON of their own, with nothing asked of the things
plain_same : {X : Type 0} (f : X → Data) → ((x y : X) → f x ≡ f y → x ≡ y) → (xs ys : List X) →
    array (items_of (map f xs)) ≡ array (items_of (map f ys)) → xs ≡ ys
plain_same f same xs ys e =
    let items : items_of (map f xs) ≡ items_of (map f ys) = cc in
    lists_same f (λ x. Unit {0}) (λ x y p q. same x y) xs ys (λ k d l. tt) (λ k d l. tt) items

count_same : (m n : ℕ) → count_data m ≡ count_data n → m ≡ n
count_same m n e = cc

counts_same : (ms ns : List ℕ) → counts_data ms ≡ counts_data ns → ms ≡ ns
counts_same ms ns e = plain_same count_data count_same ms ns e

-- null is no number, and each number has its own
base_same : (a b : Option ℕ) → base_data a ≡ base_data b → a ≡ b
base_same None None e = refl
base_same None (Some n) e = absurd cc
base_same (Some m) None e = absurd cc
base_same (Some m) (Some n) e = let same : m ≡ n = cc in ap Some same

-- the segment of these five parts
abbrev seg_of : ℕ → Option ℕ → ℕ → ℕ → ℕ → Seg
seg_of elem base off len buf = record { elem = elem; base = base; data_off = off; data_len = len; buf_len = buf }

-- each of a segment's five parts can be read off its JSON
seg_same : (a b : Seg) → seg_data a ≡ seg_data b → a ≡ b
seg_same a b e =
    let bases : base_data a.base ≡ base_data b.base = cc in
    let base : a.base ≡ b.base = base_same a.base b.base bases in
    let elem : a.elem ≡ b.elem = cc in
    let off : a.data_off ≡ b.data_off = cc in
    let len : a.data_len ≡ b.data_len = cc in
    let buf : a.buf_len ≡ b.buf_len = cc in
    let same : seg_of a.elem a.base a.data_off a.data_len a.buf_len
    ≡ seg_of b.elem b.base b.data_off b.data_len b.buf_len =
    cc in
    same

segs_same : (xs ys : List Seg) → segs_data xs ≡ segs_data ys → xs ≡ ys
segs_same xs ys e = plain_same seg_data seg_same xs ys e

abbrev packet_of : ℕ → ℕ → List Seg → PlacedPacket
packet_of worker slot segs = record { worker = worker; slot = slot; segs = segs }

-- a packet's worker, slot and segments can be read off its JSON
packet_same : (a b : PlacedPacket) → packet_data a ≡ packet_data b → a ≡ b
packet_same a b e =
    let all : segs_data a.segs ≡ segs_data b.segs = cc in
    let segs : a.segs ≡ b.segs = segs_same a.segs b.segs all in
    let worker : a.worker ≡ b.worker = cc in
    let slot : a.slot ≡ b.slot = cc in
    let same : packet_of a.worker a.slot a.segs ≡ packet_of b.worker b.slot b.segs = cc in
    same

abbrev desk_of : ℕ → List Seg → DeskPacket
desk_of desk segs = record { desk = desk; segs = segs }

-- a desk's number and its packet's segments can be read off its JSON
desk_same : (a b : DeskPacket) → desk_data a ≡ desk_data b → a ≡ b
desk_same a b e =
    let all : segs_data a.segs ≡ segs_data b.segs = cc in
    let segs : a.segs ≡ b.segs = segs_same a.segs b.segs all in
    let desk : a.desk ≡ b.desk = cc in
    let same : desk_of a.desk a.segs ≡ desk_of b.desk b.segs = cc in
    same

-- no number begins with d, which would be a digit of 13
not_a_desk : (m n : ℕ) → m < 2 ^ 64 → decimal m ≡ codes "d" ++ decimal n → ⊥
not_a_desk m n l e =
    let digits = rw e at (decimal_is_IsNumeral m l).0 in
    let first : 13 < 10 = digits.1.0 in
    omega arith

-- a worker is its numeral and a desk `d` with its own, so no two holders have one text
holder_same : (a b : Holder) → IsWord a → IsWord b → holder_data a ≡ holder_data b → a ≡ b
holder_same (Worker m) (Worker n) p q e =
    let same : decimal m ≡ decimal n = cc in ap Worker (decimal_injective m n p q same)
holder_same (Worker m) (Desk n) p q e =
    absurd (let same : decimal m ≡ codes "d" ++ decimal n = cc in not_a_desk m n p same)
holder_same (Desk m) (Worker n) p q e =
    absurd (let same : decimal n ≡ codes "d" ++ decimal m = cc in not_a_desk n m q same)
holder_same (Desk m) (Desk n) p q e = let same : decimal m ≡ decimal n = cc in ap Desk (decimal_injective m n p q same)

abbrev held_of : ℕ → ℕ → List Holder → Held
held_of elem count holders = record { elem = elem; count = count; holders = holders }

-- an element, its count and its holders can be read off its JSON
held_same : (a b : Held) → All IsWord a.holders → All IsWord b.holders → held_data a ≡ held_data b → a ≡ b
held_same a b p q e =
    let all : items_of (map holder_data a.holders) ≡ items_of (map holder_data b.holders) = cc in
    let holders : a.holders ≡ b.holders = lists_same holder_data IsWord holder_same a.holders b.holders p q all in
    let elem : a.elem ≡ b.elem = cc in
    let count : a.count ≡ b.count = cc in
    let same : held_of a.elem a.count a.holders ≡ held_of b.elem b.count b.holders = cc in
    same

-- the statement of these eight parts
abbrev statement_of : ℕ → ℕ → ℕ → List ℕ → List (List ℕ) → List PlacedPacket → List DeskPacket → List Held → Statement
statement_of population available in_use common caches packets desks held =
    record {
      population = population;
      available = available;
      in_use = in_use;
      common = common;
      caches = caches;
      packets = packets;
      desks = desks;
      held = held;
    }

-- each of a statement's eight parts can be read off its JSON
pub statement_same : (a b : Statement) → HasWords a → HasWords b → statement_data a ≡ statement_data b → a ≡ b
statement_same a b p q e =
    let population : a.population ≡ b.population = cc in
    let available : a.available ≡ b.available = cc in
    let in_use : a.in_use ≡ b.in_use = cc in
    let commons : counts_data a.common ≡ counts_data b.common = cc in
    let common : a.common ≡ b.common = counts_same a.common b.common commons in
    let cached : array (items_of (map counts_data a.caches)) ≡ array (items_of (map counts_data b.caches)) = cc in
    let caches : a.caches ≡ b.caches = plain_same counts_data counts_same a.caches b.caches cached in
    let placed : array (items_of (map packet_data a.packets)) ≡ array (items_of (map packet_data b.packets)) = cc in
    let packets : a.packets ≡ b.packets = plain_same packet_data packet_same a.packets b.packets placed in
    let on_desks : array (items_of (map desk_data a.desks)) ≡ array (items_of (map desk_data b.desks)) = cc in
    let desks : a.desks ≡ b.desks = plain_same desk_data desk_same a.desks b.desks on_desks in
    let all : items_of (map held_data a.held) ≡ items_of (map held_data b.held) = cc in
    let held : a.held ≡ b.held = lists_same held_data (λ h. All IsWord h.holders) held_same a.held b.held p q all in
    let same : statement_of a.population a.available a.in_use a.common a.caches a.packets a.desks
    a.held ≡ statement_of b.population b.available b.in_use b.common b.caches b.packets
    b.desks b.held =
    cc in
    same
