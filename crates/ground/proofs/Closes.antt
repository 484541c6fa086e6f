-- What the last state of a table says of the words that are left.
use Rattle.std.proofs.Common.{◌≡◌, ◌≢◌, ℕ, zero, suc, ◌+◌, ◌*◌, ◌<◌, ◌≤◌, List, [], ◌∷◌, ◌++◌, length, take, drop, refl, sym, ap, ◌∙◌, subst, arith, ⊎_elim, length-append}
use Rattle.std.specs.Prelude.{slice_index, map, Option, Some, None, IfSome}
use Rattle.std.proofs.lemmas.Bool.{cases_lt}
use mathlib.Core.Option as maybe
use mathlib.Core.Option.{some, some-injective, some-ne-none}
use lib.ListN.{get_elem?, length-map}
use Rattle.atomic_table.specs.Table.{Final, Seen}
use Rattle.atomic_table.proofs.Lists.{at_map, at_longer, at_last}
use Rattle.commons.specs.Bag.{bag}
use Rattle.commons.specs.declared.closed.Closed.{Closed}
use Rattle.commons.specs.declared.limits.Limits.{Limits}
use Rattle.step_core.specs.declared.view.Head.{Head}
use Rattle.step_core.specs.declared.view.Desk.{Desk}
use Rattle.step_core.specs.declared.view.View.{View}
use Rattle.step_core.specs.World.{World, view_at, desk_at, every_part}
use Rattle.step_core.specs.Law.{Lawful}
use Rattle.step_core.specs.Opening.{opening}
use Rattle.step_core.specs.Headers.{HeaderLaw}
use Rattle.step_core.proofs.Bags.{times-head, times-nil}
use Rattle.ground.specs.declared.known.Known.{Known}
use Rattle.ground.specs.Changing.{IsFresh, closed_at_start}
use Rattle.ground.specs.Lying.{LieByNotes}
use Rattle.ground.proofs.Lying.{lie_by_notes}
use Rattle.ground.specs.Closing.{Nothing, LeftOf, AreOnFullDesks, kept_on, packet_on, lying_on}
use Rattle.ground.specs.Layout.{pack, unpack, head_word, lines, words_with, word_on, rows_of, words_of, length_word, links_at}
use Rattle.ground.specs.Rule.{Slot, Ruled, home_by, home_of}
use Rattle.ground.proofs.Alone.{others_idle}
use Rattle.ground.proofs.Playing.{unpack_pack}
use Rattle.ground.proofs.Opens.{none_lie}
use Rattle.ground.proofs.Sitting.{law_of, there, is, all_unmoved, others_out}

pub take_front : (xs ys : List ℕ) (n : ℕ) → length xs ≡ n → take n (xs ++ ys) ≡ xs
take_front [] ys zero e = refl
take_front [] ys (suc n) e = absurd (omega arith)
take_front (x ∷ xs) ys zero e = absurd (omega arith)
take_front (x ∷ xs) ys (suc n) e = ap (λ (l : List ℕ). x ∷ l) (take_front xs ys n (omega arith))

drop_front : (xs ys : List ℕ) (n : ℕ) → length xs ≡ n → drop n (xs ++ ys) ≡ ys
drop_front [] ys zero e = refl
drop_front [] ys (suc n) e = absurd (omega arith)
drop_front (x ∷ xs) ys zero e = absurd (omega arith)
drop_front (x ∷ xs) ys (suc n) e = drop_front xs ys n (omega arith)

take_one : (xs : List ℕ) (i x : ℕ) → get_elem? xs i ≡ some x → take (suc i) xs ≡ take i xs ++ x ∷ []
take_one [] i x e = absurd (some-ne-none x (sym e))
take_one (y ∷ ys) zero x e = ap (λ (z : ℕ). z ∷ []) (some-injective y x e)
take_one (y ∷ ys) (suc i) x e = ap (λ (l : List ℕ). y ∷ l) (take_one ys i x e)

pub drop_get : (xs : List ℕ) (from i x : ℕ) → get_elem? xs (from + i) ≡ some x →
    get_elem? (drop from xs) i ≡ some x
drop_get xs zero i x e =
    let same : 0 + i ≡ i = omega arith in subst (λ (n : ℕ). get_elem? xs n ≡ some x) same e
drop_get [] (suc from) i x e = absurd (some-ne-none x (sym e))
drop_get (y ∷ ys) (suc from) i x e =
    let same : suc from + i ≡ suc (from + i) = omega arith in
    drop_get ys from i x (subst (λ (n : ℕ). get_elem? (y ∷ ys) n ≡ some x) same e)

-- one word more
pub read_more : (xs : List ℕ) (from i x : ℕ) → get_elem? xs (from + i) ≡ some x →
    take (i + 1) (drop from xs) ≡ take i (drop from xs) ++ x ∷ []
read_more xs from i x e =
    let same : i + 1 ≡ suc i = omega arith in
    ap (λ (n : ℕ). take n (drop from xs)) same
    ∙ take_one (drop from xs) i x (drop_get xs from i x e)

-- a word that is there, as one that is indexed
pub index_at : (xs : List ℕ) (i x : ℕ) → get_elem? xs i ≡ some x → slice_index xs i ≡ x
index_at [] i x e = absurd (some-ne-none x (sym e))
index_at (y ∷ ys) zero x e = some-injective y x e
index_at (y ∷ ys) (suc i) x e = index_at ys i x e

-- the words behind the lines
drop_past : (xs ys : List ℕ) (n p : ℕ) → length xs ≡ n → drop (n + p) (xs ++ ys) ≡ drop p ys
drop_past [] ys zero p e = let same : 0 + p ≡ p = omega arith in ap (λ (m : ℕ). drop m ys) same
drop_past [] ys (suc n) p e = absurd (omega arith)
drop_past (x ∷ xs) ys zero p e = absurd (omega arith)
drop_past (x ∷ xs) ys (suc n) p e =
    let same : suc n + p ≡ suc (n + p) = omega arith in
    ap (λ (m : ℕ). drop m (x ∷ (xs ++ ys))) same ∙ drop_past xs ys n p (omega arith)

row_links : (h n : ℕ) (links counts desks : List ℕ) (p : ℕ) → length links ≡ p →
    take p (drop links_at (words_with h n links counts desks)) ≡ links
row_links h n links counts desks p e = take_front links (counts ++ desks) p e

row_counts : (h n : ℕ) (links counts desks : List ℕ) (p : ℕ) → length links ≡ p →
    length counts ≡ p → take p (drop (links_at + p) (words_with h n links counts desks)) ≡ counts
row_counts h n links counts desks p e f =
    ap (λ (l : List ℕ). take p l) (drop_past (lines h n) (links ++ (counts ++ desks)) links_at p refl)
    ∙ (ap (λ (l : List ℕ). take p l) (drop_front links (counts ++ desks) p e)
    ∙ take_front counts desks p f)

-- the greatest number of 32 bits
abbrev short : ℕ
short = 4294967295

-- links and counts are small
small_in : (xs ys : List ℕ) (b : ℕ) → ((j : ℕ) → slice_index xs j ≤ b) →
    ((j : ℕ) → slice_index ys j ≤ b) → (i : ℕ) → slice_index (xs ++ ys) i ≤ b
small_in [] ys b f g i = g i
small_in (x ∷ xs) ys b f g zero = f 0
small_in (x ∷ xs) ys b f g (suc i) = small_in xs ys b (λ j. f (suc j)) g i

small_past : (xs ys : List ℕ) (b : ℕ) → ((j : ℕ) → slice_index ys j ≤ b) →
    (i : ℕ) → length xs ≤ i → slice_index (xs ++ ys) i ≤ b
small_past [] ys b g i h = g i
small_past (x ∷ xs) ys b g zero h = absurd (omega arith)
small_past (x ∷ xs) ys b g (suc i) h = small_past xs ys b g i (omega arith)

-- the words of desks are small
small_desks : (ds : List Desk) → ((d : ℕ) → (desk_at ds d).word ≤ 3) →
    (j : ℕ) → slice_index (map word_on ds) j ≤ short
small_desks [] h j = omega arith
small_desks (x ∷ xs) h zero = let a = h 0 in omega arith
small_desks (x ∷ xs) h (suc j) = small_desks xs (λ d. h (suc d)) j

pub small_words : (l : Limits) (id : ℕ) (n : Known) (ws : List ℕ) (slots : List Slot) →
    Final (Seen (Ruled l) id n) ws slots → (i : ℕ) → links_at ≤ i → slice_index ws i < 4294967296
small_words l id n ws slots f i past =
    let r : Ruled l f.0 = f.1.0 in
    let w = r.world in
    let is_words : ws ≡ words_of w = sym f.2 ∙ r.words_are in
    let population = ap (λ (k : Limits). k.population) r.limits in
    let refs = ap (λ (k : Limits). k.ref_limit) r.limits in
    let few = r.pool.population in
    let limited = r.pool.refs in
    let links : (j : ℕ) → slice_index w.links j ≤ short =
    (λ j. let a = r.stack.links_in_range j in omega arith) in
    let counts : (j : ℕ) → slice_index w.counts j ≤ short =
    (λ j. let a = r.counts.in_range j in omega arith) in
    let small = small_past (lines (pack w.head) w.length) (rows_of w) short
    (small_in w.links (w.counts ++ map word_on w.desks) short links
    (small_in w.counts (map word_on w.desks) short counts (small_desks w.desks r.desks.desks.words)))
    i past in
    let same = ap (λ (xs : List ℕ). slice_index xs i) is_words in
    omega arith

none_in : {A : Type 0} (xs : List A) → length xs ≡ 0 → xs ≡ []
none_in [] e = refl
none_in (x ∷ xs) e = absurd (omega arith)

none_of : (xs : List ℕ) → ((i : ℕ) → bag xs i ≡ 0) → xs ≡ []
none_of [] h = refl
none_of (x ∷ xs) h = absurd (let a = h x in omega (arith, times-head x xs))

-- where one view has every part, no other view names anything
others_none : (w : World) → Lawful w → HeaderLaw w → (id : ℕ) (v : View) → view_at w.views id ≡ v →
    v.part ≡ every_part w.limits → (k : ℕ) → k ≢ id → Nothing (view_at w.views k)
others_none w law headers id v same whole k ne =
    let idle = others_idle w law id (ap (λ (u : View). u.part) same ∙ whole) k ne in
    let held : (view_at w.views k).holds ≡ [] = none_in (view_at w.views k).holds idle.holds in
    record {
      hand = none_in (view_at w.views k).hand idle.hand;
      zeros = none_in (view_at w.views k).zeros idle.zeros;
      holds = held;
      headers =
          none_of (view_at w.views k).headers
          (λ i.
          ⊎_elim
          (λ (p : 0 < bag (view_at w.views k).headers i).
          absurd
          (let q = headers.held k i p in
          let e = ap (λ (xs : List ℕ). bag xs i) held in
          omega (arith, times-nil i)))
          (λ (p : bag (view_at w.views k).headers i ≤ 0). omega arith)
          (cases_lt 0 (bag (view_at w.views k).headers i)));
      credit = idle.credit;
      look = idle.look;
      chain = idle.chain;
      work = idle.work;
    }

-- one desk more
pub kept_more : (words : List ℕ) (slots out : List Slot) (i word : ℕ) (slot : Slot) → length out ≡ i →
    get_elem? words i ≡ some word → get_elem? slots i ≡ some slot → AreOnFullDesks words slots out →
    AreOnFullDesks words slots (out ++ kept_on word slot ∷ [])
kept_more words slots out i word slot size at_word at_slot kept k n y here a b =
    ⊎_elim (λ (l : k < length out). at_longer out (kept_on word slot ∷ []) k (kept_on n y) (kept k n y l a b))
    (λ (l : length out ≤ k).
    let all : length (out ++ kept_on word slot ∷ []) ≡ length out + 1 = length-append out (kept_on word slot ∷ []) in
    let last : i ≡ k = omega arith in
    let same_word : word ≡ n =
    some-injective word n (sym at_word ∙ (ap (λ (j : ℕ). get_elem? words j) last ∙ a)) in
    let same_slot : slot ≡ y =
    some-injective slot y (sym at_slot ∙ (ap (λ (j : ℕ). get_elem? slots j) last ∙ b)) in
    at_last out (kept_on word slot) k (size ∙ last) ∙ (λ j. some (kept_on (same_word j) (same_slot j))))
    (cases_lt k (length out))

-- the words of the desks, which are the last
row_desks : (h n : ℕ) (links counts desks : List ℕ) (p : ℕ) → length links ≡ p →
    length counts ≡ p → drop (links_at + 2 * p) (words_with h n links counts desks) ≡ desks
row_desks h n links counts desks p e f =
    let twice : links_at + 2 * p ≡ links_at + (p + (p + 0)) = omega arith in
    ap (λ (m : ℕ). drop m (words_with h n links counts desks)) twice
    ∙ (drop_past (lines h n) (links ++ (counts ++ desks)) links_at (p + (p + 0)) refl
    ∙ (drop_past links (counts ++ desks) p (p + 0) e ∙ drop_past counts desks p 0 f))

at_least : {A : Type 0} (xs : List A) (k : ℕ) → k < length xs → (x : A) × (get_elem? xs k ≡ some x)
at_least [] k h = absurd (omega arith)
at_least (x ∷ xs) zero h = (x, refl)
at_least (x ∷ xs) (suc k) h = at_least xs k (omega arith)

same_rows : {A : Type 0} (xs ys : List A) → length xs ≡ length ys →
    ((k : ℕ) → k < length xs → get_elem? xs k ≡ get_elem? ys k) → xs ≡ ys
same_rows [] [] e h = refl
same_rows [] (y ∷ ys) e h = absurd (omega arith)
same_rows (x ∷ xs) [] e h = absurd (omega arith)
same_rows {A} (x ∷ xs) (y ∷ ys) e h =
    let head : x ≡ y = some-injective x y (h 0 (omega arith)) in
    let tail : xs ≡ ys = same_rows xs ys (omega arith) (λ k l. h (suc k) (omega arith)) in
    λ i. head i ∷ tail i

-- what is left of a desk that isn't full is nothing, whatever its slot has
kept_by : (word : ℕ) (slot other : Slot) → word ≤ 3 →
    ((y : Slot) → home_by word slot ≡ some y → other ≡ y) → kept_on word other ≡ kept_on word slot
kept_by zero slot other h at = refl
kept_by (suc zero) slot other h at = refl
kept_by (suc (suc zero)) slot other h at = at slot refl
kept_by (suc (suc (suc n))) slot other h at =
    let z : n ≡ 0 = omega arith in
    ap (λ (m : ℕ). kept_on (suc (suc (suc m))) other) z
    ∙ sym (ap (λ (m : ℕ). kept_on (suc (suc (suc m))) slot) z)

-- the packets that were listed are those of the full desks
desks_are : (ds : List Desk) (out : List Slot) (ws : List ℕ) (slots : List Slot) →
    length out ≡ length ds → ws ≡ map word_on ds →
    ((k : ℕ) (y : Slot) → get_elem? (map home_of ds) k ≡ some (some y) → get_elem? slots k ≡ some y) →
    length out ≡ length slots → ((d : ℕ) → (desk_at ds d).word ≤ 3) → AreOnFullDesks ws slots out →
    out ≡ map packet_on ds
desks_are ds out ws slots size words homes same small kept =
    same_rows out (map packet_on ds) (size ∙ sym (length-map ds packet_on)) (λ k here.
    let x = at_least ds k (omega arith) in
    let y = at_least slots k (omega arith) in
    let is : desk_at ds k ≡ x.0 = index_desk ds k x.0 x.1 in
    let low : x.0.word ≤ 3 = subst (λ (z : Desk). z.word ≤ 3) is (small k) in
    kept k x.0.word y.0 here
    (ap (λ (zs : List ℕ). get_elem? zs k) words ∙ at_map word_on ds k x.0 x.1) y.1
    ∙ (ap some (kept_by x.0.word x.0.slot y.0 low (λ z e.
    some-injective y.0 z (sym y.1 ∙ homes k z (at_map home_of ds k x.0 x.1 ∙ ap some e))))
    ∙ sym (at_map packet_on ds k x.0 x.1)))
  where
    index_desk : (xs : List Desk) (k : ℕ) (x : Desk) → get_elem? xs k ≡ some x → desk_at xs k ≡ x
    index_desk [] k x e = absurd (some-ne-none x (sym e))
    index_desk (z ∷ zs) zero x e = some-injective z x e
    index_desk (z ∷ zs) (suc k) x e = index_desk zs k x e

-- what a seat that knows the desks knew to lie there
as_known : (o : Option (List Slot)) (P : Type 0) (xs desks : List Slot) → desks ≡ xs →
    IfSome o (λ ds. P × (ds ≡ xs)) → IfSome o (λ ds. desks ≡ ds)
as_known None P xs desks e h = tt
as_known (Some ds) P xs desks e h = e ∙ sym h.1

-- what is left of the world at the start
left_at_start : (l : Limits) (v : View) (c : Closed) (left : LeftOf l v c) →
    left.world ≡ record (opening l) { views = left.world.views } → c ≡ closed_at_start l
left_at_start l v c left same =
    let top = left.top ∙ ap (λ (w : World). w.head.top) same in
    let size = left.length ∙ ap (λ (w : World). w.length) same in
    let links = left.links ∙ ap (λ (w : World). w.links) same in
    let counts = left.counts ∙ ap (λ (w : World). w.counts) same in
    let desks = left.desks ∙ (ap (λ (w : World). lying_on w.desks) same ∙ sym (none_lie l.desks)) in
    λ i. record { top = top i; length = size i; links = links i; counts = counts i; desks = desks i }

-- what is left is of a lawful world, has the packets that the seat knew of, is that of the start
-- where nobody did anything, and of the only seat has on the desks what that seat's notes leave
-- there
abbrev pub Closes : Limits → View → Known → Closed → Type 0
Closes l v n c =
    LeftOf l v c × IfSome n.lying (λ ds. c.desks ≡ ds) × (IsFresh n → c ≡ closed_at_start l)
    × (n.view.part ≡ every_part l → LieByNotes (n.steps ++ n.joined) c.desks)

-- what is left, by the words that were read
pub closes : (key l : Limits) → key ≡ l → (v : View) (id : ℕ) (n : Known) → n.view ≡ v →
    (ws : List ℕ) (slots : List Slot) → Final (Seen (Ruled key) id n) ws slots →
    (word : ℕ) (head : Head) (len : ℕ) (links counts : List ℕ) → get_elem? ws head_word ≡ some word →
    head ≡ unpack word → get_elem? ws length_word ≡ some len → links ≡ take l.population (drop links_at ws) →
    counts ≡ take l.population (drop (links_at + l.population) ws) → (desks : List Slot) →
    length desks ≡ l.desks → AreOnFullDesks (drop (links_at + 2 * l.population) ws) slots desks → 0 < n.view.part →
    Closes l v n (record { top = head.top; length = len; links = links; counts = counts; desks = desks })
closes
    key l key_is v id n same ws slots f word head len links counts at_head head_is at_len links_are
    counts_are desks size kept busy =
    let r : Ruled l f.0 = subst (λ (k : Limits). Ruled k f.0) key_is f.1.0 in
    let w = r.world in
    let law = law_of l f.0 r in
    let words : ws ≡ words_of w = sym f.2 ∙ r.words_are in
    let population = ap (λ (k : Limits). k.population) r.limits in
    let few = r.pool.population in
    let top = r.stack.top in
    let as_many : length desks ≡ length w.desks =
    size ∙ sym (r.desks.count ∙ ap (λ (k : Limits). k.desks) r.limits) in
    let word_is : word ≡ pack w.head =
    some-injective word (pack w.head) (sym at_head ∙ ap (λ (xs : List ℕ). get_elem? xs head_word) words) in
    let read : head ≡ w.head = head_is ∙ (ap unpack word_is ∙ unpack_pack w.head (omega arith)) in
    let c : Closed = record { top = head.top; length = len; links = links; counts = counts; desks = desks } in
    let left : LeftOf l v c = record {
      world = w;
      id = id;
      law = law;
      headers = r.counts.headers;
      limits = r.limits;
      desk_count = r.desks.count ∙ ap (λ (k : Limits). k.desks) r.limits;
      view = there l f.0 r id n f.1.1 ∙ ap some same;
      alone =
          λ whole. others_none w law r.counts.headers id v (is l f.0 r id n f.1.1 ∙ same)
          (whole ∙ sym (ap (λ (k : Limits). every_part k) r.limits));
      top = ap (λ (h : Head). h.top) read;
      length =
          some-injective len w.length
          (sym at_len ∙ ap (λ (xs : List ℕ). get_elem? xs length_word) words);
      links =
          links_are
          ∙ (ap (λ (xs : List ℕ). take l.population (drop links_at xs)) words
          ∙ row_links (pack w.head) w.length w.links w.counts (map word_on w.desks) l.population
          (r.stack.links ∙ population));
      counts =
          counts_are
          ∙ (ap (λ (xs : List ℕ). take l.population (drop (links_at + l.population) xs)) words
          ∙ row_counts (pack w.head) w.length w.links w.counts (map word_on w.desks) l.population
          (r.stack.links ∙ population) (r.counts.counts ∙ population));
      desks =
          desks_are w.desks desks (drop (links_at + 2 * l.population) ws) slots
          as_many
          (ap (λ (xs : List ℕ). drop (links_at + 2 * l.population) xs) words
          ∙ row_desks (pack w.head) w.length w.links w.counts (map word_on w.desks) l.population
          (r.stack.links ∙ population) (r.counts.counts ∙ population))
          (λ k y e. f.4 k y (ap (λ (hs : List (maybe.Option Slot)). get_elem? hs k) r.homes_are ∙ e))
          (as_many ∙ (sym (length-map w.desks home_of)
          ∙ (sym (ap (λ (hs : List (maybe.Option Slot)). length hs) r.homes_are) ∙ f.3)))
          r.desks.desks.words kept;
    } in
    let lies : IfSome n.lying (λ ds. (n.view.part ≡ every_part w.limits) × (ds ≡ lying_on w.desks)) = r.lies id n f.1.1 in (
      left,
      as_known n.lying (n.view.part ≡ every_part w.limits) (lying_on w.desks) c.desks left.desks lies,
      λ fresh.
          let same_world : w ≡ record (opening l) { views = w.views } =
          r.opened (all_unmoved l f.0 r id n f.1.1 busy fresh) in
          left_at_start l v c left same_world,
      λ whole.
          let every = whole ∙ sym (ap (λ (k : Limits). every_part k) r.limits) in
          subst (λ (ds : List Slot). LieByNotes (n.steps ++ n.joined) ds) (sym left.desks)
          (lie_by_notes l r.history w f.0.views r.led id n f.1.1
          (λ j o ne e. r.idle j o e (others_out l f.0 r id n f.1.1 every j o ne e))),
    )
