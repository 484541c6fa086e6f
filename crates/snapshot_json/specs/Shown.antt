-- What a value of JSON shows of a snapshot, whatever it is: nothing where a part isn't there. For
-- private clauses.
use Rattle.std.specs.Prelude.{ℕ, ◌^◌, ◌==◌, List, [], ◌∷◌, Bool, false, nat_lt, if◌then◌else◌, Option, None, Some, option_map, option_and_then, unwrap_or, codes, map}
use Rattle.serde_json.specs.Data.{Data, Items, no_items, item}
use Rattle.serde_json.specs.Find.{as_array, as_bool, as_number, as_u64, get}
use Rattle.commons.specs.declared.limits.Limits.{Limits}
use Rattle.commons.specs.declared.limits.PutRule.{PutRule}
use Rattle.commons.specs.declared.limits.PutRule.TheVariants.{Keep, Whole}
use Rattle.commons.specs.declared.packet.Seg.{Seg}
use Rattle.pool_statement.specs.declared.guest.Guest.{Guest}
use Rattle.snapshot.specs.declared.snapshot.ShareData.{ShareData}
use Rattle.snapshot.specs.declared.snapshot.Snapshot.{Snapshot}

-- a number, or 0
abbrev pub number_in : Data → ℕ
number_in d = unwrap_or (option_and_then as_u64 (as_number d)) 0

-- a number below a bound, or 0
abbrev pub within : ℕ → ℕ → ℕ
within bound n = if nat_lt n bound then n else 0

-- the items of a list, or none
abbrev pub list_of : Items → List Data
list_of no_items = []
list_of (item d ds) = d ∷ list_of ds

abbrev pub items_in : Data → List Data
items_in d = unwrap_or (option_map list_of (as_array d)) []

-- the number of a member, or 0
abbrev pub number_at : List ℕ → Data → ℕ
number_at key d = unwrap_or (option_map number_in (get key d)) 0

-- the items of a member, or none
abbrev pub items_at : List ℕ → Data → List Data
items_at key d = unwrap_or (option_map items_in (get key d)) []

abbrev pub number32_in : Data → ℕ
number32_in d = within (2 ^ 32) (number_in d)

abbrev pub number32_at : List ℕ → Data → ℕ
number32_at key d = within (2 ^ 32) (number_at key d)

abbrev pub number16_at : List ℕ → Data → ℕ
number16_at key d = within (2 ^ 16) (number_at key d)

abbrev pub numbers_at : List ℕ → Data → List ℕ
numbers_at key d = map number32_in (items_at key d)

-- a number below 2^32, where it is one
abbrev pub some_within : ℕ → Option ℕ
some_within n = if nat_lt n (2 ^ 32) then Some n else None

abbrev pub base_at : List ℕ → Data → Option ℕ
base_at key d = option_and_then some_within (option_and_then (λ f. option_and_then as_u64 (as_number f)) (get key d))

abbrev pub flag_at : List ℕ → Data → Bool
flag_at key d = unwrap_or (option_and_then as_bool (get key d)) false

abbrev pub rule_from : ℕ → PutRule
rule_from n = if n == 1 then Whole else Keep

abbrev pub seg_in : Data → Seg
seg_in d = record {
  elem = number32_at (codes "elem") d;
  base = base_at (codes "base") d;
  data_off = number16_at (codes "off") d;
  data_len = number16_at (codes "len") d;
  buf_len = number16_at (codes "buf") d;
}

abbrev pub place_in : Data → Option (List Seg)
place_in d = option_map (λ ds. map seg_in (list_of ds)) (as_array d)

abbrev pub places_at : List ℕ → Data → List (Option (List Seg))
places_at key d = map place_in (items_at key d)

abbrev pub share_in : Data → ShareData
share_in d = record {
  worker = number32_at (codes "worker") d;
  cache = numbers_at (codes "cache") d;
  slots = places_at (codes "slots") d;
}

abbrev pub guest_in : Data → Guest
guest_in d = record { worker = number32_at (codes "worker") d; elem = number32_at (codes "elem") d }

abbrev pub limits_in : Data → Limits
limits_in d = record {
  population = number_at (codes "population") d;
  cache = number_at (codes "cache") d;
  workers = number_at (codes "workers") d;
  desks = number_at (codes "desks") d;
  buf = number_at (codes "buf") d;
  ref_limit = number_at (codes "refs") d;
  tries = number_at (codes "tries") d;
  start_count = number_at (codes "start") d;
  put_rule = rule_from (number_at (codes "putrule") d);
}

abbrev pub no_limits : Limits
no_limits = record {
  population = 0;
  cache = 0;
  workers = 0;
  desks = 0;
  buf = 0;
  ref_limit = 0;
  tries = 0;
  start_count = 0;
  put_rule = Keep;
}

abbrev pub limits_at : List ℕ → Data → Limits
limits_at key d = unwrap_or (option_map limits_in (get key d)) no_limits

-- the members that both forms have, beside a stack
abbrev pub beside_stack : Data → ℕ → ℕ → List ℕ → Snapshot
beside_stack d top len links = record {
  limits = limits_at (codes "limits") d;
  top = top;
  length = len;
  links = links;
  counts = numbers_at (codes "counts") d;
  desks = places_at (codes "desks") d;
  shares = map share_in (items_at (codes "shares") d);
  guests = map guest_in (items_at (codes "guests") d);
  foreign = flag_at (codes "foreign") d;
}

-- all members, with the stack as words
abbrev pub with_words : Data → Snapshot
with_words d =
    beside_stack d (number32_at (codes "top") d) (number_at (codes "length") d) (numbers_at (codes "links") d)
