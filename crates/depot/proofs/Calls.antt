-- What the answers for all calls share: the table of a depot, and the word of a head or a link.
use Rattle.std.proofs.Common.{◌≡◌, ℕ, ◌+◌, ◌<◌, ◌≤◌, List, sym, ap, ◌∙◌, arith}
use Rattle.atomic_table.specs.declared.shared.Seat.{Seat}
use Rattle.atomic_table.specs.Seated.{TableId}
use Rattle.depot.specs.declared.view.Stack.{Stack}
use Rattle.depot.specs.declared.view.Stack.TheVariants.{Full, Partial, Empty}
use Rattle.depot.specs.declared.view.Shape.{Shape}
use Rattle.depot.specs.declared.view.View.{View}
use Rattle.depot.specs.Layout.{head_at, place_at}
use Rattle.depot.specs.Seats.{Site, IsOf}

module _ {table : TableId} {key : Shape} {population rounds places tries : ℕ} {g : Site}
    (keeps : (table.words ≡ place_at table.slots places) × (table.slots < 65535)
    × (key ≡ record { population = population; rounds = rounds; places = places }) × (0 < rounds) × (rounds ≤ 128))
    (is : record { table = table; population = population; rounds = rounds; places = places; tries = tries } ≡ g) where
  pub same_table : g.table ≡ table
  same_table = sym (ap (λ (z : Site). z.table) is)

  pub slots_are : g.table.slots ≡ table.slots
  slots_are = ap (λ (t : TableId). t.slots) same_table

  -- the seat is one of the table
  pub at_table : {seat : Seat (List ℕ) View} → IsOf g seat → seat.table_id ≡ table
  at_table of = of.table ∙ same_table

  pub few_slots : g.table.slots < 65535
  few_slots = let e = slots_are in let h = keeps.1 in omega arith

  -- the words of heads and links are words of the table
  pub quiet_within : 0 < table.words
  quiet_within = let w = keeps.0 in omega arith

  pub head_within : (k : Stack) (word : ℕ) → word ≡ head_at k → word < table.words
  head_within Full word e = let w = keeps.0 in omega arith
  head_within Partial word e = let w = keeps.0 in omega arith
  head_within Empty word e = let w = keeps.0 in omega arith

  pub link_within : (m : ℕ) → m < g.table.slots → 32 + m < table.words
  link_within m h = let w = keeps.0 in let e = slots_are in omega arith

  pub places_are : g.places ≡ places
  places_are = sym (ap (λ (z : Site). z.places) is)

  -- so is the place of an element
  pub place_within : (i : ℕ) → i < g.places → (word : ℕ) → word ≡ place_at g.table.slots i → word < table.words
  place_within i h word e = let w = keeps.0 in let f = slots_are in let q = places_are in omega arith

  -- as the table sees them
  pub among : (i : ℕ) → i < g.places → i < key.places
  among i h =
      let same = places_are in
      let is_key : key.places ≡ places = ap (λ (shape : Shape). shape.places) keeps.2 in
      omega arith

  pub placed : (i word : ℕ) → word ≡ place_at g.table.slots i → word ≡ place_at table.slots i
  placed i word e = let same = slots_are in omega arith
