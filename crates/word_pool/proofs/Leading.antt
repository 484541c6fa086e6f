-- Calls over words leave a seat at its table, with its part.
use Rattle.std.proofs.Common.{◌≡◌, List, [], ◌∷◌, refl, ap, sym, ◌∙◌, subst}
use Rattle.commons.specs.Calls.{Call, Leads, Made, Reading, Side, calls_of}
use Rattle.commons.specs.Packets.{held_in}
use Rattle.ground.specs.Seats.{Seated}
use Rattle.mbuf.specs.declared.acts.Act.{Act}
use Rattle.mbuf.specs.Acts.{Performs, Reply}
use Rattle.mbuf.specs.Fresh.{AreFresh, new_elements}
use Rattle.mbuf.specs.Members.{Member, KeepsMember}
use Rattle.mbuf.specs.Refused.{AsBefore, IfRefused}
use Rattle.stack_lf.specs.Sides.{side_of}
use Rattle.stack_lf.specs.Tries.{DidOnWords}
use Rattle.stack_lf.specs.declared.lent.LentWords.{LentWords}
use Rattle.word_pool.specs.Workers.{Acts}

-- what the trait's relation and side are at a seat that is lent
abbrev pub DidByLent : LentWords → Call → List Reading → LentWords → Type 0
DidByLent s call rs t = (t.seat.ghost_name ≡ s.seat.ghost_name) × DidOnWords s.seat.now call rs t.seat.now

abbrev pub side_by_lent : LentWords → Side
side_by_lent s = side_of s.seat.now

-- the second seat is one of the same ground as the first, with the same part and the same slots out
pub record Sits (s t : Seated) : Type 0 where
  pub table : t.table ≡ s.table
  pub limits : t.known.limits ≡ s.known.limits
  pub part : t.known.view.part ≡ s.known.view.part
  pub slots : t.slots ≡ s.slots

-- any calls, one after another, leave it so
pub leads_sits : (before : Seated) (made : List Made) (after : Seated) → Leads DidOnWords side_of before made after →
    Sits before after
leads_sits before [] after led =
    subst (Sits before) led (record { table = refl; limits = refl; part = refl; slots = refl })
leads_sits before (m ∷ made) after led =
    let did = led.1.led in
    let rest = leads_sits led.0 made after led.2 in
    record {
      table = rest.table ∙ did.table;
      limits = rest.limits ∙ did.limits;
      part = rest.part ∙ did.part;
      slots = rest.slots ∙ did.slots;
    }

-- what a lent seat's words were led through, the seat was, which is still the one that was lent
pub of_lent : (before : LentWords) (made : List Made) (after : LentWords) → Leads DidByLent side_by_lent before made after →
    (after.seat.ghost_name ≡ before.seat.ghost_name)
    × Leads DidOnWords side_of before.seat.now made after.seat.now
of_lent before [] after led = (
  ap (λ (x : LentWords). x.seat.ghost_name) (sym led),
  ap (λ (x : LentWords). x.seat.now) led,
)
of_lent before (m ∷ made) after led =
    let rest = of_lent led.0 made after led.2 in (
      rest.0 ∙ led.1.led.0,
      (
        led.0.seat.now,
        record { led = led.1.led.1; cause = led.1.cause; effect = led.1.effect },
        rest.1,
      ),
    )

-- so a worker whose seat was led through the calls of an act did that act
pub acted : (act : Act) (r : Reply) (s t u v : Seated) (m n : Member) (made : List Made) → t ≡ s → v ≡ u →
    Leads DidOnWords side_of t made u → Performs act m (calls_of made) r n →
    AreFresh m.limits.population (held_in m.table) (new_elements r) →
    IfRefused r (AsBefore act m (side_of t) n (side_of u)) → KeepsMember m n →
    Acts act (record { seat = s; member = m }) r (record { seat = v; member = n })
acted act r s t u v m n made there back led did fresh refused keeps =
    let sits = leads_sits t made u led in
    let all : Acts act (record { seat = t; member = m }) r (record { seat = u; member = n }) = record {
      calls = (made, led, did);
      fresh = fresh;
      refused = refused;
      member = keeps;
      stays = record { table = sits.table; limits = sits.limits; part = sits.part; number = keeps.number };
    } in
    subst (λ (x : Seated). Acts act (record { seat = s; member = m }) r (record { seat = x; member = n })) (sym back)
    (subst (λ (x : Seated). Acts act (record { seat = x; member = m }) r (record { seat = u; member = n })) there all)
