-- Which packet a name stands for, once a name was set or forgotten.
use Rattle.std.proofs.Common.{◌≡◌, ℕ, cond, List, [], ◌∷◌, length, Option, refl, sym, ap, ◌∙◌, eqb, arith}
use Rattle.std.specs.Prelude.{◌&&◌, min}
use Rattle.std.specs.Borrow.{Bor}
use Rattle.std.specs.Str.{bytes_eq}
use Rattle.std.specs.HashMap.{get}
use Rattle.std.specs.Cmp.{unsigned_Decides}
use Rattle.std.proofs.lemmas.Bool.Decides.{same_from_decides, Decides-and, Decides-like}
use Rattle.std.proofs.lemmas.Slice.Eq.{bytes_eq-Decides}
use Rattle.script.specs.declared.names.Names.{Names}
use Rattle.script.specs.declared.names.Stand.{Stand}
use Rattle.mbuf.specs.declared.acts.NewPacket.{NewPacket}
use Rattle.script.specs.Replay.{Stands, named, all_named}
use Rattle.script.specs.Stands.{same_key, stands_in}

-- it doesn't matter which of two keys comes first
same_key-flip : (a b : ℕ) (x y : List ℕ) → (eqb a b && bytes_eq x y) ≡ (eqb b a && bytes_eq y x)
same_key-flip a b x y =
    let one = Decides-and (eqb a b) (bytes_eq x y) (unsigned_Decides a b) (bytes_eq-Decides x y) in
    let other = Decides-and (eqb b a) (bytes_eq y x) (unsigned_Decides b a) (bytes_eq-Decides y x) in
    let to : (a ≡ b) × (x ≡ y) → (b ≡ a) × (y ≡ x) = λ p. (sym p.0, sym p.1) in
    let from : (b ≡ a) × (y ≡ x) → (a ≡ b) × (x ≡ y) = λ p. (sym p.0, sym p.1) in
    same_from_decides (eqb a b && bytes_eq x y) (eqb b a && bytes_eq y x) (Decides-like (eqb a b && bytes_eq x y) to from one) other

-- what the map says of one key is what the model says of a name
pub is_named : (old new : Names) (worker : ℕ) (name : Bor (List ℕ)) (stand : Option Stand) →
    ((q : ℕ × Bor (List ℕ)) → get same_key new.stands q ≡ cond (same_key (worker, name) q) stand (get same_key old.stands q)) →
    (w : ℕ) (other : List ℕ) → stands_in new w other ≡ named worker name.now stand (stands_in old) w other
is_named old new worker name stand updates w other =
    updates (w, record { ref_ptr = (0, 0); now = other }) ∙ ap (λ b. cond b stand (stands_in old w other)) (same_key-flip worker w name.now other)

-- where no name or no packet is left, each name stands as it did
pub all_named-end : (worker : ℕ) (names : List (List ℕ)) (packets : List NewPacket) (stands : Stands) → min (length names) (length packets) ≡ 0 → all_named worker names packets stands ≡ stands
all_named-end worker [] packets stands e = refl
all_named-end worker (name ∷ names) [] stands e = refl
all_named-end worker (name ∷ names) (packet ∷ packets) stands e = absurd (omega (arith, e))
