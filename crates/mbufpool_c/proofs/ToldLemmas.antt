-- What a worker did that was in a handle, and is in it again, is told as of the handle.
use Rattle.std.proofs.Common.{◌≡◌, ℕ, List, [], ◌∷◌, Option, Some, None, Result, Ok, Err, ap, refl, slice_index_or}
use Rattle.commons.specs.Packets.{own_in_slot}
use Rattle.commons.specs.declared.packet.Seg.{Seg}
use Rattle.commons.specs.declared.refusal.Refusal.{Refusal}
use Rattle.mbuf.specs.Acts.{cloned, first_elem}
use Rattle.mbuf.specs.declared.acts.Act.{Act}
use Rattle.mbufpool_c.specs.Labelled.{Labelled}
use Rattle.mbufpool_c.specs.Labels.{label_in}
use Rattle.mbufpool_c.specs.declared.packets.NewPacket.{NewPacket}
use Rattle.mbufpool_c.specs.Statuses.{ActsAs, DoesAs, GivesNumber, MakesBulk, MakesNew, TellsBulk, TellsNew, TellsNumber, new_at, new_in, status_of_reply, status_of_result}

pub tells_new : (act : Act) (old new : Option Labelled) (m n : Labelled) (status : ℕ) (was out : NewPacket) →
    old ≡ Some m → new ≡ Some n → MakesNew act m status was out n → TellsNew act old status was out new
tells_new act old new m n status was out there back made =
    rw there (rw back (Some made.0, (n, made.1, refl), made.2, made.3))

pub tells_bulk : (act : Act) (old new : Option Labelled) (m n : Labelled) (status : ℕ) (was out : List NewPacket) →
    old ≡ Some m → new ≡ Some n → MakesBulk act m status was out n → TellsBulk act old status was out new
tells_bulk act old new m n status was out there back made =
    rw there (rw back (Some made.0, (n, made.1, refl), made.2, made.3))

pub tells_as : (act : Act) (old new : Option Labelled) (m n : Labelled) (status : ℕ) →
    old ≡ Some m → new ≡ Some n → DoesAs act m status n → ActsAs act old status new
tells_as act old new m n status there back made =
    rw there (Some made.0, (n, made.1, back), made.2)

pub tells_number : (act : Act) (old new : Option Labelled) (m n : Labelled) (status was out : ℕ) →
    old ≡ Some m → new ≡ Some n → GivesNumber act m status was out n → TellsNumber act old status was out new
tells_number act old new m n status was out there back made =
    rw there (rw back (Some made.0, (n, made.1, refl), made.2, made.3))

-- the first of a packet's own elements is its first segment's
first_own : (p : Option (List Seg)) → first_elem p ≡ slice_index_or (own_in_slot p) 0 0
first_own None = refl
first_own (Some []) = refl
first_own (Some (s ∷ rest)) = refl

-- so a clone is told as any new packet
pub clone_told : (answer : Result ℕ Refusal) (labels : List ℕ) (table : List (Option (List Seg))) (was : NewPacket) →
    new_at answer labels table was ≡ new_in (cloned answer table) labels was
clone_told (Err cause) labels table was = refl
clone_told (Ok slot) labels table was =
    ap (λ (e : ℕ). record { slot = label_in labels slot; element = e }) (first_own (slice_index_or table slot None))

pub clone_status : (answer : Result ℕ Refusal) (table : List (Option (List Seg))) →
    status_of_result answer ≡ status_of_reply (cloned answer table)
clone_status (Err cause) table = refl
clone_status (Ok slot) table = refl
