-- What C is answered.
use Rattle.std.specs.Prelude.{◌≡◌, ◌<◌, ℕ, List, [], length, Option, Some, None, Result, Ok, Err, slice_index_or}
use Rattle.commons.specs.declared.packet.Seg.{Seg}
use Rattle.commons.specs.declared.refusal.Refusal.{Refusal}
use Rattle.commons.specs.declared.refusal.Refusal.TheVariants.{StrangerShare}
use Rattle.commons.specs.Refusals.{number_of}
use Rattle.mbuf.specs.declared.acts.Act.{Act}
use Rattle.mbuf.specs.declared.acts.Answer.{Answer}
use Rattle.mbuf.specs.declared.acts.Answer.TheVariants as reply
use Rattle.mbuf.specs.declared.acts.NewPacket.{NewPacket as Made}
use Rattle.mbuf.specs.Acts.{Reply, as_reply, first_elem}
use Rattle.stack_lf.specs.Remaining.{ReadsRemaining}
use Rattle.word_pool.specs.Workers.{Stays}
use Rattle.mbufpool_c.specs.Labelled.{ActsBy, Labelled}
use Rattle.mbufpool_c.specs.Labels.{label_in}
use Rattle.mbufpool_c.specs.declared.packets.NewPacket.{NewPacket}

-- 0, or the number of the refusal
abbrev pub status_of_result : {T : Type 0} → Result T Refusal → ℕ
status_of_result (Ok _) = 0
status_of_result (Err cause) = number_of cause

-- the new packet in the slot that is answered, by the labels and the table afterwards; else what was
-- there stays
abbrev pub new_at : Result ℕ Refusal → List ℕ → List (Option (List Seg)) → NewPacket → NewPacket
new_at (Ok slot) labels table old =
    record { slot = label_in labels slot; element = first_elem (slice_index_or table slot None) }
new_at (Err cause) labels table old = old

-- an answer, where there is one, as one with room for any bulk
abbrev pub replied : {room : ℕ} → Option (Answer room) → Option Reply
replied None = None
replied (Some a) = Some (as_reply a)

-- 0, or the number of the refusal
abbrev pub status_of_reply : Reply → ℕ
status_of_reply (reply.Refused cause) = number_of cause
status_of_reply (reply.Allocated _ _) = 0
status_of_reply (reply.Bulk _) = 0
status_of_reply (reply.Freed _) = 0
status_of_reply reply.Attached = 0
status_of_reply (reply.Cloned _ _) = 0
status_of_reply reply.Offered = 0
status_of_reply (reply.Taken _ _ _) = 0
status_of_reply (reply.Count _) = 0
status_of_reply (reply.Len _) = 0
status_of_reply (reply.Segs _) = 0
status_of_reply (reply.Chained _ _) = 0
status_of_reply (reply.Put _) = 0

-- where there is no worker, the number of a stranger
abbrev pub status_of_answer : Option Reply → ℕ
status_of_answer None = number_of StrangerShare
status_of_answer (Some r) = status_of_reply r

-- the number that an answer tells of: a length, a number of segments, a count, or the label of a slot;
-- else what was there stays
abbrev pub number_of_reply : Reply → List ℕ → ℕ → ℕ
number_of_reply (reply.Len len) labels old = len
number_of_reply (reply.Segs segs) labels old = segs
number_of_reply (reply.Count count) labels old = count
number_of_reply (reply.Taken slot _ _) labels old = label_in labels slot
number_of_reply (reply.Refused _) labels old = old
number_of_reply (reply.Allocated _ _) labels old = old
number_of_reply (reply.Bulk _) labels old = old
number_of_reply (reply.Freed _) labels old = old
number_of_reply reply.Attached labels old = old
number_of_reply (reply.Cloned _ _) labels old = old
number_of_reply reply.Offered labels old = old
number_of_reply (reply.Chained _ _) labels old = old
number_of_reply (reply.Put _) labels old = old

-- the labels of the worker of a handle
abbrev pub labels_in : Option Labelled → List ℕ
labels_in None = []
labels_in (Some m) = m.labels

abbrev pub number_told : Option Reply → Option Labelled → ℕ → ℕ
number_told None new old = old
number_told (Some r) new old = number_of_reply r (labels_in new) old

-- the new packet that an answer tells of, by the label of its slot, with its first element
abbrev pub new_in : Reply → List ℕ → NewPacket → NewPacket
new_in (reply.Allocated slot element) labels old = record { slot = label_in labels slot; element = element }
new_in (reply.Cloned slot elements) labels old =
    record { slot = label_in labels slot; element = slice_index_or elements.items 0 0 }
new_in (reply.Len _) labels old = old
new_in (reply.Segs _) labels old = old
new_in (reply.Count _) labels old = old
new_in (reply.Taken _ _ _) labels old = old
new_in (reply.Refused _) labels old = old
new_in (reply.Bulk _) labels old = old
new_in (reply.Freed _) labels old = old
new_in reply.Attached labels old = old
new_in reply.Offered labels old = old
new_in (reply.Chained _ _) labels old = old
new_in (reply.Put _) labels old = old

abbrev pub new_told : Option Reply → Option Labelled → NewPacket → NewPacket
new_told None new old = old
new_told (Some r) new old = new_in r (labels_in new) old

-- The worker of a handle did this and was answered so; where there is none, nothing was done.
abbrev pub ActsIn : Act → Option Labelled → Option Reply → Option Labelled → Type 0
ActsIn act None None new = new ≡ None
ActsIn act None (Some r) new = ⊥
ActsIn act (Some m) None new = ⊥
ActsIn act (Some m) (Some r) new = (n : Labelled) × ActsBy act m r n × (new ≡ Some n)

-- and C has the status of the answer
abbrev pub ActsAs : Act → Option Labelled → ℕ → Option Labelled → Type 0
ActsAs act old status new = (answer : Option Reply) × ActsIn act old answer new × (status ≡ status_of_answer answer)

-- and its number
abbrev pub TellsNumber : Act → Option Labelled → ℕ → ℕ → ℕ → Option Labelled → Type 0
TellsNumber act old status was out new =
    (answer : Option Reply) × ActsIn act old answer new × (status ≡ status_of_answer answer) × (out ≡ number_told answer new was)

-- and its new packet
abbrev pub TellsNew : Act → Option Labelled → ℕ → NewPacket → NewPacket → Option Labelled → Type 0
TellsNew act old status was out new =
    (answer : Option Reply) × ActsIn act old answer new × (status ≡ status_of_answer answer) × (out ≡ new_told answer new was)

-- C has each of these packets in its place, as far as there are places
abbrev pub AreTold : List Made → List ℕ → List NewPacket → Type 0
AreTold made labels out =
    (k : ℕ) (d : Made) (e : NewPacket) → k < length made → k < length out →
    slice_index_or out k e
    ≡ record { slot = label_in labels (slice_index_or made k d).slot; element = (slice_index_or made k d).elem }

-- and of a bulk each packet; what was there stays where no bulk is made
abbrev pub BulkTold : Option Reply → List ℕ → List NewPacket → List NewPacket → Type 0
BulkTold (Some (reply.Bulk made)) labels was out = AreTold made.items labels out
BulkTold _ labels was out = out ≡ was

abbrev pub TellsBulk : Act → Option Labelled → ℕ → List NewPacket → List NewPacket → Option Labelled → Type 0
TellsBulk act old status was out new =
    (answer : Option Reply) × ActsIn act old answer new × (status ≡ status_of_answer answer) × BulkTold answer (labels_in new) was out

-- ---- the same of the worker itself, which was in the handle and is in it again

-- it did this, and C has the status of what was answered
abbrev pub DoesAs : Act → Labelled → ℕ → Labelled → Type 0
DoesAs act m status after = (r : Reply) × ActsBy act m r after × (status ≡ status_of_reply r)

-- and its number
abbrev pub GivesNumber : Act → Labelled → ℕ → ℕ → ℕ → Labelled → Type 0
GivesNumber act m status was out after =
    (r : Reply) × ActsBy act m r after × (status ≡ status_of_reply r) × (out ≡ number_of_reply r after.labels was)

-- and its new packet
abbrev pub MakesNew : Act → Labelled → ℕ → NewPacket → NewPacket → Labelled → Type 0
MakesNew act m status was out after =
    (r : Reply) × ActsBy act m r after × (status ≡ status_of_reply r) × (out ≡ new_in r after.labels was)

-- and those of a bulk
abbrev pub MakesBulk : Act → Labelled → ℕ → List NewPacket → List NewPacket → Labelled → Type 0
MakesBulk act m status was out after =
    (r : Reply) × ActsBy act m r after × (status ≡ status_of_reply r) × BulkTold (Some r) after.labels was out

-- the worker read how many changes of its pool's stack are left, and has what it had
pub record WorkerReads (m : Labelled) (left : ℕ) (after : Labelled) : Type 0 where
  pub read : ReadsRemaining m.worker.seat left after.worker.seat
  pub member : after.worker.member ≡ m.worker.member
  pub stays : Stays m.worker after.worker
  pub labels : after.labels ≡ m.labels

-- the same of the worker of a handle; where there is none, C has 0
abbrev pub WorkerRemains : Option Labelled → ℕ → Option Labelled → Type 0
WorkerRemains None left new = (left ≡ 0) × (new ≡ None)
WorkerRemains (Some m) left new = (after : Labelled) × WorkerReads m left after × (new ≡ Some after)
