-- A worker as C has it: it names the worker's packets by the labels of their slots.
use Rattle.std.specs.Prelude.{ℕ, ◌≡◌, List}
use Rattle.mbuf.specs.declared.acts.Act.{Act}
use Rattle.mbuf.specs.declared.acts.Act.TheVariants as act
use Rattle.mbuf.specs.declared.acts.Answer.TheVariants as reply
use Rattle.mbuf.specs.Acts.{Reply}
use Rattle.word_pool.specs.Workers.{WorkerState, Acts}
use Rattle.mbufpool_c.specs.Labels.{first_labels, slot_in, went_from}

-- a worker, and the label of each of its slots
pub record Labelled : Type 0 where
  pub worker : WorkerState
  pub labels : List ℕ

-- a worker of a new pool
abbrev pub newly : WorkerState → Labelled
newly m = record { worker = m; labels = first_labels }

-- an act with the slots that its numbers stand for
abbrev pub in_slots : List ℕ → Act → Act
in_slots labels act.Alloc = act.Alloc
in_slots labels (act.AllocBulk n) = act.AllocBulk n
in_slots labels (act.Free p) = act.Free (slot_in labels p)
in_slots labels (act.Append p n) = act.Append (slot_in labels p) n
in_slots labels (act.Prepend p n) = act.Prepend (slot_in labels p) n
in_slots labels (act.Adj p n) = act.Adj (slot_in labels p) n
in_slots labels (act.Trim p n) = act.Trim (slot_in labels p) n
in_slots labels (act.Chain head tail) = act.Chain (slot_in labels head) (slot_in labels tail)
in_slots labels (act.Attach p target) = act.Attach (slot_in labels p) (slot_in labels target)
in_slots labels (act.Detach p) = act.Detach (slot_in labels p)
in_slots labels (act.ClonePacket p) = act.ClonePacket (slot_in labels p)
in_slots labels (act.Offer p desk) = act.Offer (slot_in labels p) desk
in_slots labels (act.Take desk) = act.Take desk
in_slots labels (act.CountOf p) = act.CountOf (slot_in labels p)
in_slots labels (act.PktLen p) = act.PktLen (slot_in labels p)
in_slots labels (act.NbSegs p) = act.NbSegs (slot_in labels p)
in_slots labels act.Flush = act.Flush

-- the labels once the packet in a slot went, where that wasn't refused
abbrev pub if_done : Reply → ℕ → List ℕ → List ℕ
if_done (reply.Refused cause) slot labels = labels
if_done (reply.Allocated _ _) slot labels = went_from slot labels
if_done (reply.Bulk _) slot labels = went_from slot labels
if_done (reply.Freed _) slot labels = went_from slot labels
if_done reply.Attached slot labels = went_from slot labels
if_done (reply.Cloned _ _) slot labels = went_from slot labels
if_done reply.Offered slot labels = went_from slot labels
if_done (reply.Taken _ _ _) slot labels = went_from slot labels
if_done (reply.Count _) slot labels = went_from slot labels
if_done (reply.Len _) slot labels = went_from slot labels
if_done (reply.Segs _) slot labels = went_from slot labels
if_done (reply.Chained _ _) slot labels = went_from slot labels
if_done (reply.Put _) slot labels = went_from slot labels

-- the labels after an act on slots: a packet that is freed, chained behind another or offered goes
-- from its slot, and every other label stays
abbrev pub labels_after : Act → Reply → List ℕ → List ℕ
labels_after (act.Free p) r labels = if_done r p labels
labels_after (act.Chain head tail) r labels = if_done r tail labels
labels_after (act.Offer p desk) r labels = if_done r p labels
labels_after act.Alloc r labels = labels
labels_after (act.AllocBulk n) r labels = labels
labels_after (act.Append p n) r labels = labels
labels_after (act.Prepend p n) r labels = labels
labels_after (act.Adj p n) r labels = labels
labels_after (act.Trim p n) r labels = labels
labels_after (act.Attach p target) r labels = labels
labels_after (act.Detach p) r labels = labels
labels_after (act.ClonePacket p) r labels = labels
labels_after (act.Take desk) r labels = labels
labels_after (act.CountOf p) r labels = labels
labels_after (act.PktLen p) r labels = labels
labels_after (act.NbSegs p) r labels = labels
labels_after act.Flush r labels = labels

-- The worker did this, as C asked for it, and was answered so, of its slots: each number of C's stood
-- for the slot whose label it was, or for none. A slot from which a packet went has its next label.
pub record ActsBy (asked : Act) (old : Labelled) (answered : Reply) (new : Labelled) : Type 0 where
  pub acts : Acts (in_slots old.labels asked) old.worker answered new.worker
  pub labels : new.labels ≡ labels_after (in_slots old.labels asked) answered old.labels
