-- The line that answers a command.
use Rattle.std.specs.Prelude.{ℕ, List, [], ◌++◌, Option, Some, None, codes, decimal, flat_map}
use Rattle.commons.specs.declared.refusal.Refusal.{Refusal}
use Rattle.commons.specs.Refusals.{name_of, number_of}
use Rattle.mempool.specs.declared.put.Put.{Put}
use Rattle.mempool.specs.declared.put.Put.TheVariants as puts
use Rattle.mbuf.specs.declared.acts.NewPacket.{NewPacket}
use Rattle.mbuf.specs.Acts.{Reply}
use Rattle.mbuf.specs.declared.acts.Answer.TheVariants as replies
use Rattle.mbuf.specs.declared.freed.Freed.{Freed}
use Rattle.element_text.specs.Elements.{joined}

-- the last push that was refused, and why; nothing where none was
unfoldable pub put_off_text : Option (ℕ × Refusal) → List ℕ
put_off_text (Some (count, refusal)) = codes " putoff " ++ decimal count ++ codes " " ++ name_of refusal
put_off_text None = []

-- what freeing did
unfoldable pub freed_text : Freed → List ℕ
freed_text freed =
    codes "ok back " ++ decimal freed.back ++ codes " flushed " ++ decimal freed.flushed
    ++ put_off_text freed.put_off

-- what a flush did with the cache
unfoldable pub put_text : Put → List ℕ
put_text puts.Kept = codes "ok kept"
put_text (puts.Flushed count) = codes "ok flushed " ++ decimal count
put_text (puts.PutOff count refusal) = codes "ok putoff " ++ decimal count ++ codes " " ++ name_of refusal

-- the elements of new packets, a space before each
abbrev pub new_elements_text : List NewPacket → List ℕ
new_elements_text packets = flat_map (λ packet. codes " " ++ decimal packet.elem) packets

-- A reply: the elements of the new packets or of a clone, what freeing or a flush did, a count, a
-- length in bytes, a number of segments, of a chain and of a packet that was taken both, or the
-- refusal's number and name.
unfoldable pub reply_text : Reply → List ℕ
reply_text (replies.Allocated slot elem) = codes "ok " ++ decimal elem
reply_text (replies.Bulk packets) = codes "ok" ++ new_elements_text packets.items
reply_text (replies.Freed freed) = freed_text freed
reply_text replies.Attached = codes "ok"
reply_text (replies.Cloned slot elems) = codes "ok" ++ joined decimal elems.items
reply_text replies.Offered = codes "ok"
reply_text (replies.Taken slot segs len) = codes "ok " ++ decimal segs ++ codes " " ++ decimal len
reply_text (replies.Count count) = codes "ok " ++ decimal count
reply_text (replies.Len len) = codes "ok " ++ decimal len
reply_text (replies.Segs segs) = codes "ok " ++ decimal segs
reply_text (replies.Chained segs len) = codes "ok " ++ decimal segs ++ codes " " ++ decimal len
reply_text (replies.Put put) = put_text put
reply_text (replies.Refused refusal) =
    codes "refused " ++ decimal (number_of refusal) ++ codes " " ++ name_of refusal

-- the reply to the command of this line
unfoldable pub reply_line : ℕ → Reply → List ℕ
reply_line number reply = decimal number ++ codes ": " ++ reply_text reply ++ codes "\n"
