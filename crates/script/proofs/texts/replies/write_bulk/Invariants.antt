use Rattle.std.proofs.Common.{◌≡◌, ◌++◌, codes, take}
use Rattle.script.specs.ReplyText.{new_elements_text}
use Rattle.script.proofs.texts.replies.write_bulk.Given as goal

-- the elements so far are written
abbrev pub invariant-loop-packet : goal.invariant-loop-packet
invariant-loop-packet l = l.out.items ≡ l.fn.out.items ++ codes "ok" ++ new_elements_text (take l.packet-index l.packets)
