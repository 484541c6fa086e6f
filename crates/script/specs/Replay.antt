-- The reference model of a script's commands, line by line, on one pool or on two.
use Rattle.std.specs.Prelude.{ℕ, ◌==◌, ◌&&◌, if◌then◌else◌, List, [], ◌∷◌, length, Option, Some, None, Result, Ok, Err}
use Rattle.std.specs.Str.{bytes_eq}
use Rattle.commons.specs.declared.change.Change.{Change}
use Rattle.commons.specs.declared.change.Change.TheVariants as change
use Rattle.commons.specs.declared.limits.Limits.{Limits}
use Rattle.commons.specs.declared.refusal.Refusal.{Refusal}
use Rattle.commons.specs.declared.refusal.Refusal.TheVariants.{Foreign, NoSuchPacket}
use Rattle.script_text.specs.declared.commands.Command.{Command}
use Rattle.script_text.specs.declared.commands.Command.TheVariants as command
use Rattle.script_text.specs.declared.lines.Pools.{Pools}
use Rattle.script_text.specs.Commands.{Line}
use Rattle.mbuf.specs.declared.acts.Act.{Act}
use Rattle.mbuf.specs.declared.acts.Act.TheVariants.{Alloc, AllocBulk, Free, Append, Prepend, Adj, Trim, Chain, Attach, Detach, ClonePacket, Offer, Take, CountOf, Flush}
use Rattle.mbuf.specs.declared.acts.NewPacket.{NewPacket}
use Rattle.mbuf.specs.Acts.{HasRoom, Reply}
use Rattle.mbuf.specs.declared.acts.Answer.TheVariants.{Allocated, Bulk as WasBulk, Chained, Cloned, Freed as WasFreed, Offered, Refused, Taken}
use Rattle.pool_model.specs.Pool.{Pool, new_pool}
use Rattle.pool_model.specs.PacketModel.{perform}
use Rattle.pool_model.specs.Statements.{statement_of}
use Rattle.pool_model.specs.TwinModel.{TwinPool, first_statement, new_twin_pool, perform_twin, second_statement}
use Rattle.pool_statement.specs.declared.settled.Settled.{Settled}
use Rattle.script.specs.declared.names.Stand.{Stand}
use Rattle.script.specs.declared.names.Stand.TheVariants.{Packet, Clone}
use Rattle.twin_acts.specs.declared.acts.TwinAct.{TwinAct}
use Rattle.twin_acts.specs.declared.acts.TwinAct.TheVariants.{OnFirst, CloneInto, AdjClone, TrimClone, CountClone, FreeClone}

-- ---- the pools

-- a pool alone, or two
pub data Stock : Type 0 where
  One : Pool → Stock
  Two : TwinPool → Stock

-- new pools within these limits
abbrev pub new_beside : Limits → Option Limits → Stock
new_beside first None = One (new_pool first)
new_beside first (Some second) = Two (new_twin_pool first second)

abbrev pub new_stock : Pools → Stock
new_stock pools = new_beside pools.first pools.second

-- The reply to what a worker is asked to do, and the pools afterwards. A pool alone has no foreign
-- clones.
abbrev pub perform_on : Stock → ℕ → TwinAct → Reply × Stock
perform_on (One pool) worker (OnFirst act) = let done = perform pool worker act in (done.0, One done.1)
perform_on (One pool) worker _ = (Refused Foreign, One pool)
perform_on (Two twins) worker act = let done = perform_twin twins worker act in (done.0, Two done.1)

-- the pools once workers of these numbers have done these acts, one after another
abbrev pub after_all : List (ℕ × TwinAct) → Stock → Stock
after_all [] stock = stock
after_all (done ∷ more) stock = after_all more (perform_on stock done.0 done.1).1

-- what they come to: their statements
abbrev pub settled_of : Stock → Settled
settled_of (One pool) = record { first = statement_of pool; second = None }
settled_of (Two twins) = record { first = first_statement twins; second = Some (second_statement twins) }

-- ---- what names stand for

-- for each worker and name the packet or the foreign clone that it stands for
abbrev pub Stands : Type 0
Stands = ℕ → List ℕ → Option Stand

-- no name stands for anything
abbrev pub none_stands : Stands
none_stands worker name = None

-- pools, and what each worker's name stands for
pub record Run : Type 0 where
  pub stock : Stock
  pub stands : Stands

-- before the first command: new pools, and no name stands for anything
abbrev pub new_run : Pools → Run
new_run pools = record { stock = new_stock pools; stands = none_stands }

-- a worker's name stands for this now, and each other name for what it stood for
abbrev pub named : ℕ → List ℕ → Option Stand → Stands → Stands
named worker name stand stands other_worker other_name =
    if other_worker == worker && bytes_eq other_name name then stand else stands other_worker other_name

-- names one after another stand for new packets
abbrev pub all_named : ℕ → List (List ℕ) → List NewPacket → Stands → Stands
all_named worker [] packets stands = stands
all_named worker (name ∷ names) [] stands = stands
all_named worker (name ∷ names) (packet ∷ packets) stands =
    all_named worker names packets (named worker name (Some (Packet packet.slot)) stands)

-- an alloc that succeeds gives its name the new packet
abbrev pub stands_after_alloc : ℕ → List ℕ → Reply → Stands → Stands
stands_after_alloc worker name (Allocated slot elem) stands = named worker name (Some (Packet slot)) stands
stands_after_alloc worker name _ stands = stands

-- a bulk that succeeds gives its names the new packets
abbrev pub stands_after_bulk : ℕ → List (List ℕ) → Reply → Stands → Stands
stands_after_bulk worker names (WasBulk packets) stands = all_named worker names packets.items stands
stands_after_bulk worker names _ stands = stands

-- and a free that succeeds takes its name away
abbrev pub stands_after_free : ℕ → List ℕ → Reply → Stands → Stands
stands_after_free worker name (WasFreed freed) stands = named worker name None stands
stands_after_free worker name _ stands = stands

-- a chain that succeeds takes the second packet's name away
abbrev pub stands_after_chain : ℕ → List ℕ → Reply → Stands → Stands
stands_after_chain worker name (Chained segs len) stands = named worker name None stands
stands_after_chain worker name _ stands = stands

-- a clone that succeeds gives its name the clone, which is a packet or a foreign clone
abbrev pub stands_after_clone : (ℕ → Stand) → ℕ → List ℕ → Reply → Stands → Stands
stands_after_clone made worker name (Cloned slot elems) stands = named worker name (Some (made slot)) stands
stands_after_clone made worker name _ stands = stands

-- an offer that succeeds takes its name away
abbrev pub stands_after_offer : ℕ → List ℕ → Reply → Stands → Stands
stands_after_offer worker name Offered stands = named worker name None stands
stands_after_offer worker name _ stands = stands

-- and a take that succeeds gives its name the packet
abbrev pub stands_after_take : ℕ → List ℕ → Reply → Stands → Stands
stands_after_take worker name (Taken slot segs len) stands = named worker name (Some (Packet slot)) stands
stands_after_take worker name _ stands = stands

-- what each name stands for once a worker's command has this reply; the other commands leave each
-- as it stands
abbrev pub stands_after : ℕ → Command → Reply → Stands → Stands
stands_after worker (command.Alloc name) reply stands = stands_after_alloc worker name reply stands
stands_after worker (command.Bulk names) reply stands = stands_after_bulk worker names reply stands
stands_after worker (command.Free name) reply stands = stands_after_free worker name reply stands
stands_after worker (command.Chain head tail) reply stands = stands_after_chain worker tail reply stands
stands_after worker (command.Clone name made) reply stands = stands_after_clone Packet worker made reply stands
stands_after worker (command.CloneTo name made) reply stands = stands_after_clone Clone worker made reply stands
stands_after worker (command.Offer name desk) reply stands = stands_after_offer worker name reply stands
stands_after worker (command.Take desk name) reply stands = stands_after_take worker name reply stands
stands_after worker _ reply stands = stands

-- ---- what a command asks for

-- the slot of the packet that a name stands for; a foreign clone isn't served
abbrev pub packet_of : Option Stand → Result ℕ Refusal
packet_of None = Err NoSuchPacket
packet_of (Some (Packet slot)) = Ok slot
packet_of (Some (Clone slot)) = Err Foreign

-- those of two packets; that both names stand for something is looked for first
abbrev pub both_of : Option Stand → Option Stand → Result (ℕ × ℕ) Refusal
both_of None other = Err NoSuchPacket
both_of (Some one) None = Err NoSuchPacket
both_of (Some (Packet slot)) (Some (Packet other)) = Ok (slot, other)
both_of (Some (Packet slot)) (Some (Clone other)) = Err Foreign
both_of (Some (Clone slot)) (Some other) = Err Foreign

-- an act on a packet, or on two
abbrev pub act_on : Result ℕ Refusal → (ℕ → TwinAct) → Result TwinAct Refusal
act_on (Ok slot) act = Ok (act slot)
act_on (Err cause) act = Err cause

abbrev pub act_on_both : Result (ℕ × ℕ) Refusal → (ℕ → ℕ → Act) → Result TwinAct Refusal
act_on_both (Ok slots) act = Ok (OnFirst (act slots.0 slots.1))
act_on_both (Err cause) act = Err cause

-- a packet or a foreign clone is freed
abbrev pub free_of : Option Stand → Result TwinAct Refusal
free_of None = Err NoSuchPacket
free_of (Some (Packet slot)) = Ok (OnFirst (Free slot))
free_of (Some (Clone slot)) = Ok (FreeClone slot)

-- or its count is told
abbrev pub count_of : Option Stand → Result TwinAct Refusal
count_of None = Err NoSuchPacket
count_of (Some (Packet slot)) = Ok (OnFirst (CountOf slot))
count_of (Some (Clone slot)) = Ok (CountClone slot)

-- a change of a packet's lengths
abbrev pub resize_packet : ℕ → Change → Act
resize_packet slot (change.Append n) = Append slot n
resize_packet slot (change.Prepend n) = Prepend slot n
resize_packet slot (change.Adj n) = Adj slot n
resize_packet slot (change.Trim n) = Trim slot n

-- of a foreign clone's: nothing is put before its data or behind it
abbrev pub resize_clone : ℕ → Change → Result TwinAct Refusal
resize_clone slot (change.Append n) = Err Foreign
resize_clone slot (change.Prepend n) = Err Foreign
resize_clone slot (change.Adj n) = Ok (AdjClone slot n)
resize_clone slot (change.Trim n) = Ok (TrimClone slot n)

-- of what a name stands for
abbrev pub resize_of : Option Stand → Change → Result TwinAct Refusal
resize_of None change = Err NoSuchPacket
resize_of (Some (Packet slot)) change = Ok (OnFirst (resize_packet slot change))
resize_of (Some (Clone slot)) change = resize_clone slot change

-- what a command asks for, by what its worker's names stand for, or why it is refused before that
abbrev pub asked : (List ℕ → Option Stand) → Command → Result TwinAct Refusal
asked stand_of (command.Alloc name) = Ok (OnFirst Alloc)
asked stand_of (command.Bulk names) = Ok (OnFirst (AllocBulk (length names)))
asked stand_of (command.Free name) = free_of (stand_of name)
asked stand_of (command.Resize name change) = resize_of (stand_of name) change
asked stand_of (command.Chain head tail) = act_on_both (both_of (stand_of head) (stand_of tail)) Chain
asked stand_of (command.Attach name target) = act_on_both (both_of (stand_of name) (stand_of target)) Attach
asked stand_of (command.Detach name) = act_on (packet_of (stand_of name)) (λ slot. OnFirst (Detach slot))
asked stand_of (command.Clone name made) = act_on (packet_of (stand_of name)) (λ slot. OnFirst (ClonePacket slot))
asked stand_of (command.CloneTo name made) = act_on (packet_of (stand_of name)) CloneInto
asked stand_of (command.Count name) = count_of (stand_of name)
asked stand_of (command.Offer name desk) = act_on (packet_of (stand_of name)) (λ slot. OnFirst (Offer slot desk))
asked stand_of (command.Take desk name) = Ok (OnFirst (Take desk))
asked stand_of command.Flush = Ok (OnFirst Flush)

-- an answer with this room can tell of the command
abbrev pub CommandHasRoom : ℕ → Command → Type 0
CommandHasRoom room (command.Bulk names) = HasRoom room (AllocBulk (length names))
CommandHasRoom room _ = Unit {0}

-- ---- line by line

-- a worker's act, and what each name stands for by its reply; a command that is refused before
-- that changes nothing
abbrev pub done_for : Result TwinAct Refusal → ℕ → Command → Run → Reply × Run
done_for (Err cause) worker command run = (Refused cause, run)
done_for (Ok act) worker command run =
    let done = perform_on run.stock worker act in
    (done.0, record { stock = done.1; stands = stands_after worker command done.0 run.stands })

-- the reply to a worker's command, and what is left
abbrev pub played : ℕ → Command → Run → Reply × Run
played worker command run = done_for (asked (run.stands worker) command) worker command run

-- the reply to each line, with its number
abbrev pub replies_to : List Line → Run → List (ℕ × Reply)
replies_to [] run = []
replies_to (line ∷ lines) run = let done = played line.worker line.command run in (line.number, done.0) ∷ replies_to lines done.1

-- what is left after all lines
abbrev pub end_of : List Line → Run → Run
end_of [] run = run
end_of (line ∷ lines) run = end_of lines (played line.worker line.command run).1
