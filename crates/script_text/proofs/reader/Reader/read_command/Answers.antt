use Rattle.std.specs.Prelude.{option_and_then, ◌&&◌, ◌||◌, ◌==◌}
use Rattle.std.proofs.lemmas.Bool.{cond-true, cond-false, lt-ltb, not-false}
use Rattle.std.proofs.Common.{◌≡◌, ltb, length, None, arith, refl, ap, ◌∙◌, sym, subst, [], ◌∷◌, ◌++◌, Option, Some, Ok, Bool}
use Rattle.script_text.specs.declared.lines.Pools.{Pools}
use Rattle.script_text.specs.declared.lines.Line.{Line}
use Rattle.script_text.specs.PoolLine.{numbers_of_pools}
use Rattle.script_text.specs.Scripts.{with_command}
use Rattle.script_text.specs.inside.Reading.{words_of}
use Rattle.script_text.specs.inside.ScriptReading.{repeats, is_one_of, is_made, worker_command_from, add_command, add_made, lacks_second}
use Rattle.script_text.specs.inside.Agreement.{state_of, has_made, AreMade, AreWithin}
use Rattle.script_text.proofs.PoolLemmas.{pools_of_limits}
use Rattle.script_text.proofs.KeptLemmas.{workers-push, made-push}
use Rattle.script_text.proofs.NameRuns.{not_so}
use Rattle.script_text.proofs.MakingLemmas.{repeats-alike}
use Rattle.script_text.proofs.WorkerCommandLemmas.{worker_command_among}
use Rattle.script_text.proofs.reader.Reader.read_command.Goals as goal

-- pools that are told are a pool's, which has a number of workers in range
pub worker_command-requires : goal.worker_command-requires
worker_command-requires g c =
    let pools = pools_of_limits c.args.pools.now (rw c.requires.told at c.requires.kept.ready) in
    pools.first.workers

pub claim-requires : goal.claim-requires
claim-requires g c = let named = rw c.in-Some.is at c.in_ok-worker.ensures.named in rw c.names_made.ensures named

-- a name was made before, or stands twice
pub returns-then-not-branch-clause-read : goal.returns-then-not-branch-clause-read
returns-then-not-branch-clause-read g c =
    let lexicon = g.C.FromWords.lexicon in
    let state = state_of c.args.self.now in
    let pools = c.args.pools.now in
    let numbers = numbers_of_pools pools in
    let workers = pools.first.workers in
    let words = words_of c.args.line.now in
    let worker = c.in-Some.worker in
    let command = c.in-Some.command in
    let names = lexicon.language.names_made command in
    let lines = c.args.self.now.lines.items in
    let first = rw c.names_made.ensures at c.in_ok-claim.ensures.first in
    let before = sym (repeats-alike names (has_made c.args.self.now.made)
    (is_made lexicon lines) worker c.requires.kept.made)
    ∙ not-false (repeats (has_made c.args.self.now.made) worker names) (sym first ∙ c.if-not-branch.true) in
    cond-true (ltb (length lines) 10000) (option_and_then (add_command lexicon numbers state c.args.number)
    (worker_command_from lexicon workers words)) None
    (lt-ltb (length lines) 10000 (omega (arith, c.len.ensures, c.if-len-ge-MAX_COMMANDS.false)))
    ∙ ap (option_and_then (add_command lexicon numbers state c.args.number))
    (sym c.in_ok-worker.ensures.read ∙ c.in-Some.is)
    ∙ cond-false (lacks_second lexicon numbers command) None (add_made lexicon state c.args.number (worker, command))
    (sym c.lacks_second.ensures ∙ c.if-lacks_second.false)
    ∙ cond-true (repeats (is_made lexicon lines) worker names) None (Some (with_command state c.args.number worker command)) before

-- not one line too many, a command of a worker of the pool, and its names made anew:
-- the line is added as the grammar has it.
pub returns-clause-read : goal.returns-clause-read
returns-clause-read g c =
    let lexicon = g.C.FromWords.lexicon in
    let state = state_of c.args.self.now in
    let pools = c.args.pools.now in
    let numbers = numbers_of_pools pools in
    let workers = pools.first.workers in
    let words = words_of c.args.line.now in
    let worker = c.in-Some.worker in
    let command = c.in-Some.command in
    let names = lexicon.language.names_made command in
    let lines = c.args.self.now.lines.items in
    let line : Line _ = record { number = c.args.number; worker = worker; command = command } in
    let items : c.push.new.self.items ≡ lines ++ line ∷ [] = c.in_ok-push.ensures.items in
    let first = sym c.in_ok-claim.ensures.first ∙ c.if-not-branch.false in
    let anew = sym (repeats-alike names (has_made c.args.self.now.made)
    (is_made lexicon lines) worker c.requires.kept.made)
    ∙ not_so (repeats (has_made c.args.self.now.made) worker names) (rw c.names_made.ensures at first) in
    cond-true (ltb (length lines) 10000)
    (option_and_then (add_command lexicon numbers state c.args.number) (worker_command_from lexicon workers words)) None
    (lt-ltb (length lines) 10000 (omega (arith, c.len.ensures, c.if-len-ge-MAX_COMMANDS.false)))
    ∙ ap (option_and_then (add_command lexicon numbers state c.args.number))
    (sym c.in_ok-worker.ensures.read ∙ c.in-Some.is)
    ∙ cond-false (lacks_second lexicon numbers command) None (add_made lexicon state c.args.number (worker, command))
    (sym c.lacks_second.ensures ∙ c.if-lacks_second.false)
    ∙ cond-false (repeats (is_made lexicon lines) worker names) None
    (Some (with_command state c.args.number worker command)) anew
    ∙ rw items refl

-- the pools stay, the line's worker is of the pool, and the names noted are those that lines make
pub returns-clause-kept : goal.returns-clause-kept
returns-clause-kept g c =
    let lexicon = g.C.FromWords.lexicon in
    let pools = c.args.pools.now in
    let worker = c.in-Some.worker in
    let command = c.in-Some.command in
    let line : Line _ = record { number = c.args.number; worker = worker; command = command } in
    let lines = c.args.self.now.lines.items in
    let pool = pools_of_limits pools (rw c.requires.told at c.requires.kept.ready) in
    let among =
    worker_command_among lexicon pools.first.workers (words_of c.args.line.now) (worker, command)
    pool.first.workers_low (sym c.in_ok-worker.ensures.read ∙ c.in-Some.is) in
    let names = lexicon.language.names_made command in
    let made = rw c.names_made.ensures at c.in_ok-claim.ensures.made (ap Ok c.if-not-branch.false) in
    let items : c.push.new.self.items ≡ lines ++ line ∷ [] = c.in_ok-push.ensures.items in
    record {
      ready = c.requires.kept.ready;
      workers =
          subst (λ (o : Option Pools). AreWithin o c.push.new.self.items) (sym c.requires.told)
          (subst (AreWithin (Some pools)) (sym items) (workers-push pools.first.workers lines line
          among (rw c.requires.told at c.requires.kept.workers)));
      made =
          subst (AreMade lexicon c.claim.new.self) (sym items) (made-push lexicon c.claim.new.self lines
          line worker refl (λ other name. made other name
          ∙ ap (λ (b : Bool). (other == worker && is_one_of names name) || b)
          (c.requires.kept.made other name)));
    }
