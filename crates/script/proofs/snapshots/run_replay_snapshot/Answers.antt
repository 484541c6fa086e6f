-- Where the bytes are a script, it is the one that was read, so the same is printed.
use Rattle.std.proofs.Common.{◌≡◌, ℕ, List, Result, Ok, Err, IfOk, IfErr, Vec, subst}
use Rattle.std.specs.Prelude.{MatchResult}
use Rattle.std.specs.declared.alloc.Global.{Global}
use Rattle.commons.specs.declared.refusal.Refusal.{Refusal}
use Rattle.commons.specs.declared.refusal.Refusal.TheVariants.{OutOfMemory}
use Rattle.script_text.specs.declared.lines.Pools.{Pools}
use Rattle.script_text.specs.Commands.{Line}
use Rattle.script.specs.Snapshots.{IsTextOfEnd}
use Rattle.script.proofs.snapshots.run_replay_snapshot.Goals as goal

-- it is said of the same script by another name
either_end : (r : Result (Vec ℕ Global) Refusal) (p q : Pools) (ls ms : List Line) → p ≡ q → ls ≡ ms →
    IfOk r (λ out. IsTextOfEnd p ls out.items) → IfErr r (λ e. e ≡ OutOfMemory) →
    MatchResult r (λ out. IsTextOfEnd q ms out.items) (λ e. e ≡ OutOfMemory)
either_end (Ok out) p q ls ms same lines ok err =
    subst (λ (x : List Line). IsTextOfEnd q x out.items) lines
    (subst (λ (x : Pools). IsTextOfEnd x ls out.items) same ok)
either_end (Err cause) p q ls ms same lines ok err = err

pub returns-in-Ok-clause-only : goal.returns-in-Ok-clause-only
returns-in-Ok-clause-only c = λ pools lines is.
    let same = c.in-Ok.ensures.only pools lines is in
    either_end c.replayed.result c.in-Ok.script.pools pools c.in-Ok.script.lines lines same.0 same.1
    c.replayed.ensures.text c.replayed.ensures.memory
