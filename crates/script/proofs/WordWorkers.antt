-- The workers of a run on words: how many they are, and that they are all after it.
use Rattle.std.proofs.Common.{ℕ, ◌≡◌, ◌++◌, List, take, drop, length, sym, ap, ◌∙◌, subst}
use Rattle.std.proofs.lemmas.List.{length-map, take_at}
use Rattle.std.proofs.lemmas.List.FromFn.{length-range_with_len}
use Rattle.ground.specs.Seats.{Grounded}
use Rattle.mbuf.specs.Members.{Member}
use Rattle.word_pool.specs.Workers.{WorkerState, AllStay, AreWorkers, members_of}

-- they are numbered from 1 to the number that the pool has
pub crew_len : (g : Grounded) (ms : List WorkerState) → AreWorkers g ms → length ms ≡ g.limits.workers
crew_len g ms all =
    sym (length-map ms (λ (m : WorkerState). m.member))
    ∙ sym (length-map (members_of ms) (λ (m : Member). m.number))
    ∙ ap (λ (ns : List ℕ). length ns) all.numbers
    ∙ length-range_with_len 1 g.limits.workers

-- what is written back of a slice of them all, each of whom stayed, are all workers again
pub crew_after : (g : Grounded) (items lent new : List WorkerState) (len : ℕ) →
    (AreWorkers g lent → AllStay lent new → AreWorkers g new) → lent ≡ items → length lent ≡ len →
    AreWorkers g items → AllStay lent new → AreWorkers g (take len (new ++ drop (length new) items))
crew_after g items lent new len law same long all stay =
    subst (AreWorkers g)
    (sym (take_at new (drop (length new) items) len (stay.as_many ∙ long)))
    (law (subst (AreWorkers g) (sym same) all) stay)
