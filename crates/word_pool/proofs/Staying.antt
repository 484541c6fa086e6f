-- Workers who stay are all the workers that they were.
use Rattle.std.proofs.Common.{ℕ, suc, ◌≡◌, ◌<◌, List, [], ◌∷◌, length, map, refl, ◌∙◌, arith}
use Rattle.std.specs.Prelude.{slice_index_or}
use Rattle.ground.specs.Seats.{Grounded}
use Rattle.step_core.specs.World.{every_part}
use Rattle.mbuf.specs.Members.{Member}
use Rattle.word_pool.specs.Workers.{WorkerState, AllAreSame, AllStay, AreCrew, AreWorkers, IsAt, IsSameWorker, Stays, members_of, parts_of}
use Rattle.word_pool.proofs.Parts.{parts-cons}

-- a worker that stays is the same
pub stays_same : (m n : WorkerState) → Stays m n → IsSameWorker m n
stays_same m n stays = record { table = stays.table; limits = stays.limits; number = stays.number }

-- who is the same as one who is the same is the same
pub same_again : (m n o : WorkerState) → IsSameWorker m n → IsSameWorker n o → IsSameWorker m o
same_again m n o first second = record {
  table = second.table ∙ first.table;
  limits = second.limits ∙ first.limits;
  number = second.number ∙ first.number;
}

-- and at the same ground
same_at : (g : Grounded) (m n : WorkerState) → IsAt g m → IsSameWorker m n → IsAt g n
same_at g m n at same = record { table = same.table ∙ at.table; limits = same.limits ∙ at.limits }

abbrev numbers_of : List WorkerState → List ℕ
numbers_of ms = map (λ (m : Member). m.number) (members_of ms)

-- and has its number
same_numbers : (ms ns : List WorkerState) → length ns ≡ length ms →
    ((i : ℕ) (d : WorkerState) → i < length ms → IsSameWorker (slice_index_or ms i d) (slice_index_or ns i d)) →
    numbers_of ns ≡ numbers_of ms
same_numbers [] [] long stay = refl
same_numbers [] (n ∷ ns) long stay = absurd (omega arith)
same_numbers (m ∷ ms) [] long stay = absurd (omega arith)
same_numbers (m ∷ ms) (n ∷ ns) long stay =
    let first : n.member.number ≡ m.member.number = (stay 0 m (omega arith)).number in
    let rest : numbers_of ns ≡ numbers_of ms =
    same_numbers ms ns (omega arith) (λ i d b. stay (suc i) d (omega arith)) in
    rw (first, rest) refl

-- workers who are the same are all, as before, whatever part each has now
pub same_crew : (g : Grounded) (old new : List WorkerState) → AreCrew g old → AllAreSame old new → AreCrew g new
same_crew g old new crew same = record {
  numbers = same_numbers old new same.as_many same.each ∙ crew.numbers;
  each = λ k d b. same_at g (slice_index_or old k d) (slice_index_or new k d)
      (crew.each k d (omega (arith, same.as_many))) (same.each k d (omega (arith, same.as_many)));
}

-- who has every part together with the others is one of the crew
pub crew_of_workers : (g : Grounded) (ms : List WorkerState) → AreWorkers g ms → AreCrew g ms
crew_of_workers g ms workers = record { numbers = workers.numbers; each = workers.each }

-- and a crew that has every part are all workers
pub workers_of_crew : (g : Grounded) (ms : List WorkerState) → AreCrew g ms → parts_of ms ≡ every_part g.limits → AreWorkers g ms
workers_of_crew g ms crew parts = record { numbers = crew.numbers; each = crew.each; parts = parts }

-- workers who keep their parts have as much together
same_parts : (ms ns : List WorkerState) → length ns ≡ length ms →
    ((i : ℕ) (d : WorkerState) → i < length ms → Stays (slice_index_or ms i d) (slice_index_or ns i d)) →
    parts_of ns ≡ parts_of ms
same_parts [] [] long stay = refl
same_parts [] (n ∷ ns) long stay = absurd (omega arith)
same_parts (m ∷ ms) [] long stay = absurd (omega arith)
same_parts (m ∷ ms) (n ∷ ns) long stay =
    let first : n.seat.known.view.part ≡ m.seat.known.view.part = (stay 0 m (omega arith)).part in
    let rest : parts_of ns ≡ parts_of ms = same_parts ms ns (omega arith) (λ i d b. stay (suc i) d (omega arith)) in
    omega (arith, parts-cons m ms, parts-cons n ns, first, rest)

pub workers_stay : (g : Grounded) (old new : List WorkerState) → AreWorkers g old → AllStay old new → AreWorkers g new
workers_stay g old new workers stay =
    let same : AllAreSame old new = record {
      as_many = stay.as_many;
      each = λ i d b. stays_same (slice_index_or old i d) (slice_index_or new i d) (stay.each i d b);
    } in
    workers_of_crew g new (same_crew g old new (crew_of_workers g old workers) same)
    (same_parts old new stay.as_many stay.each ∙ workers.parts)
