-- Workers of two pools who stay are all the workers that they were.
use Rattle.std.proofs.Common.{ℕ, suc, ◌≡◌, ◌<◌, List, [], ◌∷◌, length, map, refl, ◌∙◌, arith}
use Rattle.std.specs.Prelude.{slice_index_or}
use Rattle.ground.specs.Seats.{Grounded}
use Rattle.mbuf.specs.Members.{Member}
use Rattle.word_pool.specs.TwinWorkers.{TwinState, AllTwinsStay, AreTwinWorkers, IsTwinWorker, TwinStays, firsts_of, seconds_of}

-- a worker that stays is a worker of its grounds
stays_worker : (g h : Grounded) (m n : TwinState) → IsTwinWorker g h m → TwinStays m n → IsTwinWorker g h n
stays_worker g h m n worker stays = record {
  first = record { table = stays.first.table ∙ worker.first.table; limits = stays.first.limits ∙ worker.first.limits };
  second = record { table = stays.second.table ∙ worker.second.table; limits = stays.second.limits ∙ worker.second.limits };
  first_part = stays.first.part ∙ worker.first_part;
  second_part = stays.second.part ∙ worker.second_part;
}

abbrev first_numbers : List TwinState → List ℕ
first_numbers ms = map (λ (m : Member). m.number) (firsts_of ms)

abbrev second_numbers : List TwinState → List ℕ
second_numbers ms = map (λ (m : Member). m.number) (seconds_of ms)

-- and has its numbers
same_numbers : (ms ns : List TwinState) → length ns ≡ length ms →
    ((i : ℕ) (d : TwinState) → i < length ms → TwinStays (slice_index_or ms i d) (slice_index_or ns i d)) →
    (first_numbers ns ≡ first_numbers ms) × (second_numbers ns ≡ second_numbers ms)
same_numbers [] [] long stay = (refl, refl)
same_numbers [] (n ∷ ns) long stay = absurd (omega arith)
same_numbers (m ∷ ms) [] long stay = absurd (omega arith)
same_numbers (m ∷ ms) (n ∷ ns) long stay =
    let here = stay 0 m (omega arith) in
    let first : n.member.first.number ≡ m.member.first.number = here.member.first_number in
    let second : n.member.second.number ≡ m.member.second.number = here.member.second_number in
    let rest = same_numbers ms ns (omega arith) (λ i d b. stay (suc i) d (omega arith)) in
    (rw (first, rest.0) refl, rw (second, rest.1) refl)

pub twins_stay : (g h : Grounded) (old new : List TwinState) → AreTwinWorkers g h old → AllTwinsStay old new →
    AreTwinWorkers g h new
twins_stay g h old new workers stay =
    let numbers = same_numbers old new stay.as_many stay.each in record {
      pools = workers.pools;
      first_numbers = numbers.0 ∙ workers.first_numbers;
      second_numbers = numbers.1 ∙ workers.second_numbers;
      each = λ k d b. stays_worker g h (slice_index_or old k d) (slice_index_or new k d)
          (workers.each k d (omega (arith, stay.as_many))) (stay.each k d (omega (arith, stay.as_many)));
    }
