-- What runs of two pools come to.
use Rattle.std.proofs.Common.{ℕ, ◌≡◌, ◌++◌, List, take, drop, length, sym, ap, ◌∙◌, subst}
use Rattle.std.proofs.lemmas.List.{length-map, take_at}
use Rattle.std.proofs.lemmas.List.FromFn.{length-range_with_len}
use Rattle.commons.specs.declared.limits.Limits.{Limits}
use Rattle.ground.specs.Seats.{Grounded}
use Rattle.mbuf.specs.Members.{Member}
use Rattle.mbuf.specs.Twins.{TwinMember}
use Rattle.book.specs.Left.{first_of, second_of}
use Rattle.snapshot.specs.Snapshots.{statement_in}
use Rattle.share_book.specs.Locked.{AreTwinsLeftBy}
use Rattle.book.specs.declared.closed_twin.ClosedTwin.{ClosedTwin}
use Rattle.twin_acts.specs.declared.acts.TwinAct.{TwinAct}
use Rattle.word_pool.specs.TwinWorkers.{AllTwinsStay, AreTwinWorkers, TwinState, firsts_of, twins_of}
use Rattle.script.specs.Running.{EndByActs}

-- both statements are those of the pools that acts made of new ones
pub end_by_acts : (l k : Limits) (c : ClosedTwin) → c.first_limits ≡ l → c.second_limits ≡ k →
    (acts : List (ℕ × TwinAct)) × AreTwinsLeftBy acts c.first_limits c.second_limits c.first c.second c.shares.items →
    EndByActs l k (statement_in (first_of c.first_limits c.first c.shares.items))
    (statement_in (second_of c.second_limits c.second c.shares.items))
end_by_acts l k c first second reached =
    let s = statement_in (first_of c.first_limits c.first c.shares.items) in
    let t = statement_in (second_of c.second_limits c.second c.shares.items) in
    let ends : EndByActs c.first_limits c.second_limits s t = record {
      acts = reached.0;
      first = reached.1.first;
      second = reached.1.second;
    } in
    subst (λ (x : Limits). EndByActs l x s t) second (subst (λ (x : Limits). EndByActs x c.second_limits s t) first ends)

-- the workers of two grounds are as many as these have
pub twins_len : (g h : Grounded) (ms : List TwinState) → AreTwinWorkers g h ms → length ms ≡ g.limits.workers
twins_len g h ms all =
    sym (length-map ms (λ (m : TwinState). m.member))
    ∙ sym (length-map (twins_of ms) (λ (t : TwinMember). t.first))
    ∙ sym (length-map (firsts_of ms) (λ (m : Member). m.number))
    ∙ ap (λ (ns : List ℕ). length ns) all.first_numbers
    ∙ length-range_with_len 1 g.limits.workers

-- what is written back of a slice of them all, each of whom stayed, are all workers again
pub twins_after : (g h : Grounded) (items lent new : List TwinState) (len : ℕ) →
    (AreTwinWorkers g h lent → AllTwinsStay lent new → AreTwinWorkers g h new) → lent ≡ items → length lent ≡ len →
    AreTwinWorkers g h items → AllTwinsStay lent new →
    AreTwinWorkers g h (take len (new ++ drop (length new) items))
twins_after g h items lent new len law same long all stay =
    subst (AreTwinWorkers g h)
    (sym (take_at new (drop (length new) items) len (stay.as_many ∙ long)))
    (law (subst (AreTwinWorkers g h) (sym same) all) stay)
