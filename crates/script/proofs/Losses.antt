-- What is lost with a worker at the end of a run.
use Rattle.std.proofs.Common.{ℕ, ◌≡◌, ◌<◌, List, [], ◌∷◌, Option, get_or, ap, subst}
use Rattle.std.specs.Prelude.{Contains}
use Rattle.std.proofs.lemmas.List.Elements.{Contains-get_or}
use Rattle.book.specs.Lost.{AreLostWith}
use Rattle.commons.specs.declared.closed.Closed.{Closed}
use Rattle.commons.specs.declared.limits.Limits.{Limits}
use Rattle.commons.specs.declared.packet.Seg.{Seg}
use Rattle.ground.specs.Seats.{Grounded}
use Rattle.mbuf.specs.declared.acts.Act.{Act}
use Rattle.mbuf.specs.Members.{Member}
use Rattle.pool_model.specs.PacketModel.{after_acts}
use Rattle.pool_model.specs.Pool.{new_pool}
use Rattle.script.specs.Losing.{AreOfPool, LosesByActs, LosesOnWords}
use Rattle.share_book.specs.Locked.{AreLeftBy}
use Rattle.snapshot.specs.Lost.{IsAscending}
use Rattle.word_pool.specs.Lost.{AreLostOf, left_of}
use Rattle.word_pool.specs.Workers.{WorkerState, AreWorkers}

-- where each element that is listed is below the population, all are
of_pool : (l : Limits) (elems : List ℕ) → IsAscending elems → ((e : ℕ) → Contains elems e → e < l.population) →
    AreOfPool l elems
of_pool l elems ascending below = record {
  ascending = ascending;
  below = λ k d within. below (get_or elems k d) (Contains-get_or elems k d within);
}

-- what is lost on words is of the pool
pub of_pool_on_words : (l : Limits) (g : Grounded) (listed : List ℕ) (ms : List WorkerState) (elems : List ℕ) → g.limits ≡ l →
    AreLostOf g listed ms elems → AreOfPool l elems
of_pool_on_words l g listed ms elems limits are =
    subst (λ (k : Limits). AreOfPool k elems) limits
    (of_pool g.limits elems are.lost.ascending (λ e there. ((are.lost.exactly e).0 there).0))

-- and is lost at the end of a run on words
pub loses_on_words : (l : Limits) (g : Grounded) (old new : List WorkerState) (w : ℕ) (elems : List ℕ) → g.limits ≡ l →
    AreWorkers g old → new ≡ left_of w old → AreLostOf g (w ∷ []) new elems → LosesOnWords l w elems
loses_on_words l g old new w elems limits all left are = record {
  shared = g;
  workers = old;
  limits = limits;
  all = all;
  lost = subst (λ (ms : List WorkerState). AreLostOf g (w ∷ []) ms elems) left are;
}

-- what is lost under the lock is of the pool
pub of_pool_locked : (l limits : Limits) (listed : List ℕ) (members : List Member) (desks : List (Option (List Seg)))
    (elems : List ℕ) → limits ≡ l → AreLostWith limits listed members desks elems → AreOfPool l elems
of_pool_locked l limits listed members desks elems same are =
    subst (λ (k : Limits). AreOfPool k elems) same
    (of_pool limits elems are.ascending (λ e there. ((are.exactly e).0 there).0))

-- and is lost after some acts
pub loses_by_acts : (l limits : Limits) (closed : Closed) (shares : List Member) (w : ℕ) (elems : List ℕ) → limits ≡ l →
    (acts : List (ℕ × Act)) × AreLeftBy acts limits closed shares →
    AreLostWith limits (w ∷ []) shares closed.desks elems → LosesByActs l w elems
loses_by_acts l limits closed shares w elems same reached are =
    let left = reached.1 in
    let pool = after_acts reached.0 (new_pool limits) in
    let desks : closed.desks ≡ pool.shared.desks = ap (λ (c : Closed). c.desks) left.closed in
    subst (λ (k : Limits). LosesByActs k w elems) same (
      reached.0,
      subst (λ (ds : List (Option (List Seg))). AreLostWith limits (w ∷ []) pool.members ds elems) desks
          (subst (λ (ms : List Member). AreLostWith limits (w ∷ []) ms closed.desks elems) left.shares are),
    )
