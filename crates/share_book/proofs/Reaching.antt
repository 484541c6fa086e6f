-- A pool that acts reach from a new one: new, after one act more, and what is known of it.
use Rattle.std.proofs.Common.{ℕ, ◌≡◌, ◌≢◌, refl, List, [], ◌∷◌, ◌++◌, sym, subst, ap, ◌∙◌, arith}
use Rattle.commons.specs.declared.limits.Limits.{Limits}
use Rattle.commons.specs.Lists.{Lists, opening}
use Rattle.commons.proofs.Bags.{bag-nil}
use Rattle.commons.specs.declared.refusal.Refusal.{Refusal}
use Rattle.mbuf.specs.declared.acts.Act.{Act}
use Rattle.mbuf.specs.declared.acts.Act.TheVariants.{ClonePacket}
use Rattle.mbuf.specs.declared.acts.Answer.TheVariants.{Refused}
use Rattle.mbuf.specs.Acts.{Reply}
use Rattle.mbuf.specs.Fresh.{AreFresh, new_elements}
use Rattle.mbuf.specs.Members.{Member}
use Rattle.mbuf.specs.Refused.{IfRefused}
use Rattle.pool_model.specs.Pool.{Pool, held_of, new_pool, new_members}
use Rattle.pool_model.specs.PacketModel.{after_acts, perform}
use Rattle.pool_model.specs.Standing.{GaveOnly, IsGivenUp, PoolAsBefore}
use Rattle.pool_model.proofs.AfterActs.{after_one_more}
use Rattle.pool_model.proofs.Numbered.{IsNumbered, acts-numbered}
use Rattle.share_book.specs.inside.SitePool.{IsReached, pool_with}

-- a new pool is reached by no act
pub new_is_reached : (l : Limits) (s : Lists) (members : List Member) → s ≡ opening l →
    members ≡ new_members l 1 l.workers → IsReached (pool_with s members)
new_is_reached l s members e f =
    let new : pool_with s members ≡ new_pool s.limits =
    subst (λ (t : Lists). pool_with t members ≡ new_pool t.limits) (sym e)
    (ap (λ (m : List Member). pool_with (opening l) m) f) in
    ([], new)

-- one act more leaves a pool that is reached
pub reached_further : (pool after : Pool) (w : ℕ) (act : Act) → IsReached pool →
    after ≡ (perform pool w act).1 → after.limits ≡ pool.limits → IsReached after
reached_further pool after w act r e same = (
  r.0 ++ (w, act) ∷ [],
  e ∙ ap (λ (p : Pool). (perform p w act).1) r.1
      ∙ sym (after_one_more r.0 (new_pool pool.limits) w act)
      ∙ ap (λ (l : Limits). after_acts (r.0 ++ (w, act) ∷ []) (new_pool l)) (sym same),
)

-- its workers are numbered
pub reached_numbered : (pool : Pool) → IsReached pool → IsNumbered pool.limits pool
reached_numbered pool r = subst (IsNumbered pool.limits) (sym r.1) (acts-numbered pool.limits r.0)

-- and what holds after any acts holds of it
pub of_reached : (P : Pool → Type 0) (pool : Pool) → IsReached pool →
    ((acts : List (ℕ × Act)) → P (after_acts acts (new_pool pool.limits))) → P pool
of_reached P pool r law = subst P (sym r.1) (law r.0)

-- no element is fresh
pub none_fresh : (population : ℕ) (held : ℕ → ℕ) → AreFresh population held []
none_fresh population held = record {
  below = λ i some. absurd (omega (arith, some, bag-nil i));
  once = λ i. omega (arith, bag-nil i);
  unheld = λ i some. absurd (omega (arith, some, bag-nil i));
}

-- and nothing was given, where the pool is as before
pub gave_nothing : (pool : Pool) → GaveOnly [] pool pool
gave_nothing pool = record { stands = λ i. omega (arith, bag-nil i); no_others = λ i. omega arith }

-- what a worker of such a pool is told of as new is fresh, by the law of any acts
pub fresh_reached : (pool : Pool) (w : ℕ) (act : Act) (done : Reply × Pool) → IsReached pool →
    done ≡ perform pool w act →
    ((l : Limits) (acts : List (ℕ × Act)) (worker : ℕ) (act : Act) → let pool =
    after_acts acts (new_pool l) in AreFresh pool.limits.population
    (held_of pool.members pool.shared.desks) (new_elements (perform pool worker act).0)) →
    AreFresh pool.limits.population (held_of pool.members pool.shared.desks) (new_elements done.0)
fresh_reached pool w act done r e law =
    subst (λ (d : Reply × Pool). AreFresh pool.limits.population
    (held_of pool.members pool.shared.desks) (new_elements d.0)) (sym e)
    (of_reached (λ (p : Pool). AreFresh p.limits.population (held_of p.members p.shared.desks)
    (new_elements (perform p w act).0)) pool r (λ acts. law pool.limits acts w act))

-- ---- a refused act

-- nothing has changed
nothing_given_up : (worker : ℕ) (pool : Pool) → IsGivenUp worker pool pool
nothing_given_up worker pool = record {
  limits = refl;
  workers = refl;
  packets = refl;
  others = λ n e. refl;
  desks = refl;
  free = λ i. refl;
  changes = omega arith;
}

-- what a refused act leaves is told in one way of a clone and in another of all other acts
by_act : (act : Act) (worker : ℕ) (before after : Pool) →
    (((source : ℕ) → act ≢ ClonePacket source) → after ≡ before) →
    ((source : ℕ) → act ≡ ClonePacket source → IsGivenUp worker before after) →
    PoolAsBefore worker act before after
by_act (ClonePacket source) worker before after same clone = clone source refl
by_act _ worker before after same clone = same (λ source e. absurd cc)

pub unchanged : (worker : ℕ) (act : Act) (pool : Pool) → PoolAsBefore worker act pool pool
unchanged worker act pool = by_act act worker pool pool (λ other. refl) (λ source e. nothing_given_up worker pool)

-- what is asked of a refused reply alone holds of each other one
if_refused : (reply : Reply) (A : Type 0) → ((cause : Refusal) → reply ≡ Refused cause → A) → IfRefused reply A
if_refused (Refused cause) A so = so cause refl
if_refused _ A so = tt

-- what a refused act leaves of such a pool, by the laws of any pool and of any acts
pub refused_reached : (pool : Pool) (w : ℕ) (act : Act) (done : Reply × Pool) → IsReached pool →
    done ≡ perform pool w act →
    ((pool : Pool) (worker : ℕ) (act : Act) (cause : Refusal) →
    ((source : ℕ) → act ≢ ClonePacket source) → (perform pool worker act).0 ≡ Refused cause →
    (perform pool worker act).1 ≡ pool) →
    ((l : Limits) (acts : List (ℕ × Act)) (worker source : ℕ) (cause : Refusal) → let pool =
    after_acts acts (new_pool l) in
    (perform pool worker (ClonePacket source)).0 ≡ Refused cause →
    IsGivenUp worker pool (perform pool worker (ClonePacket source)).1) →
    IfRefused done.0 (PoolAsBefore w act pool done.1)
refused_reached pool w act done r e same clone =
    let given_up : (source : ℕ) (cause : Refusal) →
    (perform pool w (ClonePacket source)).0 ≡ Refused cause →
    IsGivenUp w pool (perform pool w (ClonePacket source)).1 =
    λ source cause.
    of_reached (λ (p : Pool). (perform p w (ClonePacket source)).0 ≡ Refused cause →
    IsGivenUp w p (perform p w (ClonePacket source)).1) pool r
    (λ acts. clone pool.limits acts w source cause) in
    subst (λ (d : Reply × Pool). IfRefused d.0 (PoolAsBefore w act pool d.1)) (sym e)
    (if_refused (perform pool w act).0 (PoolAsBefore w act pool (perform pool w act).1) (λ cause
    told. by_act act w pool (perform pool w act).1
    (λ other. same pool w act cause other told)
    (λ source is.
    subst (λ (a : Act). IsGivenUp w pool (perform pool w a).1) (sym is)
    (given_up source cause
    (subst (λ (a : Act). (perform pool w a).0 ≡ Refused cause) is told)))))
