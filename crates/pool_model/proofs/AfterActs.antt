-- A pool after acts, one after another.
use Rattle.std.proofs.Common.{ℕ, ◌≡◌, List, [], ◌∷◌, ◌++◌, refl}
use Rattle.mbuf.specs.declared.acts.Act.{Act}
use Rattle.pool_model.specs.Pool.{Pool}
use Rattle.pool_model.specs.PacketModel.{perform, after_acts}

-- what each act of a worker keeps of a pool, any acts keep
pub after_acts-keeps : (P : Pool → Type 0) →
    ((pool : Pool) (w : ℕ) (act : Act) → P pool → P (perform pool w act).1) →
    (acts : List (ℕ × Act)) (pool : Pool) → P pool → P (after_acts acts pool)
after_acts-keeps P kept [] pool p = p
after_acts-keeps P kept (done ∷ more) pool p =
    after_acts-keeps P kept more (perform pool done.0 done.1).1 (kept pool done.0 done.1 p)

-- a pool after one act more is what that act makes of the pool before it
pub after_one_more : (acts : List (ℕ × Act)) (pool : Pool) (w : ℕ) (act : Act) →
    after_acts (acts ++ (w, act) ∷ []) pool ≡ (perform (after_acts acts pool) w act).1
after_one_more [] pool w act = refl
after_one_more (done ∷ more) pool w act = after_one_more more (perform pool done.0 done.1).1 w act
