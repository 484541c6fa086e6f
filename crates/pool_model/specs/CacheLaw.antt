-- What joins the cache rules and the reference model: the stack's answers to the calls that the
-- rules make.
use Rattle.std.specs.Prelude.{◌≡◌, List, [], ◌∷◌}
use Rattle.commons.specs.Calls.{Call, GetList, PutList}
use Rattle.pool_model.specs.Pool.{Shared}
use Rattle.pool_model.specs.CacheModel.{ask, push}

-- the stack gives this call its answer, and is left like this
abbrev pub Answers : Shared → Call → Shared → Type 0
Answers s (GetList n answer) t = (answer, t) ≡ ask n s
Answers s (PutList list answer) t = (answer, t) ≡ push list s
Answers s _ t = ⊥

-- it answers these calls, one after another
abbrev pub Meets : Shared → List Call → Shared → Type 0
Meets s [] t = s ≡ t
Meets s (call ∷ calls) t = (next : Shared) × Answers s call next × Meets next calls t
