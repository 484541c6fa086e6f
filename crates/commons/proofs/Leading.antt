-- Calls one after another: what leads on leads through.
use Rattle.std.proofs.Common.{◌≡◌, List, [], ◌∷◌, ◌++◌, refl, sym, ap, subst}
use Rattle.commons.specs.Calls.{Reading, Call, Made, Side, calls_of, Did, Leads}

-- the calls of two runs, one after the other, are those of the first and then the second
pub calls_of-append : (a b : List Made) → calls_of (a ++ b) ≡ calls_of a ++ calls_of b
calls_of-append [] b = refl
calls_of-append (m ∷ a) b = ap (λ (calls : List Call). m.call ∷ calls) (calls_of-append a b)

-- where one run of calls ends and another begins, both lead through from the first state
pub Leads-append : {S : Type 0} (did : S → Call → List Reading → S → Type 0) (side : S → Side)
    (a b : List Made) (s t u : S) →
    Leads did side s a t → Leads did side t b u → Leads did side s (a ++ b) u
Leads-append {S} did side [] b s t u h k = subst (λ (x : S). Leads did side x b u) (sym h) k
Leads-append {S} did side (m ∷ a) b s t u h k = (h.0, h.1, Leads-append did side a b h.0 t u h.2 k)

-- one call that was done
abbrev pub made_by : {S : Type 0} (did : S → Call → List Reading → S → Type 0) (side : S → Side)
    (s : S) (call : Call) (t : S) → Did did side s call t → Made
made_by did side s call t d = record { call = call; readings = d.readings }

-- a call that was done leads alone, with what it read, from the state before to that after
pub Leads-one : {S : Type 0} (did : S → Call → List Reading → S → Type 0) (side : S → Side) (s : S)
    (call : Call) (t : S) (d : Did did side s call t) →
    Leads did side s (made_by did side s call t d ∷ []) t
Leads-one did side s call t d = (t, d.step, refl)
