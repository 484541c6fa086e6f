-- A walk of links, one after another.
use Rattle.std.proofs.Common.{◌≡◌, ℕ, suc, ◌+◌, ◌<◌, ◌≤◌, List, [], ◌∷◌, ◌++◌, length, map, take, set, refl, sym, ap, ◌∙◌, subst, arith}
use Rattle.std.specs.Prelude.{Some, None, ◌&&◌, nat_lt, nat_le}
use Rattle.std.proofs.lemmas.Bool.{and_from, lt-ltb, le-leb}
use Rattle.commons.specs.Calls.{spent}
use Rattle.std.proofs.lemmas.List.{map-append, take_more_set, length-map}
use Rattle.step_core.specs.declared.view.Head.{Head}
use Rattle.step_core.specs.declared.step.Step.TheVariants.{LoadLink, LoadHead, Cut}
use Rattle.step_core.specs.declared.step.Outcome.{Outcome}
use Rattle.step_core.specs.declared.step.Outcome.TheVariants.{Value, HeadIs, Got}
use Rattle.ground.specs.Seats.{Seated, Note, after, Steps, front_of, KnowsEnd}
use Rattle.step_core.specs.Views.{view_after, MayCut}
use Rattle.stack_lf.specs.Effects.{start}
use Rattle.stack_lf.specs.Tries.{Popped, notes, Walk, IsWalk, elements, element_in, link_note}
use Rattle.stack_lf.specs.Effects.{cut_as, Walked, walking}
use Rattle.stack_lf.proofs.Composing.{more, one_more}
use Rattle.step_core.specs.World.{every_part}

-- a walk with one link more leads on to what that link leads to
pub walk-push : (v u i x : ℕ) (ps : Walk) → u ≡ suc i → IsWalk v ps u →
    IsWalk v (ps ++ (i, x) ∷ []) x
walk-push v u i x [] e h = (h ∙ e, refl)
walk-push v u i x (p ∷ ps) e h = (h.0, walk-push p.1 u i x ps e h.1)

-- one link more
pub walked-push : (h : Head) (ps : Walk) (next i x : ℕ) (s t u : Seated) → next ≡ suc i →
    Walked h ps next s t → Steps (LoadLink i) (Value x) t u → Walked h (ps ++ (i, x) ∷ []) x s u
walked-push h ps next i x s t u e w f = (
  walk-push h.top next i x ps e w.0,
  one_more s t u (map link_note ps) (walking s.known.view h ps next) (LoadLink i) (Value x) w.1 f
      ∙ ap (λ (z : List Note × List ℕ). after s z.0
      (record s.known.view { look = Some (record { head = h; front = z.1; next = x }) }))
      (λ j. (
        sym (map-append link_note ps ((i, x) ∷ [])) j,
        sym
            (map-append element_in ps ((i, x) ∷ [])) j,
      )),
)

-- the places so far, with one more
pub listed-push : (k i x : ℕ) (out : List ℕ) (ps : Walk) → k < length out →
    take k out ≡ elements ps → take (k + 1) (set out k i) ≡ elements (ps ++ (i, x) ∷ [])
listed-push k i x out ps less e = take_more_set out k i less
    ∙ (ap (λ l. l ++ i ∷ []) e ∙ sym (map-append element_in ps ((i, x) ∷ [])))

-- a head that was loaded, and links walked
pub walk_ended : (h : Head) (ps : Walk) (next : ℕ) (s t u : Seated) →
    Steps LoadHead (HeadIs h) s t → Walked h ps next t u
    → u ≡ after s ((LoadHead, HeadIs h) ∷ map link_note ps)
    (record s.known.view {
      look = Some (record { head = h; front = elements ps; next = next });
      seen = h.count;
    })
walk_ended h ps next s t u e w =
    more s t u ((LoadHead, HeadIs h) ∷ [])
    (record s.known.view { look = Some (start h); seen = h.count }) (map link_note ps)
    (λ v. record v { look = Some (record { head = h; front = elements ps; next = next }) }) e w.1

-- and the exchange of the head
pub cut_tried : (h : Head) (ps : Walk) (next : ℕ) (o : Outcome) (s t u w : Seated) →
    Steps LoadHead (HeadIs h) s t → Walked h ps next t u → Steps Cut o u w
    → w ≡ after s ((LoadHead, HeadIs h) ∷ (map link_note ps ++ (Cut, o) ∷ []))
    (view_after None Cut o (record s.known.view {
      look =
          Some (record { head = h; front = elements ps; next = next });
      seen = h.count;
    }))
cut_tried h ps next o s t u w e f d =
    one_more s u w ((LoadHead, HeadIs h) ∷ map link_note ps)
    (record s.known.view {
      look = Some (record { head = h; front = elements ps; next = next });
      seen = h.count;
    }) Cut o (walk_ended h ps next s t u e f) d

-- a try that won
pub cut_wins : (h : Head) (ps : Walk) (next : ℕ) (xs : List ℕ) (s t u w : Seated) →
    Steps LoadHead (HeadIs h) s t → Walked h ps next t u → xs ≡ elements ps →
    Steps Cut (Got (front_of u.known.view.look)) u w
    → w ≡ after s (notes (Popped h ps)) (cut_as xs s.known.view None (h.count + 1))
cut_wins h ps next xs s t u w e f same d =
    let front : front_of u.known.view.look ≡ elements ps =
    ap (λ (z : Seated). front_of z.known.view.look) f.1 in
    subst (λ (l : List ℕ). w ≡ after s (notes (Popped h ps))
    (cut_as l s.known.view None (h.count + 1))) (sym same)
    (cut_tried h ps next (Got (elements ps)) s t u w e f
    (subst (λ (l : List ℕ). Steps Cut (Got l) u w) front d))

-- a cut may be tried where a head was read whose count isn't spent, and as many links walked as
-- are reserved
pub may_cut : (h : Head) (ps : Walk) (next : ℕ) (s t u : Seated) → Steps LoadHead (HeadIs h) s t →
    Walked h ps next t u → 0 < length (elements ps) → length (elements ps) ≤ s.known.view.credit →
    h.count < spent → MayCut u.known.view h next
may_cut h ps next s t u e w some reserved less =
    subst (λ (z : Seated). MayCut z.known.view h next) (sym (walk_ended h ps next s t u e w)) (
      record { head = h; front = elements ps; next = next },
      refl,
      and_from (nat_lt 0 (length (elements ps)))
          (nat_le (length (elements ps)) s.known.view.credit && nat_lt h.count spent)
          (lt-ltb 0 (length (elements ps)) some)
          (and_from (nat_le (length (elements ps)) s.known.view.credit) (nat_lt h.count spent)
          (le-leb (length (elements ps)) s.known.view.credit reserved) (lt-ltb h.count spent less)),
      refl,
      refl,
    )

-- the only seat of a pool that has reserved n doesn't come to the end of the list before n links
pub goes_on : (h : Head) (ps : Walk) (next n : ℕ) (s t : Seated) → Walked h ps next s t →
    KnowsEnd t.known.limits t.known.view → s.known.view.part ≡ every_part s.known.limits →
    n ≤ s.known.view.credit → next ≡ 0 → length ps < n → ⊥
goes_on h ps next n s t w known whole reserved end less =
    let all = subst (λ (z : Seated). KnowsEnd z.known.limits z.known.view) w.1 known in
    let passed : s.known.view.credit ≤ length (elements ps) = all whole end in
    absurd (omega (arith, length-map ps element_in))

-- the part of a seat that has read a head and walked
pub walked_part : (h : Head) (ps : Walk) (next : ℕ) (s t u : Seated) →
    Steps LoadHead (HeadIs h) s t → Walked h ps next t u → u.known.view.part ≡ s.known.view.part
walked_part h ps next s t u e w = ap (λ (z : Seated). z.known.view.part)
    (walk_ended h ps next s t u e w)
