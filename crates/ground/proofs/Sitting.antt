-- What the rule says of the view of one seat.
use Rattle.std.proofs.Common.{◌≡◌, ◌≢◌, ℕ, ◌<◌, List, [], ◌∷◌, ◌++◌, length, set, refl, sym, ap, ◌∙◌, subst, ⊎_elim, arith}
use Rattle.std.proofs.lemmas.Bool.{cases_eq}
use Rattle.std.specs.Prelude.{Option, None, IfSome}
use mathlib.Core.Option.{some, some-injective}
use lib.ListN.{get_elem?}
use Rattle.atomic_table.specs.Table.{State}
use Rattle.atomic_table.proofs.Lists.{at_set, at_snoc, at_map}
use Rattle.commons.specs.Bounds.{IsPool}
use Rattle.commons.specs.declared.limits.Limits.{Limits}
use Rattle.step_core.specs.declared.view.View.{View}
use Rattle.step_core.specs.World.{World, view_at, every_part}
use Rattle.step_core.specs.Law.{Lawful}
use Rattle.step_core.specs.Opening.{opening}
use Rattle.step_core.proofs.StackSteps.{two_views}
use Rattle.ground.specs.declared.known.Known.{Known}
use Rattle.ground.specs.Own.{Owned}
use Rattle.ground.specs.Changing.{IsUnmoved, IsFresh, KnowsChanges, KnowsOpening}
use Rattle.ground.specs.Closing.{lying_on}
use Rattle.ground.specs.Rule.{Slot, Ruled, AreUnmoved, SeesDesks, view_in}
use Rattle.ground.proofs.Playing.{view_there}
use Rattle.ground.proofs.Rules.{lawful_of}
use Rattle.ground.proofs.Owning.{owned_of}
use Rattle.ground.proofs.Changing.{one_of_all, one_alone}

-- each seat with a part knows these limits
abbrev pub Told : Limits → List Known → Type 0
Told l views = (j : ℕ) (n : Known) → get_elem? views j ≡ some n → 0 < n.view.part → n.limits ≡ l

pub told_set : (l : Limits) (views : List Known) (id : ℕ) (u : Known) → Told l views →
    (0 < u.view.part → u.limits ≡ l) → Told l (set views id u)
told_set l views id u others mine j n e part =
    ⊎_elim
    (λ (x : (j ≡ id) × (u ≡ n)).
    ap (λ (m : Known). m.limits) (sym x.1)
    ∙ mine (subst (λ (m : Known). 0 < m.view.part) (sym x.1) part))
    (λ (x : (j ≢ id) × (get_elem? views j ≡ some n)). others j n x.1 part)
    (at_set views id j u n e)

pub told_push : (l : Limits) (views : List Known) (u : Known) → Told l views → u.limits ≡ l →
    Told l (views ++ u ∷ [])
told_push l views u others mine j n e part =
    ⊎_elim
    (λ (x : get_elem? views j ≡ some n). others j n x part)
    (λ (x : u ≡ n). ap (λ (m : Known). m.limits) (sym x) ∙ mine)
    (at_snoc views u n j e)

-- each seat that knows what lies on the desks is right
abbrev pub Seeing : World → List Known → Type 0
Seeing w views = (j : ℕ) (n : Known) → get_elem? views j ≡ some n → SeesDesks w n

pub seen_set : (w : World) (views : List Known) (id : ℕ) (u : Known) → Seeing w views → u.lying ≡ None →
    Seeing w (set views id u)
seen_set w views id u all blind j n e =
    ⊎_elim
    (λ (x : (j ≡ id) × (u ≡ n)).
    subst (SeesDesks w) x.1
    (subst (λ (z : Option (List Slot)). IfSome z (λ ds. (u.view.part ≡ every_part w.limits) × (ds ≡ lying_on w.desks)))
    (sym blind) tt))
    (λ (x : (j ≢ id) × (get_elem? views j ≡ some n)). all j n x.1)
    (at_set views id j u n e)

pub seen_push : (w : World) (views : List Known) (u : Known) → Seeing w views → u.lying ≡ None →
    Seeing w (views ++ u ∷ [])
seen_push w views u all blind j n e =
    ⊎_elim
    (λ (x : get_elem? views j ≡ some n). all j n x)
    (λ (x : u ≡ n).
    subst (SeesDesks w) x
    (subst (λ (z : Option (List Slot)). IfSome z (λ ds. (u.view.part ≡ every_part w.limits) × (ds ≡ lying_on w.desks)))
    (sym blind) tt))
    (at_snoc views u n j e)

module _ (l : Limits) (s : State Slot Known) (r : Ruled l s) where
  pub law_of : Lawful r.world
  law_of = lawful_of r.world r.stack r.counts r.desks

  module _ (id : ℕ) (n : Known) (at : get_elem? s.views id ≡ some n) where
    pub there : get_elem? r.world.views id ≡ some n.view
    there =
        subst (λ (vs : List View). get_elem? vs id ≡ some n.view) r.views_are
        (at_map view_in s.views id n at)

    pub here : id < length r.world.views
    here = (view_there r.world.views id n.view there).0

    pub is : view_at r.world.views id ≡ n.view
    is = (view_there r.world.views id n.view there).1

    -- where the seat is the only one of its pool, and so has every part, no other has one
    pub others_out : n.view.part ≡ every_part r.world.limits → (j : ℕ) (o : Known) → j ≢ id →
        get_elem? s.views j ≡ some o → o.view.part ≡ 0
    others_out whole j o ne at_other =
        let two = two_views (λ (v : View). v.part) r.world.views id j refl (λ e. ne (sym e)) in
        let all = r.stack.parts in
        let mine = ap (λ (v : View). v.part) is in
        let found : get_elem? r.world.views j ≡ some o.view =
        subst (λ (vs : List View). get_elem? vs j ≡ some o.view) r.views_are (at_map view_in s.views j o at_other) in
        let theirs = ap (λ (v : View). v.part) (view_there r.world.views j o.view found).1 in
        omega arith

    every_part_is : 0 < n.view.part → every_part n.limits ≡ every_part r.world.limits
    every_part_is busy = ap (λ (k : Limits). every_part k) (r.told id n at busy ∙ sym r.limits)

    -- where the seat is the only one of its pool and hasn't moved, no seat has done anything
    pub all_unmoved : 0 < n.view.part → IsFresh n → AreUnmoved s.views
    all_unmoved busy fresh j o e =
        ⊎_elim
        (λ (same : j ≡ id).
        subst IsUnmoved
        (some-injective n o (sym at ∙ (ap (λ (k : ℕ). get_elem? s.views k) (sym same) ∙ e))) fresh.unmoved)
        (λ (ne : j ≢ id). r.idle j o e (others_out (fresh.whole ∙ every_part_is busy) j o ne e))
        (cases_eq j id)

    pub changes_known : 0 < n.view.part → KnowsChanges n r.world.head.count
    changes_known busy =
        let start = ap (λ (k : Limits). k.start_count) (r.told id n at busy) in
        let all = r.changed in record {
          own = (let one = one_of_all s.views id n at in omega arith);
          all = λ whole.
              let alone =
              one_alone s.views id n at
              (λ j o ne e. r.idle j o e (others_out (whole ∙ every_part_is busy) j o ne e)) in
              omega arith;
        }

    pub opening_known : 0 < n.view.part → KnowsOpening n r.world.head
    opening_known busy fresh =
        ap (λ (w : World). w.head) (r.opened (all_unmoved busy fresh))
        ∙ ap (λ (k : Limits). (opening k).head) (sym (r.told id n at busy))

    -- what the type of a seat keeps
    pub owns : 0 < n.view.part → Owned n.limits n.view
    owns busy =
        subst (λ (k : Limits). Owned k n.view) (r.limits ∙ sym (r.told id n at busy))
        (owned_of r.world law_of r.counts.headers id n.view is busy
        (subst (λ (k : Limits). IsPool k) (sym r.limits) r.pool))
