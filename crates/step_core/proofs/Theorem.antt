-- The theorem on steps.
use Rattle.std.proofs.Common.{◌≡◌, ℕ, zero, suc, ◌<◌, true, List, Option, Some, None, length, set, refl, sym, ap, subst, ◌∙◌, get_or-set_same}
use Rattle.std.specs.Prelude.{IfSome, option_map, option_and_then, nat_lt}
use Rattle.std.proofs.lemmas.Bool.{cond_both, ltb-true}
use Rattle.std.proofs.lemmas.Option.{some_pair_parts}
use Rattle.step_core.specs.World.{World, Limits, View, view_at, view_of, empty_view}
use Rattle.step_core.specs.Law.{Lawful}
use Rattle.step_core.specs.Table.{Table, IsTable, Place, Common, Hand, Held, IsPlace, Event, NamesBelow, worker_of}
use Rattle.step_core.specs.Shows.{ShowsTable, Standing, Stands, Happens}
use Rattle.step_core.specs.Steps.{Step, Outcome, Play, row, turn, played, play, event_of, in_range}
use Rattle.step_core.specs.Opening.{opening}
use Rattle.step_core.specs.Changes.{ChangesOne}
use Rattle.step_core.specs.Schedules.{OpensLawful, KeepsLaw, MakesItsEvent, ChangesLittle, MakesItsView, LawfulShows, slot_at}
use Rattle.step_core.specs.Views.{view_after}
use Rattle.step_core.proofs.Rules.{FourLaws}
use Rattle.step_core.proofs.Regroup.{four_of_eight, eight_of_four}
use Rattle.step_core.proofs.Rows.{row_lawful}
use Rattle.step_core.proofs.RowEvents.{Goes, MovesBy, row_goes}
use Rattle.step_core.proofs.RowNames.{IsBy, row_by}
use Rattle.step_core.proofs.RowChanges.{ChangesIn, row_changes}
use Rattle.step_core.proofs.RowViews.{IsTold, row_told}
use Rattle.step_core.proofs.OpeningLaw.{opening_lawful}
use Rattle.step_core.proofs.Shows.{shows, shown_table}

-- what is shown of each row is so of a step that is played
pub play_is : (w : World) (worker : ℕ) (s : Step) (o : Outcome) (u : World) →
    play w worker s ≡ Some (o, u) →
    (p : Play) × (played w worker s ≡ Some p) × (p.outcome ≡ o) × (p.after ≡ u)
play_is w worker s o u e = parts (played w worker s) refl e
  where
    parts : (r : Option Play) → played w worker s ≡ r →
        option_map {U = Outcome × World} (λ p. (p.outcome, p.after)) r ≡ Some (o, u) →
        (p : Play) × (played w worker s ≡ Some p) × (p.outcome ≡ o) × (p.after ≡ u)
    parts None f h = absurd (cc)
    parts (Some p) f h = let both = some_pair_parts p.outcome o p.after u h in (p, f, both.0, both.1)

pub played_row : (P : World → ℕ → Play → Type 0) (w : World) (worker : ℕ) (s : Step) (p : Play)
    → ((k : ℕ) → worker ≡ suc k → k < length w.views → in_range w s ≡ true →
    IfSome (row w k (view_at w.views k) s) (P w k)) → played w worker s ≡ Some p →
    (k : ℕ) × (worker ≡ suc k) × (k < length w.views) × P w k p
played_row P w zero s p f e = absurd (cc)
played_row P w (suc k) s p f e =
    cond_both (nat_lt k (length w.views)) (turn w k s) None
    (λ r. r ≡ Some p → (j : ℕ) × (suc k ≡ suc j) × (j < length w.views) × P w j p)
    (λ t h. let here = ltb-true _ _ t in (
      k,
      refl,
      here,
      cond_both (in_range w s) (row w k (view_at w.views k) s) None (λ r. r ≡ Some p → P w k p)
          (λ u g. subst (λ (r : Option Play). IfSome r (P w k)) g (f k refl here u))
          (λ u g. absurd (cc g)) h,
    ))
    (λ t h. absurd (cc h)) e

pub opens_lawful : OpensLawful
opens_lawful l some = eight_of_four (opening l) (opening_lawful l some)

pub keeps_law : KeepsLaw
keeps_law w worker s o u law busy e =
    let p = play_is w worker s o u e in
    let r =
    played_row (λ v k q. FourLaws q.after) w worker s p.0 (λ k is here inside.
    row_lawful w k (four_of_eight w law) here
    (subst (λ (n : ℕ). 0 < (view_of w.views n).part) is busy) s inside) p.1 in
    subst Lawful p.3 (eight_of_four p.0.after r.3)

pub changes_little : ChangesLittle
changes_little w worker s o u e =
    let p = play_is w worker s o u e in
    let r = played_row ChangesIn w worker s p.0 (λ k is here inside. row_changes w k here s) p.1 in
    subst (ChangesOne worker w) p.3 (subst (λ (n : ℕ). ChangesOne n w p.0.after) (sym r.1) r.3.0)

-- the views after a step, by what is told of it
pub views_after : (w : World) (k : ℕ) (s : Step) (o : Outcome) (u : World) →
    play w (suc k) s ≡ Some (o, u) →
    (k < length w.views)
    × (u.views ≡ set w.views k (view_after (slot_at w.desks s) s o (view_at w.views k)))
views_after w k s o u e =
    let p = play_is w (suc k) s o u e in
    let r = played_row (IsTold s) w (suc k) s p.0 (λ j is here inside. row_told w j s) p.1 in
    let T : ℕ → Outcome → List View → Type 0 = λ j x vs.
    vs ≡ set w.views j (view_after (slot_at w.desks s) s x (view_at w.views j)) in
    let same : r.0 ≡ k = cc (r.1) in (
      subst (λ (j : ℕ). j < length w.views) same r.2,
      subst (λ (j : ℕ). T j o u.views) same
          (subst (λ (x : Outcome). T r.0 x u.views) p.2
          (subst (λ (v : World). T r.0 p.0.outcome v.views) p.3 r.3)),
    )

pub makes_its_view : MakesItsView
makes_its_view w zero s o u e = absurd (cc e)
makes_its_view w (suc k) s o u e =
    let after = views_after w k s o u e in (
      ap (λ (vs : List View). view_at vs k) after.1
          ∙ get_or-set_same w.views k (view_after (slot_at w.desks s) s o (view_at w.views k)) (empty_view 0) after.0,
      (changes_little w (suc k) s o u e).others,
    )

-- a world shows nothing that is held by nobody
is_place : (s : Standing) (p : Place) → Stands s p → IsPlace p
is_place s Common h = tt
is_place s (Hand n) h = tt
is_place s (Held ws ds) h = h.0

pub is_table : (w : World) (t : Table) → ShowsTable w t → IsTable w.limits.population t
is_table w t a i lt = is_place _ (t i) (a.stands i lt)

happens : (n k worker : ℕ) (e : Option Event) (t u : Table) → worker ≡ suc k → IsTable n t →
    IsTable n u → IfSome e (λ x. (worker_of x ≡ suc k) × NamesBelow n x) → MovesBy n e t u →
    Happens n worker e t u
happens n k worker None t u is a b names moves = moves
happens n k worker (Some e) t u is a b names moves =
    (names.0 ∙ sym is, record { before = a; after = b; below = names.1; moves = moves })

pub same_population : (w u : World) (worker : ℕ) → ChangesOne worker w u → u.limits ≡ w.limits
same_population w u worker c = of_word c.word
  where
    of_word : Rattle.step_core.specs.Changes.OneWord w u → u.limits ≡ w.limits
    of_word (Rattle.step_core.specs.Changes.Neither e) = ap (λ (v : World). v.limits) e
    of_word (Rattle.step_core.specs.Changes.HeadWord e) = ap (λ (v : World). v.limits) e
    of_word (Rattle.step_core.specs.Changes.LengthWord e) = ap (λ (v : World). v.limits) e
    of_word (Rattle.step_core.specs.Changes.LinkWord i j e) = ap (λ (v : World). v.limits) e
    of_word (Rattle.step_core.specs.Changes.CountWord i n e) = ap (λ (v : World). v.limits) e
    of_word (Rattle.step_core.specs.Changes.DeskWord d n e) = ap (λ (v : World). v.limits) e
    of_word (Rattle.step_core.specs.Changes.Slot d o e) = ap (λ (v : World). v.limits) e

pub makes_its_event : MakesItsEvent
makes_its_event w worker s o u law busy e t r a b =
    let p = play_is w worker s o u e in
    let four = four_of_eight w law in
    let busy_at = λ (k : ℕ) (is : worker ≡ suc k). subst (λ (n : ℕ). 0 < (view_of w.views n).part) is busy in
    let goes =
    played_row (λ v k q. Goes v q) w worker s p.0
    (λ k is here inside. row_goes w k four here (busy_at k is) s inside) p.1 in
    let by = played_row IsBy w worker s p.0 (λ k is here inside. row_by w k four here (busy_at k is) s) p.1 in
    let after : ShowsTable p.0.after r = subst (λ (x : World). ShowsTable x r) (sym p.3) b in
    let limits = same_population w u worker (changes_little w worker s o u e) in
    let tables : IsTable w.limits.population r =
    subst (λ (l : Limits). IsTable l.population r) limits (is_table u r b) in
    let event : event_of w worker s ≡ p.0.event = ap (λ (x : Option Play). option_and_then (λ q. q.event) x) p.1 in
    subst (λ (x : Option Event). Happens w.limits.population worker x t r) (sym event)
    (happens w.limits.population by.0 worker p.0.event t r by.1 (is_table w t a) tables by.3 (goes.3 t r a after))

pub lawful_shows : LawfulShows
lawful_shows w law = let four = four_of_eight w law in (shown_table w four.stack, shows w four.stack)
