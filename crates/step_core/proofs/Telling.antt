-- The laws in the words of one who uses a pool.
use Rattle.std.proofs.Common.{◌≡◌, ℕ, zero, suc, ◌+◌, ◌<◌, ◌≤◌, ◌≢◌, min, List, [], ◌∷◌, ◌++◌, Option, Some, None, length, refl, sym, ap, subst, ◌∙◌, arith, ⊎_elim}
use Rattle.std.specs.Prelude.{IfSome, option_to_list, option_and_then}
use Rattle.std.proofs.lemmas.Bool.{cases_lt, cond_both}
use Rattle.commons.specs.Bag.{bag}
use Rattle.step_core.specs.Bags.{SameBag, IsDistinct}
use Rattle.step_core.specs.World.{World, Limits, View, view_at, view_of, link_in, all_holds}
use Rattle.step_core.specs.Table.{Place, Common, Hand, Held, Table, IsTable, Event, Get, Put, Claim, Attach, Free, Offer, Take, Same, Becomes, EventLeads, SameTable, Run, Where}
use Rattle.step_core.specs.Shows.{Standing, Stands, ShowsTable, Happens}
use Rattle.step_core.specs.Steps.{Outcome, Cut, Got, Play, played, event_of, row, cut, same_head}
use Rattle.step_core.specs.Kept.{IsWorld}
use Rattle.step_core.specs.Schedules.{Schedule}
use Rattle.step_core.specs.Runs.{Reaches}
use Rattle.step_core.specs.Headline.{held_below, AllAreThere, LengthIsBounded, FrontThenRest, LostIsLater, ChainIsOfHand, CutGetsAll, after_of, events_along, SchedulesAreRuns, EventGets, EventPuts, IsHeld, HeldIsLeft, NotGivenAgain, StoppedKeepsItsView}
use Rattle.step_core.proofs.Rules.{FourLaws}
use Rattle.step_core.proofs.Regroup.{four_of_eight}
use Rattle.step_core.proofs.Bags.{times-append, times-from_length, below-le}
use Rattle.step_core.proofs.Paths.{path_front, path_from}
use Rattle.step_core.proofs.StackSteps.{look_of, chain_of}
use Rattle.step_core.proofs.Shows.{shows, shown_table, some_member, spells_same}
use Rattle.step_core.proofs.Readings.{total, population_is, length_within, lost_is_later, chain_distinct, hand_count}
use Rattle.step_core.proofs.Rows.{when_played, given_played, heads}
use Rattle.step_core.proofs.Theorem.{play_is, played_row, makes_its_event, is_table, changes_little, same_population}
use Rattle.step_core.proofs.Keeping.{play_keeps}
use Rattle.step_core.proofs.Walking.{busy_worker}

-- ---- of one moment

held_is_total : (w : World) (n : ℕ) → held_below w n ≡ total n (λ i. min 1 (all_holds i w.views w.desks))
held_is_total w zero = refl
held_is_total w (suc n) = let m = held_is_total w n in omega arith

pub all_are_there : AllAreThere
all_are_there w common law spelled =
    let four = four_of_eight w law in
    let p = population_is w four.stack in
    let same : four.stack.common ≡ common =
    spells_same (link_in w.links) w.head.top four.stack.common common four.stack.spelled spelled
    in
    let l = ap (λ (xs : List ℕ). length xs) same in
    let t = held_is_total w w.limits.population in
    omega arith

pub length_is_bounded : LengthIsBounded
length_is_bounded w law = length_within w (four_of_eight w law).stack

-- a worker with a part has a place among the views
inside : (views : List View) (k : ℕ) → 0 < (view_at views k).part → k < length views
inside [] k h = absurd (omega arith)
inside (v ∷ vs) zero h = omega arith
inside (v ∷ vs) (suc k) h = let m = inside vs k h in omega arith

pub front_then_rest : FrontThenRest
front_then_rest w zero l common law busy look same spelled = absurd (omega arith)
front_then_rest w (suc k) l common law busy look same spelled =
    let m = look_of w k (four_of_eight w law).stack (inside w.views k busy) busy l look in
    path_front (link_in w.links) w.head.top l.front common l.next
    (path_from _ _ _ _ _ (m.same_top same) (m.walked same)) spelled

pub lost_is_later_law : LostIsLater
lost_is_later_law w zero l law busy look other = absurd (omega arith)
lost_is_later_law w (suc k) l law busy look other =
    lost_is_later w k (four_of_eight w law).stack (inside w.views k busy) busy l look
    (λ e. other (λ j. record { top = e.0 j; count = e.1 j }))

pub chain_is_of_hand : ChainIsOfHand
chain_is_of_hand w zero c law busy chain = absurd (omega arith)
chain_is_of_hand w (suc k) c law busy chain =
    let four = four_of_eight w law in
    let here = inside w.views k busy in
    let d = chain_of w k four.stack here busy c chain in (
      chain_distinct w k four.stack here busy c chain,
      d.in_hand,
      (λ i h. hand_count w k four.stack here busy four.counts i (let a = d.in_hand i in omega arith)),
    )

-- ---- of one step

abbrev IsWholeGet : World → ℕ → Play → Type 0
IsWholeGet w k p = (xs : List ℕ) → p.outcome ≡ Got xs → IsDistinct xs × (p.event ≡ Some (Get (suc k) xs))

cut_whole : (w : World) (k : ℕ) → FourLaws w → k < length w.views → 0 < (view_at w.views k).part →
    IfSome (row w k (view_at w.views k) Cut) (IsWholeGet w k)
cut_whole w k law here busy =
    given_played (IsWholeGet w k) (view_at w.views k).look _ (λ l e. when_played (IsWholeGet w k) _
    (cut w k (view_at w.views k) l) (λ t.
    cond_both (same_head w.head l.head) _ _ (IsWholeGet w k)
    (λ s xs o.
    let is : l.front ≡ xs = cc in
    let both = heads w.head l.head s in
    let m = look_of w k law.stack here busy l e in
    let rest =
    path_front (link_in w.links) w.head.top l.front law.stack.common l.next
    (path_from _ _ _ _ _ (sym both.0) (m.walked (sym both.1))) law.stack.spelled in (
      (λ i. let a =
          ap (λ (ys : List ℕ). bag ys i) rest.1 in let b =
          ap (λ (ys : List ℕ). bag ys i) is in let p =
          law.stack.one_place i in let q = below-le w.limits.population i in
          omega (arith, times-append i l.front rest.0)),
      (λ j. Some (Get (suc k) (is j))),
    ))
    (λ s xs o. absurd (cc))))

pub cut_gets_all : CutGetsAll
cut_gets_all w worker xs u law busy e =
    let p = play_is w worker Cut (Got xs) u e in
    let r =
    played_row IsWholeGet w worker Cut p.0 (λ k is here inside.
    cut_whole w k (four_of_eight w law) here
    (subst (λ (n : ℕ). 0 < (view_of w.views n).part) is busy)) p.1 in
    let whole = r.3 xs p.2 in
    let event : event_of w worker Cut ≡ p.0.event = ap (λ (x : Option Play). option_and_then (λ q. q.event) x) p.1 in
    (whole.0, event ∙ (whole.1 ∙ ap (λ (n : ℕ). Some (Get n xs)) (sym r.1)))

-- ---- of schedules

-- a world shows any table that is the same as one that it shows
stands_same : (s : Standing) (p q : Place) → Same p q → Stands s q → Stands s p
stands_same s Common Common m h = h
stands_same s (Hand j) (Hand k) m h = subst (λ (i : ℕ). 0 < s.hand i) (sym m) h
stands_same s (Held ws ds) (Held vs es) m h =
    (some_left ws ds vs es m.0 m.1 h.0, (λ k. m.0 k ∙ h.1 k), (λ d. m.1 d ∙ h.2 d))
  where
    longer : (xs ys : List ℕ) → SameBag xs ys → 0 < length ys → 0 < length xs
    longer [] ys e l =
        absurd (
        let g = some_member ys l in
        let a = g.1 in
        let b = e g.0 in
        omega (arith, times-from_length g.0 [] refl))
    longer (x ∷ xs) ys e l = omega arith

    some_left : (ws ds vs es : List ℕ) → SameBag ws vs → SameBag ds es → 0 < length vs + length es →
        0 < length ws + length ds
    some_left ws ds [] es e f l = let a = longer ds es f (omega arith) in omega arith
    some_left ws ds (v ∷ vs) es e f l = let a = longer ws (v ∷ vs) e (omega arith) in omega arith
stands_same s Common (Hand k) m h = absurd m
stands_same s Common (Held ws ds) m h = absurd m
stands_same s (Hand j) Common m h = absurd m
stands_same s (Hand j) (Held ws ds) m h = absurd m
stands_same s (Held ws ds) Common m h = absurd m
stands_same s (Held ws ds) (Hand k) m h = absurd m

shows_same : (w : World) (t s : Table) → SameTable w.limits.population t s → ShowsTable w s → ShowsTable w t
shows_same w t s m a = record {
  common = a.common;
  spelled = a.spelled;
  one = a.one;
  stands = λ i l. stands_same _ (t i) (s i) (m i l) (a.stands i l);
}

same_again : (n : ℕ) (t : Table) → SameTable n t t
same_again n t i l = again (t i)
  where
    again : (p : Place) → Same p p
    again Common = tt
    again (Hand w) = refl
    again (Held ws ds) = ((λ x. refl), (λ x. refl))

-- one step, as a run of one event or of none
one_step : (u : World) (n worker : ℕ) (e : Option Event) (t s : Table) → u.limits.population ≡ n →
    Happens n worker e t s → ShowsTable u s
    → (r : Table) × ShowsTable u r × ((es : List Event) (z : Table) → Run n r es z → Run n t (option_to_list e ++ es) z)
one_step u n worker None t s q h b =
    (t, shows_same u t s (subst (λ (m : ℕ). SameTable m t s) (sym q) h) b, (λ es z r. r))
one_step u n worker (Some e) t s q h b = (s, b, (λ es z r. (s, h.1, r)))

runs : (n : ℕ) (w : World) (schedule : Schedule) (os : List Outcome) (u : World) →
    w.limits.population ≡ n → IsWorld w → Reaches w schedule os u → (t : Table) → ShowsTable w t →
    (s : Table) × ShowsTable u s × Run n t (events_along w schedule) s
runs n w [] [] u e is r t a = (
  t,
  subst (λ (x : World). ShowsTable x t) (sym r) a,
  (let b = subst (λ (m : ℕ). IsTable m t) e (is_table w t a) in (b, b, same_again n t)),
)
runs n w (x ∷ rest) (o ∷ os) u e is r t a =
    let v = r.0 in
    let p = play_is w x.0 x.1 o v r.1 in
    let kept : IsWorld v = subst IsWorld p.3 (play_keeps w x.0 x.1 p.0 is p.1) in
    let law = (four_of_eight v kept.law).stack in
    let next : v.limits.population ≡ n =
    ap (λ (l : Limits). l.population)
    (same_population w v x.0 (changes_little w x.0 x.1 o v r.1)) ∙ e in
    let happens =
    makes_its_event w x.0 x.1 o v is.law (busy_worker w x.0 x.1 p.0 is p.1) r.1 t
    (shown_table v law) a (shows v law) in
    let step =
    one_step v n x.0 (event_of w x.0 x.1) t (shown_table v law) next
    (subst (λ (m : ℕ). Happens m x.0 (event_of w x.0 x.1) t (shown_table v law)) e happens)
    (shows v law) in
    let more = runs n v rest os u next kept r.2 step.0 step.1 in
    let after : v ≡ after_of w (played w x.0 x.1) = sym p.3 ∙ ap (after_of w) (sym p.1) in (
      more.0,
      more.1,
      subst (λ (y : World). Run n t
          (option_to_list (event_of w x.0 x.1) ++ events_along y rest) more.0) after
          (step.2 _ _ more.2),
    )
runs n w [] (o ∷ os) u e is r t a = absurd r
runs n w (x ∷ rest) [] u e is r t a = absurd r

pub schedules_are_runs : SchedulesAreRuns
schedules_are_runs w schedule os u is r t a = runs w.limits.population w schedule os u refl is r t a

-- what isn't common stays so, until a put
same_away : (p : Place) → Same p Common → p ≢ Common → ⊥
same_away Common s n = n refl
same_away (Hand w) s n = s
same_away (Held ws ds) s n = s

module _ (i : ℕ) (p : Place) (away : p ≢ Common) where
  -- of an element that is listed, and of another
  either : (xs : List ℕ) (P : Type 0) → Where i xs P (Same p Common) → (0 < bag xs i → P → ⊥) → ⊥
  either xs P b f =
      ⊎_elim (λ (l : 0 < bag xs i). f l (b.0 l))
      (λ (l : bag xs i ≤ 0). same_away p (b.1 (omega arith)) away) (cases_lt 0 (bag xs i))

  stays_away : (e : Event) → Becomes e i p Common → (EventPuts i e → ⊥) → ⊥
  stays_away (Get w xs) b n = either xs _ b (λ l h. away h.0)
  stays_away (Put w xs) b n = either xs _ b (λ l h. n l)
  stays_away (Claim w j) b n = either (j ∷ []) _ b (λ l h. h)
  stays_away (Attach w j) b n = either (j ∷ []) _ b (λ l h. gained p h)
    where
      gained : (q : Place) → Rattle.step_core.specs.Table.Gained w q Common → ⊥
      gained Common h = h
      gained (Hand v) h = h
      gained (Held ws ds) h = h
  stays_away (Free w j) b n = either (j ∷ []) _ b (λ l h. freed p h)
    where
      freed : (q : Place) → Rattle.step_core.specs.Table.Freed w q Common → ⊥
      freed Common h = h
      freed (Hand v) h = h
      freed (Held ws ds) h = h
  stays_away (Offer w d xs) b n = either xs _ b.1 (λ l h. passed p h)
    where
      passed : (q : Place) → Rattle.step_core.specs.Table.Passed (bag xs i) w d q Common → ⊥
      passed Common h = h
      passed (Hand v) h = h
      passed (Held ws ds) h = h
  stays_away (Take w d xs) b n = either xs _ b.1 (λ l h. h)

  got_common : (e : Event) (q : Place) → Becomes e i p q → EventGets i e → ⊥
  got_common (Get w xs) q b g = away (b.0 g).0
  got_common (Put w xs) q b g = g
  got_common (Claim w j) q b g = g
  got_common (Attach w j) q b g = g
  got_common (Free w j) q b g = g
  got_common (Offer w d xs) q b g = g
  got_common (Take w d xs) q b g = g

-- nothing is done to what is held but to hold it once more, or once less
module _ (i : ℕ) where
  got_held : (p q : Place) (e : Event) → IsHeld p → Becomes e i p q → EventGets i e → ⊥
  got_held p q (Get w xs) held b g = subst IsHeld (b.0 g).0 held
  got_held p q (Put w xs) held b g = g
  got_held p q (Claim w j) held b g = g
  got_held p q (Attach w j) held b g = g
  got_held p q (Free w j) held b g = g
  got_held p q (Offer w d xs) held b g = g
  got_held p q (Take w d xs) held b g = g

  put_held : (p q : Place) (e : Event) → IsHeld p → Becomes e i p q → EventPuts i e → ⊥
  put_held p q (Get w xs) held b g = g
  put_held p q (Put w xs) held b g = subst IsHeld (b.0 g).0 held
  put_held p q (Claim w j) held b g = g
  put_held p q (Attach w j) held b g = g
  put_held p q (Free w j) held b g = g
  put_held p q (Offer w d xs) held b g = g
  put_held p q (Take w d xs) held b g = g

pub held_is_left : HeldIsLeft
held_is_left n t u [] i l r = (tt, tt)
held_is_left n t u (e ∷ es) i l r =
    let s = r.1.0 in
    let b = r.1.1.moves.1 i l in
    let rest = held_is_left n s u es i l r.1.2 in (
      (got_held i (t i) (s i) e r.0 b, rest.0),
      (put_held i (t i) (s i) e r.0 b, rest.1),
    )

pub not_given_again : NotGivenAgain
not_given_again n t u [] i r l away never = tt
not_given_again n t u (e ∷ es) i r l away never =
    let b = r.1.moves.1 i l in
    let next : r.0 i ≢ Common =
    λ h. stays_away i (t i) away e (subst (λ (q : Place). Becomes e i (t i) q) h b) never.0 in
    (got_common i (t i) away e (r.0 i) b, not_given_again n r.0 u es i r.2 l next never.1)

-- no step changes another worker's view
pub stopped_keeps_its_view : StoppedKeepsItsView
stopped_keeps_its_view w [] [] u n r none = ap (λ (v : World). view_of v.views n) r
stopped_keeps_its_view w (x ∷ rest) (o ∷ os) u n r none =
    stopped_keeps_its_view r.0 rest os u n r.2 none.1
    ∙ (changes_little w x.0 x.1 o r.0 r.1).others n (λ e. none.0 (sym e))
stopped_keeps_its_view w [] (o ∷ os) u n r none = absurd r
stopped_keeps_its_view w (x ∷ rest) [] u n r none = absurd r
