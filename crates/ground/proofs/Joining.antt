-- What two seats know is made one, and the rule stands.
use Rattle.std.proofs.Common.{◌≡◌, ◌≢◌, ℕ, ◌<◌, List, [], ◌∷◌, set, refl, sym, ap, ◌∙◌, subst, ⊎_elim, arith}
use Rattle.std.specs.Prelude.{slice_index, map, Option, Some, None}
use Rattle.std.proofs.lemmas.List.{set-get_or}
use mathlib.Core.Option.{some, none}
use mathlib.Core.Logic.{dite}
use native.Mathlib.Decide.{ℕ_discrete}
use lib.ListN.{get_elem?}
use lib.Seq.{map-set}
use Rattle.atomic_table.specs.Table.{State, Act, Joins, Allows, Valid, step, keeps, stepped as table_stepped, carried_after}
use Rattle.atomic_table.proofs.Lists.{at_map, at_set, set_again}
use Rattle.commons.specs.declared.limits.Limits.{Limits}
use Rattle.step_core.specs.declared.view.View.{View}
use Rattle.step_core.specs.World.{World, empty_view, every_part}
use Rattle.step_core.specs.Law.{Lawful}
use Rattle.step_core.specs.Headers.{HeaderLaw}
use Rattle.ground.specs.declared.known.Known.{Known}
use Rattle.ground.specs.Own.{AtRest, KnowsDesks}
use Rattle.ground.specs.Parting.{both_views, both, spent_seat, with_parcel}
use Rattle.ground.specs.declared.known.Parcel.{Parcel}
use Rattle.ground.specs.Closing.{lying_on}
use Rattle.ground.specs.Rule.{Slot, Sat, Ruled, SeesDesks, view_in}
use Rattle.ground.specs.StepAnswers.{chosen, looked}
use Rattle.ground.specs.Changing.{changes_in}
use Rattle.ground.specs.Layout.{element_linked_at}
use Rattle.ground.proofs.Reviews.{join_lawful, join_headers}
use Rattle.ground.proofs.Rules.{stack_of, counts_of, desks_of}
use Rattle.ground.specs.History.{Log, Joined, Led, log_of, logs_of}
use Rattle.ground.proofs.History.{same_logs}
use Rattle.ground.proofs.Changing.{sum_set, sum_join, unmoved_set, unmoved_join}
use Rattle.ground.proofs.Playing.{idle_again}
use Rattle.ground.proofs.Sitting.{law_of, here, is, owns, told_set, seen_set}

-- the world once these views, at these indices, are one
abbrev joined_at : World → ℕ → ℕ → View → View → World
joined_at w id other v u = record w {
  views = set (set w.views id (both_views v u)) other (empty_view 0);
}

pub merges : (l : Limits) (id : ℕ) (n : Known) (other : ℕ) (o : Known) → 0 < n.view.part →
    AtRest n.view → AtRest o.view → Joins (Ruled l) id n other o (both n o) spent_seat
merges l id n other o busy rest rest' s r at apart there =
    let w = r.world in
    let b : Known = both n o in
    let theirs : get_elem? s.views other ≡ some o =
    ⊎_elim (λ (t : (other ≡ id) × (b ≡ o)). absurd (apart t.0))
    (λ (t : (other ≢ id) × (get_elem? s.views other ≡ some o)). t.1)
    (at_set s.views id other b o there) in
    let k_is = is l s r id n at in
    let j_is = is l s r other o theirs in
    let k_here = here l s r id n at in
    let j_here = here l s r other o theirs in
    let k_rests = subst AtRest (sym k_is) rest in
    let j_rests = subst AtRest (sym j_is) rest' in
    let law =
    subst (λ (z : View × View). Lawful (joined_at w id other z.0 z.1)) (λ i. (k_is i, j_is i))
    (join_lawful w id other k_here j_here apart k_rests j_rests (law_of l s r) r.counts.headers) in
    let headers =
    subst (λ (z : View × View). HeaderLaw (joined_at w id other z.0 z.1)) (λ i. (k_is i, j_is i))
    (join_headers w id other k_here j_here apart k_rests j_rests (law_of l s r) r.counts.headers) in
    record {
      world = joined_at w id other n.view o.view;
      words_are = r.words_are;
      homes_are = r.homes_are;
      views_are =
          map-set view_in (set s.views id b) other spent_seat
          ∙ ap (λ (vs : List View). set vs other (empty_view 0))
          (map-set view_in s.views id b
          ∙ ap (λ (vs : List View). set vs id (both_views n.view o.view)) r.views_are);
      limits = r.limits;
      pool = r.pool;
      stack = stack_of _ law;
      counts = counts_of _ law headers;
      desks = desks_of _ law r.desks.count;
      told = told_set l (set s.views id b) other spent_seat
          (told_set l s.views id b r.told (λ _. r.told id n at busy))
          (λ part. absurd (omega arith));
      packets = r.packets;
      lies = seen_set w (set s.views id b) other spent_seat (seen_set w s.views id b r.lies refl) refl;
      changed = (let before = r.changed in let same = sum_join s.views id n other o at there in omega arith);
      idle =
          idle_again (set s.views id b) other spent_seat
          (idle_again s.views id b r.idle (λ none. absurd (omega arith)))
          (λ none. record { steps = refl; joined = refl });
      opened = λ all.
          ap (λ (z : World). joined_at z id other n.view o.view)
          (r.opened (unmoved_join s.views id n other o at apart theirs all));
      history = Joined id other ∷ r.history;
      led = (
        w,
        logs_of s.views,
        law_of l s r,
        r.led,
        (
          apart,
          k_rests,
          j_rests,
          (λ i. joined_at w id other (sym k_is i) (sym j_is i)),
          (
            log_of n,
            log_of o,
            at_map log_of s.views id n at,
            at_map log_of s.views other o theirs,
            map-set log_of (set s.views id b) other spent_seat
                ∙ ap (λ (xs : List Log). set xs other ([], [])) (map-set log_of s.views id b),
          ),
        ),
      );
    }

-- A load that changes no word, after which the seat knows something else of the same view and the
-- same steps, keeps the rule.
quiet : (l : Limits) (slots id : ℕ) (me : Sat) (word : ℕ) (n : Known) (s : State Slot Known) (r : Ruled l s) →
    get_elem? s.views id ≡ some me.0 → 0 < me.0.view.part → n.view ≡ me.0.view → n.limits ≡ me.0.limits →
    log_of n ≡ log_of me.0 → SeesDesks r.world n →
    Ruled l (table_stepped s word (slice_index s.words word) id me.1 n keeps)
quiet l slots id me word n s r at busy view limits log sees =
    let words : set s.words word (slice_index s.words word) ≡ s.words = set-get_or s.words word 0 in
    let views : map view_in (set s.views id n) ≡ map view_in s.views =
    map-set view_in s.views id n
    ∙ (ap (λ (v : View). set (map view_in s.views) id v) view
    ∙ (sym (map-set view_in s.views id me.0) ∙ ap (λ (ns : List Known). map view_in ns) (set_again s.views id me.0 at))) in
    let part = ap (λ (v : View). v.part) view in
    let steps = ap (λ (x : Log). x.0) log in
    let joined = ap (λ (x : Log). x.1) log in
    record {
      world = r.world;
      words_are = words ∙ r.words_are;
      homes_are = r.homes_are;
      views_are = views ∙ r.views_are;
      limits = r.limits;
      pool = r.pool;
      stack = r.stack;
      counts = r.counts;
      desks = r.desks;
      told = told_set l s.views id n r.told (λ _. limits ∙ r.told id me.0 at busy);
      packets = r.packets;
      lies = λ j o e.
          ⊎_elim (λ (x : (j ≡ id) × (n ≡ o)). subst (SeesDesks r.world) x.1 sees)
          (λ (x : (j ≢ id) × (get_elem? s.views j ≡ some o)). r.lies j o x.1)
          (at_set s.views id j n o e);
      changed =
          (let before = r.changed in
          let sum = sum_set s.views id me.0 n at in
          let a = ap changes_in steps in
          let b = ap changes_in joined in
          omega arith);
      idle = idle_again s.views id n r.idle (λ none. absurd (omega arith));
      opened = λ all.
          r.opened
          (unmoved_set s.views id me.0 n at
          (λ h. record { steps = sym steps ∙ h.steps; joined = sym joined ∙ h.joined }) all);
      history = r.history;
      led = subst (λ (xs : List Log). Led l r.history r.world xs) (sym (same_logs s.views id me.0 n at log)) r.led;
    }

-- A load that changes no word answers what the seat's type keeps; and where the seat is the only
-- one of its pool, what lies on the desks is what it knows from now on.
pub looks : (l : Limits) (slots id : ℕ) (me : Sat) → 0 < me.0.view.part →
    Allows (Ruled l) slots id me 0 (λ n. n) (looked (step slots 0 0 0 none) me)
looks l slots id me busy s r _ at _ = dite (ℕ_discrete me.0.view.part (every_part me.0.limits))
    (λ whole. look (Some (lying_on r.world.desks)) (whole ∙ every, refl) (λ _. refl))
    (λ shared. look None tt (λ whole. absurd (shared whole)))
  where
    every : every_part me.0.limits ≡ every_part r.world.limits
    every = ap (λ (z : Limits). every_part z) (r.told id me.0 at busy ∙ sym r.limits)

    look : (lying : Option (List Slot)) → SeesDesks r.world (record me.0 { lying = lying }) →
        KnowsDesks (record me.0 { lying = lying }) →
        (w : Known) × (a : Act Slot) × Valid s.homes me.1 a
        × Ruled l (table_stepped s 0 (slice_index s.words 0) id me.1 w a)
        × looked (step slots 0 0 0 none) me (slice_index s.words 0) (w, carried_after me.1 a)
    look lying sees knows = (
      record me.0 { lying = lying },
      keeps,
      tt,
      quiet l slots id me 0 (record me.0 { lying = lying }) s r at busy refl refl refl sees,
      (lying, refl, owns l s r id me.0 at busy, knows),
    )

-- So does a load of an element's link, by which the seat chooses the element.
pub chooses : (l : Limits) (slots id word : ℕ) (me : Sat) → 0 < me.0.view.part →
    Allows (Ruled l) slots id me word (λ n. n) (chosen (step slots word 0 0 none) me)
chooses l slots id word me busy s r _ at _ = (
  record me.0 { loan = element_linked_at word },
  keeps,
  tt,
  quiet l slots id me word (record me.0 { loan = element_linked_at word }) s r at busy refl refl refl (r.lies id me.0 at),
  refl,
)

-- And so does a load after which the seat has noted something else of a packet: one with which the
-- notes begin, or of the link of an element that is noted.
pub notes : (l : Limits) (slots id word : ℕ) (me : Sat) (parcel : Parcel) → 0 < me.0.view.part →
    Allows (Ruled l) slots id me word (λ n. n) (λ _ m'. m' ≡ with_parcel parcel me)
notes l slots id word me parcel busy s r _ at _ = (
  (with_parcel parcel me).0,
  keeps,
  tt,
  quiet l slots id me word (with_parcel parcel me).0 s r at busy refl refl refl (r.lies id me.0 at),
  refl,
)
