-- What the rule says of one desk, and that it stands once a step on the desk's word leaves a lawful
-- world.
use Rattle.std.proofs.Common.{◌≡◌, ℕ, zero, suc, ◌+◌, ◌-◌, ◌*◌, ◌<◌, ◌≢◌, List, [], ◌∷◌, ◌++◌, length, set, refl, sym, ap, ◌∙◌, subst, ⊎_elim, arith, get_or-set_same, get_or-set_other}
use Rattle.std.specs.Prelude.{slice_index, map, Option, Some, None, IfSome, IsSome}
use Rattle.std.proofs.lemmas.List.{length-set, get_or-append_right, set-append_right, set-get_or}
use mathlib.Core.Option as maybe
use mathlib.Core.Option.{some, none}
use lib.ListN.{get_elem?}
use lib.Seq.{map-set}
use Rattle.atomic_table.specs.Table.{Act, stepped, homes_after, carried_after}
use Rattle.atomic_table.proofs.Lists.{at_map, at_set}
use Rattle.commons.specs.Bounds.{IsPool}
use Rattle.commons.specs.Packets.{IsPacket}
use Rattle.commons.specs.declared.limits.Limits.{Limits}
use Rattle.step_core.specs.declared.step.Step.{Step}
use Rattle.step_core.specs.declared.step.Outcome.{Outcome}
use Rattle.step_core.specs.declared.view.Desk.{Desk}
use Rattle.step_core.specs.declared.view.View.{View}
use Rattle.step_core.specs.World.{World, empty_view, no_desk, view_at, desk_at, every_part}
use Rattle.step_core.specs.Law.{Lawful}
use Rattle.step_core.specs.Headers.{HeaderLaw}
use Rattle.step_core.proofs.Bags.{at_or_else}
use Rattle.step_core.proofs.StackSteps.{two_views}
use Rattle.ground.specs.declared.known.Known.{Known}
use Rattle.ground.specs.Closing.{packet_on, lying_on}
use Rattle.ground.specs.DeskAnswers.{moved, Moved}
use Rattle.ground.specs.Layout.{pack, lines, word_on, rows_of, words_of, links_at, desk_word, desk_standing_at}
use Rattle.ground.specs.Own.{Owned, AtDesk, KnowsDesks}
use Rattle.ground.specs.Rule.{Slot, Sat, Ruled, SeesDesks, view_in, home_of}
use Rattle.ground.specs.Seats.{laid_on}
use Rattle.ground.specs.Changing.{changes_by}
use Rattle.ground.specs.History.{Move, Led, logs_of}
use Rattle.ground.proofs.Alone.{lying_at}
use Rattle.ground.proofs.Changing.{sum_set, one_step, none_unmoved}
use Rattle.ground.proofs.Owning.{owned_of}
use Rattle.ground.specs.Operations.{Sits}
use Rattle.ground.proofs.Playing.{St, tail_of, told_again, idle_again, view_there, here, is as is_view, my_limits, read_at}
use Rattle.ground.proofs.Rules.{stack_of, counts_of, desks_of}

pub set_twice : {A : Type 0} (xs : List A) (i : ℕ) (a b : A) → set (set xs i a) i b ≡ set xs i b
set_twice [] i a b = refl
set_twice (x ∷ xs) zero a b = refl
set_twice (x ∷ xs) (suc i) a b = ap (λ (l : List _). x ∷ l) (set_twice xs i a b)

desk_there : (ds : List Desk) (d : ℕ) → d < length ds → get_elem? ds d ≡ some (desk_at ds d)
desk_there [] d h = absurd (omega arith)
desk_there (x ∷ xs) zero h = refl
desk_there (x ∷ xs) (suc d) h = desk_there xs d (omega arith)

word_there : (ds : List Desk) (d : ℕ) → slice_index (map word_on ds) d ≡ (desk_at ds d).word
word_there [] d = refl
word_there (x ∷ xs) zero = refl
word_there (x ∷ xs) (suc d) = word_there xs d

-- the slots have packets, also once one of them is another
packets_set : (ds : List Desk) (d : ℕ) (x : Desk) → d < length ds → IfSome x.slot IsPacket →
    ((e : ℕ) → IfSome (desk_at ds e).slot IsPacket) → (e : ℕ) → IfSome (desk_at (set ds d x) e).slot IsPacket
packets_set ds d x inside here all e =
    at_or_else d (λ y. IfSome (desk_at (set ds d x) y).slot IsPacket)
    (subst (λ (z : Desk). IfSome z.slot IsPacket) (sym (get_or-set_same ds d x no_desk inside)) here)
    (λ y n. subst (λ (z : Desk). IfSome z.slot IsPacket)
    (sym (get_or-set_other ds d y x no_desk (λ s. n (sym s)))) (all y)) e

-- what is known to lie on the desks, once one of them is another; where nothing lay there and
-- nothing does, it is the same
pub laid_right : (o : Option (List Slot)) (P : Type 0) (ds : List Desk) (d : ℕ) (x : Desk) (slot : Slot) →
    packet_on x ≡ slot → IfSome o (λ zs. P × (zs ≡ lying_on ds)) →
    IfSome (laid_on d slot o) (λ zs. P × (zs ≡ lying_on (set ds d x)))
laid_right None P ds d x slot e h = tt
laid_right (Some zs) P ds d x slot e h = (
  h.0,
  ap (λ (ys : List Slot). set ys d slot) h.1
      ∙ (ap (λ (y : Slot). set (lying_on ds) d y) (sym e) ∙ sym (map-set packet_on ds d x)),
)

pub laid_some : (o : Option (List Slot)) (d : ℕ) (slot : Slot) → IsSome o → IsSome (laid_on d slot o)
laid_some None d slot h = h
laid_some (Some zs) d slot h = refl

pub still_right : (o : Option (List Slot)) (P : Type 0) (ds : List Desk) (d : ℕ) (x : Desk) →
    packet_on x ≡ packet_on (desk_at ds d) → IfSome o (λ zs. P × (zs ≡ lying_on ds)) →
    IfSome o (λ zs. P × (zs ≡ lying_on (set ds d x)))
still_right None P ds d x e h = tt
still_right (Some zs) P ds d x e h = (
  h.0,
  h.1
      ∙ sym (map-set packet_on ds d x
      ∙ (ap (λ (y : Slot). set (lying_on ds) d y) (e ∙ sym (lying_at ds d)) ∙ set-get_or (lying_on ds) d None)),
)

-- what is so of what lies there is so of what is known to lie there
pub if_seen : (o : Option (List Slot)) (P : Type 0) (xs : List Slot) (Q : List Slot → Type 0) →
    IfSome o (λ zs. P × (zs ≡ xs)) → (P → Q xs) → IfSome o Q
if_seen None P xs Q h f = tt
if_seen (Some zs) P xs Q h f = subst Q (sym h.1) (f h.0)

-- the world once one desk and one view are these
abbrev pub desked : World → ℕ → ℕ → Desk → View → World
desked w id d x v = record w { desks = set w.desks d x; views = set w.views id v }

module _ (l : Limits) (s : St) (r : Ruled l s) (id : ℕ) (me : Sat) (at : get_elem? s.views id ≡ some me.0)
    (busy : Sits me) (d k : ℕ) (word : k ≡ desk_word l.population d) (inside : d < l.desks) where
  pub desk : Desk
  desk = desk_at r.world.desks d

  pub desk_inside : d < length r.world.desks
  desk_inside =
      let all : length r.world.desks ≡ r.world.limits.desks = r.desks.count in
      let same = ap (λ (z : Limits). z.desks) r.limits in
      omega arith

  -- what is told of the desk is told of the word
  pub by_desk : (P : ℕ → Type 0) → P d → P (desk_standing_at me.0.limits.population k)
  by_desk P =
      let mine = ap (λ (z : Limits). z.population) (my_limits l s r id me at busy) in
      let same : d ≡ desk_standing_at me.0.limits.population k = omega arith in
      subst P same

  pop : r.world.limits.population ≡ l.population
  pop = ap (λ (z : Limits). z.population) r.limits

  links : length r.world.links ≡ l.population
  links = r.stack.links ∙ pop

  counts : length r.world.counts ≡ l.population
  counts = r.counts.counts ∙ pop

  -- a desk's word stands behind the counts
  pub desk_read : slice_index s.words k ≡ (desk_at r.world.desks d).word
  desk_read =
      let a : k - links_at ≡ 2 * l.population + d = omega arith in
      let b : 2 * l.population + d - l.population ≡ l.population + d = omega arith in
      let c : l.population + d - l.population ≡ d = omega arith in
      read_at l s r id me at busy k
      ∙ (get_or-append_right (lines (pack r.world.head) r.world.length) (rows_of r.world) links_at k 0 refl
      (omega arith)
      ∙ (ap (λ (j : ℕ). slice_index (rows_of r.world) j) a
      ∙ (get_or-append_right r.world.links (tail_of r.world) l.population (2 * l.population + d) 0 links
      (omega arith)
      ∙ (ap (λ (j : ℕ). slice_index (tail_of r.world) j) b
      ∙ (get_or-append_right r.world.counts (map word_on r.world.desks) l.population (l.population + d) 0
      counts (omega arith)
      ∙ (ap (λ (j : ℕ). slice_index (map word_on r.world.desks) j) c
      ∙ word_there r.world.desks d))))))

  desk_set : (x : Desk) → set (words_of r.world) k x.word
      ≡ lines (pack r.world.head) r.world.length
      ++ (r.world.links ++ (r.world.counts ++ map word_on (set r.world.desks d x)))
  desk_set x =
      let a : k - links_at ≡ 2 * l.population + d = omega arith in
      let b : 2 * l.population + d - l.population ≡ l.population + d = omega arith in
      let c : l.population + d - l.population ≡ d = omega arith in
      set-append_right (lines (pack r.world.head) r.world.length) (rows_of r.world) links_at k x.word refl
      (omega arith)
      ∙ ap (λ (ys : List ℕ). lines (pack r.world.head) r.world.length ++ ys)
      (ap (λ (j : ℕ). set (rows_of r.world) j x.word) a
      ∙ (set-append_right r.world.links (tail_of r.world) l.population (2 * l.population + d) x.word links
      (omega arith)
      ∙ ap (λ (ys : List ℕ). r.world.links ++ ys)
      (ap (λ (j : ℕ). set (tail_of r.world) j x.word) b
      ∙ (set-append_right r.world.counts (map word_on r.world.desks) l.population (l.population + d)
      x.word counts (omega arith)
      ∙ ap (λ (ys : List ℕ). r.world.counts ++ ys)
      (ap (λ (j : ℕ). set (map word_on r.world.desks) j x.word) c
      ∙ sym (map-set word_on r.world.desks d x))))))

  -- a word may be written as it was found
  pub desk_kept : set (words_of r.world) k (slice_index s.words k) ≡ words_of r.world
  desk_kept =
      ap (λ (x : ℕ). set (words_of r.world) k x) (read_at l s r id me at busy k)
      ∙ set-get_or (words_of r.world) k 0

  -- where the slot is
  pub desk_home : get_elem? s.homes d ≡ some (home_of (desk_at r.world.desks d))
  desk_home =
      ap (λ (hs : List (maybe.Option Slot)). get_elem? hs d) r.homes_are
      ∙ at_map home_of r.world.desks d (desk_at r.world.desks d)
      (desk_there r.world.desks d desk_inside)

  -- no other seat is the only one, or knows what lies on the desks
  others_blind : (u : World) (j : ℕ) (n : Known) → j ≢ id → get_elem? s.views j ≡ some n → SeesDesks u n
  others_blind u j n ne there = if_seen n.lying (n.view.part ≡ every_part r.world.limits) (lying_on r.world.desks)
      (λ ds. (n.view.part ≡ every_part u.limits) × (ds ≡ lying_on u.desks)) (r.lies j n there)
      (λ whole. absurd
      (let two = two_views (λ (z : View). z.part) r.world.views id j refl (λ e. ne (sym e)) in
      let all = r.stack.parts in
      let mine = ap (λ (z : View). z.part) (is_view l s r id me at busy) in
      let found : get_elem? r.world.views j ≡ some n.view =
      subst (λ (vs : List View). get_elem? vs j ≡ some n.view) r.views_are (at_map view_in s.views j n there) in
      let theirs = ap (λ (z : View). z.part) (view_there r.world.views j n.view found).1 in
      let some = busy.0 in
      omega arith))

  -- the rule stands, once a step on the desk's word leaves a lawful world with this desk and this
  -- view
  pub ruled : (st : Step) (o : Outcome) (x : Desk) (v : View) (lying : Option (List Slot))
      (slots : List (ℕ × Slot)) (a : Act Slot) →
      Lawful (desked r.world id d x v) → HeaderLaw (desked r.world id d x v) →
      homes_after s.homes me.1 a ≡ set s.homes d (home_of x) → carried_after me.1 a ≡ slots →
      v.part ≡ me.0.view.part → AtDesk v.work slots → changes_by st o ≡ 0 →
      (h : List Move) × Led l h (desked r.world id d x v) (logs_of (set s.views id (moved st o v lying slots me).0)) →
      IfSome x.slot IsPacket →
      SeesDesks (desked r.world id d x v) (moved st o v lying slots me).0 → KnowsDesks (moved st o v lying slots me).0
      → ((after : Ruled l (stepped s k x.word id me.1 (moved st o v lying slots me).0 a))
      × (after.world ≡ desked r.world id d x v))
      × Moved st o v lying slots me ((moved st o v lying slots me).0, carried_after me.1 a)
  ruled st o x v lying slots a law headers home carried part desk_of quiet told_by packet sees knows_desks =
      let u : World = desked r.world id d x v in
      let size : length (set r.world.desks d x) ≡ length r.world.desks = length-set r.world.desks d x in
      let count : length u.desks ≡ u.limits.desks = size ∙ r.desks.count in
      let n : Known = (moved st o v lying slots me).0 in
      let is : view_at u.views id ≡ v =
      get_or-set_same r.world.views id v (empty_view 0) (here l s r id me at busy) in
      let mine = my_limits l s r id me at busy in
      let after : Ruled l (stepped s k x.word id me.1 n a) = record {
        world = u;
        words_are = ap (λ (ws : List ℕ). set ws k x.word) r.words_are ∙ desk_set x;
        homes_are =
            home
            ∙ (ap (λ (hs : List (maybe.Option Slot)). set hs d (home_of x)) r.homes_are
            ∙ sym (map-set home_of r.world.desks d x));
        views_are =
            map-set view_in s.views id n
            ∙ ap (λ (vs : List View). set vs id v) r.views_are;
        limits = r.limits;
        pool = r.pool;
        stack = stack_of u law;
        counts = counts_of u law headers;
        desks = desks_of u law count;
        told = told_again l s.views id n r.told mine;
        packets = packets_set r.world.desks d x desk_inside packet r.packets;
        lies = λ j z e.
            ⊎_elim (λ (y : (j ≡ id) × (n ≡ z)). subst (SeesDesks u) y.1 sees)
            (λ (y : (j ≢ id) × (get_elem? s.views j ≡ some z)). others_blind u j z y.0 y.1)
            (at_set s.views id j n z e);
        changed =
            (let before = r.changed in
            let sum = sum_set s.views id me.0 n at in
            let one = one_step me.0 n st o refl refl in
            omega arith);
        idle = idle_again s.views id n r.idle (λ none. absurd (let some = busy.0 in omega arith));
        opened = λ all. absurd (none_unmoved s.views id me.0 n (st, o) at refl all);
        history = told_by.0;
        led = told_by.1;
      } in (
        (after, refl),
        (
          (λ i. (n, carried i)),
          subst (λ (z : Limits). Owned z v) (r.limits ∙ sym mine)
              (owned_of u law headers id v is (subst (λ (m : ℕ). 0 < m) (sym part) busy.0)
              (subst (λ (z : Limits). IsPool z) (sym r.limits) r.pool)),
          desk_of,
          knows_desks,
        ),
      )
