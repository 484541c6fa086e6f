-- What a seat knows is cut in two, or without an element or a packet that is lent, and the rule
-- stands.
use Rattle.std.proofs.Common.{◌≡◌, ℕ, ◌<◌, ◌≤◌, List, [], ◌∷◌, ◌++◌, set, refl, sym, ap, ◌∙◌, subst, ⊎_elim, arith}
use Rattle.std.proofs.lemmas.List.{map-append}
use lib.Seq.{map-set}
use mathlib.Core.Option.{some}
use lib.ListN.{get_elem?}
use Rattle.atomic_table.specs.Table.{Splits}
use Rattle.atomic_table.proofs.Lists.{at_snoc}
use Rattle.commons.specs.Bag.{bag}
use Rattle.commons.specs.declared.limits.Limits.{Limits}
use Rattle.commons.specs.Packets.{holds_of_packet}
use Rattle.commons.proofs.PacketBags.{own_held}
use Rattle.step_core.specs.Bags.{Includes}
use Rattle.step_core.proofs.Bags.{times-nil}
use Rattle.step_core.specs.declared.view.View.{View}
use Rattle.step_core.specs.World.{World, Packet, view_at, empty_view, worker_part}
use Rattle.step_core.specs.Law.{Lawful}
use Rattle.step_core.specs.Headers.{HeaderLaw, OwnsHeaders}
use Rattle.ground.specs.declared.known.Known.{Known}
use Rattle.ground.specs.Own.{Owned, AtRest}
use Rattle.ground.specs.Parting.{less, less_part, newcomer, lending, loan_of, left_by_lending, lent_part, parting, parcel_view, left_by_parcel, lent_parcel}
use Rattle.ground.specs.Rule.{Ruled, view_in}
use Rattle.ground.proofs.Reviews.{split_lawful, split_headers, lent_lawful, lent_headers, lent_elements, parcel_lawful, parcel_headers, parted_holds, parted_headers, parted_held}
use Rattle.ground.proofs.Rules.{stack_of, counts_of, desks_of}
use Rattle.ground.specs.Changing.{IsUnmoved}
use Rattle.ground.specs.History.{Log, Split, Lent, Parcelled, log_of, logs_of}
use Rattle.ground.proofs.History.{same_logs}
use Rattle.ground.proofs.Changing.{sum_cut, unmoved_cut}
use Rattle.ground.proofs.Playing.{idle_again}
use Rattle.ground.proofs.Sitting.{law_of, here, is, told_set, told_push, seen_set, seen_push}

pub owned_less : (l : Limits) (v : View) → worker_part < v.part → Owned l v → Owned l (less v)
owned_less l v two o = record {
  pool = o.pool;
  busy = omega arith;
  within = (let w = o.within in omega arith);
  hand_once = o.hand_once;
  hand_below = o.hand_below;
  held_below = o.held_below;
  apart = o.apart;
  header_once = o.header_once;
  header_held = o.header_held;
  look = o.look;
  chain = o.chain;
}

-- the world once this view, at this index, is cut in two
abbrev split_at : World → ℕ → View → World
split_at w id v = record w { views = set w.views id (less v) ++ empty_view worker_part ∷ [] }

pub splits : (l : Limits) (id : ℕ) (n : Known) → worker_part < n.view.part →
    Splits (Ruled l) id n (less_part n) (newcomer n)
splits l id n two s r at =
    let w = r.world in
    let mine : n.limits ≡ l = r.told id n at (omega arith) in
    let same = is l s r id n at in
    let two' : worker_part < (view_at w.views id).part = subst (λ (v : View). worker_part < v.part) (sym same) two in
    let law =
    subst (λ (v : View). Lawful (split_at w id v)) same
    (split_lawful w id (here l s r id n at) two' (law_of l s r) r.counts.headers) in
    let headers =
    subst (λ (v : View). HeaderLaw (split_at w id v)) same
    (split_headers w id (here l s r id n at) two' (law_of l s r) r.counts.headers) in
    record {
      world = split_at w id n.view;
      words_are = r.words_are;
      homes_are = r.homes_are;
      views_are =
          map-append view_in (set s.views id (less_part n)) (newcomer n ∷ [])
          ∙ ap (λ (vs : List View). vs ++ empty_view worker_part ∷ [])
          (map-set view_in s.views id (less_part n)
          ∙ ap (λ (vs : List View). set vs id (less n.view)) r.views_are);
      limits = r.limits;
      pool = r.pool;
      stack = stack_of _ law;
      counts = counts_of _ law headers;
      desks = desks_of _ law r.desks.count;
      told = told_push l (set s.views id (less_part n)) (newcomer n)
          (told_set l s.views id (less_part n) r.told (λ _. mine)) mine;
      packets = r.packets;
      lies = seen_push w (set s.views id (less_part n)) (newcomer n)
          (seen_set w s.views id (less_part n) r.lies refl) refl;
      changed =
          (let before = r.changed in
          let same = sum_cut s.views id n (less_part n) (newcomer n) at refl refl in
          omega arith);
      idle = λ j o e none.
          ⊎_elim
          (λ (x : get_elem? (set s.views id (less_part n)) j ≡ some o).
          idle_again s.views id (less_part n) r.idle (λ z. absurd (omega arith)) j o x none)
          (λ (x : newcomer n ≡ o). subst IsUnmoved x (record { steps = refl; joined = refl }))
          (at_snoc (set s.views id (less_part n)) (newcomer n) o j e);
      opened = λ all.
          ap (λ (z : World). split_at z id n.view) (r.opened
          (unmoved_cut s.views id n (less_part n) (newcomer n) at (λ h. record { steps = h.steps; joined = h.joined }) all));
      history = Split id ∷ r.history;
      led = (
        w,
        logs_of s.views,
        law_of l s r,
        r.led,
        (
          two',
          (λ i. split_at w id (sym same i)),
          map-append log_of (set s.views id (less_part n)) (newcomer n ∷ [])
              ∙ ap (λ (xs : List Log). xs ++ ([], []) ∷ []) (same_logs s.views id n (less_part n) at refl),
        ),
      );
    }

-- ---- an element that is lent

pub owned_lending : (l : Limits) (i : ℕ) (v : View) → 2 ≤ v.part → 0 < bag v.hand i → Owned l v → Owned l (lending i v)
owned_lending l i v two has o =
    let fewer = lent_elements v.hand i has in
    record {
      pool = o.pool;
      busy = omega arith;
      within = (let w = o.within in omega arith);
      hand_once = λ j. let a = o.hand_once j in let b = fewer j in omega arith;
      hand_below = λ j h. let a = o.hand_below j h in let b = fewer j in omega arith;
      held_below = o.held_below;
      apart = λ j h. let a = o.apart j h in let b = fewer j in omega arith;
      header_once = o.header_once;
      header_held = o.header_held;
      look = o.look;
      chain = o.chain;
    }

pub owned_loan : (l : Limits) (i : ℕ) (v : View) → 0 < bag v.hand i → Owned l v → Owned l (loan_of i)
owned_loan l i v has o =
    let fewer = lent_elements v.hand i has in
    record {
      pool = o.pool;
      busy = omega arith;
      within = (let some = o.busy in let w = o.within in omega arith);
      hand_once = λ j. let a = o.hand_once j in let b = fewer j in omega (arith, times-nil j);
      hand_below = λ j h. let a = o.hand_below j h in let b = fewer j in omega (arith, times-nil j);
      held_below = λ j h. times-nil j;
      apart = λ j h. absurd (omega (arith, times-nil j));
      header_once = λ j. omega (arith, times-nil j);
      header_held = λ j h. absurd (omega (arith, times-nil j));
      look = tt;
      chain = tt;
    }

-- the world once an element of the hand of this view, at this index, is a new view's
abbrev lent_at : World → ℕ → ℕ → View → World
lent_at w id i v = record w { views = set w.views id (lending i v) ++ loan_of i ∷ [] }

pub lends : (l : Limits) (id i : ℕ) (n : Known) → 2 ≤ n.view.part → AtRest n.view → 0 < bag n.view.hand i →
    Splits (Ruled l) id n (left_by_lending i n) (lent_part i n)
lends l id i n two rest has s r at =
    let w = r.world in
    let left : Known = left_by_lending i n in
    let new : Known = lent_part i n in
    let mine : n.limits ≡ l = r.told id n at (omega arith) in
    let same = is l s r id n at in
    let two' : 2 ≤ (view_at w.views id).part = subst (λ (v : View). 2 ≤ v.part) (sym same) two in
    let rest' : AtRest (view_at w.views id) = subst AtRest (sym same) rest in
    let has' : 0 < bag (view_at w.views id).hand i = subst (λ (v : View). 0 < bag v.hand i) (sym same) has in
    let law =
    subst (λ (v : View). Lawful (lent_at w id i v)) same
    (lent_lawful w id i (here l s r id n at) two' has' rest'.chain (law_of l s r) r.counts.headers) in
    let headers =
    subst (λ (v : View). HeaderLaw (lent_at w id i v)) same
    (lent_headers w id i (here l s r id n at) two' has' rest'.chain (law_of l s r) r.counts.headers) in
    record {
      world = lent_at w id i n.view;
      words_are = r.words_are;
      homes_are = r.homes_are;
      views_are =
          map-append view_in (set s.views id left) (new ∷ [])
          ∙ ap (λ (vs : List View). vs ++ loan_of i ∷ [])
          (map-set view_in s.views id left
          ∙ ap (λ (vs : List View). set vs id (lending i n.view)) r.views_are);
      limits = r.limits;
      pool = r.pool;
      stack = stack_of _ law;
      counts = counts_of _ law headers;
      desks = desks_of _ law r.desks.count;
      told = told_push l (set s.views id left) new (told_set l s.views id left r.told (λ _. mine)) mine;
      packets = r.packets;
      lies = seen_push w (set s.views id left) new (seen_set w s.views id left r.lies refl) refl;
      changed = (let before = r.changed in let same = sum_cut s.views id n left new at refl refl in omega arith);
      idle = λ j o e none.
          ⊎_elim
          (λ (x : get_elem? (set s.views id left) j ≡ some o).
          idle_again s.views id left r.idle (λ z. absurd (omega arith)) j o x none)
          (λ (x : new ≡ o). subst IsUnmoved x (record { steps = refl; joined = refl }))
          (at_snoc (set s.views id left) new o j e);
      opened = λ all.
          ap (λ (z : World). lent_at z id i n.view)
          (r.opened (unmoved_cut s.views id n left new at (λ h. record { steps = h.steps; joined = h.joined }) all));
      history = Lent id i ∷ r.history;
      led = (
        w,
        logs_of s.views,
        law_of l s r,
        r.led,
        (
          two',
          rest',
          has',
          (λ x. lent_at w id i (sym same x)),
          map-append log_of (set s.views id left) (new ∷ [])
              ∙ ap (λ (xs : List Log). xs ++ ([], []) ∷ []) (same_logs s.views id n left at refl),
        ),
      );
    }

-- ---- a packet that is lent

pub owned_parting : (l : Limits) (p : Packet) (v : View) → 2 ≤ v.part → Includes v.holds (holds_of_packet p) →
    OwnsHeaders v p → Owned l v → Owned l (parting p v)
owned_parting l p v two held owns o = record {
  pool = o.pool;
  busy = omega arith;
  within = (let w = o.within in omega arith);
  hand_once = o.hand_once;
  hand_below = o.hand_below;
  held_below = λ j h. (let a = o.held_below j h in let b = parted_holds v p held owns j in omega arith);
  apart = λ j h. o.apart j (let b = parted_holds v p held owns j in omega arith);
  header_once = λ j. (let a = o.header_once j in let b = parted_headers v p held owns j in omega arith);
  header_held = parted_held v p held owns;
  look = o.look;
  chain = o.chain;
}

pub owned_parcel : (l : Limits) (p : Packet) (v : View) → Includes v.holds (holds_of_packet p) → OwnsHeaders v p →
    Owned l v → Owned l (parcel_view p)
owned_parcel l p v held owns o = record {
  pool = o.pool;
  busy = omega arith;
  within = (let some = o.busy in let w = o.within in omega arith);
  hand_once = λ j. omega (arith, times-nil j);
  hand_below = λ j h. omega (arith, times-nil j);
  held_below = λ j h. (let a = o.held_below j h in let b = held j in omega arith);
  apart = λ j h. omega (arith, times-nil j);
  header_once = owns.0;
  header_held = λ j h. (let own = own_held p j in omega arith);
  look = tt;
  chain = tt;
}

-- the world once a packet of this view, at this index, is a new view's
abbrev parcelled_at : World → ℕ → Packet → View → World
parcelled_at w id p v = record w { views = set w.views id (parting p v) ++ parcel_view p ∷ [] }

pub parcels : (l : Limits) (id : ℕ) (p : Packet) (n : Known) → 2 ≤ n.view.part → AtRest n.view →
    Includes n.view.holds (holds_of_packet p) → OwnsHeaders n.view p →
    Splits (Ruled l) id n (left_by_parcel p n) (lent_parcel p n)
parcels l id p n two rest held owns s r at =
    let w = r.world in
    let left : Known = left_by_parcel p n in
    let new : Known = lent_parcel p n in
    let mine : n.limits ≡ l = r.told id n at (omega arith) in
    let same = is l s r id n at in
    let two' : 2 ≤ (view_at w.views id).part = subst (λ (v : View). 2 ≤ v.part) (sym same) two in
    let rest' : AtRest (view_at w.views id) = subst AtRest (sym same) rest in
    let held' : Includes (view_at w.views id).holds (holds_of_packet p) =
    subst (λ (v : View). Includes v.holds (holds_of_packet p)) (sym same) held in
    let owns' : OwnsHeaders (view_at w.views id) p = subst (λ (v : View). OwnsHeaders v p) (sym same) owns in
    let law =
    subst (λ (v : View). Lawful (parcelled_at w id p v)) same
    (parcel_lawful w id p (here l s r id n at) two' held' owns' (law_of l s r) r.counts.headers) in
    let headers =
    subst (λ (v : View). HeaderLaw (parcelled_at w id p v)) same
    (parcel_headers w id p (here l s r id n at) two' held' owns' (law_of l s r) r.counts.headers) in
    record {
      world = parcelled_at w id p n.view;
      words_are = r.words_are;
      homes_are = r.homes_are;
      views_are =
          map-append view_in (set s.views id left) (new ∷ [])
          ∙ ap (λ (vs : List View). vs ++ parcel_view p ∷ [])
          (map-set view_in s.views id left
          ∙ ap (λ (vs : List View). set vs id (parting p n.view)) r.views_are);
      limits = r.limits;
      pool = r.pool;
      stack = stack_of _ law;
      counts = counts_of _ law headers;
      desks = desks_of _ law r.desks.count;
      told = told_push l (set s.views id left) new (told_set l s.views id left r.told (λ _. mine)) mine;
      packets = r.packets;
      lies = seen_push w (set s.views id left) new (seen_set w s.views id left r.lies refl) refl;
      changed = (let before = r.changed in let same = sum_cut s.views id n left new at refl refl in omega arith);
      idle = λ j o e none.
          ⊎_elim
          (λ (x : get_elem? (set s.views id left) j ≡ some o).
          idle_again s.views id left r.idle (λ z. absurd (omega arith)) j o x none)
          (λ (x : new ≡ o). subst IsUnmoved x (record { steps = refl; joined = refl }))
          (at_snoc (set s.views id left) new o j e);
      opened = λ all.
          ap (λ (z : World). parcelled_at z id p n.view)
          (r.opened (unmoved_cut s.views id n left new at (λ h. record { steps = h.steps; joined = h.joined }) all));
      history = Parcelled id p ∷ r.history;
      led = (
        w,
        logs_of s.views,
        law_of l s r,
        r.led,
        (
          two',
          rest',
          held',
          owns',
          (λ x. parcelled_at w id p (sym same x)),
          map-append log_of (set s.views id left) (new ∷ [])
              ∙ ap (λ (xs : List Log). xs ++ ([], []) ∷ []) (same_logs s.views id n left at refl),
        ),
      );
    }
