-- What a packet that is lent holds goes from its giver's holds to the new seat's in the table, and
-- nothing else moves.
use Rattle.std.proofs.Common.{◌≡◌, ◌≢◌, ℕ, zero, suc, ◌<◌, List, [], ◌∷◌, ◌++◌, length, replicate, set, refl, sym, ap, ◌∙◌, arith}
use Rattle.std.proofs.lemmas.List.{get_or_past, length-set}
use Rattle.commons.specs.Bag.{bag}
use Rattle.commons.specs.Packets.{holds_of_packet}
use Rattle.step_core.specs.Bags.{Includes}
use Rattle.step_core.specs.Headers.{OwnsHeaders}
use Rattle.step_core.specs.declared.view.View.{View}
use Rattle.step_core.specs.Shows.{standing, ShowsTable}
use Rattle.step_core.specs.Table.{Held, Table, Same}
use Rattle.step_core.specs.World.{World, Packet, empty_view, view_at, view_of, link_in}
use Rattle.step_core.proofs.Bags.{times-nil, times-append, at_or_else}
use Rattle.step_core.proofs.Events.{read_here, read_else, read_kept, same_at}
use Rattle.step_core.proofs.HeldEvents.{at_place, is_held}
use Rattle.step_core.proofs.Shows.{spells_same, times-replicate_here, times-replicate_other}
use Rattle.ground.specs.History.{HoldsGo, GoToHolds}
use Rattle.ground.specs.Parting.{parting, parcel_view}
use Rattle.ground.proofs.Lending.{has_place, push_kept, push_last}
use Rattle.ground.proofs.Reviews.{parcel_views, parted_holds}

-- but for the new view, each stands where it did
push_else : (views : List View) (u : View) (n : ℕ) → n ≢ suc (length views) →
    view_of (views ++ u ∷ []) n ≡ view_of views n
push_else views u zero other = refl
push_else [] u (suc zero) other = absurd (other refl)
push_else [] u (suc (suc m)) other = refl
push_else (v ∷ vs) u (suc zero) other = refl
push_else (v ∷ vs) u (suc (suc m)) other =
    push_else vs u (suc m) (λ e. other (let same : suc m ≡ suc (length vs) = e in omega arith))

module _ (w : World) (k : ℕ) (p : Packet) (some : 0 < (view_at w.views k).part)
    (held : Includes (view_at w.views k).holds (holds_of_packet p)) (owns : OwnsHeaders (view_at w.views k) p) where
  abbrev after : World
  after = record w { views = parcel_views w.views k p }

  abbrev left : View
  left = parting p (view_at w.views k)

  -- the numbers of the giver and of the new seat
  abbrev mine : ℕ
  mine = suc k

  abbrev theirs : ℕ
  theirs = suc (length w.views)

  here : k < length w.views
  here = has_place w.views k some

  size : length (set w.views k left) ≡ length w.views
  size = length-set w.views k left

  -- a number of each view: that of the giver, that of the new seat, and that of any other
  module _ (f : View → ℕ) where
    at_giver : f (view_of after.views mine) ≡ f left
    at_giver =
        ap f (push_else (set w.views k left) (parcel_view p) mine
        (λ e. (let inside = here in let same = size in absurd (omega arith))))
        ∙ read_here w.views k left here f

    at_new : f (view_of after.views theirs) ≡ f (parcel_view p)
    at_new =
        ap f (ap (λ (n : ℕ). view_at after.views n) (sym size) ∙ push_last (set w.views k left) (parcel_view p))

    none_before : f (view_of w.views theirs) ≡ f (empty_view 0)
    none_before = ap f (get_or_past w.views (length w.views) (empty_view 0) (omega arith))

    at_other : (n : ℕ) → mine ≢ n → theirs ≢ n → f (view_of after.views n) ≡ f (view_of w.views n)
    at_other n not_one not_two =
        ap f (push_else (set w.views k left) (parcel_view p) n (λ e. not_two (sym (e ∙ ap suc size))))
        ∙ read_else w.views k left here f n (λ e. not_one (sym e))

    kept : f left ≡ f (view_at w.views k) → f (parcel_view p) ≡ f (empty_view 0) → (n : ℕ) →
        f (view_of w.views n) ≡ f (view_of after.views n)
    kept same none n =
        sym (push_kept f (set w.views k left) (parcel_view p) none n ∙ read_kept w.views k left here f same n)

  module _ (t r : Table) (before : ShowsTable w t) (later : ShowsTable after r) (j : ℕ)
      (below : j < w.limits.population) where
    -- how often the packet holds the element
    abbrev times : ℕ
    times = bag (holds_of_packet p) j

    -- the giver has that many fewer holds, the new seat has them, and all else is as before
    goes : 0 < times → HoldsGo times mine theirs (t j) (r j)
    goes listed =
        let fewer = parted_holds (view_at w.views k) p held owns j in
        let new = at_new (λ v. bag v.holds j) in
        let g =
        is_held (standing w before.common j) (before.one j below) mine (omega arith) (t j) (before.stands j below) in
        let h =
        is_held (standing after later.common j) (later.one j below) theirs (omega arith) (r j)
        (later.stands j below) in
        at_place (λ q. HoldsGo times mine theirs q (r j)) (t j) (Held g.0 g.1) g.2
        (at_place (HoldsGo times mine theirs (Held g.0 g.1)) (r j) (Held h.0 h.1) h.2
        (holders g.0 h.0 g.3.1 h.3.1, λ d. g.3.2 d ∙ sym (h.3.2 d)))
      where
        apart : theirs ≢ mine
        apart e = (let inside = here in absurd (omega arith))

        holders : (ws vs : List ℕ) → ((y : ℕ) → bag ws y ≡ (standing w before.common j).holder y) →
            ((y : ℕ) → bag vs y ≡ (standing after later.common j).holder y) → (y : ℕ) →
            bag (replicate times theirs ++ ws) y ≡ bag (replicate times mine ++ vs) y
        holders ws vs a b =
            at_or_else mine
            (λ y. bag (replicate times theirs ++ ws) y ≡ bag (replicate times mine ++ vs) y)
            (let fewer = parted_holds (view_at w.views k) p held owns j in
            let one = at_giver (λ v. bag v.holds j) in
            let c = a mine in
            let d = b mine in
            omega (
              arith,
              times-append mine (replicate times theirs) ws,
              times-append mine (replicate times mine) vs,
              times-replicate_here times mine,
              times-replicate_other times mine theirs apart,
            ))
            (λ y not_one.
            at_or_else theirs
            (λ z. mine ≢ z → bag (replicate times theirs ++ ws) z ≡ bag (replicate times mine ++ vs) z)
            (λ other.
            let one = at_new (λ v. bag v.holds j) in
            let none = none_before (λ v. bag v.holds j) in
            let c = a theirs in
            let d = b theirs in
            omega (
              arith,
              times-nil j,
              times-append theirs (replicate times theirs) ws,
              times-append theirs (replicate times mine) vs,
              times-replicate_here times theirs,
              times-replicate_other times theirs mine other,
            ))
            (λ z not_two other.
            let same = at_other (λ v. bag v.holds j) z other not_two in
            let c = a z in
            let d = b z in
            omega (
              arith,
              times-append z (replicate times theirs) ws,
              times-append z (replicate times mine) vs,
              times-replicate_other times z theirs not_two,
              times-replicate_other times z mine other,
            ))
            y not_one)

    stays : times ≡ 0 → Same (t j) (r j)
    stays none =
        same_at w after t r w.limits.population refl refl before later j below
        (ap (λ (ys : List ℕ). bag ys j)
        (spells_same (link_in w.links) w.head.top before.common later.common before.spelled later.spelled))
        (record {
          hand =
              λ n.
              (let a = kept (λ v. bag v.hand j) refl refl n in
              let b = kept (λ v. bag v.zeros j) refl refl n in
              omega arith);
          holder =
              kept (λ v. bag v.holds j)
              (let fewer = parted_holds (view_at w.views k) p held owns j in omega arith)
              (omega (arith, times-nil j));
          desk = λ d. refl;
        })

  pub holds_go_on : (t r : Table) → ShowsTable w t → ShowsTable after r →
      GoToHolds w.limits.population (holds_of_packet p) (suc k) (suc (length w.views)) t r
  holds_go_on t r before later j below = (goes t r before later j below, stays t r before later j below)
