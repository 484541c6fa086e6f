-- What is lost with the workers who are missing.
use Rattle.std.proofs.Common.{ℕ, ◌≡◌, ◌+◌, inl, inr, not, List, [], ◌∷◌, ◌++◌, refl, sym, ap, subst, arith}
use Rattle.std.specs.Prelude.{All, sum_by}
use Rattle.std.proofs.lemmas.Bool.{cases_Bool}
use Rattle.std.proofs.lemmas.List.Elements.{All-head, All-tail}
use Rattle.std.proofs.lemmas.List.Filters.{sum_by-filter_both}
use Rattle.std.proofs.lemmas.List.Sums.{sum_by-append, sum_by-cons, sum_by-set}
use Rattle.commons.specs.Bag.{bag}
use Rattle.commons.specs.declared.closed.Closed.{Closed}
use Rattle.commons.specs.declared.limits.Limits.{Limits}
use Rattle.commons.specs.Packets.{held_in}
use Rattle.book.specs.Lost.{is_listed, listed_of, unlisted_of}
use Rattle.ground.specs.Closing.{LeftOf}
use Rattle.ground.specs.Own.{AtRest}
use Rattle.ground.specs.Seats.{Grounded}
use Rattle.ground.specs.declared.known.Known.{Known}
use Rattle.ground.proofs.Playing.{view_there}
use Rattle.mbuf.specs.Members.{Member}
use Rattle.snapshot.specs.Closing.{snapshot_of}
use Rattle.snapshot.specs.Lost.{AreLost}
use Rattle.step_core.specs.declared.view.View.{View}
use Rattle.step_core.specs.World.{all_zeros, empty_view}
use Rattle.step_core.proofs.Bags.{times-nil}
use Rattle.word_pool.specs.LostViews.{IsLeftWithout, others}
use Rattle.word_pool.specs.Shares.{AreSharesOf}
use Rattle.word_pool.specs.Lost.{AreLostOf, views_listed}
use Rattle.word_pool.specs.Workers.{WorkerState, IsIdle, IsSeatOf, members_of}
use Rattle.word_pool.specs.inside.Closing.{IsClosedBy}
use Rattle.word_pool.proofs.LostViews.{lost_by}

-- what the views of listed workers have, their caches and packets have
listed_part : (listed : List ℕ) (of_view : View → ℕ) (of_member : Member → ℕ) →
    ((m : WorkerState) → IsIdle m → of_view m.seat.known.view ≡ of_member m.member) → (ms : List WorkerState) → All IsIdle ms →
    sum_by of_view (views_listed listed ms) ≡ sum_by of_member (listed_of listed (members_of ms))
listed_part listed of_view of_member same [] idle = refl
listed_part listed of_view of_member same (m ∷ ms) idle =
    let rest = listed_part listed of_view of_member same ms (All-tail IsIdle m ms idle) in
    let here = same m (All-head IsIdle m ms idle) in
    elim (cases_Bool (is_listed listed m.member.number)) [
      | inl here_is ↦ rw here_is (omega (
        arith,
        rest,
        here,
        sum_by-cons of_view m.seat.known.view (views_listed listed ms),
        sum_by-cons of_member m.member (listed_of listed (members_of ms)),
      ))
      | inr other ↦ rw other rest
    ]

-- who is at rest has no element of count 0
no_zeros : (listed : List ℕ) (i : ℕ) (ms : List WorkerState) → All IsIdle ms → all_zeros i (views_listed listed ms) ≡ 0
no_zeros listed i [] idle = refl
no_zeros listed i (m ∷ ms) idle =
    let rest = no_zeros listed i ms (All-tail IsIdle m ms idle) in
    let here = ap (λ (xs : List ℕ). bag xs i) (All-head IsIdle m ms idle).rest.zeros in
    elim (cases_Bool (is_listed listed m.member.number)) [
      | inl here_is ↦ rw here_is (omega (
        arith,
        rest,
        here,
        times-nil i,
        sum_by-cons (λ (v : View). bag v.zeros i) m.seat.known.view (views_listed listed ms),
      ))
      | inr other ↦ rw other rest
    ]

module _ (g : Grounded) (listed : List ℕ) (ms : List WorkerState) (v : View) (c : Closed) (left : LeftOf g.limits v c)
    (rest : AtRest v) (idle : All IsIdle ms) (shares : AreSharesOf (members_of ms) v) where
  abbrev lost : List View
  lost = others left.world.views left.id ++ views_listed listed ms

  abbrev members : List Member
  members = unlisted_of listed (members_of ms)

  -- all views have what the one has and the others have
  with_others : (f : View → ℕ) → f (empty_view 0) ≡ 0 →
      sum_by f left.world.views ≡ f v + sum_by f (others left.world.views left.id)
  with_others f none =
      let here = view_there left.world.views left.id v left.view in
      let one = sum_by-set f left.world.views left.id (empty_view 0) (empty_view 0) here.0 in
      omega (arith, one, ap f here.1, none)

  -- what members have, those who are listed have and those who aren't
  parted : (f : Member → ℕ) → sum_by f (members_of ms) ≡ sum_by f (listed_of listed (members_of ms)) + sum_by f members
  parted f =
      sym (sum_by-filter_both (λ (m : Member). is_listed listed m.number) (λ (m : Member). not (is_listed listed m.number))
      (λ m. refl) f (members_of ms))

  pub left_without : IsLeftWithout g.limits lost members c
  left_without = record {
    world = left.world;
    law = left.law;
    limits = left.limits;
    top = left.top;
    links = left.links;
    desks = left.desks;
    hands =
        λ i.
        let f : View → ℕ = λ u. bag u.hand i in
        let all = sum_by-append f (others left.world.views left.id) (views_listed listed ms) in
        let own = listed_part listed f (λ (m : Member). bag m.cache i) (λ m is. is.own.cached i) ms idle in
        let both = parted (λ (m : Member). bag m.cache i) in
        omega (arith, with_others f (times-nil i), shares.caches i);
    zeros =
        λ i.
        let f : View → ℕ = λ u. bag u.zeros i in
        let all = sum_by-append f (others left.world.views left.id) (views_listed listed ms) in
        let none = ap (λ (xs : List ℕ). bag xs i) rest.zeros in
        omega (arith, with_others f (times-nil i), no_zeros listed i ms idle, times-nil i);
    holds =
        λ i.
        let f : View → ℕ = λ u. bag u.holds i in
        let all = sum_by-append f (others left.world.views left.id) (views_listed listed ms) in
        let own = listed_part listed f (λ (m : Member). held_in m.table i) (λ m is. omega (arith, is.own.held i)) ms idle in
        let both = parted (λ (m : Member). held_in m.table i) in
        omega (arith, with_others f (times-nil i), shares.packets i);
  }

-- what is lost beside the one seat that closed the ground is what these workers leave lost
pub lost_of_workers : (g : Grounded) (listed : List ℕ) (ms : List WorkerState) (n : Known) (handed : List Member) (elems : List ℕ)
    (l : Limits) (c : Closed) → IsSeatOf ms n → All IsIdle ms → handed ≡ members_of ms → AreSharesOf handed n.view →
    IsClosedBy g n l c → AreLost (snapshot_of l c (unlisted_of listed handed)) elems → AreLostOf g listed ms elems
lost_of_workers g listed ms n handed elems l c one idle same shares closed out =
    let own = subst (λ (xs : List Member). AreSharesOf xs n.view) same shares in
    let there : AreLost (snapshot_of l c (unlisted_of listed (members_of ms))) elems =
    subst (λ (xs : List Member). AreLost (snapshot_of l c (unlisted_of listed xs)) elems) same out in
    let nowhere : AreLost (snapshot_of g.limits c (unlisted_of listed (members_of ms))) elems =
    subst (λ (k : Limits). AreLost (snapshot_of k c (unlisted_of listed (members_of ms))) elems) closed.limits there in
    record {
      known = n;
      seat = one;
      shares = own;
      closed = c;
      left = closed.left;
      settled = nowhere;
      lost =
          lost_by g.limits (others closed.left.world.views closed.left.id ++ views_listed listed ms)
          (unlisted_of listed (members_of ms)) c (left_without g listed ms n.view c closed.left one.rest idle own) elems
          nowhere;
    }
