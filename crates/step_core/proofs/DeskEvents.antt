-- What the desk steps do to the table.
use Rattle.std.proofs.Common.{◌≡◌, ℕ, suc, ◌+◌, ◌-◌, ◌<◌, ◌≢◌, List, ◌++◌, Option, length, set, replicate, refl, sym, ap, ◌∙◌, arith, get_or-set_other, get_or-set_same}
use Rattle.commons.specs.Bag.{bag}
use Rattle.commons.specs.Packets.{holds_of_packet}
use Rattle.step_core.specs.Bags.{minus, Includes}
use Rattle.step_core.specs.World.{Work, View, Desk, Packet, World, view_at, no_desk, desk_at, link_in, shelf}
use Rattle.step_core.specs.Table.{Place, Common, Hand, Held, Table, Offer, Take, Same, Passed, desk_holds, EventMoves, SameTable}
use Rattle.step_core.specs.Shows.{Standing, standing, Stands, OnePlace, ShowsTable}
use Rattle.step_core.proofs.Bags.{times-append, times-minus, at_or_else}
use Rattle.step_core.proofs.Desks.{worked}
use Rattle.step_core.proofs.Shows.{spells_same, times-replicate_here, times-replicate_other}
use Rattle.step_core.proofs.Events.{read_here, read_else, read_kept, same_at}
use Rattle.step_core.proofs.HeldEvents.{held_place, is_held, at_place}

module _ (w : World) (k d : ℕ) (here : k < length w.views) (inside : d < length w.desks) (x : Desk)
    (hs rs : List ℕ) (work : Option Work) (t s : Table) (a : ShowsTable w t)
    (b : ShowsTable (worked w k d x hs rs work) s) where
  same_list : a.common ≡ b.common
  same_list = spells_same (link_in w.links) w.head.top a.common b.common a.spelled b.spelled

  new_view : View
  new_view = record (view_at w.views k) { holds = hs; headers = rs; work = work }

  desk_here : (i : ℕ) → bag (shelf (desk_at (set w.desks d x) d)) i ≡ bag (shelf x) i
  desk_here i = ap (λ (o : Desk). bag (shelf o) i) (get_or-set_same w.desks d x no_desk inside)

  desk_else : (i e : ℕ) → d ≢ e → bag (shelf (desk_at (set w.desks d x) e)) i ≡ bag (shelf (desk_at w.desks e)) i
  desk_else i e n = ap (λ (o : Desk). bag (shelf o) i) (get_or-set_other w.desks d e x no_desk (λ h. n (sym h)))

  beside : (i : ℕ) → i < w.limits.population → bag hs i ≡ bag (view_at w.views k).holds i →
      bag (shelf x) i ≡ bag (shelf (desk_at w.desks d)) i → Same (t i) (s i)
  unfolding new_view
  beside i lt holds shelves =
      same_at w (worked w k d x hs rs work) t s w.limits.population refl refl a b i lt
      (ap (λ (xs : List ℕ). bag xs i) same_list) (record {
        hand = λ j. sym (read_kept w.views k new_view here (λ v. bag v.hand i + bag v.zeros i) refl j);
        holder = λ j. sym (read_kept w.views k new_view here (λ v. bag v.holds i) holds j);
        desk =
            at_or_else d
            (λ e. bag (shelf (desk_at w.desks e)) i ≡ bag (shelf (desk_at (set w.desks d x) e)) i)
            (sym shelves ∙ sym (desk_here i)) (λ e n. sym (desk_else i e n));
      })

  -- a step that moves nothing
  pub quiet_desk : ((i : ℕ) → bag hs i ≡ bag (view_at w.views k).holds i) →
      ((i : ℕ) → bag (shelf x) i ≡ bag (shelf (desk_at w.desks d)) i) →
      SameTable w.limits.population t s
  quiet_desk holds shelves i lt = beside i lt (holds i) (shelves i)

  no_holds_on : (st : Standing) (p : Place) → Stands st p → st.desk d ≡ 0 → desk_holds d p ≡ 0
  no_holds_on st Common h e = refl
  no_holds_on st (Hand j) h e = refl
  no_holds_on st (Held ws ds) h e = h.2 d ∙ e

  holds_on : (st : Standing) (one : OnePlace st) (p : Place) → Stands st p → (n : ℕ) →
      st.desk d ≡ n → desk_holds d p ≡ n
  holds_on st one Common h n e = sym (one.common_alone h d).2 ∙ e
  holds_on st one (Hand j) h n e = sym (one.hand_alone j h d).1 ∙ e
  holds_on st one (Held ws ds) h n e = h.2 d ∙ e

  pub offers : (p : Packet) → Includes (view_at w.views k).holds (holds_of_packet p) →
      hs ≡ minus (view_at w.views k).holds (holds_of_packet p)
      → ((i : ℕ) → bag (shelf (desk_at w.desks d)) i ≡ 0) →
      ((i : ℕ) → bag (shelf x) i ≡ bag (holds_of_packet p) i) →
      EventMoves w.limits.population (Offer (suc k) d (holds_of_packet p)) t s
  unfolding new_view
  offers p all is none full = (
    tt,
    λ i lt.
        let o = a.one i lt in
        let r = b.one i lt in
        let sa = standing w a.common i in
        let sb = standing (worked w k d x hs rs work) b.common i in
        let n = bag (holds_of_packet p) i in
        let mine : bag hs i ≡ bag (view_at w.views k).holds i - n =
        ap (λ (xs : List ℕ). bag xs i) is
        ∙ times-minus i (view_at w.views k).holds (holds_of_packet p) in
        let le = all i in (
          no_holds_on sa (t i) (a.stands i lt) (none i),
          (
            (λ f.
                let g =
                is_held sa o (suc k)
                (let c : 0 < bag (view_at w.views k).holds i = omega arith in c) (t i)
                (a.stands i lt) in
                let full_now : 0 < sb.desk d =
                (
                let c = desk_here i in
                let e = full i in
                let q : 0 < bag (shelf (desk_at (set w.desks d x) d)) i = omega arith in
                q) in
                let h =
                held_place sb (s i) (λ c. let e = (r.common_alone c d).2 in omega arith)
                (λ j c. let e = (r.hand_alone j c d).1 in omega arith) (b.stands i lt) in
                at_place (λ q. Passed n (suc k) d q (s i)) (t i) (Held g.0 g.1) g.2 (at_place
                (Passed n (suc k) d (Held g.0 g.1)) (s i) (Held h.0 h.1) h.2 (
                  at_or_else (suc k) (λ y. bag g.0 y ≡ bag (replicate n (suc k) ++ h.0) y)
                      (
                      let c = g.3.1 (suc k) in
                      let e = h.3.1 (suc k) in
                      let v = read_here w.views k new_view here (λ v. bag v.holds i) in
                      omega (
                        arith,
                        times-append (suc k) (replicate n (suc k)) h.0,
                        times-replicate_here n (suc k),
                      ))
                      (λ y m. let c =
                      g.3.1 y in let e =
                      h.3.1 y in let v =
                      read_else w.views k new_view here (λ v. bag v.holds i) y
                      (λ z. m (sym z)) in omega (
                        arith,
                        times-append y (replicate n (suc k)) h.0,
                        times-replicate_other n y (suc k) m,
                      )),
                  at_or_else d (λ y. bag h.1 y ≡ bag (replicate n d ++ g.1) y)
                      (
                      let c = g.3.2 d in
                      let e = h.3.2 d in
                      let v = desk_here i in
                      let z = none i in
                      let q = full i in
                      omega (
                        arith,
                        times-append d (replicate n d) g.1,
                        times-replicate_here n d,
                      ))
                      (λ y m. let c =
                      g.3.2 y in let e =
                      h.3.2 y in let v =
                      desk_else i y m in omega (
                        arith,
                        times-append y (replicate n d) g.1,
                        times-replicate_other n y d m,
                      )),
                ))),
            (λ f. beside i lt (omega arith) (let z = none i in let q = full i in omega arith)),
          ),
        ),
  )

  pub takes : (p : Packet) → hs ≡ (view_at w.views k).holds ++ holds_of_packet p
      → ((i : ℕ) → bag (shelf (desk_at w.desks d)) i ≡ bag (holds_of_packet p) i) →
      ((i : ℕ) → bag (shelf x) i ≡ 0) →
      EventMoves w.limits.population (Take (suc k) d (holds_of_packet p)) t s
  unfolding new_view
  takes p is full none = (
    tt,
    λ i lt.
        let o = a.one i lt in
        let r = b.one i lt in
        let sa = standing w a.common i in
        let sb = standing (worked w k d x hs rs work) b.common i in
        let n = bag (holds_of_packet p) i in
        let mine : bag hs i ≡ bag (view_at w.views k).holds i + n =
        ap (λ (xs : List ℕ). bag xs i) is
        ∙ times-append i (view_at w.views k).holds (holds_of_packet p) in (
          holds_on sa o (t i) (a.stands i lt) n (full i),
          (
            (λ f.
                let was : 0 < sa.desk d =
                (
                let e = full i in
                let q : 0 < bag (shelf (desk_at w.desks d)) i = omega arith in
                q) in
                let g =
                held_place sa (t i) (λ c. let e = (o.common_alone c d).2 in omega arith)
                (λ j c. let e = (o.hand_alone j c d).1 in omega arith) (a.stands i lt) in
                let v = read_here w.views k new_view here (λ v. bag v.holds i) in
                let h =
                is_held sb r (suc k) (
                let c : 0 < bag (view_at (set w.views k new_view) k).holds i =
                omega arith in
                c) (s i) (b.stands i lt) in
                at_place (λ q. Passed n (suc k) d (s i) q) (t i) (Held g.0 g.1) g.2 (at_place
                (λ q. Passed n (suc k) d q (Held g.0 g.1)) (s i) (Held h.0 h.1) h.2 (
                  at_or_else (suc k) (λ y. bag h.0 y ≡ bag (replicate n (suc k) ++ g.0) y)
                      (
                      let c = g.3.1 (suc k) in
                      let e = h.3.1 (suc k) in
                      omega (
                        arith,
                        times-append (suc k) (replicate n (suc k)) g.0,
                        times-replicate_here n (suc k),
                      ))
                      (λ y m. let c =
                      g.3.1 y in let e =
                      h.3.1 y in let v =
                      read_else w.views k new_view here (λ v. bag v.holds i) y
                      (λ z. m (sym z)) in omega (
                        arith,
                        times-append y (replicate n (suc k)) g.0,
                        times-replicate_other n y (suc k) m,
                      )),
                  at_or_else d (λ y. bag g.1 y ≡ bag (replicate n d ++ h.1) y)
                      (
                      let c = g.3.2 d in
                      let e = h.3.2 d in
                      let v = desk_here i in
                      let z = none i in
                      let q = full i in
                      omega (
                        arith,
                        times-append d (replicate n d) h.1,
                        times-replicate_here n d,
                      ))
                      (λ y m. let c =
                      g.3.2 y in let e =
                      h.3.2 y in let v =
                      desk_else i y m in omega (
                        arith,
                        times-append y (replicate n d) h.1,
                        times-replicate_other n y d m,
                      )),
                ))),
            (λ f. beside i lt (omega arith) (let z = none i in let q = full i in omega arith)),
          ),
        ),
  )
