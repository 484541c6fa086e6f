-- What lies on the desks is what was brought there and not taken, by the notes of all seats.
use Rattle.std.proofs.Common.{◌≡◌, ◌≢◌, ℕ, zero, suc, ◌+◌, ◌<◌, true, List, [], ◌∷◌, ◌++◌, Option, Some, None, is_none, length, set, replicate, refl, sym, ap, ◌∙◌, subst, get_or-set_other, get_or-set_same, arith}
use Rattle.std.specs.Prelude.{IfSome, slice_index, sum_by, ◌==◌, ◌&&◌}
use Rattle.std.proofs.lemmas.Bool.{cond_both, cond-true, cond-false, eq-eqb, eqb-true, ne_eqb, ltb-true, and_parts}
use Rattle.std.proofs.lemmas.List.Sums.{sum_by-cons, sum_by-append, sum_by_push}
use mathlib.Core.Option.{some, some-ne-none, some-injective}
use lib.ListN.{get_elem?}
use Rattle.commons.specs.declared.limits.Limits.{Limits}
use Rattle.step_core.specs.declared.step.Step.{Step}
use Rattle.step_core.specs.declared.step.Step.TheVariants.{LoadLength, Reserve, Add, LoadHead, LoadLink, Cut, StoreLink, Push, Claim, Sole, Raise, Lower, Reset, Hold, PutIn, Open, Seize, TakeOut, Clear}
use Rattle.step_core.specs.declared.step.Outcome.{Outcome}
use Rattle.step_core.specs.declared.step.Outcome.TheVariants.{Value, HeadIs, Won, Got, Lost, LostTo, Done, Found}
use Rattle.step_core.specs.declared.view.Desk.{Desk}
use Rattle.step_core.specs.declared.view.Phase.{Phase}
use Rattle.step_core.specs.declared.view.Phase.TheVariants.{ToFill, Filled, Seized, TakenOut}
use Rattle.step_core.specs.Law.{Lawful}
use Rattle.step_core.specs.Schedules.{slot_at}
use Rattle.step_core.specs.Steps.{Play, play, row, given, reserve, cut, push, hold, put_in, open_desk, open_with, seize, seize_with, take_out, clear, load_link, same_head, in_range, phase_at}
use Rattle.step_core.specs.World.{World, Packet, no_desk, desk_at, link_in, view_at}
use Rattle.step_core.proofs.Bags.{at_or_else}
use Rattle.step_core.proofs.Desks.{phase_there, slot_now, word_filling, word_emptying}
use Rattle.step_core.proofs.Regroup.{four_of_eight}
use Rattle.step_core.proofs.Rows.{when_played, given_played}
use Rattle.step_core.proofs.Rules.{FourLaws}
use Rattle.step_core.proofs.Theorem.{play_is, played_row}
use Rattle.ground.specs.Closing.{lying_on, packet_on}
use Rattle.ground.specs.History.{Log, Move, Stepped, Split, Lent, Parcelled, Joined, MoveLeads, Led, log_of, logs_of, notes_of}
use Rattle.ground.specs.Changing.{IsUnmoved}
use Rattle.ground.specs.declared.known.Known.{Known}
use Rattle.ground.specs.Lying.{opened_by, seized_by, opened_in, seized_in, count_on, notes_in, LieByNotes, NotesTellOfDesks}
use Rattle.ground.specs.Seats.{on_desk}

-- a desk that isn't full has no packet, and a full one has that of its slot
bare_on : (x : Desk) (n : ℕ) → x.word ≡ n → n ≢ 2 → packet_on x ≡ None
bare_on x n is ne = cond-false (x.word == 2) _ _ (ne_eqb x.word 2 (λ e. ne (sym is ∙ e)))

full_on : (x : Desk) → x.word ≡ 2 → packet_on x ≡ x.slot
full_on x is = cond-true (x.word == 2) _ _ (eq-eqb x.word 2 is)

module _ (d : ℕ) (f : Packet → ℕ) where
  abbrev opened_note : Step × Outcome → ℕ
  opened_note note = opened_by d f note.0 note.1

  abbrev seized_note : Step × Outcome → ℕ
  seized_note note = seized_by d f note.0 note.1

  -- these notes tell of what becomes of the packet on the desk
  abbrev Tells : List (Step × Outcome) → Option Packet → Option Packet → Type 0
  Tells notes before after =
      opened_in d f notes + count_on f before ≡ seized_in d f notes + count_on f after

  abbrev Tallied : World → Step → Play → Type 0
  Tallied w s p =
      Tells (notes_of s p.outcome (slot_at w.desks s)) (packet_on (desk_at w.desks d))
      (packet_on (desk_at p.after.desks d))

  none_told : (x y : Option Packet) → x ≡ y → Tells [] x y
  none_told x y e = let c = ap (count_on f) e in omega arith

  one_told : (s : Step) (o : Outcome) (x y : Option Packet) → opened_by d f s o + count_on f x ≡ seized_by d f s o + count_on f y →
      Tells ((s, o) ∷ []) x y
  one_told s o x y e = omega (arith, sum_by-cons opened_note (s, o) [], sum_by-cons seized_note (s, o) [])

  idle : (s : Step) (o : Outcome) (x : Option Packet) → opened_by d f s o ≡ 0 → seized_by d f s o ≡ 0 → Tells ((s, o) ∷ []) x x
  idle s o x a b = one_told s o x x (omega arith)

  -- a desk is exchanged whose packet is the same
  kept_there : (desks : List Desk) (e : ℕ) (x : Desk) → e < length desks → packet_on (desk_at desks e) ≡ None →
      packet_on x ≡ None → packet_on (desk_at desks d) ≡ packet_on (desk_at (set desks e x) d)
  kept_there desks e x inside before after =
      at_or_else e (λ y. packet_on (desk_at desks y) ≡ packet_on (desk_at (set desks e x) y))
      (before ∙ sym (ap packet_on (get_or-set_same desks e x no_desk inside) ∙ after))
      (λ y n. ap packet_on (sym (get_or-set_other desks e y x no_desk (λ s. n (sym s))))) d

  module _ (w : World) (k : ℕ) (here : k < length w.views) (law : FourLaws w) where
    holds_desk : (e : ℕ) → e < length w.desks → Tallied w (Hold e) (hold w k (view_at w.views k) e)
    holds_desk e inside = cond_both ((desk_at w.desks e).word == 0) _ _ (Tallied w (Hold e))
        (λ t.
        subst (λ (y : Option Packet). Tells ((Hold e, Won) ∷ []) (packet_on (desk_at w.desks d)) y)
        (kept_there w.desks e (record { word = 1; slot = (desk_at w.desks e).slot }) inside
        (bare_on (desk_at w.desks e) 0 (eqb-true _ _ t) (λ s. omega arith))
        (bare_on (record { word = 1; slot = (desk_at w.desks e).slot }) 1 refl (λ s. omega arith)))
        (idle (Hold e) Won (packet_on (desk_at w.desks d)) refl refl))
        (λ t. idle (Hold e) (Lost (desk_at w.desks e).word) (packet_on (desk_at w.desks d)) refl refl)

    puts_in : (e : ℕ) (p : Packet) (ph : Phase) → phase_at e (view_at w.views k).work ≡ Some ph → e < length w.desks →
        IfSome (put_in w k (view_at w.views k) e p ph) (Tallied w (PutIn e p))
    puts_in e p ToFill at inside =
        let word = word_filling w k e here law ToFill (phase_there e (view_at w.views k).work ToFill at) refl in
        none_told (packet_on (desk_at w.desks d)) _
        (kept_there w.desks e (record { word = (desk_at w.desks e).word; slot = Some p }) inside
        (bare_on (desk_at w.desks e) 1 word (λ s. omega arith))
        (bare_on (record { word = (desk_at w.desks e).word; slot = Some p }) 1 word (λ s. omega arith)))
    puts_in e p (Filled q) at inside = tt
    puts_in e p (Seized q) at inside = tt
    puts_in e p TakenOut at inside = tt

    takes_out : (e : ℕ) (ph : Phase) → phase_at e (view_at w.views k).work ≡ Some ph → e < length w.desks →
        IfSome (take_out w k (view_at w.views k) e ph) (Tallied w (TakeOut e))
    takes_out e ToFill at inside = tt
    takes_out e (Filled p) at inside = tt
    takes_out e (Seized p) at inside =
        let word = word_emptying w k e here law (Seized p) (phase_there e (view_at w.views k).work (Seized p) at) refl in
        none_told (packet_on (desk_at w.desks d)) _
        (kept_there w.desks e (record { word = (desk_at w.desks e).word; slot = None }) inside
        (bare_on (desk_at w.desks e) 3 word (λ s. omega arith))
        (bare_on (record { word = (desk_at w.desks e).word; slot = None }) 3 word (λ s. omega arith)))
    takes_out e TakenOut at inside = tt

    clears : (e : ℕ) (ph : Phase) → phase_at e (view_at w.views k).work ≡ Some ph → e < length w.desks →
        IfSome (clear w k (view_at w.views k) e ph) (Tallied w (Clear e))
    clears e ToFill at inside = tt
    clears e (Filled p) at inside = tt
    clears e (Seized p) at inside = tt
    clears e TakenOut at inside =
        let word = word_emptying w k e here law TakenOut (phase_there e (view_at w.views k).work TakenOut at) refl in
        subst (λ (y : Option Packet). Tells ((Clear e, Done) ∷ []) (packet_on (desk_at w.desks d)) y)
        (kept_there w.desks e (record { word = 0; slot = (desk_at w.desks e).slot }) inside
        (bare_on (desk_at w.desks e) 3 word (λ s. omega arith))
        (bare_on (record { word = 0; slot = (desk_at w.desks e).slot }) 0 refl (λ s. omega arith)))
        (idle (Clear e) Done (packet_on (desk_at w.desks d)) refl refl)

    -- an Open brings the packet, and a won Seize takes it
    brought : (e : ℕ) (p : Packet) (x : Desk) → e < length w.desks → packet_on (desk_at w.desks e) ≡ None →
        packet_on x ≡ Some p →
        Tells ((Open e, Found p) ∷ []) (packet_on (desk_at w.desks d)) (packet_on (desk_at (set w.desks e x) d))
    brought e p x inside before after =
        one_told (Open e) (Found p) _ _
        (at_or_else e
        (λ y. Rattle.std.specs.Prelude.if◌then◌else◌ (e == y) (f p) 0 + count_on f (packet_on (desk_at w.desks y))
        ≡ 0 + count_on f (packet_on (desk_at (set w.desks e x) y)))
        (let a = cond-true (e == e) (f p) 0 (eq-eqb e e refl) in
        let b = ap (count_on f) before in
        let c = ap (count_on f) (ap packet_on (get_or-set_same w.desks e x no_desk inside) ∙ after) in
        omega arith)
        (λ y n.
        let a = cond-false (e == y) (f p) 0 (ne_eqb e y n) in
        let c = ap (count_on f) (ap packet_on (get_or-set_other w.desks e y x no_desk (λ s. n (sym s)))) in
        omega arith) d)

    taken : (e : ℕ) (p : Packet) (x : Desk) → e < length w.desks → packet_on (desk_at w.desks e) ≡ Some p →
        packet_on x ≡ None →
        Tells ((Seize e, Found p) ∷ []) (packet_on (desk_at w.desks d)) (packet_on (desk_at (set w.desks e x) d))
    taken e p x inside before after =
        one_told (Seize e) (Found p) _ _
        (at_or_else e
        (λ y. 0 + count_on f (packet_on (desk_at w.desks y))
        ≡ Rattle.std.specs.Prelude.if◌then◌else◌ (e == y) (f p) 0 + count_on f (packet_on (desk_at (set w.desks e x) y)))
        (let a = cond-true (e == e) (f p) 0 (eq-eqb e e refl) in
        let b = ap (count_on f) before in
        let c = ap (count_on f) (ap packet_on (get_or-set_same w.desks e x no_desk inside) ∙ after) in
        omega arith)
        (λ y n.
        let a = cond-false (e == y) (f p) 0 (ne_eqb e y n) in
        let c = ap (count_on f) (ap packet_on (get_or-set_other w.desks e y x no_desk (λ s. n (sym s)))) in
        omega arith) d)

    opens : (e : ℕ) (ph : Phase) → phase_at e (view_at w.views k).work ≡ Some ph → e < length w.desks →
        IfSome (open_desk w k (view_at w.views k) e ph) (Tallied w (Open e))
    opens e ToFill at inside = tt
    opens e (Filled p) at inside =
        let work = phase_there e (view_at w.views k).work (Filled p) at in
        let word = word_filling w k e here law (Filled p) work refl in
        let slot = slot_now w k e here law (Filled p) work in
        let x : Desk = record { word = 2; slot = (desk_at w.desks e).slot } in
        when_played (Tallied w (Open e)) _ (open_with w k (view_at w.views k) e p)
        (λ t.
        subst (λ (s : Option Packet). Tells (notes_of (Open e) Done s) (packet_on (desk_at w.desks d))
        (packet_on (desk_at (set w.desks e x) d))) (sym slot)
        (brought e p x inside (bare_on (desk_at w.desks e) 1 word (λ s. omega arith)) (full_on x refl ∙ slot)))
    opens e (Seized p) at inside = tt
    opens e TakenOut at inside = tt

    seizes : (e : ℕ) → e < length w.desks → IfSome (seize w k (view_at w.views k) e) (Tallied w (Seize e))
    seizes e inside =
        cond_both ((desk_at w.desks e).word == 2)
        (given (desk_at w.desks e).slot (λ p. Some (seize_with w k (view_at w.views k) e p))) _
        (λ o. IfSome o (Tallied w (Seize e)))
        (λ t.
        given_played (Tallied w (Seize e)) (desk_at w.desks e).slot _
        (λ p s.
        let x : Desk = record { word = 3; slot = (desk_at w.desks e).slot } in
        subst (λ (y : Option Packet). Tells (notes_of (Seize e) Won y) (packet_on (desk_at w.desks d))
        (packet_on (desk_at (set w.desks e x) d))) (sym s)
        (taken e p x inside (full_on (desk_at w.desks e) (eqb-true _ _ t) ∙ s)
        (bare_on x 3 refl (λ z. omega arith)))))
        (λ t. idle (Seize e) (Lost (desk_at w.desks e).word) (packet_on (desk_at w.desks d)) refl refl)

    same : (s : Step) (o : Outcome) → opened_by d f s o ≡ 0 → seized_by d f s o ≡ 0 →
        Tells ((s, o) ∷ []) (packet_on (desk_at w.desks d)) (packet_on (desk_at w.desks d))
    same s o a b = idle s o (packet_on (desk_at w.desks d)) a b

    row_tallied : (s : Step) → in_range w s ≡ true → IfSome (row w k (view_at w.views k) s) (Tallied w s)
    row_tallied LoadLength r = same LoadLength (Value w.length) refl refl
    row_tallied (Reserve old n) r =
        when_played (Tallied w (Reserve old n)) _ (reserve w k (view_at w.views k) old n) (λ t.
        cond_both (w.length == old) _ _ (Tallied w (Reserve old n)) (λ e. same (Reserve old n) Won refl refl)
        (λ e. same (Reserve old n) (Lost w.length) refl refl))
    row_tallied (Add n) r = when_played (Tallied w (Add n)) _ _ (λ t. same (Add n) Done refl refl)
    row_tallied LoadHead r = same LoadHead (HeadIs w.head) refl refl
    row_tallied (LoadLink i) r =
        given_played (Tallied w (LoadLink i)) (view_at w.views k).look _ (λ l e.
        when_played (Tallied w (LoadLink i)) _ (load_link w k (view_at w.views k) i l)
        (λ t. same (LoadLink i) (Value (link_in w.links i)) refl refl))
    row_tallied Cut r =
        given_played (Tallied w Cut) (view_at w.views k).look _ (λ l e.
        when_played (Tallied w Cut) _ (cut w k (view_at w.views k) l) (λ t.
        cond_both (same_head w.head l.head) _ _ (Tallied w Cut) (λ s. same Cut (Got l.front) refl refl)
        (λ s. same Cut (LostTo w.head) refl refl)))
    row_tallied (StoreLink i j) r = when_played (Tallied w (StoreLink i j)) _ _ (λ t. same (StoreLink i j) Done refl refl)
    row_tallied Push r =
        given_played (Tallied w Push) (view_at w.views k).look _ (λ l e.
        given_played (Tallied w Push) (view_at w.views k).chain _ (λ c g.
        when_played (Tallied w Push) _ (push w k (view_at w.views k) l c) (λ t.
        cond_both (same_head w.head l.head) _ _ (Tallied w Push) (λ s. same Push Won refl refl)
        (λ s. same Push (LostTo w.head) refl refl))))
    row_tallied (Claim i) r = when_played (Tallied w (Claim i)) _ _ (λ t. same (Claim i) (Value (slice_index w.counts i)) refl refl)
    row_tallied (Sole i free) r =
        when_played (Tallied w (Sole i free)) _ _ (λ t.
        cond_both (free && (slice_index w.counts i == 1)) _ _ (Tallied w (Sole i free))
        (λ e. same (Sole i free) (Value 1) refl refl)
        (λ e. same (Sole i free) (Value (slice_index w.counts i)) refl refl))
    row_tallied (Raise i old) r =
        when_played (Tallied w (Raise i old)) _ _ (λ t.
        cond_both (slice_index w.counts i == old) _ _ (Tallied w (Raise i old))
        (λ e. same (Raise i old) Won refl refl)
        (λ e. same (Raise i old) (Lost (slice_index w.counts i)) refl refl))
    row_tallied (Lower i) r = when_played (Tallied w (Lower i)) _ _ (λ t. same (Lower i) (Value (slice_index w.counts i)) refl refl)
    row_tallied (Reset i) r = when_played (Tallied w (Reset i)) _ _ (λ t. same (Reset i) Done refl refl)
    row_tallied (Hold e) r = when_played (Tallied w (Hold e)) _ _ (λ t. holds_desk e (ltb-true _ _ r))
    row_tallied (PutIn e p) r =
        given_played (Tallied w (PutIn e p)) (phase_at e (view_at w.views k).work) _
        (λ ph h. puts_in e p ph h (ltb-true _ _ (and_parts _ _ r).0))
    row_tallied (Open e) r =
        given_played (Tallied w (Open e)) (phase_at e (view_at w.views k).work) _
        (λ ph h. opens e ph h (ltb-true _ _ r))
    row_tallied (Seize e) r =
        cond_both (is_none (view_at w.views k).work) (seize w k (view_at w.views k) e) None
        (λ o. IfSome o (Tallied w (Seize e))) (λ t. seizes e (ltb-true _ _ r)) (λ t. tt)
    row_tallied (TakeOut e) r =
        given_played (Tallied w (TakeOut e)) (phase_at e (view_at w.views k).work) _
        (λ ph h. takes_out e ph h (ltb-true _ _ r))
    row_tallied (Clear e) r =
        given_played (Tallied w (Clear e)) (phase_at e (view_at w.views k).work) _
        (λ ph h. clears e ph h (ltb-true _ _ r))

  step_tallied : (w : World) (worker : ℕ) (s : Step) (o : Outcome) (u : World) → Lawful w →
      play w worker s ≡ Some (o, u) →
      Tells (notes_of s o (slot_at w.desks s)) (packet_on (desk_at w.desks d)) (packet_on (desk_at u.desks d))
  step_tallied w worker s o u law e =
      let p = play_is w worker s o u e in
      let r =
      played_row (λ v k q. Tallied v s q) w worker s p.0
      (λ k n here inside. row_tallied w k here (four_of_eight w law) s inside) p.1 in
      subst (λ (x : Outcome × World).
      Tells (notes_of s x.0 (slot_at w.desks s)) (packet_on (desk_at w.desks d)) (packet_on (desk_at x.1.desks d)))
      (λ i. (p.2 i, p.3 i)) r.3

  -- ---- over a history

  abbrev pub opened_log : Log → ℕ
  opened_log log = opened_in d f log.0 + opened_in d f log.1

  abbrev pub seized_log : Log → ℕ
  seized_log log = seized_in d f log.0 + seized_in d f log.1

  abbrev pub LogsTell : World → List Log → Type 0
  LogsTell w logs = sum_by opened_log logs ≡ sum_by seized_log logs + count_on f (packet_on (desk_at w.desks d))

  log_set : (g : Log → ℕ) (logs : List Log) (id : ℕ) (log new : Log) → get_elem? logs id ≡ some log →
      sum_by g (set logs id new) + g log ≡ sum_by g logs + g new
  log_set g [] id log new e = absurd (some-ne-none log (sym e))
  log_set g (x ∷ xs) zero log new e =
      let same_log = ap g (some-injective x log e) in
      omega (arith, sum_by-cons g x xs, sum_by-cons g new xs)
  log_set g (x ∷ xs) (suc id) log new e =
      let rest = log_set g xs id log new e in
      omega (arith, sum_by-cons g x xs, sum_by-cons g x (set xs id new))

  log_other : (logs : List Log) (id other : ℕ) (new log : Log) → other ≢ id → get_elem? logs other ≡ some log →
      get_elem? (set logs id new) other ≡ some log
  log_other [] id other new log n e = absurd (some-ne-none log (sym e))
  log_other (x ∷ xs) zero zero new log n e = absurd (n refl)
  log_other (x ∷ xs) zero (suc other) new log n e = e
  log_other (x ∷ xs) (suc id) zero new log n e = e
  log_other (x ∷ xs) (suc id) (suc other) new log n e = log_other xs id other new log (λ s. n (ap suc s)) e

  no_desk_there : (n k : ℕ) → packet_on (desk_at (replicate n no_desk) k) ≡ None
  no_desk_there zero k = refl
  no_desk_there (suc n) zero = refl
  no_desk_there (suc n) (suc k) = no_desk_there n k

  pub logs_tell : (l : Limits) (ms : List Move) (w : World) (logs : List Log) → Led l ms w logs → LogsTell w logs
  logs_tell l [] w logs led =
      let bare = ap (count_on f) (ap (λ (u : World). packet_on (desk_at u.desks d)) led.0 ∙ no_desk_there l.desks d) in
      let a = ap (sum_by opened_log) led.1 in
      let b = ap (sum_by seized_log) led.1 in
      omega (arith, sum_by-cons opened_log ([], []) [], sum_by-cons seized_log ([], []) [])
  logs_tell l (Stepped id st o ∷ ms) w logs led =
      let leads : MoveLeads (Stepped id st o) led.0 led.1 w logs = led.4 in
      let before = logs_tell l ms led.0 led.1 led.3 in
      let told = step_tallied led.0 (suc id) st o w led.2 leads.1 in
      let log = leads.2.0 in
      let notes = notes_of st o (slot_at led.0.desks st) in
      let new : Log = (log.0 ++ notes, log.1) in
      let a = ap (sum_by opened_log) leads.2.2 in
      let b = ap (sum_by seized_log) leads.2.2 in
      omega (
        arith,
        log_set opened_log led.1 id log new leads.2.1,
        log_set seized_log led.1 id log new leads.2.1,
        sum_by-append opened_note log.0 notes,
        sum_by-append seized_note log.0 notes,
      )
  logs_tell l (Split id ∷ ms) w logs led =
      let leads : MoveLeads (Split id) led.0 led.1 w logs = led.4 in
      let before = logs_tell l ms led.0 led.1 led.3 in
      let desks = ap (λ (u : World). count_on f (packet_on (desk_at u.desks d))) leads.1 in
      let a = ap (sum_by opened_log) leads.2 in
      let b = ap (sum_by seized_log) leads.2 in
      omega (arith, sum_by_push opened_log led.1 ([], []), sum_by_push seized_log led.1 ([], []))
  logs_tell l (Lent id i ∷ ms) w logs led =
      let leads : MoveLeads (Lent id i) led.0 led.1 w logs = led.4 in
      let before = logs_tell l ms led.0 led.1 led.3 in
      let desks = ap (λ (u : World). count_on f (packet_on (desk_at u.desks d))) leads.3 in
      let a = ap (sum_by opened_log) leads.4 in
      let b = ap (sum_by seized_log) leads.4 in
      omega (arith, sum_by_push opened_log led.1 ([], []), sum_by_push seized_log led.1 ([], []))
  logs_tell l (Parcelled id p ∷ ms) w logs led =
      let leads : MoveLeads (Parcelled id p) led.0 led.1 w logs = led.4 in
      let before = logs_tell l ms led.0 led.1 led.3 in
      let desks = ap (λ (u : World). count_on f (packet_on (desk_at u.desks d))) leads.4 in
      let a = ap (sum_by opened_log) leads.5 in
      let b = ap (sum_by seized_log) leads.5 in
      omega (arith, sum_by_push opened_log led.1 ([], []), sum_by_push seized_log led.1 ([], []))
  logs_tell l (Joined id other ∷ ms) w logs led =
      let leads : MoveLeads (Joined id other) led.0 led.1 w logs = led.4 in
      let before = logs_tell l ms led.0 led.1 led.3 in
      let desks = ap (λ (u : World). count_on f (packet_on (desk_at u.desks d))) leads.3 in
      let log = leads.4.0 in
      let theirs = leads.4.1 in
      let new : Log = (log.0, log.1 ++ (theirs.0 ++ theirs.1)) in
      let there = log_other led.1 id other new theirs leads.0 leads.4.3 in
      let a = ap (sum_by opened_log) leads.4.4 in
      let b = ap (sum_by seized_log) leads.4.4 in
      omega (
        arith,
        log_set opened_log led.1 id log new leads.4.2,
        log_set seized_log led.1 id log new leads.4.2,
        log_set opened_log (set led.1 id new) other theirs ([], []) there,
        log_set seized_log (set led.1 id new) other theirs ([], []) there,
        sum_by-append opened_note log.1 (theirs.0 ++ theirs.1),
        sum_by-append seized_note log.1 (theirs.0 ++ theirs.1),
        sum_by-append opened_note theirs.0 theirs.1,
        sum_by-append seized_note theirs.0 theirs.1,
      )

-- the packets that lie, one for each desk
on_each : (desks : List Desk) (d : ℕ) → on_desk (lying_on desks) d ≡ packet_on (desk_at desks d)
on_each [] d = refl
on_each (x ∷ xs) zero = refl
on_each (x ∷ xs) (suc d) = on_each xs d

all_opened : (d : ℕ) (f : Packet → ℕ) (logs : List Log) → opened_in d f (notes_in logs) ≡ sum_by (opened_log d f) logs
all_opened d f [] = refl
all_opened d f (x ∷ xs) =
    let rest = all_opened d f xs in
    omega (
      arith,
      sum_by-append (opened_note d f) (x.0 ++ x.1) (notes_in xs),
      sum_by-append (opened_note d f) x.0 x.1,
      sum_by-cons (opened_log d f) x xs,
    )

all_seized : (d : ℕ) (f : Packet → ℕ) (logs : List Log) → seized_in d f (notes_in logs) ≡ sum_by (seized_log d f) logs
all_seized d f [] = refl
all_seized d f (x ∷ xs) =
    let rest = all_seized d f xs in
    omega (
      arith,
      sum_by-append (seized_note d f) (x.0 ++ x.1) (notes_in xs),
      sum_by-append (seized_note d f) x.0 x.1,
      sum_by-cons (seized_log d f) x xs,
    )

pub notes_tell_of_desks : NotesTellOfDesks
notes_tell_of_desks l ms w logs led d f =
    let told = logs_tell d f l ms w logs led in
    let there = ap (count_on f) (on_each w.desks d) in
    omega (arith, all_opened d f logs, all_seized d f logs)

-- where no other seat has noted anything, the notes of this one are all
module _ (g : Log → ℕ) (nothing : g ([], []) ≡ 0) where
  none_noted : (o : Known) → IsUnmoved o → g (log_of o) ≡ 0
  none_noted o h = ap g (λ i. (h.steps i, h.joined i)) ∙ nothing

  log_alone : (ns : List Known) (id : ℕ) (n : Known) → get_elem? ns id ≡ some n →
      ((j : ℕ) (o : Known) → j ≢ id → get_elem? ns j ≡ some o → IsUnmoved o) →
      sum_by g (logs_of ns) ≡ g (log_of n)
  log_alone [] id n at others = absurd (some-ne-none n (sym at))
  log_alone (x ∷ xs) zero n at others =
      let same = ap (λ (k : Known). g (log_of k)) (some-injective x n at) in
      let rest = none_of xs (λ j o e. others (suc j) o (λ z. absurd (omega arith)) e) in
      omega (arith, sum_by-cons g (log_of x) (logs_of xs))
    where
      none_of : (ys : List Known) → ((j : ℕ) (o : Known) → get_elem? ys j ≡ some o → IsUnmoved o) →
          sum_by g (logs_of ys) ≡ 0
      none_of [] h = refl
      none_of (y ∷ ys) h =
          let a = none_noted y (h 0 y refl) in
          let b = none_of ys (λ j o e. h (suc j) o e) in
          omega (arith, sum_by-cons g (log_of y) (logs_of ys))
  log_alone (x ∷ xs) (suc id) n at others =
      let a = none_noted x (others 0 x (λ z. absurd (omega arith)) refl) in
      let b = log_alone xs id n at (λ j o ne e. others (suc j) o (λ z. ne (omega arith)) e) in
      omega (arith, sum_by-cons g (log_of x) (logs_of xs))

pub lie_by_notes : (l : Limits) (ms : List Move) (w : World) (ns : List Known) → Led l ms w (logs_of ns) →
    (id : ℕ) (n : Known) → get_elem? ns id ≡ some n →
    ((j : ℕ) (o : Known) → j ≢ id → get_elem? ns j ≡ some o → IsUnmoved o) →
    LieByNotes (n.steps ++ n.joined) (lying_on w.desks)
lie_by_notes l ms w ns led id n at others d f =
    let told = logs_tell d f l ms w (logs_of ns) led in
    let there = ap (count_on f) (on_each w.desks d) in
    omega (
      arith,
      log_alone (opened_log d f) refl ns id n at others,
      log_alone (seized_log d f) refl ns id n at others,
      sum_by-append (opened_note d f) n.steps n.joined,
      sum_by-append (seized_note d f) n.steps n.joined,
    )
