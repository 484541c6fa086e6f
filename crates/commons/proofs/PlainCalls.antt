-- The calls of a body over any shared pool, at the lists of one worker.
use Rattle.std.proofs.Common.{ℕ, ◌≡◌, List, [], ◌∷◌, ◌++◌, Ok, Err, refl, sym, ◌∙◌, ap, subst}
use Rattle.commons.specs.declared.plain.PlainCommons.{PlainCommons}
use Rattle.commons.specs.declared.refusal.Refusal.TheVariants.{NoEntries, HeadSpent, RefSpent, DeskTaken, DeskEmpty, NoSuchDesk}
use Rattle.commons.specs.Beside.{LeavesOthers}
use Rattle.commons.specs.Calls.{Call, GetList, PutList, Claim, CountOf, Raise, Lower, Offer, Take, CommonCount, Reading, Made, Did, HasCause, HasEffect, Leads, Side, calls_of}
use Rattle.commons.specs.Lists.{Lists, IsTable, KeepsOthers, DidPlain, DidOnLists, read_by, side_of}
use Rattle.commons.specs.PlainCalls.{LeadsPlain}

-- what the trait's relation is at the lists
abbrev pub DidAt : PlainCommons → Call → List Reading → PlainCommons → Type 0
DidAt s call rs t =
    (t.site.ghost_name ≡ s.site.ghost_name) × (t.worker ≡ s.worker)
    × DidOnLists s.worker s.site.now call rs t.site.now

-- where the lists stay as they are, so does what the others have
pub KeepsOthers-refl : (w : ℕ) (s : Lists) → KeepsOthers w s s
KeepsOthers-refl w s = record { hands = λ v i e. refl; holds = λ v i l e. refl; headers = λ v i e. refl }

-- what the others have through one call and the next, they have through both
pub KeepsOthers-trans : (w : ℕ) (s t u : Lists) → KeepsOthers w s t → KeepsOthers w t u → KeepsOthers w s u
KeepsOthers-trans w s t u a b = record {
  hands = λ v i e. b.hands v i e ∙ a.hands v i e;
  holds = λ v i l e. b.holds v i l e ∙ a.holds v i l e;
  headers = λ v i e. b.headers v i e ∙ a.headers v i e;
}

-- what the worker of these lists sees of its own
abbrev pub side_at : PlainCommons → Side
side_at c = side_of c.site.now c.worker

-- a call on the lists, on this site and by this worker, is one of the trait's: what it read is the
-- cause of its answer, and the worker's side has its effect
pub done : (s t : PlainCommons) (call : Call) → t.site.ghost_name ≡ s.site.ghost_name → t.worker ≡ s.worker →
    DidPlain s.worker s.site.now call t.site.now → IsTable s.site.now → IsTable t.site.now →
    KeepsOthers s.worker s.site.now t.site.now →
    HasCause s.site.now.limits call (read_by s.site.now call) → HasEffect call (side_at s) (side_at t) →
    Did DidAt side_at s call t
done s t call site worker did before after others cause effect = record {
  readings = read_by s.site.now call;
  step = record {
    led = (
      site,
      worker,
      record { did = did; read = refl; before = before; after = after; others = others },
    );
    cause = cause;
    effect = effect;
  };
}

-- what a body's calls do to the lists
pub record Plainly (s : PlainCommons) (calls : List Call) (t : PlainCommons) : Type 0 where
  pub same : t.site.ghost_name ≡ s.site.ghost_name
  pub worker : t.worker ≡ s.worker
  pub led : LeadsPlain s.worker s.site.now calls t.site.now
  pub others : KeepsOthers s.worker s.site.now t.site.now

-- each call leaves site and worker the same, so a run of calls is one of this worker on these lists
pub plainly : (s : PlainCommons) (made : List Made) (t : PlainCommons) →
    Leads DidAt side_at s made t → Plainly s (calls_of made) t
plainly s [] t h = record {
  same = ap (λ (x : PlainCommons). x.site.ghost_name) (sym h);
  worker = ap (λ (x : PlainCommons). x.worker) (sym h);
  led = ap (λ (x : PlainCommons). x.site.now) h;
  others =
      subst (λ (x : PlainCommons). KeepsOthers s.worker s.site.now x.site.now) h
      (KeepsOthers-refl s.worker s.site.now);
}
plainly s (m ∷ made) t h =
    let rest = plainly h.0 made t h.2 in
    record {
      same = rest.same ∙ h.1.led.0;
      worker = rest.worker ∙ h.1.led.1;
      led = (
        h.0.site.now,
        h.1.led.2.did,
        h.1.led.2.before,
        h.1.led.2.after,
        subst (λ w. LeadsPlain w h.0.site.now (calls_of made) t.site.now) h.1.led.1 rest.led,
      );
      others =
          KeepsOthers-trans s.worker s.site.now h.0.site.now t.site.now h.1.led.2.others
          (subst (λ w. KeepsOthers w h.0.site.now t.site.now) h.1.led.1 rest.others);
    }

-- where two runs of calls lead from one state to another, there is one between them
pub LeadsPlain-split : (w : ℕ) (s : Lists) (a b : List Call) (t : Lists) →
    LeadsPlain w s (a ++ b) t →
    (between : Lists) × LeadsPlain w s a between × LeadsPlain w between b t
LeadsPlain-split w s [] b t h = (s, refl, h)
LeadsPlain-split w s (call ∷ a) b t h =
    let rest = LeadsPlain-split w h.0 a b t h.4 in
    (rest.0, (h.0, h.1, h.2, h.3, rest.1), rest.2)

-- along calls on a table the lists stay a table
pub LeadsPlain-table : (w : ℕ) (s : Lists) (calls : List Call) (t : Lists) → IsTable s →
    LeadsPlain w s calls t → IsTable t
LeadsPlain-table w s [] t table h = subst IsTable h table
LeadsPlain-table w s (call ∷ calls) t table h = LeadsPlain-table w h.0 calls t h.3 h.4

-- what each of the calls keeps of the lists is kept along them; Are says which calls they are
pub LeadsPlain-keeps : {A : Type 0} (f : Lists → A) (Are : List Call → Type 0) (w : ℕ) →
    ((call : Call) (calls : List Call) → Are (call ∷ calls) → Are calls) →
    ((s : Lists) (call : Call) (calls : List Call) (t : Lists) → Are (call ∷ calls) → DidPlain w s call t → f t ≡ f s) →
    (s : Lists) (calls : List Call) (t : Lists) → Are calls → LeadsPlain w s calls t → f t ≡ f s
LeadsPlain-keeps f Are w others one s [] t are h = ap f (sym h)
LeadsPlain-keeps f Are w others one s (call ∷ calls) t are h =
    LeadsPlain-keeps f Are w others one h.0 calls t (others call calls are) h.4 ∙ one s call calls h.0 are h.1

-- the limits are one thing that each call keeps
did_limits : (w : ℕ) (s : Lists) (call : Call) (t : Lists) → DidPlain w s call t → t.limits ≡ s.limits
did_limits w s (GetList n (Ok xs)) t d = ap (λ (x : Lists). x.limits) d.3
did_limits w s (GetList n (Err NoEntries)) t d = ap (λ (x : Lists). x.limits) d.1
did_limits w s (GetList n (Err HeadSpent)) t d = ap (λ (x : Lists). x.limits) d.2
did_limits w s (GetList n (Err _)) t d = absurd d
did_limits w s (PutList list (Ok _)) t d = ap (λ (x : Lists). x.limits) d.1
did_limits w s (PutList list (Err HeadSpent)) t d = ap (λ (x : Lists). x.limits) d.1
did_limits w s (PutList list (Err _)) t d = absurd d
did_limits w s (Claim i) t d = ap (λ (x : Lists). x.limits) d.1
did_limits w s (CountOf i n) t d = ap (λ (x : Lists). x.limits) d.1
did_limits w s (Raise i (Ok _)) t d = ap (λ (x : Lists). x.limits) d.1
did_limits w s (Raise i (Err RefSpent)) t d = ap (λ (x : Lists). x.limits) d.1
did_limits w s (Raise i (Err _)) t d = absurd d
did_limits w s (Lower i answer) t d = ap (λ (x : Lists). x.limits) d.2
did_limits w s (Offer desk packet (Ok _)) t d = ap (λ (x : Lists). x.limits) d.2
did_limits w s (Offer desk packet (Err NoSuchDesk)) t d = ap (λ (x : Lists). x.limits) d.1
did_limits w s (Offer desk packet (Err DeskTaken)) t d = ap (λ (x : Lists). x.limits) d.2
did_limits w s (Offer desk packet (Err _)) t d = absurd d
did_limits w s (Take desk (Ok packet)) t d = ap (λ (x : Lists). x.limits) d.2
did_limits w s (Take desk (Err NoSuchDesk)) t d = ap (λ (x : Lists). x.limits) d.1
did_limits w s (Take desk (Err DeskEmpty)) t d = ap (λ (x : Lists). x.limits) d.2
did_limits w s (Take desk (Err _)) t d = absurd d
did_limits w s (CommonCount n) t d = ap (λ (x : Lists). x.limits) d.1

-- no call changes a limit, so no run of calls does
pub LeadsPlain-limits : (w : ℕ) (s : Lists) (calls : List Call) (t : Lists) →
    LeadsPlain w s calls t → t.limits ≡ s.limits
LeadsPlain-limits w s calls t h =
    LeadsPlain-keeps (λ (x : Lists). x.limits) (λ c. Unit {0}) w (λ c cs u. tt)
    (λ s c cs t u d. did_limits w s c t d) s calls t tt h

-- the other workers have what they had
pub leaves_others : (s : PlainCommons) (made : List Made) (t : PlainCommons) →
    Leads DidAt side_at s made t → LeavesOthers s t
leaves_others s made t h =
    let p = plainly s made t h in
    let limits = LeadsPlain-limits s.worker s.site.now (calls_of made) t.site.now p.led in record {
      site = p.same;
      worker = p.worker;
      sides = record {
        table = t.table;
        limits = limits;
        others =
            λ v l e.
            record {
              limits = limits;
              hand = λ i. p.others.hands v i e;
              holds = λ i. p.others.holds v i l e;
              headers = λ i. p.others.headers v i e;
            };
      };
    }
