-- Foreign clones that end over the lists of two pools, where the counts are the holds that are left.
use Rattle.std.proofs.Common.{ℕ, ◌≡◌, ◌+◌, List, [], ◌∷◌, refl, sym, ap, ◌∙◌, subst, arith}
use Rattle.commons.specs.Bag.{bag}
use Rattle.commons.specs.Calls.{Call}
use Rattle.commons.specs.declared.limits.Limits.{Limits}
use Rattle.commons.specs.declared.packet.Seg.{Seg}
use Rattle.commons.specs.Lists.{Lists}
use Rattle.commons.specs.Packets.{hold_of, own_of_packet}
use Rattle.commons.specs.PlainCalls.{LeadsPlain}
use Rattle.commons.proofs.Bags.{bag-append, bag-cons, bag-nil, bag-single}
use Rattle.commons.proofs.PlainCalls.{LeadsPlain-split}
use Rattle.mbuf.specs.declared.freed.Freed.{Freed}
use Rattle.mbuf.specs.Foreign.{EndsForeign, bases_of_packet}
use Rattle.mbuf.specs.PacketRules.{EndsHolds}
use Rattle.mbuf.proofs.EndLemmas.{EndsHolds-one}
use Rattle.pool_model.specs.HoldModel.{end_holds}
use Rattle.pool_model.specs.Pool.{Shared}
use Rattle.pool_model.specs.TwinModel.{end_foreign, with_first, with_second}
use Rattle.share_book.specs.inside.Own.{shared_of}
use Rattle.share_book.specs.inside.TwinStates.{stocks_with}
use Rattle.share_book.proofs.EndedHolds.{Counts, end_one, ended}

-- holds that end one after another leave the counts of the others
pub left_counts : (w : ℕ) (l : Limits) (others : ℕ → ℕ) (es : List ℕ) (s t : Lists) (cache : List ℕ)
    (freed : Freed) (calls : List Call) (left : List ℕ) (done : Freed) →
    EndsHolds l es cache freed calls left done → LeadsPlain w s calls t → Counts s es others → Counts t [] others
left_counts w l others [] s t cache freed calls left done ends led counts =
    let same : s ≡ t = subst (λ (cs : List Call). LeadsPlain w s cs t) ends.0 led in
    subst (λ (x : Lists). Counts x [] others) same counts
left_counts w l others (e ∷ es) s t cache freed calls left done ends led counts =
    let h = LeadsPlain-split w s ends.0 ends.1 t (subst (λ (cs : List Call). LeadsPlain w s cs t) ends.4 led) in
    let one = end_one w l others e es s h.0 cache freed ends.0 ends.2 ends.3 ends.5 h.1 counts in
    left_counts w l others es h.0 t ends.2 ends.3 ends.1 left done ends.6 h.2 one.1

-- The segments of a foreign clone that end over the lists of both pools are the model's that end, and
-- leave the counts of the others.
pub foreign_ended : (w : ℕ) (l k : Limits) (based owned : ℕ → ℕ) (segs : List Seg) (s s' u u' : Lists)
    (first_cache second_cache first_left second_left : List ℕ) (freed done : Freed)
    (firsts seconds : List Call) →
    EndsForeign l k segs first_cache second_cache freed firsts seconds first_left second_left done →
    LeadsPlain w s firsts s' → LeadsPlain w u seconds u' →
    Counts s (bases_of_packet segs) based → Counts u (own_of_packet segs) owned →
    (end_foreign l k based owned segs (freed, stocks_with first_cache s second_cache u)
    ≡ (done, stocks_with first_left s' second_left u')) × Counts s' [] based × Counts u' [] owned
foreign_ended w l k based owned [] s s' u u' first_cache second_cache first_left second_left freed done
    firsts seconds ends led led' counts counts' =
    let first : s ≡ s' = subst (λ (cs : List Call). LeadsPlain w s cs s') ends.0 led in
    let second : u ≡ u' = subst (λ (cs : List Call). LeadsPlain w u cs u') ends.1 led' in (
      rw (ends.2, ends.3, ends.4, ← first, ← second) refl,
      subst (λ (x : Lists). Counts x [] based) first counts,
      subst (λ (x : Lists). Counts x [] owned) second counts',
    )
foreign_ended w l k based owned (seg ∷ segs) s s' u u' first_cache second_cache first_left second_left freed done
    firsts seconds ends led led' counts counts' =
    let both = ends.9 in
    let p = LeadsPlain-split w s ends.0 ends.1 s' (subst (λ (cs : List Call). LeadsPlain w s cs s') ends.7 led) in
    let q = LeadsPlain-split w u ends.2 ends.3 u' (subst (λ (cs : List Call). LeadsPlain w u cs u') ends.8 led') in
    let bases : ℕ → ℕ = λ i. bag (bases_of_packet segs) i + based i in
    let owns : ℕ → ℕ = λ i. bag (own_of_packet segs) i + owned i in
    let base_counts : Counts s (hold_of seg.base) bases =
    λ i. omega (arith, counts i, bag-append (hold_of seg.base) (bases_of_packet segs) i) in
    let own_counts : Counts u (seg.elem ∷ []) owns =
    λ i. omega (arith, counts' i, bag-cons seg.elem (own_of_packet segs) i, bag-single seg.elem i) in
    let own_ends = EndsHolds-one k seg.elem second_cache both.so_far ends.2 ends.5 ends.6 both.own in
    let base =
    ended w l bases (hold_of seg.base) s p.0 first_cache freed ends.0 ends.4 both.so_far both.base p.1 base_counts in
    let own =
    ended w k owns (seg.elem ∷ []) u q.0 second_cache both.so_far ends.2 ends.5 ends.6 own_ends q.1 own_counts in
    let base_left =
    left_counts w l bases (hold_of seg.base) s p.0 first_cache freed ends.0 ends.4 both.so_far both.base p.1
    base_counts in
    let own_left =
    left_counts w k owns (seg.elem ∷ []) u q.0 second_cache both.so_far ends.2 ends.5 ends.6 own_ends q.1 own_counts in
    let more =
    foreign_ended w l k based owned segs p.0 s' q.0 u' ends.4 ends.5 first_left second_left ends.6 done ends.1 ends.3
    ends.10 p.2 q.2 (λ i. omega (arith, base_left i, bag-nil i)) (λ i. omega (arith, own_left i, bag-nil i)) in (
      ap (λ (d : Freed × List ℕ × Shared). end_foreign l k based owned segs
          (with_second (with_first (stocks_with first_cache s second_cache u) d).1
          (end_holds k owns (seg.elem ∷ []) (d.0, second_cache, shared_of u)))) (sym base)
          ∙ ap (λ (d : Freed × List ℕ × Shared). end_foreign l k based owned segs
          (with_second (stocks_with ends.4 p.0 second_cache u) d)) (sym own)
          ∙ more.0,
      more.1,
      more.2,
    )
