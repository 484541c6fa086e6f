-- One share more in a book of two pools.
use Rattle.std.proofs.Common.{ℕ, ◌≡◌, ◌≢◌, ◌-◌, ◌<◌, length, get_or, set, Some, None, get_or-set_same, get_or-set_other, sym, ap, ◌∙◌, arith}
use Rattle.std.proofs.lemmas.Option.{none-some}
use Rattle.mbuf.specs.Members.{Member}
use Rattle.book.specs.Books.{IsMissing, with_share}
use Rattle.book.specs.Places.{Places}
use Rattle.book.specs.TwinBooks.{AreFilledAlike, with_twin_share}
use Rattle.mbuf.specs.Twins.{TwinMember}
use Rattle.book.specs.TwinPlaces.{TwinPlaces}

-- who is missing then was missing before, and is another worker
missing_after : (b : Places) (m : Member) (w : ℕ) → length b.places ≡ b.limits.workers → IsMissing b m.number →
    IsMissing (with_share b m) w → IsMissing b w × (w ≢ m.number)
missing_after b m w many was h =
    let k = m.number - 1 in
    let there : k < length b.places = omega (arith, many, was.first, was.last) in
    let other : w ≢ m.number = λ same.
    none-some m (sym (sym (get_or-set_same b.places k (Some m) None there)
    ∙ ap (λ n. get_or (set b.places k (Some m)) (n - 1) None) (sym same) ∙ h.empty)) in
    let apart : w - 1 ≢ k = λ same. other (omega (arith, same, h.first, was.first)) in (
      record {
        first = h.first;
        last = h.last;
        empty = sym (get_or-set_other b.places k (w - 1) (Some m) None apart) ∙ h.empty;
      },
      other,
    )

-- and another that was missing still is
missing_still : (b : Places) (m : Member) (w : ℕ) → IsMissing b m.number → IsMissing b w → w ≢ m.number →
    IsMissing (with_share b m) w
missing_still b m w was h other =
    let k = m.number - 1 in
    let apart : w - 1 ≢ k = λ same. other (omega (arith, same, h.first, was.first)) in
    record {
      first = h.first;
      last = h.last;
      empty = get_or-set_other b.places k (w - 1) (Some m) None apart ∙ h.empty;
    }

-- both books still have the shares of the same workers
pub filled_alike : (b : TwinPlaces) (m : TwinMember) → AreFilledAlike b → m.second.number ≡ m.first.number →
    length b.first.places ≡ b.first.limits.workers → length b.second.places ≡ b.second.limits.workers →
    IsMissing b.first m.first.number → AreFilledAlike (with_twin_share b m)
filled_alike b m alike same one two was =
    let also : IsMissing b.second m.second.number =
    (alike.missing m.second.number).0 (rw same was) in
    record {
      workers = alike.workers;
      missing = λ w. (
        λ h. let before = missing_after b.first m.first w one was h in
            missing_still b.second m.second w also ((alike.missing w).0 before.0) (λ e. before.1 (e ∙ same)),
        λ h. let before = missing_after b.second m.second w two also h in
            missing_still b.first m.first w was ((alike.missing w).1 before.0) (λ e. before.1 (e ∙ sym same)),
      );
    }
