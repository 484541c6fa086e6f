-- The shares of all workers of two pools, put in an empty book from the last to the first.
use Rattle.std.proofs.Common.{◌≡◌, ◌+◌, ◌-◌, List, [], ◌∷◌, ◌++◌, append_assoc, length, map, replicate, None, sym, ap, ◌∙◌}
use Rattle.std.proofs.lemmas.List.{append-nil, map-append, nil_from_length}
use Rattle.mbuf.specs.Members.{Member}
use Rattle.mbuf.specs.Twins.{TwinMember}
use Rattle.book.specs.Books.{IsFull, IsMissing, shares_in, with_share}
use Rattle.book.specs.Places.{Places}
use Rattle.book.specs.TwinBooks.{new_twin_book, with_twin_share}
use Rattle.book.specs.TwinPlaces.{TwinPlaces}
use Rattle.book.proofs.AllShares.{AreNumbered, all_in, filled, full_is, last_number, missing_yet, none_yet, one_filled, shares_in-filled}

-- the parts of both pools
abbrev pub firsts : List TwinMember → List Member
firsts ms = map (λ m. m.first) ms

abbrev pub seconds : List TwinMember → List Member
seconds ms = map (λ m. m.second) ms

-- the book of a pool in whose last places the shares are that were put there, once these are left
abbrev book_of : Places → List Member → List Member → Places
book_of empty left done = record empty { places = replicate (length left) None ++ filled done }

-- these shares are left of all, and the others are in the book
pub record AreFiled (empty : TwinPlaces) (all left : List TwinMember) (b : TwinPlaces) : Type 0 where
  pub done : List TwinMember
  pub split : all ≡ left ++ done
  pub first : b.first ≡ book_of empty.first (firsts left) (firsts done)
  pub second : b.second ≡ book_of empty.second (seconds left) (seconds done)

-- the workers of both pools are numbered
pub record AreAllNumbered (empty : TwinPlaces) (all : List TwinMember) : Type 0 where
  pub first : AreNumbered empty.first.limits.workers (firsts all)
  pub second : AreNumbered empty.second.limits.workers (seconds all)

-- at first all are left
pub filed_none : (empty : TwinPlaces) (all : List TwinMember) → empty ≡ new_twin_book empty.first.limits empty.second.limits →
    AreAllNumbered empty all → AreFiled empty all all empty
filed_none empty all new n = record {
  done = [];
  split = sym (append-nil all);
  first = none_yet empty.first (firsts all) (ap (λ (x : TwinPlaces). x.first) new) n.first;
  second = none_yet empty.second (seconds all) (ap (λ (x : TwinPlaces). x.second) new) n.second;
}

-- lists of workers in two parts, by their parts of either pool
firsts_split : (all current done : List TwinMember) → all ≡ current ++ done → firsts all ≡ firsts current ++ firsts done
firsts_split all current done e = ap firsts e ∙ map-append (λ (m : TwinMember). m.first) current done

seconds_split : (all current done : List TwinMember) → all ≡ current ++ done → seconds all ≡ seconds current ++ seconds done
seconds_split all current done e = ap seconds e ∙ map-append (λ (m : TwinMember). m.second) current done

-- what one share more does to the book of either pool
record IsFiledNext (empty b : Places) (rest done : List Member) (s : Member) : Type 0 where
  missing : IsMissing b s.number
  filed : with_share b s ≡ book_of empty rest (s ∷ done)

filed_next : (empty b : Places) (all current rest done : List Member) (s : Member) →
    AreNumbered empty.limits.workers all → all ≡ current ++ done → current ≡ rest ++ s ∷ [] →
    b ≡ book_of empty current done → IsFiledNext empty b rest done s
filed_next empty b all current rest done s numbered split popped is =
    let last = last_number empty.limits.workers all current rest done s numbered split popped in record {
      missing = missing_yet empty b current rest done s is popped last.0 last.1;
      filed = one_filled empty b current rest done s is popped last.0;
    }

module _ (empty : TwinPlaces) (all left rest : List TwinMember) (b : TwinPlaces) (s : TwinMember)
    (n : AreAllNumbered empty all) (h : AreFiled empty all left b) (popped : left ≡ rest ++ s ∷ []) where
  next_first : IsFiledNext empty.first b.first (firsts rest) (firsts h.done) s.first
  next_first =
      filed_next empty.first b.first (firsts all) (firsts left) (firsts rest) (firsts h.done) s.first n.first
      (firsts_split all left h.done h.split) (firsts_split left rest (s ∷ []) popped) h.first

  next_second : IsFiledNext empty.second b.second (seconds rest) (seconds h.done) s.second
  next_second =
      filed_next empty.second b.second (seconds all) (seconds left) (seconds rest) (seconds h.done) s.second n.second
      (seconds_split all left h.done h.split) (seconds_split left rest (s ∷ []) popped) h.second

  -- the place of the last is free
  pub place_is_free : IsMissing b.first s.first.number
  place_is_free = next_first.missing

  -- and now it is filed
  pub filed_more : AreFiled empty all rest (with_twin_share b s)
  filed_more = record {
    done = s ∷ h.done;
    split = h.split ∙ ap (λ (ms : List TwinMember). ms ++ h.done) popped ∙ append_assoc rest (s ∷ []) h.done;
    first = next_first.filed;
    second = next_second.filed;
  }

-- once none is left, both books have all
pub record AreAllFiled (empty : TwinPlaces) (all : List TwinMember) (b : TwinPlaces) : Type 0 where
  pub first : b.first ≡ record empty.first { places = filled (firsts all) }
  pub second : b.second ≡ record empty.second { places = filled (seconds all) }

pub filed_all : (empty : TwinPlaces) (all left : List TwinMember) (b : TwinPlaces) → AreFiled empty all left b →
    length left ≡ 0 → AreAllFiled empty all b
filed_all empty all left b h none =
    let gone : left ≡ [] = nil_from_length left none in
    let one : length (firsts left) ≡ 0 = ap (λ (ms : List TwinMember). length (firsts ms)) gone in
    let two : length (seconds left) ≡ 0 = ap (λ (ms : List TwinMember). length (seconds ms)) gone in record {
      first = all_in empty.first b.first (firsts all) (firsts left) (firsts h.done) one (firsts_split all left h.done h.split) h.first;
      second = all_in empty.second b.second (seconds all) (seconds left) (seconds h.done) two (seconds_split all left h.done h.split) h.second;
    }

-- so the shares are theirs, and the book lacks none
pub first_shares : (empty : TwinPlaces) (all : List TwinMember) (b : TwinPlaces) → AreAllFiled empty all b →
    shares_in b.first.places ≡ firsts all
first_shares empty all b h = ap (λ (x : Places). shares_in x.places) h.first ∙ shares_in-filled (firsts all)

pub second_shares : (empty : TwinPlaces) (all : List TwinMember) (b : TwinPlaces) → AreAllFiled empty all b →
    shares_in b.second.places ≡ seconds all
second_shares empty all b h = ap (λ (x : Places). shares_in x.places) h.second ∙ shares_in-filled (seconds all)

pub book_is_full : (empty : TwinPlaces) (all : List TwinMember) (b : TwinPlaces) → AreAllFiled empty all b →
    AreAllNumbered empty all → IsFull b.first
book_is_full empty all b h n =
    let limits = ap (λ (x : Places). x.limits.workers) h.first in
    full_is b.first (firsts all) (ap (λ (x : Places). x.places) h.first) (rw limits n.first)
