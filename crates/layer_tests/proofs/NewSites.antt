-- At a new site a worker has nothing, and a new worker's packets are its own.
use Rattle.std.proofs.Common.{ℕ, ◌≡◌, ◌-◌, [], None, replicate}
use Rattle.commons.specs.Lists.{Lists, opening, hand_of, holds_of, side_of}
use Rattle.commons.specs.declared.limits.Limits.{Limits}
use Rattle.commons.proofs.Opening.{nothing_held, nothing_in_hand}
use Rattle.mbuf.specs.Members.{Member, slots}
use Rattle.mbuf.specs.Own.{Own}
use Rattle.mbuf.specs.Twins.{OwnTwin, TwinMember}
use Rattle.mbuf.proofs.ForeignLemmas.{own_new_twin}
use Rattle.mbuf.proofs.OwnLemmas.{own_new}

pub new_hand : (s : Lists) (l : Limits) (w i : ℕ) → s ≡ opening l → hand_of s w i ≡ 0
new_hand s l w i e = rw e (nothing_in_hand l.population w i)

pub new_holds : (s : Lists) (l : Limits) (w i : ℕ) → s ≡ opening l → holds_of s w i ≡ 0
new_holds s l w i e = rw e (nothing_held l.workers l.population (w - 1) i)

-- a new site has nothing in a hand and nothing held, as new packets have nothing
pub new_own : (s : Lists) (l : Limits) (w : ℕ) (m : Member) → s ≡ opening l →
    m ≡ record { limits = l; number = w; cache = []; table = replicate slots None } →
    Own m (side_of s w)
new_own s l w m e f =
    rw (f, e) (own_new (side_of (opening l) w) w (nothing_in_hand l.population w)
    (nothing_held l.workers l.population (w - 1)))

-- so it is at two new sites, for a worker of both
pub new_own_twin : (s u : Lists) (l k : Limits) (w : ℕ) (t : TwinMember) → s ≡ opening l → u ≡ opening k →
    t.first ≡ record { limits = l; number = w; cache = []; table = replicate slots None } →
    t.second ≡ record { limits = k; number = w; cache = []; table = replicate slots None } →
    OwnTwin t (side_of s w) (side_of u w)
new_own_twin s u l k w t e f first second =
    let own =
    own_new_twin (side_of (opening l) w) (side_of (opening k) w) w (nothing_in_hand l.population w)
    (nothing_held l.workers l.population (w - 1)) (nothing_in_hand k.population w)
    (nothing_held k.workers k.population (w - 1)) in
    record { first = rw (first, second, e) own.first; second = rw (second, f) own.second }
