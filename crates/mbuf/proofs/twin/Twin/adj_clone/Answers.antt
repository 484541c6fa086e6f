use Rattle.std.proofs.Common.{sym}
use Rattle.mbuf.proofs.ForeignLemmas.{bases_kept, own_resized, own_same_guests}
use Rattle.mbuf.proofs.twin.Twin.adj_clone.Goals as goal

-- The clones hold what they held, so their bases are the same guests.
pub returns-clause-own : goal.returns-clause-own
returns-clause-own g c =
    let own = rw (sym c.self.view_is) at c.requires.own in
    let kept = c.resize.ensures.kept in record {
      first =
          own_same_guests _ _ c.self.inside.first (g.C.Commons.side c.args.c.now) own.first
          (λ i. bases_kept c.self.inside.second c.resize.new.self i kept);
      second = own_resized c.self.inside.second c.resize.new.self (g.D.Commons.side c.args.d.now) own.second kept;
    }
