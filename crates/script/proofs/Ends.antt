-- What pools that threads played on come to, as they were left.
use Rattle.std.proofs.Common.{ℕ, ◌≡◌, ◌≤◌, List, Option, None, Some, Result, Ok, Err, IfOk, refl, sym, ap, ◌∙◌, subst}
use Rattle.std.specs.Prelude.{All}
use Rattle.commons.specs.declared.closed.Closed.{Closed}
use Rattle.commons.specs.declared.limits.Limits.{Limits}
use Rattle.commons.specs.declared.refusal.Refusal.{Refusal}
use Rattle.mbuf.specs.declared.acts.Act.{Act}
use Rattle.mbuf.specs.Members.{Member}
use Rattle.pool_model.specs.PacketModel.{after_acts}
use Rattle.pool_model.specs.Pool.{new_pool}
use Rattle.pool_model.specs.Sound.{ListsOnlyPackets, ListsSoundPackets}
use Rattle.pool_model.specs.Statements.{statement_of}
use Rattle.pool_statement.specs.declared.settled.Settled.{Settled}
use Rattle.pool_statement.specs.declared.statement.Statement.{Statement}
use Rattle.share_book.specs.Locked.{AreLeftBy}
use Rattle.script.specs.Running.{EndByActs, EndsByActs, LeftOnWords, ReachedByActs}
use Rattle.script.specs.Settling.{ListsOnlyPacketsInEach, ListsPacketsInEach, ListsSoundInEach, of_one_or_two}
use Rattle.script.specs.Snapshots.{AreLawful, AreLeftByRun, limits_of, settled_in}
use Rattle.script.specs.declared.left.Left.{Left}
use Rattle.script.specs.declared.left.Left.TheVariants as left
use Rattle.script.specs.declared.snapshots.Snapshots.{Snapshots}
use Rattle.script.specs.declared.threaded.Grounds.{Grounds}
use Rattle.script.specs.declared.threaded.Grounds.TheVariants.{Words, Locked}
use Rattle.script.specs.inside.Leaving.{CountsAreWithin, limits_left, snapshots_of}
use Rattle.script_text.specs.declared.lines.Pools.{Pools}
use Rattle.snapshot.specs.Closing.{snapshot_of}
use Rattle.snapshot.specs.Snapshots.{statement_in}

-- what acts on a new pool of these limits come to lists sound packets
abbrev pub AllAreSound : Limits → Type 0
AllAreSound l = (acts : List (ℕ × Act)) → ListsSoundPackets l (statement_of (after_acts acts (new_pool l)))

-- the statement of what acts left is the one that they come to
pub ends_by_acts : (l limits : Limits) (closed : Closed) (shares : List Member) → limits ≡ l →
    (acts : List (ℕ × Act)) × AreLeftBy acts limits closed shares →
    EndsByActs l (statement_in (snapshot_of limits closed shares))
ends_by_acts l limits closed shares same reached =
    subst (λ (k : Limits). EndsByActs k (statement_in (snapshot_of limits closed shares))) same
    (reached.0, reached.1.statement)

-- so no count in it is above the reference limit
pub counts_by_acts : (l limits : Limits) (closed : Closed) (shares : List Member) → limits ≡ l →
    (acts : List (ℕ × Act)) × AreLeftBy acts limits closed shares → AllAreSound l →
    All (λ held. held.count ≤ limits.ref_limit) (statement_in (snapshot_of limits closed shares)).held
counts_by_acts l limits closed shares same reached sound =
    let here : AllAreSound limits = subst AllAreSound (sym same) sound in
    subst (λ (s : Statement). All (λ held. held.count ≤ limits.ref_limit) s.held) (sym reached.1.statement)
    (here reached.0).counts

-- each packet of what acts come to is sound, of one pool; and of two each is a packet
sound_of_either : (l : Limits) (second : Option Limits) (s : Statement) (t : Option Statement) → AllAreSound l →
    of_one_or_two EndsByActs EndByActs l second s t →
    of_one_or_two (λ l s. ListsOnlyPackets s) (λ l k s t. ListsOnlyPackets s × ListsOnlyPackets t) l second s t →
    of_one_or_two ListsSoundPackets (λ l k s t. ListsOnlyPackets s × ListsOnlyPackets t) l second s t
sound_of_either l None s None sound reached only = subst (ListsSoundPackets l) (sym reached.1) (sound reached.0)
sound_of_either l (Some k) s (Some t) sound reached only = only
sound_of_either l None s (Some t) sound reached only = only
sound_of_either l (Some k) s None sound reached only = only

pub sound_by_acts : (pools : Pools) (s : Settled) → AllAreSound pools.first → ReachedByActs pools s →
    ListsOnlyPacketsInEach pools s → ListsSoundInEach pools s
sound_by_acts pools s sound reached only =
    sound_of_either pools.first pools.second s.first s.second sound reached only

-- what is listed of pools that were left are packets, and counts within the limit
packets_of : (l : Left) → CountsAreWithin l → ListsOnlyPacketsInEach (limits_left l) (settled_in (snapshots_of l)) →
    ListsPacketsInEach (limits_left l) (settled_in (snapshots_of l))
packets_of (left.One limits closed shares) counts only = record { packets = only; counts = counts }
packets_of (left.Two c) counts only = only

pub packets_by_limits : (pools : Pools) (l : Left) (r : Result Settled Refusal) → limits_left l ≡ pools → CountsAreWithin l →
    IfOk r (λ s. s ≡ settled_in (snapshots_of l)) → IfOk r (ListsOnlyPacketsInEach (limits_left l)) →
    IfOk r (ListsPacketsInEach pools)
packets_by_limits pools l (Ok s) limits counts same only =
    subst (λ (p : Pools). ListsPacketsInEach p s) limits
    (subst (ListsPacketsInEach (limits_left l)) (sym same)
    (packets_of l counts (subst (ListsOnlyPacketsInEach (limits_left l)) same only)))
packets_by_limits pools l (Err e) limits counts same only = tt

-- what is said of the statements by what was left is said by what they were settled to
pub of_settled : (P : Settled → Type 0) (l : Left) (r : Result Settled Refusal) →
    IfOk r (λ s. s ≡ settled_in (snapshots_of l)) → P (settled_in (snapshots_of l)) → IfOk r P
of_settled P l (Ok s) same is = subst P (sym same) is
of_settled P l (Err e) same is = tt

-- so where it rests on their being lawful
pub of_lawful : (P : Settled → Type 0) (l : Left) (r : Result Settled Refusal) →
    IfOk r (λ s. s ≡ settled_in (snapshots_of l)) → IfOk r (λ _. AreLawful (snapshots_of l)) →
    (AreLawful (snapshots_of l) → P (settled_in (snapshots_of l))) → IfOk r P
of_lawful P l (Ok s) same lawful is = subst P (sym same) (is lawful)
of_lawful P l (Err e) same lawful is = tt

-- under the lock the packets of what pools were settled to are sound
pub sound_when_settled : (pools : Pools) (l : Left) (r : Result Settled Refusal) → limits_left l ≡ pools →
    AllAreSound pools.first → ReachedByActs pools (settled_in (snapshots_of l)) →
    IfOk r (λ s. s ≡ settled_in (snapshots_of l)) → IfOk r (ListsOnlyPacketsInEach (limits_left l)) →
    IfOk r (ListsSoundInEach pools)
sound_when_settled pools l (Ok s) limits sound reached same only =
    sound_by_acts pools s sound (subst (ReachedByActs pools) (sym same) reached)
    (subst (λ (p : Pools). ListsOnlyPacketsInEach p s) limits only)
sound_when_settled pools l (Err e) limits sound reached same only = tt

-- what pools left has their limits as snapshots too
pub limits_as_left : (l : Left) → limits_of (snapshots_of l) ≡ limits_left l
limits_as_left (left.One limits closed shares) = refl
limits_as_left (left.Two c) = refl

pub limits_as_snapshots : (pools : Pools) (l : Left) (r : Result Snapshots Refusal) → limits_left l ≡ pools →
    IfOk r (λ s. s ≡ snapshots_of l) → IfOk r (λ s. limits_of s ≡ pools)
limits_as_snapshots pools l (Ok s) limits same = ap limits_of same ∙ limits_as_left l ∙ limits
limits_as_snapshots pools l (Err e) limits same = tt

-- what a run left, as snapshots
pub left_by_run : (grounds : Grounds) (pools : Pools) (l : Left) (r : Result Snapshots Refusal) → limits_left l ≡ pools →
    (grounds ≡ Locked → ReachedByActs pools (settled_in (snapshots_of l))) →
    (grounds ≡ Words → AreLawful (snapshots_of l) → LeftOnWords pools (settled_in (snapshots_of l))) →
    IfOk r (λ s. s ≡ snapshots_of l) → IfOk r AreLawful → IfOk r (AreLeftByRun grounds pools)
left_by_run grounds pools l (Ok s) limits reached ended same lawful = record {
  lawful = lawful;
  limits = limits_as_snapshots pools l (Ok s) limits same;
  reached = λ locked. subst (λ (x : Snapshots). ReachedByActs pools (settled_in x)) (sym same) (reached locked);
  ended = λ words. subst (λ (x : Snapshots). LeftOnWords pools (settled_in x)) (sym same)
      (ended words (subst AreLawful same lawful));
}
left_by_run grounds pools l (Err e) limits reached ended same lawful = tt
