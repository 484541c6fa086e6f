-- What each act of a worker keeps of the pools, each command keeps; so what commands make of a pool
-- alone, acts make of it.
use Rattle.std.proofs.Common.{ℕ, ◌≡◌, List, [], ◌∷◌, ◌++◌, length, Result, Ok, Err, refl, sym, ap, ◌∙◌, inl, inr, ◌&&◌, nat_le}
use Rattle.std.proofs.lemmas.Bool.{cases_Bool}
use Rattle.commons.specs.declared.limits.Limits.{Limits}
use Rattle.commons.specs.declared.refusal.Refusal.{Refusal}
use Rattle.mbuf.specs.declared.acts.Act.{Act}
use Rattle.script_text.specs.declared.commands.Command.{Command}
use Rattle.script_text.specs.Commands.{Line}
use Rattle.script_text.specs.PoolLine.{one_pool}
use Rattle.pool_model.specs.Pool.{Pool, new_pool}
use Rattle.pool_model.specs.PacketModel.{perform, after_acts}
use Rattle.pool_model.proofs.AfterActs.{after_one_more}
use Rattle.script.specs.Replay.{One, Run, Stock, asked, done_for, end_of, new_run, played, perform_on}
use Rattle.twin_acts.specs.declared.acts.TwinAct.{TwinAct}
use Rattle.twin_acts.specs.declared.acts.TwinAct.TheVariants.{OnFirst}

module _ (P : Stock → Type 0) (kept : (stock : Stock) (w : ℕ) (act : TwinAct) → P stock → P (perform_on stock w act).1) where
  -- an act that a command asks for, also where it asks for none
  done_for-keeps : (act : Result TwinAct Refusal) (worker : ℕ) (c : Command) (run : Run) → P run.stock →
      P (done_for act worker c run).1.stock
  done_for-keeps (Err cause) worker c run p = p
  done_for-keeps (Ok act) worker c run p = kept run.stock worker act p

  -- each command asks at most one act of the pools
  played-keeps : (worker : ℕ) (c : Command) (run : Run) → P run.stock → P (played worker c run).1.stock
  played-keeps worker c run p = done_for-keeps (asked (run.stands worker) c) worker c run p

  -- and so do all lines
  pub end_of-keeps : (lines : List Line) (run : Run) → P run.stock → P (end_of lines run).stock
  end_of-keeps [] run p = p
  end_of-keeps (line ∷ lines) run p =
      end_of-keeps lines (played line.worker line.command run).1
      (played-keeps line.worker line.command run p)

-- A pool alone that acts, one after another, made of another.
record IsReachedAlone (start : Pool) (stock : Stock) : Type 0 where
  pub acts : List (ℕ × Act)
  pub is : stock ≡ One (after_acts acts start)

-- what acts reach, one act more reaches; a pool alone does nothing for a foreign clone
one_act_more : (start : Pool) (stock : Stock) (w : ℕ) (act : TwinAct) → IsReachedAlone start stock →
    IsReachedAlone start (perform_on stock w act).1
one_act_more start stock w (OnFirst act) r = record {
  acts = r.acts ++ (w, act) ∷ [];
  is =
      ap (λ (s : Stock). (perform_on s w (OnFirst act)).1) r.is
      ∙ ap (λ (p : Pool). One p) (sym (after_one_more r.acts start w act));
}
one_act_more start stock w act r = record { acts = r.acts; is = ap (λ (s : Stock). (perform_on s w act).1) r.is }

-- a script's end is reached by acts: those that its lines ask of the pool, one after another
pub end_is_reached : (l : Limits) (lines : List Line) →
    (acts : List (ℕ × Act)) × ((end_of lines (new_run (one_pool l))).stock ≡ One (after_acts acts (new_pool l)))
end_is_reached l lines =
    let r =
    end_of-keeps (IsReachedAlone (new_pool l)) (one_act_more (new_pool l)) lines (new_run (one_pool l))
    (record { acts = []; is = refl }) in
    (r.acts, r.is)

-- no act changes the limits of a pool
pub perform_limits : (pool : Pool) (w : ℕ) (act : Act) → (perform pool w act).1.limits ≡ pool.limits
perform_limits pool w act =
    elim (cases_Bool (nat_le 1 w && nat_le w (length pool.members)))
    [ inl e ↦ rw e refl | inr e ↦ rw e refl ]
