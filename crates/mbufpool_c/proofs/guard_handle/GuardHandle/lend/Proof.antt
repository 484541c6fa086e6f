-- `lend` lends what the pointer leads to, and the handle follows it.
use lib.Dec.{T}
use mathlib.Core.Bool.{Bool}
use Rattle.std.proofs.Common.{◌≡◌, ℕ, List, [], ◌∷◌, refl, sym, subst}
use seplogic.Ra.Ura.{Ura}
use base.Fraction.{full_share}
use mir.Raw.{raw as bare}
use mir.Syntax.{named}
use mir.Val.{Val, vptr}
use base.Logic.{SProp, ent, sep, id⊢}
use base.Fml.{Lft, GName, Share, Fml, ftrue, flft, fsep}
use prog.Wp.{Env}
use types.Logic.{Logic, sem}
use types.Kit.{‵, raw, ◌⊛◌, some, later, at_ret, ◌$◌, ◌∵◌, !, qed, done, move, keep, use1, split, split3, join, fsplit, fsplit3, fjoin, fpack, pick, await, rewrite, suffices, frame, group}
use types.Run.{stop, fld, load, addr, of_opd, first, blocks, exec, returns, enter}
use types.ByLocal.{alloc_all, pass_all, free_all, look_at, get, through, sets, sets_last, env}
use types.Part.{whole, sub, look_in}
use contract.Monad.{fact}
use contract.Running.{tables}
use denote.Builtin.{RefMutOf}
use denote.Exit.{no}
use denote.Follow.{follows, Part, lends_Part}
use denote.Memory.{part_at, part_of, cell_at, mem, lone}
use denote.RawPtr.{Ptr, block_ptr, ptr_val}
use denote.Ref.{MutRef, mut_vals, mut_Tells}
use denote.Signature.{plain}
use denote.Steps.{nothing, opens, heard}
use denote.Triple.Walked.{says, Stays, stay_dropped, walk_of, ends_at, Goes-spent_ref}
use Rattle.std.specs.Prelude.{IsSome, Option}
use Rattle.std.proofs.VecSteps.Shapes.{after}
use Rattle.std.proofs.raw_atomic.Walks.{proved}
use Rattle.std.specs.contracts.impls.GlobalAllocator.TheImpl.{ghosts}
use Rattle.std.specs.declared.option.Option.TheVariants.{Some}
use Rattle.mbufpool_c.specs.Lends.{with_guard}
use Rattle.mbufpool_c.specs.Guarded.{Guarded}
use Rattle.mbufpool_c.specs.contracts.guard_workers.OwnGuard.{the_row as X}
use Rattle.mbufpool_c.specs.contracts.guard_handle.GuardHandle.{the_row as S}
use Rattle.mbufpool_c.proofs.Values.{both}
use Rattle.mbufpool_c.proofs.Handles.{Z, either}
use Rattle.mbufpool_c.proofs.GuardHandles.{guard_out, guard_in}
use Rattle.mbufpool_c.specs.contracts.guard_handle.GuardHandle.lend as f
use Rattle.mbufpool_c.proofs.guard_handle.GuardHandle.lend.Statement.{statement}
use Rattle.mbufpool_c.proofs.guard_handle.GuardHandle.lend.Code as code

abbrev stayed : Stays f.ended.signature.params f.ended.kept
stayed = (stay_dropped (RefMutOf (0 ∷ []) tt (plain (λ _. S)) (λ _. tt)) no, tt)

-- the handle's machine value
abbrev word : Val → ℕ → ℕ → List Val
word hv b o = both (vptr b o) hv ∷ []

module _ {M : Type 1} {𝓤 : Ura M} (𝓛 : Logic 𝓤) (h : S.Denot) (rb ro b o : ℕ) (hv : Val) where
  -- all of the handle but its worker
  abbrev Rest : Fml
  Rest = fsep (fsep (ghosts.dealloc_token h.alloc (bare (lone X.mir)) (block_ptr b o)) (Z.own_val h.alloc (hv ∷ []))) (cell_at full_share S.mir (word hv b o) rb ro)

  back : h.at ≡ block_ptr b o → (w : X.Denot) → ent 𝓤 (sep 𝓤 (sem 𝓛 ((mem X).own_at w b o)) (sem 𝓛 Rest)) (sem 𝓛 ((mem S).own_at (with_guard h w) rb ro))
  unfolding part_of
  back block w =
      qed 𝓛 (‵ (part_at X full_share w b o) ∷ ‵ Rest ∷ []) ∵ move ! (1 ∷ []) $ fsplit ! $ fsplit ! $ move ! (3 ∷ []) $ fjoin ! $
      guard_in ! (block_ptr b o) hv h.alloc (Some w) $
      rewrite ! 0 (λ (p : Ptr). ‵ (S.own_val (record { at = p; alloc = h.alloc; value = Some w }) (word hv b o))) (sym block) refl $
      move ! (1 ∷ 0 ∷ []) $ fjoin ! $
      fpack ! (List Val) (λ us. fsep (cell_at full_share S.mir us rb ro) (S.own_val (with_guard h w) us)) (word hv b o) $ done !

pub lend_spec : {M : Type 1} → statement M
lend_spec 𝓤 𝓛 𝓜 𝓡 wired =
    let H = 𝓛.H in let c = f.clauses 𝓛 𝓜.mem 𝓡.returns in let W = walk_of 𝓛 f.ended stayed c in let 𝓣 = tables 𝓤 H 𝓜 𝓡 𝓡.env in
    proved 𝓛 f.ended stayed c 𝓜 𝓡 (Goes-spent_ref 𝓛 1 (0 ∷ []) tt (plain (λ _. S)), tt)
    f.Key.name code.function (code.unfolded 𝓤 H 𝓜 𝓡 wired)
    (λ κs. (mut_vals, tt)) (λ κs. (mut_Tells (named 0) κs.0 S, tt)) (λ κs qs bounds a gh are.
    let κ : Lft = κs.0 in let q : Share = qs.0 in let rb : ℕ = a.0.ref_ptr.0 in let ro : ℕ = a.0.ref_ptr.1 in let γ : GName = a.0.ghost_name in let h : S.Denot = a.0.now in let vs = mut_vals a.0 in
    let y : W.Ghost = ((κs, qs, bounds, a, (vs, tt)), gh) in let Post : Val → SProp 𝓤 = W.post y in
    qed 𝓛 (((‵ (flft κ q) ⊛ ‵ ftrue) ⊛ ‵ ((MutRef (named 0) κ S).own_val a.0 vs) ⊛ ‵ ftrue) ∷ raw (fact 𝓤 (IsSome h.value)) ∷ []) ∵
    move ! (1 ∷ []) $ heard ! _ (λ asked.
    split ! $ split ! $ move ! (2 ∷ []) $ split ! $ keep ! (0 ∷ 2 ∷ []) $
    enter ! _ _ _ _ _ $ alloc_all ! (λ l. pass_all ! refl ((tt, tt), tt) $ let Ev : Env 𝓤 H = env (code.function).locals l in
    fsplit3 ! $ move ! (1 ∷ 2 ∷ 3 ∷ []) $ opens ! tt S rb ro (λ us. move ! (1 ∷ []) $ guard_out ! h us (λ hv ws fits.
    rewrite ! 2 (λ (vs : List Val). ‵ (cell_at full_share S.mir vs rb ro)) ws refl $
    either X ! h.alloc h.at h.value
    (λ none null. absurd (subst (λ (x : Bool). T x) (sym (subst (λ (v : Option Guarded). IsSome v) none asked)) tt))
    (λ b o x there block t.
    rewrite ! 2 (λ (p : Ptr). ‵ (cell_at full_share S.mir (both (ptr_val p) hv ∷ []) rb ro)) block refl $ fsplit ! $
    -- [the worker; the right to free it; the allocator; the handle's cell; the open borrow, in three entries]
    first ! $ blocks ! $
    sets ! (of_opd ! (load ! (through ! refl (fld ! refl (stop !))) (look_in ! 3 (sub ! 0 refl (whole !))))) refl (tt, tt) $
    sets ! (of_opd ! (get ! refl)) refl (tt, tt) $
    sets_last ! (addr ! (through ! refl (stop !))) refl (tt, tt) $
    exec ! 𝓣.C 𝓣.Λ Ev (after 1 (code.function).body) (at_ret Ev Post) $
    sets ! (of_opd ! (get ! refl)) refl (tt, tt) $
    move ! (1 ∷ 2 ∷ []) $ fjoin ! $ move ! (0 ∷ 2 ∷ []) $ fjoin ! $ move ! (2 ∷ 3 ∷ 4 ∷ 1 ∷ 0 ∷ []) $ group ! 5 $
    use1 𝓛 (later (some (λ (γ' : GName). raw (Part 𝓛 S X (with_guard h) (named 0) κ q rb ro b o γ (sem 𝓛 (Rest 𝓛 h rb ro b o hv)) (back 𝓛 h rb ro b o hv block) x γ'))))
    (lends_Part 𝓛 S X (with_guard h) (named 0) κ q rb ro b o γ (sem 𝓛 (Rest 𝓛 h rb ro b o hv)) (back 𝓛 h rb ro b o hv block) (S.coded.code h) (S.coded.code h) x) $ await ! tt $ pick ! (λ γ'.
    returns ! (look_at ! 0 refl) $ free_all ! refl $ keep ! (0 ∷ []) $
    use1 𝓛 (‵ ((MutRef (named 0) κ X).own_val (record { ref_ptr = (b, o); ghost_name = γ'; now = x }) (vptr b o ∷ [])) ⊛ ‵ (flft κ q) ⊛ ‵ (follows S X γ γ' (with_guard h))) (id⊢ 𝓤 _) $ split3 ! $
    -- [the reference; the token; that the handle follows it]
    suffices ! _ (ends_at 𝓛 f.ended stayed c y (vptr b o) (record { ref_ptr = (b, o); ghost_name = γ'; now = x }) (tt, tt) (tt, tt)) $
    nothing ! $ nothing ! $ fjoin ! $ join ! $ nothing ! $ move ! (2 ∷ 0 ∷ []) $ join ! $ join ! $ frame ! $ says ! there $ done !)))))))
