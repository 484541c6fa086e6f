-- `is_empty` tests the pointer, and leaves the handle as it was.
use Rattle.std.proofs.Common.{◌≡◌, ℕ, List, [], ◌∷◌, refl, sym, lit<}
use mathlib.Core.Bool.{true, false}
use base.Fraction.{full_share}
use mir.Syntax.{named}
use mir.Val.{Val, vbool}
use base.Logic.{SProp}
use base.Fml.{Lft, Share, ftrue, flft}
use types.Kit.{‵, raw, ◌⊛◌, at_ret, ◌$◌, ◌∵◌, !, qed, by, done, move, keep, drop, split, join, fsplit3, fjoin, feq_i, rewrite, suffices, frame, group}
use types.Run.{stop, fld, lit, load, of_opd, bin, returns, enter}
use types.ByLocal.{alloc_all, pass_all, free_all, look_at, get, through, sets}
use types.Part.{whole, sub, look_in}
use contract.Running.{tables}
use denote.Builtin.{bool}
use denote.Memory.{cell_at}
use denote.Plain.{bool_Makes}
use denote.RawPtr.{Ptr, block_ptr, null_ptr, ptr_val, tests_null}
use denote.Ref.{MutRef, mut_vals, mut_Tells}
use denote.Signature.{plain}
use denote.Steps.{nothing, opens, closes, owned}
use denote.Triple.Walked.{says, Stays, stay_ref, walk_of, ends_at, Goes-ref}
use Rattle.std.proofs.raw_atomic.Walks.{proved}
use Rattle.std.specs.Prelude.{is_none}
use Rattle.std.specs.declared.option.Option.TheVariants.{None, Some}
use Rattle.mbufpool_c.specs.contracts.guard_workers.OwnGuard.{the_row as X}
use Rattle.mbufpool_c.specs.contracts.guard_handle.GuardHandle.{the_row as S}
use Rattle.mbufpool_c.proofs.Values.{both}
use Rattle.mbufpool_c.proofs.Handles.{either}
use Rattle.mbufpool_c.proofs.GuardHandles.{guard_out, guard_in}
use Rattle.mbufpool_c.specs.contracts.guard_handle.GuardHandle.is_empty as f
use Rattle.mbufpool_c.proofs.guard_handle.GuardHandle.is_empty.Statement.{statement}
use Rattle.mbufpool_c.proofs.guard_handle.GuardHandle.is_empty.Code as code

abbrev stayed : Stays f.ended.signature.params f.ended.kept
stayed = (stay_ref (0 ∷ []) tt (plain (λ _. S)), tt)

pub is_empty_spec : {M : Type 1} → statement M
is_empty_spec 𝓤 𝓛 𝓜 𝓡 wired =
    let H = 𝓛.H in let c = f.clauses 𝓛 𝓜.mem 𝓡.returns in let W = walk_of 𝓛 f.ended stayed c in let 𝓣 = tables 𝓤 H 𝓜 𝓡 𝓡.env in
    proved 𝓛 f.ended stayed c 𝓜 𝓡 (Goes-ref 𝓛 1 0 tt (plain (λ _. S)), tt)
    f.Key.name code.function (code.unfolded 𝓤 H 𝓜 𝓡 wired)
    (λ κs. (mut_vals, tt)) (λ κs. (mut_Tells (named 0) κs.0 S, tt)) (λ κs qs bounds a gh are.
    let κ : Lft = κs.0 in let q : Share = qs.0 in let rb : ℕ = a.0.ref_ptr.0 in let ro : ℕ = a.0.ref_ptr.1 in let h : S.Denot = a.0.now in let vs = mut_vals a.0 in
    let y : W.Ghost = ((κs, qs, bounds, a, (vs, tt)), gh) in let Post : Val → SProp 𝓤 = W.post y in
    let Cell : Val → Ptr → types.Kit.Item 𝓤 = λ hv p. ‵ (cell_at full_share S.mir (both (ptr_val p) hv ∷ []) rb ro) in
    let Own : Val → S.Denot → types.Kit.Item 𝓤 = λ hv d. ‵ (S.own_val d (both (ptr_val d.at) hv ∷ [])) in
    qed 𝓛 (((‵ (flft κ q) ⊛ ‵ ftrue) ⊛ ‵ ((MutRef (named 0) κ S).own_val a.0 vs) ⊛ ‵ ftrue) ∷ ‵ ftrue ∷ []) ∵
    split ! $ split ! $ move ! (2 ∷ []) $ split ! $ keep ! (0 ∷ 2 ∷ []) $
    enter ! _ _ _ _ _ $ alloc_all ! (λ l. pass_all ! refl ((tt, tt), tt) $
    fsplit3 ! $ move ! (1 ∷ 2 ∷ 3 ∷ []) $ opens ! tt S rb ro (λ us. move ! (1 ∷ []) $ guard_out ! h us (λ hv ws fits.
    rewrite ! 2 (λ (vs : List Val). ‵ (cell_at full_share S.mir vs rb ro)) ws refl $
    either X ! h.alloc h.at h.value
    -- [the allocator; the handle's cell; the open borrow, in three entries]
    (λ none null. let same : record { at = null_ptr; alloc = h.alloc; value = None } ≡ h = λ i. record { at = sym null i; alloc = h.alloc; value = sym none i } in
    rewrite ! 1 (λ (p : Ptr). Cell hv p) null refl $
    sets ! (of_opd ! (load ! (through ! refl (fld ! refl (stop !))) (look_in ! 1 (sub ! 0 refl (whole !))))) refl (tt, record { fits = lit< tt }) $
    sets ! (bin ! (get ! refl) (lit ! tt) tt) refl (tt, tt) $
    feq_i ! Ptr null_ptr null_ptr refl $ guard_in ! null_ptr hv h.alloc None $
    rewrite ! 0 (λ (d : S.Denot). Own hv d) same refl $ rewrite ! 1 (λ (p : Ptr). Cell hv p) (sym null) refl $
    move ! (1 ∷ 0 ∷ []) $ closes ! tt S h (both (ptr_val h.at) hv ∷ []) rb ro $
    -- [two parts of self; the token; self's first part]
    returns ! (look_at ! 0 refl) $ free_all ! refl $ move ! (3 ∷ []) $
    suffices ! _ (ends_at 𝓛 f.ended stayed c y (vbool true) true (h, tt) (tt, tt)) $ says ! (λ i. is_none (sym none i), refl) $
    group ! 3 $ nothing ! $ move ! (1 ∷ 0 ∷ []) $ join ! $ nothing ! $ move ! (2 ∷ 0 ∷ []) $ join ! $ frame ! $ frame ! $
    owned ! bool _ (bool_Makes 𝓛) true _ refl $ done !)
    -- [the worker; the allocator; the handle's cell; the open borrow, in three entries]
    (λ b o x there block t. let same : record { at = block_ptr b o; alloc = h.alloc; value = Some x } ≡ h = λ i. record { at = sym block i; alloc = h.alloc; value = sym there i } in
    rewrite ! 2 (λ (p : Ptr). Cell hv p) block refl $
    sets ! (of_opd ! (load ! (through ! refl (fld ! refl (stop !))) (look_in ! 2 (sub ! 0 refl (whole !))))) refl (tt, tt) $
    sets ! (bin ! (get ! refl) (lit ! tt) (tests_null (block_ptr b o) t)) refl (tt, tt) $
    guard_in ! (block_ptr b o) hv h.alloc (Some x) $
    rewrite ! 0 (λ (d : S.Denot). Own hv d) same refl $ rewrite ! 1 (λ (p : Ptr). Cell hv p) (sym block) refl $
    move ! (1 ∷ 0 ∷ []) $ closes ! tt S h (both (ptr_val h.at) hv ∷ []) rb ro $
    -- [two parts of self; the token; self's first part]
    returns ! (look_at ! 0 refl) $ free_all ! refl $ move ! (3 ∷ []) $
    suffices ! _ (ends_at 𝓛 f.ended stayed c y (vbool false) false (h, tt) (tt, tt)) $ says ! (λ i. is_none (sym there i), refl) $
    group ! 3 $ nothing ! $ move ! (1 ∷ 0 ∷ []) $ join ! $ nothing ! $ move ! (2 ∷ 0 ∷ []) $ join ! $ frame ! $ frame ! $
    owned ! bool _ (bool_Makes 𝓛) false _ refl $ done !)))))
