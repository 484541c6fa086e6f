-- What a handle owns, by its two cases, and its machine value. Assumes `Logic`.
use Rattle.std.proofs.Common.{◌≡◌, ℕ, List, [], ◌∷◌, refl}
use mathlib.Core.Bool.{true, ◌&&◌}
use lib.Dec.{T, lit<}
use seplogic.Ra.Ura.{Ura}
use mir.Raw.{raw as bare}
use mir.Syntax.{impl, tnil, dnil}
use mir.Val.{Val, has_ty, WT}
use base.Logic.{SProp, ent, guard, via, never, fst∗, snd∗, guard_i}
use base.Fraction.{full_share}
use contract.Monad.{fact_use}
use types.Logic.{Logic, sem}
use types.Kit.{Item, Goal, Seq, ‵, given, ◌$◌, feq_l, use1, learn}
use denote.RattleType.{RattleType}
use denote.Builtin.{RawPtr}
use denote.Memory.{lone}
use denote.Param.{layout}
use denote.RawPtr.{Ptr, block_ptr, null_ptr, ptr_val, in_a_block, lies_at, Testable}
use Rattle.std.proofs.alloc.Calls.{Al}
use Rattle.std.specs.Box.Ownership.{box_owns}
use Rattle.std.specs.declared.alloc.Global.{Global}
use Rattle.std.specs.contracts.alloc.Global as heap
use Rattle.std.proofs.alloc.Global.TheLaws as heap_laws
use Rattle.std.specs.contracts.impls.GlobalAllocator.TheImpl.{ghosts}
use Rattle.std.proofs.GlobalToken.{dealloc_token-Testable}
use Rattle.std.specs.declared.option.Option.{Option}
use Rattle.std.specs.declared.option.Option.TheVariants.{None, Some}
use Rattle.mbufpool_c.specs.Owned.{owns_in}
use Rattle.mbufpool_c.proofs.Values.{Good, both, both_tt}

abbrev pub Z : RattleType
Z = heap.the_row

abbrev pub al : Al
al = record { row = Z; laws = heap_laws.the_row_laws; g = ghosts; d = impl [] tnil dnil; drops = impl [] tnil dnil }

abbrev pub boxed : (X : RattleType) → Global → Ptr → X.Denot → base.Fml.Fml
boxed X a = box_owns (ghosts.dealloc_token a) X

module _ {M : Type 1} {𝓤 : Ura M} (𝓛 : Logic 𝓤) (X : RattleType) (a : Global) where
  tested : (p : Ptr) (x : X.Denot) → ent 𝓤 (sem 𝓛 (boxed X a p x)) (guard 𝓤 (Testable p) (sem 𝓛 (boxed X a p x)))
  tested p x =
      let B : SProp 𝓤 = sem 𝓛 (boxed X a p x) in
      fact_use 𝓤 (Testable p) (via 𝓤 _ (snd∗ 𝓤 (sem 𝓛 (lies_at X full_share p x)) (sem 𝓛 (ghosts.dealloc_token a (bare (lone X.mir)) p)))
      (dealloc_token-Testable 𝓛 a (bare (lone X.mir)) p)) (guard_i 𝓤 (Testable p) B)

module _ (X : RattleType) {M : Type 1} {𝓤 : Ura M} {𝓛 : Logic 𝓤} {K : Type 0} {Γ : List (Item 𝓤)} {G : Goal 𝓤 𝓛.H} where
  pub either : K → (a : Global) (p : Ptr) (v : Option X.Denot)
      → (v ≡ None → p ≡ null_ptr → Seq K 𝓛 Γ G)
      → ((b o : ℕ) (x : X.Denot) → v ≡ Some x → p ≡ block_ptr b o → Testable (block_ptr b o) → Seq K 𝓛 (‵ (boxed X a (block_ptr b o) x) ∷ Γ) G)
      → Seq K 𝓛 (‵ (owns_in X a p v) ∷ Γ) G
  either t a p None none one = feq_l t (λ e. none refl e)
  either t a p (Some x) none one =
      in_a_block t p (λ q. boxed X a q x) (fst∗ 𝓤 (never 𝓤) (sem 𝓛 (ghosts.dealloc_token a (bare (lone X.mir)) null_ptr))) (λ b o e.
      use1 𝓛 (given (Testable (block_ptr b o)) (‵ (boxed X a (block_ptr b o) x))) (tested 𝓛 X a (block_ptr b o) x) $ learn t (λ u. one b o x refl e u))

-- a pointer has its type's layout
Ptr-Good : (p : Ptr) → Good (layout RawPtr) (ptr_val p)
Ptr-Good (block_ptr b o) = (tt, tt)
Ptr-Good null_ptr = (tt, record { fits = lit< tt })

-- a handle's machine value, of its type
pub handle_good : (p : Ptr) (h : Val) → Good (layout Z) h → T (has_ty (layout RawPtr) (ptr_val p) && (has_ty (layout Z) h && true)) × WT (both (ptr_val p) h)
handle_good p h fits = let q = Ptr-Good p in (both_tt (has_ty (layout RawPtr) (ptr_val p)) (has_ty (layout Z) h) q.0 fits.0, (q.1, (fits.1, tt)))
