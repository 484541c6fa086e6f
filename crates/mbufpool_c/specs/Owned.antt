-- What a handle owns: nothing, and then its pointer is null, or the value behind the pointer, and
-- the right to free it.
use Rattle.std.specs.Prelude.{Option, Some, None}
use base.Fml.{Fml, feq}
use denote.RattleType.{RattleType}
use denote.RawPtr.{Ptr, null_ptr}
use Rattle.std.specs.declared.alloc.Global.{Global}
use Rattle.std.specs.contracts.impls.GlobalAllocator.TheImpl.{ghosts}
use Rattle.std.specs.Box.Ownership.{box_owns}

abbrev pub owns_in : (R : RattleType) → Global → Ptr → Option R.Denot → Fml
owns_in R a p None = feq Ptr p null_ptr
owns_in R a p (Some x) = box_owns (ghosts.dealloc_token a) R p x
