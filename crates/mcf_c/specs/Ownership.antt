-- What a pointer to a plan owns.
use Rattle.std.specs.Prelude.{Option, None, Some}
use Rattle.std.specs.Box.Ownership.{box_owns}
use Rattle.std.specs.contracts.impls.GlobalAllocator.TheImpl.{ghosts}
use Rattle.std.specs.declared.alloc.Global.{Global}
use base.Fml.{Fml, ftrue}
use denote.RawPtr.{Ptr}
use Rattle.mcf_c.specs.contracts.plan.Plan.{the_row}
use Rattle.mcf_c.specs.declared.plan.Plan.{Plan}

-- nothing, or a plan on the heap and the right to free its place
abbrev pub owned : Global → Ptr → Option Plan → Fml
owned alloc at None = ftrue
owned alloc at (Some plan) = box_owns (ghosts.dealloc_token alloc) the_row at plan
