-- The machine values of a `Pointer`, and what it owns. Assumes `Logic`.
use Rattle.std.proofs.Common.{◌≡◌, List, [], ◌∷◌, ◌++◌, refl, subst, lit<, true, ◌&&◌, Option, Some, None, IsSome}
use Rattle.std.proofs.lemmas.Bool.{false≢true}
use lib.Dec.{T}
use seplogic.Ra.Ura.{Ura}
use mir.Syntax.{impl, tnil, dnil, ty_ptr}
use mir.Val.{Val, vstruct, of_list, has_ty, WT}
use types.Logic.{Logic}
use types.Kit.{Item, Goal, Seq, Step, step, ‵, ◌$◌, move, drop, fsplit, fjoin, fpick, fpack, feq_i, feq_l}
use denote.RattleType.{RattleType, Valss}
use denote.Builtin.{RawPtr}
use denote.RawPtr.{Ptr, block_ptr, null_ptr, ptr_val}
use denote.Steps.{nothing}
use denote.Param.{layout}
use denote.Struct.Struct.{within}
use denote.Struct.Owning.{shape}
use Rattle.std.proofs.alloc.Calls.{Al, handle_tells}
use Rattle.std.proofs.alloc.Global.TheLaws as heap_laws
use Rattle.std.proofs.cell.Inside.{Good}
use Rattle.std.specs.contracts.alloc.Global as heap
use Rattle.std.specs.contracts.impls.GlobalAllocator.TheImpl.{ghosts}
use Rattle.mcf_c.proofs.LooseValues.{both, both_tt}
use Rattle.mcf_c.specs.Ownership.{owned}
use Rattle.mcf_c.specs.contracts.pointer.PlanPointer as pointer
use Rattle.mcf_c.specs.contracts.plan.Plan as plan

abbrev pub Heap : RattleType
Heap = heap.the_row

abbrev pub heap_al : Al
heap_al = record { row = Heap; laws = heap_laws.the_row_laws; g = ghosts; d = impl [] tnil dnil; drops = impl [] tnil dnil }

abbrev pub Plan : RattleType
Plan = plan.the_row

abbrev pub Pointer : RattleType
Pointer = pointer.the_row

pub ptr_good : (p : Ptr) → Good ty_ptr (ptr_val p)
ptr_good (block_ptr b o) = (tt, tt)
ptr_good null_ptr = (tt, record { fits = lit< tt })

pub pointer_good : (p : Ptr) (h : Val) → Good (layout Heap) h → T (has_ty ty_ptr (ptr_val p) && (has_ty (layout Heap) h && true)) × WT (both (ptr_val p) h)
pointer_good p h fits = (both_tt (has_ty ty_ptr (ptr_val p)) (has_ty (layout Heap) h) (ptr_good p).0 fits.0, ((ptr_good p).1, (fits.1, tt)))

-- the value that is there
pub told : {A : Type 0} (o : Option A) → IsSome o → (x : A) × (o ≡ Some x)
told None is = absurd (false≢true is)
told (Some x) is = (x, refl)

module _ {M : Type 1} {𝓤 : Ura M} {𝓛 : Logic 𝓤} {K : Type 0} {Γ : List (Item 𝓤)} {G : Goal 𝓤 𝓛.H} where
  pub pointer_out : K → (d : Pointer.Denot) (vs : List Val)
      → ((h : Val) → vs ≡ both (ptr_val d.at) h ∷ [] → Good (layout Heap) h → Seq K 𝓛 (‵ (owned d.alloc d.at d.plan) ∷ ‵ (Heap.own_val d.alloc (h ∷ [])) ∷ Γ) G)
      → Seq K 𝓛 (‵ (Pointer.own_val d vs) ∷ Γ) G
  pointer_out t d vs k =
      fsplit t $ fpick t (λ vss. fsplit t $ feq_l t (λ ev. fsplit t $ feq_l t (λ ep. fsplit t $ handle_tells heap_al t d.alloc vss.1.0 (λ h ea fits. move t (1 ∷ []) $ drop t $ move t (1 ∷ []) $
      k h
      (subst (λ (ws : List Val). vs ≡ vstruct (of_list (ptr_val d.at ∷ (ws ++ []))) ∷ []) ea (subst (λ (ps : List Val). vs ≡ vstruct (of_list (ps ++ (vss.1.0 ++ []))) ∷ []) ep ev)) fits))))

  pub pointer_in : K → (p : Ptr) (h : Val) (a : Heap.Denot) (o : Option Plan.Denot)
      → Step K 𝓛 (‵ (Pointer.own_val (record { at = p; alloc = a; plan = o }) (both (ptr_val p) h ∷ [])) ∷ Γ) G (‵ (owned a p o) ∷ ‵ (Heap.own_val a (h ∷ [])) ∷ Γ) G
  pointer_in t p h a o = step (λ s. let v : Val = both (ptr_val p) h in
      nothing t $ move t (2 ∷ 0 ∷ []) $ fjoin t $ feq_i t (List Val) (ptr_val p ∷ []) (ptr_val p ∷ []) refl $ fjoin t $ feq_i t (List Val) (v ∷ []) (v ∷ []) refl $ fjoin t $
      fpack t (Valss (RawPtr ∷ Heap ∷ [])) (within (shape pointer.the_type) (p, (((tt, tt), tt), tt)) (v ∷ [])) (ptr_val p ∷ [], (h ∷ [], tt)) $ fjoin t $ s)
