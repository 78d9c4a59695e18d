-- `none` makes a handle that owns nothing.
use Rattle.std.proofs.Common.{◌≡◌, List, [], ◌∷◌, ◌++◌, refl, sym, subst, Option, None}
use mir.Syntax.{Fn}
use mir.Val.{Val}
use base.Logic.{SProp, ent, emp, id⊢}
use base.Fml.{ftrue}
use prog.Wp.{WpFn}
use contract.Monad.{fact, fact_i}
use contract.Running.{tables}
use types.Kit.{‵, raw, ◌⊛◌, ◌$◌, ◌∵◌, !, qed, by, move, drop, use0, split, fsplit, fjoin, feq_l, suffices}
use types.Part.{agg}
use types.Run.{no_more, and_then, returns, enter}
use types.ByLocal.{alloc_all, pass_all, free_all, look_at, get, sets}
use denote.Builtin.{RawPtr}
use denote.RattleType.{owns}
use denote.RawPtr.{ptr_val}
use denote.Signature.{types_at, plain}
use denote.Steps.{nothing}
use denote.Triple.Entry.{alive}
use denote.Triple.Walked.{Stays, stay_dropped, walk_of, Goes-dropped}
use Rattle.std.proofs.alloc.Calls.{handle_tells}
use Rattle.std.proofs.raw_atomic.Walks.{proved_at, leaves}
use Rattle.mcf_c.proofs.Pointers.{Heap, Plan, heap_al, ptr_good, pointer_good, pointer_in}
use Rattle.mcf_c.proofs.LooseValues.{both}
use Rattle.mcf_c.specs.contracts.pointer.PlanPointer.to_nothing.{ended, clauses}
use Rattle.mcf_c.specs.contracts.pointer.PlanPointer.to_nothing.Key.{name as #self}
use Rattle.mcf_c.proofs.pointer.PlanPointer.to_nothing.Statement.{statement}
use Rattle.mcf_c.proofs.pointer.PlanPointer.to_nothing.Code as code

pub to_nothing_spec : {M : Type 1} → statement M
to_nothing_spec 𝓤 𝓛 𝓜 𝓡 wired =
    let H = 𝓛.H in let 𝓣 = tables 𝓤 H 𝓜 𝓡 𝓡.env in let c = clauses 𝓛 𝓜.mem 𝓡.returns in let fn : Fn = code.function in
    let hs : Stays ended.signature.params ended.kept = (stay_dropped (plain (λ _. RawPtr)) ended.kept.0, (stay_dropped (plain (λ _. Heap)) ended.kept.1.0, tt)) in
    proved_at 𝓛 ended hs c 𝓜 𝓡 (Goes-dropped 𝓛 0 (plain (λ _. RawPtr)) ended.kept.0 (λ κs x f. refl), (Goes-dropped 𝓛 0 (plain (λ _. Heap)) ended.kept.1.0 (λ κs x f. refl), tt)) #self fn (code.unfolded 𝓤 H 𝓜 𝓡 wired) (λ z are.
    let Post : Val → SProp 𝓤 = (walk_of 𝓛 ended hs c).post z in let Run : List Val → SProp 𝓤 = λ ws. WpFn 𝓤 H 𝓣.C 𝓣.Λ fn ws Post in
    let p = z.0.3.0 in let a = z.0.3.1.0 in let no_plan : Option Plan.Denot = None in
    qed 𝓛 ((raw (alive 𝓛 ended.signature z.0.0 z.0.1) ⊛ ‵ (owns (types_at ended.signature.params z.0.0) z.0.3 z.0.4)) ∷ ‵ ftrue ∷ []) ∵ move ! (1 ∷ []) $ drop ! $ split ! $ move ! (1 ∷ []) $
    fsplit ! $ feq_l ! (λ ep. fsplit ! $ handle_tells heap_al ! a z.0.4.1.0 (λ h eh fits. move ! (1 ∷ []) $ drop ! $ let ws : List Val = ptr_val p ∷ h ∷ [] in
    suffices ! (Run ws) (subst (λ (us : List Val). ent 𝓤 (Run ws) (Run us)) (sym (λ i. ep i ++ (eh i ++ []))) (id⊢ 𝓤 (Run ws))) $
    enter ! 𝓣.C 𝓣.Λ fn ws Post $ alloc_all ! (λ l. pass_all ! refl (ptr_good p, (fits, tt)) $
    sets ! (agg ! (and_then ! (get ! refl) (and_then ! (get ! refl) (no_more !)))) refl (pointer_good p h fits) $
    returns ! (look_at ! 0 refl) $ free_all ! refl $ nothing ! $ pointer_in ! p h a None $
    use0 𝓛 (raw (fact 𝓤 (no_plan ≡ no_plan))) (fact_i 𝓤 (no_plan ≡ no_plan) (emp 𝓤) refl) $ nothing ! $ nothing ! $ fjoin ! $ nothing ! $ fjoin ! $ move ! (3 ∷ 0 ∷ 2 ∷ 1 ∷ []) $
    by ! (leaves 𝓛 ended hs c z (both (ptr_val p) h) (record { at = p; alloc = a; plan = None }) (tt, (tt, tt)) (tt, (tt, tt)))))))
