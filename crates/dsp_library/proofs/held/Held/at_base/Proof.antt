-- `at_base` makes a struct that owns nothing, at the null pointer. Assumes `Logic`.
use Rattle.std.proofs.Common.{◌≡◌, refl, sym, ap, ◌∙◌, List, [], ◌∷◌, ◌++◌, lit<, w64}
use Rattle.std.specs.Prelude.{None}
use Rattle.std.proofs.raw_atomic.Walks.{proved_at}
use base.Logic.{SProp}
use contract.Monad.{fact}
use contract.Running.{tables}
use mir.Val.{Val, vint, vstruct, vcons, vnil}
use prog.Wp.{WpFn}
use types.Kit.{‵, raw, prop, ◌⊛◌, ◌$◌, ◌∵◌, !, qed, move, drop, split, fsplit, fjoin, fpack, feq_i, regoal, rewrite, suffices, done}
use types.Part.{whole, sub, agg}
use types.Run.{stop, fld, no_more, and_then, returns, enter}
use types.ByLocal.{alloc_all, pass_all, free_all, look_at, get, get_in, sets}
use denote.RattleType.{owns, Valss}
use denote.RawPtr.{Ptr, RawPtr, null_ptr, ptr_val}
use denote.Signature.{plain, types_at}
use denote.Steps.{heard, nothing}
use denote.Struct.Struct.{within}
use denote.Struct.Owning.{shape}
use denote.Triple.Entry.{alive}
use denote.Triple.Walked.{says, Stays, stay_dropped, walk_of, ends_at}
use Rattle.std.proofs.alloc.Calls.{Goes-blank}
use Rattle.dsp_library.specs.contracts.held.Base.{the_row as Base}
use Rattle.dsp_library.proofs.held.Base.TheLaws.{lowers as laid}
use Rattle.std_heap.specs.contracts.Global.{the_row as Heap}
use Rattle.std_heap.proofs.Handle.{heap_val, heap_Tells}
use Rattle.dsp_library.specs.contracts.held.Held as H
use Rattle.dsp_library.specs.contracts.held.Held.at_base as f
use Rattle.dsp_library.proofs.held.Held.at_base.Statement.{statement}
use Rattle.dsp_library.proofs.held.Held.at_base.Code as code

abbrev stayed : Stays f.ended.signature.params f.ended.kept
stayed = (stay_dropped _ _, (stay_dropped _ _, tt))

pub at_base_spec : {M : Type 1} → statement M
at_base_spec 𝓤 𝓛 𝓜 𝓡 wired =
    let c = f.clauses 𝓛 𝓜.mem 𝓡.returns in let 𝓣 = tables 𝓤 𝓛.H 𝓜 𝓡 𝓡.env in
    proved_at 𝓛 f.ended stayed c 𝓜 𝓡 (Goes-blank 𝓛 0 (plain (λ _. Base)) f.ended.kept.0 (λ κs x f. tt), (Goes-blank 𝓛 0 (plain (λ _. Heap)) f.ended.kept.1.0 (λ κs x f. tt), tt))
    f.Key.name code.function (code.unfolded 𝓤 𝓛.H 𝓜 𝓡 wired) (λ z are.
    let Post : Val → SProp 𝓤 = (walk_of 𝓛 f.ended stayed c).post z in
    let at = z.0.3.0.at in let a = z.0.3.1.0 in let vss = z.0.4 in
    let Asked : Type 0 = at ≡ null_ptr in
    let held : (H.the_row).Denot = record { at = at; alloc = a; machine = None } in
    let nowhere : Val = vint w64 0 in let w : Val = vstruct (vcons nowhere (vcons heap_val vnil)) in
    let told_heap : vss.1.0 ≡ heap_val ∷ [] = heap_Tells a vss.1.0 are.1.0 in
    qed 𝓛 ((raw (alive 𝓛 f.ended.signature z.0.0 z.0.1) ⊛ ‵ (owns (types_at f.ended.signature.params z.0.0) z.0.3 z.0.4)) ∷ raw (fact 𝓤 Asked) ∷ []) ∵
    move ! (1 ∷ []) $ heard ! Asked (λ null. split ! $ move ! (1 ∷ []) $ fsplit ! $ drop ! $ fsplit ! $ move ! (1 ∷ []) $ drop ! $
    let told_base : vss.0 ≡ vstruct (vcons nowhere vnil) ∷ [] = laid.val_is z.0.3.0 vss.0 are.0 ∙ ap (λ (p : Ptr). vstruct (vcons (ptr_val p) vnil) ∷ []) null in
    rewrite ! 0 (λ (us : List Val). ‵ ((Heap).own_val a us)) told_heap refl $
    -- [the allocator; the tokens, of which there are none]
    regoal ! (λ (us : List Val). prop (WpFn 𝓤 𝓛.H 𝓣.C 𝓣.Λ code.function us Post)) (λ i. told_base i ++ (told_heap i ++ [])) refl $
    enter ! 𝓣.C 𝓣.Λ code.function (vstruct (vcons nowhere vnil) ∷ heap_val ∷ []) Post $
    alloc_all ! (λ l. pass_all ! refl ((tt, (record { fits = lit< tt }, tt)), ((tt, ((tt, tt), tt)), tt)) $
    sets ! (agg ! (and_then ! (get_in ! (fld ! refl (stop !)) (sub ! 0 refl (whole !))) (and_then ! (get ! refl) (no_more !)))) refl (tt, (record { fits = lit< tt }, (((tt, tt), tt), tt))) $
    returns ! (look_at ! 0 refl) $ free_all ! refl $
    suffices ! _ (ends_at 𝓛 f.ended stayed c z w held (tt, (tt, tt)) (tt, (tt, tt))) $ says ! refl $
    nothing ! $ move ! (1 ∷ 0 ∷ []) $ fjoin ! $ feq_i ! (List Val) (nowhere ∷ []) (ptr_val at ∷ []) (ap (λ (p : Ptr). ptr_val p ∷ []) (sym null)) $ fjoin ! $
    feq_i ! (List Val) (w ∷ []) (w ∷ []) refl $ fjoin ! $
    fpack ! (Valss (RawPtr ∷ Heap ∷ [])) (within (shape H.the_type) (at, (((a.memory.seal, tt), tt), tt)) (w ∷ [])) (nowhere ∷ [], (heap_val ∷ [], tt)) $
    nothing ! $ move ! (1 ∷ 0 ∷ []) $ fjoin ! $
    nothing ! $ nothing ! $ fjoin ! $ nothing ! $ fjoin ! $ move ! (2 ∷ 0 ∷ 1 ∷ []) $ done !)))
