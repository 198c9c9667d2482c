-- `of` lets go of the box, and its parts own what it owned. Assumes `Logic`.
use Rattle.std.proofs.Common.{◌≡◌, refl, sym, ap, List, [], ◌∷◌, ◌++◌}
use Rattle.std.proofs.raw_atomic.Walks.{proved_at}
use base.Fml.{ftrue, flft}
use base.Fraction.{full_share}
use base.Logic.{SProp, id⊢, emp}
use contract.BorrowLft.{◌⊑◌, ⊑_static}
use contract.Monad.{fact, fact_i}
use contract.Running.{tables}
use mir.MapTy.{inst_fn}
use mir.Syntax.{Fn, Args, a_type, dcons, dnil}
use mir.Val.{Val}
use prog.Wp.{WpFn}
use types.Kit.{Item, use2, rewrite, ‵, raw, prop, ◌⊛◌, some, later, ◌$◌, ◌∵◌, !, qed, move, drop, join, split, pick, await, fsplit, fjoin, use0, use1, regoal, suffices, done}
use types.Part.{whole, sub, agg}
use types.Run.{stop, fld, no_more, and_then, of_opd, returns, enter}
use types.ByLocal.{alloc_all, pass_all, free_all, look_at, get, get_in, sets, lands_as}
use denote.Param.{bounded, param}
use denote.Param.NoDrop.{glues}
use denote.RattleType.{owns}
use denote.RawPtr.{Ptr, RawPtr}
use denote.Signature.{plain, types_at}
use denote.Steps.{heard, nothing, only}
use denote.Struct.Tuple.{Tuple}
use denote.Triple.Call.{calls_at}
use denote.Triple.Clauses.{Lasts, lasts}
use denote.Triple.Spec.{triple_of}
use denote.Triple.Statement.{Contract}
use denote.Triple.Table.{framed}
use denote.Triple.Walked.{says, Stays, stay_dropped, walk_of, ends_at}
use Rattle.std.proofs.alloc.Calls.{Goes-blank, token}
use Rattle.std_alloc.specs.Box.Ownership.{box_owns}
use Rattle.std_alloc.proofs.BoxSteps.Form.{Bx, D, R, P, B, word, box_typed}
use Rattle.std_alloc.proofs.BoxSteps.Steps.{box_out, box_in}
use Rattle.std_alloc.specs.contracts.boxed.Box.into_raw_with_allocator as opens
use Rattle.std_alloc.proofs.boxed.Box.into_raw_with_allocator.Met as opens_met
use Rattle.std_heap.proofs.GlobalAllocator.TheImpl.Met as heap
use Rattle.std_alloc.specs.contracts.boxed.Box.{the_row as Box}
use Rattle.std_heap.specs.contracts.Global.{the_row as Heap}
use Rattle.std_heap.specs.contracts.GlobalAllocator.TheImpl.{ghosts}
use Rattle.dsp_library.specs.contracts.held.apart.Apart.{the_row as A}
use Rattle.dsp_library.specs.contracts.held.apart.Apart.of as f
use Rattle.dsp_library.proofs.Boxed.{boxed}
use Rattle.dsp_library.proofs.held.apart.Apart.of.Statement.{statement}
use Rattle.dsp_library.proofs.held.apart.Apart.of.Code as code

pub of_spec : {M : Type 1} → statement M
unfolding Rattle.dsp_library.proofs.Destruct++none.drop.Code.code
of_spec {M} 𝓤 𝓛 𝓜 𝓡 wired X laws dx drops =
    let H = 𝓛.H in let γ = 𝓡.env in let 𝓣 = tables 𝓤 H 𝓜 𝓡 γ in
    let E : Bx = boxed X laws in
    let args : Args = bounded (a_type ∷ []) (X, tt) (dcons dx dnil) in
    let fn : Fn = inst_fn args code.function in
    let ended = f.ended X dx in
    let stayed : Stays ended.signature.params ended.kept = (stay_dropped _ ended.kept.0, tt) in
    let c = f.clauses X dx 𝓛 𝓜.mem 𝓡.returns in
    let Opens : Contract 𝓤 = triple_of 𝓛 (opens.signature X E.al.row E.al.g E.al.d E.al.drops dx) (opens.spec X E.al.row E.al.g E.al.d E.al.drops dx 𝓛 𝓜.mem 𝓡.returns) in
    let opened = opens_met.met 𝓤 𝓛 𝓜 𝓡 (code.calls-std_alloc::boxed::Box::into_raw_with_allocator γ wired) X E.al.row laws E.al.laws E.al.g E.al.d E.al.drops dx
    (heap.passed γ (code.calls-std_heap::GlobalAllocator::allocate γ wired) (code.calls-std_heap::GlobalAllocator::deallocate γ wired) (code.calls-std_heap::GlobalAllocator::grow γ wired) (code.calls-std_heap::GlobalAllocator::shrink γ wired) M 𝓤 𝓛 𝓜 𝓡)
    (glues "dsp_library::Destruct++none::drop" γ (code.calls-dsp_library::Destruct++none::drop γ wired) E.al.row E.al.laws M 𝓤 𝓛 𝓜 𝓡) drops in
    proved_at 𝓛 ended stayed c 𝓜 𝓡 (Goes-blank 𝓛 1 (plain (λ _. Box (param 0 X) Heap ghosts)) ended.kept.0 (λ κs x f. tt), tt)
    (f.Key.name args) fn (code.unfolded 𝓤 H 𝓜 𝓡 wired (X, tt) dx) (λ z are.
    let Post : Val → SProp 𝓤 = (walk_of 𝓛 ended stayed c).post z in
    let κ = z.0.0.0 in let q = z.0.1.0 in let b : D E = z.0.3.0 in let a = b.alloc in
    qed 𝓛 (((‵ (flft κ q) ⊛ ‵ ftrue) ⊛ ‵ (owns (types_at ended.signature.params z.0.0) z.0.3 z.0.4)) ∷ (raw (fact 𝓤 (κ ⊑ X.lives)) ⊛ ‵ ftrue) ∷ []) ∵
    split ! $ split ! $ move ! (2 ∷ []) $ fsplit ! $ move ! (4 ∷ []) $ split ! $ heard ! (κ ⊑ X.lives) (λ long. move ! (1 ∷ []) $
    -- [the box; nothing; its token; nothing, twice]
    box_out E ! b z.0.4.0 (λ at place bits here told fits. box_in E ! b at place b.value here refl $
    let w : Val = word E bits at place in
    regoal ! (λ (us : List Val). prop (WpFn 𝓤 H 𝓣.C 𝓣.Λ fn us Post)) (λ i. told i ++ []) refl $
    enter ! 𝓣.C 𝓣.Λ fn (w ∷ []) Post $ alloc_all ! (λ l. pass_all ! refl (box_typed E bits at place fits, tt) $
    sets ! (of_opd ! (get ! refl)) refl (box_typed E bits at place fits) $
    let y : Opens.Ghost = (((κ, ([], tt)), (q, (full_share, tt)), tt, (b, tt), (w ∷ [], tt)), tt) in
    let Oe = opens.ended X E.al.row E.al.g E.al.d E.al.drops dx in
    let Alive : Item 𝓤 = ‵ (flft κ q) ⊛ ‵ (flft [] full_share) ⊛ ‵ ftrue in
    -- what the call asks: the tokens, the box, and that the types live as long
    fjoin ! $ use0 𝓛 (‵ (flft [] full_share)) (𝓛.lfts.lft-nil full_share) $ move ! (0 ∷ 2 ∷ []) $ join ! $ move ! (2 ∷ 0 ∷ []) $ join ! $ join ! $
    use0 𝓛 (raw (fact 𝓤 ([] ⊑ E.al.row.lives))) (fact_i 𝓤 ([] ⊑ E.al.row.lives) (emp 𝓤) (⊑_static [])) $ move ! (0 ∷ 2 ∷ []) $ join ! $
    use0 𝓛 (raw (fact 𝓤 (κ ⊑ X.lives))) (fact_i 𝓤 (κ ⊑ X.lives) (emp 𝓤) long) $ join ! $ move ! (1 ∷ 0 ∷ []) $ use2 𝓛 (raw (Opens.pre y)) (id⊢ 𝓤 _) $
    calls_at ! (framed 𝓤 H 𝓜 𝓣) Opens opened y (and_then ! (get ! refl) (no_more !)) (λ u.
    use1 𝓛 (later (some (λ (r : Ptr × E.al.row.Denot). (Alive ⊛ ‵ ((Tuple (RawPtr ∷ P E ∷ [])).own_val r (u ∷ []))) ⊛
    some (λ (ws : Lasts Oe y.0.0 y.0.3). ‵ (lasts Oe y.0.0 y.0.3 ws) ⊛ (raw (fact 𝓤 (r.1 ≡ a)) ⊛ ‵ (box_owns (token E.al a) (R E) r.0 b.value)))))) (id⊢ 𝓤 _) $
    await ! tt $ pick ! (λ r. split ! $ split ! $ move ! (2 ∷ []) $ pick ! (λ ws. split ! $ drop ! $ split ! $ heard ! (r.1 ≡ a) (λ same.
    -- [what the box owned; the tokens; the pointer and the allocator]
    let v : D E = record { ptr = r.0; alloc = r.1; value = b.value } in
    rewrite ! 0 (λ (h : E.al.row.Denot). ‵ (box_owns (token E.al h) (R E) r.0 b.value)) (sym same) refl $
    move ! (2 ∷ 0 ∷ []) $ fjoin ! $ use1 𝓛 (‵ ((B E).own_val v (u ∷ []))) (id⊢ 𝓤 _) $
    box_out E ! v (u ∷ []) (λ at' place' bits' there said fits'. box_in E ! v at' place' v.value there refl $
    let w' : Val = word E bits' at' place' in let made : (A (R E)).Denot = record { at = r.0; alloc = r.1; value = b.value } in
    -- [what the parts own; the tokens]
    lands_as ! (ap only said) refl (box_typed E bits' at' place' fits') $
    sets ! (of_opd ! (get_in ! (fld ! refl (stop !)) (sub ! 0 refl (whole !)))) refl (tt, tt) $
    sets ! (of_opd ! (get_in ! (fld ! refl (stop !)) (sub ! 1 refl (whole !)))) refl fits' $
    sets ! (agg ! (and_then ! (get ! refl) (and_then ! (get ! refl) (no_more !)))) refl (box_typed E bits' at' place' fits') $
    returns ! (look_at ! 0 refl) $ free_all ! refl $
    suffices ! _ (ends_at 𝓛 ended stayed c z w' made (tt, tt) (tt, tt)) $ says ! refl $
    move ! (1 ∷ []) $ split ! $ move ! (1 ∷ []) $ drop ! $ nothing ! $ move ! (1 ∷ 0 ∷ []) $ join ! $
    nothing ! $ nothing ! $ fjoin ! $ move ! (1 ∷ 0 ∷ 2 ∷ []) $ done !)))))))))
