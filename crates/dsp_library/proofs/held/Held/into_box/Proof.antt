-- `into_box` gives what the struct owns back to a box. Assumes `Logic`.
use lib.Dec.{T}
use Rattle.std.proofs.Common.{◌≡◌, refl, sym, ap, subst, ◌∙◌, List, [], ◌∷◌, ◌++◌}
use Rattle.std.specs.Prelude.{Option, Some, is_some, true}
use Rattle.std.proofs.raw_atomic.Walks.{proved_at}
use base.Fml.{ftrue, flft}
use base.Fraction.{full_share}
use base.Logic.{SProp, id⊢, emp}
use contract.BorrowLft.{◌⊑◌, ⊑_static}
use contract.Monad.{fact, fact_i}
use contract.Running.{tables}
use mir.Val.{Val, vptr, has_ty, WT}
use prog.Wp.{WpFn}
use types.Kit.{Item, ‵, raw, prop, at_ret, ◌⊛◌, some, later, ◌$◌, ◌∵◌, !, qed, move, drop, join, split, pick, await, fsplit, fjoin, feq_i, use0, use1, use2, rewrite, regoal, suffices, done}
use types.Part.{whole, sub}
use types.Run.{stop, fld, no_more, and_then, of_opd, returns, enter, first, blocks, exec}
use types.ByLocal.{alloc_all, pass_all, free_all, look_at, get, get_in, sets, lands_last, env}
use denote.Param.NoDrop.{glues}
use denote.RattleType.{owns}
use denote.RawPtr.{block_ptr}
use denote.Signature.{plain, types_at}
use denote.Steps.{heard, nothing, only}
use denote.Triple.Call.{calls_at_last}
use denote.Triple.Clauses.{Lasts, lasts}
use denote.Triple.Entry.{alive}
use denote.Triple.Spec.{triple_of}
use denote.Triple.Statement.{Contract}
use denote.Triple.Table.{framed}
use denote.Triple.Walked.{says, Stays, stay_dropped, walk_of, ends_at}
use Rattle.std.proofs.alloc.Calls.{Goes-blank}
use Rattle.std_alloc.proofs.BoxSteps.Form.{Bx, D, B, word, box_ty, box_typed}
use Rattle.std_alloc.proofs.BoxSteps.Steps.{box_out, box_in}
use Rattle.std_alloc.specs.contracts.boxed.Box.from_raw as shuts
use Rattle.std_alloc.proofs.boxed.Box.from_raw.Met as shuts_met
use Rattle.std_heap.proofs.GlobalAllocator.TheImpl.Met as heap
use Rattle.dsp_library.specs.contracts.held.Held.{the_row as H}
use Rattle.dsp_library.specs.contracts.machine.Machine.{the_row as M-row}
use Rattle.dsp_library.proofs.machine.Machine.TheLaws.{the_row_laws as M-laws}
use Rattle.dsp_library.specs.contracts.held.Held.into_box as f
use Rattle.dsp_library.proofs.There.{some_there}
use Rattle.dsp_library.proofs.Boxed.{boxed, passed, passed_laws}
use Rattle.dsp_library.proofs.held.Held.into_box.Statement.{statement}
use Rattle.dsp_library.proofs.held.Held.into_box.Code as code

abbrev stayed : Stays f.ended.signature.params f.ended.kept
stayed = (stay_dropped _ _, tt)

pub into_box_spec : {M : Type 1} → statement M
unfolding Rattle.dsp_library.proofs.Destruct++none.drop.Code.code
into_box_spec {M} 𝓤 𝓛 𝓜 𝓡 wired =
    let γ = 𝓡.env in let c = f.clauses 𝓛 𝓜.mem 𝓡.returns in let 𝓣 = tables 𝓤 𝓛.H 𝓜 𝓡 γ in
    let E : Bx = boxed (passed M-row) (passed_laws M-row M-laws refl) in
    let Shuts : Contract 𝓤 = triple_of 𝓛 (shuts.signature E.row E.al.row E.al.g E.al.d E.al.drops) (shuts.spec E.row E.al.row E.al.g E.al.d E.al.drops 𝓛 𝓜.mem 𝓡.returns) in
    let Se = shuts.ended E.row E.al.row E.al.g E.al.d E.al.drops in
    let shut = shuts_met.met 𝓤 𝓛 𝓜 𝓡 (code.calls-std_alloc::boxed::Box::from_raw γ wired) E.row E.al.row E.laws E.al.laws E.al.g E.al.d E.al.drops
    (heap.passed γ (code.calls-std_heap::GlobalAllocator::allocate γ wired) (code.calls-std_heap::GlobalAllocator::deallocate γ wired) (code.calls-std_heap::GlobalAllocator::grow γ wired) (code.calls-std_heap::GlobalAllocator::shrink γ wired) M 𝓤 𝓛 𝓜 𝓡)
    (glues "dsp_library::Destruct++none::drop" γ (code.calls-dsp_library::Destruct++none::drop γ wired) E.al.row E.al.laws M 𝓤 𝓛 𝓜 𝓡) in
    proved_at 𝓛 f.ended stayed c 𝓜 𝓡 (Goes-blank 𝓛 0 (plain (λ _. H)) f.ended.kept.0 (λ κs x f. tt), tt)
    f.Key.name code.function (code.unfolded 𝓤 𝓛.H 𝓜 𝓡 wired) (λ z are.
    let Post : Val → SProp 𝓤 = (walk_of 𝓛 f.ended stayed c).post z in
    let self = z.0.3.0 in let vs = z.0.4.0 in let a = self.alloc in
    let Asked : Type 0 = is_some self.machine ≡ true in
    qed 𝓛 ((raw (alive 𝓛 f.ended.signature z.0.0 z.0.1) ⊛ ‵ (owns (types_at f.ended.signature.params z.0.0) z.0.3 z.0.4)) ∷ raw (fact 𝓤 Asked) ∷ []) ∵
    move ! (1 ∷ []) $ heard ! Asked (λ asked. split ! $ move ! (1 ∷ []) $ fsplit ! $ move ! (1 ∷ []) $ drop ! $
    let there = some_there self.machine asked in let m = there.0 in let v : D E = record { ptr = self.at; alloc = a; value = m } in
    rewrite ! 0 (λ (held : Option (M-row).Denot). ‵ ((H).own_val (record self { machine = held }) vs)) there.1 refl $
    use1 𝓛 (‵ ((B E).own_val v vs)) (id⊢ 𝓤 _) $
    box_out E ! v vs (λ b o bits here told fits. fjoin ! $
    -- [the machine and the right to free its block; the allocator; the tokens, of which there are none]
    regoal ! (λ (us : List Val). prop (WpFn 𝓤 𝓛.H 𝓣.C 𝓣.Λ code.function us Post)) (λ i. told i ++ []) refl $
    enter ! 𝓣.C 𝓣.Λ code.function (word E bits b o ∷ []) Post $ alloc_all ! (λ l. pass_all ! refl (box_typed E bits b o fits, tt) $
    sets ! (of_opd ! (get_in ! (fld ! refl (stop !)) (sub ! 0 refl (whole !)))) refl (tt, tt) $
    sets ! (of_opd ! (get_in ! (fld ! refl (stop !)) (sub ! 1 refl (whole !)))) refl fits $
    first ! $ blocks ! $ sets ! (of_opd ! (get ! refl)) refl (tt, tt) $
    let y : Shuts.Ghost = ((([], ([], tt)), (full_share, (full_share, tt)), tt, (a, (block_ptr b o, tt)), (bits ∷ [], (vptr b o ∷ [], tt))), m) in
    let Alive : Item 𝓤 = ‵ (flft [] full_share) ⊛ ‵ (flft [] full_share) ⊛ ‵ ftrue in
    -- what the call asks: tokens of lifetimes that don't end, the two arguments, and what a box owns
    nothing ! $ feq_i ! (List Val) (vptr b o ∷ []) (vptr b o ∷ []) refl $ fjoin ! $ move ! (2 ∷ 0 ∷ []) $ fjoin ! $
    nothing ! $ use0 𝓛 (‵ (flft [] full_share)) (𝓛.lfts.lft-nil full_share) $ join ! $ use0 𝓛 (‵ (flft [] full_share)) (𝓛.lfts.lft-nil full_share) $ join ! $ join ! $
    move ! (1 ∷ []) $ use0 𝓛 (raw (fact 𝓤 ([] ⊑ E.al.row.lives))) (fact_i 𝓤 ([] ⊑ E.al.row.lives) (emp 𝓤) (⊑_static [])) $ join ! $
    use0 𝓛 (raw (fact 𝓤 ([] ⊑ E.row.lives))) (fact_i 𝓤 ([] ⊑ E.row.lives) (emp 𝓤) (⊑_static [])) $ join ! $ move ! (1 ∷ 0 ∷ []) $ use2 𝓛 (raw (Shuts.pre y)) (id⊢ 𝓤 _) $
    calls_at_last ! (framed 𝓤 𝓛.H 𝓜 𝓣) Shuts shut y (and_then ! (get ! refl) (and_then ! (get ! refl) (no_more !))) (λ u.
    use1 𝓛 (later (some (λ (r : D E). (Alive ⊛ ‵ ((B E).own_val r (u ∷ []))) ⊛
    some (λ (ws : Lasts Se y.0.0 y.0.3). ‵ (lasts Se y.0.0 y.0.3 ws) ⊛ (raw (fact 𝓤 (r.value ≡ m)) ⊛ raw (fact 𝓤 (r.alloc ≡ a))))))) (id⊢ 𝓤 _) $
    await ! tt $ pick ! (λ r. split ! $ split ! $ drop ! $ move ! (1 ∷ []) $ pick ! (λ ws. split ! $ drop ! $ split ! $ heard ! (r.value ≡ m) (λ same. drop ! $
    box_out E ! r (u ∷ []) (λ b' o' bits' there' said fits'. box_in E ! r b' o' r.value there' refl $
    rewrite ! 0 (λ (us : List Val). ‵ ((B E).own_val r us)) (sym said) refl $
    let typed : T (has_ty (box_ty E) u) × WT u = subst (λ (w : Val). T (has_ty (box_ty E) w) × WT w) (sym (ap only said)) (box_typed E bits' b' o' fits') in
    -- [the box; the tokens, of which there are none]
    lands_last ! refl typed $
    exec ! 𝓣.C 𝓣.Λ (env code.Mir.locals l) code.Mir.t-4 (at_ret (env code.Mir.locals l) Post) $
    sets ! (of_opd ! (get ! refl)) refl typed $ returns ! (look_at ! 0 refl) $ free_all ! refl $
    suffices ! _ (ends_at 𝓛 f.ended stayed c z u r (tt, tt) (tt, tt)) $ says ! (there.1 ∙ ap Some (sym same)) $
    nothing ! $ nothing ! $ fjoin ! $ move ! (2 ∷ 0 ∷ 1 ∷ []) $ done !)))))))))
