-- `allocate` asks for the words, and keeps the right to free them. Assumes `Logic`.
use Rattle.space_raw.proofs.Steps.{◌≡◌, ◌*◌, ◌^◌, ◌<◌, List, [], ◌∷◌, ◌++◌, refl, arith, lit<, Ty, Fn, Args, a_type, dcons, dnil, Val, vint, vptr, inst_fn, SProp, emp, id⊢, Lft, Share, ftrue, flft, capped_is, Env, WpFn, ◌⊑◌, ⊑_trans, fact, fact_i, tables, ‵, raw, ◌⊛◌, later, prop, at_ret, ◌$◌, ◌∵◌, !, qed, by, move, drop, use0, use1, use2, split, join, regoal, fsplit, fjoin, await, whole, agg, stop, fld, lit, of_opd, bin, no_more, and_then, first, exec, returns, enter, alloc_all, pass_all, free_all, look_at, get, get_in, sets, sets_last, env, owns, Ptr, block_ptr, bounded, types_at, nothing, heard, alive, framed, Stays, stay_dropped, walk_of, Goes-dropped, Al, seen, proved_at, leaves}
use Rattle.std.proofs.Common.{w64}
use Rattle.std.specs.Prelude.{Ok, Err, IfOk}
use mir.Val.{vcons, vnil}
use types.Match.{live, vrt, in_variant}
use types.Run.{switches_on}
use types.ByLocal.{get_tag, lands_as}
use denote.RattleType.{RattleType}
use denote.Param.{param}
use denote.Signature.{type_at}
use denote.Struct.Tuple.{Tuple}
use denote.Triple.Call.{calls_at}
use Rattle.std.proofs.alloc.Calls.{Takes, at_takes, Answered, Takes-goes, Takes-gives, answers}
use Rattle.std.proofs.alloc.Shapes.{after, head, arm_body}
use Rattle.std.proofs.ResultValues.{ok_of, err_of}
use Rattle.std.specs.contracts.alloc.AllocError.{the_row as Refusal}
use Rattle.space_raw.specs.Ownership.{word_limit, words_own, words_type, blank_owns}
use Rattle.space_raw.proofs.Rows.{all_blank, no_words}
use Rattle.space_raw.proofs.Walks.{slot_at, then_runs, word, word_made, none, none_made, marked, marked_own, marked_made, four, four_made}
use Rattle.space_raw.specs.contracts.block.Blank.{the_row as Bl}
use Rattle.space_raw.specs.contracts.block.Deed as deed
use Rattle.space_raw.specs.contracts.words.Base.{the_row as B}
use Rattle.space_raw.specs.contracts.words.Words.{the_row as R}
use Rattle.space_raw.specs.contracts.block.Deed.allocate as f
use Rattle.space_raw.proofs.block.Deed.allocate.Statement.{statement}
use Rattle.space_raw.proofs.block.Deed.allocate.Code as code

pub allocate_spec : {M : Type 1} → statement M
allocate_spec 𝓤 𝓛 𝓜 𝓡 wired A L g d dd met md =
    let H = 𝓛.H in
    let En₀ = f.ended A g d dd in
    let ps = En₀.signature.params in
    let args : Args = bounded (a_type ∷ []) (A, tt) (dcons d (dcons dd dnil)) in
    let fn : Fn = inst_fn args code.function in
    let stays : Stays ps En₀.kept = (stay_dropped (slot_at 0 ps) En₀.kept.0, (stay_dropped (slot_at 1 ps) En₀.kept.1.0, tt)) in
    let c = f.clauses A g d dd 𝓛 𝓜.mem 𝓡.returns in
    let 𝓣 = tables 𝓤 H 𝓜 𝓡 𝓡.env in let C = 𝓣.C in let Λ = 𝓣.Λ in
    proved_at 𝓛 En₀ stays c 𝓜 𝓡 (Goes-dropped 𝓛 2 (slot_at 0 ps) En₀.kept.0 (λ κs x w. refl), (Goes-dropped 𝓛 2 (slot_at 1 ps) En₀.kept.1.0 (λ κs x w. refl), tt))
    (f.Key.name args) fn (code.unfolded 𝓤 H 𝓜 𝓡 wired (A, tt) d dd) (λ z are.
    let Post : Val → SProp 𝓤 = (walk_of 𝓛 En₀ stays c).post z in
    let a = z.0.3 in let vss = z.0.4 in
    let Y : Al = record { row = A; laws = L; g = g; d = d; drops = dd } in
    let κ : Lft = z.0.0.0 in let q : Share = z.0.1.0 in
    let Z : RattleType = param 0 A in
    let h = a.0.now in let at = a.0.ref_ptr in let n = a.1.0 in
    let τ : Ty = words_type n in
    let y = at_takes Y 𝓛 𝓜.mem 𝓡.returns κ q at h (n * 2) 2 τ in
    let D : RattleType = deed.the_row Z g in
    let Four : RattleType = Tuple (B ∷ R ∷ Bl ∷ D ∷ []) in
    let Out : RattleType = type_at En₀.signature.result z.0.0 in
    let Asked : Type 0 = n < word_limit in
    qed 𝓛 ((raw (alive 𝓛 En₀.signature z.0.0 z.0.1) ⊛ ‵ (owns (types_at ps z.0.0) a vss)) ∷ (raw (fact 𝓤 (z.0.0.1.0 ⊑ A.lives)) ⊛ raw (fact 𝓤 Asked)) ∷ []) ∵
    move ! (1 ∷ []) $ split ! $ heard ! (z.0.0.1.0 ⊑ A.lives) (λ le. heard ! Asked (λ small. split ! $ move ! (1 ∷ []) $
    let bytes : n * 2 < 2 ^ 64 = omega arith in
    fsplit ! $ fsplit ! $ drop ! $ move ! (1 ∷ []) $ drop ! $ use1 𝓛 (‵ (seen Y κ at h)) (id⊢ 𝓤 _) $ move ! (1 ∷ []) $
    use1 𝓛 (‵ (flft κ q) ⊛ ‵ (flft z.0.0.1.0 z.0.1.1.0) ⊛ ‵ ftrue) (id⊢ 𝓤 _) $ split ! $ move ! (2 ∷ 0 ∷ []) $
    -- [the handle; the token of its lifetime; the other tokens]
    regoal ! (λ (us : List Val). prop (WpFn 𝓤 H C Λ fn us Post)) (λ i. are.0.0 i ++ (are.1.0.0 i ++ [])) refl $
    enter ! C Λ fn (vptr at.0 at.1 ∷ vint w64 n ∷ []) Post $
    alloc_all ! (λ l. pass_all ! refl ((tt, tt), ((tt, record { fits = are.1.0.1 }), tt)) $ let En : Env 𝓤 H = env fn.locals l in
    sets ! (bin ! (get ! refl) (lit ! tt) (record { fits = bytes })) refl (tt, record { fits = bytes }) $
    use2 𝓛 (raw ((Takes Y 𝓛 𝓜.mem 𝓡.returns).pre y)) (Takes-goes Y 𝓛 𝓜.mem 𝓡.returns κ q at h (⊑_trans κ z.0.0.1.0 A.lives z.0.2.0 le) (n * 2) 2 τ (capped_is (n * 2) bytes) refl bytes (lit< tt)) $
    calls_at ! (framed 𝓤 H 𝓜 𝓣) (Takes Y 𝓛 𝓜.mem 𝓡.returns) (met.allocate dd) y (and_then ! (get ! refl) (and_then ! (get ! refl) (and_then ! (lit ! tt) (no_more !)))) (λ v.
    use1 𝓛 (later (raw (Answered Y 𝓛 𝓜.mem 𝓡.returns h τ v) ⊛ ‵ (flft κ q))) (Takes-gives Y 𝓛 𝓜.mem 𝓡.returns κ q at h (n * 2) 2 τ v) $ await ! tt $ split ! $
    answers Y ! 𝓜.mem 𝓡.returns h τ v
    (λ b o e. move ! (2 ∷ 3 ∷ []) $ join ! $ move ! (1 ∷ 2 ∷ []) $ lands_as ! e refl (tt, (record { fits = lit< tt }, (tt, tt))) $
    -- [the room; the right to free it; the tokens; the locals]
    first ! $ switches_on ! (get_tag ! (vrt ! refl (fld ! refl (stop !))) (whole !)) $ exec ! C Λ En (arm_body 0 (head (after 2 fn.body))) (then_runs 𝓛 C Λ En (after 3 fn.body) (at_ret En Post)) $
    let p : Ptr = block_ptr b o in
    let base : B.Denot = record { ptr = p } in let words : R.Denot = record { base = p; place = 0; items = [] } in let blank : Bl.Denot = record { base = p; place = 0; len = n } in
    let right : D.Denot = record { marker = record {}; alloc = h; base = p; len = n } in
    let v : Val = four (word p) none none marked in
    let made : Out.Denot = Ok (base, words, blank, right) in
    let Told : Type 0 = IfOk made (λ r. (r.1.base ≡ r.0.ptr) × (r.1.place ≡ 0) × (r.1.items ≡ []) × (r.2.base ≡ r.0.ptr) × (r.2.place ≡ 0) × (r.2.len ≡ n) × (r.3.base ≡ r.0.ptr) × (r.3.len ≡ n) × (r.3.alloc ≡ h)) in
    sets ! (of_opd ! (get_in ! (vrt ! refl (fld ! refl (stop !))) (in_variant ! 0 0 refl refl (whole !)))) refl (tt, tt) $
    sets ! (of_opd ! (get ! refl)) refl (tt, tt) $
    sets ! (agg ! (and_then ! (get ! refl) (no_more !))) refl (tt, (tt, tt)) $
    sets ! (agg ! (no_more !)) refl (tt, tt) $ sets ! (agg ! (no_more !)) refl (tt, tt) $ sets ! (agg ! (no_more !)) refl (tt, tt) $
    sets ! (agg ! (and_then ! (get ! refl) (no_more !))) refl (tt, (tt, tt)) $
    sets ! (agg ! (and_then ! (get ! refl) (and_then ! (get ! refl) (and_then ! (get ! refl) (and_then ! (get ! refl) (no_more !)))))) refl (tt, ((tt, tt), (tt, (tt, ((tt, tt), tt))))) $
    sets_last ! (agg ! (and_then ! (lit ! tt) (and_then ! (get ! refl) (no_more !)))) refl (tt, (record { fits = lit< tt }, (((tt, tt), (tt, (tt, ((tt, tt), tt)))), tt))) $
    exec ! C Λ En (after 3 fn.body) (at_ret En Post) $
    sets ! (of_opd ! (get ! refl)) refl (tt, (record { fits = lit< tt }, (((tt, tt), (tt, (tt, ((tt, tt), tt)))), tt))) $
    returns ! (look_at ! 0 refl) $ free_all ! refl $
    use1 𝓛 (‵ (blank_owns p 0 n)) (all_blank 𝓛 b o n) $ none_made ! $ fjoin ! $
    use0 𝓛 (‵ (words_own p 0 [])) (no_words 𝓛 b o) $ none_made ! $ fjoin ! $
    move ! (2 ∷ []) $ use0 𝓛 (‵ (marked_own (marked ∷ []))) (marked_made 𝓛) $ fjoin ! $
    use0 𝓛 (‵ (B.own_val base (word p ∷ []))) (word_made 𝓛 p) $ move ! (0 ∷ 2 ∷ 3 ∷ 1 ∷ []) $ four_made ! B R Bl D base words blank right (word p) none none marked $
    use1 𝓛 (‵ (Out.own_val (Ok (base, words, blank, right)) (live 0 (vcons v vnil) ∷ []))) (ok_of 𝓛 Four Refusal (base, words, blank, right) v) $
    use0 𝓛 (raw (fact 𝓤 Told)) (fact_i 𝓤 Told (emp 𝓤) (refl, refl, refl, refl, refl, refl, refl, refl, refl)) $
    nothing ! $ nothing ! $ fjoin ! $ nothing ! $ fjoin ! $ move ! (3 ∷ 0 ∷ 2 ∷ 1 ∷ []) $
    by ! (leaves 𝓛 En₀ stays c z (live 0 (vcons v vnil)) (Ok (base, words, blank, right)) (tt, (tt, tt)) (tt, (tt, tt))))
    (λ e. join ! $ lands_as ! e refl (tt, (record { fits = lit< tt }, (tt, tt))) $
    first ! $ switches_on ! (get_tag ! (vrt ! refl (fld ! refl (stop !))) (whole !)) $ exec ! C Λ En (arm_body 1 (head (after 2 fn.body))) (then_runs 𝓛 C Λ En (after 3 fn.body) (at_ret En Post)) $
    sets ! (of_opd ! (get_in ! (vrt ! refl (fld ! refl (stop !))) (in_variant ! 1 0 refl refl (whole !)))) refl (tt, tt) $
    sets_last ! (agg ! (and_then ! (lit ! tt) (and_then ! (get ! refl) (no_more !)))) refl (tt, (record { fits = lit< tt }, (tt, tt))) $
    exec ! C Λ En (after 3 fn.body) (at_ret En Post) $
    sets ! (of_opd ! (get ! refl)) refl (tt, (record { fits = lit< tt }, (tt, tt))) $
    returns ! (look_at ! 0 refl) $ free_all ! refl $
    none_made ! $ use1 𝓛 (‵ (Out.own_val (Err (record {})) (live 1 (vcons none vnil) ∷ []))) (err_of 𝓛 Four Refusal (record {}) none) $
    use0 𝓛 (raw (fact 𝓤 (Unit {0}))) (fact_i 𝓤 (Unit {0}) (emp 𝓤) tt) $
    nothing ! $ nothing ! $ fjoin ! $ nothing ! $ fjoin ! $ move ! (3 ∷ 0 ∷ 2 ∷ 1 ∷ []) $
    by ! (leaves 𝓛 En₀ stays c z (live 1 (vcons none vnil)) (Err (record {})) (tt, (tt, tt)) (tt, (tt, tt)))))))))
