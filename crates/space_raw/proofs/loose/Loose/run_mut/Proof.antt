-- `run_mut` lends a run of the loose words, and their owner follows it. Assumes `Logic`.
use denote.Memory.{part_of}
use Rattle.space_raw.proofs.Steps.{◌≡◌, ℕ, ◌+◌, ◌*◌, ◌^◌, ◌<◌, List, [], ◌∷◌, ◌++◌, length, refl, sym, ◌∙◌, arith, MutBor, ℤ, Fn, named, Val, vptr, vint, full_share, SProp, ent, sep, emp, never, id⊢, Lft, GName, Share, Fml, ftrue, fsep, fat, flft, Ura, Env, WpFn, fact, fact_i, tables, Logic, sem, ‵, raw, ◌⊛◌, some, later, await, pick, prop, at_ret, ◌$◌, ◌∵◌, !, qed, by, move, drop, use0, use1, split, split3, join, group, fsplit, fsplit3, fjoin, fpack, regoal, rewrite, done, whole, sub, agg, stop, fld, lit, of_opd, bin, and_then, no_more, first, blocks, exec, returns, enter, alloc_all, pass_all, free_all, look_at, get, get_in, sets, sets_last, take_at, give_at, env, cells, Array, i16, follows, Elements, lends_Elements, whole_in, whole_out, mem, cell_at, layout, owns, Ptr, block_ptr, in_a_block, types_at, plain, MutSlice, slice_val, nothing, opens, heard, alive, Stays, stay_dropped, Goes-dropped, Goes-spent_ref, walk_of, word-Good, proved_at, leaves, Some, map, take, use2}
use Rattle.std.proofs.Common.{w64}
use Rattle.std.proofs.VecSteps.Shapes.{after}
use Rattle.space_raw.specs.LooseLends.{rewritten}
use Rattle.space_raw.specs.Ownership.{word_limit}
use Rattle.space_raw.specs.Loose.{slots, loose_owns}
use Rattle.space_raw.specs.Slots.{run_of, with_run, IsRun}
use Rattle.std.specs.Prelude.{Option}
use Rattle.std.specs.List.{refill}
use Rattle.std.proofs.Common.{drop as drop_l}
use Rattle.std.proofs.lemmas.List.{length-map}
use lib.Seq.{take_at as take_front}
use types.Kit.{fjoin3}
use Rattle.space_raw.proofs.Rows.{Row}
use Rattle.space_raw.proofs.Runs.{Around, run_out, run_in, to_row, of_row}
use Rattle.space_raw.proofs.Slots.{run_long}
use Rattle.space_raw.proofs.Walks.{plainly, slot_at, word, word_told}
use Rattle.space_raw.specs.contracts.words.Base.{the_row as B}
use Rattle.space_raw.specs.contracts.loose.Loose.{the_row as R}
use Rattle.space_raw.specs.contracts.loose.Loose.run_mut as f
use Rattle.space_raw.proofs.loose.Loose.run_mut.Statement.{statement}
use Rattle.space_raw.proofs.loose.Loose.run_mut.Code as code

abbrev stayed : Stays f.ended.signature.params f.ended.kept
stayed = (stay_dropped _ _, (stay_dropped _ _, (stay_dropped _ _, (stay_dropped _ _, tt))))

module _ {M : Type 1} {𝓤 : Ura M} (𝓛 : Logic 𝓤) (d : R.Denot) (vs : List Val) (rb ro b o at place n : ℕ) (is : IsRun d.slots place n) where
  -- the other words, and the owner itself, which takes no space
  abbrev Rest : Fml
  Rest = fsep (Around 𝓛 b o d.slots place n is.1) (fsep ((plainly []).own_val tt vs) (cell_at full_share R.mir vs rb ro))

  back : d.base ≡ block_ptr b o → at ≡ o + place * 2 → (ws : List ℤ) → length ws ≡ length (run_of d.slots place n)
      → ent 𝓤 (sep 𝓤 (sem 𝓛 (cells (mem i16) ws b at)) (sem 𝓛 Rest)) (sem 𝓛 ((mem R).own_at (rewritten d place n ws) rb ro))
  unfolding part_of
  back e here ws same =
      let long : length ws ≡ n = same ∙ sym (run_long d.slots place n is) in
      let old = run_of d.slots place n in
      let all : refill n old ws ≡ ws = take_front ws (drop_l (length ws) old) n long in
      qed 𝓛 (‵ (cells (mem i16) ws b at) ∷ ‵ Rest ∷ []) ∵ use1 𝓛 (‵ (Row 𝓛 ws b at)) (whole_out 𝓛 i16 ws b at) $
      rewrite ! 0 (λ (k : ℕ). ‵ (Row 𝓛 ws b k)) here refl $ use1 𝓛 (‵ (slots b (o + place * 2) (map Some ws))) (of_row 𝓛 b ws (o + place * 2)) $
      move ! (1 ∷ []) $ fsplit3 ! $ move ! (3 ∷ 0 ∷ []) $
      use2 𝓛 (‵ (slots b o (take place d.slots ++ (map Some ws ++ drop_l (place + n) d.slots)))) (run_in 𝓛 b o d.slots place n is.1 (map Some ws) (length-map ws Some ∙ long)) $
      rewrite ! 0 (λ (k : ℕ). ‵ (slots b o (take place d.slots ++ (map Some ws ++ drop_l (place + k) d.slots)))) (sym long) refl $
      rewrite ! 0 (λ (l : List ℤ). ‵ (slots b o (with_run d.slots place l))) (sym all) refl $
      rewrite ! 0 (λ (p : Ptr). ‵ (loose_owns p (rewritten d place n ws).slots)) (sym e) refl $
      -- [the words; the fields; their cell]
      move ! (1 ∷ 0 ∷ []) $ fjoin ! $ move ! (1 ∷ 0 ∷ []) $ fjoin ! $
      fpack ! (List Val) (λ us. fsep (cell_at full_share R.mir us rb ro) (R.own_val (rewritten d place n ws) us)) vs $ done !

pub run_mut_spec : {M : Type 1} → statement M
run_mut_spec 𝓤 𝓛 𝓜 𝓡 wired =
    let H = 𝓛.H in let c = f.clauses 𝓛 𝓜.mem 𝓡.returns in let 𝓣 = tables 𝓤 H 𝓜 𝓡 𝓡.env in
    let ps = f.ended.signature.params in let kept = f.ended.kept in
    proved_at 𝓛 f.ended stayed c 𝓜 𝓡 (
      Goes-spent_ref 𝓛 1 (0 ∷ []) tt (plain (λ _. R)),
      (
        Goes-dropped 𝓛 1 (slot_at 1 ps) kept.1.0 (λ κs x w. refl),
        (Goes-dropped 𝓛 1 (slot_at 2 ps) kept.1.1.0 (λ κs x w. refl), (Goes-dropped 𝓛 1 (slot_at 3 ps) kept.1.1.1.0 (λ κs x w. refl), tt)),
      ),
    )
    f.Key.name code.function (code.unfolded 𝓤 H 𝓜 𝓡 wired) (λ z are.
    let Post : Val → SProp 𝓤 = (walk_of 𝓛 f.ended stayed c).post z in
    let fn : Fn = code.function in
    let κ : Lft = z.0.0.0 in let q : Share = z.0.1.0 in
    let a = z.0.3 in let vss = z.0.4 in let d = a.0.now in let γ : GName = a.0.ghost_name in let rb = a.0.ref_ptr.0 in let ro = a.0.ref_ptr.1 in
    let base = a.1.0 in let place = a.1.1.0 in let len = a.1.1.1.0 in let xs = run_of d.slots place len in
    let Asked = (base.ptr ≡ d.base) × IsRun d.slots place len × (place + len < word_limit) in
    qed 𝓛 ((raw (alive 𝓛 f.ended.signature z.0.0 z.0.1) ⊛ ‵ (owns (types_at ps z.0.0) a vss)) ∷ raw (fact 𝓤 Asked) ∷ []) ∵
    move ! (1 ∷ []) $ heard ! Asked (λ asked. split ! $ use1 𝓛 (‵ (flft κ q) ⊛ ‵ ftrue) (id⊢ 𝓤 _) $ split ! $ move ! (2 ∷ []) $
    let small : place + len < word_limit = asked.2 in let long : len ≡ length xs = run_long d.slots place len asked.1 in
    let fits_place : place < 2 ^ 64 = omega arith in let fits_len : len < 2 ^ 64 = omega arith in let far : place * 2 < 2 ^ 64 = omega arith in
    let roomy : length xs < 2 ^ 64 = omega arith in let fitting : length xs * 2 < 2 ^ 63 = omega arith in
    fsplit ! $ move ! (1 ∷ []) $ drop ! $ fsplit3 ! $ drop ! $
    -- [what γ is seen at; the borrow; the token of κ; nothing]
    regoal ! (λ (us : List Val). prop (WpFn 𝓤 H 𝓣.C 𝓣.Λ fn us Post)) (λ i. are.0.0 i ++ (word_told base.ptr vss.1.0 are.1.0 i ++ (are.1.1.0.0 i ++ (are.1.1.1.0.0 i ++ [])))) refl $
    enter ! 𝓣.C 𝓣.Λ fn (vptr rb ro ∷ word base.ptr ∷ vint w64 place ∷ vint w64 len ∷ []) Post $
    alloc_all ! (λ l. pass_all ! refl ((tt, tt), (word-Good [] base.ptr, ((tt, record { fits = fits_place }), ((tt, record { fits = fits_len }), tt)))) $
    let En : Env 𝓤 H = env fn.locals l in
    opens ! tt R {h = d} rb ro (λ vs. move ! (1 ∷ []) $ fsplit ! $ move ! (1 ∷ []) $
    in_a_block ! d.base (λ p. loose_owns p d.slots) (id⊢ 𝓤 (never 𝓤)) (λ b o e.
    take_at ! 2 $ rewrite ! 0 (λ (p : Ptr). ‵ (fat full_share (layout B) (l 2) 0 (word p))) (asked.0 ∙ e) refl $ give_at ! 2 $
    -- [the words; the owner's fields; their cell; the open borrow, in three entries; nothing; the locals]
    first ! $ blocks ! $
    sets ! (bin ! (get ! refl) (lit ! tt) (record { fits = far })) refl (tt, record { fits = far }) $
    sets ! (bin ! (get_in ! (fld ! refl (stop !)) (sub ! 0 refl (whole !))) (get ! refl) tt) refl (tt, tt) $
    sets_last ! (agg ! (and_then ! (get ! refl) (and_then ! (get ! refl) (no_more !)))) refl (tt, (tt, (record { fits = fits_len }, tt))) $
    exec ! 𝓣.C 𝓣.Λ En (after 1 fn.body) (at_ret En Post) $
    sets ! (of_opd ! (get ! refl)) refl (tt, (tt, (record { fits = fits_len }, tt))) $
    let at : ℕ = place * 2 + o in let here : at ≡ o + place * 2 = omega arith in
    use1 𝓛 (‵ (slots b (o + place * 2) (take len (drop_l place d.slots))) ⊛ ‵ (Around 𝓛 b o d.slots place len asked.1.1)) (run_out 𝓛 b o d.slots place len asked.1.1) $ split ! $
    rewrite ! 0 (λ (l : List (Option ℤ)). ‵ (slots b (o + place * 2) l)) asked.1.0 refl $
    use1 𝓛 (‵ (Row 𝓛 xs b (o + place * 2))) (to_row 𝓛 b xs (o + place * 2)) $ rewrite ! 0 (λ (k : ℕ). ‵ (Row 𝓛 xs b k)) (sym here) refl $
    use1 𝓛 (‵ (cells (mem i16) xs b at)) (whole_in 𝓛 i16 xs b at) $
    move ! (1 ∷ 2 ∷ 3 ∷ []) $ fjoin3 ! $ move ! (2 ∷ 3 ∷ 4 ∷ 1 ∷ 0 ∷ []) $ group ! 5 $
    use1 𝓛 (later (some (λ (δ : GName). raw (Elements 𝓛 R i16 (rewritten d place len) (named 0) κ q rb ro b at γ xs (roomy, fitting) (sem 𝓛 (Rest 𝓛 d vs rb ro b o at place len asked.1)) (back 𝓛 d vs rb ro b o at place len asked.1 e here) δ))))
    (lends_Elements 𝓛 R i16 (rewritten d place len) (named 0) κ q rb ro b at γ xs (roomy, fitting) (sem 𝓛 (Rest 𝓛 d vs rb ro b o at place len asked.1)) (back 𝓛 d vs rb ro b o at place len asked.1 e here) (R.coded.code d) (R.coded.code d)) $ await ! tt $ pick ! (λ δ.
    returns ! (look_at ! 0 refl) $ free_all ! refl $
    let r : MutBor (List ℤ) = record { ref_ptr = (b, at); ghost_name = δ; now = xs } in
    use1 𝓛 (‵ ((MutSlice (named 0) κ i16).own_val r (slice_val (b, at) (length xs) ∷ [])) ⊛ ‵ (flft κ q) ⊛ ‵ (follows R (Array i16 0) γ δ (rewritten d place len))) (id⊢ 𝓤 _) $
    split3 ! $ rewrite ! 0 (λ (k : ℕ). ‵ ((MutSlice (named 0) κ i16).own_val r (slice_val (b, at) k ∷ []))) (sym long) refl $
    -- [the slice; the token of κ; what ties the owner to it; nothing]
    move ! (1 ∷ 3 ∷ []) $ join ! $ move ! (2 ∷ []) $ use0 𝓛 (raw (fact 𝓤 (xs ≡ xs))) (fact_i 𝓤 (xs ≡ xs) (emp 𝓤) refl) $ move ! (1 ∷ 0 ∷ []) $ join ! $
    nothing ! $ nothing ! $ fjoin ! $ nothing ! $ fjoin ! $ nothing ! $ fjoin ! $ nothing ! $ fjoin ! $ move ! (2 ∷ 0 ∷ 3 ∷ 1 ∷ []) $
    by ! (leaves 𝓛 f.ended stayed c z (slice_val (b, at) len) r (tt, (tt, (tt, (tt, tt)))) (tt, (tt, (tt, (tt, tt)))))))))))
