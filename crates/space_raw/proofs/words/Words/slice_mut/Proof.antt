-- `slice_mut` lends the words, and their owner follows them. Assumes `Logic`.
use denote.Memory.{part_of}
use Rattle.space_raw.proofs.Steps.{◌≡◌, ℕ, ◌+◌, ◌*◌, ◌^◌, ◌<◌, List, [], ◌∷◌, ◌++◌, length, refl, sym, ◌∙◌, arith, MutBor, ℤ, Fn, named, Val, vptr, vint, full_share, SProp, ent, sep, emp, never, id⊢, Lft, GName, Share, Fml, ftrue, fsep, fat, flft, Ura, Env, WpFn, fact, fact_i, tables, Logic, sem, ‵, raw, ◌⊛◌, some, later, await, pick, prop, at_ret, ◌$◌, ◌∵◌, !, qed, by, move, drop, use0, use1, split, split3, join, group, fsplit, fsplit3, fjoin, fpack, regoal, rewrite, done, whole, sub, agg, stop, fld, lit, of_opd, bin, and_then, no_more, first, blocks, exec, returns, enter, alloc_all, pass_all, free_all, look_at, get, get_in, sets, sets_last, take_at, give_at, env, cells, Array, i16, follows, Elements, lends_Elements, whole_in, whole_out, mem, cell_at, layout, owns, Ptr, block_ptr, in_a_block, types_at, plain, MutSlice, slice_val, nothing, opens, heard, alive, Stays, stay_dropped, Goes-dropped, Goes-spent_ref, walk_of, word-Good, proved_at, leaves}
use Rattle.std.proofs.Common.{w64}
use Rattle.std.proofs.VecSteps.Shapes.{after}
use Rattle.space_raw.specs.Lends.{with_items}
use Rattle.space_raw.specs.Ownership.{word_limit, words_own}
use Rattle.space_raw.proofs.Rows.{Row, Whole, apart as apart_row, whole as whole_row, refill-same}
use Rattle.space_raw.proofs.Walks.{plainly, slot_at, word, word_told}
use Rattle.space_raw.specs.contracts.words.Base.{the_row as B}
use Rattle.space_raw.specs.contracts.words.Words.{the_row as R}
use Rattle.space_raw.specs.contracts.words.Words.slice_mut as f
use Rattle.space_raw.proofs.words.Words.slice_mut.Statement.{statement}
use Rattle.space_raw.proofs.words.Words.slice_mut.Code as code

abbrev stayed : Stays f.ended.signature.params f.ended.kept
stayed = (stay_dropped _ _, (stay_dropped _ _, (stay_dropped _ _, (stay_dropped _ _, tt))))

module _ {M : Type 1} {𝓤 : Ura M} (𝓛 : Logic 𝓤) (d : R.Denot) (vs : List Val) (rb ro b o at : ℕ) where
  -- the owner itself, which takes no space
  abbrev Rest : Fml
  Rest = fsep ((plainly []).own_val tt vs) (cell_at full_share R.mir vs rb ro)

  back : d.base ≡ block_ptr b o → at ≡ o + d.place * 2 → (ws : List ℤ) → length ws ≡ length d.items
      → ent 𝓤 (sep 𝓤 (sem 𝓛 (cells (mem i16) ws b at)) (sem 𝓛 Rest)) (sem 𝓛 ((mem R).own_at (with_items d ws) rb ro))
  unfolding part_of
  back e here ws long =
      qed 𝓛 (‵ (cells (mem i16) ws b at) ∷ ‵ Rest ∷ []) ∵ use1 𝓛 (‵ (Row 𝓛 ws b at)) (whole_out 𝓛 i16 ws b at) $ use1 𝓛 (‵ (Whole 𝓛 ws b at)) (whole_row 𝓛 ws b at) $
      rewrite ! 0 (λ (k : ℕ). ‵ (Whole 𝓛 ws b k)) here refl $ rewrite ! 0 (λ (p : Ptr). ‵ (words_own p d.place ws)) (sym e) refl $
      rewrite ! 0 (λ (l : List ℤ). ‵ (words_own d.base d.place l)) (sym (refill-same d.items ws long)) refl $
      move ! (1 ∷ []) $ fsplit ! $ move ! (0 ∷ 2 ∷ []) $ fjoin ! $ move ! (1 ∷ 0 ∷ []) $ fjoin ! $
      fpack ! (List Val) (λ us. fsep (cell_at full_share R.mir us rb ro) (R.own_val (with_items d ws) us)) vs $ done !

pub slice_mut_spec : {M : Type 1} → statement M
slice_mut_spec 𝓤 𝓛 𝓜 𝓡 wired =
    let H = 𝓛.H in let c = f.clauses 𝓛 𝓜.mem 𝓡.returns in let 𝓣 = tables 𝓤 H 𝓜 𝓡 𝓡.env in
    let ps = f.ended.signature.params in let kept = f.ended.kept in
    proved_at 𝓛 f.ended stayed c 𝓜 𝓡 (
      Goes-spent_ref 𝓛 1 (0 ∷ []) tt (plain (λ _. R)),
      (
        Goes-dropped 𝓛 1 (slot_at 1 ps) kept.1.0 (λ κs x w. refl),
        (Goes-dropped 𝓛 1 (slot_at 2 ps) kept.1.1.0 (λ κs x w. refl), (Goes-dropped 𝓛 1 (slot_at 3 ps) kept.1.1.1.0 (λ κs x w. refl), tt)),
      ),
    )
    f.Key.name code.function (code.unfolded 𝓤 H 𝓜 𝓡 wired) (λ z are.
    let Post : Val → SProp 𝓤 = (walk_of 𝓛 f.ended stayed c).post z in
    let fn : Fn = code.function in
    let κ : Lft = z.0.0.0 in let q : Share = z.0.1.0 in
    let a = z.0.3 in let vss = z.0.4 in let d = a.0.now in let γ : GName = a.0.ghost_name in let rb = a.0.ref_ptr.0 in let ro = a.0.ref_ptr.1 in
    let base = a.1.0 in let place = a.1.1.0 in let len = a.1.1.1.0 in let xs = d.items in
    let Asked = (base.ptr ≡ d.base) × (place ≡ d.place) × (len ≡ length xs) × (place + len < word_limit) in
    qed 𝓛 ((raw (alive 𝓛 f.ended.signature z.0.0 z.0.1) ⊛ ‵ (owns (types_at ps z.0.0) a vss)) ∷ raw (fact 𝓤 Asked) ∷ []) ∵
    move ! (1 ∷ []) $ heard ! Asked (λ asked. split ! $ use1 𝓛 (‵ (flft κ q) ⊛ ‵ ftrue) (id⊢ 𝓤 _) $ split ! $ move ! (2 ∷ []) $
    let small : place + len < word_limit = asked.3 in
    let fits_place : place < 2 ^ 64 = omega arith in let fits_len : len < 2 ^ 64 = omega arith in let far : place * 2 < 2 ^ 64 = omega arith in
    let roomy : length xs < 2 ^ 64 = omega (arith, asked.2) in let fitting : length xs * 2 < 2 ^ 63 = omega (arith, asked.2) in
    fsplit ! $ move ! (1 ∷ []) $ drop ! $ fsplit3 ! $ drop ! $
    -- [what γ is seen at; the borrow; the token of κ; nothing]
    regoal ! (λ (us : List Val). prop (WpFn 𝓤 H 𝓣.C 𝓣.Λ fn us Post)) (λ i. are.0.0 i ++ (word_told base.ptr vss.1.0 are.1.0 i ++ (are.1.1.0.0 i ++ (are.1.1.1.0.0 i ++ [])))) refl $
    enter ! 𝓣.C 𝓣.Λ fn (vptr rb ro ∷ word base.ptr ∷ vint w64 place ∷ vint w64 len ∷ []) Post $
    alloc_all ! (λ l. pass_all ! refl ((tt, tt), (word-Good [] base.ptr, ((tt, record { fits = fits_place }), ((tt, record { fits = fits_len }), tt)))) $
    let En : Env 𝓤 H = env fn.locals l in
    opens ! tt R {h = d} rb ro (λ vs. move ! (1 ∷ []) $ fsplit ! $ move ! (1 ∷ []) $
    in_a_block ! d.base (λ p. words_own p d.place xs) (id⊢ 𝓤 (never 𝓤)) (λ b o e.
    take_at ! 2 $ rewrite ! 0 (λ (p : Ptr). ‵ (fat full_share (layout B) (l 2) 0 (word p))) (asked.0 ∙ e) refl $ give_at ! 2 $
    -- [the words; the owner's fields; their cell; the open borrow, in three entries; nothing; the locals]
    first ! $ blocks ! $
    sets ! (bin ! (get ! refl) (lit ! tt) (record { fits = far })) refl (tt, record { fits = far }) $
    sets ! (bin ! (get_in ! (fld ! refl (stop !)) (sub ! 0 refl (whole !))) (get ! refl) tt) refl (tt, tt) $
    sets_last ! (agg ! (and_then ! (get ! refl) (and_then ! (get ! refl) (no_more !)))) refl (tt, (tt, (record { fits = fits_len }, tt))) $
    exec ! 𝓣.C 𝓣.Λ En (after 1 fn.body) (at_ret En Post) $
    sets ! (of_opd ! (get ! refl)) refl (tt, (tt, (record { fits = fits_len }, tt))) $
    let at : ℕ = place * 2 + o in let here : at ≡ o + d.place * 2 = omega (arith, asked.1) in
    use1 𝓛 (‵ (Row 𝓛 xs b (o + d.place * 2))) (apart_row 𝓛 xs b (o + d.place * 2)) $ rewrite ! 0 (λ (k : ℕ). ‵ (Row 𝓛 xs b k)) (sym here) refl $
    use1 𝓛 (‵ (cells (mem i16) xs b at)) (whole_in 𝓛 i16 xs b at) $
    move ! (1 ∷ 2 ∷ []) $ fjoin ! $ move ! (2 ∷ 3 ∷ 4 ∷ 1 ∷ 0 ∷ []) $ group ! 5 $
    use1 𝓛 (later (some (λ (δ : GName). raw (Elements 𝓛 R i16 (with_items d) (named 0) κ q rb ro b at γ xs (roomy, fitting) (sem 𝓛 (Rest 𝓛 d vs rb ro b o at)) (back 𝓛 d vs rb ro b o at e here) δ))))
    (lends_Elements 𝓛 R i16 (with_items d) (named 0) κ q rb ro b at γ xs (roomy, fitting) (sem 𝓛 (Rest 𝓛 d vs rb ro b o at)) (back 𝓛 d vs rb ro b o at e here) (R.coded.code d) (R.coded.code d)) $ await ! tt $ pick ! (λ δ.
    returns ! (look_at ! 0 refl) $ free_all ! refl $
    let r : MutBor (List ℤ) = record { ref_ptr = (b, at); ghost_name = δ; now = xs } in
    use1 𝓛 (‵ ((MutSlice (named 0) κ i16).own_val r (slice_val (b, at) (length xs) ∷ [])) ⊛ ‵ (flft κ q) ⊛ ‵ (follows R (Array i16 0) γ δ (with_items d))) (id⊢ 𝓤 _) $
    split3 ! $ rewrite ! 0 (λ (k : ℕ). ‵ ((MutSlice (named 0) κ i16).own_val r (slice_val (b, at) k ∷ []))) (sym asked.2) refl $
    -- [the slice; the token of κ; what ties the owner to it; nothing]
    move ! (1 ∷ 3 ∷ []) $ join ! $ move ! (2 ∷ []) $ use0 𝓛 (raw (fact 𝓤 (xs ≡ xs))) (fact_i 𝓤 (xs ≡ xs) (emp 𝓤) refl) $ move ! (1 ∷ 0 ∷ []) $ join ! $
    nothing ! $ nothing ! $ fjoin ! $ nothing ! $ fjoin ! $ nothing ! $ fjoin ! $ nothing ! $ fjoin ! $ move ! (2 ∷ 0 ∷ 3 ∷ 1 ∷ []) $
    by ! (leaves 𝓛 f.ended stayed c z (slice_val (b, at) len) r (tt, (tt, (tt, (tt, tt)))) (tt, (tt, (tt, (tt, tt)))))))))))
