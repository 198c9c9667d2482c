-- `slice` shows the words that are lent. Assumes `Logic`.
use Rattle.space_raw.proofs.Steps.{◌≡◌, ℕ, ◌+◌, ◌*◌, ◌^◌, ◌<◌, List, [], ◌∷◌, ◌++◌, length, refl, ap, ◌∙◌, arith, Fn, Val, vptr, vint, SProp, full_share, Lft, Share, fat, Env, WpFn, fact, tables, ‵, raw, ◌⊛◌, prop, at_ret, ◌$◌, ◌∵◌, !, qed, move, drop, split, fsplit, fjoin, feq_i, flt_i, regoal, rewrite, suffices, done, whole, sub, agg, stop, fld, lit, of_opd, bin, and_then, no_more, first, blocks, exec, returns, enter, alloc_all, pass_all, free_all, look_at, get, get_in, sets, sets_last, take_at, give_at, env, owns, hide, unhide, layout, Ptr, in_a_block, types_at, i16, slice_val, elements_shared, nothing, heard, alive, says, Stays, stay_dropped, Goes-dropped, walk_of, ends_at, word-Good, proved_at}
use Rattle.std.proofs.Common.{w64}
use base.Fml.{fhide}
use Rattle.std.proofs.VecSteps.Shapes.{after}
use Rattle.space_raw.specs.Ownership.{word_limit, words_lent}
use Rattle.space_raw.proofs.Rows.{lent_at_null}
use Rattle.space_raw.proofs.Walks.{slot_at, word, word_told}
use Rattle.space_raw.specs.contracts.words.Base.{the_row as B}
use Rattle.space_raw.specs.contracts.words.Words.slice as f
use Rattle.space_raw.proofs.words.Words.slice.Statement.{statement}
use Rattle.space_raw.proofs.words.Words.slice.Code as code

abbrev stayed : Stays f.ended.signature.params f.ended.kept
stayed = (stay_dropped _ _, (stay_dropped _ _, (stay_dropped _ _, (stay_dropped _ _, tt))))

pub slice_spec : {M : Type 1} → statement M
slice_spec 𝓤 𝓛 𝓜 𝓡 wired =
    let H = 𝓛.H in let c = f.clauses 𝓛 𝓜.mem 𝓡.returns in let 𝓣 = tables 𝓤 H 𝓜 𝓡 𝓡.env in
    let ps = f.ended.signature.params in let kept = f.ended.kept in
    proved_at 𝓛 f.ended stayed c 𝓜 𝓡 (
      Goes-dropped 𝓛 1 (slot_at 0 ps) kept.0 (λ κs x w. refl),
      (
        Goes-dropped 𝓛 1 (slot_at 1 ps) kept.1.0 (λ κs x w. refl),
        (Goes-dropped 𝓛 1 (slot_at 2 ps) kept.1.1.0 (λ κs x w. refl), (Goes-dropped 𝓛 1 (slot_at 3 ps) kept.1.1.1.0 (λ κs x w. refl), tt)),
      ),
    )
    f.Key.name code.function (code.unfolded 𝓤 H 𝓜 𝓡 wired) (λ z are.
    let Post : Val → SProp 𝓤 = (walk_of 𝓛 f.ended stayed c).post z in
    let fn : Fn = code.function in
    let κ : Lft = z.0.0.0 in let q : Share = z.0.1.0 in
    let a = z.0.3 in let vss = z.0.4 in let d = a.0.now in let rb = a.0.ref_ptr.0 in let ro = a.0.ref_ptr.1 in
    let base = a.1.0 in let place = a.1.1.0 in let len = a.1.1.1.0 in
    let Asked = (base.ptr ≡ d.base) × (place ≡ d.place) × (len ≡ length d.items) × (place + len < word_limit) in
    qed 𝓛 ((raw (alive 𝓛 f.ended.signature z.0.0 z.0.1) ⊛ ‵ (owns (types_at ps z.0.0) a vss)) ∷ raw (fact 𝓤 Asked) ∷ []) ∵
    move ! (1 ∷ []) $ heard ! Asked (λ asked. split ! $ move ! (1 ∷ []) $
    let small : place + len < word_limit = asked.3 in
    let fits_place : place < 2 ^ 64 = omega arith in let fits_len : len < 2 ^ 64 = omega arith in let far : place * 2 < 2 ^ 64 = omega arith in
    fsplit ! $ fsplit ! $ drop ! $ move ! (1 ∷ []) $ drop ! $
    regoal ! (λ (us : List Val). prop (WpFn 𝓤 H 𝓣.C 𝓣.Λ fn us Post)) (λ i. are.0.0 i ++ (word_told base.ptr vss.1.0 are.1.0 i ++ (are.1.1.0.0 i ++ (are.1.1.1.0.0 i ++ [])))) refl $
    enter ! 𝓣.C 𝓣.Λ fn (vptr rb ro ∷ word base.ptr ∷ vint w64 place ∷ vint w64 len ∷ []) Post $
    alloc_all ! (λ l. pass_all ! refl ((tt, tt), (word-Good [] base.ptr, ((tt, record { fits = fits_place }), ((tt, record { fits = fits_len }), tt)))) $
    let En : Env 𝓤 H = env fn.locals l in
    unhide ! $ fsplit ! $ drop ! $ in_a_block ! d.base (λ p. words_lent p d.place d.items κ) (lent_at_null 𝓛 d.place d.items κ) (λ b o e. fsplit ! $ drop ! $ fsplit ! $ drop ! $ hide ! $
    take_at ! 2 $ rewrite ! 0 (λ (p : Ptr). ‵ (fat full_share (layout B) (l 2) 0 (word p))) (asked.0 ∙ e) refl $ give_at ! 2 $
    -- [the words; the tokens; the locals]
    first ! $ blocks ! $
    sets ! (bin ! (get ! refl) (lit ! tt) (record { fits = far })) refl (tt, record { fits = far }) $
    sets ! (bin ! (get_in ! (fld ! refl (stop !)) (sub ! 0 refl (whole !))) (get ! refl) tt) refl (tt, tt) $
    sets_last ! (agg ! (and_then ! (get ! refl) (and_then ! (get ! refl) (no_more !)))) refl (tt, (tt, (record { fits = fits_len }, tt))) $
    exec ! 𝓣.C 𝓣.Λ En (after 1 fn.body) (at_ret En Post) $
    sets ! (of_opd ! (get ! refl)) refl (tt, (tt, (record { fits = fits_len }, tt))) $
    let at : ℕ × ℕ = (b, place * 2 + o) in
    let here : o + d.place * 2 ≡ place * 2 + o = omega (arith, asked.1) in
    rewrite ! 0 (λ (k : ℕ). ‵ (fhide (elements_shared i16 d.items b k κ))) here refl $
    flt_i ! (length d.items * 2) (2 ^ 63) (omega (arith, asked.2)) $ flt_i ! (length d.items) (2 ^ 64) (omega (arith, asked.2)) $ fjoin ! $
    feq_i ! (List Val) (slice_val at len ∷ []) (slice_val at (length d.items) ∷ []) (ap (λ (k : ℕ). slice_val at k ∷ []) asked.2) $ fjoin ! $ fjoin ! $
    returns ! (look_at ! 0 refl) $ free_all ! refl $
    suffices ! _ (ends_at 𝓛 f.ended stayed c z (slice_val at len) (record { ref_ptr = at; now = d.items }) (tt, (tt, (tt, (tt, tt)))) (tt, (tt, (tt, (tt, tt))))) $ says ! refl $
    nothing ! $ nothing ! $ fjoin ! $ nothing ! $ fjoin ! $ nothing ! $ fjoin ! $ nothing ! $ fjoin ! $ move ! (2 ∷ 0 ∷ 1 ∷ []) $ done !))))
