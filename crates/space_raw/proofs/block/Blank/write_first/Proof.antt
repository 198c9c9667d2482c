-- `write_first` fills the first word. Assumes `Logic`.
use Rattle.space_raw.proofs.Steps.{◌≡◌, ℕ, ◌+◌, ◌*◌, ◌^◌, ◌<◌, List, [], ◌∷◌, ◌++◌, length, refl, sym, ap, ◌∙◌, arith, Fn, Val, vint, full_share, SProp, never, id⊢, fat, froom, Env, WpFn, fact, tables, ‵, raw, ◌⊛◌, prop, at_ret, ◌$◌, ◌∵◌, !, qed, move, drop, use1, use2, split, fsplit, fjoin, regoal, rewrite, suffices, done, whole, sub, agg, stop, fld, lit, of_opd, bin, and_then, no_more, first, blocks, exec, returns, enter, alloc_all, pass_all, free_all, look_at, get, get_in, sets, take_at, give_at, env, owns, layout, Ptr, block_ptr, in_a_block, types_at, nothing, heard, alive, Stays, stay_dropped, Goes-dropped, walk_of, ends_at, word-Good, Goes-blank, proved_at}
use Rattle.std.proofs.Common.{suc, ◌-◌, w16, w64}
use mir.Syntax.{ty_int}
use mir.Val.{of_z}
use mir.ValLaws.{of_z_fits}
use types.Run.{init, assigns_last}
use types.ByLocal.{through}
use Rattle.std.proofs.VecSteps.Shapes.{after}
use Rattle.space_raw.specs.Ownership.{word_limit, words_own, blank_owns}
use Rattle.space_raw.proofs.Rows.{glue, written, first_room}
use Rattle.space_raw.proofs.Walks.{slot_at, says_two, word, word_told, none, none_told, none_made, two, two_made}
use Rattle.space_raw.specs.contracts.block.Blank.{the_row as Bl}
use Rattle.space_raw.specs.contracts.words.Base.{the_row as B}
use Rattle.space_raw.specs.contracts.words.Words.{the_row as R}
use Rattle.space_raw.specs.contracts.block.Blank.write_first as f
use Rattle.space_raw.proofs.block.Blank.write_first.Statement.{statement}
use Rattle.space_raw.proofs.block.Blank.write_first.Code as code

abbrev stayed : Stays f.ended.signature.params f.ended.kept
stayed = (stay_dropped _ _, (stay_dropped _ _, (stay_dropped _ _, (stay_dropped _ _, (stay_dropped _ _, tt)))))

pub write_first_spec : {M : Type 1} → statement M
write_first_spec 𝓤 𝓛 𝓜 𝓡 wired =
    let H = 𝓛.H in let c = f.clauses 𝓛 𝓜.mem 𝓡.returns in let 𝓣 = tables 𝓤 H 𝓜 𝓡 𝓡.env in
    let ps = f.ended.signature.params in let kept = f.ended.kept in
    proved_at 𝓛 f.ended stayed c 𝓜 𝓡 (
      Goes-blank 𝓛 0 (slot_at 0 ps) kept.0 (λ κs x w. tt),
      (
        Goes-dropped 𝓛 0 (slot_at 1 ps) kept.1.0 (λ κs x w. refl),
        (Goes-dropped 𝓛 0 (slot_at 2 ps) kept.1.1.0 (λ κs x w. refl), (Goes-dropped 𝓛 0 (slot_at 3 ps) kept.1.1.1.0 (λ κs x w. refl), (Goes-blank 𝓛 0 (slot_at 4 ps) kept.1.1.1.1.0 (λ κs x w. tt), tt))),
      ),
    )
    f.Key.name code.function (code.unfolded 𝓤 H 𝓜 𝓡 wired) (λ z are.
    let Post : Val → SProp 𝓤 = (walk_of 𝓛 f.ended stayed c).post z in
    let fn : Fn = code.function in
    let a = z.0.3 in let vss = z.0.4 in
    let s = a.0 in let base = a.1.0 in let place = a.1.1.0 in let w = a.1.1.1.0 in let before = a.1.1.1.1.0 in
    let AskedPlace = (s.base ≡ base.ptr) × (s.place ≡ place) × (0 < s.len) × (place < word_limit) in
    let AskedBefore = (before.base ≡ base.ptr) × (before.place + length before.items ≡ place) in
    let words : R.Denot = record before { items = before.items ++ w ∷ [] } in
    let blank : Bl.Denot = record { base = s.base; place = s.place + 1; len = s.len - 1 } in
    qed 𝓛 ((raw (alive 𝓛 f.ended.signature z.0.0 z.0.1) ⊛ ‵ (owns (types_at ps z.0.0) a vss)) ∷ (raw (fact 𝓤 AskedPlace) ⊛ raw (fact 𝓤 AskedBefore)) ∷ []) ∵
    move ! (1 ∷ []) $ split ! $ heard ! AskedPlace (λ asked. heard ! AskedBefore (λ joined. split ! $ move ! (1 ∷ []) $
    let fits_place : place < 2 ^ 64 = omega (arith, asked.3) in let far : place * 2 < 2 ^ 64 = omega (arith, asked.3) in
    let sfits = are.1.1.1.0.1 in let good = of_z_fits w16 w (record { sfits = sfits }) in
    let one : suc (s.len - 1) ≡ s.len = omega (arith, asked.2) in let kept_len : s.len - 1 + 1 ≡ s.len = omega (arith, asked.2) in
    fsplit ! $ fsplit ! $ drop ! $ move ! (1 ∷ []) $ fsplit ! $ drop ! $ fsplit ! $ drop ! $ fsplit ! $ drop ! $ fsplit ! $ move ! (1 ∷ []) $ drop ! $ fsplit ! $ drop ! $
    -- [the words; the room; the tokens]
    regoal ! (λ (us : List Val). prop (WpFn 𝓤 H 𝓣.C 𝓣.Λ fn us Post)) (λ i. none_told vss.0 are.0.0 i ++ (word_told base.ptr vss.1.0 are.1.0 i ++ (are.1.1.0.0 i ++ (are.1.1.1.0.0 i ++ (none_told vss.1.1.1.1.0 are.1.1.1.1.0.0 i ++ []))))) refl $
    enter ! 𝓣.C 𝓣.Λ fn (none ∷ word base.ptr ∷ vint w64 place ∷ vint w16 (of_z w16 w) ∷ none ∷ []) Post $
    alloc_all ! (λ l. pass_all ! refl ((tt, tt), (word-Good [] base.ptr, ((tt, record { fits = fits_place }), ((tt, good), ((tt, tt), tt))))) $
    let En : Env 𝓤 H = env fn.locals l in
    move ! (1 ∷ []) $ in_a_block ! s.base (λ p. blank_owns p s.place s.len) (id⊢ 𝓤 (never 𝓤)) (λ b o e.
    take_at ! 2 $ rewrite ! 0 (λ (p : Ptr). ‵ (fat full_share (layout B) (l 2) 0 (word p))) (sym asked.0 ∙ e) refl $ give_at ! 2 $
    let end = before.place + length before.items in
    let here : o + s.place * 2 ≡ place * 2 + o = omega (arith, asked.1) in let there : place * 2 + o ≡ o + end * 2 = omega (arith, joined.1) in
    rewrite ! 0 (λ (k : ℕ). ‵ (blank_owns (block_ptr b o) s.place k)) (sym one) refl $
    use1 𝓛 (‵ (froom (ty_int w16) b (o + s.place * 2)) ⊛ ‵ (blank_owns (block_ptr b o) (s.place + 1) (s.len - 1))) (first_room 𝓛 b o s.place (s.len - 1)) $ split ! $
    rewrite ! 0 (λ (k : ℕ). ‵ (froom (ty_int w16) b k)) here refl $
    -- [the first word's room; the other room; the words; the tokens; the locals]
    first ! $ blocks ! $
    sets ! (bin ! (get ! refl) (lit ! tt) (record { fits = far })) refl (tt, record { fits = far }) $
    sets ! (bin ! (get_in ! (fld ! refl (stop !)) (sub ! 0 refl (whole !))) (get ! refl) tt) refl (tt, tt) $
    assigns_last ! (of_opd ! (get ! refl)) (through ! refl (stop !)) (init ! 0 refl (tt, good)) $
    exec ! 𝓣.C 𝓣.Λ En (after 1 fn.body) (at_ret En Post) $
    sets ! (agg ! (no_more !)) refl (tt, tt) $ sets ! (agg ! (no_more !)) refl (tt, tt) $
    sets ! (agg ! (and_then ! (get ! refl) (and_then ! (get ! refl) (no_more !)))) refl (tt, (tt, (tt, tt))) $
    rewrite ! 0 (λ (k : ℕ). ‵ (fat full_share (ty_int w16) b k (vint w16 (of_z w16 w)))) there refl $
    use1 𝓛 (‵ (words_own (block_ptr b o) end (w ∷ []))) (written 𝓛 b o end w sfits) $
    rewrite ! 0 (λ (p : Ptr). ‵ (words_own p end (w ∷ []))) (sym e ∙ asked.0 ∙ sym joined.0) refl $
    move ! (2 ∷ 0 ∷ []) $ use2 𝓛 (‵ (words_own before.base before.place words.items)) (glue 𝓛 before.base before.place before.items (w ∷ [])) $
    move ! (1 ∷ []) $ rewrite ! 0 (λ (p : Ptr). ‵ (blank_owns p (s.place + 1) (s.len - 1))) (sym e) refl $
    none_made ! $ fjoin ! $ move ! (1 ∷ []) $ none_made ! $ fjoin ! $ two_made ! R Bl words blank none none $
    returns ! (look_at ! 0 refl) $ free_all ! refl $
    suffices ! _ (ends_at 𝓛 f.ended stayed c z (two none none) (words, blank) (tt, (tt, (tt, (tt, (tt, tt))))) (tt, (tt, (tt, (tt, (tt, tt)))))) $
    says_two ! ((joined.0, refl, refl), (asked.0, ap (λ (k : ℕ). k + 1) asked.1, kept_len)) $
    nothing ! $ nothing ! $ fjoin ! $ nothing ! $ fjoin ! $ nothing ! $ fjoin ! $ nothing ! $ fjoin ! $ nothing ! $ fjoin ! $ move ! (2 ∷ 0 ∷ 1 ∷ []) $ done !)))))
