-- `deallocate` gives the allocator its block and its token. Assumes `Logic`.
use Rattle.space_raw.proofs.Steps.{use2, ◌≡◌, ℕ, ◌*◌, ◌^◌, ◌<◌, List, [], ◌∷◌, ◌++◌, length, refl, sym, ap, ◌∙◌, ◌+◌, arith, lit<, Ty, Fn, Args, a_type, dcons, dnil, Val, vint, vptr, inst_fn, SProp, never, id⊢, Lft, Share, ftrue, flft, froom, capped_is, Env, WpFn, ◌⊑◌, ⊑_trans, fact, tables, ‵, raw, ◌⊛◌, later, prop, at_ret, ◌$◌, ◌∵◌, !, qed, by, move, drop, use1, split, split3, join, rewrite, regoal, fsplit, fjoin, feq_i, await, whole, sub, stop, fld, lit, of_opd, bin, no_more, and_then, first, blocks, exec, returns, enter, alloc_all, pass_all, free_all, look_at, get, get_in, sets, env, owns, Ptr, block_ptr, in_a_block, bounded, types_at, nothing, heard, alive, framed, Stays, stay_dropped, walk_of, Goes-dropped, Al, seen, Goes-blank, proved_at, leaves}
use Rattle.std.proofs.Common.{w64}
use mir.Syntax.{place as spot}
use mir.Val.{vunit}
use types.Kit.{given, settles, use3, learn}
use types.Run.{unit_lit}
use types.ByLocal.{lands_last}
use denote.Triple.Call.{calls_at_last}
use Rattle.std.proofs.alloc.Calls.{Gives, at_gives, Gives-goes, Gives-Gives}
use Rattle.std.proofs.alloc.Shapes.{after}
use Rattle.space_raw.specs.Ownership.{word_limit, words_own, words_type, blank_owns}
use Rattle.space_raw.proofs.Rows.{to_room}
use Rattle.space_raw.proofs.Walks.{slot_at, then_runs, out_of_block, word, word_told, none, none_told, marked, marked_told}
use Rattle.space_raw.specs.contracts.block.Deed.deallocate as f
use Rattle.space_raw.proofs.block.Deed.deallocate.Statement.{statement}
use Rattle.space_raw.proofs.block.Deed.deallocate.Code as code

pub deallocate_spec : {M : Type 1} → statement M
deallocate_spec 𝓤 𝓛 𝓜 𝓡 wired A L g d dd met md =
    let H = 𝓛.H in
    let En₀ = f.ended A g d dd in
    let ps = En₀.signature.params in let kept = En₀.kept in
    let args : Args = bounded (a_type ∷ []) (A, tt) (dcons d (dcons dd dnil)) in
    let fn : Fn = inst_fn args code.function in
    let stays : Stays ps kept = (stay_dropped (slot_at 0 ps) kept.0, (stay_dropped (slot_at 1 ps) kept.1.0, (stay_dropped (slot_at 2 ps) kept.1.1.0, (stay_dropped (slot_at 3 ps) kept.1.1.1.0, (stay_dropped (slot_at 4 ps) kept.1.1.1.1.0, (stay_dropped (slot_at 5 ps) kept.1.1.1.1.1.0, tt)))))) in
    let c = f.clauses A g d dd 𝓛 𝓜.mem 𝓡.returns in
    let 𝓣 = tables 𝓤 H 𝓜 𝓡 𝓡.env in let C = 𝓣.C in let Λ = 𝓣.Λ in
    proved_at 𝓛 En₀ stays c 𝓜 𝓡 (
      Goes-blank 𝓛 2 (slot_at 0 ps) kept.0 (λ κs x w. tt),
      (
        Goes-dropped 𝓛 2 (slot_at 1 ps) kept.1.0 (λ κs x w. refl),
        (
          Goes-dropped 𝓛 2 (slot_at 2 ps) kept.1.1.0 (λ κs x w. refl),
          (Goes-dropped 𝓛 2 (slot_at 3 ps) kept.1.1.1.0 (λ κs x w. refl), (Goes-blank 𝓛 2 (slot_at 4 ps) kept.1.1.1.1.0 (λ κs x w. tt), (Goes-blank 𝓛 2 (slot_at 5 ps) kept.1.1.1.1.1.0 (λ κs x w. tt), tt))),
        ),
      ),
    )
    (f.Key.name args) fn (code.unfolded 𝓤 H 𝓜 𝓡 wired (A, tt) d dd) (λ z are.
    let Post : Val → SProp 𝓤 = (walk_of 𝓛 En₀ stays c).post z in
    let a = z.0.3 in let vss = z.0.4 in
    let Y : Al = record { row = A; laws = L; g = g; d = d; drops = dd } in
    let κ : Lft = z.0.0.0 in let q : Share = z.0.1.0 in
    let s = a.0 in let h = a.1.0.now in let handle = a.1.0.ref_ptr in let base = a.1.1.0 in let n = a.1.1.1.0 in let words = a.1.1.1.1.0 in let blank = a.1.1.1.1.1.0 in
    let τ : Ty = words_type n in
    let AskedBlock : Type 0 = (s.base ≡ base.ptr) × (s.len ≡ n) × (s.alloc ≡ h) × (n < word_limit) in
    let AskedWords : Type 0 = (words.base ≡ base.ptr) × (words.place ≡ 0) in
    let AskedBlank : Type 0 = (blank.base ≡ base.ptr) × (blank.place ≡ length words.items) × (length words.items + blank.len ≡ n) in
    qed 𝓛 ((raw (alive 𝓛 En₀.signature z.0.0 z.0.1) ⊛ ‵ (owns (types_at ps z.0.0) a vss)) ∷ (raw (fact 𝓤 (z.0.0.1.0 ⊑ A.lives)) ⊛ raw (fact 𝓤 AskedBlock) ⊛ raw (fact 𝓤 AskedWords) ⊛ raw (fact 𝓤 AskedBlank)) ∷ []) ∵
    move ! (1 ∷ []) $ split3 ! $ move ! (2 ∷ []) $ split ! $ move ! (2 ∷ 3 ∷ []) $ heard ! (z.0.0.1.0 ⊑ A.lives) (λ le. heard ! AskedBlock (λ asked. heard ! AskedWords (λ covers. heard ! AskedBlank (λ behind. split ! $ move ! (1 ∷ []) $
    let bytes : n * 2 < 2 ^ 64 = omega (arith, asked.3) in let fits : n < 2 ^ 64 = omega (arith, asked.3) in
    fsplit ! $ fsplit ! $ drop ! $ move ! (1 ∷ []) $ fsplit ! $ fsplit ! $ drop ! $ move ! (1 ∷ []) $ fsplit ! $ drop ! $ fsplit ! $ drop ! $ fsplit ! $ fsplit ! $ drop ! $ move ! (1 ∷ []) $ fsplit ! $ move ! (1 ∷ []) $ drop ! $ fsplit ! $ drop ! $ move ! (1 ∷ []) $
    -- [the words; the room behind them; the handle; the right to free the block; the tokens]
    rewrite ! 0 (λ (u : Ptr × ℕ). ‵ (words_own u.0 u.1 words.items)) (λ i. (covers.0 i, covers.1 i)) refl $
    rewrite ! 1 (λ (u : Ptr × ℕ). ‵ (blank_owns u.0 u.1 blank.len)) (λ i. (behind.0 i, behind.1 i)) refl $
    in_a_block ! base.ptr (λ p. words_own p 0 words.items) (id⊢ 𝓤 (never 𝓤)) (λ b o at.
    rewrite ! 1 (λ (p : Ptr). ‵ (blank_owns p (length words.items) blank.len)) at refl $
    use2 𝓛 (‵ (froom (words_type n) b o)) (to_room 𝓛 b o words.items blank.len n (sym behind.2)) $
    rewrite ! 2 (λ (u : A.Denot × ℕ × Ptr). ‵ (g.dealloc_token u.0 (words_type u.1) u.2)) (λ i. (asked.2 i, asked.1 i, (asked.0 ∙ at) i)) refl $
    move ! (1 ∷ []) $ use1 𝓛 (‵ (seen Y κ handle h)) (id⊢ 𝓤 _) $ move ! (3 ∷ []) $ use1 𝓛 (‵ (flft κ q) ⊛ ‵ (flft z.0.0.1.0 z.0.1.1.0) ⊛ ‵ ftrue) (id⊢ 𝓤 _) $ split ! $
    move ! (2 ∷ 0 ∷ []) $ join ! $ move ! (2 ∷ 3 ∷ 0 ∷ []) $
    -- [the room; the right to free it; the handle and the token of its lifetime; the other tokens]
    let y = at_gives Y 𝓛 𝓜.mem 𝓡.returns κ q handle h b o (n * 2) 2 τ in
    regoal ! (λ (us : List Val). prop (WpFn 𝓤 H C Λ fn us Post)) (λ i. marked_told vss.0 are.0.0 i ++ (are.1.0.0 i ++ ((word_told base.ptr vss.1.1.0 are.1.1.0 ∙ ap (λ (p : Ptr). word p ∷ []) at) i ++ (are.1.1.1.0.0 i ++ (none_told vss.1.1.1.1.0 are.1.1.1.1.0.0 i ++ (none_told vss.1.1.1.1.1.0 are.1.1.1.1.1.0.0 i ++ [])))))) refl $
    enter ! C Λ fn (marked ∷ vptr handle.0 handle.1 ∷ word (block_ptr b o) ∷ vint w64 n ∷ none ∷ none ∷ []) Post $
    alloc_all ! (λ l. pass_all ! refl ((tt, (tt, tt)), ((tt, tt), ((tt, (tt, tt)), ((tt, record { fits = fits }), ((tt, tt), ((tt, tt), tt)))))) $ let En : Env 𝓤 H = env fn.locals l in
    first ! $ blocks ! $
    sets ! (of_opd ! (get_in ! (fld ! refl (stop !)) (sub ! 0 refl (whole !)))) refl (tt, tt) $
    sets ! (bin ! (get ! refl) (lit ! tt) (record { fits = bytes })) refl (tt, record { fits = bytes }) $
    use3 𝓛 (raw ((Gives Y 𝓛 𝓜.mem 𝓡.returns).pre y)) (Gives-goes Y 𝓛 𝓜.mem 𝓡.returns κ q handle h (⊑_trans κ z.0.0.1.0 A.lives z.0.2.0 le) b o (n * 2) 2 τ (capped_is (n * 2) bytes) refl bytes (lit< tt)) $
    calls_at_last ! (framed 𝓤 H 𝓜 𝓣) (Gives Y 𝓛 𝓜.mem 𝓡.returns) (met.deallocate dd) y (and_then ! (get ! refl) (and_then ! (get ! refl) (and_then ! (get ! refl) (and_then ! (lit ! tt) (no_more !))))) (λ v.
    use1 𝓛 (later (given (v ≡ vunit) (‵ (flft κ q)))) (Gives-Gives Y 𝓛 𝓜.mem 𝓡.returns κ q handle h b o (n * 2) 2 τ v) $ await ! tt $ learn ! (λ e. join ! $
    regoal ! (λ (u : Val). settles En (spot 7 []) u (out_of_block 𝓛 (then_runs 𝓛 C Λ En (after 1 fn.body) (at_ret En Post)))) e refl $ lands_last ! refl (tt, tt) $
    exec ! C Λ En (after 1 fn.body) (at_ret En Post) $ sets ! (of_opd ! (unit_lit !)) refl (tt, tt) $
    returns ! (look_at ! 0 refl) $ free_all ! refl $
    feq_i ! (List Val) (vunit ∷ []) (vunit ∷ []) refl $ nothing ! $
    nothing ! $ nothing ! $ fjoin ! $ nothing ! $ fjoin ! $ nothing ! $ fjoin ! $ nothing ! $ fjoin ! $ nothing ! $ fjoin ! $ nothing ! $ fjoin ! $ move ! (3 ∷ 0 ∷ 2 ∷ 1 ∷ []) $
    by ! (leaves 𝓛 En₀ stays c z vunit tt (tt, (tt, (tt, (tt, (tt, (tt, tt)))))) (tt, (tt, (tt, (tt, (tt, (tt, tt))))))))))))))))
