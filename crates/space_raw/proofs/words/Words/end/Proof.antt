-- `end` adds the room of no words behind them. Assumes `Logic`.
use Rattle.space_raw.proofs.Steps.{never, id⊢, ftrue, Ptr, block_ptr, in_a_block, rewrite, sym, use0, ◌+◌, List, [], ◌∷◌, ◌++◌, length, refl, Val, SProp, WpFn, tables, ‵, raw, ◌⊛◌, prop, ◌$◌, ◌∵◌, !, qed, move, drop, split, fsplit, fjoin, regoal, suffices, done, agg, enter, returns, and_then, no_more, alloc_all, pass_all, free_all, look_at, get, sets, owns, types_at, plain, nothing, alive, Stays, stay_dropped, walk_of, ends_at, Goes-blank, proved_at}
use Rattle.space_raw.specs.Ownership.{words_own, blank_owns}
use Rattle.space_raw.proofs.Rows.{no_room}
use Rattle.space_raw.proofs.Walks.{says_two, none, two, none_told, two_owners}
use Rattle.space_raw.specs.contracts.block.Blank.{the_row as Bl}
use Rattle.space_raw.specs.contracts.words.Words.{the_row as R}
use Rattle.space_raw.specs.contracts.words.Words.end as f
use Rattle.space_raw.proofs.words.Words.end.Statement.{statement}
use Rattle.space_raw.proofs.words.Words.end.Code as code

abbrev stayed : Stays f.ended.signature.params f.ended.kept
stayed = (stay_dropped _ _, tt)

pub end_spec : {M : Type 1} → statement M
end_spec 𝓤 𝓛 𝓜 𝓡 wired =
    let H = 𝓛.H in let c = f.clauses 𝓛 𝓜.mem 𝓡.returns in let 𝓣 = tables 𝓤 H 𝓜 𝓡 𝓡.env in
    proved_at 𝓛 f.ended stayed c 𝓜 𝓡 (Goes-blank 𝓛 0 (plain (λ _. R)) f.ended.kept.0 (λ κs x f. tt), tt)
    f.Key.name code.function (code.unfolded 𝓤 H 𝓜 𝓡 wired) (λ z are.
    let Post : Val → SProp 𝓤 = (walk_of 𝓛 f.ended stayed c).post z in
    let a = z.0.3 in let vss = z.0.4 in let s = a.0 in
    let blank : Bl.Denot = record { base = s.base; place = s.place + length s.items; len = 0 } in
    qed 𝓛 ((raw (alive 𝓛 f.ended.signature z.0.0 z.0.1) ⊛ ‵ (owns (types_at f.ended.signature.params z.0.0) a vss)) ∷ ‵ ftrue ∷ []) ∵
    move ! (1 ∷ []) $ drop ! $ split ! $ move ! (1 ∷ []) $
    fsplit ! $ fsplit ! $ drop ! $ move ! (1 ∷ []) $ drop ! $
    -- [the words; the tokens]
    in_a_block ! s.base (λ p. words_own p s.place s.items) (id⊢ 𝓤 (never 𝓤)) (λ b o e.
    regoal ! (λ (us : List Val). prop (WpFn 𝓤 H 𝓣.C 𝓣.Λ code.function us Post)) (λ i. none_told vss.0 are.0.0 i ++ []) refl $
    enter ! 𝓣.C 𝓣.Λ code.function (none ∷ []) Post $ alloc_all ! (λ l. pass_all ! refl ((tt, tt), tt) $
    sets ! (agg ! (no_more !)) refl (tt, tt) $ sets ! (agg ! (no_more !)) refl (tt, tt) $
    sets ! (agg ! (and_then ! (get ! refl) (and_then ! (get ! refl) (no_more !)))) refl (tt, (tt, (tt, tt))) $
    rewrite ! 0 (λ (p : Ptr). ‵ (words_own p s.place s.items)) (sym e) refl $
    use0 𝓛 (‵ (blank_owns (block_ptr b o) blank.place 0)) (no_room 𝓛 b o blank.place) $ rewrite ! 0 (λ (p : Ptr). ‵ (blank_owns p blank.place 0)) (sym e) refl $ move ! (1 ∷ 0 ∷ []) $
    two_owners ! R Bl s blank (words_own s.base s.place s.items) (blank_owns s.base blank.place 0) refl refl $
    returns ! (look_at ! 0 refl) $ free_all ! refl $
    suffices ! _ (ends_at 𝓛 f.ended stayed c z (two none none) (s, blank) (tt, tt) (tt, tt)) $ says_two ! (refl, (refl, refl, refl)) $
    nothing ! $ nothing ! $ fjoin ! $ move ! (2 ∷ 0 ∷ 1 ∷ []) $ done !)))
