-- `of` makes words of a region loose, and leaves those behind them away. Assumes `Logic`.
use Rattle.space_raw.proofs.Steps.{use1, Some, map, vint, usize, never, id⊢, block_ptr, in_a_block, sym, ◌≡◌, ℕ, List, [], ◌∷◌, ◌++◌, refl, Val, SProp, WpFn, fact, tables, Ptr, ‵, raw, ◌⊛◌, prop, ◌$◌, ◌∵◌, !, qed, move, drop, split, fsplit, fjoin, regoal, rewrite, suffices, done, agg, enter, returns, no_more, alloc_all, pass_all, free_all, look_at, sets, owns, types_at, plain, nothing, heard, alive, says, Stays, stay_dropped, walk_of, ends_at, Goes-blank, proved_at}
use Rattle.std.proofs.Common.{replicate}
use Rattle.std.specs.Prelude.{ℤ, Option, None}
use mir.Syntax.{w64}
use Rattle.space_raw.specs.Ownership.{words_own}
use Rattle.space_raw.proofs.Runs.{all_loose}
use Rattle.space_raw.proofs.Walks.{none, none_made, none_told}
use Rattle.space_raw.specs.Loose.{loose_owns}
use Rattle.space_raw.specs.contracts.loose.Loose.{the_row as Lo}
use Rattle.space_raw.specs.contracts.words.Words.{the_row as R}
use Rattle.space_raw.specs.contracts.loose.Loose.of as f
use Rattle.space_raw.proofs.loose.Loose.of.Statement.{statement}
use Rattle.space_raw.proofs.loose.Loose.of.Code as code

abbrev stayed : Stays f.ended.signature.params f.ended.kept
stayed = (stay_dropped _ _, (stay_dropped _ _, tt))

pub of_spec : {M : Type 1} → statement M
of_spec 𝓤 𝓛 𝓜 𝓡 wired =
    let H = 𝓛.H in let c = f.clauses 𝓛 𝓜.mem 𝓡.returns in let 𝓣 = tables 𝓤 H 𝓜 𝓡 𝓡.env in
    proved_at 𝓛 f.ended stayed c 𝓜 𝓡 (Goes-blank 𝓛 0 (plain (λ _. R)) f.ended.kept.0 (λ κs x f. tt), (Goes-blank 𝓛 0 (plain (λ _. usize)) f.ended.kept.1.0 (λ κs x f. tt), tt))
    f.Key.name code.function (code.unfolded 𝓤 H 𝓜 𝓡 wired) (λ z are.
    let Post : Val → SProp 𝓤 = (walk_of 𝓛 f.ended stayed c).post z in
    let a = z.0.3 in let vss = z.0.4 in let words = a.0 in let n = a.1.0 in let all : List (Option ℤ) = map Some words.items ++ replicate n None in
    let Asked : Type 0 = words.place ≡ 0 in
    let loose : Lo.Denot = record { base = words.base; slots = all } in
    qed 𝓛 ((raw (alive 𝓛 f.ended.signature z.0.0 z.0.1) ⊛ ‵ (owns (types_at f.ended.signature.params z.0.0) a vss)) ∷ raw (fact 𝓤 Asked) ∷ []) ∵
    move ! (1 ∷ []) $ heard ! Asked (λ asked. split ! $ move ! (1 ∷ []) $
    fsplit ! $ fsplit ! $ drop ! $ move ! (1 ∷ []) $ drop ! $
    rewrite ! 0 (λ (k : ℕ). ‵ (words_own words.base k words.items)) asked refl $
    in_a_block ! words.base (λ p. words_own p 0 words.items) (id⊢ 𝓤 (never 𝓤)) (λ b o e.
    regoal ! (λ (us : List Val). prop (WpFn 𝓤 H 𝓣.C 𝓣.Λ code.function us Post)) (λ i. none_told vss.0 are.0.0 i ++ (are.1.0.0 i ++ [])) refl $
    enter ! 𝓣.C 𝓣.Λ code.function (none ∷ vint w64 n ∷ []) Post $ alloc_all ! (λ l. pass_all ! refl ((tt, tt), ((tt, record { fits = are.1.0.1 }), tt)) $
    sets ! (agg ! (no_more !)) refl (tt, tt) $
    use1 𝓛 (‵ (loose_owns (block_ptr b o) all)) (all_loose 𝓛 b o words.items n) $
    rewrite ! 0 (λ (p : Ptr). ‵ (loose_owns p all)) (sym e) refl $
    none_made ! $ fjoin ! $ returns ! (look_at ! 0 refl) $ free_all ! refl $
    suffices ! _ (ends_at 𝓛 f.ended stayed c z none loose (tt, (tt, tt)) (tt, (tt, tt))) $ says ! (refl, refl) $
    nothing ! $ nothing ! $ fjoin ! $ nothing ! $ fjoin ! $ move ! (2 ∷ 0 ∷ 1 ∷ []) $ done !))))
