-- `split` parts the words. Assumes `Logic`.
use Rattle.space_raw.proofs.Steps.{◌+◌, ◌≤◌, List, [], ◌∷◌, ◌++◌, length, take, refl, Val, vint, SProp, WpFn, fact, tables, ‵, raw, ◌⊛◌, prop, ◌$◌, ◌∵◌, !, qed, move, drop, use1, split, fsplit, fjoin, regoal, suffices, done, agg, enter, returns, and_then, no_more, alloc_all, pass_all, free_all, look_at, get, sets, owns, types_at, plain, usize, nothing, heard, alive, Stays, stay_dropped, walk_of, ends_at, Goes-blank, proved_at}
use Rattle.std.proofs.Common.{drop as drop_l}
use mir.Syntax.{w64}
use Rattle.space_raw.specs.Ownership.{words_own}
use Rattle.space_raw.proofs.Rows.{cut}
use Rattle.space_raw.proofs.Walks.{says_two, none, two, none_told, two_owners}
use Rattle.space_raw.specs.contracts.words.Words.{the_row as R}
use Rattle.space_raw.specs.contracts.words.Words.split as f
use Rattle.space_raw.proofs.words.Words.split.Statement.{statement}
use Rattle.space_raw.proofs.words.Words.split.Code as code

abbrev stayed : Stays f.ended.signature.params f.ended.kept
stayed = (stay_dropped _ _, (stay_dropped _ _, tt))

pub split_spec : {M : Type 1} → statement M
split_spec 𝓤 𝓛 𝓜 𝓡 wired =
    let H = 𝓛.H in let c = f.clauses 𝓛 𝓜.mem 𝓡.returns in let 𝓣 = tables 𝓤 H 𝓜 𝓡 𝓡.env in
    proved_at 𝓛 f.ended stayed c 𝓜 𝓡 (Goes-blank 𝓛 0 (plain (λ _. R)) f.ended.kept.0 (λ κs x f. tt), (Goes-blank 𝓛 0 (plain (λ _. usize)) f.ended.kept.1.0 (λ κs x f. tt), tt))
    f.Key.name code.function (code.unfolded 𝓤 H 𝓜 𝓡 wired) (λ z are.
    let Post : Val → SProp 𝓤 = (walk_of 𝓛 f.ended stayed c).post z in
    let a = z.0.3 in let vss = z.0.4 in let s = a.0 in let n = a.1.0 in
    let left : R.Denot = record s { items = take n s.items } in
    let right : R.Denot = record { base = s.base; place = s.place + n; items = drop_l n s.items } in
    qed 𝓛 ((raw (alive 𝓛 f.ended.signature z.0.0 z.0.1) ⊛ ‵ (owns (types_at f.ended.signature.params z.0.0) a vss)) ∷ raw (fact 𝓤 (n ≤ length s.items)) ∷ []) ∵
    move ! (1 ∷ []) $ heard ! (n ≤ length s.items) (λ le. split ! $ move ! (1 ∷ []) $
    fsplit ! $ fsplit ! $ drop ! $ move ! (1 ∷ []) $ drop ! $
    -- [the words; the tokens]
    regoal ! (λ (us : List Val). prop (WpFn 𝓤 H 𝓣.C 𝓣.Λ code.function us Post)) (λ i. none_told vss.0 are.0.0 i ++ (are.1.0.0 i ++ [])) refl $
    enter ! 𝓣.C 𝓣.Λ code.function (none ∷ vint w64 n ∷ []) Post $ alloc_all ! (λ l. pass_all ! refl ((tt, tt), ((tt, record { fits = are.1.0.1 }), tt)) $
    sets ! (agg ! (no_more !)) refl (tt, tt) $ sets ! (agg ! (no_more !)) refl (tt, tt) $
    sets ! (agg ! (and_then ! (get ! refl) (and_then ! (get ! refl) (no_more !)))) refl (tt, (tt, (tt, tt))) $
    use1 𝓛 (‵ (words_own s.base s.place left.items) ⊛ ‵ (words_own s.base right.place right.items)) (cut 𝓛 s.base s.place n s.items le) $ split ! $
    two_owners ! R R left right (words_own s.base s.place left.items) (words_own s.base right.place right.items) refl refl $
    returns ! (look_at ! 0 refl) $ free_all ! refl $
    suffices ! _ (ends_at 𝓛 f.ended stayed c z (two none none) (left, right) (tt, (tt, tt)) (tt, (tt, tt))) $ says_two ! ((refl, refl, refl), (refl, refl, refl)) $
    nothing ! $ nothing ! $ fjoin ! $ nothing ! $ fjoin ! $ move ! (2 ∷ 0 ∷ 1 ∷ []) $ done !)))
