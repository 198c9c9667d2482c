-- `carve` hands out a run of the loose words. Assumes `Logic`.
use Rattle.space_raw.proofs.Steps.{never, id⊢, Ptr, block_ptr, in_a_block, rewrite, sym, List, [], ◌∷◌, ◌++◌, refl, Val, vint, SProp, WpFn, fact, tables, ‵, raw, ◌⊛◌, prop, ◌$◌, ◌∵◌, !, qed, move, drop, use1, split, fsplit, fjoin, regoal, suffices, done, agg, enter, returns, and_then, no_more, alloc_all, pass_all, free_all, look_at, get, sets, owns, types_at, plain, usize, nothing, heard, alive, Stays, stay_dropped, walk_of, ends_at, Goes-blank, proved_at}
use mir.Syntax.{w64}
use Rattle.space_raw.specs.Ownership.{words_own}
use Rattle.space_raw.specs.Loose.{loose_owns}
use Rattle.space_raw.specs.Slots.{run_of, without, IsRun}
use Rattle.space_raw.proofs.Runs.{leaves_run}
use Rattle.space_raw.proofs.Walks.{says_two, none, two, none_told, two_owners}
use Rattle.space_raw.specs.contracts.loose.Loose.{the_row as Lo}
use Rattle.space_raw.specs.contracts.words.Words.{the_row as R}
use Rattle.space_raw.specs.contracts.loose.Loose.carve as f
use Rattle.space_raw.proofs.loose.Loose.carve.Statement.{statement}
use Rattle.space_raw.proofs.loose.Loose.carve.Code as code

abbrev stayed : Stays f.ended.signature.params f.ended.kept
stayed = (stay_dropped _ _, (stay_dropped _ _, (stay_dropped _ _, tt)))

pub carve_spec : {M : Type 1} → statement M
carve_spec 𝓤 𝓛 𝓜 𝓡 wired =
    let H = 𝓛.H in let c = f.clauses 𝓛 𝓜.mem 𝓡.returns in let 𝓣 = tables 𝓤 H 𝓜 𝓡 𝓡.env in
    proved_at 𝓛 f.ended stayed c 𝓜 𝓡 (Goes-blank 𝓛 0 (plain (λ _. Lo)) f.ended.kept.0 (λ κs x f. tt), (Goes-blank 𝓛 0 (plain (λ _. usize)) f.ended.kept.1.0 (λ κs x f. tt), (Goes-blank 𝓛 0 (plain (λ _. usize)) f.ended.kept.1.1.0 (λ κs x f. tt), tt)))
    f.Key.name code.function (code.unfolded 𝓤 H 𝓜 𝓡 wired) (λ z are.
    let Post : Val → SProp 𝓤 = (walk_of 𝓛 f.ended stayed c).post z in
    let a = z.0.3 in let vss = z.0.4 in let s = a.0 in let place = a.1.0 in let n = a.1.1.0 in let run = run_of s.slots place n in
    let words : R.Denot = record { base = s.base; place = place; items = run } in
    let left = without s.slots place n in
    let loose : Lo.Denot = record { base = s.base; slots = left } in
    let Asked = IsRun s.slots place n in
    qed 𝓛 ((raw (alive 𝓛 f.ended.signature z.0.0 z.0.1) ⊛ ‵ (owns (types_at f.ended.signature.params z.0.0) a vss)) ∷ raw (fact 𝓤 Asked) ∷ []) ∵
    move ! (1 ∷ []) $ heard ! Asked (λ asked. split ! $ move ! (1 ∷ []) $
    fsplit ! $ fsplit ! $ drop ! $ move ! (1 ∷ []) $ drop ! $
    regoal ! (λ (us : List Val). prop (WpFn 𝓤 H 𝓣.C 𝓣.Λ code.function us Post)) (λ i. none_told vss.0 are.0.0 i ++ (are.1.0.0 i ++ (are.1.1.0.0 i ++ []))) refl $
    enter ! 𝓣.C 𝓣.Λ code.function (none ∷ vint w64 place ∷ vint w64 n ∷ []) Post $
    alloc_all ! (λ l. pass_all ! refl ((tt, tt), ((tt, record { fits = are.1.0.1 }), ((tt, record { fits = are.1.1.0.1 }), tt))) $
    sets ! (agg ! (no_more !)) refl (tt, tt) $ sets ! (agg ! (no_more !)) refl (tt, tt) $
    sets ! (agg ! (and_then ! (get ! refl) (and_then ! (get ! refl) (no_more !)))) refl (tt, (tt, (tt, tt))) $
    -- [the loose words; the tokens; the locals]
    in_a_block ! s.base (λ p. loose_owns p s.slots) (id⊢ 𝓤 (never 𝓤)) (λ b o e.
    use1 𝓛 (‵ (words_own (block_ptr b o) place run) ⊛ ‵ (loose_owns (block_ptr b o) left)) (leaves_run 𝓛 b o s.slots place n asked.1 run asked.0) $ split ! $
    rewrite ! 0 (λ (p : Ptr). ‵ (words_own p place run)) (sym e) refl $ rewrite ! 1 (λ (p : Ptr). ‵ (loose_owns p left)) (sym e) refl $
    two_owners ! R Lo words loose (words_own s.base place run) (loose_owns s.base left) refl refl $
    returns ! (look_at ! 0 refl) $ free_all ! refl $
    suffices ! _ (ends_at 𝓛 f.ended stayed c z (two none none) (words, loose) (tt, (tt, (tt, tt))) (tt, (tt, (tt, tt)))) $ says_two ! ((refl, refl, refl), (refl, refl)) $
    nothing ! $ nothing ! $ fjoin ! $ nothing ! $ fjoin ! $ nothing ! $ fjoin ! $ move ! (2 ∷ 0 ∷ 1 ∷ []) $ done !))))
