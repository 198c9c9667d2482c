-- `apart` shows that no place is in both. Assumes `Logic`.
use Rattle.space_raw.proofs.Steps.{List, [], ◌∷◌, ◌++◌, refl, sym, Val, SProp, WpFn, fact, tables, ‵, raw, ◌⊛◌, prop, ◌$◌, ◌∵◌, !, qed, move, drop, split, fsplit, fjoin, regoal, suffices, done, agg, enter, returns, and_then, no_more, alloc_all, pass_all, free_all, look_at, get, sets, owns, types_at, plain, nothing, heard, alive, Stays, stay_dropped, walk_of, ends_at, Goes-blank, proved_at, ℕ, ◌≡◌, rewrite}
use Rattle.space_raw.specs.Marks.{marked_own, Disjoint}
use Rattle.space_raw.proofs.Tokens.{tells_two}
use Rattle.space_raw.proofs.Walks.{says_two, none, two, none_told, learns, two_owners}
use Rattle.space_raw.specs.contracts.places.Places.{the_row as R}
use Rattle.space_raw.specs.contracts.places.Places.apart as f
use Rattle.space_raw.proofs.places.Places.apart.Statement.{statement}
use Rattle.space_raw.proofs.places.Places.apart.Code as code

abbrev stayed : Stays f.ended.signature.params f.ended.kept
stayed = (stay_dropped _ _, (stay_dropped _ _, tt))

pub apart_spec : {M : Type 1} → statement M
apart_spec 𝓤 𝓛 𝓜 𝓡 wired =
    let H = 𝓛.H in let c = f.clauses 𝓛 𝓜.mem 𝓡.returns in let 𝓣 = tables 𝓤 H 𝓜 𝓡 𝓡.env in
    proved_at 𝓛 f.ended stayed c 𝓜 𝓡 (Goes-blank 𝓛 0 (plain (λ _. R)) f.ended.kept.0 (λ κs x f. tt), (Goes-blank 𝓛 0 (plain (λ _. R)) f.ended.kept.1.0 (λ κs x f. tt), tt))
    f.Key.name code.function (code.unfolded 𝓤 H 𝓜 𝓡 wired) (λ z are.
    let Post : Val → SProp 𝓤 = (walk_of 𝓛 f.ended stayed c).post z in
    let a = z.0.3 in let vss = z.0.4 in let s = a.0 in let t = a.1.0 in
    let Asked : Type 0 = t.name ≡ s.name in
    qed 𝓛 ((raw (alive 𝓛 f.ended.signature z.0.0 z.0.1) ⊛ ‵ (owns (types_at f.ended.signature.params z.0.0) a vss)) ∷ raw (fact 𝓤 Asked) ∷ []) ∵
    move ! (1 ∷ []) $ heard ! Asked (λ asked. split ! $ move ! (1 ∷ []) $
    fsplit ! $ fsplit ! $ drop ! $ move ! (1 ∷ []) $ fsplit ! $ fsplit ! $ drop ! $ move ! (1 ∷ []) $ drop ! $ move ! (1 ∷ 0 ∷ []) $
    -- [the first places; the second; the tokens]
    rewrite ! 0 (λ (γ : ℕ). ‵ (marked_own γ 0 s.marks)) (sym asked) refl $
    learns ! 2 (Disjoint s.marks t.marks) (tells_two 𝓛 t.name s.marks t.marks) (λ told.
    rewrite ! 0 (λ (γ : ℕ). ‵ (marked_own γ 0 s.marks)) asked refl $
    regoal ! (λ (us : List Val). prop (WpFn 𝓤 H 𝓣.C 𝓣.Λ code.function us Post)) (λ i. none_told vss.0 are.0.0 i ++ (none_told vss.1.0 are.1.0.0 i ++ [])) refl $
    enter ! 𝓣.C 𝓣.Λ code.function (none ∷ none ∷ []) Post $ alloc_all ! (λ l. pass_all ! refl ((tt, tt), ((tt, tt), tt)) $
    sets ! (agg ! (no_more !)) refl (tt, tt) $ sets ! (agg ! (no_more !)) refl (tt, tt) $
    sets ! (agg ! (and_then ! (get ! refl) (and_then ! (get ! refl) (no_more !)))) refl (tt, (tt, (tt, tt))) $
    two_owners ! R R s t (marked_own s.name 0 s.marks) (marked_own t.name 0 t.marks) refl refl $
    returns ! (look_at ! 0 refl) $ free_all ! refl $
    suffices ! _ (ends_at 𝓛 f.ended stayed c z (two none none) (s, t) (tt, (tt, tt)) (tt, (tt, tt))) $ says_two ! ((refl, refl), told) $
    nothing ! $ nothing ! $ fjoin ! $ nothing ! $ fjoin ! $ move ! (2 ∷ 0 ∷ 1 ∷ []) $ done !))))
