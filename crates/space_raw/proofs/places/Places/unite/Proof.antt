-- `unite` puts two owners' tokens together. Assumes `Logic`.
use Rattle.space_raw.proofs.Steps.{◌≡◌, ℕ, List, [], ◌∷◌, ◌++◌, length, refl, Val, SProp, WpFn, fact, tables, ‵, raw, ◌⊛◌, prop, ◌$◌, ◌∵◌, !, qed, move, drop, use2, split, fsplit, fjoin, regoal, rewrite, suffices, done, agg, enter, returns, no_more, alloc_all, pass_all, free_all, look_at, sets, owns, types_at, plain, nothing, heard, alive, says, Stays, stay_dropped, walk_of, ends_at, Goes-blank, proved_at}
use Rattle.space_raw.specs.Marks.{marked_own, union}
use Rattle.space_raw.proofs.Marks.{length_union}
use Rattle.space_raw.proofs.Tokens.{united}
use Rattle.space_raw.proofs.Walks.{none, none_made, none_told}
use Rattle.space_raw.specs.contracts.places.Places.{the_row as R}
use Rattle.space_raw.specs.contracts.places.Places.unite as f
use Rattle.space_raw.proofs.places.Places.unite.Statement.{statement}
use Rattle.space_raw.proofs.places.Places.unite.Code as code

abbrev stayed : Stays f.ended.signature.params f.ended.kept
stayed = (stay_dropped _ _, (stay_dropped _ _, tt))

pub unite_spec : {M : Type 1} → statement M
unite_spec 𝓤 𝓛 𝓜 𝓡 wired =
    let H = 𝓛.H in let c = f.clauses 𝓛 𝓜.mem 𝓡.returns in let 𝓣 = tables 𝓤 H 𝓜 𝓡 𝓡.env in
    proved_at 𝓛 f.ended stayed c 𝓜 𝓡 (Goes-blank 𝓛 0 (plain (λ _. R)) f.ended.kept.0 (λ κs x f. tt), (Goes-blank 𝓛 0 (plain (λ _. R)) f.ended.kept.1.0 (λ κs x f. tt), tt))
    f.Key.name code.function (code.unfolded 𝓤 H 𝓜 𝓡 wired) (λ z are.
    let Post : Val → SProp 𝓤 = (walk_of 𝓛 f.ended stayed c).post z in
    let a = z.0.3 in let vss = z.0.4 in let s = a.0 in let t = a.1.0 in
    let Asked : Type 0 = (t.name ≡ s.name) × (length t.marks ≡ length s.marks) in
    let all : R.Denot = record s { marks = union s.marks t.marks } in
    qed 𝓛 ((raw (alive 𝓛 f.ended.signature z.0.0 z.0.1) ⊛ ‵ (owns (types_at f.ended.signature.params z.0.0) a vss)) ∷ raw (fact 𝓤 Asked) ∷ []) ∵
    move ! (1 ∷ []) $ heard ! Asked (λ asked. split ! $ move ! (1 ∷ []) $
    fsplit ! $ fsplit ! $ drop ! $ move ! (1 ∷ []) $ fsplit ! $ fsplit ! $ drop ! $ move ! (1 ∷ []) $ drop ! $
    -- [the second places; the first; the tokens]
    rewrite ! 0 (λ (γ : ℕ). ‵ (marked_own γ 0 t.marks)) asked.0 refl $ move ! (1 ∷ 0 ∷ []) $
    use2 𝓛 (‵ (marked_own s.name 0 all.marks)) (united 𝓛 s.name s.marks t.marks 0) $
    regoal ! (λ (us : List Val). prop (WpFn 𝓤 H 𝓣.C 𝓣.Λ code.function us Post)) (λ i. none_told vss.0 are.0.0 i ++ (none_told vss.1.0 are.1.0.0 i ++ [])) refl $
    enter ! 𝓣.C 𝓣.Λ code.function (none ∷ none ∷ []) Post $ alloc_all ! (λ l. pass_all ! refl ((tt, tt), ((tt, tt), tt)) $
    sets ! (agg ! (no_more !)) refl (tt, tt) $
    none_made ! $ fjoin ! $ returns ! (look_at ! 0 refl) $ free_all ! refl $
    suffices ! _ (ends_at 𝓛 f.ended stayed c z none all (tt, (tt, tt)) (tt, (tt, tt))) $ says ! (refl, refl, length_union s.marks t.marks asked.1) $
    nothing ! $ nothing ! $ fjoin ! $ nothing ! $ fjoin ! $ move ! (2 ∷ 0 ∷ 1 ∷ []) $ done !)))
