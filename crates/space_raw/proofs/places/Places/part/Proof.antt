-- `part` parts the tokens. Assumes `Logic`.
use Rattle.space_raw.proofs.Steps.{List, [], ◌∷◌, ◌++◌, refl, Val, vint, SProp, ftrue, WpFn, tables, ‵, raw, ◌⊛◌, prop, ◌$◌, ◌∵◌, !, qed, move, drop, use1, split, fsplit, fjoin, regoal, suffices, done, agg, enter, returns, and_then, no_more, alloc_all, pass_all, free_all, look_at, get, sets, owns, types_at, plain, usize, nothing, alive, Stays, stay_dropped, walk_of, ends_at, Goes-blank, proved_at}
use mir.Syntax.{w64}
use Rattle.space_raw.specs.Marks.{marked_own, within, outside}
use Rattle.space_raw.proofs.Marks.{length_within, length_outside}
use Rattle.space_raw.proofs.Tokens.{parted}
use Rattle.space_raw.proofs.Walks.{says_two, none, two, none_told, two_owners}
use Rattle.space_raw.specs.contracts.places.Places.{the_row as R}
use Rattle.space_raw.specs.contracts.places.Places.part as f
use Rattle.space_raw.proofs.places.Places.part.Statement.{statement}
use Rattle.space_raw.proofs.places.Places.part.Code as code

abbrev stayed : Stays f.ended.signature.params f.ended.kept
stayed = (stay_dropped _ _, (stay_dropped _ _, (stay_dropped _ _, tt)))

pub part_spec : {M : Type 1} → statement M
part_spec 𝓤 𝓛 𝓜 𝓡 wired =
    let H = 𝓛.H in let c = f.clauses 𝓛 𝓜.mem 𝓡.returns in let 𝓣 = tables 𝓤 H 𝓜 𝓡 𝓡.env in
    proved_at 𝓛 f.ended stayed c 𝓜 𝓡 (Goes-blank 𝓛 0 (plain (λ _. R)) f.ended.kept.0 (λ κs x f. tt), (Goes-blank 𝓛 0 (plain (λ _. usize)) f.ended.kept.1.0 (λ κs x f. tt), (Goes-blank 𝓛 0 (plain (λ _. usize)) f.ended.kept.1.1.0 (λ κs x f. tt), tt)))
    f.Key.name code.function (code.unfolded 𝓤 H 𝓜 𝓡 wired) (λ z are.
    let Post : Val → SProp 𝓤 = (walk_of 𝓛 f.ended stayed c).post z in
    let a = z.0.3 in let vss = z.0.4 in let s = a.0 in let place = a.1.0 in let n = a.1.1.0 in
    let inner : R.Denot = record s { marks = within place n s.marks } in
    let outer : R.Denot = record s { marks = outside place n s.marks } in
    qed 𝓛 ((raw (alive 𝓛 f.ended.signature z.0.0 z.0.1) ⊛ ‵ (owns (types_at f.ended.signature.params z.0.0) a vss)) ∷ ‵ ftrue ∷ []) ∵
    split ! $ move ! (1 ∷ []) $
    fsplit ! $ fsplit ! $ drop ! $ move ! (1 ∷ []) $ drop ! $ move ! (2 ∷ []) $ drop ! $
    -- [the places; the tokens]
    regoal ! (λ (us : List Val). prop (WpFn 𝓤 H 𝓣.C 𝓣.Λ code.function us Post)) (λ i. none_told vss.0 are.0.0 i ++ (are.1.0.0 i ++ (are.1.1.0.0 i ++ []))) refl $
    enter ! 𝓣.C 𝓣.Λ code.function (none ∷ vint w64 place ∷ vint w64 n ∷ []) Post $
    alloc_all ! (λ l. pass_all ! refl ((tt, tt), ((tt, record { fits = are.1.0.1 }), ((tt, record { fits = are.1.1.0.1 }), tt))) $
    sets ! (agg ! (no_more !)) refl (tt, tt) $ sets ! (agg ! (no_more !)) refl (tt, tt) $
    sets ! (agg ! (and_then ! (get ! refl) (and_then ! (get ! refl) (no_more !)))) refl (tt, (tt, (tt, tt))) $
    use1 𝓛 (‵ (marked_own s.name 0 inner.marks) ⊛ ‵ (marked_own s.name 0 outer.marks)) (parted 𝓛 s.name s.marks place n 0) $ split ! $
    two_owners ! R R inner outer (marked_own s.name 0 inner.marks) (marked_own s.name 0 outer.marks) refl refl $
    returns ! (look_at ! 0 refl) $ free_all ! refl $
    suffices ! _ (ends_at 𝓛 f.ended stayed c z (two none none) (inner, outer) (tt, (tt, (tt, tt))) (tt, (tt, (tt, tt)))) $ says_two ! ((refl, refl, length_within place n s.marks), (refl, refl, length_outside place n s.marks)) $
    nothing ! $ nothing ! $ fjoin ! $ nothing ! $ fjoin ! $ nothing ! $ fjoin ! $ move ! (2 ∷ 0 ∷ 1 ∷ []) $ done !))
