-- `make` makes the tokens. Assumes `Logic`.
use Rattle.space_raw.proofs.Steps.{List, [], ◌∷◌, ◌++◌, refl, Val, vint, SProp, ftrue, WpFn, tables, ‵, raw, ◌⊛◌, prop, ◌$◌, ◌∵◌, !, qed, move, drop, use1, split, fjoin, regoal, suffices, done, agg, enter, returns, no_more, alloc_all, pass_all, free_all, look_at, sets, owns, types_at, plain, usize, nothing, alive, Stays, stay_dropped, walk_of, ends_at, Goes-blank, proved_at, use0, some, later, await, pick, says, ℕ, sem}
use mir.Syntax.{w64}
use Rattle.space_raw.specs.Marks.{marked_own}
use Rattle.space_raw.proofs.Tokens.{handed}
use types.Keyed.{tickets_from, token, entries_new}
use types.Owned.{basic}
use base.Logic.{ex}
use Rattle.std.proofs.Common.{replicate}
use Rattle.std.specs.Prelude.{true}
use base.Logic.{via}
use Rattle.space_raw.proofs.Walks.{none, none_made}
use Rattle.space_raw.specs.contracts.places.Places.{the_row as R}
use Rattle.space_raw.specs.contracts.places.Places.make as f
use Rattle.space_raw.proofs.places.Places.make.Statement.{statement}
use Rattle.space_raw.proofs.places.Places.make.Code as code

abbrev stayed : Stays f.ended.signature.params f.ended.kept
stayed = (stay_dropped _ _, tt)

pub make_spec : {M : Type 1} → statement M
make_spec 𝓤 𝓛 𝓜 𝓡 wired =
    let H = 𝓛.H in let c = f.clauses 𝓛 𝓜.mem 𝓡.returns in let 𝓣 = tables 𝓤 H 𝓜 𝓡 𝓡.env in
    proved_at 𝓛 f.ended stayed c 𝓜 𝓡 (Goes-blank 𝓛 0 (plain (λ _. usize)) f.ended.kept.0 (λ κs x f. tt), tt)
    f.Key.name code.function (code.unfolded 𝓤 H 𝓜 𝓡 wired) (λ z are.
    let Post : Val → SProp 𝓤 = (walk_of 𝓛 f.ended stayed c).post z in
    let a = z.0.3 in let vss = z.0.4 in let n = a.0 in
    qed 𝓛 ((raw (alive 𝓛 f.ended.signature z.0.0 z.0.1) ⊛ ‵ (owns (types_at f.ended.signature.params z.0.0) a vss)) ∷ ‵ ftrue ∷ []) ∵
    split ! $ move ! (1 ∷ []) $ drop ! $ move ! (1 ∷ []) $ drop ! $
    regoal ! (λ (us : List Val). prop (WpFn 𝓤 H 𝓣.C 𝓣.Λ code.function us Post)) (λ i. are.0.0 i ++ []) refl $
    enter ! 𝓣.C 𝓣.Λ code.function (vint w64 n ∷ []) Post $ alloc_all ! (λ l. pass_all ! refl ((tt, record { fits = are.0.1 }), tt) $
    use0 𝓛 (later (some (λ (γ : ℕ). ‵ (tickets_from γ 0)))) (via 𝓤 _ (entries_new token 𝓛 0 (λ _. tt)) (basic 𝓛 (ex 𝓤 (λ (γ : ℕ). sem 𝓛 (tickets_from γ 0))))) $ await ! tt $ pick ! (λ γ.
    use1 𝓛 (‵ (marked_own γ 0 (replicate n true))) (handed 𝓛 γ n 0) $
    let all : R.Denot = record { name = γ; marks = replicate n true } in
    sets ! (agg ! (no_more !)) refl (tt, tt) $
    none_made ! $ fjoin ! $ returns ! (look_at ! 0 refl) $ free_all ! refl $
    suffices ! _ (ends_at 𝓛 f.ended stayed c z none all (tt, tt) (tt, tt)) $ says ! refl $
    nothing ! $ nothing ! $ fjoin ! $ move ! (2 ∷ 0 ∷ 1 ∷ []) $ done !)))
