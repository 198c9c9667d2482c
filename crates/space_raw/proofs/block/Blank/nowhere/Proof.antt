-- `nowhere` owns the room of no words. Assumes `Logic`.
use Rattle.space_raw.proofs.Steps.{use0, ftrue, block_ptr, [], ◌∷◌, refl, Val, SProp, tables, ‵, raw, ◌⊛◌, ◌$◌, ◌∵◌, !, qed, move, drop, split, fjoin, suffices, done, agg, enter, returns, no_more, alloc_all, pass_all, free_all, look_at, sets, owns, types_at, nothing, alive, says, Stays, walk_of, ends_at, proved_at}
use Rattle.space_raw.specs.Ownership.{blank_owns}
use Rattle.space_raw.proofs.Rows.{no_room}
use Rattle.space_raw.proofs.Walks.{none, none_made}
use Rattle.space_raw.specs.contracts.block.Blank.{the_row as Bl}
use Rattle.space_raw.specs.contracts.block.Blank.nowhere as f
use Rattle.space_raw.proofs.block.Blank.nowhere.Statement.{statement}
use Rattle.space_raw.proofs.block.Blank.nowhere.Code as code

abbrev stayed : Stays f.ended.signature.params f.ended.kept
stayed = tt

pub nowhere_spec : {M : Type 1} → statement M
nowhere_spec 𝓤 𝓛 𝓜 𝓡 wired =
    let H = 𝓛.H in let c = f.clauses 𝓛 𝓜.mem 𝓡.returns in let 𝓣 = tables 𝓤 H 𝓜 𝓡 𝓡.env in
    proved_at 𝓛 f.ended stayed c 𝓜 𝓡 tt
    f.Key.name code.function (code.unfolded 𝓤 H 𝓜 𝓡 wired) (λ z are.
    let Post : Val → SProp 𝓤 = (walk_of 𝓛 f.ended stayed c).post z in
    let blank : Bl.Denot = record { base = block_ptr 0 0; place = 0; len = 0 } in
    qed 𝓛 ((raw (alive 𝓛 f.ended.signature z.0.0 z.0.1) ⊛ ‵ (owns (types_at f.ended.signature.params z.0.0) z.0.3 z.0.4)) ∷ ‵ ftrue ∷ []) ∵
    split ! $ move ! (1 ∷ []) $ drop ! $ move ! (1 ∷ []) $ drop ! $
    enter ! 𝓣.C 𝓣.Λ code.function [] Post $ alloc_all ! (λ l. pass_all ! refl tt $
    sets ! (agg ! (no_more !)) refl (tt, tt) $
    use0 𝓛 (‵ (blank_owns (block_ptr 0 0) 0 0)) (no_room 𝓛 0 0 0) $ none_made ! $ fjoin ! $ returns ! (look_at ! 0 refl) $ free_all ! refl $
    suffices ! _ (ends_at 𝓛 f.ended stayed c z none blank tt tt) $ says ! refl $
    nothing ! $ move ! (2 ∷ 0 ∷ 1 ∷ []) $ done !))
