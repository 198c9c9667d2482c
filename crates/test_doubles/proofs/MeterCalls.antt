-- The meter's two calls: what each is handed, a `&` to the meter and the token of its lifetime, and what a caller has afterwards.
-- Assumes `Logic`.
use Rattle.std.proofs.Common.{◌≡◌, ℕ, Bool, [], ◌∷◌, refl, ap}
use seplogic.Ra.Ura.{Ura}
use mir.Val.{Val, vunit, vptr}
use base.Logic.{SProp, ent, sep, ex, guard, id⊢}
use base.Fml.{Fml, Lft, Share, ftrue, fsep, flft}
use prog.Memory.{Memory}
use prog.Routine.{Routine}
use types.Logic.{Logic, sem}
use contract.Monad.{Fun}
use types.Kit.{Item, ‵, raw, ◌⊛◌, some, later, ◌$◌, ◌∵◌, !, qed, move, drop, use1, split, join, pick, fjoin, feq_i, feq_l, show, check, await, updating, now as at_once, done}
use denote.Memory.{hidden_shr}
use denote.Builtin.{bool, unit}
use denote.Plain.{bool_vals}
use denote.Steps.{nothing, only}
use denote.Triple.Statement.{Contract}
use denote.Triple.Spec.{triple_of}
use Rattle.test_doubles.specs.contracts.metered.Meter as meter
use Rattle.test_doubles.specs.contracts.metered.Meter.refuses as refuses
use Rattle.test_doubles.specs.contracts.metered.Meter.takes_back as takes_back

module _ {M : Type 1} {𝓤 : Ura M} (𝓛 : Logic 𝓤) (in_memory : Memory → SProp 𝓤) (runs : Routine → Fun 𝓤) where
  open 𝓛 use {H, A}

  abbrev pub Refuses : Contract 𝓤
  Refuses = triple_of 𝓛 refuses.signature (refuses.spec 𝓛 in_memory runs)

  abbrev pub TakesBack : Contract 𝓤
  TakesBack = triple_of 𝓛 takes_back.signature (takes_back.spec 𝓛 in_memory runs)

  module _ (ℓ : Lft) (share : Share) (place : ℕ × ℕ) (m : meter.the_row.Denot) where
    -- what the caller picks: for both calls the same
    abbrev pub refuses_of : Refuses.Ghost
    refuses_of = (((ℓ, tt), (share, tt), tt, (record { now = m; ref_ptr = place }, tt), (vptr place.0 place.1 ∷ [], tt)), tt)

    abbrev pub takes_back_of : TakesBack.Ghost
    takes_back_of = refuses_of

    abbrev Handed : SProp 𝓤
    Handed = sep 𝓤 (sem 𝓛 (hidden_shr meter.the_row ℓ m place.0 place.1)) (A.lft ℓ share)

    pub hands_refuses : ent 𝓤 Handed (Refuses.pre refuses_of)
    hands_refuses = qed 𝓛 (‵ (hidden_shr meter.the_row ℓ m place.0 place.1) ∷ ‵ (flft ℓ share) ∷ []) ∵
        -- the one token
        nothing ! $ move ! (2 ∷ 0 ∷ []) $ join ! $
        -- the one argument: its address, and what lies there
        nothing ! $ move ! (2 ∷ []) $ feq_i ! _ (vptr place.0 place.1 ∷ []) _ refl $ fjoin ! $ fjoin ! $
        -- and no requirement
        move ! (1 ∷ 0 ∷ []) $ join ! $ nothing ! $ move ! (1 ∷ []) $ done !

    pub hands_takes_back : ent 𝓤 Handed (TakesBack.pre takes_back_of)
    hands_takes_back = hands_refuses

    -- what comes back of either: the token, what the result owns, and nothing of the argument
    abbrev Back : Fml → Item 𝓤
    Back result = ((‵ (flft ℓ share) ⊛ ‵ ftrue) ⊛ ‵ result) ⊛ some (λ (_ : Unit {0} × Unit {0}). ‵ (fsep ftrue ftrue) ⊛ ‵ ftrue)

    -- `refuses` answers yes or no
    pub answered : (v : Val) → ent 𝓤 (Refuses.post refuses_of v) (H.⇛ (ex 𝓤 (λ (yes : Bool). guard 𝓤 (v ∷ [] ≡ bool_vals yes) (A.lft ℓ share))))
    answered v = qed 𝓛 (raw (Refuses.post refuses_of v) ∷ []) ∵ updating ! $
        use1 𝓛 (later (some (λ (yes : Bool). Back (bool.own_val yes (v ∷ []))))) (id⊢ 𝓤 _) $ await ! tt $ pick ! (λ yes.
        split ! $ move ! (1 ∷ []) $ drop ! $ split ! $ move ! (1 ∷ []) $ feq_l ! (λ is_yes. split ! $ move ! (1 ∷ []) $ drop ! $
        at_once ! $ show ! (λ (b : Bool). guard 𝓤 (v ∷ [] ≡ bool_vals b) (A.lft ℓ share)) yes $ check ! is_yes $ done !))

    -- `takes_back` answers nothing
    pub counted : (v : Val) → ent 𝓤 (TakesBack.post takes_back_of v) (H.⇛ (guard 𝓤 (v ≡ vunit) (A.lft ℓ share)))
    counted v = qed 𝓛 (raw (TakesBack.post takes_back_of v) ∷ []) ∵ updating ! $
        use1 𝓛 (later (some (λ (none : Unit {0}). Back (unit.own_val none (v ∷ []))))) (id⊢ 𝓤 _) $ await ! tt $ pick ! (λ none.
        split ! $ move ! (1 ∷ []) $ drop ! $ split ! $ move ! (1 ∷ []) $ feq_l ! (λ is_unit. split ! $ move ! (1 ∷ []) $ drop ! $
        at_once ! $ check ! (ap only is_unit) $ done !))
