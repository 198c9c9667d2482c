-- The walk of `Metered::allocate`: the meter counts the request, which is refused or answered by the inner allocator. Assumes `Logic`.
use Rattle.std.proofs.Common.{◌≡◌, ℕ, Bool, false, [], ◌∷◌, refl, ap, ◌^◌, ◌<◌, w64, Bor}
use seplogic.Ra.Ura.{Ura}
use mir.Syntax.{Ty, Args, Fn, a_type, dnil, dcons}
use mir.MapTy.{inst_fn}
use base.Logic.{ent, id⊢}
use base.Fml.{Lft, Share, ftrue, flft}
use prog.Memory.{size, align, capped}
use prog.Model.{Model}
use prog.Wp.{WpFn}
use types.Logic.{Logic}
use types.Kit.{‵, raw, ◌⊛◌, some, later, given, at_ret, ◌$◌, ◌∵◌, !, qed, by, move, keep, drop, use1, use2, split, fsplit, pick, await, learn}
use types.Part.{agg}
use types.Run.{enter, stop, fld, addr, lit, no_more, and_then, first, branches, skips, exec, returns, returns_within}
use types.ByLocal.{alloc_all, pass_all, free_all, look_at, get, through, sets, lands_as, env}
use contract.BorrowLft.{◌⊑◌, ⊑_trans}
use contract.Monad.{fact}
use contract.Running.{Running, MachineTables, tables}
use denote.Param.{bounded}
use denote.Plain.{bool_vals, uint_vals}
use denote.RattleType.{owns}
use denote.Ref.{shr_vals}
use denote.Signature.{types_at}
use denote.Steps.{nothing, heard, only}
use denote.Triple.Call.{calls_at}
use denote.Triple.Statement.{Contract, Triple}
use denote.Triple.Table.{framed}
use Rattle.std.proofs.VecSteps.Shapes.{after}
use Rattle.std.proofs.raw_atomic.Walks.{proved}
use Rattle.std.proofs.alloc.Calls.{Al, seen, token, got, answer_val, Answer-typed, takes_key, Takes, at_takes, Takes-goes, Takes-gives, Answered}
use Rattle.test_doubles.proofs.Parameters.{Whole, inner_at, meter_at, meter_seen, self_opens}
use Rattle.test_doubles.proofs.MeterCalls.{Refuses, refuses_of, hands_refuses, answered}
use Rattle.test_doubles.proofs.AllocateContract.{ended, spends, stored, stored_so, all_go, promises, Walk, owes}
use Rattle.test_doubles.proofs.metered.Meter.refuses.Met as refuses
use Rattle.test_doubles.proofs.metered.Meter.refuses.Symbol as refuses_key
use Rattle.test_doubles.specs.contracts.metered.MeteredAllocator.allocate.Key as own_key
use Rattle.test_doubles.proofs.metered.MeteredAllocator.allocate.Statement.{statement}
use Rattle.test_doubles.proofs.metered.MeteredAllocator.allocate.Code as code

-- the types and the methods that stand for the function's parameter `B`
abbrev inner_of : Al → Args
inner_of Z = bounded (a_type ∷ []) (Z.row, tt) (dcons Z.d (dcons Z.drops dnil))

abbrev own_code : Al → Fn
own_code Z = inst_fn (inner_of Z) code.function

module _ (Z : Al) {M : Type 1} {𝓤 : Ura M} (𝓛 : Logic 𝓤) (𝓜 : Model 𝓤 𝓛.H) (𝓡 : Running 𝓤 𝓛.H 𝓜) where
  open 𝓛 use {H}

  abbrev 𝓣 : MachineTables 𝓤 H 𝓜
  𝓣 = tables 𝓤 H 𝓜 𝓡 𝓡.env

  abbrev Asks : Contract 𝓤
  Asks = Refuses 𝓛 𝓜.mem 𝓡.returns

  abbrev Allocates : Contract 𝓤
  Allocates = Takes Z 𝓛 𝓜.mem 𝓡.returns

  abbrev Own : Contract 𝓤
  Own = Walk Z 𝓛 𝓜.mem 𝓡.returns

  module _ (asks : Triple 𝓤 (𝓣.C refuses_key.name) Asks) (allocates : Triple 𝓤 (𝓣.C (takes_key Z)) Allocates)
      (ℓ ℓ' : Lft) (share share' : Share) (within : ℓ ⊑ ℓ') (self : Bor (Whole Z).Denot) (bytes alignment : ℕ) (ty : Ty) where
    -- the call that the walk is of
    abbrev call : Own.Ghost
    call = (((ℓ, (ℓ', tt)), (share, (share', tt)), (within, tt), (self, (bytes, (alignment, tt))), (shr_vals self, (uint_vals w64 bytes, (uint_vals w64 alignment, tt)))), ty)

    walk : bytes < 2 ^ 64 → alignment < 2 ^ 64 → ent 𝓤 (Own.pre call) (WpFn 𝓤 H 𝓣.C 𝓣.Λ (own_code Z) (Own.args call) (Own.post call))
    walk size_fits align_fits =
        let inner_place : ℕ × ℕ = inner_at Z self.ref_ptr in
        let meter_place : ℕ × ℕ = meter_at Z self.ref_ptr in
        let ask : Asks.Ghost = refuses_of 𝓛 𝓜.mem 𝓡.returns ℓ share meter_place self.now.meter in
        let allocate : Allocates.Ghost = at_takes Z 𝓛 𝓜.mem 𝓡.returns ℓ share inner_place self.now.inner bytes alignment ty in
        -- what a caller hands over: the tokens and the parameters; that the allocator lives, and the layout
        qed 𝓛 (((‵ (flft ℓ share) ⊛ ‵ (flft ℓ' share') ⊛ ‵ ftrue) ⊛ ‵ (owns (types_at (ended Z).signature.params (ℓ, (ℓ', tt))) call.0.3 call.0.4)) ∷
        (raw (fact 𝓤 (ℓ' ⊑ Z.row.lives)) ⊛ raw (fact 𝓤 ((capped (size ty) ≡ bytes) × (capped (align ty) ≡ alignment)))) ∷ []) ∵
        -- `&self` opens into its fields
        split ! $ move ! (1 ∷ []) $ fsplit ! $
        use1 𝓛 (‵ (meter_seen Z ℓ meter_place self.now.meter) ⊛ ‵ (seen Z ℓ inner_place self.now.inner)) (self_opens Z 𝓛 ℓ ℓ' self) $ split ! $
        -- [the meter; the inner allocator; the other parameters; the tokens; what is required]
        move ! (4 ∷ []) $ split ! $ heard ! (ℓ' ⊑ Z.row.lives) (λ lives. heard ! ((capped (size ty) ≡ bytes) × (capped (align ty) ≡ alignment)) (λ layout.
        move ! (3 ∷ []) $ split ! $ keep ! (2 ∷ 0 ∷ 3 ∷ 1 ∷ []) $
        -- [the meter; the token of its lifetime; the inner allocator; the other tokens]
        enter ! _ _ _ _ _ $ alloc_all ! (λ blocks. pass_all ! refl ((tt, tt), ((tt, record { fits = size_fits }), ((tt, record { fits = align_fits }), tt))) $
        -- self.meter.refuses()
        sets ! (addr ! (through ! refl (fld ! refl (stop !)))) refl (tt, tt) $
        use2 𝓛 (raw (Asks.pre ask)) (hands_refuses 𝓛 𝓜.mem 𝓡.returns ℓ share meter_place self.now.meter) $
        calls_at ! (framed 𝓤 H 𝓜 𝓣) Asks asks ask (and_then ! (get ! refl) (no_more !)) (λ told.
        use1 𝓛 (later (some (λ (yes : Bool). given (told ∷ [] ≡ bool_vals yes) (‵ (flft ℓ share))))) (answered 𝓛 𝓜.mem 𝓡.returns ℓ share meter_place self.now.meter told) $ await ! tt $
        pick ! (λ yes. learn ! (λ is_yes. lands_as ! (ap only is_yes) refl (tt, tt) $
        -- [the token; the inner allocator; the other tokens]
        first ! $ branches ! (get ! refl)
        -- return Err(AllocError)
        (λ _. sets ! (agg ! (no_more !)) refl (tt, tt) $ sets ! (agg ! (and_then ! (lit ! tt) (and_then ! (get ! refl) (no_more !)))) refl (Answer-typed false 0 0) $
        returns_within ! (Own.post call) refl (look_at ! 0 refl) $ free_all ! refl $
        move ! (1 ∷ []) $ drop ! $ nothing ! $ by ! (owes Z 𝓛 𝓜.mem 𝓡.returns call false 0 0))
        -- self.inner.allocate(size, align)
        (λ _. skips ! $ exec ! 𝓣.C 𝓣.Λ (env (own_code Z).locals blocks) (after 3 (own_code Z).body) (at_ret (env (own_code Z).locals blocks) (Own.post call)) $
        sets ! (addr ! (through ! refl (fld ! refl (stop !)))) refl (tt, tt) $ move ! (1 ∷ []) $
        use2 𝓛 (raw (Allocates.pre allocate)) (Takes-goes Z 𝓛 𝓜.mem 𝓡.returns ℓ share inner_place self.now.inner (⊑_trans ℓ ℓ' Z.row.lives within lives) bytes alignment ty layout.0 layout.1 size_fits align_fits) $
        calls_at ! (framed 𝓤 H 𝓜 𝓣) Allocates allocates allocate (and_then ! (get ! refl) (and_then ! (get ! refl) (and_then ! (get ! refl) (no_more !)))) (λ answer.
        use1 𝓛 (later (raw (Answered Z 𝓛 𝓜.mem 𝓡.returns self.now.inner ty answer) ⊛ ‵ (flft ℓ share))) (Takes-gives Z 𝓛 𝓜.mem 𝓡.returns ℓ share inner_place self.now.inner bytes alignment ty answer) $ await ! tt $ split ! $
        use1 𝓛 (some (λ (one : Bool × (ℕ × ℕ)). given (answer ≡ answer_val one.0 one.1.0 one.1.1) (‵ (got (token Z self.now.inner) ty one.0 one.1.0 one.1.1)))) (id⊢ 𝓤 _) $
        pick ! (λ one. learn ! (λ is_one. lands_as ! is_one refl (Answer-typed one.0 one.1.0 one.1.1) $
        -- whatever the answer, its block goes to the caller
        returns ! (look_at ! 0 refl) $ free_all ! refl $ by ! (owes Z 𝓛 𝓜.mem 𝓡.returns call one.0 one.1.0 one.1.1)))))))))))

pub allocate_spec : {M : Type 1} → statement M
allocate_spec 𝓤 𝓛 𝓜 𝓡 wired Y its_laws its_ghosts its_methods its_drop inner_meets _ =
    let Z : Al = record { row = Y; laws = its_laws; g = its_ghosts; d = its_methods; drops = its_drop } in
    proved 𝓛 (ended Z) (spends Z) (promises Z 𝓛 𝓜.mem 𝓡.returns) 𝓜 𝓡 (all_go Z 𝓛)
    (own_key.name (inner_of Z)) (own_code Z) (code.unfolded 𝓤 𝓛.H 𝓜 𝓡 wired (Y, tt) its_methods its_drop) (stored Z) (stored_so Z)
    (λ ℓs shares bounds passed ty fit.
    let sizes = passed.1 in let sizes_fit = fit.1 in
    walk Z 𝓛 𝓜 𝓡 (refuses.met 𝓤 𝓛 𝓜 𝓡 (code.calls-test_doubles::metered::Meter::refuses 𝓡.env wired)) (inner_meets.allocate its_drop)
    ℓs.0 ℓs.1.0 shares.0 shares.1.0 bounds.0 passed.0 sizes.0 sizes.1.0 ty sizes_fit.0.1 sizes_fit.1.0.1)
