-- The walk of `Metered::deallocate`: the meter counts the block, and the inner allocator takes it back. Assumes `Logic`.
use Rattle.std.proofs.Common.{◌≡◌, ℕ, List, [], ◌∷◌, refl, ◌^◌, ◌<◌, w64, Bor}
use seplogic.Ra.Ura.{Ura}
use mir.Syntax.{Ty, Args, a_type, dnil, dcons}
use mir.MapTy.{inst_fn}
use mir.Val.{vunit}
use base.Logic.{ent, never_e}
use base.Fml.{Fml, Lft, Share, ftrue, fsep, flft, ffalse, froom}
use prog.Memory.{size, align, capped}
use prog.Model.{Model}
use prog.Wp.{WpFn}
use types.Logic.{Logic}
use types.Kit.{Item, ‵, raw, ◌⊛◌, later, given, ◌$◌, ◌∵◌, !, qed, by, move, keep, drop, use1, use2, use3, split, split3, join, fsplit, await, learn}
use types.Run.{enter, stop, fld, addr, no_more, and_then, of_opd, unit_lit, returns}
use types.ByLocal.{alloc_all, pass_all, free_all, look_at, get, through, sets, lands_as}
use contract.BorrowLft.{◌⊑◌, ⊑_trans}
use contract.Monad.{fact}
use contract.Running.{Running, MachineTables, tables}
use denote.Param.{bounded}
use denote.Plain.{uint_vals}
use denote.RawPtr.{Ptr, block_ptr, null_ptr, rawptr_vals}
use denote.RattleType.{owns}
use denote.Ref.{shr_vals}
use denote.Signature.{types_at}
use denote.Steps.{heard}
use denote.Triple.Call.{calls_at}
use denote.Triple.Statement.{Contract, Triple}
use denote.Triple.Table.{framed}
use Rattle.std.proofs.raw_atomic.Walks.{proved}
use Rattle.std.proofs.alloc.Calls.{Al, seen, token, gives_key, Gives, at_gives, Gives-goes, Gives-Gives}
use Rattle.test_doubles.proofs.Parameters.{Whole, inner_at, meter_at, meter_seen, self_opens}
use Rattle.test_doubles.proofs.MeterCalls.{TakesBack, takes_back_of, hands_takes_back, counted}
use Rattle.test_doubles.proofs.DeallocateContract.{ended, spends, stored, stored_so, all_go, promises, Walk, owes}
use Rattle.test_doubles.proofs.metered.Meter.takes_back.Met as takes_back
use Rattle.test_doubles.proofs.metered.Meter.takes_back.Symbol as takes_back_key
use Rattle.test_doubles.specs.contracts.metered.MeteredAllocator.deallocate.Key as own_key
use Rattle.test_doubles.proofs.metered.MeteredAllocator.deallocate.Statement.{statement}
use Rattle.test_doubles.proofs.metered.MeteredAllocator.deallocate.Code as code

-- the types and the methods that stand for the function's parameter `B`
abbrev inner_of : Al → Args
inner_of Z = bounded (a_type ∷ []) (Z.row, tt) (dcons Z.d (dcons Z.drops dnil))

module _ (Z : Al) {M : Type 1} {𝓤 : Ura M} (𝓛 : Logic 𝓤) (𝓜 : Model 𝓤 𝓛.H) (𝓡 : Running 𝓤 𝓛.H 𝓜) where
  open 𝓛 use {H}

  abbrev 𝓣 : MachineTables 𝓤 H 𝓜
  𝓣 = tables 𝓤 H 𝓜 𝓡 𝓡.env

  abbrev Counts : Contract 𝓤
  Counts = TakesBack 𝓛 𝓜.mem 𝓡.returns

  abbrev Frees : Contract 𝓤
  Frees = Gives Z 𝓛 𝓜.mem 𝓡.returns

  abbrev Own : Contract 𝓤
  Own = Walk Z 𝓛 𝓜.mem 𝓡.returns

  module _ (counts : Triple 𝓤 (𝓣.C takes_back_key.name) Counts) (frees : Triple 𝓤 (𝓣.C (gives_key Z)) Frees)
      (ℓ ℓ' : Lft) (share share' : Share) (within : ℓ ⊑ ℓ') (self : Bor (Whole Z).Denot) (bytes alignment : ℕ) (ty : Ty) where
    -- the call that the walk is of, with this pointer
    abbrev call : Ptr → Own.Ghost
    call ptr = (
      (
        (ℓ, (ℓ', tt)),
        (share, (share', tt)),
        (within, tt),
        (self, (ptr, (bytes, (alignment, tt)))),
        (shr_vals self, (rawptr_vals ptr, (uint_vals w64 bytes, (uint_vals w64 alignment, tt)))),
      ),
      ty,
    )

    -- what a caller hands over: the tokens and the parameters; that the allocator lives, the layout, and the block
    abbrev handed : Ptr → Fml → List (Item 𝓤)
    handed ptr block =
        ((‵ (flft ℓ share) ⊛ ‵ (flft ℓ' share') ⊛ ‵ ftrue) ⊛ ‵ (owns (types_at (ended Z).signature.params (ℓ, (ℓ', tt))) (call ptr).0.3 (call ptr).0.4)) ∷
        (raw (fact 𝓤 (ℓ' ⊑ Z.row.lives)) ⊛ raw (fact 𝓤 ((capped (size ty) ≡ bytes) × (capped (align ty) ≡ alignment))) ⊛ ‵ block) ∷ []

    walk : bytes < 2 ^ 64 → alignment < 2 ^ 64 → (ptr : Ptr) → ent 𝓤 (Own.pre (call ptr)) (WpFn 𝓤 H 𝓣.C 𝓣.Λ (inst_fn (inner_of Z) code.function) (Own.args (call ptr)) (Own.post (call ptr)))
    -- no block lies at null
    walk _ _ null_ptr = qed 𝓛 (handed null_ptr (fsep ffalse (token Z self.now.inner ty null_ptr))) ∵
        drop ! $ split3 ! $ drop ! $ drop ! $ fsplit ! $ move ! (1 ∷ []) $ drop ! $ by ! (never_e 𝓤 _)
    walk size_fits align_fits (block_ptr base offset) =
        let inner_place : ℕ × ℕ = inner_at Z self.ref_ptr in
        let meter_place : ℕ × ℕ = meter_at Z self.ref_ptr in
        let count : Counts.Ghost = takes_back_of 𝓛 𝓜.mem 𝓡.returns ℓ share meter_place self.now.meter in
        let free : Frees.Ghost = at_gives Z 𝓛 𝓜.mem 𝓡.returns ℓ share inner_place self.now.inner base offset bytes alignment ty in
        qed 𝓛 (handed (block_ptr base offset) (fsep (froom ty base offset) (token Z self.now.inner ty (block_ptr base offset)))) ∵
        -- `&self` opens into its fields
        split ! $ move ! (1 ∷ []) $ fsplit ! $
        use1 𝓛 (‵ (meter_seen Z ℓ meter_place self.now.meter) ⊛ ‵ (seen Z ℓ inner_place self.now.inner)) (self_opens Z 𝓛 ℓ ℓ' self) $ split ! $
        -- [the meter; the inner allocator; the other parameters; the tokens; what is required]
        move ! (4 ∷ []) $ split3 ! $ heard ! (ℓ' ⊑ Z.row.lives) (λ lives. heard ! ((capped (size ty) ≡ bytes) × (capped (align ty) ≡ alignment)) (λ layout.
        move ! (4 ∷ []) $ split ! $ keep ! (3 ∷ 0 ∷ 2 ∷ 4 ∷ 1 ∷ []) $
        -- [the meter; the token of its lifetime; the block; the inner allocator; the other tokens]
        enter ! _ _ _ _ _ $ alloc_all ! (λ _. pass_all ! refl ((tt, tt), ((tt, tt), ((tt, record { fits = size_fits }), ((tt, record { fits = align_fits }), tt)))) $
        -- self.meter.takes_back()
        sets ! (addr ! (through ! refl (fld ! refl (stop !)))) refl (tt, tt) $
        use2 𝓛 (raw (Counts.pre count)) (hands_takes_back 𝓛 𝓜.mem 𝓡.returns ℓ share meter_place self.now.meter) $
        calls_at ! (framed 𝓤 H 𝓜 𝓣) Counts counts count (and_then ! (get ! refl) (no_more !)) (λ none.
        use1 𝓛 (later (given (none ≡ vunit) (‵ (flft ℓ share)))) (counted 𝓛 𝓜.mem 𝓡.returns ℓ share meter_place self.now.meter none) $ await ! tt $
        learn ! (λ is_unit. lands_as ! is_unit refl (tt, tt) $
        -- self.inner.deallocate(ptr, size, align)
        sets ! (addr ! (through ! refl (fld ! refl (stop !)))) refl (tt, tt) $
        move ! (2 ∷ 0 ∷ []) $ join ! $ move ! (1 ∷ []) $ fsplit ! $
        use3 𝓛 (raw (Frees.pre free)) (Gives-goes Z 𝓛 𝓜.mem 𝓡.returns ℓ share inner_place self.now.inner (⊑_trans ℓ ℓ' Z.row.lives within lives) base offset bytes alignment ty layout.0 layout.1 size_fits align_fits) $
        calls_at ! (framed 𝓤 H 𝓜 𝓣) Frees frees free (and_then ! (get ! refl) (and_then ! (get ! refl) (and_then ! (get ! refl) (and_then ! (get ! refl) (no_more !))))) (λ none'.
        use1 𝓛 (later (given (none' ≡ vunit) (‵ (flft ℓ share)))) (Gives-Gives Z 𝓛 𝓜.mem 𝓡.returns ℓ share inner_place self.now.inner base offset bytes alignment ty none') $ await ! tt $
        learn ! (λ is_unit'. lands_as ! is_unit' refl (tt, tt) $
        -- the return
        sets ! (of_opd ! (unit_lit !)) refl (tt, tt) $ returns ! (look_at ! 0 refl) $ free_all ! refl $
        by ! (owes Z 𝓛 𝓜.mem 𝓡.returns (call (block_ptr base offset))))))))))

pub deallocate_spec : {M : Type 1} → statement M
deallocate_spec 𝓤 𝓛 𝓜 𝓡 wired Y its_laws its_ghosts its_methods its_drop inner_meets _ =
    let Z : Al = record { row = Y; laws = its_laws; g = its_ghosts; d = its_methods; drops = its_drop } in
    proved 𝓛 (ended Z) (spends Z) (promises Z 𝓛 𝓜.mem 𝓡.returns) 𝓜 𝓡 (all_go Z 𝓛)
    (own_key.name (inner_of Z)) (inst_fn (inner_of Z) code.function) (code.unfolded 𝓤 𝓛.H 𝓜 𝓡 wired (Y, tt) its_methods its_drop) (stored Z) (stored_so Z)
    (λ ℓs shares bounds passed ty fit.
    let sizes = passed.1.1 in let sizes_fit = fit.1.1 in
    walk Z 𝓛 𝓜 𝓡 (takes_back.met 𝓤 𝓛 𝓜 𝓡 (code.calls-test_doubles::metered::Meter::takes_back 𝓡.env wired)) (inner_meets.deallocate its_drop)
    ℓs.0 ℓs.1.0 shares.0 shares.1.0 bounds.0 passed.0 sizes.0 sizes.1.0 ty sizes_fit.0.1 sizes_fit.1.0.1 passed.1.0)
