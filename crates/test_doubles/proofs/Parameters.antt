-- The parameters that `allocate` and `deallocate` of a `Metered` share: `&self`, which opens into a `&` to each field, a pointer and a size.
-- Of none is anything left at the return. Assumes `Logic`.
use Rattle.std.proofs.Common.{ℕ, [], ◌∷◌, refl, ◌+◌, Bor}
use Prim.Native.Nat.{zero, suc}
use seplogic.Ra.Ura.{Ura}
use base.Logic.{ent, emp, sep, id⊢}
use base.Fml.{Fml, Lft, ftrue, fsep}
use prog.Memory.{size, align, up}
use types.Logic.{Logic, sem}
use types.Kit.{‵, ◌$◌, ◌∵◌, !, qed, by, move, keep, drop, use0, fsplit, fjoin, done}
use denote.RattleType.{RattleType}
use denote.Builtin.{RefOf, RawPtr, usize}
use denote.Exit.{yes}
use denote.Memory.{hidden_shr}
use denote.Opens.{unhide}
use denote.Param.{param}
use denote.Ref.{shr_vals}
use denote.Signature.{Slot, plain, type_at}
use denote.Steps.{nothing}
use denote.Triple.Walked.{Stay, Goes, Goes-dropped, stay_dropped}
use Rattle.std.proofs.alloc.Calls.{Al, α, seen}
use Rattle.test_doubles.specs.contracts.metered.Meter as meter
use Rattle.test_doubles.specs.contracts.metered.Metered as metered

abbrev pub a_pointer : Slot 2
a_pointer = plain (λ _. RawPtr)

abbrev pub a_size : Slot 2
a_size = plain (λ _. usize)

abbrev pub spent : (s : Slot 2) → Stay s yes
spent s = stay_dropped s yes

-- what `count` spent parameters leave
abbrev pub remains : ℕ → Fml
remains zero = ftrue
remains (suc count) = fsep ftrue (remains count)

module _ {M : Type 1} {𝓤 : Ura M} (𝓛 : Logic 𝓤) where
  pub pointer_goes : Goes 𝓛 2 a_pointer yes (spent a_pointer)
  pointer_goes = Goes-dropped 𝓛 2 a_pointer yes (λ _ _ _. refl)

  pub size_goes : Goes 𝓛 2 a_size yes (spent a_size)
  size_goes = Goes-dropped 𝓛 2 a_size yes (λ _ _ _. refl)

  pub nothing_remains : (count : ℕ) → ent 𝓤 (emp 𝓤) (sem 𝓛 (remains count))
  nothing_remains zero = id⊢ 𝓤 _
  nothing_remains (suc count) = qed 𝓛 [] ∵ use0 𝓛 (‵ (remains count)) (nothing_remains count) $ nothing ! $ fjoin ! $ done !

module _ (Z : Al) where
  abbrev pub Whole : RattleType
  Whole = metered.the_row (param 0 Z.row)

  abbrev pub a_self : Slot 2
  a_self = RefOf (0 ∷ []) tt (plain (λ _. Whole)) (λ _. tt)

  -- where the inner allocator lies in a `Metered` at this address, and the meter behind it
  abbrev pub inner_at : ℕ × ℕ → ℕ × ℕ
  inner_at place = (place.0, place.1 + up (align (α Z)) 0)

  abbrev pub meter_at : ℕ × ℕ → ℕ × ℕ
  meter_at place = (place.0, place.1 + up 8 (up (align (α Z)) 0 + size (α Z)))

  -- what a `&` to the meter holds
  abbrev pub meter_seen : Lft → ℕ × ℕ → meter.the_row.Denot → Fml
  meter_seen ℓ place m = hidden_shr meter.the_row ℓ m place.0 place.1

  module _ {M : Type 1} {𝓤 : Ura M} (𝓛 : Logic 𝓤) where
    pub self_goes : Goes 𝓛 2 a_self yes (spent a_self)
    self_goes = Goes-dropped 𝓛 2 a_self yes (λ _ _ _. refl)

    module _ (ℓ other : Lft) (self : Bor Whole.Denot) where
      fields : ent 𝓤 (sem 𝓛 (hidden_shr Whole ℓ self.now self.ref_ptr.0 self.ref_ptr.1))
          (sep 𝓤 (sem 𝓛 (meter_seen ℓ (meter_at self.ref_ptr) self.now.meter)) (sem 𝓛 (seen Z ℓ (inner_at self.ref_ptr) self.now.inner)))
      fields = qed 𝓛 (‵ (hidden_shr Whole ℓ self.now self.ref_ptr.0 self.ref_ptr.1) ∷ []) ∵
          -- [the inner allocator and the meter; the place]
          unhide ! $ fsplit ! $ fsplit ! $
          -- [the inner allocator; the meter and nothing; the place]
          move ! (1 ∷ []) $ fsplit ! $ keep ! (0 ∷ 2 ∷ []) $ done !

      pub self_opens : ent 𝓤 (sem 𝓛 ((type_at a_self (ℓ, (other, tt))).own_val self (shr_vals self)))
          (sep 𝓤 (sem 𝓛 (meter_seen ℓ (meter_at self.ref_ptr) self.now.meter)) (sem 𝓛 (seen Z ℓ (inner_at self.ref_ptr) self.now.inner)))
      self_opens = qed 𝓛 (‵ ((type_at a_self (ℓ, (other, tt))).own_val self (shr_vals self)) ∷ []) ∵ fsplit ! $ drop ! $ by ! fields
