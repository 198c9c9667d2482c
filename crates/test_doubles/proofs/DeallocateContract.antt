-- `Metered::deallocate` from outside: its parameters, and what it owes at its end. Assumes `Logic`.
use Rattle.std.proofs.Common.{[], ◌∷◌, refl, w64}
use seplogic.Ra.Ura.{Ura}
use mir.Val.{vunit}
use base.Logic.{SProp, ent}
use prog.Memory.{Memory}
use prog.Routine.{Routine}
use types.Logic.{Logic}
use contract.Monad.{Fun}
use contract.Lifetimes.{Lfts}
use types.Kit.{‵, raw, ◌$◌, ◌∵◌, !, qed, move, use0, feq_i, suffices, done}
use denote.Laws.{Spells, Tellss, Ises}
use denote.Plain.{uint_vals, uint_Tells}
use denote.RawPtr.{rawptr_vals, rawptr_Tells}
use denote.Ref.{shr_vals}
use denote.Signature.{types_at}
use denote.Steps.{nothing}
use denote.Triple.Clauses.{Ended, Clauses}
use denote.Triple.Entry.{alive}
use denote.Triple.Statement.{Contract}
use denote.Triple.Walked.{Stays, AllGo, walk_of}
use Rattle.std.proofs.raw_atomic.Walks.{leaves}
use Rattle.std.proofs.alloc.Calls.{Al}
use Rattle.test_doubles.proofs.Parameters.{a_self, a_pointer, a_size, spent, remains, self_goes, pointer_goes, size_goes, nothing_remains}
use Rattle.test_doubles.specs.contracts.metered.MeteredAllocator.deallocate as contract_of

module _ (Z : Al) where
  abbrev pub ended : Ended
  ended = contract_of.ended Z.row Z.g Z.d Z.drops

  abbrev pub spends : Stays ended.signature.params ended.kept
  spends = (spent (a_self Z), (spent a_pointer, (spent a_size, (spent a_size, tt))))

  -- how the machine stores `&self`, `ptr`, `size` and `align`
  abbrev pub stored : (ℓs : Lfts 2) → Spells (types_at ended.signature.params ℓs)
  stored ℓs = (shr_vals, (rawptr_vals, (uint_vals w64, (uint_vals w64, tt))))

  pub stored_so : (ℓs : Lfts 2) → Tellss (types_at ended.signature.params ℓs) (Ises (types_at ended.signature.params ℓs)) (stored ℓs)
  stored_so ℓs = ((λ _ _ is. is.0), (rawptr_Tells, (uint_Tells w64, (uint_Tells w64, tt))))

  module _ {M : Type 1} {𝓤 : Ura M} (𝓛 : Logic 𝓤) where
    pub all_go : AllGo 𝓛 ended.signature.lifetimes ended.signature.params ended.kept spends
    all_go = (self_goes Z 𝓛, (pointer_goes 𝓛, (size_goes 𝓛, (size_goes 𝓛, tt))))

    module _ (in_memory : Memory → SProp 𝓤) (runs : Routine → Fun 𝓤) where
      abbrev pub promises : Clauses 𝓤 ended
      promises = contract_of.clauses Z.row Z.g Z.d Z.drops 𝓛 in_memory runs

      abbrev pub Walk : Contract 𝓤
      Walk = walk_of 𝓛 ended spends promises

      -- the tokens are enough
      pub owes : (call : Walk.Ghost) → ent 𝓤 (alive 𝓛 ended.signature call.0.0 call.0.1) (Walk.post call vunit)
      owes call = qed 𝓛 (raw (alive 𝓛 ended.signature call.0.0 call.0.1) ∷ []) ∵
          suffices ! _ (leaves 𝓛 ended spends promises call vunit tt (tt, (tt, (tt, (tt, tt)))) (tt, (tt, (tt, (tt, tt))))) $
          nothing ! $ feq_i ! _ (vunit ∷ []) _ refl $ use0 𝓛 (‵ (remains 4)) (nothing_remains 𝓛 4) $ move ! (3 ∷ []) $ done !
