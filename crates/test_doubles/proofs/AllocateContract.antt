-- `Metered::allocate` from outside: its parameters, and what it owes at its end. Assumes `Logic`.
use Rattle.std.proofs.Common.{ℕ, Bool, true, false, [], ◌∷◌, Ok, Err, w64}
use seplogic.Ra.Ura.{Ura}
use mir.Val.{Val}
use base.Logic.{SProp, ent, sep, emp}
use prog.Memory.{Memory}
use prog.Routine.{Routine}
use types.Logic.{Logic, sem}
use contract.Monad.{Fun}
use contract.Lifetimes.{Lfts}
use types.Kit.{‵, raw, ◌$◌, ◌∵◌, !, qed, move, use0, suffices, done}
use denote.Laws.{Spells, Tellss, Ises}
use denote.Plain.{uint_vals, uint_Tells}
use denote.RawPtr.{block_ptr}
use denote.Ref.{shr_vals}
use denote.Signature.{types_at}
use denote.Triple.Clauses.{Ended, Clauses}
use denote.Triple.Entry.{alive}
use denote.Triple.Statement.{Contract}
use denote.Triple.Walked.{Stays, AllGo, walk_of}
use Rattle.std.specs.Allocator.{block_if_ok}
use Rattle.std.proofs.raw_atomic.Walks.{leaves}
use Rattle.std.proofs.alloc.Calls.{Al, token, Answer, answer_val, got, Answer-Ok, Answer-err}
use Rattle.test_doubles.proofs.Parameters.{a_self, a_size, spent, remains, self_goes, size_goes, nothing_remains}
use Rattle.test_doubles.specs.contracts.metered.MeteredAllocator.allocate as contract_of

module _ (Z : Al) where
  abbrev pub ended : Ended
  ended = contract_of.ended Z.row Z.g Z.d Z.drops

  abbrev pub spends : Stays ended.signature.params ended.kept
  spends = (spent (a_self Z), (spent a_size, (spent a_size, tt)))

  -- how the machine stores `&self`, `size` and `align`
  abbrev pub stored : (ℓs : Lfts 2) → Spells (types_at ended.signature.params ℓs)
  stored ℓs = (shr_vals, (uint_vals w64, (uint_vals w64, tt)))

  pub stored_so : (ℓs : Lfts 2) → Tellss (types_at ended.signature.params ℓs) (Ises (types_at ended.signature.params ℓs)) (stored ℓs)
  stored_so ℓs = ((λ _ _ is. is.0), (uint_Tells w64, (uint_Tells w64, tt)))

  module _ {M : Type 1} {𝓤 : Ura M} (𝓛 : Logic 𝓤) where
    pub all_go : AllGo 𝓛 ended.signature.lifetimes ended.signature.params ended.kept spends
    all_go = (self_goes Z 𝓛, (size_goes 𝓛, (size_goes 𝓛, tt)))

    module _ (in_memory : Memory → SProp 𝓤) (runs : Routine → Fun 𝓤) where
      abbrev pub promises : Clauses 𝓤 ended
      promises = contract_of.clauses Z.row Z.g Z.d Z.drops 𝓛 in_memory runs

      abbrev pub Walk : Contract 𝓤
      Walk = walk_of 𝓛 ended spends promises

      module _ (call : Walk.Ghost) where
        abbrev tokens : SProp 𝓤
        tokens = alive 𝓛 ended.signature call.0.0 call.0.1

        -- an answer that can be made of nothing is given with the block that it promises
        gives : (answer : Answer.Denot) (v : Val) → ent 𝓤 (emp 𝓤) (sem 𝓛 (Answer.own_val answer (v ∷ [])))
            → ent 𝓤 (sep 𝓤 (sem 𝓛 (block_if_ok (token Z call.0.3.0.now.inner) call.1 answer)) tokens) (Walk.post call v)
        gives answer v made = qed 𝓛 (‵ (block_if_ok (token Z call.0.3.0.now.inner) call.1 answer) ∷ raw tokens ∷ []) ∵
            suffices ! _ (leaves 𝓛 ended spends promises call v answer (tt, (tt, (tt, tt))) (tt, (tt, (tt, tt)))) $
            use0 𝓛 (‵ (Answer.own_val answer (v ∷ []))) made $ use0 𝓛 (‵ (remains 3)) (nothing_remains 𝓛 3) $
            move ! (3 ∷ []) $ done !

        -- the tokens, and what the inner allocator's answer came with, are enough
        pub owes : (is_ok : Bool) (base offset : ℕ)
            → ent 𝓤 (sep 𝓤 (sem 𝓛 (got (token Z call.0.3.0.now.inner) call.1 is_ok base offset)) tokens) (Walk.post call (answer_val is_ok base offset))
        owes true base offset = gives (Ok (block_ptr base offset)) _ (Answer-Ok 𝓛 base offset)
        owes false base offset = gives (Err (record {})) _ (Answer-err 𝓛)
