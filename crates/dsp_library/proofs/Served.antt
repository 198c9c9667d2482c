-- How the answer to a call is told.
use Rattle.std.proofs.Common.{◌≡◌, ◌≢◌, ℕ, ℤ, refl, subst}
use Rattle.std.specs.Prelude.{Some, Result, Ok, Err, IfOk}
use Rattle.ialg.specs.declared.refusal.Refusal.{Refusal}
use Rattle.ialg.specs.declared.refusal.Refusal.TheVariants.{Long, Syntax, Range, Taken, Missing, Params, Room, Busy, Command, Short}
use Rattle.ialg.specs.declared.control.Status.{Status}
use Rattle.ialg.specs.Views.{answer_of}
use Rattle.ialg.specs.Meaning as meaning
use Rattle.host_moves.specs.Refinement.{told}
use Rattle.gateway_kinds.specs.Kinds.{Kind}
use Rattle.channel_spec.specs.Calls.{Call}
use Rattle.voice_channel.specs.Channels.{ChannelsState}
use Rattle.dsp_library.specs.declared.machine.Machine.{Machine}
use Rattle.dsp_library.specs.declared.handle.Handle.{Handle}
use Rattle.dsp_library.specs.Codes.{code_of, full_after, room_code}
use Rattle.dsp_library.specs.Calls.{Answers, LibraryCallRefines}

pub answered : {A : Type 0} (call : Result A Refusal → Call Kind) {m taken : Machine} {new : Handle} {code : ℤ} (answer : Result A Refusal) (channels : ChannelsState Kind)
    → taken ≡ m → code ≡ code_of answer → new.held.machine ≡ Some (record { channels = channels; given = taken.given })
    → LibraryCallRefines (call answer) taken (record { channels = channels; given = taken.given }) → Answers call m new code
answered call {m} {taken} answer channels its coded kept refines =
    let after : Machine = record { channels = channels; given = taken.given } in
    record { answer = answer; after = after; coded = coded; kept = kept; refines = subst (λ (n : Machine). LibraryCallRefines (call answer) n after) its refines }

pub code_told : (r : Result Status Refusal) → code_of r ≡ code_of (told r)
code_told (Ok status) = refl
code_told (Err refusal) = refl

pub ok_told : (P : meaning.Status → Type 0) (r : Result Status Refusal) → IfOk r (λ status. P (answer_of status)) → IfOk (told r) P
ok_told P (Ok status) holds = holds
ok_told P (Err refusal) holds = holds

-- the place for a space's number stays where the answer isn't that a space lacks room
pub full_stays : {A : Type 0} (answer : Result A Refusal) (before : ℕ) → code_of answer ≢ room_code → full_after answer before ≡ before
full_stays (Ok done) before apart = refl
full_stays (Err Long) before apart = refl
full_stays (Err Syntax) before apart = refl
full_stays (Err Range) before apart = refl
full_stays (Err Taken) before apart = refl
full_stays (Err Missing) before apart = refl
full_stays (Err Params) before apart = refl
full_stays (Err (Room space)) before apart = absurd (apart refl)
full_stays (Err Busy) before apart = refl
full_stays (Err Command) before apart = refl
full_stays (Err Short) before apart = refl
