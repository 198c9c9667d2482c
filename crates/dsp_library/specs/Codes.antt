-- How C names kinds, spaces and answers.
use Rattle.std.specs.Prelude.{ℕ, zero, suc, ℤ, pos, negsuc, Bool, true, false, Option, Some, None, Result, Ok, Err, List, length, slice_index_or, ◌≡◌, ◌<◌, ◌≤◌}
use Rattle.ialg.specs.declared.refusal.Refusal.{Refusal}
use Rattle.ialg.specs.declared.refusal.Refusal.TheVariants.{Long, Syntax, Range, Taken, Missing, Params, Room, Busy, Command, Short}
use Rattle.ialg.specs.Refusals.{refusal_number}
use Rattle.mem_rec.specs.declared.Space.{Space}
use Rattle.mem_rec.specs.declared.Space.TheVariants.{Daram, Saram, External}
use Rattle.gateway_kinds.specs.Kinds.{Kind, of_voice, of_gain, of_level, of_dtmf, of_echo, of_adpcm, of_signal, of_activity}
use Rattle.voice_set.specs.declared.voice.Voice.TheVariants.{Fir, Decim, Biquad, Tone, G711}
use Rattle.host_map.specs.declared.parts.Sizes.{Sizes}
use Rattle.host_map.specs.declared.placed.Owner.{Owner}
use Rattle.host_map.specs.declared.placed.Owner.TheVariants.{Record, Scratch}
use Rattle.host_map.specs.declared.placed.Placed.{Placed}
use Rattle.host_map.specs.MemoryMap.{AreSizes}
use Rattle.host_spec.specs.State.{new_state}
use Rattle.channel_spec.specs.Channels.{Channels, unchained}
use Rattle.voice_channel.specs.declared.TheConstants.{CHANNELS}
use Rattle.dsp_library.specs.declared.handle.Options.{Options}
use Rattle.dsp_library.specs.declared.spaces.BlockShown.{BlockShown}
use Rattle.dsp_library.specs.declared.TheConstants.{DONE}

-- 0 to 4 are the voices, 5 a gain, 6 a meter, 7 a detector of digits, 8 an echo canceller, 9 an ADPCM coder,
-- 10 a generator of tones and 11 a detector of voice activity
abbrev pub kind_numbered : ℕ → Option Kind
kind_numbered zero = Some (of_voice Fir)
kind_numbered (suc zero) = Some (of_voice Decim)
kind_numbered (suc (suc zero)) = Some (of_voice Biquad)
kind_numbered (suc (suc (suc zero))) = Some (of_voice Tone)
kind_numbered (suc (suc (suc (suc zero)))) = Some (of_voice G711)
kind_numbered (suc (suc (suc (suc (suc zero))))) = Some (of_gain (record { of = record {} }))
kind_numbered (suc (suc (suc (suc (suc (suc zero)))))) = Some (of_level (record { of = record {} }))
kind_numbered (suc (suc (suc (suc (suc (suc (suc zero))))))) = Some (of_dtmf (record {}))
kind_numbered (suc (suc (suc (suc (suc (suc (suc (suc zero)))))))) = Some (of_echo (record { of = record {} }))
kind_numbered (suc (suc (suc (suc (suc (suc (suc (suc (suc zero))))))))) = Some (of_adpcm (record { of = record {} }))
kind_numbered (suc (suc (suc (suc (suc (suc (suc (suc (suc (suc zero)))))))))) = Some (of_signal (record { of = record {} }))
kind_numbered (suc (suc (suc (suc (suc (suc (suc (suc (suc (suc (suc zero))))))))))) = Some (of_activity (record { of = record {} }))
kind_numbered (suc (suc (suc (suc (suc (suc (suc (suc (suc (suc (suc (suc n)))))))))))) = None

abbrev pub space_numbered : ℕ → Option Space
space_numbered zero = Some Daram
space_numbered (suc zero) = Some Saram
space_numbered (suc (suc zero)) = Some External
space_numbered (suc (suc (suc n))) = None

abbrev pub code_of : {A : Type 0} → Result A Refusal → ℤ
code_of (Ok answer) = DONE
code_of (Err refusal) = pos (refusal_number refusal)

abbrev pub space_number : Space → ℕ
space_number Daram = 0
space_number Saram = 1
space_number External = 2

-- the number of the space that has no room, and for another refusal what stood there
abbrev pub full_by : Refusal → ℕ → ℕ
full_by Long before = before
full_by Syntax before = before
full_by Range before = before
full_by Taken before = before
full_by Missing before = before
full_by Params before = before
full_by (Room space) before = space_number space
full_by Busy before = before
full_by Command before = before
full_by Short before = before

abbrev pub full_after : {A : Type 0} → Result A Refusal → ℕ → ℕ
full_after (Ok answer) before = before
full_after (Err refusal) before = full_by refusal before

-- the sizes of three spaces
abbrev pub sizes_of : Options → Sizes
sizes_of o = record { daram = o.daram; saram = o.saram; external = o.external }

-- the poison word, if there is one
abbrev pub poison_of : ℕ → ℤ → Option ℤ
poison_of zero word = None
poison_of (suc n) word = Some word

-- a host can be opened with these options
abbrev pub CanBeOpened : Options → Type 0
CanBeOpened o = AreSizes (sizes_of o) × (1 ≤ o.channels) × (o.channels ≤ CHANNELS)

-- the state that a host is opened in: no instance lives, and no channel has members
abbrev pub opened_state : Options → Channels Kind
opened_state o = unchained (new_state (sizes_of o) (poison_of o.poisoned o.poison)) o.channels

-- a block as C sees it
abbrev pub block_by : Owner → Placed → BlockShown
block_by (Record i k) b = record { scratch = 0; number = i; «record» = k; place = b.place; size = b.size; align = b.align }
block_by (Scratch g) b = record { scratch = 1; number = g; «record» = 0; place = b.place; size = b.size; align = b.align }

abbrev pub block_of : Placed → BlockShown
block_of b = block_by b.owner b

-- the blocks stand in the first places, in order
abbrev pub AreShown : List Placed → List BlockShown → Type 0
AreShown map blocks = (k : ℕ) (d : BlockShown) (e : Placed) → k < length map → slice_index_or blocks k d ≡ block_of (slice_index_or map k e)

-- and behind them all is as it was
abbrev pub StayBehind : ℕ → List BlockShown → List BlockShown → Type 0
StayBehind count old new = (k : ℕ) (d : BlockShown) → count ≤ k → slice_index_or new k d ≡ slice_index_or old k d

-- the code of a creation that finds no room, whichever space lacks it
abbrev pub room_code : ℤ
room_code = code_of {A = Unit {0}} (Err (Room Daram))

-- the active member, -1 where none is active
abbrev pub active_code : Option ℕ → ℤ
active_code None = negsuc 0
active_code (Some i) = pos i

abbrev pub flag_code : Bool → ℕ
flag_code false = 0
flag_code true = 1
