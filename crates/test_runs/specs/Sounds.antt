-- Worked rows of a console without memory: what it answers, and what a channel's members give.
use Rattle.std.specs.Prelude.{◌≡◌, ℕ, ℤ, pos, true, false, List, [], ◌∷◌, Option, Some, None, Ok, Err}
use Rattle.mem_rec.specs.declared.Space.TheVariants.{Daram}
use Rattle.ialg.specs.declared.refusal.Refusal.TheVariants.{Range, Taken, Missing, Params, Room, Busy, Command}
use Rattle.ialg.specs.History.{Ctl, History, Sample}
use Rattle.ialg.specs.History as history
use Rattle.ialg.specs.Meaning.{Status}
use Rattle.host_map.specs.Activity.{with_at}
use Rattle.voice_set.specs.declared.voice.Voice.{Voice}
use Rattle.voice_set.specs.declared.voice.Voice.TheVariants.{Fir}
use Rattle.voice_set.specs.Voices.{voice_meaning}
use Rattle.console_spec.specs.Sounds.{Passes, Playing, Sounding, chain, control, create, delete, to_channel, with_instance, with_members}

-- a filter that halves each sample
abbrev pub half : List ℤ
half = pos 16384 ∷ []

-- a halving filter that was given these
abbrev pub halving : History → Playing Voice
halving given = record { kind = Fir; params = half; history = given }

-- instances 0 and 2 live; the first channel has no member, and the second has instance 2
abbrev pub two_live : Sounding Voice
two_live = record { living = with_at (with_at (λ i. None) 0 (Some (halving []))) 2 (Some (halving (Sample (pos 3) ∷ []))); chained = [] ∷ (2 ∷ []) ∷ [] }

-- after both were given a sample
abbrev pub both_given : Sounding Voice
both_given = with_instance (with_instance two_live 2 (Some (halving (Sample (pos 8) ∷ Sample (pos 3) ∷ [])))) 0 (Some (halving (Sample (pos 4) ∷ [])))

pub record SoundRows : Type 0 where
  -- a creation that is granted makes an instance that was given nothing
  pub creates : create two_live 1 Fir 0 half true None ≡ (Ok tt, with_instance two_live 1 (Some (halving [])))
  -- one that lacks room tells the space, and changes nothing
  pub lacks : create two_live 1 Fir 0 half true (Some Daram) ≡ (Err (Room Daram), two_live)
  -- but no room is spoken of where something else is wrong
  pub taken : create two_live 2 Fir 0 half true (Some Daram) ≡ (Err Taken, two_live)
  pub params : create two_live 1 Fir 0 [] false (Some Daram) ≡ (Err Params, two_live)
  pub range : create two_live 1 Fir 8 half true (Some Daram) ≡ (Err Range, two_live)
  -- a chain changes the members of its channel alone; what lives in no channel or twice is no member
  pub chains : chain two_live 0 (0 ∷ []) ≡ (Ok tt, with_members two_live 0 (0 ∷ []))
  pub missing : chain two_live 0 (0 ∷ 1 ∷ []) ≡ (Err Missing, two_live)
  pub busy : chain two_live 0 (0 ∷ 2 ∷ []) ≡ (Err Busy, two_live)
  pub twice : chain two_live 0 (0 ∷ 0 ∷ []) ≡ (Err Busy, two_live)
  pub full : chain two_live 1 (0 ∷ []) ≡ (Err Taken, two_live)
  pub beyond : chain two_live 2 (0 ∷ []) ≡ (Err Range, two_live)
  -- a channel without members is fed nothing
  pub unchained : to_channel two_live 0 two_live ≡ (Err Missing, two_live)
  -- a member isn't deleted; what is deleted is gone
  pub member : delete two_live 2 ≡ (Err Busy, two_live)
  pub deletes : delete two_live 0 ≡ (Ok tt, with_instance two_live 0 None)
  -- a control that is taken is heard from then on, and one that isn't changes nothing
  pub hears : (c : Ctl) (status : Status) → control two_live 0 c true status ≡ (Ok status, with_instance two_live 0 (Some (halving (history.Control c ∷ []))))
  pub refuses : (c : Ctl) (status : Status) → control two_live 0 c false status ≡ (Err Command, two_live)
  -- each member is given what the one before it gave, in the channel's order
  pub passes : Passes voice_meaning None (2 ∷ 0 ∷ []) two_live (pos 8 ∷ []) (pos 2 ∷ []) both_given
  -- and no member gives anything else
  pub one : (out : List ℤ) (after : Sounding Voice) → Passes voice_meaning None (2 ∷ 0 ∷ []) two_live (pos 8 ∷ []) out after → out ≡ pos 2 ∷ []
