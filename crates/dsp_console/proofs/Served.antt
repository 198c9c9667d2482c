-- Calls of the channels, seen from a line.
use Rattle.std.proofs.Common.{◌≡◌, ◌++◌, ◌∙◌, ◌*◌, ℕ, ℤ, List, [], ◌∷◌, length, take, Option, Result, ap, arith, refl, subst, sym}
use Rattle.std.proofs.Math.Seq.{take-append_seam}
use Rattle.std.proofs.lemmas.List.{length-map}
use Rattle.ialg.specs.declared.refusal.Refusal.{Refusal}
use Rattle.ialg.specs.Laws.{Laws}
use Rattle.channel_spec.specs.Channels.{Channels}
use Rattle.channel_spec.specs.Calls.{Call}
use Rattle.channel_spec.specs.Calls.Call.{Feed}
use Rattle.voice_channel.specs.Channels as channels
use Rattle.voice_channel.specs.Channels.{ChannelsState}
use Rattle.voice_script.specs.Served.{Asked}
use Rattle.voice_script.specs.declared.width.Width.{Width}
use Rattle.voice_script.specs.declared.width.Width.TheVariants.{Word, Octet}
use Rattle.voice_script.specs.Widths.{Widths, octet_count}
use Rattle.console_spec.specs.Samples.{octets_at, octets_of, samples_at}
use Rattle.console_spec.specs.Console.{Calls, CommandAsks, FeedGives, LineAsks}
use Rattle.voice_script.specs.Script.{Command}

module _ {M : Type 0} (laws : Laws M) where
  -- what a console serves is said of its channels alone
  abbrev Refines : ChannelsState M → Channels M → Type 0
  Refines = channels.ChannelsRefine laws

  abbrev CallRefines : (Channels M → Asked → Channels M → Type 0) → Asked → ChannelsState M → ChannelsState M → Type 0
  CallRefines Asks asked old new = (before : Channels M) → Refines old before → (after : Channels M) × Asks before asked after × Refines new after

  -- what the channels were called for is what the line asked
  pub called : {A : Type 0} (call : A → Call M) (asked_by : A → Asked) (answer : A) (asked : Asked) (old new : ChannelsState M)
      → channels.ChannelsCallRefines laws (call answer) old new → asked ≡ asked_by answer
      → CallRefines (Calls laws.meaning call asked_by) asked old new
  called call asked_by answer asked old new serves asks before keeps =
      let step = serves before keeps in
      (step.0, (answer, step.1, asks), step.2)

  -- a command asks what was done
  pub obeyed : (widths : Widths) (done command : Command M) (asked : Asked) (old new : ChannelsState M) → done ≡ command
      → CallRefines (CommandAsks laws.meaning widths done) asked old new → CallRefines (CommandAsks laws.meaning widths command) asked old new
  obeyed widths done command asked old new e serves = subst (λ d. CallRefines (CommandAsks laws.meaning widths d) asked old new) e serves

  -- a line asks what its command asks, or what its refusal tells
  pub lined : (widths : Widths) (result line : Result (Option (Command M)) Refusal) (asked : Asked) (old new : ChannelsState M) → result ≡ line
      → CallRefines (LineAsks laws.meaning widths result) asked old new → CallRefines (LineAsks laws.meaning widths line) asked old new
  lined widths result line asked old new e serves = subst (λ r. CallRefines (LineAsks laws.meaning widths r) asked old new) e serves

  -- a block of samples through a channel, as octets
  pub gave : (widths : Widths) (c : ℕ) (octets : List ℕ) (out : List ℤ) {output : List ℕ} {count : ℕ} {old new : ChannelsState M}
      → channels.ChannelsCallRefines laws (Feed c (samples_at (widths.input c) octets) out) old new
      → output ≡ octets_at (widths.output c) out → count ≡ length out
      → (before : Channels M) → Refines old before
      → (after : Channels M) × FeedGives laws.meaning widths before c octets output count after × Refines new after
  gave widths c octets out serves given counted before keeps =
      let step = serves before keeps in
      (step.0, (out, step.1, given, counted), step.2)

two_each : (given : List ℤ) → length (octets_of given) ≡ 2 * length given
two_each [] = refl
two_each (x ∷ given) = let rest : length (octets_of given) ≡ 2 * length given = two_each given in omega arith

so_many : (width : Width) (given : List ℤ) → length (octets_at width given) ≡ octet_count width (length given)
so_many Word given = two_each given
so_many Octet given = length-map given _

-- the octets that were written stand at the beginning
pub stands_first : (width : Width) (count : ℕ) (octets rest : List ℕ) (given : List ℤ) → octets ≡ octets_at width given → count ≡ length given
    → take (octet_count width count) (octets ++ rest) ≡ octets_at width given
stands_first width count octets rest given e counted =
    let long : octet_count width count ≡ length octets = ap (octet_count width) counted ∙ sym (so_many width given) ∙ ap length (sym e) in
    ap (λ k. take k (octets ++ rest)) long ∙ take-append_seam octets rest ∙ e
