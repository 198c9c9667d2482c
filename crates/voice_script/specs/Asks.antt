-- What a line asks of the ports.
use Rattle.std.specs.Prelude.{ℕ, ◌<◌, List, take}
use Rattle.voice_script.specs.Served as served
use Rattle.voice_script.specs.ReplyViews.{reply_of}
use Rattle.voice_script.specs.Widths.{Widths, octet_count}
use Rattle.voice_script.specs.declared.machine.Ask.{Ask}
use Rattle.voice_script.specs.declared.machine.Ask.TheVariants.{Nothing, Tell, Feed}

-- by the widths of the channels' ports
abbrev pub asked_of : Widths → Ask → served.Asked
asked_of widths Nothing = served.Nothing
asked_of widths (Tell reply) = served.Tell (reply_of reply)
asked_of widths (Feed channel samples) = served.Feed channel (octet_count (widths.input channel) samples.number)

-- the channel is one of so many, and takes feeds
pub record IsReady {X : Type 0} (takes_feeds : X → ℕ → Type 0) (channels : X → ℕ) (machine : X) (channel : ℕ) : Type 0 where
  pub there : channel < channels machine
  pub able : takes_feeds machine channel

-- a channel that is asked to feed is ready
abbrev pub AskIsReady : {X : Type 0} → (X → ℕ → Type 0) → (X → ℕ) → X → Ask → Type 0
AskIsReady takes_feeds channels machine Nothing = Unit {0}
AskIsReady takes_feeds channels machine (Tell reply) = Unit {0}
AskIsReady takes_feeds channels machine (Feed channel samples) = IsReady takes_feeds channels machine channel

-- whatever state was kept, the machine may ask this for the line, and a state that comes after it is kept
abbrev pub AsksForLine : {S : Type 0} → served.Machine S → (line : List ℕ) → served.Asked → (was is : S → Type 0) → Type 0
AsksForLine {S} machine line asked was is = (s : S) → was s → (t : S) × machine.Asks s line asked t × is t

-- whatever state was kept, the machine may give the channel's samples, whose octets stand first in `block`, so many samples, whose octets stand
-- first in `given`; and a state that comes after it is kept
abbrev pub GivesForFeed : {S : Type 0} → (Widths → served.Machine S) → Widths → (channel samples : ℕ) → (block : List ℕ) → (count : ℕ) → (given : List ℕ) → (was is : S → Type 0) → Type 0
GivesForFeed {S} machine widths channel samples block count given was is = (s : S) → was s
    → (t : S) × (machine widths).Gives s channel (take (octet_count (widths.input channel) samples) block)
    (take (octet_count (widths.output channel) count) given) count t
    × is t
