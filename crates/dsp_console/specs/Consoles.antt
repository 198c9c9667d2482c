-- When a console refines a state of the machine.
use Rattle.std.specs.Prelude.{ℕ, ◌≡◌, true, length}
use Rattle.channel_spec.specs.Channels.{Channels, members_at, is_chained}
use Rattle.voice_channel.specs.Channels as channels
use Rattle.voice_script.specs.declared.replies.Reply.{Reply}
use Rattle.voice_script.specs.ReplyViews.{reply_of}
use Rattle.voice_script.specs.Script.{Command}
use Rattle.voice_script.specs.Served.{Asked, Tell}
use Rattle.voice_script.specs.Widths.{Widths, widths_in}
use Rattle.console_spec.specs.Console.{CommandAsks}
use Rattle.dsp_console.specs.declared.console.Console.{Console}
use Rattle.ialg.specs.Laws.{Laws}

-- as many channels as it was made with
abbrev pub channels_of : {M : Type 0} → Console M → ℕ
channels_of console = length console.channels.chained

-- what their ports carry samples as
abbrev pub port_widths_of : {M : Type 0} → Console M → Widths
port_widths_of console = widths_in console.widths

-- the channel has members
abbrev pub TakesFeeds : {M : Type 0} → Console M → ℕ → Type 0
TakesFeeds console c = is_chained (members_at console.channels.chained c) ≡ true

-- its channels do
abbrev pub ConsoleRefines : {M : Type 0} → Laws M → Console M → Channels M → Type 0
ConsoleRefines laws console state = channels.ChannelsRefine laws console.channels state

-- whatever state the console refined, this was asked as it may be asked there, and the console refines a state that comes after it
abbrev pub ConsoleCallRefines : {M : Type 0} → Laws M → (Channels M → Asked → Channels M → Type 0) → Asked → Console M → Console M → Type 0
ConsoleCallRefines {M} laws Asks asked old new = (before : Channels M) → ConsoleRefines laws old before
    → (after : Channels M) × Asks before asked after × ConsoleRefines laws new after

-- this was asked, as the command may ask it
abbrev pub AsksByCommand : {M : Type 0} → Laws M → Command M → Asked → Console M → Console M → Type 0
AsksByCommand laws command asked old new = ConsoleCallRefines laws (CommandAsks laws.meaning (port_widths_of old) command) asked old new

-- the command was done, and this reply tells of it
abbrev pub TellsOf : {M : Type 0} → Laws M → Command M → Reply → Console M → Console M → Type 0
TellsOf laws command reply old new = AsksByCommand laws command (Tell (reply_of reply)) old new
