-- What holds of channels whatever is called.
use Rattle.std.specs.Prelude.{◌≡◌, ℕ, ℤ, true, false, Option}
use Rattle.channel_spec.specs.Channels.{Channels, members_at, has_number, has_repeat}
use Rattle.channel_spec.specs.Parts.{lives, on_host}

-- members live, none is named twice in a channel, and none is in two
pub record AreHeld {M : Type 0} (channels : Channels M) : Type 0 where
  pub live : (c i : ℕ) → has_number (members_at channels.chained c) i ≡ true → lives channels.host i ≡ true
  pub once : (c : ℕ) → has_repeat (members_at channels.chained c) ≡ false
  pub alone : (c d i : ℕ) → has_number (members_at channels.chained c) i ≡ true → has_number (members_at channels.chained d) i ≡ true → c ≡ d

-- the same channels over a host of this poison word, or of none
abbrev pub with_poison : {M : Type 0} → Option ℤ → Channels M → Channels M
with_poison poison channels = on_host channels (record channels.host { poison = poison })
