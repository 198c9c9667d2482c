-- Channels of two runs whose members were given the same.
use Rattle.std.specs.Prelude.{ℕ, ◌≡◌, List, [], ◌∷◌, Option, Some}
use Rattle.host_spec.specs.State.{Living}
use Rattle.channel_spec.specs.Channels.{Channels, members_at}

module _ {M : Type 0} where
  -- two instances of one kind with the same parameters were given the same since their creation
  pub record AreEqualLives (x y : Living M) : Type 0 where
    pub kind : x.kind ≡ y.kind
    pub params : x.params ≡ y.params
    pub history : x.history ≡ y.history

  -- both live, and were given the same
  abbrev pub LiveEqually : Option (Living M) → Option (Living M) → Type 0
  LiveEqually (Some x) (Some y) = AreEqualLives x y
  LiveEqually _ _ = ⊥

  -- these of the one host and those of the other, one by one
  abbrev pub AllLiveEqually : (ℕ → Option (Living M)) → List ℕ → (ℕ → Option (Living M)) → List ℕ → Type 0
  AllLiveEqually one [] other [] = Unit {0}
  AllLiveEqually one (i ∷ is) other (j ∷ js) = LiveEqually (one i) (other j) × AllLiveEqually one is other js
  AllLiveEqually one _ other _ = ⊥

  -- the members of a channel here and of a channel there, whatever their numbers and their groups are
  abbrev pub MembersAgree : Channels M → ℕ → Channels M → ℕ → Type 0
  MembersAgree one c other d = AllLiveEqually one.host.living (members_at one.chained c) other.host.living (members_at other.chained d)
