-- How the cutting of a channel's samples into blocks doesn't show.
use Rattle.std.specs.Prelude.{ℕ, ℤ, ◌≡◌, true, List, [], ◌∷◌, ◌++◌, IfSome}
use Rattle.ialg.specs.Meaning.{Meaning}
use Rattle.host_spec.specs.State.{is_of_group}
use Rattle.host_spec.specs.Choices.{IsLawful}
use Rattle.channel_spec.specs.Channels.{Channels, members_at, has_number}
use Rattle.channel_spec.specs.Calls.{Does}
use Rattle.channel_spec.specs.Calls.Call.{Feed}

-- the blocks, one after the other, as one
abbrev pub joined : List (List ℤ) → List ℤ
joined [] = []
joined (block ∷ blocks) = block ++ joined blocks

-- the same channels over hosts that are the same, but for which members of groups are active and how often one was activated
pub record AreAlike {M : Type 0} (one other : Channels M) : Type 0 where
  pub living : one.host.living ≡ other.host.living
  pub map : one.host.map ≡ other.host.map
  pub sizes : one.host.sizes ≡ other.host.sizes
  pub poison : one.host.poison ≡ other.host.poison
  pub copied : one.host.copied ≡ other.host.copied
  pub chained : one.chained ≡ other.chained

module _ {M : Type 0} (kinds : Meaning M) where
  -- the members of the channel are lawful
  abbrev pub MembersAreLawful : Channels M → ℕ → Type 0
  MembersAreLawful channels c =
      (i : ℕ) → has_number (members_at channels.chained c) i ≡ true → IfSome (channels.host.living i) (IsLawful kinds channels.host.poison)

  -- no two members of the channel are of one group
  abbrev pub GroupsAreApart : Channels M → ℕ → Type 0
  GroupsAreApart channels c =
      let members = members_at channels.chained c in
      (i j g : ℕ) → has_number members i ≡ true → has_number members j ≡ true
      → is_of_group g (channels.host.living i) ≡ true → is_of_group g (channels.host.living j) ≡ true → i ≡ j

  -- the channel is fed the block, and gives this
  abbrev pub Feeds : Channels M → ℕ → (block out : List ℤ) → Channels M → Type 0
  Feeds before c block out after = Does kinds before (Feed c block out) after

  -- the channel is fed the blocks one after the other, and gives all this
  abbrev pub FeedsAll : Channels M → ℕ → List (List ℤ) → List ℤ → Channels M → Type 0
  FeedsAll before c [] out after = (out ≡ []) × (after ≡ before)
  FeedsAll before c (block ∷ blocks) out after =
      (given rest : List ℤ) × (between : Channels M) × Feeds before c block given between × FeedsAll between c blocks rest after × (out ≡ given ++ rest)
