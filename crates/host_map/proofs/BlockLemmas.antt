-- The block of a group, by what it owns.
use Rattle.std.proofs.Common.{◌≡◌, ℕ, Bool, true, false, List, [], ◌∷◌, cond, Option, Some, refl, ap, ◌∙◌}
use Rattle.std.specs.Prelude.{find, slice_get}
use Rattle.host_map.specs.declared.placed.Owner.{Owner}
use Rattle.host_map.specs.declared.placed.Owner.TheVariants.{Record, Scratch}
use Rattle.host_map.specs.declared.placed.Placed.{Placed}
use Rattle.host_map.specs.Blocks.{owned, same_owner}
use Rattle.host_map.specs.MemoryMap.{is_group's}

same_group : (g : ℕ) (o : Owner) → is_group's g o ≡ same_owner (Scratch g) o
same_group g (Record i k) = refl
same_group g (Scratch h) = refl

first_if : (t : Bool) (b : Placed) (found : Option Placed) (bs : List Placed) → found ≡ slice_get bs 0 → cond t (Some b) found ≡ slice_get (cond t (b ∷ bs) bs) 0
first_if true b found bs e = refl
first_if false b found bs e = e

-- it is the first of the blocks that the group owns
pub group_block_is : (g : ℕ) (bs : List Placed) → find (λ b. is_group's g b.owner) bs ≡ slice_get (owned (Scratch g) bs) 0
group_block_is g [] = refl
group_block_is g (b ∷ bs) =
    ap (λ t. cond t (Some b) (find (λ c. is_group's g c.owner) bs)) (same_group g b.owner)
    ∙ first_if (same_owner (Scratch g) b.owner) b (find (λ c. is_group's g c.owner) bs) (owned (Scratch g) bs) (group_block_is g bs)
