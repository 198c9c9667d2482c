-- The three spaces by the blocks of each.
use Rattle.std.proofs.Common.{◌≡◌, ◌≢◌, List, refl, sym, ap, ◌∙◌}
use Rattle.mem_rec.specs.declared.Space.{Space}
use Rattle.mem_rec.specs.declared.Space.TheVariants.{Daram, Saram, External}
use Rattle.space_raw.specs.Span.{Extent}
use Rattle.host_map.specs.declared.placed.Placed.{Placed}
use Rattle.host_spaces.specs.Spaces.{SpaceState}
use Rattle.host_map.specs.declared.parts.Sizes.{Sizes}
use Rattle.host_spaces.specs.declared.spaces.Spaces.{Spaces}
use Rattle.host_spaces.specs.MemoryMap.{AreSameSpaces, IsSameSpace, map_of, sizes_of, space_in}
use Rattle.host_map.specs.MemoryMap.{MemoryMap, blocks_in, with_blocks, words_in}

pub daram_saram : Daram ≢ Saram
daram_saram e = let bad : Daram ≡ Saram = e in cc

pub daram_external : Daram ≢ External
daram_external e = let bad : Daram ≡ External = e in cc

pub saram_external : Saram ≢ External
saram_external e = let bad : Saram ≡ External = e in cc

pub seen_blocks : (spaces : Spaces) (space : Space) → blocks_in (map_of spaces) space ≡ (space_in spaces space).blocks
seen_blocks spaces Daram = refl
seen_blocks spaces Saram = refl
seen_blocks spaces External = refl

pub seen_words : (spaces : Spaces) (space : Space) → words_in (sizes_of spaces) space ≡ (space_in spaces space).region.size
seen_words spaces Daram = refl
seen_words spaces Saram = refl
seen_words spaces External = refl

pub maps_equal : (p q : MemoryMap) → p.daram ≡ q.daram → p.saram ≡ q.saram → p.external ≡ q.external → p ≡ q
maps_equal p q daram saram external =
    ap (λ (x : List Placed). let r : MemoryMap = record { daram = x; saram = p.saram; external = p.external } in r) daram
    ∙ ap (λ (x : List Placed). let r : MemoryMap = record { daram = q.daram; saram = x; external = p.external } in r) saram
    ∙ ap (λ (x : List Placed). let r : MemoryMap = record { daram = q.daram; saram = q.saram; external = x } in r) external

-- only the blocks of one space changed
pub map_with : (old new : Spaces) (space : Space) (bs : List Placed) → (space_in new space).blocks ≡ bs → ((other : Space) → other ≢ space → space_in new other ≡ space_in old other)
    → map_of new ≡ with_blocks (map_of old) space bs
map_with old new Daram bs is others =
    maps_equal (map_of new) (with_blocks (map_of old) Daram bs) is
    (ap (λ (s : SpaceState). s.blocks) (others Saram (λ e. daram_saram (sym e)))) (ap (λ (s : SpaceState). s.blocks) (others External (λ e. daram_external (sym e))))
map_with old new Saram bs is others =
    maps_equal (map_of new) (with_blocks (map_of old) Saram bs)
    (ap (λ (s : SpaceState). s.blocks) (others Daram daram_saram)) is (ap (λ (s : SpaceState). s.blocks) (others External (λ e. saram_external (sym e))))
map_with old new External bs is others =
    maps_equal (map_of new) (with_blocks (map_of old) External bs)
    (ap (λ (s : SpaceState). s.blocks) (others Daram daram_external)) (ap (λ (s : SpaceState). s.blocks) (others Saram saram_external)) is

pub sizes_same : (old new : Spaces) → AreSameSpaces old new → sizes_of new ≡ sizes_of old
sizes_same old new same =
    ap (λ (x : Extent). let r : Sizes = record { daram = x.size; saram = new.saram.region.size; external = new.external.region.size } in r) (same Daram).region
    ∙ ap (λ (x : Extent). let r : Sizes = record { daram = old.daram.region.size; saram = x.size; external = new.external.region.size } in r) (same Saram).region
    ∙ ap (λ (x : Extent). let r : Sizes = record { daram = old.daram.region.size; saram = old.saram.region.size; external = x.size } in r) (same External).region

states_equal : (a b : SpaceState) → IsSameSpace b a → a.blocks ≡ b.blocks → a ≡ b
states_equal a b same blocks =
    ap (λ (x : Extent). let s : SpaceState = record { region = x; slid = a.slid; blocks = a.blocks } in s) same.region
    ∙ ap (λ x. let s : SpaceState = record { region = b.region; slid = x; blocks = a.blocks } in s) same.slid
    ∙ ap (λ x. let s : SpaceState = record { region = b.region; slid = b.slid; blocks = x } in s) blocks

-- the same blocks in the same spaces
pub spaces_equal : (old new : Spaces) → AreSameSpaces old new → ((space : Space) → (space_in new space).blocks ≡ (space_in old space).blocks) → new ≡ old
spaces_equal old new same blocks =
    ap (λ (x : SpaceState). let s : Spaces = record { daram = x; saram = new.saram; external = new.external } in s) (states_equal new.daram old.daram (same Daram) (blocks Daram))
    ∙ ap (λ (x : SpaceState). let s : Spaces = record { daram = old.daram; saram = x; external = new.external } in s) (states_equal new.saram old.saram (same Saram) (blocks Saram))
    ∙ ap (λ (x : SpaceState). let s : Spaces = record { daram = old.daram; saram = old.saram; external = x } in s) (states_equal new.external old.external (same External) (blocks External))

pub same_then : (a b c : Spaces) → AreSameSpaces a b → AreSameSpaces b c → AreSameSpaces a c
same_then a b c first second = λ space. record {
  region = (second space).region ∙ (first space).region;
  slid = (second space).slid ∙ (first space).slid;
}

-- what holds of every space but one, and of that one
pub by_space : (space other : Space) (P : Space → Type 0) → P space → (other ≢ space → P other) → P other
by_space Daram Daram P here there = here
by_space Daram Saram P here there = there (λ e. daram_saram (sym e))
by_space Daram External P here there = there (λ e. daram_external (sym e))
by_space Saram Daram P here there = there daram_saram
by_space Saram Saram P here there = here
by_space Saram External P here there = there (λ e. saram_external (sym e))
by_space External Daram P here there = there daram_external
by_space External Saram P here there = there saram_external
by_space External External P here there = here
