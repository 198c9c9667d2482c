-- Each block has its name, and stands where it stood.
use Rattle.std.proofs.Common.{◌≡◌, ℕ, List, length, sym, ◌∙◌, ap, subst}
use Rattle.std.specs.List.{refill}
use Rattle.std.proofs.lemmas.List.{length-map}
use Rattle.host_map.specs.declared.placed.Owner.{Owner}
use Rattle.host_map.specs.declared.placed.Placed.{Placed}
use Rattle.host_map.specs.Blocks.{AreSingle, owned, renamed_block, renamed_blocks, renaming}
use Rattle.host_spaces.specs.Spaces.{AreKept, SpaceState}
use Rattle.host_spaces.proofs.Moving.{all_kept}
use Rattle.host_spaces.proofs.Renames.{kept_renamed, other_owner, owner_given, owner_left, single_renamed}
use Rattle.host_spaces.proofs.blocks.SpaceBlocks.rename.Goals as goal

as_named : (bs ws : List Placed) (from to : Owner) → ws ≡ renamed_blocks (renaming from to) bs → refill (length bs) bs ws ≡ renamed_blocks (renaming from to) bs
as_named bs ws from to is = all_kept bs ws (ap length is ∙ length-map bs (renamed_block (renaming from to))) ∙ is

items : (from to : Owner) {n : ℕ} {bs slice ws : List Placed} → n ≡ length bs → slice ≡ bs → ws ≡ renamed_blocks (renaming from to) slice → refill n bs ws ≡ renamed_blocks (renaming from to) bs
items from to {n} {bs} {slice} {ws} long same named = ap (λ m. refill m bs ws) long ∙ as_named bs ws from to (named ∙ ap (renamed_blocks (renaming from to)) same)

pub invariant_of-self : goal.invariant_of-self
invariant_of-self c = (
  subst (λ (bs : List Placed). AreKept c.self.inside.heap bs) (sym (items c.args.from c.args.to c.self.inside.blocks.ok.0 c.as_mut_slice.ensures.value c.rename_each.ensures))
      (kept_renamed (renaming c.args.from c.args.to) c.self.inside.heap c.self.inside.blocks.items c.self.invariant.0),
  c.self.invariant.1,
)

pub returns-clause-blocks : goal.returns-clause-blocks
returns-clause-blocks c = items c.args.from c.args.to c.self.inside.blocks.ok.0 c.as_mut_slice.ensures.value c.rename_each.ensures ∙ ap (λ (v : SpaceState). renamed_blocks (renaming c.args.from c.args.to) v.blocks) c.self.view_is

pub returns-clause-given : goal.returns-clause-given
returns-clause-given c =
    λ none.
    ap (owned c.args.to) (items c.args.from c.args.to c.self.inside.blocks.ok.0 c.as_mut_slice.ensures.value c.rename_each.ensures)
    ∙ owner_given c.args.from c.args.to c.self.inside.blocks.items (ap (λ (v : SpaceState). owned c.args.to v.blocks) c.self.view_is ∙ none)
    ∙ ap (λ (v : SpaceState). renamed_blocks (λ _. c.args.to) (owned c.args.from v.blocks)) c.self.view_is

pub returns-clause-left : goal.returns-clause-left
returns-clause-left c = λ apart. ap (owned c.args.from) (items c.args.from c.args.to c.self.inside.blocks.ok.0 c.as_mut_slice.ensures.value c.rename_each.ensures) ∙ owner_left c.args.from c.args.to apart c.self.inside.blocks.items

pub returns-clause-others : goal.returns-clause-others
returns-clause-others c =
    λ o apart away.
    ap (owned o) (items c.args.from c.args.to c.self.inside.blocks.ok.0 c.as_mut_slice.ensures.value c.rename_each.ensures) ∙ other_owner c.args.from c.args.to o apart away c.self.inside.blocks.items ∙ ap (λ (v : SpaceState). owned o v.blocks) c.self.view_is

pub returns-clause-single : goal.returns-clause-single
returns-clause-single c =
    λ single is none.
    subst (λ (bs : List Placed). AreSingle bs) (sym (items c.args.from c.args.to c.self.inside.blocks.ok.0 c.as_mut_slice.ensures.value c.rename_each.ensures))
    (single_renamed c.args.from c.args.to is c.self.inside.blocks.items (ap (λ (v : SpaceState). owned c.args.to v.blocks) c.self.view_is ∙ none)
    (subst (λ (v : SpaceState). AreSingle v.blocks) (sym c.self.view_is) single))
