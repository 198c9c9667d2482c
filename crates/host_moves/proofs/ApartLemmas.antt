-- What is lent to one instance is never another's, but for write-once words among those that are alike in them.
use Rattle.std.proofs.Common.{◌≡◌, ◌≢◌, ◌⊎◌, inl, inr, ℕ, Bool, true, false, List, [], Option, Some, None, refl, sym, ◌∙◌, ap, subst}
use Rattle.std.specs.List.{Contains}
use Rattle.std.specs.Prelude.{if◌then◌else◌}
use Rattle.std.proofs.lemmas.Bool.Decides.{eqb_tells}
use Rattle.std.proofs.lemmas.Option.{none-some}
use Rattle.space_raw.specs.Span.{Span, Apart}
use Rattle.mem_rec.specs.declared.Space.{Space}
use Rattle.mem_rec.specs.Records.{same_space}
use Rattle.ialg.specs.Records.{record_at}
use Rattle.record_loans.specs.Blocks.{block_align, block_piece}
use Rattle.scratch_group.specs.declared.group.Group.{Group}
use Rattle.scratch_group.specs.Blocks.{block_in}
use Rattle.lifecycle.specs.Rooms.{piece_of_record}
use Rattle.host_map.specs.declared.placed.Owner.{Owner}
use Rattle.host_map.specs.declared.placed.Owner.TheVariants.{Record, Scratch}
use Rattle.host_map.specs.declared.placed.Placed.{Placed}
use Rattle.host_spaces.specs.Blocks.{Owns, block_of, block_of_piece}
use Rattle.host_map.specs.Blocks.{owned}
use Rattle.host_spaces.specs.declared.spaces.Spaces.{Spaces}
use Rattle.host_map.specs.MemoryMap.{blocks_in}
use Rattle.host_spaces.specs.MemoryMap.{map_of}
use Rattle.host_table.specs.declared.member.Member.{Member}
use Rattle.host_shared.specs.declared.locations.Locations.{Locations}
use Rattle.host_shared.specs.Locations.{owner_of, shared_at}
use Rattle.host_table.specs.Table.{AreHeld, slot_at, group_at, instance_of}
use Rattle.host_table.proofs.Held.{alike_at}
use Rattle.host_moves.specs.Standing.{AgreeWithMap, table_of}
use Rattle.host_moves.specs.Lent.{AreSharers, lent_record, record_in}
use Rattle.host_moves.proofs.Instances.{only_one}

-- two owners that are records of other instances, or of other numbers
abbrev record_number : Owner → ℕ
record_number (Record i k) = k
record_number (Scratch g) = 0

abbrev record_owner : Owner → ℕ
record_owner (Record i k) = i
record_owner (Scratch g) = 0

other_number : (h k j l : ℕ) → k ≢ l → Record h k ≢ Record j l
other_number h k j l apart same = apart (ap record_number same)

other_owner : (h k j l : ℕ) → h ≢ j → Record h k ≢ Record j l
other_owner h k j l apart same = apart (ap record_owner same)

not_scratch : (h k g : ℕ) → Record h k ≢ Scratch g
not_scratch h k g same = cc

abbrev group_number : Owner → ℕ
group_number (Record i k) = 0
group_number (Scratch g) = g

other_group : (g h : ℕ) → g ≢ h → Scratch g ≢ Scratch h
other_group g h apart same = apart (ap group_number same)

-- the block of a piece is its owner's
owns_piece : (owner : Owner) (align : ℕ) (x : Option Span) (p : Span) (bs : List Placed) → owned owner bs ≡ block_of_piece owner align x → x ≡ Some p → Owns bs owner p
owns_piece owner align x p bs is there =
    (align, subst (λ (cs : List Placed). Contains cs (block_of owner align p)) (sym (is ∙ ap (block_of_piece owner align) there)) (only_one (block_of owner align p)))

owns_if : (t : Bool) (owner : Owner) (align : ℕ) (x : Option Span) (p : Span) (bs : List Placed) → owned owner bs ≡ (if t then block_of_piece owner align x else [])
    → (if t then x else None) ≡ Some p → Owns bs owner p
owns_if true owner align x p bs is lent = owns_piece owner align x p bs is lent
owns_if false owner align x p bs is lent = absurd (none-some p lent)

-- two pieces of one space, of other owners
abbrev AreApartOwners : List Placed → Type 0
AreApartOwners bs = (o q : Owner) (s t : Span) → Owns bs o s → Owns bs q t → o ≢ q → Apart s t

module _ {M : Type 0} (instances : List (Option (Member M))) (sharing : List Locations) (groups : List Group) (spaces : Spaces) (standing : AgreeWithMap instances sharing groups spaces) (space : Space) where
  abbrev bs : List Placed
  bs = blocks_in (map_of spaces) space

  lent_owns : (i k : ℕ) (x : Option (Member M)) (p : Span) → slot_at instances i ≡ x → record_in x (shared_at sharing i) k space ≡ Some p → Owns bs (Record (owner_of sharing i k) k) p
  lent_owns i k None p at lent = absurd (none-some p lent)
  lent_owns i k (Some m) p at lent =
      owns_if (same_space (record_at (table_of m) k).space space) (Record (owner_of sharing i k) k) (record_at (table_of m) k).align (piece_of_record (table_of m) (instance_of m.inst).own (shared_at sharing i) k) p bs
      ((standing.owners i m at).records k space) lent

  block_owns : (g : ℕ) (p : Span) → block_piece (block_in (group_at groups g) space) ≡ Some p → Owns bs (Scratch g) p
  block_owns g p there =
      owns_piece (Scratch g) (block_align (block_in (group_at groups g) space)) (block_piece (block_in (group_at groups g) space)) p bs (standing.blocks g space) there

  alike_in : AreHeld instances sharing → (i j k : ℕ) (x y : Option (Member M)) (p q : Span) → slot_at instances i ≡ x → slot_at instances j ≡ y → record_in x (shared_at sharing i) k space ≡ Some p → record_in y (shared_at sharing j) k space ≡ Some q
      → i ≢ j → owner_of sharing i k ≡ owner_of sharing j k → AreSharers k x y
  alike_in held i j k None y p q at_i at_j lent_i lent_j apart owner = absurd (none-some p lent_i)
  alike_in held i j k (Some m) None p q at_i at_j lent_i lent_j apart owner = absurd (none-some q lent_j)
  alike_in held i j k (Some m) (Some n) p q at_i at_j lent_i lent_j apart owner = alike_at instances sharing held i j k m n at_i at_j (λ same. apart (sym same)) (sym owner)

  -- two records that are lent
  pub records_apart : AreHeld instances sharing → AreApartOwners bs → (i j k l : ℕ) (p q : Span) → lent_record instances sharing i k space ≡ Some p → lent_record instances sharing j l space ≡ Some q → (i ≢ j) ⊎ (k ≢ l)
      → Apart p q ⊎ ((i ≢ j) × (k ≡ l) × AreSharers k (slot_at instances i) (slot_at instances j))
  records_apart held law i j k l p q lent_i lent_j other =
      let first = lent_owns i k (slot_at instances i) p refl lent_i in
      let second = lent_owns j l (slot_at instances j) q refl lent_j in
      elim (eqb_tells k l) [
        | inr e ↦ inl (law (Record (owner_of sharing i k) k) (Record (owner_of sharing j l) l) p q first second (other_number (owner_of sharing i k) k (owner_of sharing j l) l e.1))
        | inl e ↦
            elim (eqb_tells (owner_of sharing i k) (owner_of sharing j l)) [
              | inr f ↦ inl (law (Record (owner_of sharing i k) k) (Record (owner_of sharing j l) l) p q first second (other_owner (owner_of sharing i k) k (owner_of sharing j l) l f.1))
              | inl f ↦
                  let apart : i ≢ j = elim other [ inl differ ↦ differ | inr differ ↦ absurd (differ e.1) ] in
                  let same : l ≡ k = sym e.1 in
                  inr (
                    apart,
                    e.1,
                    alike_in held i j k (slot_at instances i) (slot_at instances j) p q refl refl lent_i (subst (λ (n : ℕ). lent_record instances sharing j n space ≡ Some q) same lent_j) apart
                        (f.1 ∙ ap (owner_of sharing j) same),
                  )
            ]
      ]

  -- a record and a group's block
  pub scratch_apart : AreApartOwners bs → (i k g : ℕ) (p q : Span) → lent_record instances sharing i k space ≡ Some p → block_piece (block_in (group_at groups g) space) ≡ Some q → Apart p q
  scratch_apart law i k g p q lent there =
      law (Record (owner_of sharing i k) k) (Scratch g) p q (lent_owns i k (slot_at instances i) p refl lent) (block_owns g q there) (not_scratch (owner_of sharing i k) k g)

  -- the blocks of two groups
  pub groups_apart : AreApartOwners bs → (g h : ℕ) (p q : Span) → g ≢ h → block_piece (block_in (group_at groups g) space) ≡ Some p → block_piece (block_in (group_at groups h) space) ≡ Some q → Apart p q
  groups_apart law g h p q apart first second = law (Scratch g) (Scratch h) p q (block_owns g p first) (block_owns h q second) (other_group g h apart)
