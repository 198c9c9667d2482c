-- Pieces by their numbers, spaces and owners.
use Rattle.std.proofs.Common.{◌≡◌, ◌≢◌, ℕ, zero, suc, ◌<◌, Bool, true, false, [], ◌∷◌, length, Option, Some, refl, sym, ap, arith}
use Rattle.std.specs.List.{Contains}
use Rattle.std.proofs.lemmas.Bool.{true≢false}
use Rattle.std.proofs.lemmas.Option.{none-some}
use Rattle.space_raw.specs.Span.{Span}
use Rattle.mem_rec.specs.declared.Space.{Space}
use Rattle.mem_rec.specs.declared.Space.TheVariants.{Daram, Saram, External}
use Rattle.mem_rec.specs.declared.Attr.{Attr}
use Rattle.mem_rec.specs.declared.Attr.TheVariants.{Scratch, Persist, WriteOnce}
use Rattle.mem_rec.specs.Records.{same_space, is_persistent}
use Rattle.record_loans.specs.declared.pieces.Pieces.{Pieces}
use Rattle.record_loans.specs.Pieces.{piece_at, with_piece}
use Rattle.host_spaces.specs.Pieces.{is_write_once}
use Rattle.host_map.specs.declared.placed.Owner.{Owner}
use Rattle.host_map.specs.declared.placed.Owner.TheVariants.{Record, Scratch as GroupScratch}
use Rattle.lifecycle.specs.declared.instance.Inst.{Inst}
use Rattle.lifecycle.specs.declared.instance.Inst.TheVariants.{Idling, Running}
use Rattle.host_table.specs.Table.{instance_of}
use Rattle.host_moves.specs.Waiting.{inst_with}

pub piece_there : (ps : Pieces) (k : ℕ) (p : Span) → piece_at ps k ≡ Some p → k < 4
piece_there ps zero p e = omega arith
piece_there ps (suc zero) p e = omega arith
piece_there ps (suc (suc zero)) p e = omega arith
piece_there ps (suc (suc (suc zero))) p e = omega arith
piece_there ps (suc (suc (suc (suc k)))) p e = absurd (none-some _ e)

-- a piece that is replaced twice
pub piece_again : (ps : Pieces) (k : ℕ) (x y : Option Span) → with_piece (with_piece ps k x) k y ≡ with_piece ps k y
piece_again ps zero x y = refl
piece_again ps (suc zero) x y = refl
piece_again ps (suc (suc zero)) x y = refl
piece_again ps (suc (suc (suc zero))) x y = refl
piece_again ps (suc (suc (suc (suc k)))) x y = refl

pub one_space : (a b : Space) → same_space a b ≡ true → a ≡ b
one_space Daram Daram e = refl
one_space Saram Saram e = refl
one_space External External e = refl
one_space Daram Saram e = absurd (true≢false (sym e))
one_space Daram External e = absurd (true≢false (sym e))
one_space Saram Daram e = absurd (true≢false (sym e))
one_space Saram External e = absurd (true≢false (sym e))
one_space External Daram e = absurd (true≢false (sym e))
one_space External Saram e = absurd (true≢false (sym e))

pub other_space : (a b : Space) → same_space a b ≡ false → b ≢ a
other_space Daram Daram e = λ h. true≢false e
other_space Saram Saram e = λ h. true≢false e
other_space External External e = λ h. true≢false e
other_space Daram Saram e = λ h. cc
other_space Daram External e = λ h. cc
other_space Saram Daram e = λ h. cc
other_space Saram External e = λ h. cc
other_space External Daram e = λ h. cc
other_space External Saram e = λ h. cc

pub persists : (a : Attr) → is_persistent a ≡ true → a ≡ Persist
persists Scratch e = absurd (true≢false (sym e))
persists Persist e = refl
persists WriteOnce e = absurd (true≢false (sym e))

pub written_once : (a : Attr) → is_write_once a ≡ true → a ≡ WriteOnce
written_once Scratch e = absurd (true≢false (sym e))
written_once Persist e = absurd (true≢false (sym e))
written_once WriteOnce e = refl

pub other_instance : (i j k l : ℕ) → j ≢ i → Record j l ≢ Record i k
other_instance i j k l apart e = apart (ap number e)
  where
    number : Owner → ℕ
    number (Record a b) = a
    number (GroupScratch g) = 0

pub other_record : (i j k l : ℕ) → l ≢ k → Record j l ≢ Record i k
other_record i j k l apart e = apart (ap number e)
  where
    number : Owner → ℕ
    number (Record a b) = b
    number (GroupScratch g) = 0

pub not_a_group : (i k g : ℕ) → Record i k ≢ GroupScratch g
not_a_group i k g e = true≢false (ap is_record e)
  where
    is_record : Owner → Bool
    is_record (Record a b) = true
    is_record (GroupScratch h) = false

pub other_group : (g h : ℕ) → h ≢ g → GroupScratch h ≢ GroupScratch g
other_group g h apart e = apart (ap number e)
  where
    number : Owner → ℕ
    number (Record a b) = 0
    number (GroupScratch l) = l

pub inst_is : {M : Type 0} (inst : Inst M) (own : Pieces) → instance_of (inst_with inst own) ≡ record (instance_of inst) { own = own }
inst_is (Idling s) own = refl
inst_is (Running s) own = refl

-- the only block in a list
pub only_one : {A : Type 0} (b : A) → Contains (b ∷ []) b
only_one b = (0, (let some : 0 < length (b ∷ []) = omega arith in some), refl)
