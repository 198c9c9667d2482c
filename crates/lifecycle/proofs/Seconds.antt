-- What is told by the piece of the second record alone, the one that is write-once.
use Rattle.std.proofs.Common.{◌≡◌, ℕ, ℤ, zero, suc, List, [], ◌∷◌, Option, None, Some, refl, sym}
use Rattle.std.specs.Prelude.{IfSome}
use Rattle.mem_rec.specs.declared.MemRec.{MemRec}
use Rattle.mem_rec.specs.declared.Attr.TheVariants.{WriteOnce}
use Rattle.ialg.specs.Log.{Log, fed}
use Rattle.ialg.specs.Laws.{Laws}
use Rattle.ialg.specs.Records.{record_at}
use Rattle.record_loans.specs.declared.pieces.Pieces.{Pieces}
use Rattle.record_loans.specs.Pieces.{only_second, piece_at, IsInSpace}
use Rattle.scratch_group.specs.declared.group.Group.{Group}
use Rattle.scratch_group.specs.Words.{InSpaces}
use Rattle.lifecycle.specs.declared.instance.Instance.{Instance}
use Rattle.lifecycle.specs.Keeping.{TellsOutput}
use Rattle.lifecycle.specs.States.{Fits, SameOnce, ActiveRefines}
use Rattle.lifecycle.proofs.Written.{active_written}

-- where no other record than the second is write-once, its piece alone gives the same words
module _ (rs : List MemRec) (second : (k : ℕ) → (record_at rs k).attr ≡ WriteOnce → k ≡ 1) where
  second_alone : (a : Pieces) → SameOnce rs a (only_second a.p1)
  second_alone a k attr = rw (second k attr) refl

  second_among : (a : Pieces) → SameOnce rs (only_second a.p1) a
  second_among a k attr = rw (second k attr) refl

  second_in_space : (own a : Pieces) (g : Group) → InSpaces own a g → (k : ℕ) → IsInSpace (piece_at (only_second a.p1) k)
  second_in_space own a g spaces zero = tt
  second_in_space own a g spaces (suc zero) = spaces.shared_space 1
  second_in_space own a g spaces (suc (suc zero)) = tt
  second_in_space own a g spaces (suc (suc (suc zero))) = tt
  second_in_space own a g spaces (suc (suc (suc (suc k)))) = tt

  fits_second : (own a : Pieces) (g : Group) → Fits rs own a g → Fits rs own (only_second a.p1) g
  fits_second own a g fits = record {
    lent = rw (active_written rs own a (only_second a.p1) g (second_alone a)) fits.lent;
    spaces = record { own_space = fits.spaces.own_space; shared_space = second_in_space own a g fits.spaces; block_space = fits.spaces.block_space };
  }

  active_like : {M : Type 0} (laws : Laws M) (s : Instance M) (w : Option ℤ) (a b : Pieces) (g : Group) (l : Log) → s.table ≡ rs → SameOnce rs a b
      → ActiveRefines laws s w a g l → ActiveRefines laws s w b g l
  active_like laws s w a b g l table same keeps lawful = rw (active_written s.table s.own a b g (rw table same)) (keeps lawful)

  -- what was told by the piece of the second record alone
  pub told_second : {M : Type 0} (laws : Laws M) (s : Instance M) (a : Pieces) (x : ℤ) (told : Option ℤ) → s.table ≡ rs
      → IfSome told (TellsOutput laws s (only_second a.p1) x) → IfSome told (TellsOutput laws s a x)
  told_second laws s a x None table did = tt
  told_second laws s a x (Some y) table did =
      let alone : (w : Option ℤ) (g : Group) (l : Log) → ActiveRefines laws s w a g l → ActiveRefines laws s w (only_second a.p1) g l =
      λ w g l before. active_like laws s w a (only_second a.p1) g l table (second_alone a) before in
      let fits_alone : (g : Group) → Fits s.table s.own a g → Fits s.table s.own (only_second a.p1) g =
      λ g fits. rw table (fits_second s.own a g (rw (sym table) fits)) in
      record {
        keeps = λ g fits w l before.
            active_like laws s w (only_second a.p1) a g (fed l (x ∷ [])) table (second_among a) (did.keeps g (fits_alone g fits) w l (alone w g l before));
        output = λ g fits w l lawful before. did.output g (fits_alone g fits) w l lawful (alone w g l before);
      }
