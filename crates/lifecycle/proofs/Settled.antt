-- An instance whose bases were set stands where they say.
use Rattle.std.proofs.Common.{◌≡◌, ℕ, List, sym, subst}
use Rattle.mem_rec.specs.declared.MemRec.{MemRec}
use Rattle.record_loans.specs.declared.pieces.Pieces.{Pieces}
use Rattle.scratch_group.specs.declared.group.Group.{Group}
use Rattle.scratch_group.specs.Words.{placed}
use Rattle.host_shared.specs.declared.locations.Locations.{Locations}
use Rattle.host_shared.specs.Locations.{shared_at}
use Rattle.lifecycle.specs.States.{Fits}
use Rattle.lifecycle.proofs.Frames.{fits_settled}

-- the pieces are those that were asked for, and no location has changed
module _ (i : ℕ) (sharing sharing' : List Locations) (same : sharing' ≡ sharing) (rs rs' : List MemRec) (own asked : Pieces) (g : Group) (is : own ≡ asked)
    (based : rs' ≡ placed rs own (shared_at sharing i) g) (room : Fits (placed rs asked (shared_at sharing i) g) asked (shared_at sharing i) g) where
  pub settled_based : rs' ≡ placed rs own (shared_at sharing' i) g
  settled_based = subst (λ (xs : List Locations). rs' ≡ placed rs own (shared_at xs i) g) (sym same) based

  pub settled_fits : Fits rs' own (shared_at sharing' i) g
  settled_fits = subst (λ (xs : List Locations). Fits rs' own (shared_at xs i) g) (sym same) (fits_settled rs rs' own asked (shared_at sharing i) g is based room)
