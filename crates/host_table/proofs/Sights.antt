-- What the other instances see of write-once records, while one of them is called.
use Rattle.std.proofs.Common.{◌≡◌, ◌≢◌, ℕ, ℤ, ◌<◌, List, [], ◌∷◌, length, take, drop, Option, Some, None, refl, sym, ap, ◌∙◌}
use Rattle.mem_rec.specs.declared.MemRec.{MemRec}
use Rattle.mem_rec.specs.declared.Attr.{Attr}
use Rattle.mem_rec.specs.declared.Attr.TheVariants.{Scratch, Persist, WriteOnce}
use Rattle.ialg.specs.Log.{Log}
use Rattle.ialg.specs.Records.{record_at}
use Rattle.ialg.specs.Laws.{Laws}
use Rattle.record_loans.specs.declared.pieces.Pieces.{Pieces}
use Rattle.record_loans.specs.Pieces.{piece_at, piece_words, SamePieces}
use Rattle.record_loans.specs.Blocks.{block_words}
use Rattle.scratch_group.specs.declared.group.Group.{Group}
use Rattle.scratch_group.specs.Blocks.{block_in}
use Rattle.scratch_group.specs.Words.{words_by, record_words, active_words, lasting_words_by, idle_record_words, idle_words, scratch_offset}
use Rattle.lifecycle.specs.declared.instance.Inst.{Inst}
use Rattle.lifecycle.specs.declared.instance.Inst.TheVariants.{Idling, Running}
use Rattle.lifecycle.specs.States.{SameOnce, IsLawful}
use Rattle.host_table.specs.declared.member.Member.{Member}
use Rattle.host_shared.specs.declared.locations.Locations.{Locations}
use Rattle.host_shared.specs.Owners.{with_pieces_of}
use Rattle.host_table.specs.Table.{slot_at, group_at, instance_of, AreHeld}
use Rattle.host_shared.specs.Locations.{shared_at}
use Rattle.host_table.specs.Refinement.{InstRefines, SlotRefines}
use Rattle.lifecycle.proofs.Written.{idle_written, active_written}
use Rattle.host_shared.proofs.Owners.{count_seen, lent_here}
use Rattle.host_shared.proofs.Lent.{owners_of_all, pieces_lent}
use Rattle.host_table.proofs.SeenWords.{words_lent}
use Rattle.host_table.proofs.Held.{owners_of_held, alike_at}

-- instance i sees the pieces o from now on, and each other one sees the same pieces
pub record Views (sharing : List Locations) (i : ℕ) (o : Pieces) (sharing' : List Locations) : Type 0 where
  pub count : length sharing' ≡ length sharing
  pub here : shared_at sharing' i ≡ o
  pub others : (j : ℕ) → j ≢ i → SamePieces (shared_at sharing j) (shared_at sharing' j)

-- and with the same words of its write-once records
pub record Sees {M : Type 0} (instances : List (Option (Member M))) (sharing : List Locations) (i : ℕ) (o : Pieces) (sharing' : List Locations) : Type 0 where
  pub count : length sharing' ≡ length sharing
  pub here : shared_at sharing' i ≡ o
  pub others : (j : ℕ) → j ≢ i → SamePieces (shared_at sharing j) (shared_at sharing' j)
  pub written : (j : ℕ) (n : Member M) → j ≢ i → slot_at instances j ≡ Some n → SameOnce (instance_of n.inst).table (shared_at sharing j) (shared_at sharing' j)

pub views_of : {M : Type 0} (instances : List (Option (Member M))) (sharing : List Locations) (i : ℕ) (o : Pieces) (sharing' : List Locations) → Sees instances sharing i o sharing' → Views sharing i o sharing'
views_of instances sharing i o sharing' sees = record { count = sees.count; here = sees.here; others = sees.others }

-- where its pieces were put back at their owners, with the same words of its write-once records
pub sees_lent : {M : Type 0} (instances : List (Option (Member M))) (sharing : List Locations) (i : ℕ) (m : Member M) (o : Pieces) → AreHeld instances sharing → i < length sharing → slot_at instances i ≡ Some m
    → SamePieces (shared_at sharing i) o → SameOnce (instance_of m.inst).table (shared_at sharing i) o → Sees instances sharing i o (with_pieces_of sharing i o)
sees_lent instances sharing i m o held inside at pieces written =
    let owners = owners_of_all sharing i (owners_of_held instances sharing held) inside in
    record {
      count = count_seen sharing i owners o;
      here = lent_here sharing i owners o;
      others = λ j apart. pieces_lent sharing i owners o pieces j;
      written = λ j n apart at_j.
          words_lent sharing i owners o j (instance_of m.inst).table (instance_of n.inst).table written
          (λ k owner.
          let both = alike_at instances sharing held i j k m n at at_j apart owner in
          (both.once, sym (ap (λ (r : MemRec). r.size) both.shape)));
    }

-- an instance whose write-once words stay keeps its history: one that is lawful, since the others owe nothing
module _ {M : Type 0} (laws : Laws M) (w : Option ℤ) (shared shared' : Pieces) (h : Log) where
  inst_sees : (inst : Inst M) (g : Group) → (IsLawful laws.meaning (instance_of inst) w → SameOnce (instance_of inst).table shared shared')
      → InstRefines laws w inst shared g h → InstRefines laws w inst shared' g h
  inst_sees (Idling s) g same keeps = λ lawful. rw (idle_written s.instance.table s.instance.own shared shared' (same lawful)) (keeps lawful)
  inst_sees (Running s) g same keeps = λ lawful. rw (active_written s.instance.table s.instance.own shared shared' g (same lawful)) (keeps lawful)

  pub slot_sees : (slot : Option (Member M)) (groups : List Group) → ((n : Member M) → slot ≡ Some n → IsLawful laws.meaning (instance_of n.inst) w → SameOnce (instance_of n.inst).table shared shared')
      → SlotRefines laws w slot shared groups h → SlotRefines laws w slot shared' groups h
  slot_sees None groups same keeps = tt
  slot_sees (Some m) groups same keeps = inst_sees m.inst (group_at groups m.group) (same m refl) keeps
