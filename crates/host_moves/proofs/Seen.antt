-- The words of an instance's records, wherever they lie.
use Rattle.std.proofs.Common.{◌≡◌, ℕ, ℤ, zero, suc, List, [], ◌∷◌, length, take, drop, Option, Some, None, refl, sym, ◌∙◌, ap, arith, length-take, length-drop}
use Rattle.std.proofs.lemmas.Option.{none-some}
use Rattle.mem_rec.specs.declared.MemRec.{MemRec}
use Rattle.mem_rec.specs.declared.Space.{Space}
use Rattle.mem_rec.specs.declared.Attr.{Attr}
use Rattle.mem_rec.specs.declared.Attr.TheVariants.{Scratch, Persist, WriteOnce}
use Rattle.ialg.specs.History.{History}
use Rattle.ialg.specs.Log.{Log}
use Rattle.ialg.specs.Records.{record_at, words_of}
use Rattle.ialg.specs.Laws.{Laws}
use Rattle.record_loans.specs.declared.block.ScratchBlock.{ScratchBlock}
use Rattle.record_loans.specs.declared.pieces.Pieces.{Pieces}
use Rattle.record_loans.specs.Pieces.{piece_at, piece_words}
use Rattle.record_loans.specs.Blocks.{block_words}
use Rattle.scratch_group.specs.declared.group.Group.{Group}
use Rattle.scratch_group.specs.Blocks.{block_in}
use Rattle.scratch_group.specs.Words.{words_by, lasting_words_by, record_words, active_words, idle_record_words, idle_words, scratch_offset}
use Rattle.lifecycle.specs.declared.instance.Inst.{Inst}
use Rattle.lifecycle.specs.declared.instance.Inst.TheVariants.{Idling, Running}
use Rattle.host_table.specs.declared.member.Member.{Member}
use Rattle.host_shared.specs.declared.locations.Locations.{Locations}
use Rattle.host_table.specs.Table.{slot_at, group_at, instance_of, active_in, slot_active_in, IsHoused, TablesOk}
use Rattle.host_shared.specs.Locations.{shared_at}
use Rattle.host_table.specs.Refinement.{HistoriesRefine, InstRefines, SlotRefines, SlotsRefine, logs_of}
use Rattle.host_table.specs.Frames.{InactiveGroupsStay}
use Rattle.host_moves.specs.Waiting.{SameWords, SlotStays, BlockStays, WordsStay}
use Rattle.host_moves.specs.Moves.{InactiveWordsStay}

idle_words_seen : (rs : List MemRec) (own own' shared shared' : Pieces) → SameWords own own' → SameWords shared shared' → idle_words rs own' shared' ≡ idle_words rs own shared
idle_words_seen rs own own' shared shared' o s =
    let at : (k : ℕ) → idle_record_words rs own' shared' k ≡ idle_record_words rs own shared k =
    λ k. ap (λ (ws : List ℤ). lasting_words_by (record_at rs k).attr (record_at rs k).size ws (piece_words (piece_at shared' k))) (o k)
    ∙ ap (λ (ws : List ℤ). lasting_words_by (record_at rs k).attr (record_at rs k).size (piece_words (piece_at own k)) ws) (s k) in
    let old = idle_record_words rs own shared in
    let new = idle_record_words rs own' shared' in
    ap (λ (ws : List ℤ). ws ∷ new 1 ∷ new 2 ∷ new 3 ∷ []) (at 0)
    ∙ ap (λ (ws : List ℤ). old 0 ∷ ws ∷ new 2 ∷ new 3 ∷ []) (at 1)
    ∙ ap (λ (ws : List ℤ). old 0 ∷ old 1 ∷ ws ∷ new 3 ∷ []) (at 2)
    ∙ ap (λ (ws : List ℤ). old 0 ∷ old 1 ∷ old 2 ∷ ws ∷ []) (at 3)

too_few : (n at : ℕ) (none : List ℤ) → length none ≡ 0 → length (take (suc n) (drop at none)) ≡ suc n → ⊥
too_few n at none empty e = omega (arith, empty, e, length-take (suc n) (drop at none), length-drop at none)

-- no scratch record has words where there is no block
none_there : (n at : ℕ) (ws none : List ℤ) → length none ≡ 0 → length (take n (drop at none)) ≡ n → take n ws ≡ take n (drop at none)
none_there zero at ws none empty e = refl
none_there (suc n) at ws none empty e = absurd (too_few n at none empty e)

scratch_seen : (n at : ℕ) (b b' : Option ScratchBlock) → BlockStays b b' → length (take n (drop at (block_words b))) ≡ n
    → take n (drop at (block_words b')) ≡ take n (drop at (block_words b))
scratch_seen n at None b' stays e = none_there n at (drop at (block_words b')) [] refl e
scratch_seen n at (Some b) b' stays e = ap (λ (ws : List ℤ). take n (drop at ws)) stays

record_seen : (a : Attr) (n at : ℕ) {o o' s s' : List ℤ} (b b' : Option ScratchBlock) → o' ≡ o → s' ≡ s → BlockStays b b'
    → length (words_by a n o s (drop at (block_words b))) ≡ n → words_by a n o' s' (drop at (block_words b')) ≡ words_by a n o s (drop at (block_words b))
record_seen Scratch n at b b' eo es stays e = scratch_seen n at b b' stays e
record_seen Persist n at b b' eo es stays e = ap (take n) eo
record_seen WriteOnce n at b b' eo es stays e = ap (take n) es

active_words_seen : (rs : List MemRec) (own own' shared shared' : Pieces) (y y' : Group) → SameWords own own' → SameWords shared shared'
    → ((space : Space) → BlockStays (block_in y space) (block_in y' space))
    → ((k : ℕ) → length (words_of (active_words rs own shared y) k) ≡ (record_at rs k).size)
    → active_words rs own' shared' y' ≡ active_words rs own shared y
active_words_seen rs own own' shared shared' y y' o s stays sizes =
    let at : (k : ℕ) → length (record_words rs own shared y k) ≡ (record_at rs k).size → record_words rs own' shared' y' k ≡ record_words rs own shared y k =
    λ k size. record_seen (record_at rs k).attr (record_at rs k).size (scratch_offset rs k) _ _ (o k) (s k) (stays (record_at rs k).space) size in
    let old = record_words rs own shared y in
    let new = record_words rs own' shared' y' in
    ap (λ (ws : List ℤ). ws ∷ new 1 ∷ new 2 ∷ new 3 ∷ []) (at 0 (sizes 0))
    ∙ ap (λ (ws : List ℤ). old 0 ∷ ws ∷ new 2 ∷ new 3 ∷ []) (at 1 (sizes 1))
    ∙ ap (λ (ws : List ℤ). old 0 ∷ old 1 ∷ ws ∷ new 3 ∷ []) (at 2 (sizes 2))
    ∙ ap (λ (ws : List ℤ). old 0 ∷ old 1 ∷ old 2 ∷ ws ∷ []) (at 3 (sizes 3))

module _ {M : Type 0} (laws : Laws M) (w : Option ℤ) (h : Log) where
  inst_seen : (k : ℕ) (a b : Inst M) (o o' : Pieces) (y y' : Group) → active_in k b ≡ active_in k a
      → (instance_of b).kind ≡ (instance_of a).kind → (instance_of b).params ≡ (instance_of a).params → (instance_of b).table ≡ (instance_of a).table
      → SameWords (instance_of a).own (instance_of b).own → SameWords o o'
      → (active_in k a ≡ Some k → (space : Space) → BlockStays (block_in y space) (block_in y' space)) → IsHoused (instance_of a) o y
      → InstRefines laws w a o y h → InstRefines laws w b o' y' h
  inst_seen k (Idling s) (Idling n) o o' y y' state kind params table own shared blocks housed keeps =
      λ lawful. rw (kind, params, table, idle_words_seen s.instance.table s.instance.own n.instance.own o o' own shared) (keeps (rw (kind, params) at lawful))
  inst_seen k (Idling s) (Running n) o o' y y' state kind params table own shared blocks housed keeps = absurd (none-some _ (sym state))
  inst_seen k (Running s) (Idling n) o o' y y' state kind params table own shared blocks housed keeps = absurd (none-some _ state)
  inst_seen k (Running s) (Running n) o o' y y' state kind params table own shared blocks housed keeps =
      λ lawful. rw (kind, params, table, active_words_seen s.instance.table s.instance.own n.instance.own o o' y y' own shared (blocks refl) housed.fits.lent.sizes)
      (keeps (rw (kind, params) at lawful))

  slot_seen : (slot slot' : Option (Member M)) (o o' : Pieces) (groups groups' : List Group) → SlotStays slot slot' → SameWords o o'
      → ((g : ℕ) (space : Space) → slot_active_in slot ≡ Some g → BlockStays (block_in (group_at groups g) space) (block_in (group_at groups' g) space))
      → ((m : Member M) → slot ≡ Some m → IsHoused (instance_of m.inst) o (group_at groups m.group))
      → SlotRefines laws w slot o groups h → SlotRefines laws w slot' o' groups' h
  slot_seen None slot' o o' groups groups' stays shared blocks housed keeps = rw stays tt
  slot_seen (Some m) None o o' groups groups' stays shared blocks housed keeps = absurd stays
  slot_seen (Some m) (Some n) o o' groups groups' stays shared blocks housed keeps =
      rw stays.group
      (inst_seen m.group m.inst n.inst o o' (group_at groups m.group) (group_at groups' m.group) stays.state stays.kind stays.params stays.table stays.own shared
      (λ active space. blocks m.group space active) (housed m refl) keeps)

pub words_seen : {M : Type 0} {instances instances' : List (Option (Member M))} {sharing sharing' : List Locations} {groups groups' : List Group}
    (laws : Laws M) (w : Option ℤ) (histories : ℕ → Log) → TablesOk instances sharing groups
    → WordsStay instances sharing groups instances' sharing' groups'
    → SlotsRefine laws w instances sharing groups histories → SlotsRefine laws w instances' sharing' groups' histories
words_seen {M} {instances} {instances'} {sharing} {sharing'} {groups} {groups'} laws w histories ok stays keeps i =
    slot_seen laws w (histories i) (slot_at instances i) (slot_at instances' i) (shared_at sharing i) (shared_at sharing' i) groups groups' (stays.slot i) (stays.pieces i)
    (λ g space active. stays.blocks g i space active) (λ m at. ok.housed i m at) (keeps i)

-- and so its history
pub histories_seen : {M : Type 0} {instances instances' : List (Option (Member M))} {sharing sharing' : List Locations} {groups groups' : List Group}
    (laws : Laws M) (w : Option ℤ) (histories : ℕ → History) → TablesOk instances sharing groups
    → WordsStay instances sharing groups instances' sharing' groups'
    → HistoriesRefine laws w instances sharing groups histories → HistoriesRefine laws w instances' sharing' groups' histories
histories_seen laws w histories ok stays keeps = (keeps.0, words_seen laws w (logs_of histories keeps.0) ok stays keeps.1)

pub words_at_rest : (groups groups' : List Group) → InactiveGroupsStay groups groups' → InactiveWordsStay groups groups'
words_at_rest groups groups' stay g space none = ap (λ (y : Group). block_words (block_in y space)) (stay g none)
