-- Blocks that go back, by their owners and by their places.
use Rattle.std.proofs.lemmas.Bool.{eq-eqb}
use Rattle.std.proofs.Common.{◌≡◌, ◌≢◌, ℕ, zero, suc, ◌+◌, ◌<◌, ◌≤◌, ◌==◌, Bool, true, false, not, ◌&&◌, cond, if◌then◌else◌, List, [], ◌∷◌, filter, length, Option, Some, None, IfSome, IsSome, refl, sym, ap, subst, ◌∙◌, add-one, get_or, arith, inl, inr}
use Rattle.std.specs.Option.{option_map, option_map_or, option_or}
use Rattle.mem_rec.specs.declared.MemRec.{MemRec}
use Rattle.mem_rec.specs.declared.Space.{Space}
use Rattle.mem_rec.specs.declared.Space.TheVariants.{Daram, Saram, External}
use Rattle.mem_rec.specs.declared.Attr.{Attr}
use Rattle.mem_rec.specs.declared.Attr.TheVariants.{Persist, WriteOnce, Scratch as ScratchRecord}
use Rattle.mem_rec.specs.Records.{is_persistent, same_space}
use Rattle.space_raw.specs.Span.{Extent, Span}
use Rattle.relocate.specs.Places.{placed_size}
use Rattle.ialg.specs.Records.{record_at}
use Rattle.record_loans.specs.declared.pieces.Pieces.{Pieces}
use Rattle.record_loans.specs.Pieces.{no_pieces, piece_at, with_piece}
use Rattle.relocate.proofs.RangeTests.{clash, true_or_false, when_not}
use Rattle.host_map.specs.declared.placed.Owner.{Owner}
use Rattle.host_map.specs.declared.placed.Owner.TheVariants.{Record, Scratch}
use Rattle.host_map.specs.declared.placed.Placed.{Placed}
use Rattle.host_spaces.specs.Blocks.{Owns, block_of_piece, without_piece}
use Rattle.host_map.specs.Blocks.{disowned, owned, same_owner, without_at}
use Rattle.host_spaces.specs.Spaces.{SpaceState}
use Rattle.host_spaces.proofs.Orders.{dropped, kept}
use Rattle.host_spaces.proofs.Owners.{disowned_none, owned_beside, owns_one}
use Rattle.host_spaces.specs.declared.pieces.OldBlocks.{OldBlocks}
use Rattle.host_spaces.specs.declared.spaces.Spaces.{Spaces}
use Rattle.host_map.specs.MemoryMap.{MemoryMap, blocks_in, is_group's, is_instance's, without_owners}
use Rattle.host_spaces.specs.MemoryMap.{AreSameSpaces, map_of, space_in}
use Rattle.host_map.specs.Creation.{replaced_block, without_replaced}
use Rattle.lifecycle.specs.Rooms.{lasting_piece}
use Rattle.host_spaces.specs.Changes.{LeavesAnyOwner, OthersStayBesideAny}
use Rattle.host_spaces.specs.MapChanges.{AllButGroupStay, OtherSpacesStay}
use Rattle.host_spaces.specs.Placing.{AreOfGroup, LeaveTheirGroup}
use Rattle.host_spaces.specs.Pieces.{ArePlacedPieces, AreRecordsOf, HasRecords, IsPieceOf, is_placed_once, old_piece, record_block, spaces_of, without_pieces}
use Rattle.host_spaces.proofs.Maps.{by_space, maps_equal, same_then, seen_blocks}
use Rattle.host_spaces.proofs.Granting.{block_if, itself_space, other_is}

pub if_some : (o : Option Span) (P Q : Span → Type 0) → ((p : Span) → P p → Q p) → IfSome o P → IfSome o Q
if_some None P Q f it = tt
if_some (Some p) P Q f it = f p it

-- ---- tests that agree

abbrev Agree : (Placed → Bool) → (Placed → Bool) → List Placed → Type 0
Agree p q [] = Unit {0}
Agree p q (b ∷ bs) = (p b ≡ q b) × Agree p q bs

filter_same : (p q : Placed → Bool) (bs : List Placed) → Agree p q bs → filter p bs ≡ filter q bs
filter_same p q [] agree = refl
filter_same p q (b ∷ bs) agree = ap (λ t. cond t (b ∷ filter p bs) (filter p bs)) agree.0 ∙ ap (λ xs. cond (q b) (b ∷ xs) xs) (filter_same p q bs agree.1)

filter_both : (p q : Placed → Bool) (bs : List Placed) → filter p (filter q bs) ≡ filter (λ b. q b && p b) bs
filter_both p q [] = refl
filter_both p q (b ∷ bs) = elim (true_or_false (q b)) [
  | inl is ↦ ap (filter p) (kept q b bs is) ∙ ap (λ xs. cond (p b) (b ∷ xs) xs) (filter_both p q bs)
      ∙ sym (ap (λ t. cond (t && p b) (b ∷ filter (λ c. q c && p c) bs) (filter (λ c. q c && p c) bs)) is)
  | inr out ↦ ap (filter p) (dropped q b bs out) ∙ filter_both p q bs
      ∙ sym (ap (λ t. cond (t && p b) (b ∷ filter (λ c. q c && p c) bs) (filter (λ c. q c && p c) bs)) out)
]

-- the blocks without those of the owners that pass the test
abbrev pub blocks_without : (Owner → Bool) → List Placed → List Placed
blocks_without gone bs = filter (λ b. not (gone b.owner)) bs

-- ---- a group

group_test : (g : ℕ) (o : Owner) → not (same_owner (Scratch g) o) ≡ not (is_group's g o)
group_test g (Record i k) = refl
group_test g (Scratch h) = refl

group_agree : (g : ℕ) (bs : List Placed) → Agree (λ b. not (same_owner (Scratch g) b.owner)) (λ b. not (is_group's g b.owner)) bs
group_agree g [] = tt
group_agree g (b ∷ bs) = (group_test g b.owner, group_agree g bs)

pub group_gone : (g : ℕ) (bs : List Placed) → disowned (Scratch g) bs ≡ blocks_without (is_group's g) bs
group_gone g bs = filter_same (λ b. not (same_owner (Scratch g) b.owner)) (λ b. not (is_group's g b.owner)) bs (group_agree g bs)

-- ---- an instance of four records at most

abbrev stays : ℕ → ℕ → Placed → Bool
stays i k b = not (same_owner (Record i k) b.owner)

abbrev four_stay : ℕ → Placed → Bool
four_stay i b = ((stays i 0 b && stays i 1 b) && stays i 2 b) && stays i 3 b

numbered : (t : Bool) (l : ℕ) → ((k : ℕ) → (t && (suc (suc (suc (suc k))) == l)) ≡ false)
    → (((not (t && (0 == l)) && not (t && (1 == l))) && not (t && (2 == l))) && not (t && (3 == l))) ≡ not t
numbered false l none = refl
numbered true zero none = refl
numbered true (suc zero) none = refl
numbered true (suc (suc zero)) none = refl
numbered true (suc (suc (suc zero))) none = refl
numbered true (suc (suc (suc (suc l)))) none = clash (suc (suc (suc (suc l))) == suc (suc (suc (suc l)))) (eq-eqb (suc (suc (suc (suc l)))) (suc (suc (suc (suc l)))) refl) (none l)

four_test : (i : ℕ) (o : Owner) → ((k : ℕ) → same_owner (Record i (suc (suc (suc (suc k))))) o ≡ false)
    → (((not (same_owner (Record i 0) o) && not (same_owner (Record i 1) o)) && not (same_owner (Record i 2) o)) && not (same_owner (Record i 3) o)) ≡ not (is_instance's i o)
four_test i (Scratch g) none = refl
four_test i (Record j l) none = numbered (i == j) l none

not_owned : (o : Owner) (b : Placed) (bs : List Placed) → owned o (b ∷ bs) ≡ [] → same_owner o b.owner ≡ false
not_owned o b bs none = when_not (same_owner o b.owner) (λ is. let n = ap length (sym (kept (λ c. same_owner o c.owner) b bs is) ∙ none) in omega arith)

four_agree : (i : ℕ) (bs : List Placed) → ((k : ℕ) → owned (Record i (suc (suc (suc (suc k))))) bs ≡ []) → Agree (four_stay i) (λ b. not (is_instance's i b.owner)) bs
four_agree i [] none = tt
four_agree i (b ∷ bs) none = (
  four_test i b.owner (λ k. not_owned (Record i (suc (suc (suc (suc k))))) b bs (none k)),
  four_agree i bs (λ k. let o = Record i (suc (suc (suc (suc k)))) in sym (dropped (λ c. same_owner o c.owner) b bs (not_owned o b bs (none k))) ∙ none k),
)

pub instance_gone : (i : ℕ) (bs : List Placed) → ((k : ℕ) → owned (Record i (suc (suc (suc (suc k))))) bs ≡ [])
    → disowned (Record i 3) (disowned (Record i 2) (disowned (Record i 1) (disowned (Record i 0) bs))) ≡ blocks_without (is_instance's i) bs
instance_gone i bs none =
    ap (λ xs. disowned (Record i 3) (disowned (Record i 2) xs)) (filter_both (stays i 1) (stays i 0) bs)
    ∙ ap (disowned (Record i 3)) (filter_both (stays i 2) (λ b. stays i 0 b && stays i 1 b) bs)
    ∙ filter_both (stays i 3) (λ b. (stays i 0 b && stays i 1 b) && stays i 2 b) bs
    ∙ filter_same (four_stay i) (λ b. not (is_instance's i b.owner)) bs (four_agree i bs none)

-- ---- a record's piece

one_piece : (owner : Extent) (n : ℕ) (a : Attr) (sharer : Option ℕ) (own shared : Option Span) → IsPieceOf owner n (is_persistent a) own → IsPieceOf owner n (is_placed_once sharer a) shared → option_or own shared ≡ lasting_piece a own shared
one_piece owner n ScratchRecord sharer None None is it = refl
one_piece owner n ScratchRecord None None (Some q) is it = clash false it.0 refl
one_piece owner n ScratchRecord (Some sharer) None (Some q) is it = clash false it.0 refl
one_piece owner n ScratchRecord sharer (Some p) shared is it = clash false is.0 refl
one_piece owner n Persist sharer None shared is it = clash true refl is
one_piece owner n Persist sharer (Some p) shared is it = refl
one_piece owner n WriteOnce sharer None shared is it = refl
one_piece owner n WriteOnce sharer (Some p) shared is it = clash false is.0 refl

no_some : (o : Option Span) → o ≡ None → IsSome o → ⊥
no_some None e some = let bad : false ≡ true = some in cc
no_some (Some p) e some = let bad : Some p ≡ None = e in cc

pub not_both : (owner : Extent) (n : ℕ) (a : Attr) (sharer : Option ℕ) (own shared : Option Span) → IsPieceOf owner n (is_persistent a) own → IsPieceOf owner n (is_placed_once sharer a) shared → IsSome own → shared ≡ None
not_both owner n a sharer None shared is it some = absurd (no_some None refl some)
not_both owner n a sharer (Some p) None is it some = refl
not_both owner n ScratchRecord sharer (Some p) (Some q) is it some = clash false is.0 refl
not_both owner n Persist None (Some p) (Some q) is it some = clash false it.0 refl
not_both owner n Persist (Some sharer) (Some p) (Some q) is it some = clash false it.0 refl
not_both owner n WriteOnce sharer (Some p) (Some q) is it some = clash false is.0 refl

owner_of : (owner : Extent) (n : ℕ) (a : Attr) (sharer : Option ℕ) (own shared : Option Span) → IsPieceOf owner n (is_persistent a) own → IsPieceOf owner n (is_placed_once sharer a) shared → IfSome (option_or own shared) (λ p. p.region ≡ owner)
owner_of owner n a sharer None None is it = tt
owner_of owner n a sharer None (Some q) is it = it.1
owner_of owner n a sharer (Some p) shared is it = is.1

-- its block in a space
abbrev pub placed_in : Owner → Space → ℕ → Option Span → Space → List Placed
placed_in o sp al q any = if same_space sp any then block_of_piece o al q else []

module _ (old : Spaces) (i : ℕ) (table : List MemRec) (own shared : Pieces) (pieces : (sharers : ℕ → Option ℕ) × ArePlacedPieces old table sharers own shared) (records : HasRecords (map_of old) i table own shared)
    (k : ℕ) (sp : Space) (there : sp ≡ (record_at table k).space) (q : Option Span) (is : q ≡ option_or (piece_at own k) (piece_at shared k)) where
  pub its_block : (any : Space) → owned (Record i k) (space_in old any).blocks ≡ placed_in (Record i k) sp (record_at table k).align q any
  its_block any =
      let owner = (space_in old (record_at table k).space).region in let n = placed_size (record_at table k).size in
      ap (owned (Record i k)) (sym (seen_blocks old any)) ∙ records k any
      ∙ ap (record_block i k (record_at table k) any) (sym (is ∙ one_piece owner n (record_at table k).attr (pieces.0 k) (piece_at own k) (piece_at shared k) (pieces.1.persistent k) (pieces.1.write_once k)))
      ∙ ap (λ x. placed_in (Record i k) x (record_at table k).align q any) (sym there)

  pub its_owner : IfSome q (λ p. p.region ≡ (space_in old sp).region)
  its_owner =
      subst (λ x. IfSome q (λ p. p.region ≡ (space_in old x).region)) (sym there)
      (subst (λ x. IfSome x (λ p. p.region ≡ (space_in old (record_at table k).space).region)) (sym is)
      (owner_of (space_in old (record_at table k).space).region (placed_size (record_at table k).size) (record_at table k).attr (pieces.0 k) (piece_at own k) (piece_at shared k) (pieces.1.persistent k) (pieces.1.write_once k)))

module _ (o : Owner) (sp : Space) (al : ℕ) (s : Spaces) where
  owned_here : (q : Option Span) → ((any : Space) → owned o (space_in s any).blocks ≡ placed_in o sp al q any) → owned o (space_in s sp).blocks ≡ block_of_piece o al q
  owned_here q its = its sp ∙ ap (λ t. if t then block_of_piece o al q else []) (itself_space sp)

  pub owner_there : (q : Option Span) → ((any : Space) → owned o (space_in s any).blocks ≡ placed_in o sp al q any) → IfSome q (λ p. (owner : Owner) × Owns (space_in s sp).blocks owner p)
  owner_there None its = tt
  owner_there (Some p) its = (o, owns_one (space_in s sp).blocks o al p (owned_here (Some p) its))

  pub one_gone : (q : Option Span) → ((any : Space) → owned o (space_in s any).blocks ≡ placed_in o sp al q any) → (t : Spaces)
      → ((owner : Owner) (align : ℕ) → owned owner (space_in s sp).blocks ≡ block_of_piece owner align q → (space_in t sp).blocks ≡ disowned owner (space_in s sp).blocks)
      → ((other : Space) → other ≢ sp → space_in t other ≡ space_in s other)
      → (any : Space) → (space_in t any).blocks ≡ disowned o (space_in s any).blocks
  one_gone q its t only elsewhere any =
      by_space sp any (λ (x : Space). (space_in t x).blocks ≡ disowned o (space_in s x).blocks)
      (only o al (owned_here q its))
      (λ away. ap (λ (x : SpaceState). x.blocks) (elsewhere any away)
      ∙ sym (disowned_none o (space_in s any).blocks (its any ∙ ap (λ t. if t then block_of_piece o al q else []) (other_is sp any away))))

lasting_none : (a : Attr) → lasting_piece a None None ≡ None
lasting_none ScratchRecord = refl
lasting_none Persist = refl
lasting_none WriteOnce = refl

module _ (old new : Spaces) (i : ℕ) (table : List MemRec) (own shared : Pieces) (records : HasRecords (map_of old) i table own shared)
    (gone : (any : Space) → (space_in new any).blocks ≡ disowned (Record i 3) (disowned (Record i 2) (disowned (Record i 1) (disowned (Record i 0) (space_in old any).blocks)))) where
  none_behind : (k : ℕ) (any : Space) → owned (Record i (suc (suc (suc (suc k))))) (space_in old any).blocks ≡ []
  none_behind k any =
      let n = suc (suc (suc (suc k))) in
      ap (owned (Record i n)) (sym (seen_blocks old any)) ∙ records n any
      ∙ ap (record_block i n (record_at table n) any) (lasting_none (record_at table n).attr)
      ∙ block_if (same_space (record_at table n).space any) i n (record_at table n) any

  left_in : (any : Space) → (space_in new any).blocks ≡ blocks_without (is_instance's i) (space_in old any).blocks
  left_in any = gone any ∙ instance_gone i (space_in old any).blocks (λ k. none_behind k any)

  pub map_left : map_of new ≡ without_owners (is_instance's i) (map_of old)
  map_left = maps_equal (map_of new) (without_owners (is_instance's i) (map_of old)) (left_in Daram) (left_in Saram) (left_in External)

  pub others_left : (o : Owner) (space : Space) → ((k : ℕ) → o ≢ Record i k) → owned o (blocks_in (map_of new) space) ≡ owned o (blocks_in (map_of old) space)
  others_left o space apart =
      let bs = (space_in old space).blocks in
      ap (owned o) (seen_blocks new space ∙ gone space)
      ∙ owned_beside o (Record i 3) (disowned (Record i 2) (disowned (Record i 1) (disowned (Record i 0) bs))) (apart 3)
      ∙ owned_beside o (Record i 2) (disowned (Record i 1) (disowned (Record i 0) bs)) (apart 2)
      ∙ owned_beside o (Record i 1) (disowned (Record i 0) bs) (apart 1)
      ∙ owned_beside o (Record i 0) bs (apart 0)
      ∙ sym (ap (owned o) (seen_blocks old space))

-- ---- the records of an instance, one after the other

-- the blocks without those of its first n records
abbrev pub without_first : ℕ → ℕ → List Placed → List Placed
without_first i zero bs = bs
without_first i (suc n) bs = disowned (Record i n) (without_first i n bs)

abbrev number_of : Owner → ℕ
number_of (Record i k) = k
number_of (Scratch g) = 0

record_number : (i j k : ℕ) → Record i j ≡ Record i k → j ≡ k
record_number i j k e = ap number_of e

-- a record behind them has its own
beside_first : (i k n : ℕ) (bs : List Placed) → n ≤ k → owned (Record i k) (without_first i n bs) ≡ owned (Record i k) bs
beside_first i k zero bs few = refl
beside_first i k (suc n) bs few =
    owned_beside (Record i k) (Record i n) (without_first i n bs) (λ e. let same = record_number i k n e in omega arith) ∙ beside_first i k n bs (omega arith)

-- the first n records have left
pub record HaveLeft (i n : ℕ) (old new : Spaces) : Type 0 where
  pub blocks : (any : Space) → (space_in new any).blocks ≡ without_first i n (space_in old any).blocks
  pub stays : AreSameSpaces old new

-- the pieces without those of the first n records
abbrev pub left_from : ℕ → Pieces → Pieces
left_from zero ps = ps
left_from (suc n) ps = with_piece (left_from n ps) n None

left_there : (ps : Pieces) (k : ℕ) → k < 4 → piece_at (left_from k ps) k ≡ piece_at ps k
left_there ps zero few = refl
left_there ps (suc zero) few = refl
left_there ps (suc (suc zero)) few = refl
left_there ps (suc (suc (suc zero))) few = refl
left_there ps (suc (suc (suc (suc k)))) few = absurd (omega arith)

pub none_left : (ps : Pieces) (k : ℕ) → k ≡ 4 → left_from k ps ≡ no_pieces
none_left ps k all = ap (λ n. left_from n ps) all

pub all_left : {i n : ℕ} {old new : Spaces} → HaveLeft i n old new → n ≡ 4
    → (any : Space) → (space_in new any).blocks ≡ disowned (Record i 3) (disowned (Record i 2) (disowned (Record i 1) (disowned (Record i 0) (space_in old any).blocks)))
all_left {i} {n} {old} {new} left all any = left.blocks any ∙ ap (λ m. without_first i m (space_in old any).blocks) all

pub either_each : {p0 p1 p2 p3 : Option Span} (own shared : Pieces) → p0 ≡ option_or own.p0 shared.p0 → p1 ≡ option_or own.p1 shared.p1 → p2 ≡ option_or own.p2 shared.p2
    → p3 ≡ option_or own.p3 shared.p3 → (k : ℕ) → piece_at (record { p0 = p0; p1 = p1; p2 = p2; p3 = p3 }) k ≡ option_or (piece_at own k) (piece_at shared k)
either_each own shared object first second third zero = object
either_each own shared object first second third (suc zero) = first
either_each own shared object first second third (suc (suc zero)) = second
either_each own shared object first second third (suc (suc (suc zero))) = third
either_each own shared object first second third (suc (suc (suc (suc k)))) = refl

pub never_both : (old : Spaces) (table : List MemRec) (own shared : Pieces) → (sharers : ℕ → Option ℕ) × ArePlacedPieces old table sharers own shared
    → (k : ℕ) → IsSome (piece_at own k) → piece_at shared k ≡ None
never_both old table own shared pieces k =
    not_both (space_in old (record_at table k).space).region (placed_size (record_at table k).size) (record_at table k).attr (pieces.0 k)
    (piece_at own k) (piece_at shared k) (pieces.1.persistent k) (pieces.1.write_once k)

space_is : (table : List MemRec) (k : ℕ) → k < 4 → get_or (spaces_of table) k Daram ≡ (record_at table k).space
space_is table zero few = refl
space_is table (suc zero) few = refl
space_is table (suc (suc zero)) few = refl
space_is table (suc (suc (suc zero))) few = refl
space_is table (suc (suc (suc (suc k)))) few = absurd (omega arith)

-- the next one leaves
module _ {old : Spaces} {i : ℕ} {spaces : List Space} {own shared : Pieces} (leaving : AreRecordsOf old i spaces own shared)
    (all : Pieces) (either : (k : ℕ) → piece_at all k ≡ option_or (piece_at own k) (piece_at shared k))
    {k : ℕ} (few : k < 4) {now : Spaces} (left : HaveLeft i k old now) {rest : Pieces} (from : rest ≡ left_from k all)
    {sp : Space} (there : sp ≡ get_or spaces k Daram) {q : Option Span} (taken : q ≡ piece_at rest k) where
  its_space : sp ≡ (record_at leaving.table k).space
  its_space = there ∙ ap (λ (xs : List Space). get_or xs k Daram) leaving.there ∙ space_is leaving.table k few

  its_piece : q ≡ option_or (piece_at own k) (piece_at shared k)
  its_piece = taken ∙ ap (λ (ps : Pieces). piece_at ps k) from ∙ left_there all k few ∙ either k

  its_still : (any : Space) → owned (Record i k) (space_in now any).blocks ≡ placed_in (Record i k) sp (record_at leaving.table k).align q any
  its_still any =
      ap (owned (Record i k)) (left.blocks any) ∙ beside_first i k k (space_in old any).blocks (omega arith)
      ∙ its_block old i leaving.table own shared leaving.pieces leaving.records k sp its_space q its_piece any

  pub next_region : IfSome q (λ p. p.region ≡ (space_in now sp).region)
  next_region =
      subst (λ (x : Extent). IfSome q (λ p. p.region ≡ x)) (sym (left.stays sp).region)
      (its_owner old i leaving.table own shared leaving.pieces leaving.records k sp its_space q its_piece)

  pub next_owner : IfSome q (λ p. (owner : Owner) × Owns (space_in now sp).blocks owner p)
  next_owner = owner_there (Record i k) sp (record_at leaving.table k).align now q its_still

  pub next_left : (last : Spaces) → LeavesAnyOwner q (space_in now sp).blocks (space_in last sp).blocks → OtherSpacesStay sp now last → AreSameSpaces now last → HaveLeft i (k + 1) old last
  next_left last only elsewhere stays = record {
    blocks = λ any. one_gone (Record i k) sp (record_at leaving.table k).align now q its_still last only elsewhere any ∙ ap (disowned (Record i k)) (left.blocks any)
        ∙ ap (λ n. without_first i n (space_in old any).blocks) (sym (add-one k));
    stays = same_then old now last left.stays stays;
  }

pub next_rest : (all : Pieces) (k : ℕ) {rest more : Pieces} → rest ≡ left_from k all → more ≡ with_piece rest k None → more ≡ left_from (k + 1) all
next_rest all k from taken = taken ∙ ap (λ (ps : Pieces). with_piece ps k None) from ∙ ap (λ n. left_from n all) (sym (add-one k))

-- ---- a group's blocks

module _ (g : ℕ) (pieces : OldBlocks) (old : Spaces) where
  -- each space without its piece
  pub group_left : (new : MemoryMap) → LeavesAnyOwner pieces.daram old.daram.blocks new.daram → LeavesAnyOwner pieces.saram old.saram.blocks new.saram
      → LeavesAnyOwner pieces.external old.external.blocks new.external → LeaveTheirGroup g pieces (map_of old) new
  group_left new daram saram external align all =
      maps_equal new (without_owners (is_group's g) (map_of old))
      (daram (Scratch g) (align Daram) (all Daram) ∙ group_gone g old.daram.blocks)
      (saram (Scratch g) (align Saram) (all Saram) ∙ group_gone g old.saram.blocks)
      (external (Scratch g) (align External) (all External) ∙ group_gone g old.external.blocks)

  pub group_others : (new : MemoryMap) → AreOfGroup g pieces (map_of old) → OthersStayBesideAny pieces.daram old.daram.blocks new.daram
      → OthersStayBesideAny pieces.saram old.saram.blocks new.saram → OthersStayBesideAny pieces.external old.external.blocks new.external → AllButGroupStay g (map_of old) new
  group_others new own daram saram external o Daram apart = daram (Scratch g) o (own Daram) apart
  group_others new own daram saram external o Saram apart = saram (Scratch g) o (own Saram) apart
  group_others new own daram saram external o External apart = external (Scratch g) o (own External) apart

pub owns_any : (g : ℕ) (piece : Option Span) (blocks : List Placed) → IfSome piece (Owns blocks (Scratch g)) → IfSome piece (λ p. (owner : Owner) × Owns blocks owner p)
owns_any g piece blocks it = if_some piece (Owns blocks (Scratch g)) (λ p. (owner : Owner) × Owns blocks owner p) (λ p here. (Scratch g, here)) it

-- ---- a creation

same_without : (o : Option Span) (b : Option Placed) (bs : List Placed) → option_map (λ (p : Span). p.place) o ≡ option_map (λ (c : Placed). c.place) b → option_map_or (λ (c : Placed). filter (λ (d : Placed). not (d.place == c.place)) bs) b bs
    ≡ without_piece o bs
same_without None None bs e = refl
same_without None (Some b) bs e = let bad : None ≡ Some b.place = e in cc
same_without (Some p) None bs e = let bad : Some p.place ≡ None = e in cc
same_without (Some p) (Some b) bs e = let same : Some p.place ≡ Some b.place = e in let at : b.place ≡ p.place = cc in ap (λ n. without_at n bs) at

pub replaced_are : (map placed : MemoryMap) (g : ℕ) (table : List MemRec) (pieces : OldBlocks)
    → ((space : Space) → option_map (λ (p : Span). p.place) (old_piece pieces space) ≡ option_map (λ (b : Placed). b.place) (replaced_block map g table space))
    → without_replaced map g table placed ≡ without_pieces placed pieces
replaced_are map placed g table pieces same =
    maps_equal (without_replaced map g table placed) (without_pieces placed pieces)
    (same_without pieces.daram (replaced_block map g table Daram) placed.daram (same Daram))
    (same_without pieces.saram (replaced_block map g table Saram) placed.saram (same Saram))
    (same_without pieces.external (replaced_block map g table External) placed.external (same External))
