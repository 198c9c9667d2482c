-- The least instance that shares a record is its owner.
use Rattle.std.proofs.Common.{◌≡◌, ◌≢◌, ℕ, zero, suc, ℤ, ◌+◌, ◌<◌, ◌≤◌, inl, inr, Bool, true, false, IsTrue, IsSome, List, [], ◌∷◌, length, drop, Option, Some, None, refl, sym, ◌∙◌, ap, subst, arith}
use Rattle.std.specs.Prelude.{find}
use Rattle.std.specs.List.{range_with_len}
use Rattle.std.proofs.Math.Seq.{take-nil}
use Rattle.std.proofs.lemmas.Bool.{true≢false, cases_Bool}
use Rattle.std.proofs.lemmas.Bool.Decides.{eqb_tells}
use Rattle.std.proofs.lemmas.Option.{same_Some}
use Rattle.space_raw.specs.Span.{Span}
use Rattle.mem_rec.specs.declared.MemRec.{MemRec}
use Rattle.mem_rec.specs.declared.Attr.{Attr}
use Rattle.mem_rec.specs.declared.Attr.TheVariants.{WriteOnce}
use Rattle.mem_rec.specs.Records.{is_table}
use Rattle.mem_rec.proofs.Valid.{within_limits}
use Rattle.arrayvec.specs.ArrayVec.{ArrayVec}
use Rattle.ialg.specs.Records.{record_at, words_of, unplaced}
use Rattle.record_loans.specs.declared.pieces.Pieces.{Pieces}
use Rattle.record_loans.specs.Pieces.{piece_at, piece_words}
use Rattle.record_loans.specs.Blocks.{block_words}
use Rattle.scratch_group.specs.declared.group.Group.{Group}
use Rattle.scratch_group.specs.Blocks.{block_in}
use Rattle.scratch_group.specs.Words.{words_by, record_words, active_words, scratch_offset}
use Rattle.lifecycle.specs.declared.instance.Instance.{Instance}
use Rattle.lifecycle.proofs.Places.{some_words}
use Rattle.mem_rec.specs.declared.TheConstants.{INSTANCES}
use Rattle.host_table.specs.declared.member.Member.{Member}
use Rattle.host_shared.specs.declared.locations.Location.{Location}
use Rattle.host_shared.specs.declared.locations.Location.TheVariants.{Here, At}
use Rattle.host_shared.specs.declared.locations.Locations.{Locations}
use Rattle.host_shared.specs.Locations.{location_at, locations_at, owner_by, owner_of, shared_at}
use Rattle.host_shared.specs.Owners.{IsPieceHere}
use Rattle.host_shared.specs.Sharing.{is_at, sharer_from, next_sharer, AreLeast}
use Rattle.host_table.specs.Table.{slot_at, group_at, instance_of, AreAlike, IsSharer, AreHeld, AreBare, TablesOk}
use Rattle.host_map.specs.Sharers.{Asked, asked, is_sharer, sharer_of}
use Rattle.host_table.specs.Sharers.{asked_by, AreTogether}
use Rattle.host_shared.specs.Joining.{CanJoin}
use Rattle.host_table.proofs.Finds.{find_tells, find_first, find_none, find_same}
use Rattle.host_shared.proofs.Stands.{seen_here}
use Rattle.host_shared.proofs.Lent.{no_location, seen_at}
use Rattle.host_table.proofs.Held.{alike_back, alike_then, owners_of_held}
use Rattle.host_shared.proofs.Handing.{with_told, with_not, with_of, held_apart}
use Rattle.host_table.proofs.Changes.{slot_in}
use Rattle.host_table.proofs.Likes.{sharer_tells, sharer_told}
use Rattle.host_table.proofs.Sharing.{TellsSharer}
use Rattle.host_table.proofs.Leasts.{with_owner}

-- a write-once record is in its table, and has words
record_inside : (rs : List MemRec) (k : ℕ) → (record_at rs k).attr ≡ WriteOnce → k < length rs
record_inside [] k attr = cc
record_inside (r ∷ rs) zero attr = omega arith
record_inside (r ∷ rs) (suc k) attr = let inside = record_inside rs k attr in omega (arith, inside)

pub once_below : (rs : List MemRec) (k : ℕ) → IsTrue (is_table rs) → (record_at rs k).attr ≡ WriteOnce → k < 4
once_below rs k valid attr =
    let inside = record_inside rs k attr in
    let few = (within_limits rs valid).few in
    omega (arith, inside, few)

once_size : (rs : List MemRec) (k : ℕ) → IsTrue (is_table rs) → (record_at rs k).attr ≡ WriteOnce → 1 ≤ (record_at rs k).size
once_size rs k valid attr = some_words rs k valid (record_inside rs k attr)

no_words : (a : Attr) (n : ℕ) (own shared block : List ℤ) → a ≡ WriteOnce → shared ≡ [] → length (words_by a n own shared block) ≡ 0
no_words a n own shared block attr none = rw (attr, none) (ap length (take-nil n))

pub words_at : (rs : List MemRec) (own shared : Pieces) (g : Group) (k : ℕ) → k < 4 → words_of (active_words rs own shared g) k ≡ record_words rs own shared g k
words_at rs own shared g zero h = refl
words_at rs own shared g (suc zero) h = refl
words_at rs own shared g (suc (suc zero)) h = refl
words_at rs own shared g (suc (suc (suc zero))) h = refl
words_at rs own shared g (suc (suc (suc (suc k)))) h = absurd (omega (arith, h))

nothing_lent : (rs : List MemRec) (own shared : Pieces) (g : Group) (k : ℕ) → k < 4 → (record_at rs k).attr ≡ WriteOnce → piece_at shared k ≡ None → length (words_of (active_words rs own shared g) k) ≡ 0
nothing_lent rs own shared g k below attr none =
    ap length (words_at rs own shared g k below)
    ∙ no_words (record_at rs k).attr (record_at rs k).size (piece_words (piece_at own k)) (piece_words (piece_at shared k)) (drop (scratch_offset rs k) (block_words (block_in g (record_at rs k).space)))
    attr (ap piece_words none)

-- who holds a record with an instance is alike
held_alike : {M : Type 0} (k : ℕ) (m : Member M) (y : Option (Member M)) (s : Location) → IsSharer k (Some m) y s → (n : Member M) × (y ≡ Some n) × AreAlike k (instance_of m.inst) (instance_of n.inst)
held_alike k m None s held = absurd held
held_alike k m (Some n) s held = (n, refl, held.0)

-- the next sharer is found by the same search
sharer_find : (n : ℕ) (sharing : List Locations) (i k : ℕ) (q : ℕ → Bool) → ((d j : ℕ) → j ≡ n + d → q j ≡ is_at i (location_at (locations_at sharing d) k)) → sharer_from n sharing i k ≡ find q (range_with_len n (length sharing))
sharer_find n [] i k q told = refl
sharer_find n (s ∷ sharing) i k q told =
    let first : q n ≡ is_at i (location_at s k) = told 0 n (omega arith) in
    let rest : sharer_from (n + 1) sharing i k ≡ find q (range_with_len (n + 1) (length sharing)) = sharer_find (n + 1) sharing i k q (λ d j e. told (suc d) j (omega (arith, e))) in
    let next : suc n ≡ n + 1 = omega arith in
    elim (cases_Bool (is_at i (location_at s k))) [
      | inl e ↦ rw (first, e) refl
      | inr e ↦ rw (first, e) (ap (λ (x : ℕ). sharer_from x sharing i k) next ∙ rest)
    ]

module _ {M : Type 0} (same : M → M → Bool) (one : (a b : M) → same a b ≡ true → a ≡ b) (itself : (a : M) → same a a ≡ true) (instances : List (Option (Member M))) (count : length instances ≡ INSTANCES) where
  abbrev pub asked_of : Instance M → Asked M
  asked_of a = asked a.kind a.params.items a.table

  -- what the test says of a slot
  slot_sharer : (a : Instance M) (k : ℕ) (slot : Option (Member M)) → is_sharer same (asked_of a) k (asked_by slot) ≡ true → (m : Member M) × (slot ≡ Some m) × AreAlike k a (instance_of m.inst)
  slot_sharer a k None told = absurd (true≢false (sym told))
  slot_sharer a k (Some m) told = (m, refl, sharer_tells same one itself a (instance_of m.inst) k told)

  slot_told : (a : Instance M) (k : ℕ) (slot : Option (Member M)) (m : Member M) → slot ≡ Some m → AreAlike k a (instance_of m.inst) → is_sharer same (asked_of a) k (asked_by slot) ≡ true
  slot_told a k slot m is alike = rw is (sharer_told same one itself a (instance_of m.inst) k alike)

  pub tells_sharer : (a : Instance M) (k : ℕ) (t : Option ℕ) → t ≡ sharer_of same (λ j. asked_by (slot_at instances j)) (asked_of a) k → TellsSharer instances k a t
  tells_sharer a k None is = λ j m at alike.
      let inside = slot_in instances j m at in
      true≢false (sym (slot_told a k (slot_at instances j) m at alike) ∙ find_none (λ x. is_sharer same (asked_of a) k (asked_by (slot_at instances x))) 0 INSTANCES (sym is) j (omega arith) (omega (arith, inside, count)))
  tells_sharer a k (Some t) is =
      let found = find_tells (λ x. is_sharer same (asked_of a) k (asked_by (slot_at instances x))) 0 INSTANCES t (sym is) in
      let sharer = slot_sharer a k (slot_at instances t) found.passes in
      record { member = sharer.0; at = sharer.1; alike = sharer.2 }

  -- so it does of an instance that was asked for alike
  pub tells_sharer_as : (a b : Instance M) → b.kind ≡ a.kind → b.params ≡ a.params → unplaced b.table ≡ unplaced a.table → (k : ℕ) (t : Option ℕ)
      → t ≡ sharer_of same (λ j. asked_by (slot_at instances j)) (asked_of a) k → TellsSharer instances k b t
  tells_sharer_as a b kind params table k t is =
      let alike : asked_of a ≡ asked_of b =
      ap (λ (x : M). let y : Asked M = record { kind = x; params = a.params.items; table = unplaced a.table } in y) (sym kind)
      ∙ ap (λ (x : ArrayVec ℤ). let y : Asked M = record { kind = b.kind; params = x.items; table = unplaced a.table } in y) (sym params)
      ∙ ap (λ (x : List MemRec). let y : Asked M = record { kind = b.kind; params = b.params.items; table = x } in y) (sym table) in
      tells_sharer b k t (is ∙ ap (λ (x : Asked M). sharer_of same (λ j. asked_by (slot_at instances j)) x k) alike)

  module _ (sharing : List Locations) (held : AreHeld instances sharing) (least : AreLeast sharing) where
    -- the sharer of a record stands with no other one
    sharer_here : (a : Instance M) (k t : ℕ) (s : Location) → sharer_of same (λ j. asked_by (slot_at instances j)) (asked_of a) k ≡ Some t → location_at (locations_at sharing t) k ≡ s → (p : Option Span) × (s ≡ Here p)
    sharer_here a k t (Here p) is at_owner = (p, refl)
    sharer_here a k t (At h) is at_owner =
        let found = find_tells (λ x. is_sharer same (asked_of a) k (asked_by (slot_at instances x))) 0 INSTANCES t is in
        let sharer = tells_sharer a k (Some t) (sym is) in
        let owner = held_alike k sharer.member (slot_at instances h) (location_at (locations_at sharing h) k) (subst (λ (x : Option (Member M)). IsSharer k x (slot_at instances h) (location_at (locations_at sharing h) k)) sharer.at (held t k h at_owner)) in
        let passes = slot_told a k (slot_at instances h) owner.0 owner.1 (alike_then k a (instance_of sharer.member.inst) (instance_of owner.0.inst) sharer.alike owner.2) in
        absurd (true≢false (sym passes ∙ found.before h (omega arith) (least t k h at_owner)))

    pub sharer_at_owner : (a : Instance M) (k t : ℕ) → sharer_of same (λ j. asked_by (slot_at instances j)) (asked_of a) k ≡ Some t → owner_of sharing t k ≡ t
    sharer_at_owner a k t is = ap (owner_by t) (sharer_here a k t (location_at (locations_at sharing t) k) is refl).1

    -- whoever holds a record with an instance has the least of them for its owner
    owner_alike : (i k : ℕ) (m : Member M) (s : Location) → slot_at instances i ≡ Some m → (record_at (instance_of m.inst).table k).attr ≡ WriteOnce → location_at (locations_at sharing i) k ≡ s
        → (n : Member M) × (slot_at instances (owner_by i s) ≡ Some n) × AreAlike k (instance_of m.inst) (instance_of n.inst)
    owner_alike i k m (Here p) at attr is = (m, at, record { kind = refl; params = refl; once = attr; shape = refl })
    owner_alike i k m (At h) at attr is =
        held_alike k m (slot_at instances h) (location_at (locations_at sharing h) k) (subst (λ (x : Option (Member M)). IsSharer k x (slot_at instances h) (location_at (locations_at sharing h) k)) at (held i k h is))

    owner_low : (j k : ℕ) (s : Location) → location_at (locations_at sharing j) k ≡ s → owner_by j s ≤ j
    owner_low j k (Here p) is = omega arith
    owner_low j k (At h) is = let less = least j k h is in omega (arith, less)

    pub owner_is_sharer : AreTogether instances sharing → (i k : ℕ) (m : Member M) → slot_at instances i ≡ Some m → (record_at (instance_of m.inst).table k).attr ≡ WriteOnce
        → sharer_of same (λ j. asked_by (slot_at instances j)) (asked_of (instance_of m.inst)) k ≡ Some (owner_of sharing i k)
    owner_is_sharer together i k m at attr =
        let owner = owner_alike i k m (location_at (locations_at sharing i) k) at attr refl in
        let inside = slot_in instances (owner_of sharing i k) owner.0 owner.1 in
        find_first (λ x. is_sharer same (asked_of (instance_of m.inst)) k (asked_by (slot_at instances x))) 0 INSTANCES (owner_of sharing i k)
        (record {
          passes = slot_told (instance_of m.inst) k (slot_at instances (owner_of sharing i k)) owner.0 owner.1 owner.2;
          low = omega arith;
          high = omega (arith, inside, count);
          before = λ j low less.
              elim (cases_Bool (is_sharer same (asked_of (instance_of m.inst)) k (asked_by (slot_at instances j)))) [
                | inr e ↦ e
                | inl e ↦
                    let sharer = slot_sharer (instance_of m.inst) k (slot_at instances j) e in
                    let one_owner = together i j k m sharer.0 at sharer.1 sharer.2 in
                    let lower = owner_low j k (location_at (locations_at sharing j) k) refl in
                    absurd (omega (arith, less, lower, one_owner))
              ];
        })

    -- whom the piece of a record goes to, when the instance goes with which it stands
    module _ (bare : AreBare instances sharing) (together : AreTogether instances sharing) (i k : ℕ) (m : Member M) (at : slot_at instances i ≡ Some m) (owner : owner_of sharing i k ≡ i)
        (others : ℕ → Option (Asked M)) (gone : others i ≡ None) (there : (j : ℕ) → j ≢ i → others j ≡ asked_by (slot_at instances j)) where
      not_own : is_at i (location_at (locations_at sharing i) k) ≡ false
      not_own = with_not i (location_at (locations_at sharing i) k) (held_apart sharing i k (λ j. owners_of_held instances sharing held j k i))

      same_test : (j : ℕ) (slot : Option (Member M)) → j ≢ i → slot_at instances j ≡ slot → is_at i (location_at (locations_at sharing j) k) ≡ is_sharer same (asked_of (instance_of m.inst)) k (asked_by slot)
      same_test j None apart is = ap (is_at i) (ap (λ (s : Locations). location_at s k) (bare j is) ∙ no_location k)
      same_test j (Some n) apart is =
          elim (cases_Bool (is_sharer same (asked_of (instance_of m.inst)) k (asked_by (Some n)))) [
            | inl e ↦
                let sharer = slot_sharer (instance_of m.inst) k (Some n) e in
                let alike : AreAlike k (instance_of m.inst) (instance_of n.inst) = subst (λ (x : Member M). AreAlike k (instance_of m.inst) (instance_of x.inst)) (sym (same_Some n sharer.0 sharer.1)) sharer.2 in
                let one_owner : owner_of sharing j k ≡ i = sym (together i j k m n at is alike) ∙ owner in
                with_told i (location_at (locations_at sharing j) k) (with_owner j i (location_at (locations_at sharing j) k) apart one_owner) ∙ sym e
            | inr e ↦
                elim (cases_Bool (is_at i (location_at (locations_at sharing j) k))) [
                  | inr f ↦ f ∙ sym e
                  | inl f ↦
                      let both : IsSharer k (Some n) (Some m) (location_at (locations_at sharing i) k) =
                      subst (λ (x : Option (Member M)). IsSharer k x (Some m) (location_at (locations_at sharing i) k)) is
                      (subst (λ (x : Option (Member M)). IsSharer k (slot_at instances j) x (location_at (locations_at sharing i) k)) at (held j k i (with_of i (location_at (locations_at sharing j) k) f))) in
                      absurd (true≢false (sym (slot_told (instance_of m.inst) k (Some n) n refl (alike_back k (instance_of n.inst) (instance_of m.inst) both.0)) ∙ e))
                ]
          ]

      pub next_is_sharer : length sharing ≡ INSTANCES → next_sharer sharing i k ≡ sharer_of same others (asked_of (instance_of m.inst)) k
      next_is_sharer count_once =
          sharer_find 0 sharing i k (λ j. is_at i (location_at (locations_at sharing j) k)) (λ d j e. ap (λ (x : ℕ). is_at i (location_at (locations_at sharing x) k)) (let same : j ≡ d = omega (arith, e) in same))
          ∙ ap (λ (n : ℕ). find (λ j. is_at i (location_at (locations_at sharing j) k)) (range_with_len 0 n)) count_once
          ∙ find_same (λ j. is_at i (location_at (locations_at sharing j) k)) (λ j. is_sharer same (asked_of (instance_of m.inst)) k (others j)) 0 INSTANCES
          (λ j low high.
          elim (eqb_tells j i) [
            | inl e ↦ ap (λ (x : ℕ). is_at i (location_at (locations_at sharing x) k)) e.1 ∙ not_own ∙ sym (ap (is_sharer same (asked_of (instance_of m.inst)) k) (ap others e.1 ∙ gone))
            | inr e ↦ same_test j (slot_at instances j) e.1 refl ∙ sym (ap (is_sharer same (asked_of (instance_of m.inst)) k) (there j e.1))
          ])

  -- the sharer has the piece, so a new instance can join it
  module _ (sharing : List Locations) (groups : List Group) (ok : TablesOk instances sharing groups) (least : AreLeast sharing) (a : Instance M) (valid : IsTrue (is_table a.table)) where
    sharer_piece : (k t : ℕ) (p : Option Span) → sharer_of same (λ j. asked_by (slot_at instances j)) (asked_of a) k ≡ Some t → location_at (locations_at sharing t) k ≡ Here p → IsPieceHere (Here p)
    sharer_piece k t (Some p) is here = (p, refl)
    sharer_piece k t None is here =
        let sharer = tells_sharer a k (Some t) (sym is) in
        let below = once_below a.table k valid sharer.alike.once in
        let seen : piece_at (shared_at sharing t) k ≡ None = seen_at sharing t k below ∙ seen_here sharing t k None here in
        let housed = ok.housed t sharer.member sharer.at in
        let s = instance_of sharer.member.inst in
        let none = nothing_lent s.table s.own (shared_at sharing t) (group_at groups sharer.member.group) k below (ap (λ (r : MemRec). r.attr) sharer.alike.shape ∙ sharer.alike.once) seen in
        let size : (record_at s.table k).size ≡ (record_at a.table k).size = ap (λ (r : MemRec). r.size) sharer.alike.shape in
        let some = once_size a.table k valid sharer.alike.once in
        let whole = housed.fits.lent.sizes k in
        absurd (omega (arith, none, size, some, whole))

    pub can_join : (k : ℕ) (t : Option ℕ) (p : Option Span) → t ≡ sharer_of same (λ j. asked_by (slot_at instances j)) (asked_of a) k → (IsSome t → p ≡ None) → CanJoin sharing k t p
    can_join k None p is none = tt
    can_join k (Some t) p is none =
        let here = sharer_here sharing ok.held least a k t (location_at (locations_at sharing t) k) (sym is) refl in
        let piece = sharer_piece k t here.0 (sym is) here.1 in
        record { here = subst IsPieceHere (sym here.1) piece; none = none refl }
