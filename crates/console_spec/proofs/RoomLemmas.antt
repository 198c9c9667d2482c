-- What finds no room.
use Rattle.std.proofs.Common.{◌≡◌, ◌⊎◌, ◌<◌, ◌≤◌, ℕ, ℤ, zero, suc, ◌+◌, ◌*◌, ◌/◌, Bool, true, false, cond, List, [], ◌∷◌, ◌++◌, map, Option, Some, None, Result, Ok, Err, refl, ap, sym, ◌∙◌, subst, arith}
use Rattle.std.specs.Result.{result_err, result_map_both}
use Rattle.std.specs.Prelude.{not, ◌&&◌, is_some, IsTrue, find, ◌↔◌}
use Rattle.std.specs.List.{list_any, range_with_len}
use Rattle.std.proofs.lemmas.Bool.{lt-leb, ltb-true}
use Rattle.std.proofs.lemmas.Option.{none-some}
use Rattle.std.proofs.Math.Nat.{mul-le-mul_right, mod-add-div}
use Rattle.mem_rec.specs.declared.MemRec.{MemRec}
use Rattle.mem_rec.specs.declared.Space.{Space}
use Rattle.ialg.specs.declared.refusal.Refusal.{Refusal}
use Rattle.ialg.specs.declared.refusal.Refusal.TheVariants.{Range, Taken, Missing, Params, Room, Busy}
use Rattle.ialg.specs.Refusals.{first_refusal}
use Rattle.ialg.specs.Meaning.{Meaning}
use Rattle.relocate.specs.Places.{Range as Stretch, is_free, least_place, meets}
use Rattle.relocate.proofs.RangeTests.{either, both_true}
use Rattle.mem_rec.specs.declared.TheConstants.{INSTANCES, GROUPS}
use Rattle.host_map.specs.Blocks.{ranges}
use Rattle.host_map.specs.declared.parts.Sizes.{Sizes}
use Rattle.host_map.specs.declared.parts.Wanted.{Wanted}
use Rattle.host_map.specs.MemoryMap.{MemoryMap, blocks_in, place_in, put_block, renamed, words_in}
use Rattle.host_map.specs.Creation.{all_placed, created_map, taken_over, wanted_by, without_replaced}
use Rattle.host_spec.specs.State.{Living, State, sharers_of, is_group_number, is_instance_number}
use Rattle.host_spec.specs.Choices.{tells_memory}
use Rattle.host_spec.specs.Steps as steps
use Rattle.host_spec.specs.Steps.{create, newborn, unless, with_memory, with_room}
use Rattle.host_spec.specs.Calls as host_calls
use Rattle.host_spec.specs.Laws as host_laws
use Rattle.host_spec.proofs.OutcomeLemmas.{create_room}
use Rattle.channel_spec.specs.Channels.{Channels}
use Rattle.channel_spec.specs.Steps.{channel_refusal}
use Rattle.channel_spec.specs.Parts.{with_members, on_host, chain_refusal, delete_refusal}
use Rattle.channel_spec.specs.Calls.{Call, Does, refusal_of}
use Rattle.channel_spec.specs.Calls.Call.{Chain, Unchain, Remove, Ready, Feed, OfHost}
use Rattle.console_spec.specs.Room.{FallsShort, HasNoPlace, IsCreation, LacksRoom}
use Rattle.host_spec.proofs.RunLemmas.{none_there, ok_same}

-- ---- places

module _ (test : ℕ → Bool) (align : ℕ) where
  abbrev first : ℕ → ℕ → Option ℕ
  first from n = find test (map (λ k. k * align) (range_with_len from n))

  passes_not : (b : Bool) (place : ℕ) (rest : Option ℕ) → cond b (Some place) rest ≡ None → (b ≡ false) × (rest ≡ None)
  passes_not true place rest e = absurd (none-some place (sym e))
  passes_not false place rest e = (refl, e)

  none_passes : (n from : ℕ) → first from n ≡ None → (j : ℕ) → from ≤ j → j < from + n → test (j * align) ≡ false
  none_passes zero from e j le lt = absurd (omega arith)
  none_passes (suc n) from e j le lt =
      let both = passes_not (test (from * align)) (from * align) (first (from + 1) n) e in
      let cases : (from ≡ j) ⊎ (from + 1 ≤ j) = grind arith in
      either cases (λ same. subst (λ m. test (m * align) ≡ false) same both.0) (λ more. none_passes n (from + 1) both.1 j more (omega arith))

  none_found : (n from : ℕ) → ((k : ℕ) → test (k * align) ≡ false) → first from n ≡ None
  none_found zero from none = refl
  none_found (suc n) from none = ap (λ b. cond b (Some (from * align)) (first (from + 1) n)) (none from) ∙ none_found n (from + 1) none

module _ (words : ℕ) (taken : List Stretch) (size : ℕ) where
  abbrev free_at : ℕ → Bool
  free_at place = is_free words taken (record { place = place; size = size })

  -- behind the end nothing is free
  past_end : (place : ℕ) → words < place → free_at place ≡ false
  past_end place beyond =
      let lt : words < place + size = omega arith in
      ap (λ b. b && not (list_any (meets (record { place = place; size = size })) taken)) (lt-leb (place + size) words lt)

  nowhere : (align : ℕ) → least_place words taken size align ≡ None → (k : ℕ) → free_at (k * align) ≡ false
  nowhere zero e k =
      let here : 0 ≡ k * zero = omega arith in
      subst (λ place. free_at place ≡ false) here (none_passes free_at zero (words / zero + 1) 0 e 0 (omega arith) (omega arith))
  nowhere (suc align) e k =
      let cases : (k < words / suc align + 1) ⊎ (words / suc align + 1 ≤ k) = grind arith in
      either cases
      (λ below. none_passes free_at (suc align) (words / suc align + 1) 0 e k (omega arith) (omega arith))
      (λ beyond. past_end (k * suc align) (let all = mod-add-div words (suc align) in omega (arith, mul-le-mul_right (suc align) beyond)))

  no_least : (align : ℕ) → ((k : ℕ) → free_at (k * align) ≡ false) → least_place words taken size align ≡ None
  no_least align none = none_found free_at align (words / align + 1) 0 none

-- ---- blocks

pub ok_is_no_err : {A E : Type 0} (a : A) (r : E) → ◌≡◌ {A = Result A E} (Ok a) (Err r) → ⊥
ok_is_no_err a r e = cc

pub err_same : {A E : Type 0} (r s : E) → ◌≡◌ {A = Result A E} (Err r) (Err s) → r ≡ s
err_same r s e = cc

module _ (sizes : Sizes) (space : Space) where
  abbrev put : MemoryMap → Wanted → ℕ → MemoryMap
  put map w place = put_block map w.space (record { owner = w.owner; place = place; size = w.size; align = w.align })

  -- a block that has a place, or none
  one_placed : (map : MemoryMap) (w : Wanted) (ws : List Wanted) (place : ℕ) → place_in sizes map w.space w.size w.align ≡ Some place
      → all_placed sizes map (w ∷ ws) ≡ all_placed sizes (put map w place) ws
  one_placed map w ws place there = rw there refl

  none_placed : (map : MemoryMap) (w : Wanted) (ws : List Wanted) → place_in sizes map w.space w.size w.align ≡ None → all_placed sizes map (w ∷ ws) ≡ Err w.space
  none_placed map w ws none = rw none refl

  abbrev PlacesShort : List Wanted → Type 0
  PlacesShort ws = (map : MemoryMap) → all_placed sizes map ws ≡ Err space → FallsShort sizes map ws space

  one_short : (w : Wanted) (ws : List Wanted) (map : MemoryMap) → PlacesShort ws → (o : Option ℕ) → place_in sizes map w.space w.size w.align ≡ o
      → all_placed sizes map (w ∷ ws) ≡ Err space → FallsShort sizes map (w ∷ ws) space
  one_short w ws map more None none e = (
    [],
    ws,
    w,
    map,
    refl,
    refl,
    nowhere (words_in sizes w.space) (ranges (blocks_in map w.space)) w.size w.align none,
    err_same w.space space (sym (none_placed map w ws none) ∙ e),
  )
  one_short w ws map more (Some place) there e =
      let later = more (put map w place) (sym (one_placed map w ws place there) ∙ e) in (
        w ∷ later.0,
        later.1,
        later.2,
        later.3,
        ap (λ all. w ∷ all) later.4,
        one_placed map w later.0 place there ∙ later.5,
        later.6,
        later.7,
      )

  falls : (ws : List Wanted) → PlacesShort ws
  falls [] map e = absurd (ok_is_no_err map space e)
  falls (w ∷ ws) map e = one_short w ws map (falls ws) (place_in sizes map w.space w.size w.align) refl e

  -- behind blocks that are placed, one that has no place
  abbrev Behind : List Wanted → Type 0
  Behind first = (rest : List Wanted) (w : Wanted) (map placed : MemoryMap) → all_placed sizes map first ≡ Ok placed → HasNoPlace sizes placed w
      → all_placed sizes map (first ++ w ∷ rest) ≡ Err w.space

  behind_one : (v : Wanted) (first : List Wanted) → Behind first → (rest : List Wanted) (w : Wanted) (map placed : MemoryMap) (o : Option ℕ)
      → place_in sizes map v.space v.size v.align ≡ o → all_placed sizes map (v ∷ first) ≡ Ok placed → HasNoPlace sizes placed w
      → all_placed sizes map (v ∷ (first ++ w ∷ rest)) ≡ Err w.space
  behind_one v first more rest w map placed None missing e none = absurd (ok_is_no_err placed v.space (sym e ∙ none_placed map v first missing))
  behind_one v first more rest w map placed (Some place) there e none =
      one_placed map v (first ++ w ∷ rest) place there ∙ more rest w (put map v place) placed (sym (one_placed map v first place there) ∙ e) none

  behind : (first : List Wanted) → Behind first
  behind [] rest w map placed e none =
      let here : HasNoPlace sizes map w = subst (λ m. HasNoPlace sizes m w) (sym (ok_same map placed e)) none in
      none_placed map w rest (no_least (words_in sizes w.space) (ranges (blocks_in map w.space)) w.size w.align here)
  behind (v ∷ first) rest w map placed e none =
      behind_one v first (behind first) rest w map placed (place_in sizes map v.space v.size v.align) refl e none

  pub unplaced : (ws : List Wanted) (map : MemoryMap) → FallsShort sizes map ws space → all_placed sizes map ws ≡ Err space
  unplaced ws map short = ap (all_placed sizes map) short.4 ∙ behind short.0 short.1 short.2 map short.3 short.5 short.6 ∙ ap Err short.7

  mapped : {A B : Type 0} (f : A → B) (r : Result A Space) → result_map_both f (λ (other : Space). other) r ≡ Err space → r ≡ Err space
  mapped f (Ok a) e = absurd (ok_is_no_err (f a) space e)
  mapped f (Err other) e = ap Err (err_same other space e)

-- ---- creations

module _ {M : Type 0} (kinds : Meaning M) (before after : State M) (i : ℕ) (kind : M) (g : ℕ) (p : List ℤ) (space : Space) where
  room_is : (r : Refusal) → ◌≡◌ {A = Result (Unit {0}) Refusal} (Err (Room space)) (Err r) → r ≡ Room space
  room_is r e = sym (err_same (Room space) r e)

  same_space : (other : Space) → Room other ≡ Room space → other ≡ space
  same_space other e = cc

  not_ok : (done : Unit {0}) → ◌≡◌ {A = Result (Unit {0}) Refusal} (Err (Room space)) (Ok done) → ⊥
  not_ok done e = cc

  no_params : ◌≡◌ {A = Result (Unit {0}) Refusal} (Err (Room space)) (Err Params) → ⊥
  no_params e = cc

  no_range : ◌≡◌ {A = Result (Unit {0}) Refusal} (Err (Room space)) (Err Range) → ⊥
  no_range e = cc

  no_taken : ◌≡◌ {A = Result (Unit {0}) Refusal} (Err (Room space)) (Err Taken) → ⊥
  no_taken e = cc

  -- the memory that was asked for, and found no room
  pub record Unmet (table : Option (List MemRec)) : Type 0 where
    pub records : List MemRec
    pub asked : table ≡ Some records
    pub short : created_map before.sizes before.map i g records (sharers_of kinds before.living (newborn kind g p records)) ≡ Err space

  unmet : (table : Option (List MemRec)) → (Err (Room space), after) ≡ with_memory kinds before i kind g p table → Unmet table
  unmet None e = absurd (no_params (ap (λ o. o.0) e))
  unmet (Some records) e =
      let x = newborn kind g p records in
      record {
        records = records;
        asked = refl;
        short = no_map_of x records (created_map before.sizes before.map i g records (sharers_of kinds before.living x)) e;
      }
    where
      no_map_of : (x : Living M) (records : List MemRec) (placed : Result MemoryMap Space) → (Err (Room space), after) ≡ with_room before i x records placed → placed ≡ Err space
      no_map_of x records (Ok map) e = absurd (not_ok tt (ap (λ o. o.0) e))
      no_map_of x records (Err other) e = ap Err (same_space other (room_is (Room other) (ap (λ o. o.0) e)))

  pub record Wants (numbers taken : Bool) (table : Option (List MemRec)) : Type 0 where
    pub in_range : numbers ≡ true
    pub absent : taken ≡ false
    pub unmet : Unmet table

  wants : (numbers taken : Bool) (table : Option (List MemRec))
      → (Err (Room space), after) ≡ steps.unless (first_refusal ((not numbers, Range) ∷ (taken, Taken) ∷ [])) before (with_memory kinds before i kind g p table)
      → Wants numbers taken table
  wants false taken table e = absurd (no_range (ap (λ o. o.0) e))
  wants true true table e = absurd (no_taken (ap (λ o. o.0) e))
  wants true false table e = record { in_range = refl; absent = refl; unmet = unmet table e }

module _ {M : Type 0} (kinds : Meaning M) (before after : State M) (i g : ℕ) (kind : M) (p : List ℤ) (answer : Result (Unit {0}) Refusal) (space : Space)
    (does : host_calls.Creates kinds before i kind g p answer after) (known : IsTrue (tells_memory kinds before.poison kind p)) where
  lacks : answer ≡ Err (Room space) → LacksRoom kinds before i kind g p space
  lacks e =
      let w = wants kinds before after i kind g p space (is_instance_number i && is_group_number g) (is_some (before.living i)) does.table
      (subst (λ a. (a, after) ≡ create kinds before i kind g p does.table) e does.outcome) in
      let both = both_true (is_instance_number i) (is_group_number g) w.in_range in (
        ltb-true i INSTANCES both.0,
        ltb-true g GROUPS both.1,
        none_there (before.living i) w.absent,
        w.unmet.records,
        sym (does.asked.told known) ∙ w.unmet.asked,
        let sharers = sharers_of kinds before.living (newborn kind g p w.unmet.records) in
            falls before.sizes space (wanted_by sharers before.map i g w.unmet.records) before.map
            (mapped before.sizes space (λ placed. renamed (taken_over sharers i) (without_replaced before.map g w.unmet.records placed))
            (all_placed before.sizes before.map (wanted_by sharers before.map i g w.unmet.records)) w.unmet.short),
      )

  refused : LacksRoom kinds before i kind g p space → answer ≡ Err (Room space)
  refused l =
      let sharers = sharers_of kinds before.living (newborn kind g p l.3) in
      let short = ap (result_map_both (λ placed. renamed (taken_over sharers i) (without_replaced before.map g l.3 placed)) (λ (other : Space). other))
      (unplaced before.sizes space (wanted_by sharers before.map i g l.3) before.map l.5) in
      ap (λ o. o.0) (does.outcome ∙ ap (λ t. create kinds before i kind g p t) (does.asked.told known ∙ l.4)
      ∙ create_room before kinds i g kind p l.3 space l.0 l.1 l.2 short)

  pub exactly : (answer ≡ Err (Room space)) ↔ LacksRoom kinds before i kind g p space
  exactly = (lacks, refused)

-- ---- other calls

module _ {M : Type 0} (before after : Channels M) (space : Space) where
  -- a refusal that is told is the first whose test holds
  told_is : (answer : Result (Unit {0}) Refusal) (next : Channels M) (r : Option Refusal) → (answer, after) ≡ unless r before (Ok (tt {0}), next)
      → result_err answer ≡ Some (Room space) → r ≡ Some (Room space)
  told_is answer next None does e = ap (λ o. result_err o.0) (sym does) ∙ e
  told_is answer next (Some refusal) does e = ap (λ o. result_err o.0) (sym does) ∙ e

  by_chain : (range taken missing busy : Bool) → first_refusal ((range, Range) ∷ (taken, Taken) ∷ (missing, Missing) ∷ (busy, Busy) ∷ []) ≡ Some (Room space) → ⊥
  by_chain true taken missing busy e = cc
  by_chain false true missing busy e = cc
  by_chain false false true busy e = cc
  by_chain false false false true e = cc
  by_chain false false false false e = cc

  by_channel : (range missing : Bool) → first_refusal ((range, Range) ∷ (missing, Missing) ∷ []) ≡ Some (Room space) → ⊥
  by_channel true missing e = cc
  by_channel false true e = cc
  by_channel false false e = cc

  by_delete : (range missing busy : Bool) → first_refusal ((range, Range) ∷ (missing, Missing) ∷ (busy, Busy) ∷ []) ≡ Some (Room space) → ⊥
  by_delete true missing busy e = cc
  by_delete false true busy e = cc
  by_delete false false true e = cc
  by_delete false false false e = cc

  -- a creation of the host is one of channels
  its_creation : (call : host_calls.Call M) → host_laws.IsCreation call → IsCreation (OfHost call)
  its_creation (host_calls.Create i kind g p answer) is = tt
  its_creation (host_calls.Control i c answer) is = is
  its_creation (host_calls.Process i block out) is = is
  its_creation (host_calls.Delete i answer) is = is
  its_creation (host_calls.Release g answer) is = is
  its_creation (host_calls.Step space answer) is = is
  its_creation (host_calls.Compact space answer) is = is
  its_creation (host_calls.Stat g answer) is = is
  its_creation (host_calls.Map space answer) is = is
  its_creation (host_calls.Lives i answer) is = is
  its_creation (host_calls.Copied answer) is = is

  pub only : (kinds : Meaning M)
      → ((b a : State M) (call : host_calls.Call M) → host_calls.Does kinds b call a → host_calls.refusal_of call ≡ Some (Room space) → host_laws.IsCreation call)
      → (call : Call M) → Does kinds before call after → refusal_of call ≡ Some (Room space) → IsCreation call
  only kinds law (Chain c members answer) does e = by_chain _ _ _ _ (told_is answer (with_members before c members) (chain_refusal before c members) does e)
  only kinds law (Unchain c answer) does e = by_channel _ _ (told_is answer (with_members before c []) (channel_refusal before c) does e)
  only kinds law (Remove i answer) does e = by_delete _ _ _ (told_is answer (on_host before (steps.delete kinds before.host i).1) (delete_refusal before i) does e)
  only kinds law (Ready c answer) does e = by_channel _ _ (told_is answer before (channel_refusal before c) does e)
  only kinds law (Feed c block out) does e = absurd (none-some (Room space) e)
  only kinds law (OfHost call) does e = its_creation call (law before.host after.host call does.1 e)
