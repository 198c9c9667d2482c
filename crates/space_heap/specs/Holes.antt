-- The holes of a heap: its free words as ranges in place order, no two of which touch. Each says in its own first two words how long it
-- is and where the next one begins. No public contract speaks of them.
use Rattle.std.specs.Prelude.{◌≡◌, ℕ, zero, suc, ◌+◌, ◌-◌, ◌/◌, ◌%◌, ◌<◌, ◌≤◌, ◌⊎◌, Bool, true, false, ◌||◌, ℤ, pos, negsuc, List, [], ◌∷◌, ◌++◌, map, length, count_by, Option, Some, None, is_some, MatchOption, nat_lt, if◌then◌else◌}
use Rattle.std.specs.Int.{next_multiple_of}
use Rattle.mem_rec.specs.declared.TheConstants.{LEAST_ALIGNMENT}
use Rattle.space_raw.specs.Span.{Extent, Scattered}
use Rattle.relocate.specs.declared.limits.TheConstants.{SPACE_WORDS}
use Rattle.space_heap.specs.declared.hole.Hole.{Hole}
use Rattle.space_heap.specs.declared.find.Found.{Found}
use Rattle.space_heap.specs.declared.find.Fit.{Fit}
use Rattle.space_heap.specs.declared.holes.Front.{Front}
use Rattle.space_heap.specs.declared.holes.Back.{Back}
use Rattle.relocate.specs.Places.{Range, covers, end_of, is_covered, IsSpaceSize}
use Rattle.space_heap.specs.Maps.{IsBlock}

-- the word at place k, if no piece has it
abbrev pub free_word : List (Option ℤ) → ℕ → Option ℤ
free_word [] k = None
free_word (w ∷ ws) zero = w
free_word (w ∷ ws) (suc k) = free_word ws k

-- whether word k is free
abbrev pub in_rest : List (Option ℤ) → ℕ → Bool
in_rest words k = is_some (free_word words k)

abbrev pub hole_end : Hole → ℕ
hole_end h = h.place + h.len

abbrev pub hole_range : Hole → Range
hole_range h = record { place = h.place; size = h.len }

-- what stands for a place, and for none
abbrev pub link : Option ℕ → ℤ
link None = negsuc 0
link (Some place) = pos (place / LEAST_ALIGNMENT)

-- a place at which a hole can begin
abbrev pub IsHolePlace : ℕ → Type 0
IsHolePlace place = (place % LEAST_ALIGNMENT ≡ 0) × (place < SPACE_WORDS)

abbrev pub IsLink : Option ℕ → Type 0
IsLink next = MatchOption next (Unit {0}) IsHolePlace

-- a hole that can be written
pub record IsHole (h : Hole) : Type 0 where
  pub block : IsBlock SPACE_WORDS (hole_range h)
  pub next : IsLink h.next

-- it stands in its first two words: its length, and the place of the next one
pub record IsWritten (words : List (Option ℤ)) (h : Hole) : Type 0 where
  pub len : free_word words h.place ≡ Some (pos (h.len / LEAST_ALIGNMENT))
  pub next : free_word words (h.place + 1) ≡ Some (link h.next)

-- all words but the n from p on are what they were
abbrev pub IsSameBut : List (Option ℤ) → ℕ → ℕ → List (Option ℤ) → Type 0
IsSameBut old p n new = (k : ℕ) → (k < p) ⊎ (p + n ≤ k) → free_word new k ≡ free_word old k

-- only the n words from p on are written
pub record Rewrites (old : List (Option ℤ)) (p n : ℕ) (new : List (Option ℤ)) : Type 0 where
  pub long : length new ≡ length old
  pub there : (k : ℕ) → in_rest new k ≡ in_rest old k
  pub others : IsSameBut old p n new

-- where the first of the holes begins. Behind them stands `behind`
abbrev pub first_place : List Range → Option ℕ → Option ℕ
first_place [] behind = behind
first_place (h ∷ hs) behind = Some h.place

-- where the last of them begins. Before them stands `before`
abbrev pub last_place : Option ℕ → List Range → Option ℕ
last_place before [] = before
last_place before (h ∷ hs) = last_place (Some h.place) hs

-- each of the holes leads to the next one, and the last to `behind`
abbrev pub AreWritten : List (Option ℤ) → List Range → Option ℕ → Type 0
AreWritten words [] behind = Unit {0}
AreWritten words (h ∷ hs) behind = IsWritten words (record { place = h.place; len = h.size; next = first_place hs behind }) × AreWritten words hs behind

-- ranges of a space in place order, the first from low on, each behind the word that follows the one before, and that word below high
abbrev pub Chain : ℕ → ℕ → List Range → ℕ → Type 0
Chain size low [] high = low ≤ high
Chain size low (h ∷ hs) high = IsBlock size h × (low ≤ h.place) × Chain size (end_of h + 1) hs high

-- these are the holes, and the first of them is at `first`
pub record AreHoles (words : List (Option ℤ)) (first : Option ℕ) (holes : List Range) : Type 0 where
  pub size : IsSpaceSize (length words)
  pub chain : Chain (length words) 0 holes (length words + 1)
  pub all : (k : ℕ) → in_rest words k ≡ is_covered holes k
  pub start : first ≡ first_place holes None
  pub written : AreWritten words holes None

abbrev pub HasHoles : List (Option ℤ) → Option ℕ → Type 0
HasHoles words first = (holes : List Range) × AreHoles words first holes

-- what a heap keeps of its fields
pub record IsHeap (region : Extent) (rest : Scattered) (size : ℕ) (first : Option ℕ) (free : ℕ) : Type 0 where
  pub owner : rest.region ≡ region
  pub same_size : size ≡ region.size
  pub long : length rest.slots ≡ region.size
  pub holes : HasHoles rest.slots first
  pub counted : free ≡ count_by (λ mark. mark) (map is_some rest.slots)

-- it is one of the holes
pub record IsFound (words : List (Option ℤ)) (first : Option ℕ) (found : Found) : Type 0 where
  pub left : List Range
  pub right : List Range
  pub holes : AreHoles words first (left ++ hole_range found.hole ∷ right)
  pub before : found.before ≡ last_place None left
  pub next : found.hole.next ≡ first_place right None

-- no hole from `next` on begins before the place
abbrev pub IsFromOn : ℕ → Option ℕ → Type 0
IsFromOn place next = MatchOption next (Unit {0}) (λ p. place ≤ p)

-- it is the last hole that begins before the place
abbrev pub IsLastBefore : List (Option ℤ) → Option ℕ → ℕ → Found → Type 0
IsLastBefore words first place f = IsFound words first f × (f.hole.place < place) × IsFromOn place f.hole.next

-- len words from the place on are in a hole that was found
pub record IsFit (words : List (Option ℤ)) (first : Option ℕ) (len : ℕ) (fit : Fit) : Type 0 where
  pub found : IsFound words first fit.found
  pub low : fit.found.hole.place ≤ fit.place
  pub high : fit.place + len ≤ hole_end fit.found.hole
  pub unit : fit.place % LEAST_ALIGNMENT ≡ 0

-- the words from the fit's place up to this one are the last of a hole
abbrev pub IsFitBefore : List (Option ℤ) → Option ℕ → ℕ → Fit → Type 0
IsFitBefore words first place f = (f.place < place) × (hole_end f.found.hole ≡ place) × IsFit words first (place - f.place) f

-- a block can begin at the place, whose first word is in no hole
abbrev pub IsTakenPlace : List (Option ℤ) → ℕ → Type 0
IsTakenPlace words place = (place % LEAST_ALIGNMENT ≡ 0) × (place < length words) × (in_rest words place ≡ false)

-- no word of the range is in a hole
abbrev pub IsTaken : List (Option ℤ) → Range → Type 0
IsTaken words r = (k : ℕ) → r.place ≤ k → k < end_of r → in_rest words k ≡ false

-- the words from one place up to another as a hole, if there are some
abbrev pub between : ℕ → ℕ → List Range
between from to = if nat_lt from to then record { place = from; size = to - from } ∷ [] else []

-- the holes, once len words from the fit's place on are taken out of its hole
pub record IsCarved (words : List (Option ℤ)) (first : Option ℕ) (len : ℕ) (fit : Fit) : Type 0 where
  pub left : List Range
  pub right : List Range
  pub holes : AreHoles words first (left ++ ((between fit.found.hole.place fit.place ++ between (fit.place + len) (hole_end fit.found.hole)) ++ right))
  pub before : fit.found.before ≡ last_place None left
  pub next : fit.found.hole.next ≡ first_place right None
  pub chain : Chain (length words) 0 left fit.found.hole.place

-- where the hole at `before` leads to, or without it the heap, is now `next`
abbrev pub IsRelinked : List (Option ℤ) → Option ℕ → Option ℕ → Option ℕ → List (Option ℤ) → Option ℕ → Type 0
IsRelinked old old_first before next new new_first = MatchOption before ((new ≡ old) × (new_first ≡ next))
    (λ p. Rewrites old (p + 1) 1 new × (free_word new (p + 1) ≡ Some (link next)) × (new_first ≡ old_first))

-- the free words before a block with those of a hole that ends at its place begin at `from`, and behind `before` and before `next`
pub record IsFront (words : List (Option ℤ)) (first : Option ℕ) (place : ℕ) (front : Front) : Type 0 where
  pub left : List Range
  pub mid : List Range
  pub right : List Range
  pub holes : AreHoles words first (left ++ (mid ++ right))
  pub before : front.before ≡ last_place None left
  pub next : front.next ≡ first_place right None
  pub chain : Chain (length words) 0 left front.from
  pub low : front.from ≤ place
  pub unit : front.from % LEAST_ALIGNMENT ≡ 0
  pub behind : IsFromOn place front.next
  pub all : (k : ℕ) → covers (record { place = front.from; size = place - front.from }) k ≡ is_covered mid k

-- what stands before the place, once the words from the fit's place to its hole's end are a block that ends there
abbrev pub front_of_fit : Fit → ℕ → Front
front_of_fit fit place = record { before = last_place fit.found.before (between fit.found.hole.place fit.place); from = place; next = fit.found.hole.next }

-- `next` leads to the holes that are `right`
abbrev pub LeadsTo : List (Option ℤ) → Option ℕ → List Range → Type 0
LeadsTo words next right = (first : Option ℕ) × (left : List Range) × AreHoles words first (left ++ right) × (next ≡ first_place right None)

-- the free words behind a block with those of a hole that begins at its end, the first of `right`, end at `to`, and before `behind`
pub record IsBack (words : List (Option ℤ)) (right : List Range) (end : ℕ) (back : Back) : Type 0 where
  pub mid : List Range
  pub others : List Range
  pub holes : right ≡ mid ++ others
  pub behind : back.behind ≡ first_place others None
  pub chain : Chain (length words) (back.to + 1) others (length words + 1)
  pub high : end ≤ back.to
  pub inside : back.to ≤ length words
  pub unit : back.to % LEAST_ALIGNMENT ≡ 0
  pub all : (k : ℕ) → covers (record { place = end; size = back.to - end }) k ≡ is_covered mid k

-- so it is with the holes to which `next` leads
abbrev pub IsBackOf : List (Option ℤ) → Option ℕ → ℕ → Back → Type 0
IsBackOf words next end back = (right : List Range) → LeadsTo words next right → IsBack words right end back

-- the range and the free words afterwards make up those before, and have no word in common
pub record AreParts (whole : ℕ → Bool) (r : Range) (rest : ℕ → Bool) : Type 0 where
  pub all : (k : ℕ) → whole k ≡ (covers r k || rest k)
  pub apart : (k : ℕ) → covers r k ≡ true → rest k ≡ false

-- n words are free from p on, a multiple of a
abbrev pub IsPlace : (ℕ → Bool) → ℕ → ℕ → ℕ → Type 0
IsPlace free n a p = (p % a ≡ 0) × ((k : ℕ) → p ≤ k → k < p + n → free k ≡ true)

-- p is the least such place
pub record IsLeastPlace (free : ℕ → Bool) (n a p : ℕ) : Type 0 where
  pub place : IsPlace free n a p
  pub least : (q : ℕ) → IsPlace free n a q → p ≤ q

abbrev pub HasNoPlace : (ℕ → Bool) → ℕ → ℕ → Type 0
HasNoPlace free n a = (q : ℕ) → IsPlace free n a q → ⊥

-- the free range that ends at the place begins at start. It may be empty
pub record IsFreeFrom (is_free : ℕ → Bool) (place start : ℕ) : Type 0 where
  pub low : start ≤ place
  pub free : (k : ℕ) → start ≤ k → k < place → is_free k ≡ true
  pub first : (k : ℕ) → k + 1 ≡ start → is_free k ≡ false

-- the fit is at the least multiple of a in the free range that ends at the place, and there is none where that has no such multiple
abbrev pub IsLowestBefore : List (Option ℤ) → ℕ → ℕ → Option Fit → Type 0
IsLowestBefore words place a fit = (start : ℕ) × IsFreeFrom (in_rest words) place start
    × MatchOption fit (place ≤ next_multiple_of start a) (λ f. f.place ≡ next_multiple_of start a)
