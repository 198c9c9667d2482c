-- What the clauses of private functions alone name: a line as it is cut, words as they are read one by one, and parts of rows and of replies.
use Rattle.std.specs.Prelude.{◌≡◌, ◌≤◌, ◌<◌, ℕ, length, take, slice_index_or, Bool, true, false, List, [], ◌∷◌, ◌++◌, All, ℤ, pos, neg_ℤ, ◌≤ℤ◌, ◌<ℤ◌, ◌&&◌, nat_le, map, decimal, Option, Some, None, Result, Ok, Err, if◌then◌else◌, codes}
use Rattle.std.specs.List.{list_all}
use Rattle.std.specs.Option.{option_map_or}
use Rattle.std.specs.Char.{is_ascii_digit}
use Rattle.std.specs.Fmt.{signed_decimal}
use Rattle.ialg.specs.History.{Set, Reset, Get}
use Rattle.ialg.specs.declared.refusal.Refusal.{Refusal}
use Rattle.ialg.specs.declared.refusal.Refusal.TheVariants.{Range, Syntax}
use Rattle.host_map.specs.declared.placed.Placed.{Placed}
use Rattle.voice_script.specs.Script as script
use Rattle.voice_script.specs.Replies.{block_text}
use Rattle.voice_script.specs.declared.words.Words.{Words}
use Rattle.voice_script.specs.declared.limits.TheConstants.{FEED_SAMPLES, GREATEST_MAGNITUDE, MEMBERS, SHORT_DIGITS}

abbrev pub IsNoBlank : ℕ → Type 0
IsNoBlank b = script.is_blank b ≡ false

-- the line is the word, a blank and what follows, and the word has no blank
pub record PartsAtBlank (line word after : List ℕ) : Type 0 where
  pub blank : ℕ
  pub is_blank : script.is_blank blank ≡ true
  pub no_blanks : All IsNoBlank word
  pub parts : line ≡ word ++ blank ∷ after

-- the words that are still to come
abbrev pub to_come : Words → List (List ℕ)
to_come words = script.words_of words.line.now

-- as far as 16 bits and more, a number itself, and beyond it the limit
pub record Limits (z n : ℤ) : Type 0 where
  pub within : neg_ℤ (pos GREATEST_MAGNITUDE) ≤ℤ z → z ≤ℤ pos GREATEST_MAGNITUDE → n ≡ z
  pub below : z <ℤ neg_ℤ (pos GREATEST_MAGNITUDE) → n ≡ neg_ℤ (pos GREATEST_MAGNITUDE)
  pub above : pos GREATEST_MAGNITUDE <ℤ z → n ≡ pos GREATEST_MAGNITUDE

-- the line begins with so many digits, which are a word, and have this value
pub record BeginsWithDigits (line : List ℕ) (count value : ℕ) : Type 0 where
  pub some : 1 ≤ count
  pub within : count ≤ length line
  pub digits : list_all is_ascii_digit (take count line) ≡ true
  pub valued : value ≡ script.digits_value (take count line)
  pub most : value ≤ GREATEST_MAGNITUDE
  pub end : count < length line → script.is_blank (slice_index_or line count 0) ≡ true

-- the line's first word is a number of so many digits, which are few. In a line of more octets than that a space stands behind it, no tab
pub record HasShortNumber (line : List ℕ) (count : ℕ) : Type 0 where
  pub some : 1 ≤ count
  pub few : count ≤ SHORT_DIGITS
  pub within : count ≤ length line
  pub digits : list_all is_ascii_digit (take count line) ≡ true
  pub end : count < length line → script.is_blank (slice_index_or line count 0) ≡ true
  pub space : SHORT_DIGITS < length line → slice_index_or line count 0 ≡ 32

-- the line's first word is no such number
abbrev pub HasNoShortNumber : List ℕ → Type 0
HasNoShortNumber line = (count : ℕ) → HasShortNumber line count → ⊥

-- the word that most lines begin with
abbrev pub feed_word : List ℕ
feed_word = codes "feed"

-- words that many lines begin with
abbrev pub create_word : List ℕ
create_word = codes "create"

abbrev pub delete_word : List ℕ
delete_word = codes "delete"

abbrev pub begins_with_number : List (List ℕ) → Bool
begins_with_number [] = false
begins_with_number (w ∷ ws) = script.is_number w

abbrev pub named_before : {M : Type 0} → Option M → List (List ℕ) → Result (M × List (List ℕ)) Refusal
named_before None ws = Err Syntax
named_before (Some kind) ws = Ok (kind, ws)

-- the first of the words, a name, and the others
abbrev pub kind_first : {M : Type 0} → (List ℕ → Option M) → List (List ℕ) → Result (M × List (List ℕ)) Refusal
kind_first named [] = Err Syntax
kind_first named (w ∷ ws) = named_before (named w) ws

abbrev pub at_end : List (List ℕ) → Result Unit Refusal
at_end [] = Ok tt
at_end (w ∷ ws) = Err Syntax

-- why the words of a list of numbers aren't taken: one is no number, or else one is out of its range or there are too many
abbrev pub why_unfit : List (List ℕ) → Refusal
why_unfit ws = if list_all script.is_number ws then Range else Syntax

-- ---- ranges

abbrev pub fits_word : List ℕ → Bool
fits_word w = script.fits (neg_ℤ (pos 32768)) (pos 32767) w

abbrev pub fits_samples : List ℕ → Bool
fits_samples w = script.fits (pos 1) (pos FEED_SAMPLES) w

-- for the members of a channel
abbrev pub fit_members : List (List ℕ) → Bool
fit_members ws = nat_le (length ws) MEMBERS && list_all script.fits_byte ws

-- ---- rows of `control`

abbrev pub set_row : {M : Type 0} → List ℕ → List (List ℕ) → Result (script.Command M) Refusal
set_row i ws =
    script.row (list_all script.is_number (i ∷ ws)) (script.fits_byte i && script.fit_words ws)
    (script.Control (script.natural i) (Set (map script.value_of ws)))

abbrev pub reset_row : {M : Type 0} → List ℕ → List (List ℕ) → Result (script.Command M) Refusal
reset_row i ws = script.to (λ n. script.Control n Reset) (script.only_number (i ∷ ws))

abbrev pub get_row : {M : Type 0} → List ℕ → List (List ℕ) → Result (script.Command M) Refusal
get_row i ws = script.to (λ n. script.Control n Get) (script.only_number (i ∷ ws))

-- ---- parts of replies

-- each word after one space
abbrev pub word_text : ℤ → List ℕ
word_text z = codes " " ++ signed_decimal z

-- each block after one space
abbrev pub entry_text : Placed → List ℕ
entry_text b = codes " " ++ block_text b

-- a minus where no member is active
abbrev pub active_text : Option ℕ → List ℕ
active_text active = option_map_or decimal active (codes "-")
