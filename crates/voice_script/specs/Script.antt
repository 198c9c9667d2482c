-- The lines of a script, and what each of them asks.
use Rattle.std.specs.Prelude.{ℕ, ◌+◌, ◌-◌, ◌*◌, Bool, true, false, ◌&&◌, ◌||◌, not, List, [], ◌∷◌, map, filter, fold, length, ℤ, pos, neg_ℤ, unsigned_abs, Option, Some, None, Result, Ok, Err, nat_le, ◌==◌, if◌then◌else◌, bytes_eq, codes}
use Rattle.std.specs.List.{list_all, slice_split}
use Rattle.std.specs.Option.{option_map_or}
use Rattle.std.specs.Result.{result_map_both}
use Rattle.std.specs.Char.{is_ascii_digit}
use Rattle.ialg.specs.declared.TheConstants.{PARAMETER_WORDS}
use Rattle.ialg.specs.declared.refusal.Refusal.{Refusal}
use Rattle.ialg.specs.declared.refusal.Refusal.TheVariants.{Syntax, Range}
use Rattle.ialg.specs.History.{Ctl, Set, Reset, Get}
use Rattle.ialg.specs.Meaning.{is_between}
use Rattle.mem_rec.specs.declared.Space.{Space}
use Rattle.mem_rec.specs.declared.Space.TheVariants.{Daram, Saram, External}
use Rattle.voice_script.specs.declared.limits.TheConstants.{FEED_SAMPLES, MEMBERS}

-- a command, by the numbers of instances, groups and channels
pub data Command (M : Type 0) : Type 0 where
  Create : (i : ℕ) (kind : M) (g : ℕ) (words : List ℤ) → Command M
  Control : (i : ℕ) (control : Ctl) → Command M
  Delete : (i : ℕ) → Command M
  Chain : (c : ℕ) (is : List ℕ) → Command M
  Unchain : (c : ℕ) → Command M
  Feed : (c n : ℕ) → Command M
  Compact Step Map : (space : Space) → Command M
  Release Stat : (g : ℕ) → Command M

-- ---- lines and words

abbrev pub is_empty : List ℕ → Bool
is_empty [] = true
is_empty (b ∷ bs) = false

-- the parts between line feeds: a last part that is empty is a line with no words
abbrev pub lines_of : List ℕ → List (List ℕ)
lines_of script = slice_split (λ b. b == 10) script

-- less one carriage return at the end
abbrev pub without_return : List ℕ → List ℕ
without_return [] = []
without_return (b ∷ []) = if b == 13 then [] else b ∷ []
without_return (b ∷ c ∷ bs) = b ∷ without_return (c ∷ bs)

abbrev pub is_blank : ℕ → Bool
is_blank b = b == 32 || b == 9

abbrev pub words_of : List ℕ → List (List ℕ)
words_of line = filter (λ w. not (is_empty w)) (slice_split is_blank line)

-- ---- numbers

abbrev pub is_digits : List ℕ → Bool
is_digits ds = not (is_empty ds) && list_all is_ascii_digit ds

abbrev pub digits_value : List ℕ → ℕ
digits_value ds = fold (λ n d. 10 * n + (d - 48)) 0 ds

-- an optional minus, and one or more digits
abbrev pub is_number : List ℕ → Bool
is_number [] = false
is_number (b ∷ bs) = if b == 45 then is_digits bs else is_digits (b ∷ bs)

abbrev pub value_of : List ℕ → ℤ
value_of [] = pos 0
value_of (b ∷ bs) = if b == 45 then neg_ℤ (pos (digits_value bs)) else pos (digits_value (b ∷ bs))

-- the word's number is one from the lowest to the highest
abbrev pub fits : (low high : ℤ) → List ℕ → Bool
fits low high w = is_between low high (value_of w)

-- for the numbers of instances, groups and channels
abbrev pub fits_byte : List ℕ → Bool
fits_byte w = fits (pos 0) (pos 255) w

-- for parameters and the words of a `set`
abbrev pub fit_words : List (List ℕ) → Bool
fit_words ws = nat_le (length ws) PARAMETER_WORDS && list_all (fits (neg_ℤ (pos 32768)) (pos 32767)) ws

abbrev pub natural : List ℕ → ℕ
natural w = unsigned_abs (value_of w)

-- ---- rows

-- a line whose words fit the row, or don't, and whose numbers are in their ranges, or aren't
abbrev pub row : {A : Type 0} → Bool → Bool → A → Result A Refusal
row is_one in_range command = if is_one then (if in_range then Ok command else Err Range) else Err Syntax

-- the number of a row that has one number alone
abbrev pub only_number : List (List ℕ) → Result ℕ Refusal
only_number (w ∷ []) = row (is_number w) (fits_byte w) (natural w)
only_number _ = Err Syntax

abbrev pub space_named : List ℕ → Result Space Refusal
space_named w =
    if bytes_eq w (codes "daram") then Ok Daram
    else (if bytes_eq w (codes "saram") then Ok Saram
    else (if bytes_eq w (codes "external") then Ok External else Err Syntax))

-- the space of a row that has one space alone
abbrev pub only_space : List (List ℕ) → Result Space Refusal
only_space (w ∷ []) = space_named w
only_space _ = Err Syntax

-- the command of what a row holds
abbrev pub to : {A B : Type 0} → (A → B) → Result A Refusal → Result B Refusal
to command held = result_map_both command (λ refusal. refusal) held

module _ {M : Type 0} where
  -- a kind's name is a word of the row, as the others
  abbrev pub create_row : (List ℕ → Option M) → List (List ℕ) → Result (Command M) Refusal
  create_row named (i ∷ name ∷ g ∷ ws) =
      option_map_or (λ kind. row (list_all is_number (i ∷ g ∷ ws)) (fits_byte i && fits_byte g && fit_words ws)
      (Create (natural i) kind (natural g) (map value_of ws))) (named name) (Err Syntax)
  create_row named _ = Err Syntax

  -- by the word behind the instance
  abbrev pub control_row : List (List ℕ) → Result (Command M) Refusal
  control_row (i ∷ w ∷ ws) =
      if bytes_eq w (codes "set") then row (list_all is_number (i ∷ ws)) (fits_byte i && fit_words ws) (Control (natural i) (Set (map value_of ws)))
      else (if bytes_eq w (codes "reset") then to (λ n. Control n Reset) (only_number (i ∷ ws))
      else (if bytes_eq w (codes "get") then to (λ n. Control n Get) (only_number (i ∷ ws)) else Err Syntax))
  control_row _ = Err Syntax

  -- one member or more
  abbrev pub chain_row : List (List ℕ) → Result (Command M) Refusal
  chain_row (c ∷ i ∷ is) =
      row (list_all is_number (c ∷ i ∷ is)) (fits_byte c && (nat_le (length (i ∷ is)) MEMBERS && list_all fits_byte (i ∷ is)))
      (Chain (natural c) (map natural (i ∷ is)))
  chain_row _ = Err Syntax

  abbrev pub feed_row : List (List ℕ) → Result (Command M) Refusal
  feed_row (c ∷ n ∷ []) = row (is_number c && is_number n) (fits_byte c && fits (pos 1) (pos FEED_SAMPLES) n) (Feed (natural c) (natural n))
  feed_row _ = Err Syntax

  -- commands of memory and of groups, by the line's first word
  abbrev pub memory_command_of : List ℕ → List (List ℕ) → Result (Command M) Refusal
  memory_command_of w ws =
      if bytes_eq w (codes "compact") then to Compact (only_space ws)
      else (if bytes_eq w (codes "step") then to Step (only_space ws)
      else (if bytes_eq w (codes "release") then to Release (only_number ws)
      else (if bytes_eq w (codes "map") then to Map (only_space ws)
      else (if bytes_eq w (codes "stat") then to Stat (only_number ws) else Err Syntax))))

  -- by the line's first word
  abbrev pub command_of : (List ℕ → Option M) → List ℕ → List (List ℕ) → Result (Command M) Refusal
  command_of named w ws =
      if bytes_eq w (codes "create") then create_row named ws
      else (if bytes_eq w (codes "control") then control_row ws
      else (if bytes_eq w (codes "delete") then to Delete (only_number ws)
      else (if bytes_eq w (codes "chain") then chain_row ws
      else (if bytes_eq w (codes "unchain") then to Unchain (only_number ws)
      else (if bytes_eq w (codes "feed") then feed_row ws
      else memory_command_of w ws)))))

  -- none for a blank line
  abbrev pub asked_by : (List ℕ → Option M) → List (List ℕ) → Result (Option (Command M)) Refusal
  asked_by named [] = Ok None
  asked_by named (w ∷ ws) = to Some (command_of named w ws)

  -- what a line asks that isn't long
  abbrev pub parsed : (List ℕ → Option M) → List ℕ → Result (Option (Command M)) Refusal
  parsed named line = asked_by named (words_of (without_return line))
