-- What the laws of a console without memory say.
use Rattle.std.specs.Prelude.{◌≡◌, ℕ, ℤ, Bool, true, false, List, [], ◌∷◌, Option, Some, None, codes}
use Rattle.mem_rec.specs.declared.Space.{Space}
use Rattle.ialg.specs.declared.refusal.Refusal.TheVariants.{Missing, Room}
use Rattle.ialg.specs.Meaning.{Meaning}
use Rattle.host_map.specs.declared.parts.Sizes.{Sizes}
use Rattle.host_spec.specs.Answers.{AreLawful}
use Rattle.channel_spec.specs.Channels.{Channels}
use Rattle.voice_script.specs.Script.{parsed}
use Rattle.voice_script.specs.Replies.{Reply, Count, Flag, Map, No, Stat}
use Rattle.voice_script.specs.Served.{Answer, Asked, LinesAnswer, Output, Replied, Tell, Written, held_by, order_of}
use Rattle.voice_script.specs.Widths.{Widths}
use Rattle.console_spec.specs.Console.{console_machine, start}
use Rattle.console_spec.specs.Sounds.{FeedMay, Sounds, LineMay, Sounding}

-- what a console answers to lines has sounds
abbrev pub AnswersHaveSounds : Type 0 → Type 0
AnswersHaveSounds M =
    (kinds : Meaning M) (named : List ℕ → Option M) (widths : Widths) (sizes : Sizes) (poison : Option ℤ) (lines inputs : List (List ℕ)) (honest : ℕ → Bool) (answer : Answer (Channels M))
    → LinesAnswer (console_machine kinds named widths) honest (start sizes poison inputs) lines answer
    → Sounds kinds named widths poison lines inputs answer.run.inputs honest answer.written

-- the space that a reply tells to lack room, if it tells one
abbrev pub room_told : Reply → Option Space
room_told (No (Room space)) = Some space
room_told _ = None

abbrev pub room_asked : Asked → Option Space
room_asked (Tell reply) = room_told reply
room_asked _ = None

-- a reply without the numbers of memory
abbrev pub without_numbers : Reply → Reply
without_numbers (Count n) = Count 0
without_numbers (Flag flag) = Flag false
without_numbers (Stat active activations) = Stat None 0
without_numbers (Map blocks) = Map []
without_numbers reply = reply

abbrev pub asked_without_numbers : Asked → Asked
asked_without_numbers (Tell reply) = Tell (without_numbers reply)
asked_without_numbers asked = asked

-- of each reply that was written, the space that it tells to lack room
abbrev pub rooms_told : List Written → List (Option Space)
rooms_told [] = []
rooms_told (Replied reply ∷ written) = room_told reply ∷ rooms_told written
rooms_told (Output c octets ∷ written) = rooms_told written

-- what was written, without the numbers of memory. The count of a feed follows its output, and stays
abbrev pub heard : List Written → List Written
heard [] = []
heard (Replied reply ∷ written) = Replied (without_numbers reply) ∷ heard written
heard (Output c octets ∷ []) = Output c octets ∷ []
heard (Output c octets ∷ reply ∷ written) = Output c octets ∷ reply ∷ heard written

-- where all kinds are lawful and all inputs honest, two runs (of whatever sizes and poison words) of the same lines over the same inputs, of whose creations the same lack room, write the
-- same on each output, and the same replies in the same order but for the numbers of memory, and leave the same of the inputs
abbrev pub SoundsAreOne : Type 0 → Type 0
SoundsAreOne M =
    (kinds : Meaning M) (named : List ℕ → Option M) (widths : Widths) (poison other : Option ℤ) (lines octets rest left : List (List ℕ)) (honest : ℕ → Bool) (one two : List Written)
    → AreLawful kinds poison → AreLawful kinds other → ((channel : ℕ) → honest channel ≡ true)
    → Sounds kinds named widths poison lines octets rest honest one → Sounds kinds named widths other lines octets left honest two
    → rooms_told one ≡ rooms_told two
    → ((c : ℕ) → held_by (Some c) (order_of one) ≡ held_by (Some c) (order_of two)) × (heard one ≡ heard two) × (rest ≡ left)

-- a script that is refused has sounds in which it is: no silence is an answer to it, and no other refusal
abbrev pub SilenceIsNoAnswer : Type 0 → Type 0
SilenceIsNoAnswer M =
    (kinds : Meaning M) (named : List ℕ → Option M) (widths : Widths) (poison : Option ℤ) (rest : List (List ℕ)) (honest : ℕ → Bool) (written : List Written)
    → Sounds kinds named widths poison (codes "unchain 0" ∷ []) ([] ∷ []) rest honest written → written ≡ Replied (No Missing) ∷ []

-- where all kinds are lawful, and the same creations lack room, a line asks one thing and leads to one state, but for the numbers of memory
abbrev pub LinesSoundAlike : Type 0 → Type 0
LinesSoundAlike M =
    (kinds : Meaning M) (named : List ℕ → Option M) (widths : Widths) (poison other : Option ℤ) (before : Sounding M) (line : List ℕ) (one two : Asked × Sounding M)
    → AreLawful kinds poison → AreLawful kinds other → LineMay kinds poison widths (parsed named line) before one → LineMay kinds other widths (parsed named line) before two
    → room_asked one.0 ≡ room_asked two.0
    → (asked_without_numbers one.0 ≡ asked_without_numbers two.0) × (one.1 ≡ two.1)

-- and a block gives one output
abbrev pub FeedsSoundAlike : Type 0 → Type 0
FeedsSoundAlike M =
    (kinds : Meaning M) (widths : Widths) (poison other : Option ℤ) (before : Sounding M) (c : ℕ) (octets one two : List ℕ) (m n : ℕ) (after next : Sounding M)
    → AreLawful kinds poison → AreLawful kinds other → FeedMay kinds poison widths before c octets one m after → FeedMay kinds other widths before c octets two n next
    → (one ≡ two) × (m ≡ n) × (after ≡ next)
