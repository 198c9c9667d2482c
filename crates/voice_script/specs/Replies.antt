-- Replies and their texts.
use Rattle.std.specs.Prelude.{ℕ, Bool, List, [], ◌∷◌, ◌++◌, ℤ, Option, codes, decimal, if◌then◌else◌}
use Rattle.std.specs.List.{flat_map}
use Rattle.std.specs.Option.{option_map_or}
use Rattle.std.specs.Fmt.{signed_decimal}
use Rattle.ialg.specs.declared.refusal.Refusal.{Refusal}
use Rattle.ialg.specs.Refusals.{refusal_told}
use Rattle.host_map.specs.declared.placed.Owner.{Owner}
use Rattle.host_map.specs.declared.placed.Owner.TheVariants.{Record, Scratch}
use Rattle.host_map.specs.declared.placed.Placed.{Placed}

pub data Reply : Type 0 where
  Done : Reply
  Words : (words : List ℤ) → Reply
  Count : (n : ℕ) → Reply
  Flag : (flag : Bool) → Reply
  Stat : (active : Option ℕ) (activations : ℕ) → Reply
  Map : (blocks : List Placed) → Reply
  No : (refusal : Refusal) → Reply

-- record k of instance i, or the scratch of group g
abbrev pub owner_text : Owner → List ℕ
owner_text (Record i k) = codes "i" ++ decimal i ++ codes ".r" ++ decimal k
owner_text (Scratch g) = codes "g" ++ decimal g

-- a block's owner, its place, and its placed size
abbrev pub block_text : Placed → List ℕ
block_text b = owner_text b.owner ++ codes "@" ++ decimal b.place ++ codes "+" ++ decimal b.size

-- each word and each block stands after one space. A minus stands where no member is active
abbrev pub line_text : Reply → List ℕ
line_text Done = codes "ok"
line_text (Words words) = codes "ok" ++ flat_map (λ z. codes " " ++ signed_decimal z) words
line_text (Count n) = codes "ok " ++ decimal n
line_text (Flag flag) = if flag then codes "ok 1" else codes "ok 0"
line_text (Stat active activations) = codes "ok " ++ option_map_or decimal active (codes "-") ++ codes " " ++ decimal activations
line_text (Map blocks) = codes "ok" ++ flat_map (λ b. codes " " ++ block_text b) blocks
line_text (No refusal) = codes "no " ++ decimal (refusal_told refusal).0 ++ codes " " ++ (refusal_told refusal).1

abbrev pub reply_text : Reply → List ℕ
reply_text reply = line_text reply ++ 10 ∷ []
