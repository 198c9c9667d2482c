-- Rows on both sides of every limit: what lines ask, and the texts of replies.
use Rattle.std.specs.Prelude.{◌≡◌, ℕ, List, [], ◌∷◌, ◌++◌, fold, replicate, length, true, false, pos, negsuc, Option, Some, None, Result, Ok, Err, if◌then◌else◌, bytes_eq, codes}
use Prim.Native.String.{String}
use Rattle.ialg.specs.History.{Set, Reset, Get}
use Rattle.ialg.specs.declared.refusal.Refusal.{Refusal}
use Rattle.ialg.specs.declared.refusal.Refusal.TheVariants.{Long, Syntax, Range, Taken, Missing, Params, Room, Busy, Command, Short}
use Rattle.mem_rec.specs.declared.Space.TheVariants.{Daram, Saram, External}
use Rattle.host_map.specs.declared.placed.Owner.{Owner}
use Rattle.host_map.specs.declared.placed.Owner.TheVariants.{Record, Scratch}
use Rattle.host_map.specs.declared.placed.Placed.{Placed}
use Rattle.voice_script.specs.Script as script
use Rattle.voice_script.specs.Script.{Create, Control, Delete, Chain, Unchain, Feed, Compact, Step, Release, Map, Stat, parsed}
use Rattle.voice_script.specs.Replies.{Reply, Done, Words, Count, Flag, Stat as Told, Map as Mapped, No, reply_text}

-- ---- lines

-- two kinds, 1 and 2
abbrev pub low_or_high : List ℕ → Option ℕ
low_or_high name = if bytes_eq name (codes "low") then Some 1 else (if bytes_eq name (codes "high") then Some 2 else None)

abbrev pub asked : List ℕ → Result (Option (script.Command ℕ)) Refusal
asked line = parsed low_or_high line

abbrev pub Asks : List ℕ → script.Command ℕ → Type 0
Asks line command = asked line ≡ Ok (Some command)

abbrev pub IsBlankLine : List ℕ → Type 0
IsBlankLine line = asked line ≡ Ok None

abbrev pub Refuses : List ℕ → Refusal → Type 0
Refuses line refusal = asked line ≡ Err refusal

-- so many times the text
abbrev pub times : ℕ → String → List ℕ
times n text = fold (λ line word. line ++ word) [] (replicate n (codes text))

pub record CreationRows : Type 0 where
  pub no_words : Asks (codes "create 3 low 4") (Create 3 1 4 [])
  pub second_kind : Asks (codes "create 3 high 4 5 -6") (Create 3 2 4 (pos 5 ∷ negsuc 5 ∷ []))
  pub words_72 : Asks (codes "create 3 low 4" ++ times 72 " 9") (Create 3 1 4 (replicate 72 (pos 9)))
  pub words_73 : Refuses (codes "create 3 low 4" ++ times 73 " 9") Range
  pub last_of_73_no_number : Refuses (codes "create 3 low 4" ++ times 72 " 9" ++ codes " x") Syntax
  pub last_of_400_no_number : Refuses (codes "create 3 low 4" ++ times 399 " 9" ++ codes " x") Syntax
  pub words_400 : Refuses (codes "create 3 low 4" ++ times 400 " 9") Range
  pub range_then_no_number : Refuses (codes "create 256 low 4 40000 x") Syntax
  pub no_kind : Refuses (codes "create 3 flute 4") Syntax
  pub kind_in_capitals : Refuses (codes "create 3 LOW 4") Syntax
  pub number_for_a_kind : Refuses (codes "create 3 1 4") Syntax
  pub kind_for_a_number : Refuses (codes "create low 3 4") Syntax
  pub longer_kind : Refuses (codes "create 3 lower 4") Syntax
  pub no_group : Refuses (codes "create 3 low") Syntax
  pub name_alone : Refuses (codes "create") Syntax

pub record RangeRows : Type 0 where
  pub instance_255 : Asks (codes "create 255 low 0") (Create 255 1 0 [])
  pub instance_256 : Refuses (codes "create 256 low 0") Range
  pub instance_below_0 : Refuses (codes "create -1 low 0") Range
  pub group_255 : Asks (codes "create 0 low 255") (Create 0 1 255 [])
  pub group_256 : Refuses (codes "create 0 low 256") Range
  pub group_below_0 : Refuses (codes "create 0 low -1") Range
  pub least_word : Asks (codes "create 0 low 0 -32768") (Create 0 1 0 (negsuc 32767 ∷ []))
  pub below_words : Refuses (codes "create 0 low 0 -32769") Range
  pub greatest_word : Asks (codes "create 0 low 0 32767") (Create 0 1 0 (pos 32767 ∷ []))
  pub above_words : Refuses (codes "create 0 low 0 32768") Range
  pub channel_255 : Asks (codes "chain 255 0") (Chain 255 (0 ∷ []))
  pub channel_256 : Refuses (codes "chain 256 0") Range
  pub channel_below_0 : Refuses (codes "chain -1 0") Range
  pub member_255 : Asks (codes "chain 0 255") (Chain 0 (255 ∷ []))
  pub member_256 : Refuses (codes "chain 0 256") Range
  pub member_below_0 : Refuses (codes "chain 0 -1") Range
  pub fed_channel_255 : Asks (codes "feed 255 1") (Feed 255 1)
  pub fed_channel_256 : Refuses (codes "feed 256 1") Range
  pub fed_channel_below_0 : Refuses (codes "feed -1 1") Range
  pub sample_1 : Asks (codes "feed 0 1") (Feed 0 1)
  pub samples_0 : Refuses (codes "feed 0 0") Range
  pub samples_below_0 : Refuses (codes "feed 0 -1") Range
  pub samples_1024 : Asks (codes "feed 0 1024") (Feed 0 1024)
  pub samples_1025 : Refuses (codes "feed 0 1025") Range

pub record NumberRows : Type 0 where
  pub leading_zeros : Asks (codes "feed 00 007") (Feed 0 7)
  pub minus_0 : Asks (codes "feed -0 1") (Feed 0 1)
  pub hundred_zeros : Asks (codes "feed 0 " ++ replicate 100 48 ++ codes "1") (Feed 0 1)
  pub hundred_nines : Refuses (codes "feed 0 " ++ replicate 100 57) Range
  pub minus_alone : Refuses (codes "feed 0 -") Syntax
  pub plus : Refuses (codes "feed 0 +1") Syntax
  pub two_minuses : Refuses (codes "feed 0 --1") Syntax
  pub minus_behind : Refuses (codes "feed 0 1-") Syntax
  pub letter_behind : Refuses (codes "feed 0 1x") Syntax
  pub below_the_digits : Refuses (codes "feed 0 1/") Syntax
  pub above_the_digits : Refuses (codes "feed 0 1:") Syntax
  pub octet_0_inside : Refuses (codes "feed 0 1" ++ 0 ∷ []) Syntax

pub record LineRows : Type 0 where
  pub empty : IsBlankLine []
  pub blanks : IsBlankLine (32 ∷ 9 ∷ 32 ∷ [])
  pub return_alone : IsBlankLine (13 ∷ [])
  pub blanks_and_return : IsBlankLine (32 ∷ 13 ∷ [])
  pub runs_of_blanks : Asks (codes "  feed   0 1 ") (Feed 0 1)
  pub tabs : Asks (9 ∷ codes "feed" ++ 9 ∷ 32 ∷ codes "0" ++ 9 ∷ codes "1" ++ 9 ∷ []) (Feed 0 1)
  pub return_at_the_end : Asks (codes "feed 0 1" ++ 13 ∷ []) (Feed 0 1)
  pub two_returns : Refuses (codes "feed 0 1" ++ 13 ∷ 13 ∷ []) Syntax
  pub return_inside : Refuses (codes "feed 0" ++ 13 ∷ codes " 1") Syntax
  pub form_feed : Refuses (codes "feed" ++ 12 ∷ codes "0 1") Syntax
  pub vertical_tab : Refuses (codes "feed" ++ 11 ∷ codes "0 1") Syntax
  pub octet_0_in_a_name : Refuses (codes "feed" ++ 0 ∷ codes " 0 1") Syntax

pub record NameRows : Type 0 where
  pub create_in_capitals : Refuses (codes "CREATE 3 low 4") Syntax
  pub chain_in_capitals : Refuses (codes "Chain 0 0") Syntax
  pub feed_in_capitals : Refuses (codes "FEED 0 1") Syntax
  pub longer_name : Refuses (codes "feeds 0 1") Syntax
  pub shorter_name : Refuses (codes "fee 0 1") Syntax
  pub unknown : Refuses (codes "status 0") Syntax
  pub chain_without_member : Refuses (codes "chain 0") Syntax
  pub feed_without_samples : Refuses (codes "feed 0") Syntax
  pub feed_with_a_third_word : Refuses (codes "feed 0 1 2") Syntax
  pub third_word_before_range : Refuses (codes "feed 256 0 x") Syntax

pub record ControlRows : Type 0 where
  pub set_no_words : Asks (codes "control 3 set") (Control 3 (Set []))
  pub set_words : Asks (codes "control 3 set 5 -6") (Control 3 (Set (pos 5 ∷ negsuc 5 ∷ [])))
  pub set_72_words : Asks (codes "control 3 set" ++ times 72 " 9") (Control 3 (Set (replicate 72 (pos 9))))
  pub set_73_words : Refuses (codes "control 3 set" ++ times 73 " 9") Range
  pub last_of_73_no_number : Refuses (codes "control 3 set" ++ times 72 " 9" ++ codes " x") Syntax
  pub set_least_word : Asks (codes "control 3 set -32768") (Control 3 (Set (negsuc 32767 ∷ [])))
  pub set_below_words : Refuses (codes "control 3 set -32769") Range
  pub set_greatest_word : Asks (codes "control 3 set 32767") (Control 3 (Set (pos 32767 ∷ [])))
  pub set_above_words : Refuses (codes "control 3 set 32768") Range
  pub set_of_255 : Asks (codes "control 255 set") (Control 255 (Set []))
  pub set_of_256 : Refuses (codes "control 256 set") Range
  pub set_of_256_no_number : Refuses (codes "control 256 set x") Syntax
  pub reset : Asks (codes "control 255 reset") (Control 255 Reset)
  pub reset_of_256 : Refuses (codes "control 256 reset") Range
  pub reset_with_a_word : Refuses (codes "control 256 reset 0") Syntax
  pub get : Asks (codes "control 255 get") (Control 255 Get)
  pub get_of_256 : Refuses (codes "control 256 get") Range
  pub get_with_a_word : Refuses (codes "control 3 get 0") Syntax
  pub no_control : Refuses (codes "control 3") Syntax
  pub unknown_control : Refuses (codes "control 256 put") Syntax
  pub control_of_no_number : Refuses (codes "control x get") Syntax
  pub control_in_capitals : Refuses (codes "control 3 GET") Syntax

pub record ChainRows : Type 0 where
  pub one_member : Asks (codes "chain 0 7") (Chain 0 (7 ∷ []))
  pub two_members : Asks (codes "chain 2 7 3") (Chain 2 (7 ∷ 3 ∷ []))
  pub member_twice : Asks (codes "chain 2 7 7") (Chain 2 (7 ∷ 7 ∷ []))
  pub members_8 : Asks (codes "chain 0" ++ times 8 " 9") (Chain 0 (replicate 8 9))
  pub members_9 : Refuses (codes "chain 0" ++ times 9 " 9") Range
  pub last_of_9_no_number : Refuses (codes "chain 0" ++ times 8 " 9" ++ codes " x") Syntax
  pub last_of_8_is_256 : Refuses (codes "chain 0" ++ times 7 " 9" ++ codes " 256") Range
  pub channel_256_without_member : Refuses (codes "chain 256") Syntax

pub record OneNumberRows : Type 0 where
  pub delete_0 : Asks (codes "delete 0") (Delete 0)
  pub delete_255 : Asks (codes "delete 255") (Delete 255)
  pub delete_256 : Refuses (codes "delete 256") Range
  pub delete_below_0 : Refuses (codes "delete -1") Range
  pub delete_alone : Refuses (codes "delete") Syntax
  pub delete_with_two_words : Refuses (codes "delete 256 x") Syntax
  pub delete_of_no_number : Refuses (codes "delete x") Syntax
  pub unchain_0 : Asks (codes "unchain 0") (Unchain 0)
  pub unchain_255 : Asks (codes "unchain 255") (Unchain 255)
  pub unchain_256 : Refuses (codes "unchain 256") Range
  pub unchain_below_0 : Refuses (codes "unchain -1") Range
  pub unchain_alone : Refuses (codes "unchain") Syntax
  pub unchain_with_two_words : Refuses (codes "unchain 256 x") Syntax
  pub unchain_of_no_number : Refuses (codes "unchain x") Syntax
  pub release_0 : Asks (codes "release 0") (Release 0)
  pub release_255 : Asks (codes "release 255") (Release 255)
  pub release_256 : Refuses (codes "release 256") Range
  pub release_below_0 : Refuses (codes "release -1") Range
  pub release_alone : Refuses (codes "release") Syntax
  pub release_with_two_words : Refuses (codes "release 256 x") Syntax
  pub release_of_no_number : Refuses (codes "release x") Syntax
  pub stat_0 : Asks (codes "stat 0") (Stat 0)
  pub stat_255 : Asks (codes "stat 255") (Stat 255)
  pub stat_256 : Refuses (codes "stat 256") Range
  pub stat_below_0 : Refuses (codes "stat -1") Range
  pub stat_alone : Refuses (codes "stat") Syntax
  pub stat_with_two_words : Refuses (codes "stat 256 x") Syntax
  pub stat_of_no_number : Refuses (codes "stat x") Syntax

pub record OneSpaceRows : Type 0 where
  pub compact_daram : Asks (codes "compact daram") (Compact Daram)
  pub compact_saram : Asks (codes "compact saram") (Compact Saram)
  pub compact_external : Asks (codes "compact external") (Compact External)
  pub compact_alone : Refuses (codes "compact") Syntax
  pub compact_with_two_words : Refuses (codes "compact daram daram") Syntax
  pub compact_in_capitals : Refuses (codes "compact DARAM") Syntax
  pub compact_of_a_number : Refuses (codes "compact 0") Syntax
  pub step_daram : Asks (codes "step daram") (Step Daram)
  pub step_saram : Asks (codes "step saram") (Step Saram)
  pub step_external : Asks (codes "step external") (Step External)
  pub step_alone : Refuses (codes "step") Syntax
  pub step_with_two_words : Refuses (codes "step daram daram") Syntax
  pub step_in_capitals : Refuses (codes "step DARAM") Syntax
  pub step_of_a_number : Refuses (codes "step 0") Syntax
  pub map_daram : Asks (codes "map daram") (Map Daram)
  pub map_saram : Asks (codes "map saram") (Map Saram)
  pub map_external : Asks (codes "map external") (Map External)
  pub map_alone : Refuses (codes "map") Syntax
  pub map_with_two_words : Refuses (codes "map daram daram") Syntax
  pub map_in_capitals : Refuses (codes "map DARAM") Syntax
  pub map_of_a_number : Refuses (codes "map 0") Syntax

-- ---- replies

abbrev pub IsTold : Reply → String → Type 0
IsTold reply text = reply_text reply ≡ codes text ++ 10 ∷ []

abbrev pub block : Owner → ℕ → ℕ → Placed
block owner place size = record { owner = owner; place = place; size = size; align = 4 }

pub record ReplyRows : Type 0 where
  pub no_words : IsTold (Words []) "ok"
  pub words : IsTold (Words (pos 0 ∷ negsuc 0 ∷ pos 10 ∷ [])) "ok 0 -1 10"
  pub least_word : IsTold (Words (negsuc 32767 ∷ [])) "ok -32768"
  pub greatest_word : IsTold (Words (pos 32767 ∷ [])) "ok 32767"
  pub words_72 : reply_text (Words (replicate 72 (negsuc 8))) ≡ codes "ok" ++ times 72 " -9" ++ 10 ∷ []
  pub yes : IsTold (Flag true) "ok 1"
  pub no : IsTold (Flag false) "ok 0"
  pub no_active : IsTold (Told None 0) "ok - 0"
  pub active_0 : IsTold (Told (Some 0) 1) "ok 0 1"
  pub active_63 : IsTold (Told (Some 63) 4294967295) "ok 63 4294967295"
  pub empty_map : IsTold (Mapped []) "ok"
  pub scratch : IsTold (Mapped (block (Scratch 0) 272 260 ∷ [])) "ok g0@272+260"
  pub two_blocks : IsTold (Mapped (block (Record 63 3) 0 4 ∷ block (Scratch 7) 4 196608 ∷ [])) "ok i63.r3@0+4 g7@4+196608"
  pub longest_map : length (reply_text (Mapped (replicate 264 (block (Record 255 255) 4294967295 4294967295)))) ≡ 8451
  pub done : IsTold Done "ok"
  pub least_count : IsTold (Count 0) "ok 0"
  pub ten : IsTold (Count 10) "ok 10"
  pub greatest_count : IsTold (Count 4294967295) "ok 4294967295"
  pub long : IsTold (No Long) "no 1 long"
  pub misshapen : IsTold (No Syntax) "no 2 syntax"
  pub range : IsTold (No Range) "no 3 range"
  pub taken : IsTold (No Taken) "no 4 taken"
  pub missing : IsTold (No Missing) "no 5 missing"
  pub params : IsTold (No Params) "no 6 params"
  pub room : (space : _) → IsTold (No (Room space)) "no 7 room"
  pub busy : IsTold (No Busy) "no 8 busy"
  pub command : IsTold (No Command) "no 9 command"
  pub short : IsTold (No Short) "no 10 short"
