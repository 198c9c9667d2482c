-- Worked rows: what a console of the hosted kinds serves for a script and the samples of its inputs.
use Rattle.std.specs.Prelude.{◌≡◌, ℕ, ℤ, pos, neg_ℤ, Some, None, List, [], ◌∷◌, ◌++◌, map, length, replicate, codes, ◌==◌, if◌then◌else◌}
use Rattle.std.specs.List.{flat_map, range_with_len}
use Prim.Native.String.{String}
use Rattle.host_map.specs.declared.parts.Sizes.{Sizes}
use Rattle.voice_set.specs.declared.voice.Voice.{Voice}
use Rattle.voice_set.specs.Voices.{voice_meaning, voice_named}
use Rattle.channel_spec.specs.Channels.{Channels}
use Rattle.voice_script.specs.Served.{Answer, held_by, order_of, refusals}
use Rattle.voice_script.specs.Widths.{Widths, widths_of}
use Rattle.console_spec.specs.Samples.{octets_of}
use Rattle.console_spec.specs.Answers.{served}

-- lines are parted by `;`
abbrev pub script_of : String → List ℕ
script_of text = map (λ b. if b == 59 then 10 else b) (codes text)

-- replies are ended by `/`
abbrev pub replies_of : String → List ℕ
replies_of text = map (λ b. if b == 47 then 10 else b) (codes text)

-- so many coefficients, each 1
abbrev pub ones : ℕ → List ℕ
ones n = flat_map (λ digit. 32 ∷ digit ∷ []) (replicate n 49)

abbrev pub minus : ℕ → ℤ
minus n = neg_ℤ (pos n)

abbrev pub full : Sizes
full = record { daram = 65536; saram = 65536; external = 65536 }

-- what is seen of an answer: the replies, the octets of each output and those left of each input, and how many replies refuse
pub record Seen : Type 0 where
  pub replies : List ℕ
  pub outputs : List (List ℕ)
  pub left : List (List ℕ)
  pub refused : ℕ

abbrev pub seen : Answer (Channels Voice) → Seen
seen answer =
    let octets = order_of answer.written in
    record {
      replies = held_by None octets;
      outputs = map (λ c. held_by (Some c) octets) (range_with_len 0 (length answer.run.inputs));
      left = answer.run.inputs;
      refused = refusals answer.written;
    }

-- this is served, over ports of these widths, in spaces of these sizes, for a script and the octets of the inputs
abbrev pub ServesOver : Widths → Sizes → (script : List ℕ) → (inputs : List (List ℕ)) → (told : List ℕ) → (given left : List (List ℕ)) → ℕ → Type 0
ServesOver widths sizes script inputs told given left refused =
    seen (served voice_meaning voice_named widths sizes script inputs)
    ≡ record { replies = told; outputs = given; left = left; refused = refused }

abbrev pub words : Widths
words = widths_of 0 0

-- the same where all ports are of words
abbrev pub Serves : Sizes → (script : List ℕ) → (inputs : List (List ℕ)) → (told : List ℕ) → (given left : List (List ℕ)) → ℕ → Type 0
Serves = ServesOver words

-- the same for one input without octets
abbrev pub Tells : Sizes → (script told : List ℕ) → ℕ → Type 0
Tells sizes script told refused = Serves sizes script ([] ∷ []) told ([] ∷ []) ([] ∷ []) refused

pub record WorkedRows : Type 0 where
  pub half : Serves full (script_of "create 0 fir 0 16384; chain 0 0; feed 0 2") (octets_of (pos 1 ∷ minus 1 ∷ []) ∷ [])
      (replies_of "ok/ok/ok 2/") (octets_of (pos 1 ∷ pos 0 ∷ []) ∷ []) ([] ∷ []) 0
  pub two_coefficients : Serves full (script_of "create 0 fir 0 16384 16384; chain 0 0; feed 0 3") (octets_of (pos 2 ∷ pos 4 ∷ pos 6 ∷ []) ∷ [])
      (replies_of "ok/ok/ok 3/") (octets_of (pos 1 ∷ pos 3 ∷ pos 5 ∷ []) ∷ []) ([] ∷ []) 0
  pub cut_feeds : Serves full (script_of "create 0 fir 0 16384 16384; chain 0 0; feed 0 1; feed 0 2") (octets_of (pos 2 ∷ pos 4 ∷ pos 6 ∷ []) ∷ [])
      (replies_of "ok/ok/ok 1/ok 2/") (octets_of (pos 1 ∷ pos 3 ∷ pos 5 ∷ []) ∷ []) ([] ∷ []) 0
  pub least_sample : Serves full (script_of "create 0 fir 0 -32768; chain 0 0; feed 0 1") (octets_of (minus 32768 ∷ []) ∷ [])
      (replies_of "ok/ok/ok 1/") (octets_of (pos 32767 ∷ []) ∷ []) ([] ∷ []) 0
  pub limited_sums : Serves full (script_of "create 0 fir 0 32767 32767 -32768; chain 0 0; feed 0 3") (octets_of (pos 32767 ∷ pos 32767 ∷ pos 32767 ∷ []) ∷ [])
      (replies_of "ok/ok/ok 3/") (octets_of (pos 32766 ∷ pos 32767 ∷ pos 1 ∷ []) ∷ []) ([] ∷ []) 0
  pub phase : Serves full (script_of "create 0 decim 0 2 16384 16384; chain 0 0; feed 0 3; control 0 get; feed 0 1") (octets_of (pos 2 ∷ pos 4 ∷ pos 6 ∷ pos 8 ∷ []) ∷ [])
      (replies_of "ok/ok/ok 1/ok 1/ok 1/") (octets_of (pos 3 ∷ pos 7 ∷ []) ∷ []) ([] ∷ []) 0
  pub echo : Serves full (script_of "create 0 biquad 0 16384 0 0 -8192 0; chain 0 0; feed 0 4") (octets_of (pos 100 ∷ pos 0 ∷ pos 0 ∷ pos 0 ∷ []) ∷ [])
      (replies_of "ok/ok/ok 4/") (octets_of (pos 100 ∷ pos 50 ∷ pos 25 ∷ pos 13 ∷ []) ∷ []) ([] ∷ []) 0
  pub mu_law_codes : Serves full (script_of "create 0 g711 0 1 0; chain 0 0; feed 0 3") (octets_of (pos 0 ∷ minus 1 ∷ pos 32767 ∷ []) ∷ [])
      (replies_of "ok/ok/ok 3/") (octets_of (pos 255 ∷ pos 127 ∷ pos 128 ∷ []) ∷ []) ([] ∷ []) 0
  pub a_law_codes : Serves full (script_of "create 0 g711 0 0 0; chain 0 0; feed 0 2") (octets_of (pos 0 ∷ minus 1 ∷ []) ∷ [])
      (replies_of "ok/ok/ok 2/") (octets_of (pos 213 ∷ pos 85 ∷ []) ∷ []) ([] ∷ []) 0
  pub mu_law_samples : Serves full (script_of "create 0 g711 0 1 1; chain 0 0; feed 0 3") (octets_of (pos 128 ∷ pos 0 ∷ minus 1 ∷ []) ∷ [])
      (replies_of "ok/ok/ok 3/") (octets_of (pos 32124 ∷ minus 32124 ∷ pos 0 ∷ []) ∷ []) ([] ∷ []) 0
  pub a_law_samples : Serves full (script_of "create 0 g711 0 0 1; chain 0 0; feed 0 2") (octets_of (pos 170 ∷ pos 42 ∷ []) ∷ [])
      (replies_of "ok/ok/ok 2/") (octets_of (pos 32256 ∷ minus 32256 ∷ []) ∷ []) ([] ∷ []) 0
  pub frame : Serves full (script_of "create 0 tone 0 0 4 0; chain 0 0; feed 0 3; feed 0 1") (octets_of (pos 1000 ∷ pos 0 ∷ minus 1000 ∷ pos 0 ∷ []) ∷ [])
      (replies_of "ok/ok/ok 0/ok 1/") (octets_of (pos 122 ∷ []) ∷ []) ([] ∷ []) 0
  -- two channels' members work by turns in the same scratch
  pub turns : Serves (record full { daram = 1028 }) (script_of "create 0 fir 0 16384 16384; create 1 fir 0 16384 16384; chain 0 0; chain 1 1; feed 0 1; feed 1 1; feed 0 1; feed 1 1; stat 0; map daram; release 0; release 0; stat 0") (octets_of (pos 2 ∷ pos 4 ∷ []) ∷ octets_of (pos 10 ∷ pos 20 ∷ []) ∷ [])
      (replies_of "ok/ok/ok/ok/ok 1/ok 1/ok 1/ok 1/ok 1 4/ok g0@0+1028/ok 1/ok 0/ok - 4/") (octets_of (pos 1 ∷ pos 3 ∷ []) ∷ octets_of (pos 5 ∷ pos 15 ∷ []) ∷ []) ([] ∷ [] ∷ []) 0
  -- a refused creation leaves no block
  pub no_room : Tells (record full { daram = 1028 }) (script_of "create 0 fir 0 16384 16384; create 1 fir 1 16384 16384; map daram; map saram; map external")
      (replies_of "ok/no 7 room/ok g0@0+1028/ok i0.r1@0+4/ok i0.r0@0+4/") 1
  -- the block of a group is replaced by a longer one
  pub replaced : Serves (record full { daram = 2072 }) (script_of "create 0 fir 0 16384 16384; chain 0 0; feed 0 1; create 1 fir 0 1 0 0 0 0 0 0 0 0; map daram; feed 0 1; stat 0") (octets_of (pos 2 ∷ pos 4 ∷ pos 6 ∷ []) ∷ [])
      (replies_of "ok/ok/ok 1/ok/ok g0@1040+1032/ok 1/ok 0 2/") (octets_of (pos 1 ∷ pos 3 ∷ []) ∷ []) (octets_of (pos 6 ∷ []) ∷ []) 0
  -- the old block stands while the new one is placed
  pub not_replaced : Serves (record full { daram = 2068 }) (script_of "create 0 fir 0 16384 16384; chain 0 0; feed 0 1; create 1 fir 0 1 0 0 0 0 0 0 0 0; map daram; feed 0 1; stat 0") (octets_of (pos 2 ∷ pos 4 ∷ pos 6 ∷ []) ∷ [])
      (replies_of "ok/ok/ok 1/no 7 room/ok g0@0+1028/ok 1/ok 0 1/") (octets_of (pos 1 ∷ pos 3 ∷ []) ∷ []) (octets_of (pos 6 ∷ []) ∷ []) 1
  pub set_and_reset : Serves full (script_of "create 0 fir 0 16384 16384; chain 0 0; feed 0 1; control 0 set 8192 16384; feed 0 1; control 0 get; control 0 reset; feed 0 1") (octets_of (pos 2 ∷ pos 4 ∷ pos 6 ∷ []) ∷ [])
      (replies_of "ok/ok/ok 1/ok/ok 1/ok 8192 16384/ok/ok 1/") (octets_of (pos 1 ∷ pos 2 ∷ pos 2 ∷ []) ∷ []) ([] ∷ []) 0
  -- an active member stays active while its scratch moves
  pub compacted : Serves (record full { daram = 2072 }) (script_of "create 0 fir 0 16384 16384; chain 0 0; feed 0 1; create 1 fir 0 1 0 0 0 0 0 0 0 0; map daram; feed 0 1; stat 0; compact daram; map daram; feed 0 1; stat 0") (octets_of (pos 2 ∷ pos 4 ∷ pos 6 ∷ []) ∷ [])
      (replies_of "ok/ok/ok 1/ok/ok g0@1040+1032/ok 1/ok 0 2/ok 1/ok g0@0+1032/ok 1/ok 0 2/") (octets_of (pos 1 ∷ pos 3 ∷ pos 5 ∷ []) ∷ []) ([] ∷ []) 0
  -- the gap that an alignment makes is none
  pub packed : Tells full (script_of "create 0 decim 0 2 1 1 1; map external; compact external; step external")
      (replies_of "ok/ok i0.r0@0+4 i0.r2@8+4/ok 0/ok 0/") 0
  -- a new instance has the old number alone
  pub anew : Serves full (script_of "create 3 fir 0 16384 16384; chain 0 3; feed 0 1; delete 3; unchain 0; delete 3; create 3 fir 0 16384 16384; chain 0 3; feed 0 1") (octets_of (pos 100 ∷ pos 0 ∷ []) ∷ [])
      (replies_of "ok/ok/ok 1/no 8 busy/ok/ok/ok/ok/ok 1/") (octets_of (pos 50 ∷ pos 0 ∷ []) ∷ []) ([] ∷ []) 1
  -- too few octets are used up, and touch no instance
  pub short : Serves full (script_of "create 0 fir 0 16384; chain 0 0; feed 0 4; feed 0 1; stat 0") ((1 ∷ 0 ∷ 2 ∷ 0 ∷ 3 ∷ 0 ∷ 4 ∷ []) ∷ [])
      (replies_of "ok/ok/no 10 short/no 10 short/ok - 0/") ([] ∷ []) ([] ∷ []) 2
  pub empty_script : Tells full []
      [] 0
  pub long_line : Tells full (replicate 1025 97 ++ 10 ∷ codes "   " ++ 10 ∷ codes "stat 0" ++ 13 ∷ [])
      (replies_of "no 1 long/ok - 0/") 1
  -- a refused control touches no instance
  pub refused_control : Serves full (script_of "control 5 set 1; create 0 fir 0 1 2; create 1 fir 0 1 2; chain 0 0; feed 0 1; control 1 set 7; stat 0") (octets_of (pos 0 ∷ []) ∷ [])
      (replies_of "no 5 missing/ok/ok/ok/ok 1/no 9 command/ok 0 1/") (octets_of (pos 0 ∷ []) ∷ []) ([] ∷ []) 2
  pub refused_commands : Tells full (script_of "create 64 fir 0 1; create 999 fir 0 1; create 0 fir 0 1; create 0 fir 0 1; create 1 fir 0; create 1 flute 0 1; create 1 fir 0 40000; feed 0 0; feed 0 +1; chain 0 0 0; chain 0 1; chain 1 0; unchain 0; feed 0 1")
      (replies_of "no 3 range/no 3 range/ok/no 4 taken/no 6 params/no 2 syntax/no 3 range/no 3 range/no 2 syntax/no 8 busy/no 5 missing/no 3 range/no 5 missing/no 5 missing/") 13
  -- an empty block touches no further member
  pub empty_block : Serves full (script_of "create 0 decim 0 2 16384 16384; create 1 fir 1 16384; chain 0 0 1; feed 0 1; stat 1; feed 0 1; stat 1") (octets_of (pos 2 ∷ pos 4 ∷ []) ∷ [])
      (replies_of "ok/ok/ok/ok 0/ok - 0/ok 1/ok 1 1/") (octets_of (pos 2 ∷ []) ∷ []) ([] ∷ []) 0
  -- a block moves onto a part of itself
  pub overlapping_moves : Serves full (script_of "create 0 biquad 0 16384 0 0 0 0; create 1 fir 1 16384 16384; chain 0 1; feed 0 1; delete 0; map daram; step daram; map daram; feed 0 1; step daram; compact saram; compact external; feed 0 1") (octets_of (pos 2 ∷ pos 4 ∷ pos 6 ∷ []) ∷ [])
      (replies_of "ok/ok/ok/ok 1/ok/ok g1@16+1028/ok 1/ok g1@0+1028/ok 1/ok 0/ok 1/ok 1/ok 1/") (octets_of (pos 1 ∷ pos 3 ∷ pos 5 ∷ []) ∷ []) ([] ∷ []) 0
  pub no_daram : Tells (record full { daram = 0 }) (script_of "create 0 fir 0 1; create 1 g711 0 0 0")
      (replies_of "no 7 room/ok/") 1
  pub some_left : Serves full (script_of "create 0 fir 0 16384; chain 0 0; feed 0 1") (octets_of (pos 2 ∷ pos 4 ∷ []) ∷ [])
      (replies_of "ok/ok/ok 1/") (octets_of (pos 1 ∷ []) ∷ []) (octets_of (pos 4 ∷ []) ∷ []) 0
  -- what one member gives is what the next one takes
  pub two_members : Serves full (script_of "create 0 fir 0 16384; create 1 fir 1 16384; chain 0 0 1; chain 1 0; feed 0 2; feed 1 1") (octets_of (pos 8 ∷ pos 12 ∷ []) ∷ octets_of (pos 1 ∷ []) ∷ [])
      (replies_of "ok/ok/ok/no 8 busy/ok 2/no 5 missing/") (octets_of (pos 2 ∷ pos 3 ∷ []) ∷ [] ∷ []) ([] ∷ octets_of (pos 1 ∷ []) ∷ []) 2
  -- decoders of equal parameters share the block of their samples, which goes with the last of them
  pub shared : Serves (record full { external = 528 }) (script_of "create 0 g711 0 1 1; create 1 g711 1 1 1; create 2 g711 2 0 1; map external; chain 0 1; delete 0; map external; feed 0 1; unchain 0; delete 1; map external; compact external; map external") (octets_of (pos 128 ∷ []) ∷ [])
      (replies_of "ok/ok/ok/ok i0.r0@0+4 i1.r0@4+4 i0.r1@8+256 i2.r0@264+4 i2.r1@272+256/ok/ok/ok i1.r0@4+4 i1.r1@8+256 i2.r0@264+4 i2.r1@272+256/ok 1/ok/ok/ok i2.r0@264+4 i2.r1@272+256/ok 2/ok i2.r0@0+4 i2.r1@8+256/") (octets_of (pos 32124 ∷ []) ∷ []) ([] ∷ []) 0
  -- what isn't shared needs room
  pub not_shared : Tells (record full { external = 268 }) (script_of "create 0 g711 0 1 1; create 1 g711 1 1 1; create 2 g711 2 0 1; map external")
      (replies_of "ok/ok/no 7 room/ok i0.r0@0+4 i1.r0@4+4 i0.r1@8+256/") 1
  pub longest_line : Tells full (codes "feed 0 1" ++ replicate 1016 32)
      (replies_of "no 5 missing/") 1
  pub long_with_return : Tells full (codes "feed 0 1" ++ replicate 1016 32 ++ 13 ∷ [])
      (replies_of "no 1 long/") 1
  pub tabs_and_return : Tells full (9 ∷ codes "feed" ++ 9 ∷ codes "0 1" ++ 13 ∷ [])
      (replies_of "no 5 missing/") 1
  pub two_returns : Tells full (codes "feed 0 1" ++ 13 ∷ 13 ∷ [])
      (replies_of "no 2 syntax/") 1
  pub longest_feed : Serves full (script_of "create 0 fir 0 16384; chain 0 0; feed 0 1024; feed 0 1025") (octets_of (replicate 1024 (pos 2)) ∷ [])
      (replies_of "ok/ok/ok 1024/no 3 range/") (octets_of (replicate 1024 (pos 1)) ∷ []) ([] ∷ []) 1

-- rows over octet ports
pub record OctetRows : Type 0 where
  -- each octet is a sample, 0 to 255
  pub decoded : ServesOver (widths_of 1 0) full (script_of "create 0 g711 0 1 1; chain 0 0; feed 0 3") ((128 ∷ 0 ∷ 255 ∷ []) ∷ [])
      (replies_of "ok/ok/ok 3/") ((124 ∷ 125 ∷ 132 ∷ 130 ∷ 0 ∷ 0 ∷ []) ∷ []) ([] ∷ []) 0
  -- a sample's low eight bits are its octet
  pub encoded : ServesOver (widths_of 0 1) full (script_of "create 0 g711 0 1 0; chain 0 0; feed 0 3") (octets_of (pos 0 ∷ minus 1 ∷ pos 32767 ∷ []) ∷ [])
      (replies_of "ok/ok/ok 3/") ((255 ∷ 127 ∷ 128 ∷ []) ∷ []) ([] ∷ []) 0
  -- a feed takes as many octets as samples
  pub seven : ServesOver (widths_of 1 0) full (script_of "create 0 fir 0 16384; chain 0 0; feed 0 4; feed 0 3; feed 0 1") ((2 ∷ 4 ∷ 6 ∷ 8 ∷ 10 ∷ 12 ∷ 255 ∷ []) ∷ [])
      (replies_of "ok/ok/ok 4/ok 3/no 10 short/") (octets_of (pos 1 ∷ pos 2 ∷ pos 3 ∷ pos 4 ∷ pos 5 ∷ pos 6 ∷ pos 128 ∷ []) ∷ []) ([] ∷ []) 1
  -- the low bit is of channel 0, and bits of channels that aren't there have no effect
  pub each_by_itself : ServesOver (widths_of 65533 65534) full (script_of "create 0 fir 0 16384; create 1 fir 1 16384; chain 0 0; chain 1 1; feed 0 1; feed 1 1") ((4 ∷ 2 ∷ []) ∷ (6 ∷ 2 ∷ []) ∷ [])
      (replies_of "ok/ok/ok/ok/ok 1/ok 1/") ((2 ∷ 0 ∷ []) ∷ (3 ∷ []) ∷ []) ((2 ∷ []) ∷ [] ∷ []) 0

-- of a feed the output's octets come before its reply
pub record OutputOrder : Type 0 where
  pub order : order_of (served voice_meaning voice_named words full (script_of "create 0 fir 0 16384; chain 0 0; feed 0 1") (octets_of (pos 2 ∷ []) ∷ [])).written
      ≡ map (λ b. (None, b)) (replies_of "ok/ok/") ++ map (λ b. (Some 0, b)) (octets_of (pos 1 ∷ [])) ++ map (λ b. (None, b)) (replies_of "ok 1/")
