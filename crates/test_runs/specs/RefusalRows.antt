-- Worked rows: why commands are refused.
use Rattle.std.specs.Prelude.{[], ◌∷◌, ◌++◌, codes}
use Rattle.test_runs.specs.ConsoleRows.{script_of, replies_of, ones, full, Serves, Tells}

-- each command is refused for the first of its reasons, though later ones hold too
pub record RefusalRows : Type 0 where
  -- the text of numbers
  pub numbers : Tells full (script_of "create 00 fir 0 032767; feed -0 1; feed 0 +1; feed 0 0; feed 0 1025; feed 0 99999999999999999999999999999999")
      (replies_of "ok/no 5 missing/no 2 syntax/no 3 range/no 3 range/no 3 range/") 5
  -- what is not in the grammar, before what is out of range
  pub syntax_first : Tells full (script_of "create 999 fir 0 x; control 999 set x; control 999 get 1; chain 999 x; feed 999 x; delete 999 1; release x; create 1 flute 999 1")
      (replies_of "no 2 syntax/no 2 syntax/no 2 syntax/no 2 syntax/no 2 syntax/no 2 syntax/no 2 syntax/no 2 syntax/") 8
  -- commands of spaces are refused for their text alone
  pub spaces : Tells full (script_of "compact; compact flash; step flash; map flash; map daram daram; step")
      (replies_of "no 2 syntax/no 2 syntax/no 2 syntax/no 2 syntax/no 2 syntax/no 2 syntax/") 6
  -- 72 coefficients are read, 73 aren't; 64 are a filter, 65 aren't
  pub coefficients : Tells full (codes "create 0 fir 0" ++ ones 72 ++ 10 ∷ codes "create 0 fir 0" ++ ones 73 ++ 10 ∷ codes "create 0 fir 0" ++ ones 65 ++ 10 ∷ codes "create 0 fir 0" ++ ones 64)
      (replies_of "no 6 params/no 3 range/no 6 params/ok/") 3
  pub instances : Tells full (script_of "create 63 fir 0 1; create 64 fir 0 1; create 63 fir 8 1; create 63 fir 0 1; create 62 fir 7 1; create 61 fir 8 1")
      (replies_of "ok/no 3 range/no 3 range/no 4 taken/ok/no 3 range/") 4
  pub creations : Tells (record full { daram = 0 }) (script_of "create 0 g711 0 0 0; create 0 fir 8; create 64 fir 0; create 0 fir 0; create 0 fir 0 1; create 1 fir 0; create 1 fir 0 1")
      (replies_of "ok/no 3 range/no 3 range/no 4 taken/no 4 taken/no 6 params/no 7 room/") 6
  pub no_saram : Tells (record full { saram = 0 }) (script_of "create 0 fir 0 1; create 0 g711 0 0 0")
      (replies_of "no 7 room/ok/") 1
  pub no_external : Tells (record full { external = 0 }) (script_of "create 0 fir 0 1; create 0 g711 0 0 0; map external")
      (replies_of "no 7 room/no 7 room/ok/") 2
  pub controls : Tells full (script_of "control 64 set 1; control 64 reset; control 64 get; control 5 set 1; control 5 reset; control 5 get")
      (replies_of "no 3 range/no 3 range/no 3 range/no 5 missing/no 5 missing/no 5 missing/") 6
  pub settings : Tells full (script_of "create 0 fir 0 1; control 0 set 1 2; create 1 decim 0 2 1; control 1 set 1; create 2 biquad 0 1 2 3 4 5; control 2 set 1; create 3 tone 0 1 1 0; control 3 set 1 2; create 4 g711 0 0 0; control 4 set 0 1; control 4 get; control 4 reset")
      (replies_of "ok/no 9 command/ok/no 9 command/ok/no 9 command/ok/no 9 command/ok/no 9 command/ok 0 0/ok/") 5
  pub deletions : Tells full (script_of "delete 64; delete 5; create 0 fir 0 1; chain 0 0; delete 0; unchain 0; delete 0; delete 0")
      (replies_of "no 3 range/no 5 missing/ok/ok/no 8 busy/ok/ok/no 5 missing/") 4
  pub chains : Serves full (script_of "create 0 fir 0 1; create 1 fir 0 1; chain 2 0; chain 0 0 64; chain 0 0; chain 0 5 64; chain 0 5; chain 0 0 0; chain 1 5 0; chain 1 5 5; chain 1 0; chain 1 1 1; chain 1 1") ([] ∷ [] ∷ [])
      (replies_of "ok/ok/no 3 range/no 3 range/ok/no 3 range/no 4 taken/no 4 taken/no 5 missing/no 5 missing/no 8 busy/no 8 busy/ok/") ([] ∷ [] ∷ []) ([] ∷ [] ∷ []) 9
  pub unchains : Tells full (script_of "unchain 1; unchain 0; create 0 fir 0 1; chain 0 0; unchain 0; unchain 0")
      (replies_of "no 3 range/no 5 missing/ok/ok/ok/no 5 missing/") 3
  pub feeds : Tells full (script_of "feed 1 1; feed 1 1025; feed 0 1025; feed 0 1; create 0 fir 0 1; chain 0 0; feed 0 1")
      (replies_of "no 3 range/no 3 range/no 3 range/no 5 missing/ok/ok/no 10 short/") 5
  pub groups : Tells full (script_of "release 8; stat 8; release 7; stat 7")
      (replies_of "no 3 range/no 3 range/ok 0/ok - 0/") 2
