-- ADPCM as ITU-T G.726 (12/90) has it, with the uniform PCM of its Annex A (11/94), sub-block by sub-block under their names in section 4, for
-- one word. Words have the bits of the Recommendation's signals: DQ is a word of sign and magnitude, and the sign bit of the
-- floating format (FL) counts -1024.
use Rattle.std.specs.Prelude.{ℕ, ℤ, pos, negsuc, ◌+ℤ◌, ◌*ℤ◌, unsigned_abs, Bool, ◌&&◌, int_lt, int_le, nat_le, List, count_by, if◌then◌else◌}
use Rattle.basic_op.specs.Operators.{add_of, sub_of, negate_of, abs_s_of, shl_of, shr_of, l_add_of, l_sub_of, l_negate_of, l_shl_of, l_shr_of, extract_l_of, norm_s_of}
use Rattle.ialg.specs.History.{word_at}
use Rattle.adpcm_kernel.specs.Tables.{sign_bit, float_sign, levels_16, levels_24, levels_32, levels_40, outputs_16, outputs_24, outputs_32, outputs_40, scales_16, scales_24, scales_32, scales_40, speeds_16, speeds_24, speeds_32, speeds_40}
use Rattle.adpcm_kernel.specs.declared.zeros.Zeros.{Zeros}
use Rattle.adpcm_kernel.specs.declared.poles.Poles.{Poles}
use Rattle.adpcm_kernel.specs.declared.scale.Scale.{Scale}
use Rattle.adpcm_kernel.specs.declared.rate.Rate.{Rate}
use Rattle.adpcm_kernel.specs.declared.rate.Rate.TheVariants.{Kbits16, Kbits24, Kbits32, Kbits40}
use Rattle.adpcm_kernel.specs.declared.rate.Direction.{Direction}
use Rattle.adpcm_kernel.specs.declared.rate.Direction.TheVariants.{Encode, Decode}
use Rattle.adpcm_kernel.specs.declared.rate.Coder.{Coder}
use Rattle.adpcm_kernel.specs.declared.state.Predicted.{Predicted}
use Rattle.adpcm_kernel.specs.declared.state.State.{State}

-- ---- words and the floating format

abbrev pub same_sign : ℤ → ℤ → Bool
same_sign a b = if int_lt a (pos 0) then int_lt b (pos 0) else int_le (pos 0) b

-- a magnitude with the sign of a product
abbrev pub signed_by : ℤ → ℤ → ℤ → ℤ
signed_by a b m = if same_sign a b then m else negate_of m

-- the lower n bits
abbrev pub low_bits : ℤ → ℤ → ℤ
low_bits n w = sub_of w (shl_of (shr_of w n) n)

-- the lower fifteen bits: the magnitude of a word of sign and magnitude
abbrev pub magnitude_of : ℤ → ℤ
magnitude_of w = if int_lt w (pos 0) then sub_of w sign_bit else w

-- how many bits a magnitude has, and its upper six: 32 of 0
abbrev pub bits_of : ℤ → ℤ
bits_of m = if int_lt (pos 0) m then sub_of (pos 15) (norm_s_of m) else pos 0

abbrev pub mantissa_of : ℤ → ℤ
mantissa_of m = if int_lt (pos 0) m then shr_of (shl_of m (norm_s_of m)) (pos 9) else pos 32

abbrev pub float_of : ℤ → ℤ → ℤ
float_of w m =
    let f = add_of (shl_of (bits_of m) (pos 6)) (mantissa_of m) in
    if int_lt w (pos 0) then sub_of f float_sign else f

-- FLOATA
unfoldable pub floata : ℤ → ℤ
floata dq = float_of dq (magnitude_of dq)

-- FLOATB
unfoldable pub floatb : ℤ → ℤ
floatb sr = if int_lt sr (pos 0) then float_of sr (magnitude_of (extract_l_of (l_negate_of sr))) else float_of sr sr

-- ---- FMULT

-- AnMAG: thirteen bits
abbrev pub coefficient_of : ℤ → ℤ
coefficient_of an = let q = shr_of an (pos 2) in if int_lt q (negsuc 8190) then pos 0 else abs_s_of q

-- exponent and mantissa without the sign
abbrev pub unsigned_float : ℤ → ℤ
unsigned_float srn = if int_lt srn (pos 0) then add_of srn float_sign else srn

-- WAnMANT
abbrev pub product_of : ℤ → ℤ → ℤ
product_of m f = l_shr_of (l_add_of (low_bits (pos 6) f *ℤ mantissa_of m) (pos 48)) (pos 4)

-- WAnMAG, by one shift for both cases of WAnEXP
abbrev pub product_magnitude : ℤ → ℤ → ℤ
product_magnitude m f =
    let exp = add_of (shr_of f (pos 6)) (bits_of m) in
    magnitude_of (extract_l_of (l_shr_of (l_shl_of (product_of m f) (pos 9)) (sub_of (pos 28) exp)))

unfoldable pub fmult : ℤ → ℤ → ℤ
fmult an srn = signed_by an srn (product_magnitude (coefficient_of an) (unsigned_float srn))

-- ---- ACCUM, with one wrap in place of one behind each sum: SEZI, and then SEI

unfoldable pub zeros_of : Zeros → ℤ
zeros_of z =
    extract_l_of (((((fmult z.b1 z.dq1 +ℤ fmult z.b2 z.dq2) +ℤ fmult z.b3 z.dq3) +ℤ fmult z.b4 z.dq4) +ℤ fmult z.b5 z.dq5) +ℤ fmult z.b6 z.dq6)

unfoldable pub poles_of : ℤ → Poles → ℤ
poles_of sezi p = extract_l_of ((sezi +ℤ fmult p.a2 p.sr2) +ℤ fmult p.a1 p.sr1)

-- ---- the scale factor and the speed of its adaptation

abbrev pub lima : ℤ → ℤ
lima ap = if int_le (pos 256) ap then pos 64 else shr_of ap (pos 2)

abbrev pub mixed : ℤ → ℤ → ℤ → ℤ
mixed al fast slow =
    let dif = sub_of fast slow in
    let prodm = extract_l_of (l_shr_of (abs_s_of dif *ℤ al) (pos 6)) in
    add_of slow (if int_lt dif (pos 0) then negate_of prodm else prodm)

-- MIX
unfoldable pub mix : ℤ → ℤ → ℤ → ℤ
mix al yu yl = mixed al yu (extract_l_of (l_shr_of yl (pos 6)))

abbrev pub filtd : ℤ → ℤ → ℤ
filtd wi y = add_of y (extract_l_of (l_shr_of (l_sub_of (l_shl_of wi (pos 5)) y) (pos 5)))

-- z, kept from low to high
abbrev pub kept_within : (low high z : ℤ) → ℤ
kept_within low high z = if int_lt z low then low else (if int_lt high z then high else z)

abbrev pub limb : ℤ → ℤ
limb yut = kept_within (pos 544) (pos 5120) yut

abbrev pub filte : ℤ → ℤ → ℤ
filte yup yl = l_add_of yl (l_add_of yup (l_shr_of (l_negate_of yl) (pos 6)))

abbrev pub filta : ℤ → ℤ → ℤ
filta fi dms = add_of dms (shr_of (sub_of (shl_of fi (pos 9)) dms) (pos 5))

abbrev pub filtb : ℤ → ℤ → ℤ
filtb fi dml = add_of dml (shr_of (sub_of (shl_of fi (pos 11)) dml) (pos 7))

-- SUBTC: AX is 0
abbrev pub is_steady : ℤ → ℤ → ℤ → ℤ → Bool
is_steady dms dml td y =
    int_le (pos 1536) y && (int_lt (abs_s_of (sub_of (shl_of dms (pos 2)) dml)) (shr_of dml (pos 3)) && int_lt td (pos 1))

abbrev pub filtc : Bool → ℤ → ℤ
filtc steady ap = add_of ap (shr_of (sub_of (if steady then pos 0 else pos 512) ap) (pos 4))

-- what is kept behind a code that says wi and fi, with TRIGA
unfoldable pub next_scale : Bool → ℤ → ℤ → ℤ → ℤ → Scale → Scale
next_scale tr td wi fi y s =
    let yup = limb (filtd wi y) in
    let dmsp = filta fi s.dms in
    let dmlp = filtb fi s.dml in
    record { yu = yup; yl = filte yup s.yl; dms = dmsp; dml = dmlp; ap = if tr then pos 256 else filtc (is_steady dmsp dmlp td y) s.ap }

-- ---- the poles

-- UPA2, by PK1, PK2, A1, A2 and the word DQSEZ, whose sign is PK0 and which SIGPK says is 0
abbrev pub uga2 : ℤ → Poles → ℤ
uga2 dqsez p =
    let f = shl_of (kept_within (negsuc 8190) (pos 8191) p.a1) (pos 2) in
    let fa = if same_sign dqsez p.pk1 then negate_of f else f in
    extract_l_of (l_shr_of (l_add_of (if same_sign dqsez p.pk2 then pos 16384 else negsuc 16383) fa) (pos 7))

abbrev pub is_zero : ℤ → Bool
is_zero z = int_le (pos 0) z && int_le z (pos 0)

-- UPA2 and LIMC: A2P
unfoldable pub upa2 : ℤ → Poles → ℤ
upa2 dqsez p = kept_within (negsuc 12287) (pos 12288) (sub_of (add_of p.a2 (if is_zero dqsez then pos 0 else uga2 dqsez p)) (shr_of p.a2 (pos 7)))

abbrev pub uga1 : ℤ → Poles → ℤ
uga1 dqsez p = if is_zero dqsez then pos 0 else (if same_sign dqsez p.pk1 then pos 192 else negsuc 191)

-- UPA1 and LIMD: A1P
unfoldable pub upa1 : ℤ → ℤ → Poles → ℤ
upa1 a2p dqsez p =
    let most = sub_of (pos 15360) a2p in
    kept_within (negate_of most) most (sub_of (add_of p.a1 (uga1 dqsez p)) (shr_of p.a1 (pos 8)))

-- TONE
abbrev pub tone : ℤ → ℤ
tone a2p = if int_lt a2p (negsuc 11775) then pos 1 else pos 0

-- TRIGB
abbrev pub trigb : Bool → ℤ → ℤ
trigb tr v = if tr then pos 0 else v

unfoldable pub next_poles : Bool → ℤ → ℤ → ℤ → Poles → Poles
next_poles tr a2p dqsez sr p = record {
  a1 = trigb tr (upa1 a2p dqsez p);
  a2 = trigb tr a2p;
  sr1 = floatb sr;
  sr2 = p.sr1;
  pk1 = shr_of dqsez (pos 15);
  pk2 = p.pk1;
  td = trigb tr (tone a2p);
}

-- ---- the zeros

abbrev pub ugb : ℤ → ℤ → ℤ
ugb dq dqn = if int_lt (pos 0) (magnitude_of dq) then signed_by dq dqn (pos 128) else pos 0

-- XOR and UPB: the leak is 8, and 9 at 40 kbit/s
unfoldable pub upb : ℤ → ℤ → ℤ → ℤ → ℤ
upb leak dq bn dqn = extract_l_of (l_sub_of (l_add_of bn (ugb dq dqn)) (shr_of bn leak))

unfoldable pub next_zeros : Bool → ℤ → ℤ → Zeros → Zeros
next_zeros tr leak dq z = record {
  b1 = trigb tr (upb leak dq z.b1 z.dq1);
  b2 = trigb tr (upb leak dq z.b2 z.dq2);
  b3 = trigb tr (upb leak dq z.b3 z.dq3);
  b4 = trigb tr (upb leak dq z.b4 z.dq4);
  b5 = trigb tr (upb leak dq z.b5 z.dq5);
  b6 = trigb tr (upb leak dq z.b6 z.dq6);
  dq1 = floata dq;
  dq2 = z.dq1;
  dq3 = z.dq2;
  dq4 = z.dq3;
  dq5 = z.dq4;
  dq6 = z.dq5;
}

-- TRANS: the threshold of DQMAG
abbrev pub threshold : ℤ → ℤ
threshold yl =
    let ylint = extract_l_of (l_shr_of yl (pos 15)) in
    let ylfrac = low_bits (pos 5) (extract_l_of (l_shr_of yl (pos 10))) in
    let thr = if int_lt (pos 9) ylint then pos 31744 else shl_of (add_of (pos 32) ylfrac) ylint in
    extract_l_of (l_shr_of (l_add_of thr (shr_of thr (pos 1))) (pos 1))

unfoldable pub trans : ℤ → ℤ → ℤ → Bool
trans td yl dq = int_lt (pos 0) td && int_lt (threshold yl) (magnitude_of dq)

-- ---- the quantizer and its inverse

-- the bits of a code, the code of ones, and the code of a positive difference below all levels
abbrev pub code_bits : Rate → ℤ
code_bits Kbits16 = pos 2
code_bits Kbits24 = pos 3
code_bits Kbits32 = pos 4
code_bits Kbits40 = pos 5

abbrev pub ones : Rate → ℤ
ones Kbits16 = pos 3
ones Kbits24 = pos 7
ones Kbits32 = pos 15
ones Kbits40 = pos 31

abbrev pub least_code : Rate → ℤ
least_code Kbits16 = pos 0
least_code Kbits24 = pos 7
least_code Kbits32 = pos 15
least_code Kbits40 = pos 31

abbrev pub levels : Rate → List ℤ
levels Kbits16 = levels_16
levels Kbits24 = levels_24
levels Kbits32 = levels_32
levels Kbits40 = levels_40

-- RECONST, FUNCTW and FUNCTF, by the magnitude of a code
abbrev pub reconst : Rate → ℕ → ℤ
reconst Kbits16 k = word_at outputs_16 k
reconst Kbits24 k = word_at outputs_24 k
reconst Kbits32 k = word_at outputs_32 k
reconst Kbits40 k = word_at outputs_40 k

abbrev pub functw : Rate → ℕ → ℤ
functw Kbits16 k = word_at scales_16 k
functw Kbits24 k = word_at scales_24 k
functw Kbits32 k = word_at scales_32 k
functw Kbits40 k = word_at scales_40 k

abbrev pub functf : Rate → ℕ → ℤ
functf Kbits16 k = word_at speeds_16 k
functf Kbits24 k = word_at speeds_24 k
functf Kbits32 k = word_at speeds_32 k
functf Kbits40 k = word_at speeds_40 k

-- the leak of UPB
abbrev pub leak_of : Rate → ℤ
leak_of Kbits40 = pos 9
leak_of _ = pos 8

-- LOG: DL
abbrev pub log_of : ℤ → ℤ
log_of m = if int_lt (pos 0) m then add_of (shl_of (sub_of (pos 13) (norm_s_of m)) (pos 7)) (shr_of (shl_of m (norm_s_of m)) (pos 7)) else pos 0

-- SUBTB: DLN
abbrev pub subtb : ℤ → ℤ → ℤ
subtb d y = sub_of (log_of (abs_s_of d)) (shr_of y (pos 2))

-- how many levels are reached
abbrev pub interval_of : Rate → ℤ → ℕ
interval_of rate dln = count_by (λ level. int_le level dln) (levels rate)

-- QUAN: I
unfoldable pub quan : Rate → ℤ → ℤ → ℤ
quan rate d y =
    let k = interval_of rate (subtb d y) in
    if int_lt d (pos 0) then sub_of (ones rate) (pos k) else (if nat_le 1 k then pos k else least_code rate)

-- a code is negative where its upper bit is set: the others are turned then
abbrev pub is_negative : Rate → ℤ → Bool
is_negative rate i = int_lt (shr_of (ones rate) (pos 1)) i

abbrev pub magnitude_code : Rate → ℤ → ℕ
magnitude_code rate i = unsigned_abs (if is_negative rate i then sub_of (ones rate) i else i)

-- ADDA and ANTILOG: DQMAG
abbrev pub antilog : ℤ → ℤ
antilog dql =
    if int_lt dql (pos 0) then pos 0
    else shr_of (shl_of (add_of (pos 128) (low_bits (pos 7) dql)) (pos 7)) (sub_of (pos 14) (shr_of dql (pos 7)))

-- DQ
unfoldable pub difference_of : Rate → ℤ → ℤ → ℤ
difference_of rate y i =
    let m = antilog (add_of (reconst rate (magnitude_code rate i)) (shr_of y (pos 2))) in
    if is_negative rate i then add_of m sign_bit else m

-- ---- a sample

-- DQ in two's complement
abbrev pub value_of : ℤ → ℤ
value_of dq = if int_lt dq (pos 0) then negate_of (magnitude_of dq) else dq

-- ADDB and ADDC
abbrev pub plus_difference : ℤ → ℤ → ℤ
plus_difference se dq = extract_l_of (se +ℤ value_of dq)

-- SEZ, SE and Y
unfoldable pub predicted : State → Predicted
predicted s =
    let sezi = zeros_of s.zeros in
    record { sez = shr_of sezi (pos 1); se = shr_of (poles_of sezi s.poles) (pos 1); y = mix (lima s.scale.ap) s.scale.yu s.scale.yl }

-- the state behind the code I with the difference DQ
unfoldable pub next_state : Rate → Predicted → ℤ → ℤ → State → State
next_state rate g i dq s =
    let tr = trans s.poles.td s.scale.yl dq in
    let dqsez = plus_difference g.sez dq in
    let a2p = upa2 dqsez s.poles in
    let k = magnitude_code rate i in
    record {
      zeros = next_zeros tr (leak_of rate) dq s.zeros;
      poles = next_poles tr a2p dqsez (plus_difference g.se dq) s.poles;
      scale = next_scale tr (tone a2p) (functw rate k) (functf rate k) g.y s.scale;
    }

-- Annex A: SL is the upper fourteen bits of a sample, and SO, which LIMO keeps within them, those of an output
abbrev pub limo : ℤ → ℤ
limo sr = shl_of (kept_within (negsuc 8191) (pos 8191) sr) (pos 2)

-- I of a sample, by EXPAND and SUBTA, or of a word, whose lower bits it is
unfoldable pub code_of : Direction → Rate → Predicted → ℤ → ℤ
code_of Encode rate g x = quan rate (sub_of (shr_of x (pos 2)) g.se) g.y
code_of Decode rate g x = low_bits (code_bits rate) x

-- what a word gives: its code, or the sample of its code
unfoldable pub given_of : Direction → ℤ → ℤ → ℤ
given_of Encode i sr = i
given_of Decode i sr = limo sr

-- ---- a state

abbrev pub initial_state : State
initial_state = record {
  zeros = record { b1 = pos 0; b2 = pos 0; b3 = pos 0; b4 = pos 0; b5 = pos 0; b6 = pos 0; dq1 = pos 32; dq2 = pos 32; dq3 = pos 32; dq4 = pos 32; dq5 = pos 32; dq6 = pos 32 };
  poles = record { a1 = pos 0; a2 = pos 0; sr1 = pos 32; sr2 = pos 32; pk1 = pos 0; pk2 = pos 0; td = pos 0 };
  scale = record { yu = pos 544; yl = pos 34816; dms = pos 0; dml = pos 0; ap = pos 0 };
}

-- a word that is taken: the state behind it, and what it gives
unfoldable pub taken : Coder → ℤ → State → State × ℤ
taken coder x s =
    let g = predicted s in
    let i = code_of coder.direction coder.rate g x in
    let dq = difference_of coder.rate g.y i in
    (next_state coder.rate g i dq s, given_of coder.direction i (plus_difference g.se dq))
