use Rattle.std.proofs.Common.{◌+◌, ◌/◌, ◌%◌, ◌++◌, ◌∷◌, [], length, length-append, append_assoc, lit<, sym, ap, ◌∙◌, arith}
use Rattle.std.specs.Fmt.{decimal}
use Rattle.std.proofs.Math.Nat.{mod-eq_of_lt}
use Rattle.std.proofs.lemmas.Fmt.{decimal_digit, decimal_step}
use Rattle.voice_script.proofs.ReplyLemmas.{length-decimal-more}
use Rattle.voice_script.proofs.replies.+push_digits.Goals as goal
use Rattle.voice_script.proofs.replies.+push_digits.Goals.{then-number-ge10, else-number-ge10}

pub push_digits-requires : goal.push_digits-requires
push_digits-requires t c =
    let more = length-decimal-more c.args.number c.if-number-ge10.true c.ranges.number.fits in
    (omega arith, omega arith)

pub push-requires : goal.push-requires
push-requires t c = elim c.if-number-ge10.branch [
  | then-number-ge10 w ↦
      let more = length-decimal-more c.args.number w.if-number-ge10.true c.ranges.number.fits in
      let put = ap length w.push_digits.ensures ∙ length-append c.args.text.now.items (decimal (c.args.number / 10)) in
      let same = ap (λ b. length b.items) w.text-is in
      (lit< tt, omega arith)
  | else-number-ge10 w ↦
      let one = ap length (decimal_digit c.args.number w.if-number-ge10.false) in
      let same = ap (λ b. length b.items) w.text-is in
      (lit< tt, omega arith)
]

pub returns : goal.returns
returns t c =
    let n = c.args.number in
    let before = c.args.text.now.items in
    elim c.if-number-ge10.branch [
      | then-number-ge10 w ↦
          c.push.ensures.items
          ∙ ap (λ b. b.items ++ (48 + n % 10) ∷ []) w.text-is
          ∙ ap (λ ds. ds ++ (48 + n % 10) ∷ []) w.push_digits.ensures
          ∙ append_assoc before (decimal (n / 10)) ((48 + n % 10) ∷ [])
          ∙ ap (λ ds. before ++ ds) (sym (decimal_step n w.if-number-ge10.true (omega arith)))
      | else-number-ge10 w ↦
          c.push.ensures.items
          ∙ ap (λ b. b.items ++ (48 + n % 10) ∷ []) w.text-is
          ∙ ap (λ d. before ++ (48 + d) ∷ []) (mod-eq_of_lt w.if-number-ge10.false)
          ∙ ap (λ ds. before ++ ds) (sym (decimal_digit n w.if-number-ge10.false))
    ]
