use Rattle.std.proofs.Common.{◌<◌, get_or, arith}
use Rattle.std.proofs.lemmas.Str.Pattern.{starts_char}
use Rattle.cq_base.proofs.HandleTexts.{ReadsNumber-parse, first_byte}
use Rattle.cq_base.proofs.receipt.read_number.Goals.{then-starts_with-via-then-starts_with, then-starts_with-via-else-starts_with+then-starts_with-2}
use Rattle.cq_base.proofs.receipt.read_number.Goals as goal

pub returns-then-starts_with-clause-none : goal.returns-then-starts_with-clause-none
returns-then-starts_with-clause-none c = λ n fits text.
    let first : 48 < get_or c.args.text.now 0 0 = first_byte n c.args.text.now fits text in
    let zero = starts_char 48 c.args.text.now c.starts_with.result c.starts_with.ensures.cases (omega arith) (omega arith) in
    elim c.then-starts_with.branch [
      | then-starts_with-via-then-starts_with w ↦ absurd (omega (arith, zero.0 w.if-starts_with.true))
      | then-starts_with-via-else-starts_with+then-starts_with-2 w ↦
          let plus = starts_char 43 c.args.text.now w.starts_with-else-starts_with.result w.starts_with-else-starts_with.ensures.cases (omega arith) (omega arith) in
          absurd (omega (arith, plus.0 w.if-starts_with-2.true))
    ]

pub returns : goal.returns
returns c =
    let zero = starts_char 48 c.args.text.now c.starts_with.result c.starts_with.ensures.cases (omega arith) (omega arith) in
    let plus = starts_char 43 c.args.text.now c.starts_with-else-starts_with.result c.starts_with-else-starts_with.ensures.cases (omega arith) (omega arith) in
    let reads = ReadsNumber-parse c.args.text.now c.parse.result c.parse.ensures.value.0 (λ e. cc (plus.1 e)) (λ e. cc (zero.1 e)) in
    rw c.ok.ensures.value (record { found = reads.found; in_range = reads.in_range; none = reads.none })
