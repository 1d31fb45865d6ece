use Rattle.std.proofs.Common.{cond, eqb, ap, sym, ◌∙◌, arith}
use Rattle.std.proofs.lemmas.Bool.{ne_eqb}
use lib.Count.{count_trailing_zeros}
use Rattle.cq_json.proofs.PlainLanes.{stop_mask, first_stop}
use Rattle.cq_json.proofs.plain.plain_lanes.Goals as goal

pub returns-then-stops-eq0 : goal.returns-then-stops-eq0
returns-then-stops-eq0 c = ap (λ n. cond (eqb n 0) 16 (count_trailing_zeros 64 n)) (sym c.if-stops-eq0.true) ∙ first_stop c.args.bytes c.fits-bytes.0

pub returns-else-stops-eq0 : goal.returns-else-stops-eq0
returns-else-stops-eq0 c =
    let mask = stop_mask c.args.bytes in
    ap (λ b. cond b 16 (count_trailing_zeros 64 mask)) (sym (ne_eqb mask 0 (λ e. omega (arith, e, c.if-stops-eq0.false)))) ∙ first_stop c.args.bytes c.fits-bytes.0
