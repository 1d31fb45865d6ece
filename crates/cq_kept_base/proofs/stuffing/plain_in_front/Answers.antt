-- Up to the first byte that is escaped, or all.
use Rattle.std.proofs.Common.{ℕ, List, ◌≡◌, ◌≤◌, false, length, take, ap, sym, subst, arith, length-take}
use Rattle.cq_kept_base.specs.Stuffing.{has_escape}
use Rattle.cq_kept_base.proofs.Escapes.{plain_parts}
use Rattle.cq_kept_base.proofs.stuffing.plain_in_front.Goals as goal

pub returns-clause-plain : goal.returns-clause-plain
returns-clause-plain c =
    let bytes : List ℕ = c.args.bytes.now in
    let k = c.line_in_front.result in
    let n = c.unescaped_in_front.result in
    let front = c.split_at.ensures.front in
    plain_parts bytes n k (omega (arith, c.unescaped_in_front.ensures.within, ap length front, length-take k bytes, c.line_in_front.ensures.within)) c.line_in_front.ensures.line
    (subst (λ (l : List ℕ). has_escape (take n l) ≡ false) front c.unescaped_in_front.ensures.unescaped)
