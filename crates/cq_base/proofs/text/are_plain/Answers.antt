use Rattle.std.proofs.Common.{◌≡◌, ◌-◌, get_or, subst, ⊎_elim, arith}
use Rattle.std.proofs.lemmas.Bool.{and_parts, cases_lt, OnTrue_at}
use Rattle.cq_base.specs.within.PlainBytes.{IsPlain}
use Rattle.cq_base.proofs.text.are_plain.Goals as goal

pub loop-at-preserved : goal.loop-at-preserved
loop-at-preserved c = λ both k low below.
    let bytes = c.args.bytes.now in
    let i = c.loop-at.at in
    let parts = and_parts c.loop-at.plain c.is_plain-plain.result both in
    let plain = OnTrue_at parts.1 c.is_plain-plain.ensures in
    let here : IsPlain (get_or bytes (i - 2) 0) (get_or bytes (i - 1) 0) (get_or bytes i 0) = (plain.0, λ _. plain.1) in
    ⊎_elim (λ early. c.loop-at.invariant parts.0 k low early)
    (λ late. let is : i ≡ k = omega (arith, below, late) in subst (λ n. IsPlain (get_or bytes (n - 2) 0) (get_or bytes (n - 1) 0) (get_or bytes n 0)) is here)
    (cases_lt k i)
