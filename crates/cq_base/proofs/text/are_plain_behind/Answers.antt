use Rattle.std.proofs.Common.{◌≡◌, ◌-◌, get_or, subst, ⊎_elim, arith}
use Rattle.std.proofs.lemmas.Bool.{cases_lt, OnTrue_at}
use Rattle.cq_base.specs.within.PlainBytes.{IsPlain}
use Rattle.cq_base.proofs.text.are_plain_behind.Goals as goal

pub loop-at-preserved : goal.loop-at-preserved
loop-at-preserved c = λ k low below.
    let bytes = c.args.bytes.now in
    let i = c.loop-at.at in
    let here : IsPlain (get_or bytes (i - 2) 0) (get_or bytes (i - 1) 0) (get_or bytes i 0) = subst (λ n. IsPlain (get_or bytes n 0) (get_or bytes (i - 1) 0) (get_or bytes i 0)) c.saturating_sub.ensures (OnTrue_at c.if-not-is_plain_behind.false c.is_plain_behind.ensures) in
    ⊎_elim (λ early. c.loop-at.invariant k low early)
    (λ late. let is : i ≡ k = omega (arith, below, late) in subst (λ n. IsPlain (get_or bytes (n - 2) 0) (get_or bytes (n - 1) 0) (get_or bytes n 0)) is here)
    (cases_lt k i)
