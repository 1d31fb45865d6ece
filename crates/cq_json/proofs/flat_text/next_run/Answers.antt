use Rattle.std.proofs.Common.{◌≡◌, ◌<◌, ◌+◌, ◌-◌, ◌++◌, ◌∷◌, length, get_or, take, drop, ap, ap₂, sym, ◌∙◌, subst, arith}
use Rattle.std.proofs.lemmas.List.Sums.{prefix_len-le-length}
use Rattle.std.proofs.lemmas.Str.{IsCharBoundary-after_ascii}
use Rattle.std.specs.Str.{IsCharBoundary}
use Rattle.json.specs.Run.{is_plain}
use Rattle.json.specs.Print.{escape}
use Rattle.cq_json.specs.within.FlatText.{run_end, Spelled}
use Rattle.cq_json.proofs.FlatText.{run_prefix, run_end_ascii}
use Rattle.cq_json.proofs.Escapes.{run_spelled}
use Rattle.cq_json.proofs.flat_text.next_run.Goals as goal

pub bounds-bytes-len : goal.bounds-bytes-len
bounds-bytes-len c = omega (arith, c.plain_len-len.ensures, prefix_len-le-length is_plain c.as_bytes-bytes.result.now)

pub range_from-requires : goal.range_from-requires
range_from-requires c = λ _.
    let d = c.as_bytes-bytes.result.now in
    let n = c.plain_len-len.result in
    let within : n < length d = omega (arith, c.plain_len-len.ensures, prefix_len-le-length is_plain d) in
    let ascii : get_or d n 0 < 128 = omega (arith, c.in_ok-ends.ensures, run_end_ascii c.in_ok-ends.ends) in
    subst (λ t. IsCharBoundary t (n + 1)) c.as_bytes-bytes.ensures.value (IsCharBoundary-after_ascii d n c.as_bytes-bytes.ensures.utf8 within ascii)

pub returns-clause-value : goal.returns-clause-value
returns-clause-value c =
    let t = c.args.text.now in
    let d = c.as_bytes-bytes.result.now in
    let n = c.plain_len-len.result in
    let within : n < length d = omega (arith, c.plain_len-len.ensures, prefix_len-le-length is_plain d) in
    let same : d ≡ t = c.as_bytes-bytes.ensures.value in
    let none : n - 0 ≡ n = omega arith in
    let prefix : take n d ≡ c.range.result.now = ap (take n) same ∙ sym (c.range.ensures.value ∙ ap (λ k. take k t) none) in
    let left : drop (n + 1) d ≡ c.range_from.result.now = ap (drop (n + 1)) same ∙ sym c.range_from.ensures.value in
    let behind : get_or d n 0 ∷ drop (n + 1) d ≡ run_end c.in_ok-ends.ends ∷ c.range_from.result.now = ap₂ (λ x xs. x ∷ xs) c.in_ok-ends.ensures left in
    sym same ∙ run_prefix d n c.plain_len-len.ensures within ∙ ap₂ (λ a b. escape a ++ b) prefix behind

pub returns-clause-spelled : goal.returns-clause-spelled
returns-clause-spelled c =
    let t = c.args.text.now in
    let d = c.as_bytes-bytes.result.now in
    let n = c.plain_len-len.result in
    let within : n < length d = omega (arith, c.plain_len-len.ensures, prefix_len-le-length is_plain d) in
    let same : d ≡ t = c.as_bytes-bytes.ensures.value in
    let none : n - 0 ≡ n = omega arith in
    let prefix : take n d ≡ c.range.result.now = ap (take n) same ∙ sym (c.range.ensures.value ∙ ap (λ k. take k t) none) in
    let left : drop (n + 1) d ≡ c.range_from.result.now = ap (drop (n + 1)) same ∙ sym c.range_from.ensures.value in
    let behind : get_or d n 0 ∷ drop (n + 1) d ≡ run_end c.in_ok-ends.ends ∷ c.range_from.result.now = ap₂ (λ x xs. x ∷ xs) c.in_ok-ends.ensures left in
    subst (λ r. Spelled t c.range.result.now r) behind (subst (λ b. Spelled t b (get_or d n 0 ∷ drop (n + 1) d)) prefix (subst (λ x. Spelled x (take n d) (get_or d n 0 ∷ drop (n + 1) d)) same (run_spelled d n c.plain_len-len.ensures within)))
