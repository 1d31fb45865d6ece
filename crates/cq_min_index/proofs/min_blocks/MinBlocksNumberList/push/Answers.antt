-- One more number begins a block or goes on in the last.
use Rattle.std.proofs.Common.{◌≡◌, ◌<◌, ◌/◌, length, arith, refl, subst, inl, inr}
use Rattle.cq_min_index.specs.declared.min_blocks.TheConstants.{BLOCK}
use Rattle.cq_min_index.specs.within.Spans.{AreSpans}
use Rattle.std.proofs.lemmas.List.{length-set, get_or-set_same, get_or-set_other}
use Rattle.cq_min_index.proofs.Summaries.{summary-start, summary-first, summary-next}
use Rattle.cq_min_index.proofs.min_blocks.MinBlocksNumberList.push.Goals as goal

pub invariant_of-self-then-number-get : goal.invariant_of-self-then-number-get
invariant_of-self-then-number-get g c =
    let low = c.self.inside.low.items in
    let high = g.T.NumberList.numbers c.self.inside.high in
    let n = c.args.number in
    let b = c.len-len.result / BLOCK in
    let is_len : c.len-len.result ≡ length low = omega arith in
    let in_high : b < length high = omega (arith, c.self.invariant.0.long, c.if-len-eq0.false) in
    let at = get_or-set_same high b n 0 in_high in (
      rw (c.in_ok-push-2.ensures.items, c.set.ensures) (summary-next low high _ n b c.self.invariant.0 (omega arith) (λ e. c.if-len-eq0.false (omega arith)) (length-set high b n) (λ j h. get_or-set_other high b j n 0 h) (omega arith) (omega arith) (inl at)),
      subst (λ xs. AreSpans xs c.widen-else-len-eq0.new.spans.items) c.deref-else-len-eq0.ensures.value c.widen-else-len-eq0.ensures,
    )

pub invariant_of-self-else-number-get : goal.invariant_of-self-else-number-get
invariant_of-self-else-number-get g c =
    let low = c.self.inside.low.items in
    let high = g.T.NumberList.numbers c.self.inside.high in
    let n = c.args.number in
    let b = c.len-len.result / BLOCK in
    let is_len : c.len-len.result ≡ length low = omega arith in
    let in_high : b < length high = omega (arith, c.self.invariant.0.long, c.if-len-eq0.false) in (
      rw c.in_ok-push-2.ensures.items (summary-next low high high n b c.self.invariant.0 (omega arith) (λ e. c.if-len-eq0.false (omega arith)) refl (λ j h. refl) (omega (arith, c.if-number-get.false)) (omega arith) (inr refl)),
      subst (λ xs. AreSpans xs c.widen-else-len-eq0.new.spans.items) c.deref-else-len-eq0.ensures.value c.widen-else-len-eq0.ensures,
    )

pub invariant_of-self-then-len-eq0 : goal.invariant_of-self-then-len-eq0
invariant_of-self-then-len-eq0 g c =
    let low = c.self.inside.low.items in
    let high = g.T.NumberList.numbers c.self.inside.high in
    let n = c.args.number in
    let b = c.len-len.result / BLOCK in
    let is_len : c.len-len.result ≡ length low = omega arith in (
      rw c.in_ok-push.ensures.items (summary-first low high _ n b c.self.invariant.0 (omega arith) c.in_ok-begin_block.ensures.ok),
      subst (λ xs. AreSpans xs c.widen.new.spans.items) c.deref-then-len-eq0.ensures.value c.widen.ensures,
    )

pub invariant_of-self-in_err-push : goal.invariant_of-self-in_err-push
invariant_of-self-in_err-push g c =
    let low = c.self.inside.low.items in
    let high = g.T.NumberList.numbers c.self.inside.high in
    let n = c.args.number in
    let b = c.len-len.result / BLOCK in
    let is_len : c.len-len.result ≡ length low = omega arith in (
      rw c.in_err-push.ensures.items (summary-start low high _ n b c.self.invariant.0 (omega arith) c.in_ok-begin_block.ensures.ok),
      rw c.in_err-push.ensures.items (subst (λ xs. AreSpans xs c.begin_span.new.spans.items) c.deref.ensures.value c.in_ok-begin_span.ensures.spans),
    )

pub invariant_of-self-in_err-begin_span : goal.invariant_of-self-in_err-begin_span
invariant_of-self-in_err-begin_span g c =
    let low = c.self.inside.low.items in
    let high = g.T.NumberList.numbers c.self.inside.high in
    let n = c.args.number in
    let b = c.len-len.result / BLOCK in
    let is_len : c.len-len.result ≡ length low = omega arith in (
      summary-start low high _ n b c.self.invariant.0 (omega arith) c.in_ok-begin_block.ensures.ok,
      subst (λ xs. AreSpans xs c.begin_span.new.spans.items) c.deref.ensures.value c.in_err-begin_span.ensures.spans,
    )
