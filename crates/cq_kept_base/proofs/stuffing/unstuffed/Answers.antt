-- One byte more.
use Rattle.std.proofs.Common.{ℕ, List, ◌+◌, false, drop, sym, ◌∙◌, ap}
use Rattle.cq_kept_base.specs.Stuffed.{put_before, unstuffed}
use Rattle.cq_kept_base.proofs.Escapes.{next_dropped, put_both, put_none}
use Rattle.cq_kept_base.proofs.stuffing.unstuffed.Goals as goal

pub loop-byte-init : goal.loop-byte-init
loop-byte-init c =
    let text = c.args.text.now in
    sym (put_none (unstuffed false text)) ∙ ap (λ (l : List ℕ). put_before l (unstuffed false text)) (sym c.new-bytes.ensures.items)

pub loop-byte-preserved : goal.loop-byte-preserved
loop-byte-preserved c =
    let text = c.args.text.now in
    let at = c.loop-byte.byte-index in
    let bytes = c.loop-byte.bytes.items in
    let was = c.loop-byte.is_escaped in
    let is = c.in_ok-is_escaped.is_escaped in
    let rest = drop (at + 1) text in
    let w = c.in_ok-is_escaped.ensures in
    c.loop-byte.invariant ∙ ap (λ (l : List ℕ). put_before bytes (unstuffed was l)) (next_dropped text at c.loop-byte-test.true) ∙ ap (λ r. put_before bytes r) (w.2 rest)
    ∙ put_both bytes w.0 (unstuffed is rest) ∙ ap (λ (l : List ℕ). put_before l (unstuffed is rest)) (sym w.1)
