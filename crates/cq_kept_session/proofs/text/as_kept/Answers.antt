-- One byte more.
use Rattle.std.proofs.Common.{◌≡◌, ℕ, List, [], ◌∷◌, ◌++◌, true, false, sym, ◌∙◌, ap, subst, arith}
use Rattle.std.proofs.lemmas.List.{take_all}
use Rattle.cq_records.specs.Frames.{is_text}
use Rattle.cq_kept_session.specs.Texts.{as_kept, has_mark}
use Rattle.cq_kept_session.proofs.Chunks.{kept_next, text_kept, unmarked_kept}
use Rattle.cq_kept_session.proofs.text.as_kept.Goals as goal

pub loop-byte-preserved : goal.loop-byte-preserved
loop-byte-preserved c =
    c.in_ok-push.ensures.items ∙ (λ i. (c.loop-byte.invariant i) ++ (c.kept_byte.ensures i) ∷ []) ∙ sym (kept_next c.args.bytes.now c.loop-byte.byte-index c.loop-byte-test.true)

pub returns-clause-is_text : goal.returns-clause-is_text
returns-clause-is_text c =
    let bytes = c.args.bytes.now in
    let all : c.loop-byte.text.items ≡ as_kept bytes = c.loop-byte.invariant ∙ ap as_kept (take_all c.loop-byte.byte-index bytes (omega (arith, c.loop-byte-test.false))) in
    subst (λ (text : List ℕ). is_text text ≡ true) (sym all) (text_kept bytes c.requires)

pub returns-clause-unmarked : goal.returns-clause-unmarked
returns-clause-unmarked c =
    let bytes = c.args.bytes.now in
    let all : c.loop-byte.text.items ≡ as_kept bytes = c.loop-byte.invariant ∙ ap as_kept (take_all c.loop-byte.byte-index bytes (omega (arith, c.loop-byte-test.false))) in
    subst (λ (text : List ℕ). has_mark text ≡ false) (sym all) (unmarked_kept bytes)
