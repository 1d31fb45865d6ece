use Rattle.std.proofs.Common.{◌++◌, ◌∷◌, Some, None, decimal}
use Rattle.cq_base.proofs.HandleTexts.{split_at_dash, split_handle, same_number, same_handle, text_from_utf8, text_for_handle}
use Rattle.cq_base.proofs.receipt.Receipt.read.Goals as goal

pub returns-in_err-text-clause-none : goal.returns-in_err-text-clause-none
returns-in_err-text-clause-none c = rw c.from_residual.ensures (λ h fits of_handle.
    text_for_handle _ h c.args.bytes.now c.from_utf8.result fits c.from_utf8.ensures.cases c.in_err-text.ensures.value of_handle)

pub returns-in_err-incarnation-clause-none : goal.returns-in_err-incarnation-clause-none
returns-in_err-incarnation-clause-none c = rw c.from_residual-in_err-incarnation.ensures (λ h fits of_handle.
    let text = text_from_utf8 _ h c.args.bytes.now c.in_ok-text.text c.from_utf8.result c.from_utf8.ensures.cases c.in_ok-text.ensures.value of_handle in
    split_at_dash h.incarnation c.in_ok-text.text.now (decimal h.sequence ++ 45 ∷ decimal h.handing) None fits.incarnation c.in_err-incarnation.ensures.cases text)

pub returns-in_err-sequence-clause-none : goal.returns-in_err-sequence-clause-none
returns-in_err-sequence-clause-none c = rw c.from_residual-in_err-sequence.ensures (λ h fits of_handle.
    let text = text_from_utf8 _ h c.args.bytes.now c.in_ok-text.text c.from_utf8.result c.from_utf8.ensures.cases c.in_ok-text.ensures.value of_handle in
    let parts = split_at_dash h.incarnation c.in_ok-text.text.now (decimal h.sequence ++ 45 ∷ decimal h.handing) (Some (c.in_ok-incarnation.incarnation, c.in_ok-incarnation.rest)) fits.incarnation c.in_ok-incarnation.ensures.cases text in
    split_at_dash h.sequence c.in_ok-incarnation.rest.now (decimal h.handing) None fits.sequence c.in_err-sequence.ensures.cases parts.1)

pub returns-in_err-read_number-clause-none : goal.returns-in_err-read_number-clause-none
returns-in_err-read_number-clause-none c = rw c.from_residual-in_err-read_number.ensures (λ h fits of_handle.
    let text = text_from_utf8 _ h c.args.bytes.now c.in_ok-text.text c.from_utf8.result c.from_utf8.ensures.cases c.in_ok-text.ensures.value of_handle in
    let parts = split_handle h c.in_ok-text.text.now c.in_ok-incarnation.incarnation c.in_ok-incarnation.rest c.in_ok-sequence.sequence c.in_ok-sequence.handing fits text
    c.in_ok-incarnation.ensures.cases c.in_ok-sequence.ensures.cases in
    c.in_err-read_number.ensures.none h.incarnation fits.incarnation parts.0)

pub returns-in_err-read_number-2-clause-none : goal.returns-in_err-read_number-2-clause-none
returns-in_err-read_number-2-clause-none c = rw c.from_residual-in_err-read_number-2.ensures (λ h fits of_handle.
    let text = text_from_utf8 _ h c.args.bytes.now c.in_ok-text.text c.from_utf8.result c.from_utf8.ensures.cases c.in_ok-text.ensures.value of_handle in
    let parts = split_handle h c.in_ok-text.text.now c.in_ok-incarnation.incarnation c.in_ok-incarnation.rest c.in_ok-sequence.sequence c.in_ok-sequence.handing fits text
    c.in_ok-incarnation.ensures.cases c.in_ok-sequence.ensures.cases in
    c.in_err-read_number-2.ensures.none h.sequence fits.sequence parts.1)

pub returns-in_err-read_number-3-clause-none : goal.returns-in_err-read_number-3-clause-none
returns-in_err-read_number-3-clause-none c = rw c.from_residual-in_err-read_number-3.ensures (λ h fits of_handle.
    let text = text_from_utf8 _ h c.args.bytes.now c.in_ok-text.text c.from_utf8.result c.from_utf8.ensures.cases c.in_ok-text.ensures.value of_handle in
    let parts = split_handle h c.in_ok-text.text.now c.in_ok-incarnation.incarnation c.in_ok-incarnation.rest c.in_ok-sequence.sequence c.in_ok-sequence.handing fits text
    c.in_ok-incarnation.ensures.cases c.in_ok-sequence.ensures.cases in
    c.in_err-read_number-3.ensures.none h.handing fits.handing parts.2)

pub returns-clause-only : goal.returns-clause-only
returns-clause-only c = λ h fits of_handle.
    let text = text_from_utf8 _ h c.args.bytes.now c.in_ok-text.text c.from_utf8.result c.from_utf8.ensures.cases c.in_ok-text.ensures.value of_handle in
    let parts = split_handle h c.in_ok-text.text.now c.in_ok-incarnation.incarnation c.in_ok-incarnation.rest c.in_ok-sequence.sequence c.in_ok-sequence.handing fits text
    c.in_ok-incarnation.ensures.cases c.in_ok-sequence.ensures.cases in
    same_handle h _
    (same_number _ _ _ fits.incarnation c.in_ok-read_number.ensures.in_range parts.0 c.in_ok-read_number.ensures.found)
    (same_number _ _ _ fits.sequence c.in_ok-read_number-2.ensures.in_range parts.1 c.in_ok-read_number-2.ensures.found)
    (same_number _ _ _ fits.handing c.in_ok-read_number-3.ensures.in_range parts.2 c.in_ok-read_number-3.ensures.found)
