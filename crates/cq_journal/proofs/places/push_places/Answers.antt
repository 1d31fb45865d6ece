-- With one place more.
use Rattle.std.proofs.Common.{◌∙◌, ap, sym, ◌++◌, append_assoc}
use Rattle.std.specs.Prelude.{get_or}
use Rattle.cq_journal.specs.Numbers.{digits}
use Rattle.cq_journal.proofs.Regions.{places_more, each_at}
use Rattle.cq_journal.proofs.places.push_places.Goals as goal

pub push_number-requires : goal.push_number-requires
push_number-requires c = each_at _ c.args.places.now c.loop-place.place-index c.requires c.loop-place-test.true

pub loop-place-preserved : goal.loop-place-preserved
loop-place-preserved c =
    let places = c.args.places.now in
    let digit = digits (get_or places c.loop-place.place-index 0) in
    c.in_ok-push_number.ensures.ok ∙ ap (λ text. text ++ digit) c.loop-place.invariant
    ∙ append_assoc c.args.text.now.items _ digit
    ∙ ap (λ text. c.args.text.now.items ++ text) (sym (places_more places c.loop-place.place-index c.loop-place-test.true))
