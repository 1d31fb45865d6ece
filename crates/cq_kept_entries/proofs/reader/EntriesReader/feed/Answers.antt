-- One piece more, or the begin of one.
use Rattle.std.proofs.Common.{List, ℕ, [], ◌++◌, refl, sym, ◌∙◌, ap, subst}
use Rattle.cq_kept_entries.specs.Pieces.{at, ended, read}
use Rattle.std.proofs.lemmas.Result.{err_from_is_err_and}
use Rattle.cq_kept_entries.specs.within.Readers.{IsReader, IsRefused}
use Rattle.cq_kept_entries.proofs.Listed.{grown}
use Rattle.cq_kept_entries.proofs.Readings.{if_ok, piece_ended, piece_on}
use Rattle.cq_kept_entries.proofs.Refused.{if_bad, on_bad, refused_more}
use Rattle.cq_kept_entries.proofs.reader.EntriesReader.feed.Goals as goal

pub loop-front-init : goal.loop-front-init
loop-front-init c = λ a is. (a, is, refl)

pub loop-front-preserved : goal.loop-front-preserved
loop-front-preserved c = λ a is.
    let so_far = c.loop-front.invariant a is in
    let b = so_far.0 in
    let front = c.in-Some.front.now in
    let cut = c.in-Some.ensures in
    let w = c.in_ok-with_front.ensures.on in (
      at [] (ended (b.piece ++ front) b.stage),
      c.in_ok-reader.ensures.made (at (b.piece ++ front) b.stage) (grown b c.loop-front.reader c.in_ok-with_front.field-0 front w.0 w.1 so_far.1),
      so_far.2 ∙ ap (λ (l : List ℕ). read b l) cut.1 ∙ piece_ended b.piece front c.in-Some.behind.now b.stage cut.0,
    )

pub returns-clause-made : goal.returns-clause-made
returns-clause-made c = λ a is.
    let so_far = c.loop-front.invariant a is in
    let b = so_far.0 in
    let rest = c.loop-front.rest.now in
    if_ok c.with_front-2.result c.with_front-2.ensures.on (λ reader w.
    subst (λ x. IsReader x reader) (sym (so_far.2 ∙ piece_on b.piece rest b.stage c.in_default.ensures)) (grown b c.loop-front.reader reader rest w.0 w.1 so_far.1))

pub returns-in_err-with_front-clause-refused : goal.returns-in_err-with_front-clause-refused
returns-in_err-with_front-clause-refused c = λ a is.
    let p = err_from_is_err_and c.from_residual.result c.from_residual.ensures.1 in
    rw (p.1, p.2) (if_bad c.in_err-with_front.field-0.0 c.in_err-with_front.ensures.refused (λ none. absurd none))

pub returns-in_err-reader-clause-refused : goal.returns-in_err-reader-clause-refused
returns-in_err-reader-clause-refused c = λ a is.
    let so_far = c.loop-front.invariant a is in
    let b = so_far.0 in
    let front = c.in-Some.front.now in
    let cut = c.in-Some.ensures in
    let w = c.in_ok-with_front.ensures.on in
    let next = at [] (ended (b.piece ++ front) b.stage) in
    let behind = c.in-Some.behind.now in
    let p = err_from_is_err_and c.from_residual-in_err-reader.result c.from_residual-in_err-reader.ensures.1 in
    rw (p.1, p.2) (if_bad c.in_err-reader.field-0.0
    (c.in_err-reader.ensures.refused (at (b.piece ++ front) b.stage) (grown b c.loop-front.reader c.in_ok-with_front.field-0 front w.0 w.1 so_far.1))
    (λ never. subst (λ x. IsRefused x) (sym (so_far.2 ∙ ap (λ (l : List ℕ). read b l) cut.1 ∙ piece_ended b.piece front behind b.stage cut.0)) (refused_more next behind never)))

pub returns-clause-refused : goal.returns-clause-refused
returns-clause-refused c = λ a is. on_bad c.with_front-2.result c.with_front-2.ensures.refused (λ none. absurd none)
