-- One piece more, or the end of the base, or the begin of a piece.
use Rattle.std.proofs.Common.{List, ℕ, sym, ◌∙◌, ap}
use Rattle.cq_kept_session.specs.Bases.{based, ended, read}
use Rattle.cq_kept_session.proofs.Bases.{piece_ended, piece_on}
use Rattle.cq_kept_session.proofs.base.BaseReader.feed.Goals as goal

pub loop-front-preserved : goal.loop-front-preserved
loop-front-preserved c =
    let r = c.loop-front.reader in
    let front = c.in-Some.front.now in
    let behind = c.in-Some.behind.now in
    let cut = c.in-Some.ensures in
    c.loop-front.invariant ∙ ap (λ (l : List ℕ). read (based r.piece.items r.header r.store) l) cut.1 ∙ piece_ended r.piece.items front behind r.header r.store cut.0
    ∙ ap (λ (l : List ℕ). read (ended l r.header r.store) behind) (sym c.in_ok-extend_from_slice.ensures.items) ∙ ap (λ stage. read stage behind) c.in_ok-reader.ensures

pub returns : goal.returns
returns c =
    let r = c.loop-front.reader in
    let rest = c.loop-front.rest.now in
    c.loop-front.invariant ∙ piece_on r.piece.items rest r.header r.store c.in_default.ensures ∙ ap (λ (l : List ℕ). based l r.header r.store) (sym c.in_ok-extend_from_slice-2.ensures.items)
