-- A block whose least number is at most the limit has such a number.
use Rattle.std.proofs.Common.{◌≡◌, ◌<◌, ◌+◌, ◌*◌, ◌/◌, length, get_or, arith, ap}
use Rattle.cq_min_index.specs.declared.min_blocks.TheConstants.{BLOCK}
use Rattle.cq_min_index.specs.Firsts.{IsFirst}
use Rattle.cq_min_index.specs.within.Summaries.{IsLeastOf}
use Rattle.cq_min_index.proofs.min_blocks.MinBlocksMinSearch.first_at_most.Goals as goal

pub returns-clause-none : goal.returns-clause-none
returns-clause-none g c = λ no.
    let low = c.self.inside.low.items in
    let high = g.T.NumberList.numbers c.self.inside.high in
    let j = c.in_ok-block.block in
    let f : IsFirst high (c.args.from / BLOCK + 1) c.args.limit j = c.in_ok-block.ensures.found in
    let is_len : c.len-len.result ≡ length low = omega arith in
    let begun : BLOCK * j < length low = omega arith in
    let r = c.self.invariant.0.reached j begun in
    let w : IsLeastOf low j (get_or high j 0) r.0 = r.1 in
    let inside = w.inside in
    let within = w.within in
    let is = w.is in
    let same : get_or c.deref.result.now r.0 0 ≡ get_or low r.0 0 = ap (λ xs. get_or xs r.0 0) c.deref.ensures.value in
    let long : length c.deref.result.now ≡ length low = ap length c.deref.ensures.value in
    let above : c.args.limit < get_or c.deref.result.now r.0 0 = c.first_in.ensures.none no r.0 (omega arith) (omega arith) (omega arith) in
    let found = f.found in
    absurd (omega arith)
