-- By whether another member follows.
use Rattle.std.proofs.Common.{◌≤◌, ◌+◌, length, arith}
use Rattle.cq_chain.proofs.Neighbours.{closing-at_end}
use Rattle.cq_chain.proofs.master.neighbours.closing_at.Goals as goal

pub returns-else-i-chain : goal.returns-else-i-chain
returns-else-i-chain c = λ p b rest h. let few : length c.args.chain.now ≤ c.args.i + 2 = omega arith in
    closing-at_end c.args.chain.now c.args.i c.index-chain-i.result p b rest few c.index-chain-i.is h
