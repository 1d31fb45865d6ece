-- The rows compute.
use Rattle.std.proofs.Common.{refl}
use Rattle.cq_records.specs.Examples.{Examples}

pub rows : Examples
rows = record { check = refl; frame = refl; blank = refl; two = refl; torn_text = refl; torn_length = refl; torn_sum = refl; torn_mark = refl; shut = refl; other_gate = refl; marked_text = refl; short = refl; rotten = refl; fresh = refl; torn = refl; mark_alone = refl; first_mark = refl; lost = refl; rotten_gate = refl; rotten_mark = refl; left = refl; closed = refl }
