use Rattle.std.proofs.Common.{refl}
use Rattle.cq_kept_base.proofs.laws.texts_are_stuffed_so.Goals as goal

pub returns : goal.returns
returns c = record { plain = refl; zeros = refl; ones_and_line_feeds = refl; cut_off = refl }
