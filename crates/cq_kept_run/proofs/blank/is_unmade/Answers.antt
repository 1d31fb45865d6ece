-- By the record of the half, and what stands behind it.
use Rattle.std.proofs.Common.{◌≡◌, ◌∙◌, List, ℕ, None, Some, rules, sym, ap}
use Rattle.std.specs.Prelude.{IsErrOf, IsTrue}
use Rattle.cq_disk.specs.Region.{part}
use Rattle.cq_records.specs.Frames.{all_sound, frames}
use Rattle.cq_records.specs.declared.fault.ReadFault.TheVariants.{Damaged}
use Rattle.cq_journal.specs.Found.{items_of}
use Rattle.cq_journal.specs.Roots.{half_of}
use Rattle.cq_kept_run.specs.declared.sizes.TheConstants.{HALF}
use Rattle.cq_kept_run.proofs.Zeros.{damaged_made, no_unmade, yes_unmade}
use Rattle.cq_kept_run.proofs.blank.is_unmade.Goals as goal

pub returns-in-Ok-None-clause-yes : goal.returns-in-Ok-None-clause-yes
returns-in-Ok-None-clause-yes g c =
    let seen = g.D.Device.seen c.args.region.now.device in
    yes_unmade c.is_blank_from.result (IsTrue (g.D.Device.is_honest c.is_blank_from.new.device)) HALF seen _ c.read_half.ensures.seen
    (λ honest. (λ i. half_of (sym c.requires.begin.0 i) (sym c.requires.begin.1 i) seen) ∙ c.in-Ok-None.ensures.half (c.is_blank_from.ensures.honest honest) ∙ ap items_of c.in-Ok-None.field-0-is) c.is_blank_from.ensures.blank

pub returns-in-Ok-None-clause-no : goal.returns-in-Ok-None-clause-no
returns-in-Ok-None-clause-no g c =
    no_unmade c.is_blank_from.result (IsTrue (g.D.Device.is_honest c.is_blank_from.new.device)) HALF (g.D.Device.seen c.args.region.now.device) _ c.read_half.ensures.seen c.is_blank_from.ensures.blank

pub returns-in-Ok-Some-clause-no : goal.returns-in-Ok-Some-clause-no
returns-in-Ok-Some-clause-no g c = λ honest no it.
    let seen = g.D.Device.seen c.args.region.now.device in
    let both = sym (ap items_of c.in-Ok-Some.field-0-is) ∙ sym (c.in-Ok-Some.ensures.half honest) ∙ (λ i. half_of (c.requires.begin.0 i) (c.requires.begin.1 i) seen) ∙ it.rootless in cc

pub returns-in-Err-Damaged-clause-no : goal.returns-in-Err-Damaged-clause-no
returns-in-Err-Damaged-clause-no g c = λ honest no it.
    let seen = g.D.Device.seen c.args.region.now.device in
    let is : IsErrOf c.read_half.result Damaged = search rules in
    damaged_made HALF seen ((λ i. all_sound (frames (part (sym c.requires.begin.0 i) (sym c.requires.begin.1 i) seen))) ∙ c.read_half.ensures.damaged is honest) it
