-- Why a start was refused.
use Rattle.std.proofs.Common.{◌≡◌, List, ℕ, [], ◌∷◌, ◌++◌, take, drop, refl, sym, ◌∙◌, ap, subst, append_assoc}
use Rattle.std.proofs.lemmas.List.{take-append-drop}
use Rattle.cq_base.specs.declared.ask.Entry.{Entry}
use Rattle.std.specs.Prelude.{IsTrue}
use Rattle.cq_disk.specs.declared.device.Device.{Ghosts}
use Rattle.cq_journal.specs.declared.journal.Journal.{Journal}
use Rattle.cq_journal.specs.Intact.{IsIntact}
use Rattle.cq_journal.specs.Journal.{journal_device, journal_half, region_len}
use Rattle.cq_journal.specs.Regions.{all_records}
use Rattle.cq_journal.specs.Rests.{Rests}
use Rattle.cq_journal.specs.declared.fault.OpenFault.{OpenFault}
use Rattle.cq_journal.specs.declared.fault.OpenFault.TheVariants as opens
use Rattle.cq_journal.specs.declared.fault.RegionFault.{RegionFault}
use Rattle.cq_journal.specs.declared.fault.RegionFault.TheVariants as regions
use Rattle.cq_records.specs.Frames.{joined}
use Rattle.cq_records.proofs.Frames.{joined_append}
use Rattle.cq_wire.specs.declared.fault.ReadFault.{ReadFault}
use Rattle.cq_wire.specs.declared.fault.ReadFault.TheVariants as reads
use Rattle.cq_kept_entries.specs.declared.fault.StartFault.{StartFault}
use Rattle.cq_kept_entries.specs.declared.fault.StartFault.TheVariants as faults
use Rattle.cq_kept_entries.specs.Faults.{HasOpenReason, HasReason, HasRegionReason, IsOfCall, start_fault_of_read}
use Rattle.cq_kept_entries.specs.Pieces.{AreOf, AreTaken, At, MeansAt, read, start}
use Rattle.cq_kept_entries.specs.within.Readers.{IfBad, IsRefused}
use Rattle.cq_kept_entries.proofs.Readings.{read_both}

pub region_reason : (f : RegionFault) {A : Type 0} → ((place : ℕ) → f ≡ regions.Damaged place → A → ⊥) → HasRegionReason f A
region_reason (regions.Damaged place) why = why place refl
region_reason regions.NoMemory why = tt
region_reason regions.Failed why = tt

pub read_reason : (A B : Type 0) (f : ReadFault) → IfBad f (B → ⊥) → HasReason (start_fault_of_read f) A B
read_reason A B reads.NoMemory why = tt
read_reason A B (reads.Bad g) why = why

pub call_reason : (A B : Type 0) (f : StartFault) → IsOfCall f → HasReason f A B
call_reason A B (faults.Open f) is = absurd is
call_reason A B (faults.Read f) is = absurd is
call_reason A B faults.NoEntries is = absurd is
call_reason A B faults.NoMemory is = tt
call_reason A B (faults.Write f) is = tt

open_on : (f : OpenFault) {A C : Type 0} → (A → C) → HasOpenReason f C → HasOpenReason f A
open_on opens.NoJournal back why = λ a. why (back a)
open_on opens.Damaged back why = λ a. why (back a)
open_on opens.Full back why = tt
open_on opens.NoMemory back why = tt
open_on opens.Failed back why = tt

region_on : (f : RegionFault) {A C : Type 0} → (A → C) → HasRegionReason f C → HasRegionReason f A
region_on (regions.Damaged place) back why = λ a. why (back a)
region_on regions.NoMemory back why = tt
region_on regions.Failed back why = tt

-- by what follows of more
pub reason_on : (f : StartFault) {A B C E : Type 0} → (A → C) → (B → E) → HasReason f C E → HasReason f A B
reason_on (faults.Open f) one two why = open_on f one why
reason_on (faults.Read f) one two why = region_on f one why
reason_on faults.NoEntries one two why = λ b. why (two b)
reason_on faults.NoMemory one two why = tt
reason_on (faults.Write f) one two why = tt

pub open_reason : {D : Type 0} (H : D → Type 0) (A B : Type 0) (f : OpenFault) (any : D) → (f ≡ opens.Damaged → (last : D) × (H last → A → ⊥)) → (f ≡ opens.NoJournal → (last : D) × (H last → A → ⊥)) → (last : D) × (H last → HasReason (faults.Open f) A B)
open_reason H A B opens.NoJournal any damaged nothing = nothing refl
open_reason H A B opens.Damaged any damaged nothing = damaged refl
open_reason H A B opens.Full any damaged nothing = (any, λ honest. tt)
open_reason H A B opens.NoMemory any damaged nothing = (any, λ honest. tt)
open_reason H A B opens.Failed any damaged nothing = (any, λ honest. tt)

-- ---- the regions behind those that were read

all_append : (xs ys : List (List (List ℕ))) → all_records (xs ++ ys) ≡ all_records xs ++ all_records ys
all_append [] ys = refl
all_append (x ∷ xs) ys = ap (λ (rs : List (List ℕ)). x ++ rs) (all_append xs ys) ∙ sym (append_assoc x (all_records xs) (all_records ys))

regions_both : (regions : List (List (List ℕ))) (n : ℕ) → joined (all_records regions) ≡ joined (all_records (take n regions)) ++ joined (all_records (drop n regions))
regions_both regions n =
    ap (λ (rs : List (List (List ℕ))). joined (all_records rs)) (sym (take-append-drop n regions)) ∙ ap joined (all_append (take n regions) (drop n regions))
    ∙ joined_append (all_records (take n regions)) (all_records (drop n regions))

-- where the first ones are refused, so are all
pub front_refused : (regions : List (List (List ℕ))) (n : ℕ) (kept : List ℕ) (all : List Entry) → joined (all_records regions) ≡ kept → IsRefused (read start (joined (all_records (take n regions)))) → AreOf kept all → AreTaken all → ⊥
front_refused regions n kept all is never are taken =
    let front = joined (all_records (take n regions)) in
    let behind = joined (all_records (drop n regions)) in
    never behind all (subst (λ (a : At). MeansAt a all) (ap (λ (l : List ℕ). read start l) (sym is ∙ regions_both regions n) ∙ read_both start front behind) are) taken

-- ---- bytes that stay intact

pub still_intact : {D : Type 0} {g : Ghosts D} (a b : Journal D g) → Rests a b → IsTrue (g.is_honest (journal_device b)) → IsIntact (journal_half a) (region_len a) (g.seen (journal_device a)) → IsIntact (journal_half b) (region_len b) (g.seen (journal_device b))
still_intact {D} {g} a b rests honest intact =
    subst (λ half. IsIntact half (region_len b) (g.seen (journal_device b))) (sym rests.half)
    (subst (λ len. IsIntact (journal_half a) len (g.seen (journal_device b))) (sym rests.len) (rests.stays honest intact))
