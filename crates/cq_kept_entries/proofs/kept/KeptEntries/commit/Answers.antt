-- What was added is one record behind the others, or there was nothing.
use Rattle.std.proofs.Common.{◌≡◌, List, ℕ, [], ◌++◌, sym, ◌∙◌, ap, subst}
use Rattle.cq_journal.specs.Changes.{adds}
use Rattle.cq_journal.specs.Histories.{Tries}
use Rattle.cq_journal.proofs.Appends.{none_at_rest}
use Rattle.cq_kept_entries.specs.Kept.{added_records, kept_records}
use Rattle.cq_kept_entries.proofs.Added.{kept_on, moments_stand, no_bytes, no_records, same_text, some_bytes, stands_on}
use Rattle.cq_kept_entries.proofs.kept.KeptEntries.commit.Goals as goal

pub returns-then-is_empty-clause-stands : goal.returns-then-is_empty-clause-stands
returns-then-is_empty-clause-stands g c =
    let k = c.args.self.now in
    let none : k.text.items ≡ [] = sym c.as_slice.ensures.value ∙ no_bytes c.as_slice.result.now (sym c.is_empty.ensures ∙ c.if-is_empty.true) in
    stands_on k k.journal c.requires (no_records k none) (λ honest. honest)

pub returns-then-is_empty-clause-tries : goal.returns-then-is_empty-clause-tries
returns-then-is_empty-clause-tries g c =
    let k = c.args.self.now in
    record { honest = λ honest. honest; moments = λ honest. none_at_rest k.journal (added_records k) (λ f. g.met.D.Device.only_now k.journal.root.log.device.device f) c.requires.journal.regions honest }

pub returns-then-is_empty-clause-any_moment : goal.returns-then-is_empty-clause-any_moment
returns-then-is_empty-clause-any_moment g c =
    let k = c.args.self.now in
    moments_stand k k.journal c.requires
    (record { honest = λ honest. honest; moments = λ honest. none_at_rest k.journal (added_records k) (λ f. g.met.D.Device.only_now k.journal.root.log.device.device f) c.requires.journal.regions honest })

pub returns-in_err-append_record-clause-any_moment : goal.returns-in_err-append_record-clause-any_moment
returns-in_err-append_record-clause-any_moment g c =
    let k = c.args.self.now in
    let some = some_bytes c.as_slice.result.now (sym c.is_empty.ensures ∙ c.if-is_empty.false) in
    let same = same_text c.deref.result.now k.text.items c.deref.ensures.value (λ none. some (c.as_slice.ensures.value ∙ none)) in
    moments_stand k c.append_record.new.journal c.requires (subst (λ (rs : List (List ℕ)). Tries (adds rs) k.journal c.append_record.new.journal) same c.append_record.ensures.tries)

pub returns-clause-tries : goal.returns-clause-tries
returns-clause-tries g c =
    let k = c.args.self.now in
    let some = some_bytes c.as_slice.result.now (sym c.is_empty.ensures ∙ c.if-is_empty.false) in
    let same = same_text c.deref.result.now k.text.items c.deref.ensures.value (λ none. some (c.as_slice.ensures.value ∙ none)) in
    subst (λ (rs : List (List ℕ)). Tries (adds rs) k.journal c.append_record.new.journal) same c.append_record.ensures.tries

pub returns-clause-any_moment : goal.returns-clause-any_moment
returns-clause-any_moment g c =
    let k = c.args.self.now in
    let some = some_bytes c.as_slice.result.now (sym c.is_empty.ensures ∙ c.if-is_empty.false) in
    let same = same_text c.deref.result.now k.text.items c.deref.ensures.value (λ none. some (c.as_slice.ensures.value ∙ none)) in
    moments_stand k c.append_record.new.journal c.requires (subst (λ (rs : List (List ℕ)). Tries (adds rs) k.journal c.append_record.new.journal) same c.append_record.ensures.tries)

pub returns-clause-kept : goal.returns-clause-kept
returns-clause-kept g c =
    let k = c.args.self.now in
    let some = some_bytes c.as_slice.result.now (sym c.is_empty.ensures ∙ c.if-is_empty.false) in
    let same = same_text c.deref.result.now k.text.items c.deref.ensures.value (λ none. some (c.as_slice.ensures.value ∙ none)) in
    kept_on k _ c.requires c.in_ok-append_record.ensures.journal (c.in_ok-append_record.ensures.records ∙ ap (λ (rs : List (List ℕ)). kept_records k ++ rs) same) c.append_record.ensures.tries.honest c.clear.ensures.items

pub returns-clause-stands : goal.returns-clause-stands
returns-clause-stands g c =
    let k = c.args.self.now in
    let some = some_bytes c.as_slice.result.now (sym c.is_empty.ensures ∙ c.if-is_empty.false) in
    let same = same_text c.deref.result.now k.text.items c.deref.ensures.value (λ none. some (c.as_slice.ensures.value ∙ none)) in
    stands_on k c.append_record.new.journal c.requires (c.in_ok-append_record.ensures.records ∙ ap (λ (rs : List (List ℕ)). kept_records k ++ rs) same) c.append_record.ensures.tries.honest
