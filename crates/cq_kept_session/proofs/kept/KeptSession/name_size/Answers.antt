-- The record is kept, or none is missing.
use Rattle.std.proofs.Common.{◌≡◌, ◌∙◌, ℕ, List, ◌∷◌, [], ◌++◌, sym, ap, subst, append-nil}
use Rattle.std.specs.Prelude.{false, nat_eq}
use Rattle.cq_journal.specs.Changes.{adds}
use Rattle.cq_journal.specs.Histories.{Tries}
use Rattle.cq_journal.proofs.Appends.{none_at_rest}
use Rattle.cq_records.specs.Frames.{is_text}
use Rattle.cq_kept_session.specs.Kept.{kept_records}
use Rattle.cq_kept_session.specs.Texts.{size_records}
use Rattle.cq_kept_session.proofs.Beginnings.{begun_alone, begun_sized}
use Rattle.cq_kept_session.proofs.Openings.{size_is_text, sized_alone, sized_several}
use Rattle.cq_kept_session.proofs.Readings.{is_one, other_byte}
use Rattle.cq_kept_session.proofs.kept.KeptSession.name_size.Goals as goal

pub keep-requires : goal.keep-requires
keep-requires g c =
    let size = c.args.self.now.size in
    record { journal = c.requires.journal; text = ap is_text c.size_text-text.ensures ∙ size_is_text size }

pub returns-then-get-eq1-clause-kept : goal.returns-then-get-eq1-clause-kept
returns-then-get-eq1-clause-kept g c =
    let k = c.args.self.now in
    begun_alone k c.requires (is_one k.size c.get.result c.get.ensures.value c.if-get-eq1.true)

pub returns-then-get-eq1-clause-records : goal.returns-then-get-eq1-clause-records
returns-then-get-eq1-clause-records g c =
    let k = c.args.self.now in
    let none : size_records k.size ≡ [] = sized_alone k.size (is_one k.size c.get.result c.get.ensures.value c.if-get-eq1.true) in
    sym (ap (λ (more : List (List ℕ)). kept_records k ++ more) none ∙ append-nil (kept_records k))

pub returns-then-get-eq1-clause-tries : goal.returns-then-get-eq1-clause-tries
returns-then-get-eq1-clause-tries g c =
    let k = c.args.self.now in
    record { honest = λ honest. honest; moments = λ honest. none_at_rest k.journal (size_records k.size) (λ f. g.met.D.Device.only_now k.journal.root.log.device.device f) c.requires.journal.regions honest }

pub returns-clause-kept : goal.returns-clause-kept
returns-clause-kept g c =
    let old = c.args.self.now in
    let e = c.keep.ensures in
    let ok = c.in_ok-keep.ensures in
    begun_sized old c.keep.new.self c.requires e.tries.honest ok.journal (ok.records ∙ ap (λ (text : List ℕ). kept_records old ++ text ∷ []) c.size_text-text.ensures) e.same.0 e.same.1 e.same.2

pub returns-clause-records : goal.returns-clause-records
returns-clause-records g c =
    let old = c.args.self.now in
    let more : nat_eq old.size 1 ≡ false = other_byte old.size 1 (λ same. c.if-get-eq1.false (c.get.ensures.value ∙ same)) in
    c.in_ok-keep.ensures.records ∙ ap (λ (text : List ℕ). kept_records old ++ text ∷ []) c.size_text-text.ensures
    ∙ ap (λ (rs : List (List ℕ)). kept_records old ++ rs) (sym (sized_several old.size more))

pub returns-clause-tries : goal.returns-clause-tries
returns-clause-tries g c =
    let old = c.args.self.now in
    let more : nat_eq old.size 1 ≡ false = other_byte old.size 1 (λ same. c.if-get-eq1.false (c.get.ensures.value ∙ same)) in
    subst (λ rs. Tries (adds rs) old.journal c.keep.new.self.journal) (ap (λ (text : List ℕ). text ∷ []) c.size_text-text.ensures ∙ sym (sized_several old.size more)) c.keep.ensures.tries

pub returns-in_err-keep-clause-tries : goal.returns-in_err-keep-clause-tries
returns-in_err-keep-clause-tries g c =
    let old = c.args.self.now in
    let more : nat_eq old.size 1 ≡ false = other_byte old.size 1 (λ same. c.if-get-eq1.false (c.get.ensures.value ∙ same)) in
    subst (λ rs. Tries (adds rs) old.journal c.keep.new.self.journal) (ap (λ (text : List ℕ). text ∷ []) c.size_text-text.ensures ∙ sym (sized_several old.size more)) c.keep.ensures.tries
