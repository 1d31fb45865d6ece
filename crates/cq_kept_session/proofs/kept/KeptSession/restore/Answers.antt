-- What was read is as it was, or one record is kept behind it.
use Rattle.std.proofs.Common.{◌∙◌, ℕ, List, [], ◌∷◌, ◌++◌, sym, ap, subst, arith}
use Rattle.std.specs.Prelude.{Bool, true, Result, Ok, Err, OnOk}
use Rattle.cq_kept_session.specs.Texts.{size_records}
use Rattle.cq_kept_session.specs.within.Begun.{HasBegun, IsFresh}
use Rattle.cq_kept_session.proofs.Openings.{size_records_short}
use Rattle.cq_kept_session.proofs.Restored.{cut_gets, ended_gets, fresh_gets, left_added, left_alone}
use Rattle.cq_kept_session.proofs.kept.KeptSession.restore.Goals as goal

on_any : {T E P Q : Type 0} (r : Result T E) → OnOk r P → (P → Q) → OnOk r Q
on_any (Ok x) p step = step p
on_any (Err e) p step = tt

on_all : {T E Q : Type 0} (r : Result T E) → Q → OnOk r Q
on_all (Ok x) q = q
on_all (Err e) q = tt

pub name_size-requires : goal.name_size-requires
name_size-requires g c = subst (λ (is : Bool). HasBegun c.run_kept.new.self is) c.if-is_new.true c.in_ok-is_new.ensures.begun

pub returns-then-is_new-clause-records : goal.returns-then-is_new-clause-records
returns-then-is_new-clause-records g c = λ honest.
    let old = c.args.self.now in
    let mid = c.run_kept.new.self in
    let rests = c.run_kept.ensures.rests in
    let is : IsFresh mid = subst (λ (is : Bool). HasBegun mid is) c.if-is_new.true c.in_ok-is_new.ensures.begun in
    c.in_ok-name_size.ensures.records ∙ ap (λ (rs : List (List ℕ)). rs ++ size_records mid.size) rests.records
    ∙ sym (fresh_gets old mid rests c.run_kept.ensures.size is (c.name_size.ensures.tries.honest honest))

pub returns-then-is_new-clause-any_moment : goal.returns-then-is_new-clause-any_moment
returns-then-is_new-clause-any_moment g c = λ honest.
    let old = c.args.self.now in
    let mid = c.run_kept.new.self in
    let rests = c.run_kept.ensures.rests in
    let tries = c.name_size.ensures.tries in
    let is : IsFresh mid = subst (λ (is : Bool). HasBegun mid is) c.if-is_new.true c.in_ok-is_new.ensures.begun in
    left_added old mid rests c.run_kept.ensures.size c.name_size.new.self (size_records mid.size) (size_records_short mid.size)
    (fresh_gets old mid rests c.run_kept.ensures.size is (tries.honest honest)) tries honest

pub returns-then-self-clause-kept : goal.returns-then-self-clause-kept
returns-then-self-clause-kept g c = subst (λ (is : Bool). HasBegun c.run_kept.new.self is) c.if-is_new.false c.in_ok-is_new.ensures.begun

pub returns-then-self-clause-records : goal.returns-then-self-clause-records
returns-then-self-clause-records g c = λ honest.
    let old = c.args.self.now in
    let mid = c.run_kept.new.self in
    let rests = c.run_kept.ensures.rests in
    let is = subst (λ (is : Bool). HasBegun mid is) c.if-is_new.false c.in_ok-is_new.ensures.begun in
    rests.records ∙ sym (ended_gets old mid rests c.run_kept.ensures.size is c.if-self.true honest)

pub returns-then-self-clause-any_moment : goal.returns-then-self-clause-any_moment
returns-then-self-clause-any_moment g c = λ honest. left_alone c.args.self.now c.run_kept.new.self c.run_kept.ensures.rests c.run_kept.ensures.size honest

pub end_line-requires : goal.end_line-requires
end_line-requires g c = subst (λ (is : Bool). HasBegun c.run_kept.new.self is) c.if-is_new.false c.in_ok-is_new.ensures.begun

pub returns-else-self-clause-records : goal.returns-else-self-clause-records
returns-else-self-clause-records g c = on_any c.end_line.result c.end_line.ensures.records (λ records honest.
    let old = c.args.self.now in
    let mid = c.run_kept.new.self in
    let rests = c.run_kept.ensures.rests in
    let is = subst (λ (is : Bool). HasBegun mid is) c.if-is_new.false c.in_ok-is_new.ensures.begun in
    records ∙ ap (λ (rs : List (List ℕ)). rs ++ (10 ∷ []) ∷ []) rests.records ∙ sym (cut_gets old mid rests c.run_kept.ensures.size is c.if-self.false (c.end_line.ensures.honest honest)))

pub returns-else-self-clause-any_moment : goal.returns-else-self-clause-any_moment
returns-else-self-clause-any_moment g c = on_all c.end_line.result (λ honest.
    let old = c.args.self.now in
    let mid = c.run_kept.new.self in
    let rests = c.run_kept.ensures.rests in
    let tries = c.end_line.ensures.tries in
    let is = subst (λ (is : Bool). HasBegun mid is) c.if-is_new.false c.in_ok-is_new.ensures.begun in
    left_added old mid rests c.run_kept.ensures.size c.end_line.new.self ((10 ∷ []) ∷ []) (omega arith)
    (cut_gets old mid rests c.run_kept.ensures.size is c.if-self.false (tries.honest honest)) tries honest)
