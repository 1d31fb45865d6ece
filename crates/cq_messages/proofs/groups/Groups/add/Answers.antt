-- The group is written in its place, or is new.
use Rattle.std.proofs.Common.{◌≡◌, ◌∙◌, ap, sym, Some, ◌∷◌, [], ◌++◌, List, ℕ, cond}
use Rattle.std.specs.Option.{is_some}
use Rattle.std.specs.Str.{bytes_eq}
use Rattle.cq_messages.specs.within.Groups.{group_at}
use Rattle.std.proofs.lemmas.Result.{on_ok_weaker, on_err_weaker}
use Rattle.cq_messages.proofs.GroupsAt.{handed-written, group-written, numbers-first, handed-first}
use Rattle.cq_messages.proofs.groups.Groups.add.Goals as goal

pub returns-in-Some-clause-handed : goal.returns-in-Some-clause-handed
returns-in-Some-clause-handed c = on_ok_weaker c.push.result (λ (h : c.push.new.self ≡ record { numbers = c.in-Some.kept.now.numbers ++ c.args.number ∷ []; handed = c.in-Some.kept.now.handed }). λ (g : List ℕ). let u = (c.get_mut.follows.holds c.push.new.self).3 (sym (ap is_some c.in-Some.ensures.value)) in
    (handed-written c.args.self.now (c.get_mut.follows.lender c.push.new.self).entries c.args.group.now g c.in-Some.kept.now c.push.new.self
    (sym (c.in-Some.ensures.value ∙ ap (λ es. group_at es c.args.group.now) c.self.view_is)) (ap (λ k. k.handed) h)
    (u.0 g ∙ ap (λ es. cond (bytes_eq c.args.group.now g) (Some c.push.new.self) (group_at es g)) c.self.view_is))) c.push.ensures.ok

pub returns-in-Some-clause-err : goal.returns-in-Some-clause-err
returns-in-Some-clause-err c = on_err_weaker c.push.result (λ (h : c.push.new.self ≡ c.in-Some.kept.now). λ (g : List ℕ). let u = (c.get_mut.follows.holds c.push.new.self).3 (sym (ap is_some c.in-Some.ensures.value)) in
    (group-written c.args.self.now (c.get_mut.follows.lender c.push.new.self).entries c.args.group.now g c.in-Some.kept.now c.push.new.self
    (sym (c.in-Some.ensures.value ∙ ap (λ es. group_at es c.args.group.now) c.self.view_is)) h
    (u.0 g ∙ ap (λ es. cond (bytes_eq c.args.group.now g) (Some c.push.new.self) (group_at es g)) c.self.view_is))) c.push.ensures.err

pub returns-in_ok-insert-in-None-clause-numbers : goal.returns-in_ok-insert-in-None-clause-numbers
returns-in_ok-insert-in-None-clause-numbers c = λ g. numbers-first c.args.self.now c.insert.new.self.entries c.args.group.now g c.args.number c.in_ok-kept-in-None.kept
    (sym (c.in-None.ensures.value ∙ ap (λ es. group_at es c.args.group.now) c.self.view_is)) (ap (λ k. k.numbers) c.in_ok-kept-in-None.ensures)
    (c.in_ok-insert-in-None.ensures.updates.0 g ∙ (ap (λ k. cond (bytes_eq k g) (Some c.in_ok-kept-in-None.kept) (group_at c.get_mut.follows.lender-at-none.entries g)) c.in_ok-try_copy-in-None.ensures) ∙ ap (λ m. cond (bytes_eq c.args.group.now g) (Some c.in_ok-kept-in-None.kept) (group_at m.entries g)) c.get_mut.follows.holds-at-none ∙ ap (λ es. cond (bytes_eq c.args.group.now g) (Some c.in_ok-kept-in-None.kept) (group_at es g)) c.self.view_is)

pub returns-in_ok-insert-in-None-clause-handed : goal.returns-in_ok-insert-in-None-clause-handed
returns-in_ok-insert-in-None-clause-handed c = λ g. handed-first c.args.self.now c.insert.new.self.entries c.args.group.now g c.in_ok-kept-in-None.kept
    (sym (c.in-None.ensures.value ∙ ap (λ es. group_at es c.args.group.now) c.self.view_is)) (ap (λ k. k.handed) c.in_ok-kept-in-None.ensures)
    (c.in_ok-insert-in-None.ensures.updates.0 g ∙ (ap (λ k. cond (bytes_eq k g) (Some c.in_ok-kept-in-None.kept) (group_at c.get_mut.follows.lender-at-none.entries g)) c.in_ok-try_copy-in-None.ensures) ∙ ap (λ m. cond (bytes_eq c.args.group.now g) (Some c.in_ok-kept-in-None.kept) (group_at m.entries g)) c.get_mut.follows.holds-at-none ∙ ap (λ es. cond (bytes_eq c.args.group.now g) (Some c.in_ok-kept-in-None.kept) (group_at es g)) c.self.view_is)
