-- The group is written in its place.
use Rattle.std.proofs.Common.{◌≤◌, ◌∙◌, ap, sym, subst, arith, Some, cond}
use Rattle.std.specs.Option.{is_some}
use Rattle.std.specs.Str.{bytes_eq}
use Rattle.cq_messages.specs.within.Groups.{group_at, numbers_at, handed_at}
use Rattle.cq_messages.proofs.GroupsAt.{numbers-written, raised-written, either_same}
use Rattle.cq_messages.proofs.groups.Groups.raise.Goals as goal
use Rattle.cq_messages.proofs.groups.Groups.raise.Goals.{in-Some, in-None}

pub returns-clause-numbers : goal.returns-clause-numbers
returns-clause-numbers c = λ g. elim c.match-get_mut.branch [
  | in-Some w ↦ rw w.self-inside-is (let u = (c.get_mut.follows.holds w.raise.new.self).3 (sym (ap is_some w.in-Some.ensures.value)) in
      either_same _ _ _ (numbers-written c.args.self.now (c.get_mut.follows.lender w.raise.new.self).entries c.args.group.now g w.in-Some.kept.now w.raise.new.self (λ xs. xs)
      (sym (w.in-Some.ensures.value ∙ ap (λ es. group_at es c.args.group.now) c.self.view_is)) (ap (λ k. k.numbers) w.raise.ensures)
      (u.0 g ∙ ap (λ es. cond (bytes_eq c.args.group.now g) (Some w.raise.new.self) (group_at es g)) c.self.view_is)))
  | in-None w ↦ rw w.self-inside-is (ap (λ m. numbers_at m.entries g) c.get_mut.follows.holds-at-none ∙ ap (λ es. numbers_at es g) c.self.view_is)
]

pub returns-clause-others : goal.returns-clause-others
returns-clause-others c = λ g. elim c.match-get_mut.branch [
  | in-Some w ↦ rw w.self-inside-is (let u = (c.get_mut.follows.holds w.raise.new.self).3 (sym (ap is_some w.in-Some.ensures.value)) in
      (raised-written c.args.self.now (c.get_mut.follows.lender w.raise.new.self).entries c.args.group.now g w.in-Some.kept.now w.raise.new.self
      (sym (w.in-Some.ensures.value ∙ ap (λ es. group_at es c.args.group.now) c.self.view_is)) (rw (ap (λ k. k.handed) w.raise.ensures) (omega arith))
      (u.0 g ∙ ap (λ es. cond (bytes_eq c.args.group.now g) (Some w.raise.new.self) (group_at es g)) c.self.view_is)))
  | in-None w ↦ rw w.self-inside-is (subst (λ k. handed_at c.args.self.now g ≤ k) (sym (ap (λ m. handed_at m.entries g) c.get_mut.follows.holds-at-none ∙ ap (λ es. handed_at es g) c.self.view_is)) (omega arith))
]
