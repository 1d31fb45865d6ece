-- The group is written in its place.
use Rattle.std.proofs.Common.{◌∙◌, ap, sym, Some, cond}
use Rattle.std.specs.Option.{is_some}
use Rattle.std.specs.Str.{bytes_eq}
use Rattle.cq_messages.specs.within.Groups.{group_at, numbers_at, handed_at, without}
use Rattle.cq_messages.proofs.GroupsAt.{numbers-written, handed-written, numbers-missing}
use Rattle.cq_messages.proofs.groups.Groups.shrink.Goals as goal
use Rattle.cq_messages.proofs.groups.Groups.shrink.Goals.{in-Some, in-None}

pub returns-clause-numbers : goal.returns-clause-numbers
returns-clause-numbers c = λ g. elim c.match-get_mut.branch [
  | in-Some w ↦ rw w.self-inside-is (let u = (c.get_mut.follows.holds w.take_out.new.self).3 (sym (ap is_some w.in-Some.ensures.value)) in
      (numbers-written c.args.self.now (c.get_mut.follows.lender w.take_out.new.self).entries c.args.group.now g w.in-Some.kept.now w.take_out.new.self (without c.args.number)
      (sym (w.in-Some.ensures.value ∙ ap (λ es. group_at es c.args.group.now) c.self.view_is)) (ap (λ k. k.numbers) w.take_out.ensures.group)
      (u.0 g ∙ ap (λ es. cond (bytes_eq c.args.group.now g) (Some w.take_out.new.self) (group_at es g)) c.self.view_is)))
  | in-None w ↦ rw w.self-inside-is (ap (λ m. numbers_at m.entries g) c.get_mut.follows.holds-at-none ∙ ap (λ es. numbers_at es g) c.self.view_is ∙ numbers-missing c.args.self.now c.args.group.now g c.args.number (sym (w.in-None.ensures.value ∙ ap (λ es. group_at es c.args.group.now) c.self.view_is)))
]

pub returns-clause-handed : goal.returns-clause-handed
returns-clause-handed c = λ g. elim c.match-get_mut.branch [
  | in-Some w ↦ rw w.self-inside-is (let u = (c.get_mut.follows.holds w.take_out.new.self).3 (sym (ap is_some w.in-Some.ensures.value)) in
      (handed-written c.args.self.now (c.get_mut.follows.lender w.take_out.new.self).entries c.args.group.now g w.in-Some.kept.now w.take_out.new.self
      (sym (w.in-Some.ensures.value ∙ ap (λ es. group_at es c.args.group.now) c.self.view_is)) (ap (λ k. k.handed) w.take_out.ensures.group)
      (u.0 g ∙ ap (λ es. cond (bytes_eq c.args.group.now g) (Some w.take_out.new.self) (group_at es g)) c.self.view_is)))
  | in-None w ↦ rw w.self-inside-is (ap (λ m. handed_at m.entries g) c.get_mut.follows.holds-at-none ∙ ap (λ es. handed_at es g) c.self.view_is)
]
