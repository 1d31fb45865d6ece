-- What was added for each kind of byte.
use Rattle.std.proofs.Common.{ℕ, [], ◌∷◌, sym, ◌∙◌, ap}
use Rattle.std.specs.Prelude.{replicate}
use Rattle.cq_kept_base.proofs.Escapes.{escape_stuff, line_feed_stuff, one_stuff, zeros_parts, zeros_stuff}
use Rattle.cq_kept_base.proofs.stuffing.push_first.Goals as goal

pub returns-in_ok-extend_from_slice-in-0-clause-stuffs : goal.returns-in_ok-extend_from_slice-in-0-clause-stuffs
returns-in_ok-extend_from_slice-in-0-clause-stuffs c =
    let more = c.zeros_in_front-more.result in
    let behind = c.args.behind.now in (
      0 ∷ replicate more 0,
      zeros_parts more behind c.split_at.result.1.now c.zeros_in_front-more.ensures.zeros c.split_at.ensures.back ∙ ap (λ (b : ℕ). b ∷ behind) (sym c.in-0.is),
      zeros_stuff c.args.text.now.items c.extend_from_slice.new.self.items more c.in_ok-extend_from_slice-in-0.ensures.items,
    )

pub returns-in_ok-extend_from_slice-in-1-clause-stuffs : goal.returns-in_ok-extend_from_slice-in-1-clause-stuffs
returns-in_ok-extend_from_slice-in-1-clause-stuffs c =
    (1 ∷ [], ap (λ (b : ℕ). b ∷ c.args.behind.now) (sym c.in-1.is), one_stuff c.args.text.now.items c.extend_from_slice-in-1.new.self.items c.in_ok-extend_from_slice-in-1.ensures.items)

pub returns-in_ok-extend_from_slice-in-10-clause-stuffs : goal.returns-in_ok-extend_from_slice-in-10-clause-stuffs
returns-in_ok-extend_from_slice-in-10-clause-stuffs c =
    (10 ∷ [], ap (λ (b : ℕ). b ∷ c.args.behind.now) (sym c.in-10.is), line_feed_stuff c.args.text.now.items c.extend_from_slice-in-10.new.self.items c.in_ok-extend_from_slice-in-10.ensures.items)

pub returns-in_ok-extend_from_slice-in-3-clause-stuffs : goal.returns-in_ok-extend_from_slice-in-3-clause-stuffs
returns-in_ok-extend_from_slice-in-3-clause-stuffs c =
    (3 ∷ [], ap (λ (b : ℕ). b ∷ c.args.behind.now) (sym c.in-3.is), escape_stuff c.args.text.now.items c.extend_from_slice-in-3.new.self.items c.in_ok-extend_from_slice-in-3.ensures.items)
