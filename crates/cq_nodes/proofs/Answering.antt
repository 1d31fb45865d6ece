-- Answers that are put on the links to the clients.
use Rattle.std.proofs.Common.{◌≡◌, ◌∙◌, ap, sym, refl, subst, List, ◌++◌, true, false, Option, Some, None}
use Rattle.cq_base.specs.declared.party.Party.{Party}
use Rattle.cq_base.specs.declared.party.Party.TheVariants as parties
use Rattle.cq_chain.specs.declared.message.Message as rust
use Rattle.cq_chain.specs.declared.server.Server as rust_server
use Rattle.cq_nodes.specs.declared.ends.Out.{Out}
use Rattle.cq_nodes.specs.declared.ends.ToClients.{ToClients}
use Rattle.cq_nodes.specs.Ends.{with_back, back_of, if_for}
use Rattle.cq_nodes.specs.Moves.{Passes, PutsToOne}
use Rattle.cq_nodes.proofs.Moving.{put-done}
use Rattle.cq_events.specs.Acts.{Acts}
use Rattle.cq_events.specs.Actions.{Put, StandsAs, Keeps}

-- what is kept for the clients takes the place of what was
back_clients : {P : Type 0} (outs : List (Out P)) (before after : Option rust.Message) (p : Party) → with_back (back_of outs before) parties.Clients after p ≡ back_of outs after p
back_clients outs before after parties.Master = refl
back_clients outs before after parties.Clients = refl
back_clients outs before after (parties.Server id) = refl

module _ {P : Type 0} (list : P → List rust.Message) (old new : rust_server.Server) (outs : List (Out P)) (before after : ToClients P) where
  -- the first answer was put
  pub answer_put : (m : rust.Message) → Passes old new (back_of outs before.kept) parties.Clients (Some m) → after.kept ≡ None → list after.first ≡ list before.first ++ if_for false m → list after.second ≡ list before.second ++ if_for true m
      → PutsToOne list old new outs before after
  answer_put m passes none firsts seconds = record {
    message = m;
    done = subst (λ back. Acts (Put parties.Clients m) (record { core = old; back = back_of outs before.kept }) (record { core = new; back = back })) (λ i p. (back_clients outs before.kept None p ∙ ap (λ kept. back_of outs kept p) (sym none)) i)
        (put-done old new (back_of outs before.kept) parties.Clients m passes);
    firsts = firsts;
    seconds = seconds;
  }

-- none was put
pub answer_kept : {P : Type 0} (old new : rust_server.Server) (outs : List (Out P)) (before after kept : Option rust.Message) → Passes old new (back_of outs before) parties.Clients kept → after ≡ kept
    → Keeps StandsAs (record { core = old; back = back_of outs before }) (record { core = new; back = back_of outs after })
answer_kept old new outs before after kept passes is = subst (λ back. Keeps StandsAs (record { core = old; back = back_of outs before }) (record { core = new; back = back })) (λ i p. (back_clients outs before kept p ∙ ap (λ k. back_of outs k p) (sym is)) i) passes
