-- What a server does of itself, beside the messages that are held at the ends of its links.
use Rattle.std.specs.Prelude.{Option}
use Rattle.cq_base.specs.declared.party.Party.{Party}
use Rattle.cq_chain.specs.declared.message.Message.{Message}
use Rattle.cq_chain.specs.declared.server.Server.{Server}
use Rattle.cq_events.specs.Actions.{Action}
use Rattle.cq_events.specs.Acts.{Acts}

-- The server does that and doesn't refuse it, and what is held stays.
abbrev pub ActsBeside : Action → Server → Server → (Party → Option Message) → Type 0
ActsBeside action old new back = Acts action (record { core = old; back = back }) (record { core = new; back = back })
