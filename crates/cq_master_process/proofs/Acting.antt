-- An answer as a list of actions.
use Rattle.std.proofs.Common.{ℕ, List, [], ◌∷◌, map, Some, None, Result, Ok, Err, inl, inr}
use Rattle.cq_base.specs.declared.party.Party.TheVariants as parties
use Rattle.cq_events.specs.Actions.{Action, Took, Detected, Joined}
use Rattle.cq_frames.specs.declared.command.Command.{Command}
use Rattle.cq_frames.specs.declared.command.Command.TheVariants as commands
use Rattle.cq_frames.specs.Reading.{command_at}
use Rattle.cq_master_process.specs.declared.process.MasterProcess.{MasterProcess}
use Rattle.cq_master_process.specs.Answering.{AnswersRead}
use Rattle.cq_master_process.specs.Cores.{ActsAll, alone}
use Rattle.cq_master_process.specs.Laws.{AreActions}
use Rattle.cq_master_process.specs.Putting.{Sent, action_of}
use Rattle.cq_master_process.specs.Steps.{Does, Keeps}
use Rattle.cq_master_process.proofs.Cores.{acts-both, keeps-alone}
use Rattle.cq_wire.specs.declared.fault.WireFault.{WireFault}
use Rattle.cq_wire.specs.Reading.{whole_at}

-- there are such actions
abbrev Acted : MasterProcess → MasterProcess → Type 0
Acted p q = (actions : List Action) × ActsAll actions p.core q.core

-- nothing was done
none-acted : (p q : MasterProcess) → Keeps p q → Acted p q
none-acted p q keeps = ([], keeps-alone p.core q.core keeps.core)

-- a command, and the turns behind it
command-acts : (p mid q : MasterProcess) (command : Command) (xs : List Sent) → Does p command mid → ActsAll (map action_of xs) mid.core q.core → Acted p q
command-acts p mid q (commands.Arrive stream clock request) xs h k = absurd h
command-acts p mid q (commands.Ask query) xs h k = absurd h
command-acts p mid q (commands.Take parties.Master number piece) xs h k = absurd h
command-acts p mid q (commands.Take parties.Clients number piece) xs h k = absurd h
command-acts p mid q (commands.Take (parties.Server from) number piece) xs h k = (Took (parties.Server from) h.message ∷ map action_of xs, (alone mid.core, h.takes.done, k))
command-acts p mid q (commands.Detect server) xs h k = (Detected server ∷ map action_of xs, (alone mid.core, h.done, k))
command-acts p mid q (commands.Join server) xs h k = (Joined server ∷ map action_of xs, (alone mid.core, h.done, k))
command-acts p mid q (commands.More to) xs h k = (map action_of xs, acts-both [] xs (alone p.core) (alone mid.core) (alone q.core) (keeps-alone p.core mid.core h.core) k)
command-acts p mid q (commands.Gone server) xs h k = (map action_of xs, acts-both [] xs (alone p.core) (alone mid.core) (alone q.core) (keeps-alone p.core mid.core h.core) k)
command-acts p mid q commands.Save xs h k = absurd h
command-acts p mid q (commands.Load chunk) xs h k = absurd h

read-acts : (p q : MasterProcess) (read : Result Command WireFault) (told : List ℕ) → AnswersRead p read told q → Acted p q
read-acts p q (Ok command) told (inl h) = none-acted p q h.keeps
read-acts p q (Ok command) told (inr h) = command-acts p h.mid q command h.turns.messages h.done h.turns.puts.done
read-acts p q (Err fault) told h = none-acted p q h.keeps

pub answers-act : AreActions
answers-act p q None told h = none-acted p q h.keeps
answers-act p q (Some bytes) told (inl h) = none-acted p q h.keeps
answers-act p q (Some bytes) told (inr h) = read-acts p q (whole_at command_at bytes) told h
