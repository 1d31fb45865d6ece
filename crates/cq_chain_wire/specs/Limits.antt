-- Which messages have bytes: all that the type has but snapshots.
use Rattle.std.specs.Prelude.{◌<◌, ◌^◌, ⊤}
use Rattle.cq_chain.specs.declared.message.Answer.{Answer}
use Rattle.cq_chain.specs.declared.message.Message.{Message}
use Rattle.cq_chain.specs.declared.message.Message.TheVariants as kinds
use Rattle.cq_wire.specs.Limits.{IfThere, IsServer, IsEntry, IsReply}

abbrev pub IsAnswer : Answer → Type 0
IsAnswer a = (a.client < 2 ^ 32) × ((a.number < 2 ^ 64) × (⊤ × ((a.length < 2 ^ 64) × IsReply a.reply)))

-- not a snapshot
abbrev pub IsPlain : Message → Type 0
IsPlain (kinds.Snap state) = ⊥
IsPlain other = ⊤

abbrev pub IsMessage : Message → Type 0
IsMessage (kinds.Fwd place one) = (place < 2 ^ 64) × IsEntry one
IsMessage (kinds.Snap state) = ⊥
IsMessage (kinds.Ack place) = place < 2 ^ 64
IsMessage kinds.BeHead = ⊤
IsMessage (kinds.Report pred) = IsServer pred
IsMessage (kinds.Adopt succ have) = IsServer succ × (have < 2 ^ 64)
IsMessage (kinds.BeTail least) = least < 2 ^ 64
IsMessage (kinds.Feed succ) = IfThere IsServer succ
IsMessage (kinds.Have pred count) = IsServer pred × (count < 2 ^ 64)
IsMessage (kinds.Adopted succ count) = IsServer succ × (count < 2 ^ 64)
IsMessage (kinds.Caught pred count) = IsServer pred × (count < 2 ^ 64)
IsMessage kinds.Ready = ⊤
IsMessage (kinds.Answer a) = IsAnswer a
