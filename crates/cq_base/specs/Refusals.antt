-- The numbers and names under which requests are refused.
use Rattle.std.specs.Prelude.{ℕ, List, codes}
use Rattle.cq_base.specs.declared.reply.Refusal.{Refusal}
use Rattle.cq_base.specs.declared.reply.Refusal.TheVariants.{QueueDoesNotExist, QueueNameExists, QueueDeletedRecently, ReceiptHandleIsInvalid, MessageNotInflight, VisibilityBeyondLimit, StaleNumber, MissingDedupId}

-- the number of a refusal
abbrev pub refusal_code : Refusal → ℕ
refusal_code QueueDoesNotExist = 1
refusal_code QueueNameExists = 2
refusal_code QueueDeletedRecently = 3
refusal_code ReceiptHandleIsInvalid = 4
refusal_code MessageNotInflight = 5
refusal_code VisibilityBeyondLimit = 6
refusal_code StaleNumber = 7
refusal_code MissingDedupId = 8

-- its name
abbrev pub refusal_name : Refusal → List ℕ
refusal_name QueueDoesNotExist = codes "QueueDoesNotExist"
refusal_name QueueNameExists = codes "QueueNameExists"
refusal_name QueueDeletedRecently = codes "QueueDeletedRecently"
refusal_name ReceiptHandleIsInvalid = codes "ReceiptHandleIsInvalid"
refusal_name MessageNotInflight = codes "MessageNotInflight"
refusal_name VisibilityBeyondLimit = codes "VisibilityBeyondLimit"
refusal_name StaleNumber = codes "StaleNumber"
refusal_name MissingDedupId = codes "MissingDedupId"
