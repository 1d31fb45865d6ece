-- The numbers and names of the faults of servers, master, world and clients.
use Rattle.std.specs.Prelude.{◌≡◌, ℕ, List, codes, Option, None, Some}
use Rattle.cq_chain.specs.declared.fault.ClientFault.{ClientFault}
use Rattle.cq_chain.specs.declared.fault.ClientFault.TheVariants as client
use Rattle.cq_chain.specs.declared.fault.WorldFault.{WorldFault}
use Rattle.cq_chain.specs.declared.fault.WorldFault.TheVariants.{NoSuchServer, ServerDown, LinkEmpty, OutboxEmpty, LastFull, JoinPending, IdUsed, ChainFull, NotDown, NotHead, HistoryFull, NotTail, NoMemory}

-- the number of a fault
abbrev pub code_of : WorldFault → ℕ
code_of NoSuchServer = 31
code_of ServerDown = 32
code_of LinkEmpty = 33
code_of OutboxEmpty = 34
code_of LastFull = 35
code_of JoinPending = 36
code_of IdUsed = 37
code_of ChainFull = 38
code_of NotDown = 39
code_of NotHead = 40
code_of HistoryFull = 41
code_of NotTail = 42
code_of NoMemory = 20

-- its name
abbrev pub name_of : WorldFault → List ℕ
name_of NoSuchServer = codes "NoSuchServer"
name_of ServerDown = codes "ServerDown"
name_of LinkEmpty = codes "LinkEmpty"
name_of OutboxEmpty = codes "OutboxEmpty"
name_of LastFull = codes "LastFull"
name_of JoinPending = codes "JoinPending"
name_of IdUsed = codes "IdUsed"
name_of ChainFull = codes "ChainFull"
name_of NotDown = codes "NotDown"
name_of NotHead = codes "NotHead"
name_of HistoryFull = codes "HistoryFull"
name_of NotTail = codes "NotTail"
name_of NoMemory = codes "NoMemory"

-- The fault is the first refusal that there is. Want of memory is told only where nothing else refuses.
abbrev pub IsRefusal : WorldFault → Option WorldFault → Type 0
IsRefusal NoMemory refusal = refusal ≡ None
IsRefusal fault refusal = refusal ≡ Some fault

-- ---- clients

-- the number of a client's fault
abbrev pub client_code_of : ClientFault → ℕ
client_code_of client.Busy = 43
client_code_of client.NumbersSpent = 44
client_code_of client.NoMemory = 20

-- its name
abbrev pub client_name_of : ClientFault → List ℕ
client_name_of client.Busy = codes "Busy"
client_name_of client.NumbersSpent = codes "NumbersSpent"
client_name_of client.NoMemory = codes "NoMemory"

-- The fault is the first refusal that there is. Want of memory is told only where nothing else refuses.
abbrev pub IsClientRefusal : ClientFault → Option ClientFault → Type 0
IsClientRefusal client.NoMemory refusal = refusal ≡ None
IsClientRefusal fault refusal = refusal ≡ Some fault
