-- The names of the keys of the objects that lines have.
use Rattle.std.specs.Prelude.{ℕ, List, codes}
use Rattle.cq_json.specs.declared.key.Key.{Key}
use Rattle.cq_json.specs.declared.key.Key.TheVariants.{Op, At, Clock, Client, Number, Ask, Tag, Queue, From, To, Server, Kind, Visibility, ContentDedup, Group, Dedup, Body, Size, Receipt}

-- the name of a key
abbrev pub key_text : Key → List ℕ
key_text Op = codes "op"
key_text At = codes "at"
key_text Clock = codes "clock"
key_text Client = codes "client"
key_text Number = codes "number"
key_text Ask = codes "ask"
key_text Tag = codes "tag"
key_text Queue = codes "queue"
key_text From = codes "from"
key_text To = codes "to"
key_text Server = codes "server"
key_text Kind = codes "kind"
key_text Visibility = codes "visibility"
key_text ContentDedup = codes "content_dedup"
key_text Group = codes "group"
key_text Dedup = codes "dedup"
key_text Body = codes "body"
key_text Size = codes "size"
key_text Receipt = codes "receipt"

-- the number of a key, by which the program tells it from others
abbrev pub key_number : Key → ℕ
key_number Op = 0
key_number At = 1
key_number Clock = 2
key_number Client = 3
key_number Number = 4
key_number Ask = 5
key_number Tag = 6
key_number Queue = 7
key_number From = 8
key_number To = 9
key_number Server = 10
key_number Kind = 11
key_number Visibility = 12
key_number ContentDedup = 13
key_number Group = 14
key_number Dedup = 15
key_number Body = 16
key_number Size = 17
key_number Receipt = 18
