-- How the line of an answer begins.
use Rattle.std.specs.Prelude.{ℕ, List, ◌++◌, codes, decimal}
use Rattle.cq_chain.specs.declared.message.Answer.{Answer}

-- its client, its length and the line that it is given at
unfoldable pub client_text : ℕ → Answer → List ℕ
client_text line answer =
    codes "{\"client\":" ++ (decimal answer.client ++ (codes ",\"length\":" ++ (decimal answer.length ++ (codes ",\"line\":" ++ decimal line))))
