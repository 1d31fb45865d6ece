-- Bytes of two values differ.
use Rattle.cq_wire.specs.Layout.{entry, query, reply, request}
use Rattle.cq_wire.specs.Limits.{IsEntry, IsQuery, IsReply, IsRequest}
use Rattle.cq_wire.specs.Reading.{entry_at, query_at, reply_at, request_at}
use Rattle.cq_wire.proofs.AskLaws.{entry_is_read, query_is_read, request_is_read}
use Rattle.cq_wire.proofs.ReplyLaws.{reply_is_read}
use Rattle.cq_wire.proofs.Wholes.{whole_differs}
use Rattle.cq_wire.proofs.laws.two_values_differ.Goals as goal

pub returns-clause-entries : goal.returns-clause-entries
returns-clause-entries c = whole_differs entry entry_at IsEntry entry_is_read

pub returns-clause-requests : goal.returns-clause-requests
returns-clause-requests c = whole_differs request request_at IsRequest request_is_read

pub returns-clause-queries : goal.returns-clause-queries
returns-clause-queries c = whole_differs query query_at IsQuery query_is_read

pub returns-clause-replies : goal.returns-clause-replies
returns-clause-replies c = whole_differs reply reply_at IsReply reply_is_read
