-- A client that isn't found goes last.
use Rattle.std.proofs.Common.{◌∙◌, ◌++◌, [], ◌∷◌, ap}
use Rattle.indexmap.proofs.CallerLemmas.{insert_entry-new}
use Rattle.cq_store.specs.within.Rooms.{ClientTable}
use Rattle.cq_store.proofs.Parts.{none-copied}
use Rattle.cq_store.proofs.clients.ClientTable.restore.Goals as goal

pub returns-clause-put : goal.returns-clause-put
returns-clause-put c = λ _.
    c.in_ok-insert.ensures.entries ∙ insert_entry-new _ c.self.inside.kept c.args.client c.args.one (none-copied c.get.result _ c.get.ensures.value c.if-is_some.ensures)
    ∙ ap (λ (t : ClientTable). t.kept ++ (c.args.client, c.args.one) ∷ []) c.self.view_is
