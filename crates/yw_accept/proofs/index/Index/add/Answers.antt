use Rattle.std.proofs.lemmas.Map.Text.{btree_map_updates_text}
use Rattle.std.specs.Prelude.{Some, string_bytes}
use Rattle.yw_accept.proofs.IndexLemmas.{index_more}
use Rattle.yw_accept.proofs.index.Index.add.Goals as goal

pub returns : goal.returns
returns c = λ texts h e.
    index_more texts (string_bytes c.args.text) c.args.number c.args.self.now (record { numbers = c.insert.new.self }) h e
    (btree_map_updates_text (string_bytes c.args.text) c.args.self.now.numbers c.insert.new.self (Some c.args.number) c.in_ok-insert.ensures.updates)
