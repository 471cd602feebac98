use Rattle.std.proofs.Common.{◌∙◌, ap}
use Rattle.std.proofs.lemmas.Map.Text.{btree_map_updates_text}
use Rattle.std.specs.Map.{update}
use Rattle.std.specs.Prelude.{Some, string_bytes}
use Rattle.std.specs.Str.{bytes_eq}
use Rattle.yw_given.specs.Found.{number_of}
use Rattle.yw_given.proofs.numbers.Numbers.put.Goals as goal

pub returns : goal.returns
returns c = λ other.
    btree_map_updates_text (string_bytes c.in_ok-key.key) c.args.self.now.table c.insert.new.self (Some c.args.number) c.in_ok-insert.ensures.updates other
    ∙ ap (λ key. update bytes_eq (number_of c.args.self.now) key (Some c.args.number) other) c.in_ok-key.ensures.ok
