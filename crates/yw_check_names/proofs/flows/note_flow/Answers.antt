use Rattle.std.proofs.Common.{◌≡◌, true, sym, ◌∙◌, string_bytes}
use Rattle.yw_accept.specs.Names.{may_lead}
use Rattle.yw_check_names.proofs.Arrows.{notes_flow}
use Rattle.yw_check_names.proofs.flows.note_flow.Goals as goal

pub returns : goal.returns
returns c =
    let leads : may_lead c.args.net.now c.args.flow.now ≡ true = sym c.may_lead.ensures ∙ c.if-not-may_lead.false in
    notes_flow c.args.net.now c.args.seen.now c.add.new.set c.args.flow.now (string_bytes c.in_ok-text.text) c.in_ok-is_new.is_new c.requires.named leads c.in_ok-text.ensures c.in_ok-is_new.ensures
