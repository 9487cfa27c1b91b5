use Rattle.std.proofs.Common.{◌≡◌, ap, false, is_some, sym, ◌∙◌, rules, Ok}
use Rattle.isa_asm.specs.Seen.{meaning_seen, noted, spot_in}
use Rattle.isa_asm.specs.Statement.{Named}
use Rattle.isa_asm.proofs.PlaceFacts.{note_named}
use Rattle.isa_asm.proofs.labels.note.Goals as goal

pub returns-in_ok-insert-in-Named : goal.returns-in_ok-insert-in-Named
returns-in_ok-insert-in-Named c = λ other.
    let absent : is_some (spot_in c.args.spots.now c.in-Named.name.now) ≡ false = search rules in
    let meant : meaning_seen c.args.meaning.now ≡ Named c.in-Named.name.now = ap meaning_seen c.in-Named.is in
    note_named c.args.spots.now c.insert.new.self c.in-Named.name.now other c.here.result c.args.index c.args.layout absent c.in_ok-insert-in-Named.ensures.updates c.here.ensures
    ∙ ap (λ meaning. noted other (spot_in c.args.spots.now other) c.args.index c.args.layout (Ok meaning)) (sym meant)
