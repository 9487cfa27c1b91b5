use Rattle.std.proofs.Common.{List, ℕ, map, subst}
use Rattle.std.specs.String.{string_bytes}
use Rattle.cli_words.specs.Answer.{IsOrdered, asm_asked, plan_asked}
use Rattle.cli_words.specs.Command.{IsAsked, IsAsmAsked}
use Rattle.cli_words.specs.declared.order.Order.{Order}
use Rattle.dev_board.specs.Seen.{devices_seen}
use Rattle.emu_top.specs.Outside.{folder_seen}
use Rattle.emu_top.specs.Parts.{EndsAs, StopsAs}
use Rattle.emu_top.proofs.AnswerFacts.{err_of, ok_of}
use Rattle.emu_top.proofs.top.attempt.Goals as goal

pub returns-in-Ok-Solo-clause-ends : goal.returns-in-Ok-Solo-clause-ends
returns-in-Ok-Solo-clause-ends g c =
    ok_of c.solo.result (λ (w : List (List ℕ)). IsAsked w (plan_asked c.in-Ok-Solo.plan))
    (λ f w. EndsAs (folder_seen g.F.Folder.tree g.F.Folder.failed_reads g.F.Folder.failed_writes c.args.folder.now) (folder_seen g.F.Folder.tree g.F.Folder.failed_reads g.F.Folder.failed_writes c.solo.new.folder)
    (devices_seen g.D.Device.left g.D.Device.held g.D.Device.failed_reads g.D.Device.failed_writes c.args.devices) (devices_seen g.D.Device.left g.D.Device.held g.D.Device.failed_reads g.D.Device.failed_writes f.devices) w f.end f.journal)
    (map string_bytes c.args.words.now) (subst (λ (o : Order). IsOrdered (map string_bytes c.args.words.now) o) c.in-Ok-Solo.field-0-is c.in-Ok-Solo.ensures.ok) c.solo.ensures.ends

pub returns-in-Ok-Solo-clause-stops : goal.returns-in-Ok-Solo-clause-stops
returns-in-Ok-Solo-clause-stops g c =
    err_of c.solo.result (λ (w : List (List ℕ)). IsAsked w (plan_asked c.in-Ok-Solo.plan))
    (λ f w. StopsAs (folder_seen g.F.Folder.tree g.F.Folder.failed_reads g.F.Folder.failed_writes c.args.folder.now) (folder_seen g.F.Folder.tree g.F.Folder.failed_reads g.F.Folder.failed_writes c.solo.new.folder)
    (devices_seen g.D.Device.left g.D.Device.held g.D.Device.failed_reads g.D.Device.failed_writes c.args.devices) (devices_seen g.D.Device.left g.D.Device.held g.D.Device.failed_reads g.D.Device.failed_writes f.devices) w f.cause f.journal)
    (map string_bytes c.args.words.now) (subst (λ (o : Order). IsOrdered (map string_bytes c.args.words.now) o) c.in-Ok-Solo.field-0-is c.in-Ok-Solo.ensures.ok) c.solo.ensures.stops

pub returns-in-Ok-Asm-clause-ends : goal.returns-in-Ok-Asm-clause-ends
returns-in-Ok-Asm-clause-ends g c =
    ok_of c.asm.result (λ (w : List (List ℕ)). IsAsmAsked w (asm_asked c.in-Ok-Asm.plan))
    (λ f w. EndsAs (folder_seen g.F.Folder.tree g.F.Folder.failed_reads g.F.Folder.failed_writes c.args.folder.now) (folder_seen g.F.Folder.tree g.F.Folder.failed_reads g.F.Folder.failed_writes c.asm.new.folder)
    (devices_seen g.D.Device.left g.D.Device.held g.D.Device.failed_reads g.D.Device.failed_writes c.args.devices) (devices_seen g.D.Device.left g.D.Device.held g.D.Device.failed_reads g.D.Device.failed_writes f.devices) w f.end f.journal)
    (map string_bytes c.args.words.now) (subst (λ (o : Order). IsOrdered (map string_bytes c.args.words.now) o) c.in-Ok-Asm.field-0-is c.in-Ok-Asm.ensures.ok) c.asm.ensures.ends

pub returns-in-Ok-Asm-clause-stops : goal.returns-in-Ok-Asm-clause-stops
returns-in-Ok-Asm-clause-stops g c =
    err_of c.asm.result (λ (w : List (List ℕ)). IsAsmAsked w (asm_asked c.in-Ok-Asm.plan))
    (λ f w. StopsAs (folder_seen g.F.Folder.tree g.F.Folder.failed_reads g.F.Folder.failed_writes c.args.folder.now) (folder_seen g.F.Folder.tree g.F.Folder.failed_reads g.F.Folder.failed_writes c.asm.new.folder)
    (devices_seen g.D.Device.left g.D.Device.held g.D.Device.failed_reads g.D.Device.failed_writes c.args.devices) (devices_seen g.D.Device.left g.D.Device.held g.D.Device.failed_reads g.D.Device.failed_writes f.devices) w f.cause f.journal)
    (map string_bytes c.args.words.now) (subst (λ (o : Order). IsOrdered (map string_bytes c.args.words.now) o) c.in-Ok-Asm.field-0-is c.in-Ok-Asm.ensures.ok) c.asm.ensures.stops
