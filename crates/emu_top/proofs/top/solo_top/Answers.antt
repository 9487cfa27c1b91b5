use Rattle.std.proofs.Common.{map}
use Rattle.std.specs.String.{string_bytes}
use Rattle.dev_board.specs.Seen.{devices_seen}
use Rattle.emu_top.specs.Causes.{Faults}
use Rattle.emu_top.specs.Outside.{folder_seen, notes_seen, outside}
use Rattle.emu_top.proofs.AnswerFacts.{both_lawful, told_faults_behind, told_finishes}
use Rattle.emu_top.proofs.CompleteFacts.{complete}
use Rattle.emu_top.proofs.LawFacts.{fault_lawful}
use Rattle.emu_top.proofs.TopFacts.{told_faults}
use Rattle.emu_top.proofs.top.solo_top.Goals as goal

pub returns-in-Ok-clause-finished : goal.returns-in-Ok-clause-finished
returns-in-Ok-clause-finished g c =
    told_finishes (devices_seen g.D.Device.left g.D.Device.held g.D.Device.failed_reads g.D.Device.failed_writes) c.tell_end.result c.in-Ok.finished (folder_seen g.F.Folder.tree g.F.Folder.failed_reads g.F.Folder.failed_writes c.args.folder.now) (folder_seen g.F.Folder.tree g.F.Folder.failed_reads g.F.Folder.failed_writes c.attempt.new.folder)
    (devices_seen g.D.Device.left g.D.Device.held g.D.Device.failed_reads g.D.Device.failed_writes c.args.devices) (notes_seen g.K.Sink.held g.K.Sink.failed_writes c.args.notes.now) (notes_seen g.K.Sink.held g.K.Sink.failed_writes c.tell_end.new.notes) (map string_bytes c.args.words.now) c.in-Ok.ensures.ends c.in-Ok.ensures.status c.in-Ok.ensures.reads c.in-Ok.ensures.writes c.tell_end.ensures.told

pub returns-in-Ok-clause-caused : goal.returns-in-Ok-clause-caused
returns-in-Ok-clause-caused g c =
    told_faults_behind (devices_seen g.D.Device.left g.D.Device.held g.D.Device.failed_reads g.D.Device.failed_writes) c.tell_end.result c.in-Ok.finished (folder_seen g.F.Folder.tree g.F.Folder.failed_reads g.F.Folder.failed_writes c.args.folder.now) (folder_seen g.F.Folder.tree g.F.Folder.failed_reads g.F.Folder.failed_writes c.attempt.new.folder)
    (devices_seen g.D.Device.left g.D.Device.held g.D.Device.failed_reads g.D.Device.failed_writes c.args.devices) (notes_seen g.K.Sink.held g.K.Sink.failed_writes c.args.notes.now) (notes_seen g.K.Sink.held g.K.Sink.failed_writes c.tell_end.new.notes) (map string_bytes c.args.words.now) c.in-Ok.ensures.ends c.in-Ok.ensures.reads c.in-Ok.ensures.writes c.tell_end.ensures.failed c.tell_end.ensures.journal c.tell_end.ensures.devices

pub returns-in-Ok-clause-lawful : goal.returns-in-Ok-clause-lawful
returns-in-Ok-clause-lawful g c =
    both_lawful (devices_seen g.D.Device.left g.D.Device.held g.D.Device.failed_reads g.D.Device.failed_writes) c.tell_end.result (outside (folder_seen g.F.Folder.tree g.F.Folder.failed_reads g.F.Folder.failed_writes c.args.folder.now) (devices_seen g.D.Device.left g.D.Device.held g.D.Device.failed_reads g.D.Device.failed_writes c.args.devices) (notes_seen g.K.Sink.held g.K.Sink.failed_writes c.args.notes.now)) (folder_seen g.F.Folder.tree g.F.Folder.failed_reads g.F.Folder.failed_writes c.attempt.new.folder) (notes_seen g.K.Sink.held g.K.Sink.failed_writes c.tell_end.new.notes) (map string_bytes c.args.words.now)
    (told_finishes (devices_seen g.D.Device.left g.D.Device.held g.D.Device.failed_reads g.D.Device.failed_writes) c.tell_end.result c.in-Ok.finished (folder_seen g.F.Folder.tree g.F.Folder.failed_reads g.F.Folder.failed_writes c.args.folder.now) (folder_seen g.F.Folder.tree g.F.Folder.failed_reads g.F.Folder.failed_writes c.attempt.new.folder)
    (devices_seen g.D.Device.left g.D.Device.held g.D.Device.failed_reads g.D.Device.failed_writes c.args.devices) (notes_seen g.K.Sink.held g.K.Sink.failed_writes c.args.notes.now) (notes_seen g.K.Sink.held g.K.Sink.failed_writes c.tell_end.new.notes) (map string_bytes c.args.words.now) c.in-Ok.ensures.ends c.in-Ok.ensures.status c.in-Ok.ensures.reads c.in-Ok.ensures.writes c.tell_end.ensures.told)
    (told_faults_behind (devices_seen g.D.Device.left g.D.Device.held g.D.Device.failed_reads g.D.Device.failed_writes) c.tell_end.result c.in-Ok.finished (folder_seen g.F.Folder.tree g.F.Folder.failed_reads g.F.Folder.failed_writes c.args.folder.now) (folder_seen g.F.Folder.tree g.F.Folder.failed_reads g.F.Folder.failed_writes c.attempt.new.folder)
    (devices_seen g.D.Device.left g.D.Device.held g.D.Device.failed_reads g.D.Device.failed_writes c.args.devices) (notes_seen g.K.Sink.held g.K.Sink.failed_writes c.args.notes.now) (notes_seen g.K.Sink.held g.K.Sink.failed_writes c.tell_end.new.notes) (map string_bytes c.args.words.now) c.in-Ok.ensures.ends c.in-Ok.ensures.reads c.in-Ok.ensures.writes c.tell_end.ensures.failed c.tell_end.ensures.journal c.tell_end.ensures.devices)

pub returns-in-Err-clause-caused : goal.returns-in-Err-clause-caused
returns-in-Err-clause-caused g c =
    rw (c.tell_fault.ensures.journal, c.tell_fault.ensures.devices) (told_faults (folder_seen g.F.Folder.tree g.F.Folder.failed_reads g.F.Folder.failed_writes c.args.folder.now) (folder_seen g.F.Folder.tree g.F.Folder.failed_reads g.F.Folder.failed_writes c.attempt.new.folder)
    (devices_seen g.D.Device.left g.D.Device.held g.D.Device.failed_reads g.D.Device.failed_writes c.args.devices) (devices_seen g.D.Device.left g.D.Device.held g.D.Device.failed_reads g.D.Device.failed_writes c.in-Err.fault.devices) (notes_seen g.K.Sink.held g.K.Sink.failed_writes c.args.notes.now) (notes_seen g.K.Sink.held g.K.Sink.failed_writes c.tell_fault.new.notes) (map string_bytes c.args.words.now) c.in-Err.fault.cause c.tell_fault.result.cause c.in-Err.fault.journal c.in-Err.ensures.stops c.tell_fault.ensures.told)

pub returns-in-Err-clause-complete : goal.returns-in-Err-clause-complete
returns-in-Err-clause-complete g c =
    let after = outside (folder_seen g.F.Folder.tree g.F.Folder.failed_reads g.F.Folder.failed_writes c.attempt.new.folder) (devices_seen g.D.Device.left g.D.Device.held g.D.Device.failed_reads g.D.Device.failed_writes c.tell_fault.result.devices) (notes_seen g.K.Sink.held g.K.Sink.failed_writes c.tell_fault.new.notes) in
    let faults : Faults (outside (folder_seen g.F.Folder.tree g.F.Folder.failed_reads g.F.Folder.failed_writes c.args.folder.now) (devices_seen g.D.Device.left g.D.Device.held g.D.Device.failed_reads g.D.Device.failed_writes c.args.devices) (notes_seen g.K.Sink.held g.K.Sink.failed_writes c.args.notes.now)) after (map string_bytes c.args.words.now) c.tell_fault.result.cause c.tell_fault.result.journal = rw (c.tell_fault.ensures.journal, c.tell_fault.ensures.devices) (told_faults (folder_seen g.F.Folder.tree g.F.Folder.failed_reads g.F.Folder.failed_writes c.args.folder.now) (folder_seen g.F.Folder.tree g.F.Folder.failed_reads g.F.Folder.failed_writes c.attempt.new.folder)
    (devices_seen g.D.Device.left g.D.Device.held g.D.Device.failed_reads g.D.Device.failed_writes c.args.devices) (devices_seen g.D.Device.left g.D.Device.held g.D.Device.failed_reads g.D.Device.failed_writes c.in-Err.fault.devices) (notes_seen g.K.Sink.held g.K.Sink.failed_writes c.args.notes.now) (notes_seen g.K.Sink.held g.K.Sink.failed_writes c.tell_fault.new.notes) (map string_bytes c.args.words.now) c.in-Err.fault.cause c.tell_fault.result.cause c.in-Err.fault.journal c.in-Err.ensures.stops c.tell_fault.ensures.told) in
    complete (folder_seen g.F.Folder.tree g.F.Folder.failed_reads g.F.Folder.failed_writes c.args.folder.now) (devices_seen g.D.Device.left g.D.Device.held g.D.Device.failed_reads g.D.Device.failed_writes c.args.devices) (notes_seen g.K.Sink.held g.K.Sink.failed_writes c.args.notes.now) after (map string_bytes c.args.words.now) c.tell_fault.result.cause c.tell_fault.result.journal faults

pub returns-in-Err-clause-lawful : goal.returns-in-Err-clause-lawful
returns-in-Err-clause-lawful g c =
    let after = outside (folder_seen g.F.Folder.tree g.F.Folder.failed_reads g.F.Folder.failed_writes c.attempt.new.folder) (devices_seen g.D.Device.left g.D.Device.held g.D.Device.failed_reads g.D.Device.failed_writes c.tell_fault.result.devices) (notes_seen g.K.Sink.held g.K.Sink.failed_writes c.tell_fault.new.notes) in
    let faults : Faults (outside (folder_seen g.F.Folder.tree g.F.Folder.failed_reads g.F.Folder.failed_writes c.args.folder.now) (devices_seen g.D.Device.left g.D.Device.held g.D.Device.failed_reads g.D.Device.failed_writes c.args.devices) (notes_seen g.K.Sink.held g.K.Sink.failed_writes c.args.notes.now)) after (map string_bytes c.args.words.now) c.tell_fault.result.cause c.tell_fault.result.journal = rw (c.tell_fault.ensures.journal, c.tell_fault.ensures.devices) (told_faults (folder_seen g.F.Folder.tree g.F.Folder.failed_reads g.F.Folder.failed_writes c.args.folder.now) (folder_seen g.F.Folder.tree g.F.Folder.failed_reads g.F.Folder.failed_writes c.attempt.new.folder)
    (devices_seen g.D.Device.left g.D.Device.held g.D.Device.failed_reads g.D.Device.failed_writes c.args.devices) (devices_seen g.D.Device.left g.D.Device.held g.D.Device.failed_reads g.D.Device.failed_writes c.in-Err.fault.devices) (notes_seen g.K.Sink.held g.K.Sink.failed_writes c.args.notes.now) (notes_seen g.K.Sink.held g.K.Sink.failed_writes c.tell_fault.new.notes) (map string_bytes c.args.words.now) c.in-Err.fault.cause c.tell_fault.result.cause c.in-Err.fault.journal c.in-Err.ensures.stops c.tell_fault.ensures.told) in
    fault_lawful (outside (folder_seen g.F.Folder.tree g.F.Folder.failed_reads g.F.Folder.failed_writes c.args.folder.now) (devices_seen g.D.Device.left g.D.Device.held g.D.Device.failed_reads g.D.Device.failed_writes c.args.devices) (notes_seen g.K.Sink.held g.K.Sink.failed_writes c.args.notes.now)) after (map string_bytes c.args.words.now) c.tell_fault.result.cause c.tell_fault.result.journal faults
