use Rattle.std.proofs.Common.{ap, sym, subst, ◌∙◌, inr, refl, List, Option, ℕ, Some}
use Rattle.cli_words.specs.Answer.{asm_asked}
use Rattle.dev_board.specs.Seen.{devices_seen}
use Rattle.emu_top.specs.Assembling.{NotWritten}
use Rattle.emu_top.specs.Outside.{folder_seen}
use Rattle.emu_top.proofs.AssemblyFacts.{ends_asm, stops_making, stops_writing, write_begins, write_leaves}
use Rattle.emu_top.proofs.LaunchFacts.{IsAlone, stops_loading}
use Rattle.emu_top.proofs.top.asm.Goals as goal

pub returns-in-Err-made-clause-stops : goal.returns-in-Err-made-clause-stops
returns-in-Err-made-clause-stops g c words asks =
    stops_making (folder_seen g.F.Folder.tree g.F.Folder.failed_reads g.F.Folder.failed_writes c.args.folder.now) (folder_seen g.F.Folder.tree g.F.Folder.failed_reads g.F.Folder.failed_writes c.load.new.folder)
    (devices_seen g.D.Device.left g.D.Device.held g.D.Device.failed_reads g.D.Device.failed_writes c.args.devices) (devices_seen g.D.Device.left g.D.Device.held g.D.Device.failed_reads g.D.Device.failed_writes c.without_run-in-Err-made.result.devices)
    words (asm_asked c.args.plan.now) c.in-Ok.loaded c.without_run-in-Err-made.result.cause c.without_run-in-Err-made.result.journal asks c.in-Ok.ensures.loaded (rw c.without_run-in-Err-made.ensures.cause c.in-Err-made.ensures.refused) c.in-Ok.ensures.still (record {
      tree = c.load.ensures.tree;
      writes = c.load.ensures.writes;
      devices_are = ap (devices_seen g.D.Device.left g.D.Device.held g.D.Device.failed_reads g.D.Device.failed_writes) c.without_run-in-Err-made.ensures.devices;
      events = c.without_run-in-Err-made.ensures.journal;
      budget = c.without_run-in-Err-made.ensures.budget;
    })

pub returns-in-Ok-write-clause-ends : goal.returns-in-Ok-write-clause-ends
returns-in-Ok-write-clause-ends g c words asks =
    ends_asm (folder_seen g.F.Folder.tree g.F.Folder.failed_reads g.F.Folder.failed_writes c.args.folder.now) (folder_seen g.F.Folder.tree g.F.Folder.failed_reads g.F.Folder.failed_writes c.write.new.folder)
    (devices_seen g.D.Device.left g.D.Device.held g.D.Device.failed_reads g.D.Device.failed_writes c.args.devices) (devices_seen g.D.Device.left g.D.Device.held g.D.Device.failed_reads g.D.Device.failed_writes c.done.result.devices)
    words (asm_asked c.args.plan.now) c.in-Ok.loaded c.in-Ok-made.bytes c.done.result.end c.done.result.journal asks c.in-Ok.ensures.loaded c.in-Ok-made.ensures.made
    (write_leaves c.as_str.result.now c.args.plan.now.out c.as_slice.result.now c.in-Ok-made.bytes (g.F.Folder.tree c.load.new.folder) (g.F.Folder.tree c.args.folder.now) (g.F.Folder.tree c.write.new.folder) c.as_str.ensures.same c.as_slice.ensures c.load.ensures.tree c.in-Ok-write.ensures.written)
    (ap (devices_seen g.D.Device.left g.D.Device.held g.D.Device.failed_reads g.D.Device.failed_writes) c.done.ensures.devices) c.done.ensures.journal c.done.ensures.budget c.done.ensures.end

pub returns-clause-stops : goal.returns-clause-stops
returns-clause-stops g c words asks =
    let not_written = subst (λ (n : ℕ). NotWritten n (g.F.Folder.failed_writes c.write.new.folder) c.in-Err-write.cause) c.load.ensures.writes c.in-Err-write.ensures.told in
    stops_writing (folder_seen g.F.Folder.tree g.F.Folder.failed_reads g.F.Folder.failed_writes c.args.folder.now) (folder_seen g.F.Folder.tree g.F.Folder.failed_reads g.F.Folder.failed_writes c.write.new.folder)
    (devices_seen g.D.Device.left g.D.Device.held g.D.Device.failed_reads g.D.Device.failed_writes c.args.devices) (devices_seen g.D.Device.left g.D.Device.held g.D.Device.failed_reads g.D.Device.failed_writes c.without_run-in-Err-write.result.devices)
    words (asm_asked c.args.plan.now) c.in-Ok.loaded c.in-Ok-made.bytes c.without_run-in-Err-write.result.cause c.without_run-in-Err-write.result.journal asks c.in-Ok.ensures.loaded c.in-Ok-made.ensures.made
    (write_begins c.as_str.result.now c.args.plan.now.out c.as_slice.result.now c.in-Ok-made.bytes (g.F.Folder.tree c.load.new.folder) (g.F.Folder.tree c.args.folder.now) (g.F.Folder.tree c.write.new.folder) c.as_str.ensures.same c.as_slice.ensures c.load.ensures.tree c.in-Err-write.ensures.left)
    (rw c.without_run-in-Err-write.ensures.cause not_written) (c.write.ensures.reads ∙ c.in-Ok.ensures.still) (ap (devices_seen g.D.Device.left g.D.Device.held g.D.Device.failed_reads g.D.Device.failed_writes) c.without_run-in-Err-write.ensures.devices) c.without_run-in-Err-write.ensures.journal c.without_run-in-Err-write.ensures.budget
