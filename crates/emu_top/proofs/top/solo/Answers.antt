use Rattle.std.proofs.Common.{inl, ◌≡◌, List, Option, ap, length, sym, subst, ℕ, ◌∙◌}
use Rattle.std.proofs.lemmas.List.{length-map}
use Rattle.cli_words.specs.Answer.{plan_asked}
use Rattle.dev_board.specs.Seen.{DeviceSeen, devices_seen}
use Rattle.emu_top.specs.Loading.{IsLaunch}
use Rattle.emu_top.specs.Outside.{folder_seen}
use Rattle.emu_top.proofs.LaunchFacts.{IsAlone, folder_same, launch_count, launch_one, launch_quiet, stops_events, stops_launching, stops_loading, store_ends, store_stops}
use Rattle.emu_top.proofs.top.solo.Goals as goal

pub returns-in-Err-clause-stops : goal.returns-in-Err-clause-stops
returns-in-Err-clause-stops g c words asks =
    stops_loading (folder_seen g.F.Folder.tree g.F.Folder.failed_reads g.F.Folder.failed_writes c.args.folder.now) (folder_seen g.F.Folder.tree g.F.Folder.failed_reads g.F.Folder.failed_writes c.load.new.folder)
    (devices_seen g.D.Device.left g.D.Device.held g.D.Device.failed_reads g.D.Device.failed_writes c.args.devices) (devices_seen g.D.Device.left g.D.Device.held g.D.Device.failed_reads g.D.Device.failed_writes c.without_run.result.devices)
    words c.without_run.result.cause c.without_run.result.journal (inl (plan_asked c.args.plan, asks)) (rw c.without_run.ensures.cause c.in-Err.ensures.fault) (record {
      tree = c.load.ensures.tree;
      writes = c.load.ensures.writes;
      devices_are = ap (devices_seen g.D.Device.left g.D.Device.held g.D.Device.failed_reads g.D.Device.failed_writes) c.without_run.ensures.devices;
      events = c.without_run.ensures.journal;
      budget = c.without_run.ensures.budget;
    })

pub returns-in-Err-prepare-clause-stops : goal.returns-in-Err-prepare-clause-stops
returns-in-Err-prepare-clause-stops g c words asks =
    stops_launching (folder_seen g.F.Folder.tree g.F.Folder.failed_reads g.F.Folder.failed_writes c.args.folder.now) (folder_seen g.F.Folder.tree g.F.Folder.failed_reads g.F.Folder.failed_writes c.load.new.folder)
    (devices_seen g.D.Device.left g.D.Device.held g.D.Device.failed_reads g.D.Device.failed_writes c.args.devices) (devices_seen g.D.Device.left g.D.Device.held g.D.Device.failed_reads g.D.Device.failed_writes c.without_run-in-Err-prepare.result.devices)
    words (plan_asked c.args.plan) (record { listing = c.in-Ok.loaded.listed.items; tree = c.in-Ok.loaded.tree; is_loaded = c.in-Ok.ensures.loaded })
    c.without_run-in-Err-prepare.result.cause c.without_run-in-Err-prepare.result.journal asks (rw c.without_run-in-Err-prepare.ensures.cause c.in-Err-prepare.ensures.refused) c.in-Ok.ensures.still (record {
      tree = c.load.ensures.tree;
      writes = c.load.ensures.writes;
      devices_are = ap (devices_seen g.D.Device.left g.D.Device.held g.D.Device.failed_reads g.D.Device.failed_writes) c.without_run-in-Err-prepare.ensures.devices;
      events = c.without_run-in-Err-prepare.ensures.journal;
      budget = c.without_run-in-Err-prepare.ensures.budget;
    })

pub execute-requires-clause-one : goal.execute-requires-clause-one
execute-requires-clause-one g c = launch_one c.in-Ok.loaded (plan_asked c.args.plan) c.count.result c.in-Ok-prepare.launch c.in-Ok-prepare.ensures.launch

pub execute-requires-clause-count : goal.execute-requires-clause-count
execute-requires-clause-count g c = launch_count c.in-Ok.loaded (plan_asked c.args.plan) c.count.result (length c.args.devices) c.in-Ok-prepare.launch c.in-Ok-prepare.ensures.launch c.count.ensures

pub execute-requires-clause-quiet : goal.execute-requires-clause-quiet
execute-requires-clause-quiet g c =
    launch_quiet c.in-Ok.loaded (plan_asked c.args.plan) c.count.result c.in-Ok-prepare.launch (devices_seen g.D.Device.left g.D.Device.held g.D.Device.failed_reads g.D.Device.failed_writes c.args.devices) c.in-Ok-prepare.ensures.launch (rw length-map c.count.ensures)

pub returns-in-Ok-execute-clause-ends : goal.returns-in-Ok-execute-clause-ends
returns-in-Ok-execute-clause-ends g c =
    let before = devices_seen g.D.Device.left g.D.Device.held g.D.Device.failed_reads g.D.Device.failed_writes c.args.devices in
    let is : IsLaunch c.in-Ok.loaded (plan_asked c.args.plan) (length before) c.in-Ok-prepare.launch = subst (λ (n : ℕ). IsLaunch c.in-Ok.loaded (plan_asked c.args.plan) n c.in-Ok-prepare.launch) (rw length-map c.count.ensures) c.in-Ok-prepare.ensures.launch in
    store_ends (devices_seen g.D.Device.left g.D.Device.held g.D.Device.failed_reads g.D.Device.failed_writes) c.store.result
    (folder_seen g.F.Folder.tree g.F.Folder.failed_reads g.F.Folder.failed_writes c.args.folder.now) (folder_seen g.F.Folder.tree g.F.Folder.failed_reads g.F.Folder.failed_writes c.store.new.folder)
    (g.F.Folder.tree c.load.new.folder) c.in-Ok.loaded (plan_asked c.args.plan) c.in-Ok-prepare.launch before c.in-Ok-execute.executed c.load.ensures.tree c.in-Ok.ensures.loaded is
    c.in-Ok-execute.ensures.finished c.store.ensures.end c.store.ensures.journal c.store.ensures.devices c.store.ensures.stored

pub returns-in-Ok-execute-clause-stops : goal.returns-in-Ok-execute-clause-stops
returns-in-Ok-execute-clause-stops g c =
    let before = devices_seen g.D.Device.left g.D.Device.held g.D.Device.failed_reads g.D.Device.failed_writes c.args.devices in
    let is : IsLaunch c.in-Ok.loaded (plan_asked c.args.plan) (length before) c.in-Ok-prepare.launch = subst (λ (n : ℕ). IsLaunch c.in-Ok.loaded (plan_asked c.args.plan) n c.in-Ok-prepare.launch) (rw length-map c.count.ensures) c.in-Ok-prepare.ensures.launch in
    store_stops (devices_seen g.D.Device.left g.D.Device.held g.D.Device.failed_reads g.D.Device.failed_writes) c.store.result
    (folder_seen g.F.Folder.tree g.F.Folder.failed_reads g.F.Folder.failed_writes c.args.folder.now) (folder_seen g.F.Folder.tree g.F.Folder.failed_reads g.F.Folder.failed_writes c.store.new.folder)
    (g.F.Folder.tree c.load.new.folder) (g.F.Folder.failed_writes c.load.new.folder) c.in-Ok.loaded (plan_asked c.args.plan) c.in-Ok-prepare.launch before c.in-Ok-execute.executed c.load.ensures.tree c.load.ensures.writes c.in-Ok.ensures.loaded is
    c.in-Ok-execute.ensures.finished c.store.ensures.journal c.store.ensures.devices c.store.ensures.keep c.store.ensures.partly c.store.ensures.told (c.store.ensures.reads ∙ c.in-Ok.ensures.still)

pub returns-clause-stops : goal.returns-clause-stops
returns-clause-stops g c words asks =
    let before = devices_seen g.D.Device.left g.D.Device.held g.D.Device.failed_reads g.D.Device.failed_writes c.args.devices in
    let is : IsLaunch c.in-Ok.loaded (plan_asked c.args.plan) (length before) c.in-Ok-prepare.launch = subst (λ (n : ℕ). IsLaunch c.in-Ok.loaded (plan_asked c.args.plan) n c.in-Ok-prepare.launch) (rw length-map c.count.ensures) c.in-Ok-prepare.ensures.launch in
    let stopped = stops_events (folder_seen g.F.Folder.tree g.F.Folder.failed_reads g.F.Folder.failed_writes c.args.folder.now) (folder_seen g.F.Folder.tree g.F.Folder.failed_reads g.F.Folder.failed_writes c.load.new.folder)
    words c.in-Ok.loaded (plan_asked c.args.plan) c.in-Ok-prepare.launch before c.in-Err-execute.stopped.halt c.in-Err-execute.stopped.journal
    (devices_seen g.D.Device.left g.D.Device.held g.D.Device.failed_reads g.D.Device.failed_writes c.in-Err-execute.stopped.devices) c.fault_of.result.cause asks c.in-Ok.ensures.loaded is c.in-Err-execute.ensures.stopped c.fault_of.ensures.told
    (folder_same (g.F.Folder.tree c.args.folder.now) (g.F.Folder.tree c.load.new.folder) (g.F.Folder.failed_reads c.args.folder.now) (g.F.Folder.failed_reads c.load.new.folder) (g.F.Folder.failed_writes c.args.folder.now) (g.F.Folder.failed_writes c.load.new.folder) c.load.ensures.tree c.in-Ok.ensures.still c.load.ensures.writes) in
    rw (c.fault_of.ensures.journal, c.fault_of.ensures.devices) stopped
