-- From what is assembled over a loaded folder to what the words ask for.
use Rattle.std.proofs.Common.{◌≡◌, ◌⊎◌, inl, inr, ℕ, List, [], Option, Some, refl, sym}
use Rattle.cli_words.specs.Command.{Assembly, IsAsmAsked}
use Rattle.dev_board.specs.Seen.{DeviceSeen}
use Rattle.image_store.specs.declared.folder.Entry.{Entry}
use Rattle.image_store.specs.declared.loading.Loaded.{Loaded}
use Rattle.image_store.specs.Changes.{Leaves, LeavesBeginning, file_at}
use Rattle.image_store.specs.Loading.{IsLoaded}
use Rattle.emu_top.specs.declared.cause.Cause.{Cause}
use Rattle.emu_top.specs.declared.ends.End.{End}
use Rattle.emu_top.specs.declared.ends.End.TheVariants.{Done}
use Rattle.emu_top.specs.Assembling.{IsBarred, IsFaulty, IsMade, IsSourceless, NotMade, NotWritten}
use Rattle.emu_top.specs.Causes.{AtChoosing, AtNaming, AtSource, AtStoring}
use Rattle.emu_run.specs.Journal.{History}
use Rattle.emu_top.specs.Outside.{FolderSeen, NotesSeen}
use Rattle.emu_top.specs.Parts.{EndsAs, StopsAs}
use Rattle.emu_top.specs.Solo.{Assembles, IsReady, Load}
use Rattle.emu_top.proofs.LaunchFacts.{IsAlone, refused}

-- nothing was made
pub stops_making : (folder folder_after : FolderSeen) (devices devices_after : List (Option DeviceSeen)) (words : List (List ℕ)) (assembly : Assembly) (loaded : Loaded) (cause : Cause) (journal : History) → IsAsmAsked words assembly → IsLoaded folder.tree loaded.listed.items loaded.tree → NotMade loaded assembly cause → folder_after.failed_reads ≡ folder.failed_reads → IsAlone folder folder_after devices devices_after journal → StopsAs folder folder_after devices devices_after words cause journal
stops_making folder folder_after devices devices_after words assembly loaded cause journal asks is_loaded (inl barred) still alone = record {
  step = AtNaming assembly.out;
  told = barred.told;
  stops = refused folder folder_after devices devices_after words (AtNaming assembly.out) journal
      (record { assembly = assembly; asks = asks; load = record { listing = loaded.listed.items; tree = loaded.tree; is_loaded = is_loaded }; out = refl; taken = barred.taken }) still alone;
}
stops_making folder folder_after devices devices_after words assembly loaded cause journal asks is_loaded (inr (inl missing)) still alone = record {
  step = AtChoosing assembly.source;
  told = missing.told;
  stops = refused folder folder_after devices devices_after words (AtChoosing assembly.source) journal
      (inr (record { assembly = assembly; asks = asks; load = record { listing = loaded.listed.items; tree = loaded.tree; is_loaded = is_loaded }; free = missing.free; source = refl; lacks = missing.lacks })) still alone;
}
stops_making folder folder_after devices devices_after words assembly loaded cause journal asks is_loaded (inr (inr faulty)) still alone = record {
  step = AtSource faulty.fault;
  told = faulty.told;
  stops = refused folder folder_after devices devices_after words (AtSource faulty.fault) journal (
    record { assembly = assembly; asks = asks; load = record { listing = loaded.listed.items; tree = loaded.tree; is_loaded = is_loaded }; free = faulty.free; source = faulty.source; source_is = faulty.source_is },
    faulty.why,
  ) still alone;
}

abbrev assembles : (folder : Option (List Entry)) (words : List (List ℕ)) (assembly : Assembly) (loaded : Loaded) (bytes : List ℕ) → IsAsmAsked words assembly → IsLoaded folder loaded.listed.items loaded.tree → IsMade loaded assembly bytes → Assembles folder words bytes
assembles folder words assembly loaded bytes asks is_loaded is_made = record {
  ready = record { assembly = assembly; asks = asks; load = record { listing = loaded.listed.items; tree = loaded.tree; is_loaded = is_loaded }; free = is_made.free; source = is_made.source; source_is = is_made.source_is };
  assembled = is_made.assembled;
}

-- what was made was written
pub ends_asm : (folder folder_after : FolderSeen) (devices devices_after : List (Option DeviceSeen)) (words : List (List ℕ)) (assembly : Assembly) (loaded : Loaded) (bytes : List ℕ) (end : End) (journal : History) → IsAsmAsked words assembly → IsLoaded folder.tree loaded.listed.items loaded.tree → IsMade loaded assembly bytes → Leaves assembly.out (Some (file_at assembly.out bytes)) folder.tree folder_after.tree → devices_after ≡ devices → journal.events ≡ [] → journal.budget ≡ 0 → end ≡ Done → EndsAs folder folder_after devices devices_after words end journal
ends_asm folder folder_after devices devices_after words assembly loaded bytes end journal asks is_loaded is_made written same events budget done notes notes_after = inr (record {
  bytes = bytes;
  assembles = assembles folder.tree words assembly loaded bytes asks is_loaded is_made;
  written = written;
  same_devices = same;
  no_event = events;
  no_budget = budget;
  done = done;
})

-- or it wasn't, or not whole
pub stops_writing : (folder folder_after : FolderSeen) (devices devices_after : List (Option DeviceSeen)) (words : List (List ℕ)) (assembly : Assembly) (loaded : Loaded) (bytes : List ℕ) (cause : Cause) (journal : History) → IsAsmAsked words assembly → IsLoaded folder.tree loaded.listed.items loaded.tree → IsMade loaded assembly bytes → LeavesBeginning assembly.out bytes folder.tree folder_after.tree → NotWritten folder.failed_writes folder_after.failed_writes cause → folder_after.failed_reads ≡ folder.failed_reads → devices_after ≡ devices → journal.events ≡ [] → journal.budget ≡ 0 → StopsAs folder folder_after devices devices_after words cause journal
stops_writing folder folder_after devices devices_after words assembly loaded bytes cause journal asks is_loaded is_made left not_written reads same events budget = record {
  step = AtStoring not_written.fault;
  told = not_written.told;
  stops = λ notes notes_after. record {
    stores = inr (record {
      bytes = bytes;
      assembles = assembles folder.tree words assembly loaded bytes asks is_loaded is_made;
      partly = left;
      same_devices = same;
      no_event = events;
      no_budget = budget;
    });
    same_reads = reads;
    writes = not_written.writes;
  };
}

-- what was written, under other names
pub write_leaves : (path out given bytes : List ℕ) (old first new : Option (List Entry)) → path ≡ out → given ≡ bytes → old ≡ first → Leaves path (Some (file_at path given)) old new → Leaves out (Some (file_at out bytes)) first new
write_leaves path out given bytes old first new p g o leaves = rw (sym p, sym g, sym o) leaves

pub write_begins : (path out given bytes : List ℕ) (old first new : Option (List Entry)) → path ≡ out → given ≡ bytes → old ≡ first → LeavesBeginning path given old new → LeavesBeginning out bytes first new
write_begins path out given bytes old first new p g o leaves = rw (sym p, sym g, sym o) leaves
