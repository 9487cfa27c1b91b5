-- What is outside the program, as far as it is seen: the folder, the devices and the notes.
-- The project's own.
use Rattle.std.specs.Prelude.{ℕ, List, Option}
use Rattle.dev_board.specs.Seen.{DeviceSeen, devices_seen}
use Rattle.image_store.specs.declared.folder.Entry.{Entry}

-- the folder's entries, where it tells them, and how many of its reads and writes failed
pub record FolderSeen : Type 0 where
  pub tree : Option (List Entry)
  pub failed_reads : ℕ
  pub failed_writes : ℕ

-- what the notes hold, where they tell that, and how many of their writes failed
pub record NotesSeen : Type 0 where
  pub held : Option (List ℕ)
  pub failed_writes : ℕ

pub record Outside : Type 0 where
  pub folder : FolderSeen
  -- by their numbers; none where one was let go
  pub devices : List (Option DeviceSeen)
  pub notes : NotesSeen

abbrev pub folder_seen : {F : Type 0} → (F → Option (List Entry)) → (F → ℕ) → (F → ℕ) → F → FolderSeen
folder_seen tree reads writes folder = record { tree = tree folder; failed_reads = reads folder; failed_writes = writes folder }

abbrev pub notes_seen : {K : Type 0} → (K → Option (List ℕ)) → (K → ℕ) → K → NotesSeen
notes_seen held writes notes = record { held = held notes; failed_writes = writes notes }

abbrev pub outside : FolderSeen → List (Option DeviceSeen) → NotesSeen → Outside
outside folder devices notes = record { folder = folder; devices = devices; notes = notes }
