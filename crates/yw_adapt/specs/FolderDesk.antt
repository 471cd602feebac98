-- What a desk over a folder consists of, and the paths of its files.
use Rattle.std.specs.Prelude.{◌==◌, ℕ, List, length, codes, if◌then◌else◌, IsSome}
use Rattle.std.specs.Path.{path_buf_bytes, path_join}
use Rattle.std.specs.declared.option.Option.{Option}
use Rattle.yw_adapt.specs.declared.folder_desk.FolderDesk.{FolderDesk}
use Rattle.yw_adapt.specs.declared.slot.Slot.{Slot}
use Rattle.yw_outside.specs.declared.desk.File.{File}
use Rattle.yw_outside.specs.declared.desk.File.TheVariants.{A, B}

-- the folder that a text names: the present one where it is empty
abbrev pub folder_named : List ℕ → List ℕ
folder_named text = if length text == 0 then codes "." else text

-- the path of a file of a folder
abbrev pub path_in : List ℕ → File → List ℕ
path_in folder A = path_join folder (codes "yawl.a")
path_in folder B = path_join folder (codes "yawl.b")

-- a file of the desk
abbrev pub slot_of : {S O F : Type 0} {g : _} → FolderDesk S O F g → File → Slot S F g
slot_of d A = d.a
slot_of d B = d.b

-- the file that a call on this one leaves alone
abbrev pub other_of : {S O F : Type 0} {g : _} → FolderDesk S O F g → File → Slot S F g
other_of d A = d.b
other_of d B = d.a

-- the path of the desk's own
abbrev pub path_of : {S O F : Type 0} {g : _} → FolderDesk S O F g → File → List ℕ
path_of d f = path_buf_bytes (slot_of d f).path

-- the folder of the desk's own, as the file has it
abbrev pub folder_of : {S O F : Type 0} {g : _} → FolderDesk S O F g → File → List ℕ
folder_of d f = path_buf_bytes (slot_of d f).folder

-- the file that is open
abbrev pub file_of : {S O F : Type 0} {g : _} → FolderDesk S O F g → File → Option F
file_of d f = (slot_of d f).file

-- the file is open
abbrev pub IsOpen : {S O F : Type 0} {g : _} → FolderDesk S O F g → File → Type 0
IsOpen d f = IsSome (file_of d f)

-- the system under it
abbrev pub system_of : {S O F : Type 0} {g : _} → FolderDesk S O F g → S
system_of d = d.system

-- its output
abbrev pub out_of : {S O F : Type 0} {g : _} → FolderDesk S O F g → O
out_of d = d.out
