-- Worked rows: what single requests change, and what their replies acknowledge.
use Rattle.std.proofs.Common.{◌≡◌, ℕ, true, false, cond, ◌||◌, List, [], ◌∷◌, length, Option, Some, None, is_none, unwrap_or, ap, refl}
use Rattle.std.specs.Prelude.{codes}
use Rattle.std.specs.FinMap as map
use Rattle.std.specs.FinMap.{gets}
use Rattle.ufs_model.specs.PosixTree.{PosixTree, is_number}
use Rattle.ufs_model.specs.Walk.{file_of}
use Rattle.ufs_model.specs.FileBytes.{content, place_of}
use Rattle.ufs_model.specs.Descriptors.{opened, closed}
use Rattle.ufs_model.specs.History.{goes_on}
use Rattle.ufs_model.proofs.Facts.Orders.{fd_total}
use Rattle.ufs_model.specs.declared.data.Desc.{Desc}
use Rattle.ufs_model.specs.declared.data.Errno.TheVariants.{Eexist, Ebadf}
use Rattle.ufs_model.specs.declared.data.Excuse.TheVariants as excuse
use Rattle.ufs_model.specs.declared.data.Node.{Node}
use Rattle.ufs_model.specs.declared.data.Node.TheVariants.{Dir, File}
use Rattle.ufs_model.specs.declared.data.Op.{Op}
use Rattle.ufs_model.specs.declared.data.Op.TheVariants as op
use Rattle.ufs_model.specs.declared.data.Reply.{Reply}
use Rattle.ufs_model.specs.declared.data.Reply.TheVariants as reply
use Rattle.ufs_crash_laws.specs.Steps.{Step, steps, is_served, is_ok, before_last}
use Rattle.ufs_crash_laws.specs.Changes.{names_of, written_at, change_of, names_by, names_after, is_fsync_of, syncs_file, syncs_names}
use Rattle.ufs_crash_laws.proofs.Rows.Sessions.{entry, desc}
use Rattle.ufs_crash_laws.specs.declared.data.FileChange.{FileChange}
use Rattle.ufs_crash_laws.specs.declared.data.FileChange.TheVariants as change

-- ---- a file of two bytes, open as 3 at its end; and the root, open as 4

abbrev root_desc : Desc
root_desc = record { file = None; at = 0; read = true; write = false; append = false }

abbrev tree : PosixTree
tree = record { paths = map.insert (map.insert map.empty (codes "/") Dir) (codes "/f") (File 0); bytes = map.insert map.empty 0 (codes "aa"); fds = map.insert (map.insert map.empty (0, 3) (desc 0 2)) (0, 4) root_desc; next = 1 }

abbrev by_request : Op → Reply → Step
by_request request told = record { before = tree; entry = entry 0 request told }

file_3 : opened tree 0 3 ≡ desc 0 2
file_3 = let there : map.get tree.fds (0, 3) ≡ Some (desc 0 2) = simp (gets, fd_total) in ap (λ (o : Option Desc). unwrap_or o closed) there

root_4 : opened tree 0 4 ≡ root_desc
root_4 = let there : map.get tree.fds (0, 4) ≡ Some root_desc = simp (gets, fd_total) in ap (λ (o : Option Desc). unwrap_or o closed) there

file_there : map.get tree.paths (codes "/f") ≡ Some (File 0)
file_there = simp gets

none_there : map.get tree.paths (codes "/g") ≡ None
none_there = simp gets

-- ---- replies

-- any reply but a refusal and an excuse serves the request
a_count_serves : is_served (reply.Count 2) ≡ true
a_count_serves = refl

a_refusal_serves_nothing : is_served (reply.Refused Ebadf) ≡ false
a_refusal_serves_nothing = refl

an_excuse_serves_nothing : is_served (reply.Excused excuse.Memory) ≡ false
an_excuse_serves_nothing = refl

-- and `ok` alone acknowledges
a_count_is_no_ok : is_ok (reply.Count 2) ≡ false
a_count_is_no_ok = refl

-- ---- changes of a file

-- a `write` begins at the offset
a_write : change_of 0 (by_request (op.Write 3 (codes "bb")) (reply.Count 2)) ≡ change.Written 2 (codes "bb") ∷ []
a_write = ap (λ (d : Desc). cond (is_number 0 d.file) (written_at (place_of d (content tree.bytes d.file)) (codes "bb")) []) file_3

-- of one file alone
another_file : change_of 1 (by_request (op.Write 3 (codes "bb")) (reply.Count 2)) ≡ []
another_file = ap (λ (d : Desc). cond (is_number 1 d.file) (written_at (place_of d (content tree.bytes d.file)) (codes "bb")) []) file_3

-- with no byte it is no change
no_byte : change_of 0 (by_request (op.Write 3 []) (reply.Count 0)) ≡ []
no_byte = ap (λ (d : Desc). cond (is_number 0 d.file) (written_at (place_of d (content tree.bytes d.file)) []) []) file_3

a_refused_write : change_of 0 (by_request (op.Write 3 (codes "bb")) (reply.Refused Ebadf)) ≡ []
a_refused_write = refl

an_excused_write : change_of 0 (by_request (op.Write 3 (codes "bb")) (reply.Excused excuse.Memory)) ≡ []
an_excused_write = refl

-- a `pwrite` stands where it says
a_pwrite : change_of 0 (by_request (op.Pwrite 3 (codes "bb") 7) (reply.Count 2)) ≡ change.Written 7 (codes "bb") ∷ []
a_pwrite = ap (λ (d : Desc). cond (is_number 0 d.file) (change.Written 7 (codes "bb") ∷ []) []) file_3

-- a `trunc` is a change, also one to the size that the file has
a_trunc : change_of 0 (by_request (op.Trunc 3 2) reply.Done) ≡ change.Resized 2 ∷ []
a_trunc = ap (λ (d : Desc). cond (is_number 0 d.file) (change.Resized 2 ∷ []) []) file_3

-- so is an `open` with `trunc`, of a file that is there,
open_with_trunc : change_of 0 (by_request (op.OpenFile (codes "/f") false true false false true false) (reply.Fd 5)) ≡ change.Resized 0 ∷ []
open_with_trunc = ap (λ o. cond {A = List FileChange} (is_number 0 (file_of o)) (change.Resized 0 ∷ []) []) file_there

open_without : change_of 0 (by_request (op.OpenFile (codes "/f") false true false false false false) (reply.Fd 5)) ≡ []
open_without = ap (λ o. cond {A = List FileChange} (is_number 0 (file_of o)) [] []) file_there

-- and not of one that it makes
open_of_a_new_file : change_of 1 (by_request (op.OpenFile (codes "/g") false true true false true false) (reply.Fd 5)) ≡ []
open_of_a_new_file = ap (λ o. cond {A = List FileChange} (is_number 1 (file_of o)) (change.Resized 0 ∷ []) []) none_there

a_read : change_of 0 (by_request (op.Pread 3 2 0) (reply.Got (codes "aa"))) ≡ []
a_read = refl

-- ---- changes of names

a_new_file : length (names_by (by_request (op.OpenFile (codes "/g") false true true false false false) (reply.Fd 5))) ≡ 1
a_new_file = ap (λ (o : Option Node). length (cond (is_none o) (names_of (goes_on tree (entry 0 (op.OpenFile (codes "/g") false true true false false false) (reply.Fd 5))) ∷ []) [])) none_there

an_old_file : names_by (by_request (op.OpenFile (codes "/f") false true true false true false) (reply.Fd 5)) ≡ []
an_old_file = ap (λ (o : Option Node). cond (is_none o) (names_of (goes_on tree (entry 0 (op.OpenFile (codes "/f") false true true false true false) (reply.Fd 5))) ∷ []) []) file_there

a_new_directory : length (names_by (by_request (op.Mkdir (codes "/d")) reply.Done)) ≡ 1
a_new_directory = refl

a_refused_directory : names_by (by_request (op.Mkdir (codes "/f")) (reply.Refused Eexist)) ≡ []
a_refused_directory = refl

a_new_name : length (names_by (by_request (op.Rename (codes "/f") (codes "/g")) reply.Done)) ≡ 1
a_new_name = refl

-- a `rename` onto itself changes nothing, however the two texts are spelled
the_same_name : names_by (by_request (op.Rename (codes "/f") (codes "//f")) reply.Done) ≡ []
the_same_name = refl

a_write_changes_no_name : names_by (by_request (op.Write 3 (codes "bb")) (reply.Count 2)) ≡ []
a_write_changes_no_name = refl

-- before any change there are the opening names
no_change_yet : names_after tree [] 0 ≡ names_of tree
no_change_yet = refl

-- ---- acknowledgements

an_fsync : syncs_file 0 (by_request (op.Fsync 3) reply.Done) ≡ true
an_fsync = ap (λ (d : Desc). is_number 0 d.file || false) file_3

-- of one file alone,
an_fsync_of_another : syncs_file 1 (by_request (op.Fsync 3) reply.Done) ≡ false
an_fsync_of_another = ap (λ (d : Desc). is_number 1 d.file || false) file_3

-- and not of names
an_fsync_and_names : syncs_names (by_request (op.Fsync 3) reply.Done) ≡ false
an_fsync_and_names = ap (λ (d : Desc). is_none d.file || false) file_3

an_fsync_of_a_directory : syncs_names (by_request (op.Fsync 4) reply.Done) ≡ true
an_fsync_of_a_directory = ap (λ (d : Desc). is_none d.file || false) root_4

and_of_no_file : syncs_file 0 (by_request (op.Fsync 4) reply.Done) ≡ false
and_of_no_file = ap (λ (d : Desc). is_number 0 d.file || false) root_4

a_sync_of_files : (file : ℕ) → syncs_file file (by_request op.Sync reply.Done) ≡ true
a_sync_of_files file = refl

a_sync_of_names : syncs_names (by_request op.Sync reply.Done) ≡ true
a_sync_of_names = refl

-- one that is excused acknowledges nothing
an_excused_fsync : syncs_file 0 (by_request (op.Fsync 3) (reply.Excused (excuse.Device 1))) ≡ false
an_excused_fsync = refl

an_excused_sync : syncs_names (by_request op.Sync (reply.Excused (excuse.Device 1))) ≡ false
an_excused_sync = refl

-- a `sync` covers births with the names, and is no `fsync` of a file
a_sync_is_no_fsync : is_fsync_of 0 (by_request op.Sync reply.Done) ≡ false
a_sync_is_no_fsync = refl

-- ---- what stands before the last

abbrev counted : ℕ → Reply → Step
counted n told = record { before = tree; entry = entry n op.Sync told }

-- what stands before the last that passes is counted, with what stands before the first, and the last itself isn't
before_the_last : before_last (λ s. is_ok s.entry.reply) (λ s. s.entry.seq) (counted 1 (reply.Count 0) ∷ counted 20 reply.Done ∷ counted 300 (reply.Count 0) ∷ counted 4000 reply.Done ∷ counted 50000 (reply.Count 0) ∷ []) ≡ 321
before_the_last = refl

before_none : before_last (λ s. is_ok s.entry.reply) (λ s. s.entry.seq) (counted 1 (reply.Count 0) ∷ counted 20 (reply.Count 0) ∷ []) ≡ 0
before_none = refl

-- ---- the trees between

-- an excused entry leaves the tree to the next one
after_an_excuse : steps tree (entry 0 (op.Mkdir (codes "/d")) (reply.Excused excuse.Memory) ∷ entry 1 op.Sync reply.Done ∷ [])
    ≡ by_request (op.Mkdir (codes "/d")) (reply.Excused excuse.Memory) ∷ record { before = tree; entry = entry 1 op.Sync reply.Done } ∷ []
after_an_excuse = refl
