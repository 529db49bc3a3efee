-- A worked session: new bytes are written and synced under another name, which then takes the place of the old one.
use Rattle.std.proofs.Common.{◌≡◌, ◌≤◌, ◌<◌, ℕ, zero, suc, ◌+◌, ◌⊎◌, inl, inr, Bool, true, false, cond, ◌||◌, eqb, List, [], ◌∷◌, ◌++◌, length, get_or, map, Option, Some, None, is_none, unwrap_or, ap, sym, refl, ◌∙◌, subst, arith}
use Rattle.std.proofs.lemmas.Bool.{eqb-true}
use Rattle.std.specs.Prelude.{codes}
use Rattle.std.specs.List.{flat_map, list_any}
use Rattle.std.specs.Ordering.{eq_by_cmp}
use Rattle.std.specs.FinMap as fin
use Rattle.std.specs.FinMap.{gets, same_map, put, entries-insert}
use Rattle.ufs_model.specs.Order.{path_cmp}
use Rattle.ufs_model.specs.PosixTree.{PosixTree, Paths, is_number}
use Rattle.ufs_model.specs.Walk.{file_of}
use Rattle.ufs_model.specs.Directories.{renamed, renamed_path}
use Rattle.ufs_model.specs.FileBytes.{content, place_of}
use Rattle.ufs_model.specs.Start.{PathNodes, path_root}
use Rattle.ufs_model.specs.Descriptors.{lowest_free, opened, closed}
use Rattle.ufs_model.specs.Refusals.{refusal}
use Rattle.ufs_model.specs.Posix.{posix, served}
use Rattle.ufs_model.proofs.Facts.Orders.{path_total, path_same, fd_total}
use Rattle.ufs_model.proofs.Facts.Rising.{entries-empty}
use Rattle.ufs_model.proofs.Facts.Lookups.{one_key, removed_here, removed_else, is_apart}
use Rattle.ufs_model.specs.declared.data.Desc.{Desc}
use Rattle.ufs_model.specs.declared.data.Entry.{Entry}
use Rattle.ufs_model.specs.declared.data.Node.{Node}
use Rattle.ufs_model.specs.declared.data.Node.TheVariants.{Dir, File}
use Rattle.ufs_model.specs.declared.data.Op.TheVariants as op
use Rattle.ufs_model.specs.declared.data.PathNode.TheVariants as path_node
use Rattle.ufs_model.specs.declared.data.Reply.TheVariants as reply
use Rattle.ufs_crash_laws.specs.Steps.{before_last}
use Rattle.ufs_crash_laws.specs.Changes.{NameState, names_of, written_at, change_of, changes_of, names_by, name_changes, names_after, syncs_file, syncs_names, is_fsync_of, file_synced, names_synced, is_fsynced}
use Rattle.ufs_crash_laws.specs.Explained.{IsTreeWith, IsExplained}
use Rattle.ufs_crash_laws.proofs.Facts.Entries.{names_forget}
use Rattle.ufs_crash_laws.proofs.Facts.Shows.{shown_then}
use Rattle.ufs_crash_laws.proofs.Facts.Explains.{file_there, none_there}
use Rattle.ufs_crash_laws.proofs.Rows.Sessions.{entry, desc, Worked, history_of, IsWorked, walked, steps_walked, with_file, HasFile, HasNone, both_empty, both_inserted, IsFileRow, Shows, row_shows, shows_row, names_at, same_bytes, all_synced, all_shown}
use Rattle.ufs_crash_laws.proofs.Rows.OneFile.{or_false}
use Rattle.ufs_crash_laws.specs.declared.data.FileChange.{FileChange}
use Rattle.ufs_crash_laws.specs.declared.data.FileChange.TheVariants as change

-- ---- the session

abbrev start : PosixTree
start = record { paths = fin.insert (fin.insert fin.empty (codes "/") Dir) (codes "/c") (File 0); bytes = fin.insert fin.empty 0 (codes "old"); fds = fin.empty; next = 1 }

abbrev opens : Entry
opens = entry 0 (op.OpenFile (codes "/n") true true true true false false) (reply.Fd 3)

abbrev writes : Entry
writes = entry 1 (op.Write 3 (codes "new")) (reply.Count 3)

abbrev fsyncs : Entry
fsyncs = entry 2 (op.Fsync 3) reply.Done

abbrev renames : Entry
renames = entry 3 (op.Rename (codes "/n") (codes "/c")) reply.Done

abbrev made : PosixTree
made = record { paths = fin.insert start.paths (codes "/n") (File 1); bytes = fin.insert start.bytes 1 []; fds = fin.insert fin.empty (0, 3) (desc 1 0); next = 2 }

abbrev written : PosixTree
written = record made { bytes = fin.insert made.bytes 1 (codes "new"); fds = fin.insert made.fds (0, 3) (desc 1 3) }

abbrev after : PosixTree
after = (posix written 0 renames.op).0

made_is : posix start 0 opens.op ≡ (made, reply.Fd 3)
unfolding lowest_free
made_is = simp gets

written_is : posix made 0 writes.op ≡ (written, reply.Count 3)
written_is = simp (gets, fd_total)

fsynced_is : posix written 0 fsyncs.op ≡ (written, reply.Done)
fsynced_is = simp (gets, fd_total)

abbrev session : Worked
session = (opens, made) ∷ (writes, written) ∷ (fsyncs, written) ∷ (renames, after) ∷ []

worked : IsWorked start session
worked = ((λ i. (made_is i).0), ((λ i. (written_is i).0), ((λ i. (fsynced_is i).0), (refl, tt))))

-- ---- the names after the rename

passes : refusal written 0 renames.op ≡ None
passes = simp gets

abbrev left : Paths
left = fin.insert (fin.insert fin.empty (codes "/") Dir) (codes "/n") (File 1)

without_old : fin.remove written.paths (codes "/c") ≡ left
without_old = same_map path_total path_same (fin.remove written.paths (codes "/c")) left (λ q. by q (eq_by_cmp path_cmp q (codes "/c")) refl)
  where
    none : fin.get left (codes "/c") ≡ None
    none = simp gets

    by : (q : List ℕ) (b : Bool) → eq_by_cmp path_cmp q (codes "/c") ≡ b → fin.get (fin.remove written.paths (codes "/c")) q ≡ fin.get left q
    by q true e =
        let here = one_key path_total path_same q (codes "/c") e in
        ap (fin.get (fin.remove written.paths (codes "/c"))) here ∙ removed_here path_total path_same written.paths (codes "/c") ∙ sym none
        ∙ ap (fin.get left) (sym here)
    by q false e = removed_else path_total path_same written.paths (codes "/c") q (is_apart path_total path_same q (codes "/c") e) ∙ simp (gets, e)

left_entries : fin.entries (fin.remove written.paths (codes "/c")) ≡ (codes "/", Dir) ∷ (codes "/n", File 1) ∷ []
left_entries = ap fin.entries without_old ∙ entries-insert path_total (fin.insert fin.empty (codes "/") Dir) (codes "/n") (File 1)
    ∙ ap (put path_cmp (codes "/n") (File 1)) (entries-insert path_total fin.empty (codes "/") Dir ∙ ap (put path_cmp (codes "/") Dir) (entries-empty path_cmp Node))

abbrev replaced : Paths
replaced = fin.from_entries ((codes "/", Dir) ∷ (codes "/c", File 1) ∷ [])

renamed_is : renamed written.paths (codes "/n") (codes "/c") ≡ replaced
renamed_is = ap (λ es. fin.from_entries (map (λ e. (renamed_path (codes "/n") (codes "/c") e.0, e.1)) es)) left_entries

after_is : names_of after ≡ record { paths = replaced; next = 2 }
after_is =
    ap (λ o. names_of (served written 0 renames.op o).0) passes
    ∙ names_forget (record written { paths = renamed written.paths (codes "/n") (codes "/c") }) (file_of (fin.get written.paths (codes "/c")))
    ∙ (λ i. record { paths = renamed_is i; next = 2 })

-- ---- what it changes

nothing_there : fin.get start.paths (codes "/n") ≡ None
nothing_there = simp gets

desc_made : opened made 0 3 ≡ desc 1 0
desc_made = let there : fin.get made.fds (0, 3) ≡ Some (desc 1 0) = simp (gets, fd_total) in ap (λ (o : Option Desc). unwrap_or o closed) there

desc_written : opened written 0 3 ≡ desc 1 3
desc_written = let there : fin.get written.fds (0, 3) ≡ Some (desc 1 3) = simp (gets, fd_total) in ap (λ (o : Option Desc). unwrap_or o closed) there

change_0 : (file : ℕ) → change_of file (record { before = start; entry = opens }) ≡ []
change_0 file = ap (λ o. cond {A = List FileChange} (is_number file (file_of o)) [] []) nothing_there

change_1 : (file : ℕ) → change_of file (record { before = made; entry = writes }) ≡ cond (eqb 1 file) (change.Written 0 (codes "new") ∷ []) []
change_1 file = ap (λ (d : Desc). cond (is_number file d.file) (written_at (place_of d (content made.bytes d.file)) (codes "new")) []) desc_made

changed : (file : ℕ) → changes_of file start (history_of session) ≡ cond (eqb 1 file) (change.Written 0 (codes "new") ∷ []) [] ++ []
changed file = ap (flat_map (change_of file)) (steps_walked start session worked) ∙ (λ i. change_0 file i ++ (change_1 file i ++ ([] ++ ([] ++ []))))

counted : (file : ℕ) → file_synced file start (history_of session) ≡ cond (eqb 1 file) 1 0
counted file =
    ap (before_last (syncs_file file) (λ s. length (change_of file s))) (steps_walked start session worked)
    ∙ (λ i. let b = (is_number file (desc_written i).file || false) || false in cond b (length (change_0 file i) + cond b (length (change_1 file i) + 0) 0) 0)
    ∙ by (eqb 1 file)
  where
    by : (b : Bool) → cond ((b || false) || false) (0 + cond ((b || false) || false) (length (cond b (change.Written 0 (codes "new") ∷ []) []) + 0) 0) 0 ≡ cond b 1 0
    by true = refl
    by false = refl

old_row : IsFileRow start (history_of session) 0 (codes "old") [] 0
old_row = record {
  opened = let there : fin.get start.bytes 0 ≡ Some (codes "old") = simp gets in ap (λ (o : Option (List ℕ)). unwrap_or o []) there;
  changed = changed 0;
  counted = counted 0;
}

new_row : IsFileRow start (history_of session) 1 [] (change.Written 0 (codes "new") ∷ []) 1
new_row = record {
  opened = let none : fin.get start.bytes 1 ≡ None = simp gets in ap (λ (o : Option (List ℕ)). unwrap_or o []) none;
  changed = changed 1;
  counted = counted 1;
}

abbrev names : List NameState
names = names_of made ∷ record { paths = replaced; next = 2 } ∷ []

names_are : name_changes start (history_of session) ≡ names_of made ∷ record { paths = replaced; next = 2 } ∷ []
names_are = ap (flat_map names_by) (steps_walked start session worked) ∙ (λ i. cond (is_none (nothing_there i)) (names_of (made_is i).0 ∷ []) [] ++ (after_is i ∷ []))

-- no `fsync` of a directory and no `sync`
none_synced : names_synced start (history_of session) ≡ 0
none_synced =
    ap (before_last syncs_names (λ s. length (names_by s))) (steps_walked start session worked)
    ∙ ap (λ (d : Desc). cond ((is_none d.file || false) || false) (length (names_by (record { before = start; entry = opens })) + before_last syncs_names (λ s. length (names_by s)) (walked made ((writes, written) ∷ (fsyncs, written) ∷ (renames, after) ∷ []))) 0) desc_written

fsynced : (file : ℕ) → is_fsynced file start (history_of session) ≡ eqb 1 file
fsynced file = ap (list_any (is_fsync_of file)) (steps_walked start session worked) ∙ (λ i. is_number file (desc_written i).file || false) ∙ or_false (eqb 1 file)

born : (file : ℕ) → is_fsynced file start (history_of session) ≡ true → file < 2
born file e = let one = eqb-true 1 file (sym (fsynced file) ∙ e) in omega (arith, one)

-- ---- what a crash may leave

abbrev Has : ℕ → List ℕ → Type 0
Has file bytes = Shows start (history_of session) file bytes

old_exactly : (bytes : List ℕ) → Shows start (history_of session) 0 bytes → bytes ≡ codes "old"
old_exactly bytes shows = all_synced (codes "old") [] bytes (row_shows start (history_of session) 0 (codes "old") [] 0 old_row bytes shows)

new_exactly : (bytes : List ℕ) → Shows start (history_of session) 1 bytes → bytes ≡ codes "new"
new_exactly bytes shows = all_synced [] (change.Written 0 (codes "new") ∷ []) bytes (row_shows start (history_of session) 1 [] (change.Written 0 (codes "new") ∷ []) 1 new_row bytes shows)

old_shown : Shows start (history_of session) 0 (codes "old")
old_shown = shows_row start (history_of session) 0 (codes "old") [] 0 old_row (codes "old") (all_shown (codes "old") [])

new_shown : Shows start (history_of session) 1 (codes "new")
new_shown = shows_row start (history_of session) 1 [] (change.Written 0 (codes "new") ∷ []) 1 new_row (codes "new") (all_shown [] (change.Written 0 (codes "new") ∷ []))

-- before the rename, the old bytes and the new ones each have a name
abbrev pub BothNames : PathNodes → Type 0
BothNames tree = HasFile tree (codes "/c") (codes "old") × HasFile tree (codes "/n") (codes "new")

-- after it the new bytes have the old ones' name
abbrev pub OneName : PathNodes → Type 0
OneName tree = HasFile tree (codes "/c") (codes "new") × HasNone tree (codes "/n")

abbrev names_of_count : ℕ → NameState
names_of_count count = get_or (names_of start ∷ names_of made ∷ record { paths = replaced; next = 2 } ∷ []) count (names_of start)

-- All of the rename is there, or nothing of it.
pub renamed_file_is_old_or_new : (tree : PathNodes) → IsExplained tree start (history_of session) → BothNames tree ⊎ OneName tree
renamed_file_is_old_or_new tree is = by is.names (subst (λ (ns : List NameState). is.names ≤ length ns) names_are is.made) refl
  where
    names_then : (count : ℕ) → is.names ≡ count → names_after start (history_of session) is.names ≡ names_of_count count
    names_then count e = names_at start (history_of session) (names_of made ∷ record { paths = replaced; next = 2 } ∷ []) names_are is.names ∙ ap (λ count. names_of_count count) e

    file_at : (count : ℕ) → is.names ≡ count → (path : List ℕ) (file : ℕ) → fin.get (names_of_count count).paths path ≡ Some (File file) → (bytes : List ℕ) × HasFile tree path bytes × Shows start (history_of session) file bytes
    file_at count e path file named =
        file_there (Shows start (history_of session)) (fin.get (names_after start (history_of session) is.names).paths path) (fin.get tree path) file (ap (λ (n : NameState). fin.get n.paths path) (names_then count e) ∙ named) (is.shown path)

    none_at : (count : ℕ) → is.names ≡ count → (path : List ℕ) → fin.get (names_of_count count).paths path ≡ None → HasNone tree path
    none_at count e path none =
        none_there (Shows start (history_of session)) (fin.get (names_after start (history_of session) is.names).paths path) (fin.get tree path) (ap (λ (n : NameState). fin.get n.paths path) (names_then count e) ∙ none) (is.shown path)

    by : (count : ℕ) → count ≤ 2 → is.names ≡ count → BothNames tree ⊎ OneName tree
    by zero low e = let below = is.born 1 (fsynced 1) in let next = ap (λ (n : NameState). n.next) (names_then 0 e) in absurd (omega (arith, below, next))
    by (suc zero) low e =
        let old = file_at 1 e (codes "/c") 0 (simp gets) in
        let new = file_at 1 e (codes "/n") 1 (simp gets) in
        inl (old.1 ∙ ap (λ bytes. Some (path_node.File bytes)) (old_exactly old.0 old.2), new.1 ∙ ap (λ bytes. Some (path_node.File bytes)) (new_exactly new.0 new.2))
    by (suc (suc zero)) low e =
        let new = file_at 2 e (codes "/c") 1 (simp gets) in
        inr (new.1 ∙ ap (λ bytes. Some (path_node.File bytes)) (new_exactly new.0 new.2), none_at 2 e (codes "/n") (simp gets))
    by (suc (suc (suc n))) low e = absurd (omega arith)

-- Both may be left.
abbrev pub both_names : PathNodes
both_names = fin.insert (with_file (codes "/c") (codes "old")) (codes "/n") (path_node.File (codes "new"))

abbrev pub one_name : PathNodes
one_name = fin.from_entries ((codes "/", path_node.Dir) ∷ (codes "/c", path_node.File (codes "new")) ∷ [])

pub both_names_are_explained : IsExplained both_names start (history_of session)
both_names_are_explained = record {
  names = 1;
  made = subst (λ (ns : List NameState). 1 ≤ length ns) (sym names_are) (omega arith);
  synced = omega (arith, none_synced);
  born = λ file e. subst (λ (n : NameState). file < n.next) (sym (names_at start (history_of session) names names_are 1)) (born file e);
  shown = subst (λ (n : NameState). IsTreeWith (Shows start (history_of session)) n.paths both_names) (sym (names_at start (history_of session) names names_are 1))
      (both_inserted (Shows start (history_of session)) start.paths (with_file (codes "/c") (codes "old")) (codes "/n") (File 1) (path_node.File (codes "new")) new_shown
      (both_inserted (Shows start (history_of session)) (fin.insert fin.empty (codes "/") Dir) (fin.insert fin.empty (codes "/") path_node.Dir) (codes "/c") (File 0) (path_node.File (codes "old")) old_shown
      (both_inserted (Shows start (history_of session)) fin.empty fin.empty (codes "/") Dir path_node.Dir tt (both_empty (Shows start (history_of session))))));
}

pub one_name_is_explained : IsExplained one_name start (history_of session)
one_name_is_explained = record {
  names = 2;
  made = subst (λ (ns : List NameState). 2 ≤ length ns) (sym names_are) (omega arith);
  synced = omega (arith, none_synced);
  born = λ file e. subst (λ (n : NameState). file < n.next) (sym (names_at start (history_of session) names names_are 2)) (born file e);
  shown = subst (λ (n : NameState). IsTreeWith (Shows start (history_of session)) n.paths one_name) (sym (names_at start (history_of session) names names_are 2))
      (both_inserted (Shows start (history_of session)) (fin.insert fin.empty (codes "/c") (File 1)) (fin.insert fin.empty (codes "/c") (path_node.File (codes "new"))) (codes "/") Dir path_node.Dir tt
      (both_inserted (Shows start (history_of session)) fin.empty fin.empty (codes "/c") (File 1) (path_node.File (codes "new")) new_shown (both_empty (Shows start (history_of session)))));
}

-- A rename isn't seen half: the old bytes without the new name's, which were synced,
pub old_name_alone_is_not_explained : IsExplained (with_file (codes "/c") (codes "old")) start (history_of session) → ⊥
old_name_alone_is_not_explained is = by (renamed_file_is_old_or_new _ is)
  where
    old : HasFile (with_file (codes "/c") (codes "old")) (codes "/c") (codes "old")
    old = simp gets

    none : HasNone (with_file (codes "/c") (codes "old")) (codes "/n")
    none = simp gets

    by : BothNames (with_file (codes "/c") (codes "old")) ⊎ OneName (with_file (codes "/c") (codes "old")) → ⊥
    by (inl both) = let e = sym none ∙ both.1 in cc
    by (inr one) = let first = ap (λ bytes. get_or bytes 0 0) (same_bytes _ (codes "/c") (codes "old") (codes "new") old one.0) in omega (arith, first)

-- the new bytes under both names,
abbrev twice : PathNodes
twice = fin.insert (with_file (codes "/c") (codes "new")) (codes "/n") (path_node.File (codes "new"))

pub two_new_names_are_not_explained : IsExplained twice start (history_of session) → ⊥
two_new_names_are_not_explained is = by (renamed_file_is_old_or_new _ is)
  where
    new : HasFile twice (codes "/c") (codes "new")
    new = simp gets

    there : HasFile twice (codes "/n") (codes "new")
    there = simp gets

    by : BothNames twice ⊎ OneName twice → ⊥
    by (inl both) = let first = ap (λ bytes. get_or bytes 0 0) (same_bytes twice (codes "/c") (codes "new") (codes "old") new both.0) in omega (arith, first)
    by (inr one) = let e = sym there ∙ one.1 in cc

-- or neither.
pub no_name_is_not_explained : IsExplained path_root start (history_of session) → ⊥
no_name_is_not_explained is = by (renamed_file_is_old_or_new _ is)
  where
    none : HasNone path_root (codes "/c")
    none = simp gets

    by : BothNames path_root ⊎ OneName path_root → ⊥
    by (inl both) = let e = sym none ∙ both.0 in cc
    by (inr one) = let e = sym none ∙ one.0 in cc

-- ---- without the `fsync`

abbrev quick : Worked
quick = (opens, made) ∷ (writes, written) ∷ (renames, after) ∷ []

quick_worked : IsWorked start quick
quick_worked = ((λ i. (made_is i).0), ((λ i. (written_is i).0), (refl, tt)))

quick_names : name_changes start (history_of quick) ≡ names_of made ∷ record { paths = replaced; next = 2 } ∷ []
quick_names = ap (flat_map names_by) (steps_walked start quick quick_worked) ∙ (λ i. cond (is_none (nothing_there i)) (names_of (made_is i).0 ∷ []) [] ++ (after_is i ∷ []))

quick_row : IsFileRow start (history_of quick) 1 [] (change.Written 0 (codes "new") ∷ []) 0
quick_row = record {
  opened = new_row.opened;
  changed = ap (flat_map (change_of 1)) (steps_walked start quick quick_worked) ∙ (λ i. change_0 1 i ++ (change_1 1 i ++ ([] ++ [])));
  counted = refl;
}

abbrev pub empty_name : PathNodes
empty_name = fin.from_entries ((codes "/", path_node.Dir) ∷ (codes "/c", path_node.File []) ∷ [])

-- Names and bytes have prefixes of their own: the new name may be there without the new bytes, and the old bytes are gone.
pub an_empty_file_is_explained : IsExplained empty_name start (history_of quick)
an_empty_file_is_explained = record {
  names = 2;
  made = subst (λ (ns : List NameState). 2 ≤ length ns) (sym quick_names) (omega arith);
  synced = omega arith;
  born = λ file e. cc;
  shown = subst (λ (n : NameState). IsTreeWith (Shows start (history_of quick)) n.paths empty_name) (sym (names_at start (history_of quick) names quick_names 2))
      (both_inserted (Shows start (history_of quick)) (fin.insert fin.empty (codes "/c") (File 1)) (fin.insert fin.empty (codes "/c") (path_node.File [])) (codes "/") Dir path_node.Dir tt
      (both_inserted (Shows start (history_of quick)) fin.empty fin.empty (codes "/c") (File 1) (path_node.File []) empty_shown (both_empty (Shows start (history_of quick)))));
}
  where
    empty_shown : Shows start (history_of quick) 1 []
    empty_shown = shows_row start (history_of quick) 1 [] (change.Written 0 (codes "new") ∷ []) 0 quick_row []
        (record { count = 0; covers = omega arith; shown = shown_then [] (change.Written 0 (codes "new") ∷ []) 0 (omega arith) })
