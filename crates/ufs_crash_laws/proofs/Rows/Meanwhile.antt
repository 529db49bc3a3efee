-- Worked rows: what is explained while the history goes on, and what a disk has of it.
use Rattle.std.proofs.Common.{◌≡◌, ◌≤◌, ℕ, zero, suc, inl, Bool, true, false, cond, List, [], ◌∷◌, length, get_or, Some, None, ap, sym, refl, ◌∙◌, subst, arith}
use Rattle.std.specs.Prelude.{codes}
use Rattle.std.specs.Ordering.{eq_by_cmp}
use Rattle.std.specs.FinMap as map
use Rattle.std.specs.FinMap.{get-insert, get-empty, gets}
use Rattle.ufs_model.specs.Order.{path_cmp}
use Rattle.ufs_model.specs.PosixTree.{root_alone}
use Rattle.ufs_model.specs.FileBytes.{bytes_of}
use Rattle.ufs_model.specs.Start.{path_root}
use Rattle.ufs_model.proofs.Facts.Orders.{path_total}
use Rattle.ufs_model.specs.declared.data.Node.{Node}
use Rattle.ufs_model.specs.declared.data.Node.TheVariants.{Dir, File}
use Rattle.ufs_model.specs.declared.data.PathNode.TheVariants as path_node
use Rattle.ufs_crash_laws.specs.FileChanges.{IsShown}
use Rattle.ufs_crash_laws.specs.Changes.{NameState, names_of, names_after, changes_of}
use Rattle.ufs_crash_laws.specs.Explained.{IsNodeWith, IsExplainedFrom}
use Rattle.ufs_crash_laws.specs.Stored.{IsNamed, IsStored, IsKept}
use Rattle.ufs_crash_laws.specs.Mapped.{mapped}
use Rattle.ufs_crash_laws.proofs.Facts.Between.{explained_from}
use Rattle.ufs_crash_laws.proofs.Facts.Options.{options_shown}
use Rattle.ufs_crash_laws.proofs.Facts.Mapped.{get-mapped}
use Rattle.ufs_crash_laws.proofs.Facts.Keeps.{kept_start}
use Rattle.ufs_crash_laws.proofs.Rows.Sessions.{history_of, both_empty, both_inserted, names_at}
use Rattle.ufs_crash_laws.proofs.Rows.OneFile.{made}
use Rattle.ufs_crash_laws.proofs.Rows.Appended.{four, four_row, four_names, first_two, changes, root_alone_is_not_explained}
use Rattle.ufs_crash_laws.specs.declared.data.FileChange.{FileChange}

-- ---- while the history goes on

-- The opening tree is explained until the first `fsync` is acknowledged,
pub root_alone_is_explained_early : IsExplainedFrom path_root root_alone (history_of four) 0 2
root_alone_is_explained_early =
    explained_from root_alone (history_of four) 0 2 0 (λ _. 0) path_root
    (record { made = omega arith; shown = both_inserted _ map.empty map.empty (codes "/") Dir path_node.Dir tt (both_empty _) })
    (record { synced = omega arith; born = λ file e. cc; each = λ file. omega arith })

-- and not later.
pub root_alone_is_not_explained_later : IsExplainedFrom path_root root_alone (history_of four) 0 4 → ⊥
root_alone_is_not_explained_later is = root_alone_is_not_explained (is 4 (omega arith) (omega arith))

-- ---- trees in place of numbers

-- a file is no directory, and what stands in one tree alone is nowhere
no_directory : (Has : ℕ → List ℕ → Type 0) (bytes : List ℕ) → IsNodeWith Has (Some Dir) (Some (path_node.File bytes)) → ⊥
no_directory Has bytes h = h

nothing_more : (Has : ℕ → List ℕ → Type 0) → IsNodeWith Has None (Some path_node.Dir) → ⊥
nothing_more Has h = h

nothing_less : (Has : ℕ → List ℕ → Type 0) → IsNodeWith Has (Some (File 0)) None → ⊥
nothing_less Has h = h

-- ---- a disk that has the opening names, and in the file what was synced

root_node : (path : List ℕ) → map.get root_alone.paths path ≡ cond (eq_by_cmp path_cmp path (codes "/")) (Some Dir) None
root_node path =
    get-insert path_total (map.empty {X = Node} {R = path_cmp}) (codes "/") Dir path ∙ ap (cond (eq_by_cmp path_cmp path (codes "/")) (Some Dir)) (get-empty {X = Node} path_cmp path)

named_alone : (file : ℕ) → IsNamed made.paths file → file ≡ 0
named_alone file named =
    by (eq_by_cmp path_cmp named.0 (codes "/f")) (eq_by_cmp path_cmp named.0 (codes "/"))
    (sym named.1 ∙ get-insert path_total root_alone.paths (codes "/f") (File 0) named.0
    ∙ ap (cond (eq_by_cmp path_cmp named.0 (codes "/f")) (Some (File 0))) (root_node named.0))
  where
    by : (a b : Bool) → Some (File file) ≡ cond a (Some (File 0)) (cond b (Some Dir) None) → file ≡ 0
    by true b e = cc
    by false true e = cc
    by false false e = cc

none_named : (file : ℕ) → IsNamed root_alone.paths file → ⊥
none_named file named = by (eq_by_cmp path_cmp named.0 (codes "/")) (sym named.1 ∙ root_node named.0)
  where
    by : (b : Bool) → Some (File file) ≡ cond b (Some Dir) None → ⊥
    by true e = cc
    by false e = cc

-- the file shows one change in these bytes
abbrev ShowsOne : ℕ → List ℕ → Type 0
ShowsOne file bytes = IsShown (bytes_of root_alone.bytes file) (changes_of file root_alone (history_of four)) 1 bytes

pub synced_bytes_are_stored : IsStored root_alone (history_of four) 0 (λ _. 1) (λ _. codes "aa")
synced_bytes_are_stored = record { made = omega arith; each = λ count file from to named. by count file (subst (λ (ns : List NameState). count ≤ length ns) four_names to) named }
  where
    here : ShowsOne 0 (codes "aa")
    here = subst (λ (x : List ℕ × List FileChange). IsShown x.0 x.1 1 (codes "aa")) (λ i. (sym four_row.opened i, sym four_row.changed i)) (options_shown [] changes 1 (omega arith) (codes "aa") (inl refl, (inl refl, tt)))

    by : (count file : ℕ) → count ≤ 1 → IsNamed (names_after root_alone (history_of four) count).paths file → ShowsOne file (codes "aa")
    by zero file low named = absurd (none_named file named)
    by (suc zero) file low named =
        let zero_is = named_alone file (subst (λ (n : NameState). IsNamed n.paths file) (names_at root_alone (history_of four) (names_of made ∷ []) four_names 1) named) in
        subst (λ f. ShowsOne f (codes "aa")) (sym zero_is) here
    by (suc (suc n)) file low named = absurd (omega arith)

-- Other bytes are not, although the names that the disk has don't name the file yet: later ones do.
pub other_bytes_are_not_stored : IsStored root_alone (history_of four) 0 (λ _. 1) (λ _. codes "zz") → ⊥
other_bytes_are_not_stored stored =
    let first = ap (λ bytes. get_or bytes 0 0) (first_two (codes "zz") shown) in omega (arith, first)
  where
    named : IsNamed (names_after root_alone (history_of four) 1).paths 0
    named = (codes "/f", ap (λ (n : NameState). map.get n.paths (codes "/f")) (names_at root_alone (history_of four) (names_of made ∷ []) four_names 1) ∙ simp gets)

    shown : IsShown [] changes 1 (codes "zz")
    shown = subst (λ (x : List ℕ × List FileChange). IsShown x.0 x.1 1 (codes "zz")) (λ i. (four_row.opened i, four_row.changed i))
        (stored.each 1 0 (omega arith) (subst (λ (ns : List NameState). 1 ≤ length ns) (sym four_names) (omega arith)) named)

-- a disk with the root alone keeps the promise before any entry,
pub an_empty_disk_is_kept : IsKept root_alone [] 0 (λ _. 0) (λ _. [])
an_empty_disk_is_kept = kept_start root_alone (λ _. []) (λ file named. absurd (none_named file named)) (λ file above. refl)

-- and one that has bytes of a file which isn't made yet doesn't
pub stale_bytes_are_not_kept : IsKept root_alone [] 0 (λ _. 0) (λ _. codes "zz") → ⊥
stale_bytes_are_not_kept kept = let size = ap length (kept.fresh 7 (omega arith)).1 in omega (arith, size)

-- ---- a map with other values

lengths : map.get (mapped (λ bytes. length bytes) (map.insert {X = List ℕ} {R = path_cmp} map.empty (codes "/f") (codes "aaaa"))) (codes "/f") ≡ Some 4
lengths = get-mapped path_total (λ bytes. length bytes) (map.insert map.empty (codes "/f") (codes "aaaa")) (codes "/f") ∙ simp gets
