-- Sessions that make one file and sync it: which trees they explain.
use Rattle.std.proofs.Common.{◌≡◌, ◌≤◌, ◌<◌, ℕ, zero, suc, Bool, true, false, ◌||◌, eqb, List, [], ◌∷◌, length, get_or, Option, Some, None, unwrap_or, ap, sym, refl, ◌∙◌, subst, arith}
use Rattle.std.proofs.lemmas.Bool.{eqb-true}
use Rattle.std.specs.Prelude.{codes}
use Rattle.std.specs.FinMap as map
use Rattle.std.specs.FinMap.{gets}
use Rattle.ufs_model.specs.PosixTree.{PosixTree, root_alone}
use Rattle.ufs_model.specs.FileBytes.{bytes_of}
use Rattle.ufs_model.specs.Start.{PathNodes}
use Rattle.ufs_model.specs.Descriptors.{lowest_free}
use Rattle.ufs_model.specs.Posix.{posix}
use Rattle.ufs_model.specs.declared.data.Entry.{Entry}
use Rattle.ufs_model.specs.declared.data.Node.TheVariants.{Dir, File}
use Rattle.ufs_model.specs.declared.data.Op.TheVariants as op
use Rattle.ufs_model.specs.declared.data.PathNode.TheVariants as path_node
use Rattle.ufs_model.specs.declared.data.Reply.TheVariants as reply
use Rattle.ufs_crash_laws.specs.Changes.{NameState, names_of, name_changes, names_after, names_synced, is_fsynced}
use Rattle.ufs_crash_laws.specs.Explained.{IsTreeWith, ShowsSynced, IsExplained}
use Rattle.ufs_crash_laws.proofs.Facts.Explains.{file_there}
use Rattle.ufs_crash_laws.proofs.Facts.Sessions.{names_synced_made}
use Rattle.ufs_crash_laws.proofs.Rows.Sessions.{entry, desc, both_empty, both_inserted, with_file, HasFile, IsFileRow, Shows, row_shows, shows_row, names_at}
use Rattle.ufs_crash_laws.specs.declared.data.FileChange.{FileChange}

-- the file is made
abbrev pub opens : Entry
opens = entry 0 (op.OpenFile (codes "/f") true true true false false false) (reply.Fd 3)

abbrev pub made : PosixTree
made = record { paths = map.insert root_alone.paths (codes "/f") (File 0); bytes = map.insert map.empty 0 []; fds = map.insert map.empty (0, 3) (desc 0 0); next = 1 }

pub made_is : posix root_alone 0 opens.op ≡ (made, reply.Fd 3)
unfolding lowest_free
made_is = simp gets

stands_there : map.get made.paths (codes "/f") ≡ Some (File 0)
stands_there = simp gets

pub nothing_there : map.get root_alone.paths (codes "/f") ≡ None
nothing_there = simp gets

pub opening_is : bytes_of root_alone.bytes 0 ≡ []
opening_is = let none : map.get root_alone.bytes 0 ≡ None = simp gets in ap (λ (o : Option (List ℕ)). unwrap_or o []) none

pub file_is : (bytes : List ℕ) → map.get (with_file (codes "/f") bytes) (codes "/f") ≡ Some (path_node.File bytes)
file_is bytes = simp gets

pub or_false : (b : Bool) → (b || false) ≡ b
or_false true = refl
or_false false = refl

-- A history after which the names have changed once, as the file was made, and the file has an acknowledged `fsync`.
module _ (history : List Entry) (changes : List FileChange) (synced : ℕ) (row : IsFileRow root_alone history 0 [] changes synced)
    (names_are : name_changes root_alone history ≡ names_of made ∷ []) (fsynced : (file : ℕ) → is_fsynced file root_alone history ≡ eqb 0 file) where
  born : (file : ℕ) → is_fsynced file root_alone history ≡ true → file < 1
  born file e = let zero_is = eqb-true 0 file (sym (fsynced file) ∙ e) in omega (arith, zero_is)

  Has : ℕ → List ℕ → Type 0
  Has file bytes = Shows root_alone history file bytes

  -- Each such tree has the file, with bytes that its changes explain.
  pub file_is_there : (tree : PathNodes) → IsExplained tree root_alone history → (bytes : List ℕ) × HasFile tree (codes "/f") bytes × ShowsSynced [] changes synced bytes
  file_is_there tree is = by is.names (subst (λ (ns : List NameState). is.names ≤ length ns) names_are is.made) refl
    where
      by : (count : ℕ) → count ≤ 1 → is.names ≡ count → (bytes : List ℕ) × HasFile tree (codes "/f") bytes × ShowsSynced [] changes synced bytes
      by zero low e =
          let below = is.born 0 (fsynced 0) in
          let next = ap (λ (n : NameState). n.next) (names_at root_alone history (names_of made ∷ []) names_are is.names ∙ ap (λ count. get_or (names_of root_alone ∷ names_of made ∷ []) count (names_of root_alone)) e) in
          absurd (omega (arith, below, next))
      by (suc zero) low e =
          let names = names_at root_alone history (names_of made ∷ []) names_are is.names ∙ ap (λ count. get_or (names_of root_alone ∷ names_of made ∷ []) count (names_of root_alone)) e in
          let node = ap (λ (n : NameState). map.get n.paths (codes "/f")) names ∙ stands_there in
          let there = file_there (Shows root_alone history) (map.get (names_after root_alone history is.names).paths (codes "/f")) (map.get tree (codes "/f")) 0 node (is.shown (codes "/f")) in
          (there.0, there.1, row_shows root_alone history 0 [] changes synced row there.0 there.2)
      by (suc (suc n)) low e = absurd (omega arith)

  -- And each tree with the root and the file is one, where its changes explain its bytes.
  pub file_is_explained : (bytes : List ℕ) → ShowsSynced [] changes synced bytes → IsExplained (with_file (codes "/f") bytes) root_alone history
  file_is_explained bytes shows = record {
    names = 1;
    made = subst (λ (ns : List NameState). 1 ≤ length ns) (sym names_are) (omega arith);
    synced = subst (λ (ns : List NameState). names_synced root_alone history ≤ length ns) names_are (names_synced_made root_alone history);
    born = λ file e. subst (λ (n : NameState). file < n.next) (sym (names_at root_alone history (names_of made ∷ []) names_are 1)) (born file e);
    shown = subst (λ (n : NameState). IsTreeWith (Shows root_alone history) n.paths (with_file (codes "/f") bytes)) (sym (names_at root_alone history (names_of made ∷ []) names_are 1))
        (both_inserted (Shows root_alone history) root_alone.paths _ (codes "/f") (File 0) (path_node.File bytes) (shows_row root_alone history 0 [] changes synced row bytes shows)
        (both_inserted (Shows root_alone history) map.empty map.empty (codes "/") Dir path_node.Dir tt (both_empty (Shows root_alone history))));
  }
