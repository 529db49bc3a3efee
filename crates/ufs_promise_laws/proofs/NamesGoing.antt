-- A disk goes on to a server's names.
use Rattle.std.proofs.Common.{◌≡◌, ℕ, ◌≤◌, List, Option, Some, None, length, ap, sym, refl, ◌∙◌, subst, arith}
use Rattle.std.specs.Option.{option_map}
use Rattle.std.specs.FinMap as map
use Rattle.ufs_layout.specs.declared.geometry.Geometry.{Geometry}
use Rattle.ufs_model.specs.PosixTree.{PosixTree}
use Rattle.ufs_model.specs.declared.data.Entry.{Entry}
use Rattle.ufs_crash_laws.specs.Changes.{name_changes, names_after}
use Rattle.ufs_crash_laws.specs.Stored.{IsNamed}
use Rattle.ufs_image.specs.Catalog.{Catalog, IsInode}
use Rattle.ufs_image.specs.Folding.{with_committed_in}
use Rattle.ufs_dir_tree.specs.DirTable.{DirTable}
use Rattle.ufs_ledger.specs.Ledger.{Stand}
use Rattle.ufs_ledger.specs.Kept.{Numbers, IsNumberedBy}
use Rattle.ufs_dir_tree.specs.Steps.{DirState, Step, after_all}
use Rattle.ufs_promise_laws.specs.Held.{HasState, MaySteps, HasSoundNames}
use Rattle.ufs_promise_laws.specs.ChangeLaws.{change, AreOlder, StepsAreNoted}
use Rattle.ufs_promise_laws.specs.Files.{KeepsInode, MayGoOn}
use Rattle.ufs_promise_laws.specs.Numbers.{NamesNumberPaths}
use Rattle.ufs_name_tree.specs.NameTable.{file_at}
use Rattle.ufs_names.specs.NamesPart.{NamesPart}
use Rattle.ufs_names.specs.declared.holding.Holding.{Holding}
use Rattle.ufs_promise_laws.specs.PathNumbers.{numbers_of}
use Rattle.ufs_promise_laws.specs.Going.{AreNamesBehind, HasNamesAfter}
use Rattle.ufs_promise_laws.proofs.NumberedPaths.{tells, have_numbers, unborn}

module _ (g : Geometry) (told : StepsAreNoted g) (number_paths : NamesNumberPaths g) (s : Stand) (d : DirState) (xs : List Step) (number : ℕ) (start : PosixTree) (history : List Entry) (names more : ℕ) (old : Numbers) (n : NamesPart) (t : PosixTree)
    (has : HasState g s.catalog d) (older : AreOlder g s.catalog number) (may : MaySteps g d xs) (sound : HasSoundNames g (after_all xs d)) (behind : AreNamesBehind (after_all xs d) n t) (tree : HasNamesAfter start history more t) (later : names ≤ more)
    (each : (count file : ℕ) → more ≤ count → count ≤ length (name_changes start history) → IsNamed (names_after start history count).paths file → KeepsInode xs old (numbers_of n) file) where
  abbrev c : Catalog
  c = with_committed_in g (change number d xs) s.catalog

  led : HasState g c (after_all xs d)
  led = told s.catalog d xs number has older may

  paths : IsNumberedBy c (numbers_of n) t.paths
  paths = number_paths c (after_all xs d) n.tree t.paths (numbers_of n) led sound behind.dirs behind.sound (tells n t behind.sound behind.part) (have_numbers n t behind.part)

  inodes : (file inode : ℕ) → (numbers_of n).inode file ≡ Some inode → IsInode g inode × ((after_all xs d).kinds inode ≡ 1)
  inodes file inode at = by (map.get n.held file) refl at
    where
      by : (o : Option Holding) → map.get n.held file ≡ o → option_map (λ (h : Holding). h.inode) o ≡ Some inode → IsInode g inode × ((after_all xs d).kinds inode ≡ 1)
      by None e none = absurd cc
      by (Some h) e same =
          let is : h.inode ≡ inode = cc in
          let at_inode = ap (file_at n.tree) (sym is) ∙ behind.part.inodes.inode file h e in
          let used = behind.sound.used inode file at_inode in
          let from = used.from_one in let most = used.within in
          let dirs = ap (λ (x : DirTable). length x.dirs) behind.dirs in let all = led.table.counted in
          (record { from_one = from; within = omega (arith, most, dirs, all) }, behind.files inode file at_inode)

  pub may_go_on : MayGoOn g s d xs number start history names more old (numbers_of n)
  may_go_on = record {
    state = has;
    older = older;
    steps = may;
    later = later;
    made = tree.made;
    paths = subst (IsNumberedBy c (numbers_of n)) tree.paths paths;
    inodes = inodes;
    each = each;
    fresh = λ file above. unborn n t behind.part file (let low = tree.next in omega (arith, low, above));
  }
