-- A change of names may be committed.
use Rattle.std.proofs.Common.{◌≡◌, ℕ, ◌<◌, ◌+◌, ◌^◌, List, true, arith}
use Rattle.std.specs.Prelude.{IsTrue}
use Rattle.ufs_layout.specs.Areas.{IsGeometry}
use Rattle.ufs_layout.specs.declared.geometry.Geometry.{Geometry}
use Rattle.ufs_layout.specs.declared.records.Committed.{Committed}
use Rattle.ufs_image.specs.Catalog.{Catalog}
use Rattle.ufs_image.specs.Folding.{with_committed_in}
use Rattle.ufs_ledger.specs.Ledger.{Stand, CoversDirs}
use Rattle.ufs_ledger.specs.Changes.{MayCommit}
use Rattle.ufs_dir_tree.specs.Steps.{DirState, Step, after_all}
use Rattle.ufs_promise_laws.specs.Held.{HasState, MaySteps, HasSoundNames}
use Rattle.ufs_promise_laws.specs.ChangeLaws.{change, AreOlder}
use Rattle.ufs_promise_laws.proofs.RecordsTold.{told_all}
use Rattle.ufs_promise_laws.proofs.Covers.{covered_all, covers_table, covers_catalog}
use Rattle.ufs_promise_laws.proofs.Sounded.{is_sound}
use Rattle.ufs_promise_laws.proofs.Committed.{keeps_no_more, spelled_all, most_all}

module _ (g : Geometry) where
  pub leads : (c : Catalog) (s : DirState) (xs : List Step) (number : ℕ) → HasState g c s → AreOlder g c number → MaySteps g s xs → HasState g (with_committed_in g (change number s xs) c) (after_all xs s)
  leads c s xs number has older may = told_all g number c older c s xs has may

  pub rises : (c : Catalog) (t : Committed) → AreOlder g c t.number → AreOlder g (with_committed_in g t c) (t.number + 1)
  rises c t older inode inside =
      let most = most_all g t.number c t.records c (λ i there. let below = older i there in omega (arith, below)) inode inside in
      omega (arith, most)

  pub may_commit : IsGeometry g → (s : Stand) (d : DirState) (xs : List Step) (number : ℕ) → HasState g s.catalog d → CoversDirs g s → ((block : ℕ) → d.zeroed block ≡ true → IsTrue (s.dirs block)) → AreOlder g s.catalog number → number < 2 ^ 64
      → MaySteps g d xs → HasSoundNames g (after_all xs d) → MayCommit g (change number d xs) s
  may_commit is s d xs number has covers zeroed older below may names =
      let c : Catalog = with_committed_in g (change number d xs) s.catalog in
      let led : HasState g c (after_all xs d) = leads s.catalog d xs number has older may in
      record {
        fits = record { number = below; records = spelled_all g is number s.catalog older s.catalog d xs has may };
        keeps = keeps_no_more g number s.catalog d xs s.catalog;
        covers = covers_catalog g s.dirs c (after_all xs d) led (covered_all g s.dirs d xs may (covers_table g s.dirs s.catalog d has covers zeroed));
        sound = is_sound g c (after_all xs d) led names;
      }
