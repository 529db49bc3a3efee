use Rattle.std.proofs.Common.{Some, ◌≡◌, ◌∙◌, ◌⊎◌, ⊎_elim, inl, inr, ℕ, List, subst, sym, take}
use Rattle.ufs_disk.specs.Disk.{Cell}
use Rattle.ufs_disk.proofs.Runs.{weaker}
use Rattle.ufs_layout.specs.Superblock.{geometry_of}
use Rattle.ufs_base.specs.Images.{Image}
use Rattle.ufs_image.specs.Volume.{Volume}
use Rattle.ufs_layout.specs.declared.geometry.Geometry.{Geometry}
use Rattle.ufs_layout.specs.declared.superblock.Super.{Super}
use Rattle.ufs_model.specs.PosixTree.{PosixTree}
use Rattle.ufs_model.specs.declared.data.Entry.{Entry}
use Rattle.ufs_crash_laws.specs.Explained.{IsCovering}
use Rattle.ufs_ledger.specs.Ledger.{Stand, IsLeft, Standing, Ledger, IsLeftBy}
use Rattle.ufs_image.specs.CatalogLaws.{SpellsDirs, StandsAtPaths, StandsNowhereElse}
use Rattle.ufs_ledger.proofs.Opened.{opens_explained, opens_explained_from, same_geometry}
use Rattle.ufs_ledger.specs.Kept.{Numbers, Counts, IsKeptBy, IsStandKept, IsStandStored, IsLedgerKept, OpensExplained, OpensExplainedFrom}
use Rattle.ufs_ledger.proofs.laws.opening_law.Goals as goal

of_stand : (g : Geometry) → SpellsDirs g → ((v : Volume) → v.geometry ≡ g → StandsAtPaths v) → ((v : Volume) → v.geometry ≡ g → StandsNowhereElse v)
    → (sectors : ℕ) (superblock : Super) (blocks : ℕ → Cell) (s : Stand) (image : Image) (start : PosixTree) (history : List Entry) (names : ℕ) (files : ℕ → ℕ) (n : Numbers)
    → geometry_of superblock ≡ g → IsLeft sectors superblock blocks s image → IsStandKept g blocks s start history names files n → OpensExplained sectors start history image
of_stand g dirs paths alone sectors superblock blocks s image start history names files n same left kept =
    let geometry = same_geometry sectors superblock blocks s image left ∙ same in
    opens_explained sectors superblock blocks s image left (subst SpellsDirs (sym same) dirs) (paths left.as_volume geometry) (alone left.as_volume geometry)
    start history names files n (subst (λ g. IsStandKept g blocks s start history names files n) (sym same) kept)

by_ledger : (g : Geometry)
    → ((sectors : ℕ) (superblock : Super) (blocks : ℕ → Cell) (s : Stand) (image : Image) (start : PosixTree) (history : List Entry) (names : ℕ) (files : ℕ → ℕ) (n : Numbers)
    → geometry_of superblock ≡ g → IsLeft sectors superblock blocks s image → IsStandKept g blocks s start history names files n → OpensExplained sectors start history image)
    → (sectors : ℕ) (l : Ledger) (image : Image) (start : PosixTree) (history : List Entry) (now maybe : Counts) → geometry_of l.superblock ≡ g → IsLeftBy sectors l image → IsLedgerKept l start history now maybe
    → OpensExplained sectors start history image
by_ledger g explains sectors l image start history now maybe same (inl left) kept =
    explains sectors l.superblock l.blocks l.now image start history now.names now.files now.numbers same left (subst (λ g. IsKeptBy g l.blocks l.now start history now) same kept.here)
by_ledger g explains sectors l image start history now maybe same (inr one) kept =
    let there = kept.there one.0 one.1 in
    explains sectors one.0.superblock l.blocks one.0.stand image start history maybe.names maybe.files maybe.numbers (there.0 ∙ same) one.2 (subst (λ g. IsKeptBy g l.blocks one.0.stand start history maybe) same there.1)

meanwhile_of : (g : Geometry) → SpellsDirs g → ((v : Volume) → v.geometry ≡ g → StandsAtPaths v) → ((v : Volume) → v.geometry ≡ g → StandsNowhereElse v)
    → (sectors : ℕ) (superblock : Super) (blocks : ℕ → Cell) (s : Stand) (image : Image) (start : PosixTree) (history : List Entry) (from to names : ℕ) (files : ℕ → ℕ) (n : Numbers)
    → geometry_of superblock ≡ g → IsLeft sectors superblock blocks s image → IsStandStored g blocks s start (take from history) names files n → IsCovering start (take to history) names files → OpensExplainedFrom sectors start history from to image
meanwhile_of g dirs paths alone sectors superblock blocks s image start history from to names files n same left stored covers =
    let geometry = same_geometry sectors superblock blocks s image left ∙ same in
    opens_explained_from sectors superblock blocks s image left (subst SpellsDirs (sym same) dirs) (paths left.as_volume geometry) (alone left.as_volume geometry)
    start history from to names files n (subst (λ g. IsStandStored g blocks s start (take from history) names files n) (sym same) stored) covers

pub returns : goal.returns
returns c = record {
  kept = λ sectors superblock blocks s image start history names files n same left kept.
      of_stand c.args.geometry.now c.fold_law.ensures.dirs c.walk_law.ensures.paths c.walk_law.ensures.alone sectors superblock blocks s image start history names files n same left kept;
  ledger = λ sectors l image start history now maybe same left kept. by_ledger c.args.geometry.now
      (of_stand c.args.geometry.now c.fold_law.ensures.dirs c.walk_law.ensures.paths c.walk_law.ensures.alone) sectors l image start history now maybe same left kept;
  either = λ keeps sectors old new l m start history a b x y one two run here there.
      weaker keeps (λ image. IsLeftBy sectors l image ⊎ IsLeftBy sectors m image) (OpensExplained sectors start history)
      (λ image left. ⊎_elim
      (λ is. by_ledger c.args.geometry.now (of_stand c.args.geometry.now c.fold_law.ensures.dirs c.walk_law.ensures.paths c.walk_law.ensures.alone) sectors l image start history a b one is here)
      (λ is. by_ledger c.args.geometry.now (of_stand c.args.geometry.now c.fold_law.ensures.dirs c.walk_law.ensures.paths c.walk_law.ensures.alone) sectors m image start history x y two is there) left) old new run;
  runs = λ keeps sectors old new l start history now maybe same run kept.
      weaker keeps (IsLeftBy sectors l) (OpensExplained sectors start history)
      (λ image left. by_ledger c.args.geometry.now (of_stand c.args.geometry.now c.fold_law.ensures.dirs c.walk_law.ensures.paths c.walk_law.ensures.alone) sectors l image start history now maybe same left kept) old new run;
  meanwhile = λ sectors superblock blocks s image start history from to names files n same left stored covers.
      meanwhile_of c.args.geometry.now c.fold_law.ensures.dirs c.walk_law.ensures.paths c.walk_law.ensures.alone sectors superblock blocks s image start history from to names files n same left stored covers;
  between = λ keeps sectors old new l start history from to now maybe same run stored one two.
      weaker keeps (IsLeftBy sectors l) (OpensExplainedFrom sectors start history from to)
      (λ image left. ⊎_elim
      (λ is. meanwhile_of c.args.geometry.now c.fold_law.ensures.dirs c.walk_law.ensures.paths c.walk_law.ensures.alone sectors l.superblock l.blocks l.now image start history from to now.names now.files now.numbers same is
      (subst (λ g. IsStandStored g l.blocks l.now start (take from history) now.names now.files now.numbers) same stored.here) one)
      (λ (is : (other : Standing) × (l.maybe ≡ Some other) × IsLeft sectors other.superblock l.blocks other.stand image).
      let there = stored.there is.0 is.1 in
      meanwhile_of c.args.geometry.now c.fold_law.ensures.dirs c.walk_law.ensures.paths c.walk_law.ensures.alone sectors is.0.superblock l.blocks is.0.stand image start history from to maybe.names maybe.files maybe.numbers (there.0 ∙ same) is.2
      (subst (λ g. IsStandStored g l.blocks is.0.stand start (take from history) maybe.names maybe.files maybe.numbers) same there.1) two) left) old new run;
}
