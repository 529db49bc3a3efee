use Rattle.std.proofs.Common.{◌≡◌, sym, subst, rules}
use Rattle.std.specs.Prelude.{IsTrue}
use Rattle.std.specs.List.{list_all}
use Rattle.ufs_image.specs.Fold.{is_in_range}
use Rattle.ufs_layout.specs.declared.geometry.Geometry.{Geometry}
use Rattle.ufs_log_tests.proofs.stores.commit_birth.Goals as goal

pub commit_records-requires-clause-in_range : goal.commit_records-requires-clause-in_range
commit_records-requires-clause-in_range c =
    let same : c.args.journal.now.geometry ≡ record { blocks = 256; inodes = 32; journal = 64 } = search rules in
    let inside : IsTrue (list_all (is_in_range (record { blocks = 256; inodes = 32; journal = 64 })) c.in_ok-records.records) = search rules in
    subst (λ (g : Geometry). IsTrue (list_all (is_in_range g) c.in_ok-records.records)) (sym same) inside
