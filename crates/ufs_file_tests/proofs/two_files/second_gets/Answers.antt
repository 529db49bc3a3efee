use Rattle.std.proofs.Common.{◌++◌, [], List, ℕ, sym, subst}
use Rattle.std.proofs.lemmas.List.{append-nil}
use Rattle.ufs_extent.specs.Runs.{blocks_of}
use Rattle.ufs_bitmap.specs.Taking.{IsApart}
use Rattle.ufs_bitmap.proofs.OwnerLemmas.{owners_are_apart, owners_stay_apart}
use Rattle.ufs_file_tests.proofs.two_files.second_gets.Goals as goal

pub applied-requires-clause-apart : goal.applied-requires-clause-apart
applied-requires-clause-apart c =
    let both : List ℕ = blocks_of c.args.first.now.extents ++ blocks_of c.args.second.now.extents in
    owners_are_apart c.args.pool.now (blocks_of c.args.first.now.extents) (blocks_of c.args.second.now.extents) []
    (subst (λ (l : List ℕ). IsApart c.args.pool.now l) (sym (append-nil both)) c.requires.apart)

pub returns-clause-apart : goal.returns-clause-apart
returns-clause-apart c =
    let both : List ℕ = blocks_of c.args.first.now.extents ++ blocks_of c.args.second.now.extents in
    let after : List ℕ = blocks_of c.args.first.now.extents ++ blocks_of c.applied.new.file.extents in
    subst (λ (l : List ℕ). IsApart c.applied.new.pool l) (append-nil after)
    (owners_stay_apart c.args.pool.now c.applied.new.pool (blocks_of c.args.first.now.extents) (blocks_of c.args.second.now.extents) (blocks_of c.applied.new.file.extents) []
    (subst (λ (l : List ℕ). IsApart c.args.pool.now l) (sym (append-nil both)) c.requires.apart) c.applied.ensures.apart c.applied.ensures.together)
