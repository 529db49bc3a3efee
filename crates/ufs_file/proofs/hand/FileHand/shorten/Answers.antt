use Rattle.std.proofs.Common.{◌≡◌, ◌++◌, ◌<◌, ap, sym, ◌∙◌, arith, ℕ, List, subst, length, take, drop, refl}
use Rattle.std.proofs.lemmas.List.{take-append-drop}
use Rattle.ufs_extent.specs.declared.Run.{Run}
use Rattle.ufs_extent.specs.Runs.{blocks_of}
use Rattle.ufs_bitmap.specs.Blocks.{BlockSet}
use Rattle.ufs_bitmap.specs.Taking.{IsApart}
use Rattle.ufs_file.specs.Hand.{FileState, IsChanged}
use Rattle.ufs_file.proofs.HandLemmas.{apart_back, apart_front, cut_changed}
use Rattle.ufs_file.specs.Content.{block_count, shortened}
use Rattle.ufs_file.proofs.ContentLemmas.{ceil_is}
use Rattle.ufs_file.proofs.hand.FileHand.shorten.Goals as goal

pub give_runs-requires-clause-apart : goal.give_runs-requires-clause-apart
give_runs-requires-clause-apart c =
    let bs : List ℕ = blocks_of c.self.inside.extents in
    let n : ℕ = c.div_ceil.result in
    let apart : IsApart c.args.pool.now bs = subst (λ (f : FileState). IsApart c.args.pool.now (blocks_of f.extents)) (sym c.self.view_is) c.requires.apart in
    let parts : IsApart c.args.pool.now (take n bs ++ drop n bs) = subst (IsApart c.args.pool.now) (sym (take-append-drop n bs)) apart in
    subst (IsApart c.args.pool.now) (sym (ap blocks_of c.as_slice.ensures.items ∙ c.in_ok-rest.ensures.rest_blocks)) (apart_back c.args.pool.now (take n bs) (drop n bs) parts)

pub returns-clause-apart : goal.returns-clause-apart
returns-clause-apart c =
    let bs : List ℕ = blocks_of c.self.inside.extents in
    let n : ℕ = c.div_ceil.result in
    let apart : IsApart c.args.pool.now bs = subst (λ (f : FileState). IsApart c.args.pool.now (blocks_of f.extents)) (sym c.self.view_is) c.requires.apart in
    let parts : IsApart c.args.pool.now (take n bs ++ drop n bs) = subst (IsApart c.args.pool.now) (sym (take-append-drop n bs)) apart in
    let rest : List Run = c.as_slice.result.now in
    let back : blocks_of rest ≡ drop n bs = ap blocks_of c.as_slice.ensures.items ∙ c.in_ok-rest.ensures.rest_blocks in
    subst (λ (l : List ℕ). IsApart c.give_runs.new.pool l) (sym c.in_ok-rest.ensures.kept_blocks)
    (subst (λ (s : BlockSet). IsApart s (take n bs)) (sym c.give_runs.ensures) (apart_front c.args.pool.now (take n bs) (drop n bs) rest back parts))

pub returns-clause-ok : goal.returns-clause-ok
returns-clause-ok c =
    let old : FileState = record { file = c.self.inside.file; inode = c.self.inside.inode; extents = c.self.inside.extents; content = c.self.inside.blocks } in
    let new : FileState = record { file = c.self.inside.file; inode = c.self.inside.inode; extents = c.cut.new.self; content = c.cut-2.new.self } in
    let size : ℕ = c.args.size in
    let held : length c.args.self.now.content.bytes ≡ length old.content.bytes = ap (λ (f : FileState). length f.content.bytes) (sym c.self.view_is) in
    let whole : length old.content.dirty ≡ block_count (length old.content.bytes) = ap (λ (f : FileState). length f.content.dirty) c.self.view_is ∙ c.requires.whole ∙ ap block_count held in
    let shorter : size < length old.content.bytes = omega (arith, held, c.requires.shorter) in
    let is : c.div_ceil.result ≡ block_count size = c.div_ceil.ensures ∙ ceil_is size in
    let blocks : length (blocks_of old.extents) ≡ length old.content.dirty = c.self.invariant in
    subst (λ (f : FileState). IsChanged f new c.args.pool.now c.give_runs.new.pool (shortened f.content size)) c.self.view_is
    (cut_changed old new c.args.pool.now c.give_runs.new.pool size c.div_ceil.result c.as_slice.result.now is (omega (arith, is, shorter, whole, blocks)) (omega (arith, shorter)) refl refl
    c.in_ok-rest.ensures.kept (c.as_slice.ensures.items ∙ c.in_ok-rest.ensures.rest) c.give_runs.ensures c.cut-2.ensures)
