use Rattle.std.proofs.Common.{◌≡◌, ℕ, ◌/◌, List, eqb, length, ap, ◌∙◌, subst, arith}
use Rattle.ufs_dirs.specs.Directory.{Directory, IsDirectory}
use Rattle.std.specs.List.{position_or_len}
use Rattle.std.proofs.lemmas.Bool.{false≢true}
use Rattle.ufs_dirs.proofs.dir_blocks.DirBlocks.is_free.Goals as goal
use Rattle.ufs_dirs.proofs.dir_blocks.DirBlocks.is_free.Goals.{then-slot-ge8-via-then-slot-ge8, then-slot-ge8-via-else-slot-ge8+then-before-len}

pub returns-then-slot-ge8 : goal.returns-then-slot-ge8
returns-then-slot-ge8 c =
    let is : IsDirectory c.args.self.now = subst IsDirectory c.self.view_is c.self.invariant.0.directory in
    let block : ℕ = c.args.slot.sector / 8 in
    let before : c.index_of-before.result ≡ position_or_len (λ b. eqb b block) c.args.self.now.blocks =
    c.index_of-before.ensures ∙ ap (λ (b : List ℕ). position_or_len (λ b. eqb b block) b) c.as_slice.ensures.value ∙ ap (λ (d : Directory). position_or_len (λ b. eqb b block) d.blocks) c.self.view_is in
    let size = ap (λ (d : Directory). length d.blocks) c.self.view_is in (
      (λ h. absurd (false≢true h)),
      (λ free. elim c.then-slot-ge8.branch [
        | then-slot-ge8-via-then-slot-ge8 w ↦ absurd (omega (arith, free.slot.in_sector, w.if-slot-ge8.true))
        | then-slot-ge8-via-else-slot-ge8+then-before-len w ↦ absurd (omega (arith, free.slot.in_blocks, is.sized, before, size, w.if-before-len.true, w.len.ensures))
      ]),
    )

pub index-requires : goal.index-requires
index-requires c =
    let is : IsDirectory c.args.self.now = subst IsDirectory c.self.view_is c.self.invariant.0.directory in
    let block : ℕ = c.args.slot.sector / 8 in
    let before : c.index_of-before.result ≡ position_or_len (λ b. eqb b block) c.args.self.now.blocks =
    c.index_of-before.ensures ∙ ap (λ (b : List ℕ). position_or_len (λ b. eqb b block) b) c.as_slice.ensures.value ∙ ap (λ (d : Directory). position_or_len (λ b. eqb b block) d.blocks) c.self.view_is in
    omega (arith, is.sized, before, ap (λ (d : Directory). length d.blocks) c.self.view_is, ap (λ (d : Directory). length d.slots) c.self.view_is, c.if-before-len.false, c.len.ensures, c.if-slot-ge8.false, c.place_of.ensures)
