use Rattle.std.proofs.Common.{◌≡◌, ℕ, List, true, false, eqb, length, ap, sym, ◌∙◌, subst, arith}
use Rattle.std.proofs.lemmas.Bool.{eqb-true, le-ltb}
use Rattle.ufs_layout.specs.DentryForm.{is_named}
use Rattle.ufs_dirs.specs.Directory.{IsDirectory}
use Rattle.ufs_dirs.proofs.ReadLemmas.{reads_free}
use Rattle.ufs_dirs.proofs.dir_blocks.DirBlocks.read_slot.Goals as goal

pub returns-then-is_empty-clause-ok : goal.returns-then-is_empty-clause-ok
returns-then-is_empty-clause-ok c =
    let is : IsDirectory c.args.self.now = subst IsDirectory c.self.view_is c.self.invariant.0.directory in
    let empty : eqb (length c.in-Some.entry.name) 0 ≡ true = ap (λ (n : List ℕ). eqb (length n) 0) (sym c.name_bytes.ensures) ∙ sym c.is_empty.ensures ∙ c.if-is_empty.true in
    let unnamed : is_named c.in-Some.entry ≡ false = le-ltb 0 (length c.in-Some.entry.name) (omega (arith, eqb-true (length c.in-Some.entry.name) 0 empty)) in
    reads_free c.args.self.now is c.args.place c.in-Some.entry c.args.bytes.now c.requires.in_range c.requires.free c.in-Some.ensures.form unnamed c.in-Some.ensures.spelling
