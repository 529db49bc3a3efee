use Rattle.std.proofs.Common.{◌≡◌, List, Option, sym, ◌∙◌, subst}
use Rattle.ufs_image.specs.Nodes.{blocks_of}
use Rattle.ufs_layout.specs.DentryForm.{DentryForm}
use Rattle.ufs_layout.specs.InodeForm.{InodeForm}
use Rattle.ufs_model.proofs.Facts.Lookups.{same_some}
use Rattle.ufs_start.specs.Extents.{HasRuns}
use Rattle.ufs_start.specs.Tables.{IsWholeDir}
use Rattle.ufs_start.proofs.Tabled.{same_placed}
use Rattle.ufs_start.proofs.tables.read_of.Goals as goal

pub dir_of-requires-clause-runs : goal.dir_of-requires-clause-runs
dir_of-requires-clause-runs c =
    let s = c.requires in
    subst (λ (form : InodeForm). HasRuns form) (same_some s.node c.in-Some.form (sym s.there ∙ c.in-Some.is)) s.runs

pub dir_of-requires-clause-whole : goal.dir_of-requires-clause-whole
dir_of-requires-clause-whole c =
    let s = c.requires in
    let node = same_some s.node c.in-Some.form (sym s.there ∙ c.in-Some.is) in
    let slots : s.slots ≡ c.slots.result.now = same_placed 0 s.slots c.slots.result.now (sym s.placed ∙ sym c.slots.ensures) in
    subst (λ (form : InodeForm). IsWholeDir (blocks_of form) c.slots.result.now) node (subst (λ (l : List (Option DentryForm)). IsWholeDir (blocks_of s.node) l) slots s.whole)
