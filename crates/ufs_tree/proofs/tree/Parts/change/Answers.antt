use Rattle.std.proofs.Common.{◌≡◌, ◌≢◌, ℕ, List, None, false, ap, sym, subst, ◌∙◌, is_some}
use Rattle.std.specs.FinMap as map
use Rattle.ufs_model.specs.Directories.{is_below, has_entries}
use Rattle.ufs_model.specs.Paths.{whole_path, whole_of}
use Rattle.ufs_model.specs.Refusals.{refusal}
use Rattle.ufs_model.specs.declared.data.Op.{Op}
use Rattle.ufs_tree.specs.Parts.{tree_of}
use Rattle.ufs_tree.proofs.AllowedLemmas.{new_text, nothing_there, old_name_there, open_text}
use Rattle.ufs_tree.proofs.tree.Parts.change.Goals as goal
use Rattle.ufs_tree.proofs.tree.Parts.change.Goals.{After-whole-in-Rename-2}

pub mkdir-requires-clause-absent : goal.mkdir-requires-clause-absent
mkdir-requires-clause-absent c =
    let at = c.whole-in-Mkdir-2.ensures.value ∙ ap whole_path c.in_ok-text-in-Mkdir.ensures in
    let allowed = subst (λ (o : Op). refusal (tree_of c.args.self.now) c.args.client o ≡ None) c.in-Mkdir.is c.requires.allowed in
    ap (map.get c.args.self.now.paths) at ∙ nothing_there (tree_of c.args.self.now) c.args.client c.in-Mkdir.path allowed

pub rename-requires-clause-stands : goal.rename-requires-clause-stands
rename-requires-clause-stands c =
    let at = c.whole-in-Rename.ensures.value ∙ ap whole_path c.in_ok-from-in-Rename.ensures in
    let allowed = subst (λ (o : Op). refusal (tree_of c.args.self.now) c.args.client o ≡ None) c.in-Rename.is c.requires.allowed in
    ap (λ p. is_some (map.get c.args.self.now.paths p)) at ∙ old_name_there (tree_of c.args.self.now) c.args.client c.in-Rename.from c.in-Rename.to allowed

-- the law of two names, at the whole paths that were read
apart : (c : After-whole-in-Rename-2) → c.whole-in-Rename.result.now ≢ c.whole-in-Rename-2.result.now
    → (is_below c.whole-in-Rename.result.now c.whole-in-Rename-2.result.now ≡ false) × (has_entries c.args.self.now.paths c.whole-in-Rename-2.result.now ≡ false)
apart c =
    let old = c.whole-in-Rename.ensures.value ∙ ap whole_path c.in_ok-from-in-Rename.ensures in
    let new = c.whole-in-Rename-2.ensures.value ∙ ap whole_path c.in_ok-to-in-Rename.ensures in
    let allowed = subst (λ (o : Op). refusal (tree_of c.args.self.now) c.args.client o ≡ None) c.in-Rename.is c.requires.allowed in
    subst (λ (from : List ℕ). (from ≡ c.whole-in-Rename-2.result.now → ⊥) → (is_below from c.whole-in-Rename-2.result.now ≡ false) × (has_entries c.args.self.now.paths c.whole-in-Rename-2.result.now ≡ false)) (sym old)
    (subst (λ (to : List ℕ). (whole_of c.in-Rename.from ≡ to → ⊥) → (is_below (whole_of c.in-Rename.from) to ≡ false) × (has_entries c.args.self.now.paths to ≡ false)) (sym new)
    (c.two_names_lie_apart.ensures (tree_of c.args.self.now) c.args.client c.in-Rename.from c.in-Rename.to c.requires.tree allowed))

pub rename-requires-clause-apart : goal.rename-requires-clause-apart
rename-requires-clause-apart c = λ other. (apart c other).0

pub rename-requires-clause-empty : goal.rename-requires-clause-empty
rename-requires-clause-empty c = λ other. (apart c other).1

-- ---- texts that are read

pub text-requires : goal.text-requires
text-requires c = open_text (tree_of c.args.self.now) c.args.client c.args.op.now c.in-OpenFile.path _ _ _ _ _ _ c.in-OpenFile.is c.requires.allowed

pub text-requires-in-Rename-2 : goal.text-requires-in-Rename-2
text-requires-in-Rename-2 c =
    let allowed = subst (λ (o : Op). refusal (tree_of c.args.self.now) c.args.client o ≡ None) c.in-Rename.is c.requires.allowed in
    new_text (tree_of c.args.self.now) c.args.client c.in-Rename.from c.in-Rename.to allowed
