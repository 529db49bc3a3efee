use Rattle.std.proofs.Common.{ℕ, Option, ap, sym, subst, ◌∙◌, ◌≡◌, Some, inl, inr, false, true, is_some}
use Rattle.ufs_names.proofs.PathRefusals.{text_passed}
use Rattle.ufs_names.specs.PathCalls.{path_asked}
use Rattle.ufs_model.specs.Refusals.{own_refusal}
use Rattle.ufs_model.specs.Touched.{reached}
use Rattle.ufs_model.specs.declared.data.Op.{Op}
use Rattle.ufs_names.specs.Needs.{IsFileIn}
use Rattle.ufs_names.proofs.NeedsLemmas.{close_needs}
use Rattle.ufs_names.proofs.names.Names.need.Goals as goal

pub returns-in_ok-to-in-Rename : goal.returns-in_ok-to-in-Rename
returns-in_ok-to-in-Rename c t part asked own =
    subst (λ (r : Op). IsFileIn t (reached t c.args.ask.now.client r) c.need_of_rename.result) (sym c.in-Rename.is)
    (c.need_of_rename.ensures t c.args.ask.now.client c.in-Rename.from c.in-Rename.to part (ap (own_refusal t c.args.ask.now.client) (sym c.in-Rename.is) ∙ own) c.in_ok-from-in-Rename.ensures c.in_ok-to-in-Rename.ensures)

pub returns-in-Close : goal.returns-in-Close
returns-in-Close c t part asked own =
    subst (λ (o : Option ℕ). IsFileIn t (reached t c.args.ask.now.client c.args.ask.now.op) o) (sym c.need_of_close.ensures) (close_needs c.args.self.now t part c.args.ask.now asked c.in-Close.fd c.in-Close.is)

pub returns-then-is_some-3 : goal.returns-then-is_some-3
returns-then-is_some-3 c t part asked own f =
    let told : path_asked c.args.ask.now.op ≡ Some c.in-OpenFile.path = elim c.in-OpenFile.is [
      | inl x ↦ ap path_asked x.6
      | inr y ↦ elim y [ inl z ↦ ap path_asked z | inr w ↦ ap path_asked w ]
    ] in
    let passed = text_passed t c.args.ask.now.client c.args.ask.now.op c.in-OpenFile.path own told in
    let clash : false ≡ true = sym (ap is_some (c.text_refusal-in-OpenFile.ensures ∙ passed)) ∙ sym c.is_some-in-OpenFile.ensures ∙ c.if-is_some-3.true in
    absurd cc
