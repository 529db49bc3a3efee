use Rattle.ufs_names.proofs.PathRefusals.{text_passed}
use Rattle.ufs_names.specs.PathCalls.{path_asked}
use Rattle.ufs_name_tree.proofs.NoteChains.{notes_stay, notes_less}
use Rattle.std.proofs.Common.{Option, ap, refl, sym, ◌∙◌, ◌≡◌, Some, inl, inr}
use Rattle.ufs_base.specs.Choices.{first_of}
use Rattle.ufs_model.specs.Refusals.{tree_refusal}
use Rattle.ufs_model.specs.declared.data.Errno.{Errno}
use Rattle.ufs_names.proofs.RefusedLemmas.{served_refused}
use Rattle.ufs_names.proofs.SyncLemmas.{served_either}
use Rattle.ufs_names.proofs.NotedLemmas.{one_told}
use Rattle.ufs_names.proofs.names.Names.serve.Goals as goal

pub returns-in-Some-clause-ok : goal.returns-in-Some-clause-ok
returns-in-Some-clause-ok c t asked =
    let own = sym (c.own_refusal.ensures t c.args.ask.now.client asked.asked.desc asked.asked.fd) ∙ c.in-Some.is in
    served_refused c.args.self.now t c.args.ask.now c.args.files.now c.in-Some.e c.refused.result.reply c.refused.result.desc asked.part asked.files asked.asked
    (ap (λ (o : Option Errno). first_of o (tree_refusal t c.args.ask.now.client c.args.ask.now.op)) own)
    c.refused.ensures.reply c.refused.ensures.desc

pub rename-requires-clause-asked : goal.rename-requires-clause-asked
rename-requires-clause-asked c = let a = c.requires.asked in (a.0, a.1, sym (c.own_refusal.ensures a.0 c.args.ask.now.client a.1.asked.desc a.1.asked.fd) ∙ c.in_default.is)

pub serve_path-requires-clause-asked : goal.serve_path-requires-clause-asked
serve_path-requires-clause-asked c = let a = c.requires.asked in (a.0, a.1, sym (c.own_refusal.ensures a.0 c.args.ask.now.client a.1.asked.desc a.1.asked.fd) ∙ c.in_default.is)

pub close-requires-clause-asked : goal.close-requires-clause-asked
close-requires-clause-asked c = let a = c.requires.asked in (a.0, a.1, sym (c.own_refusal.ensures a.0 c.args.ask.now.client a.1.asked.desc a.1.asked.fd) ∙ c.in_default.is)

pub returns-in-Fsync-clause-ok : goal.returns-in-Fsync-clause-ok
returns-in-Fsync-clause-ok c t asked =
    served_either c.args.self.now t c.args.ask.now c.args.files.now asked c.in-Fsync.is (sym (c.own_refusal.ensures t c.args.ask.now.client asked.asked.desc asked.asked.fd) ∙ c.in_default.is)

pub returns-in-Some-clause-noted : goal.returns-in-Some-clause-noted
returns-in-Some-clause-noted c = notes_stay c.args.self.now.tree c.args.pool.now (one_told c.args.self.now.tree c.args.self.now.held c.requires.asked.1.part.inodes)

pub returns-in-Fsync-clause-noted : goal.returns-in-Fsync-clause-noted
returns-in-Fsync-clause-noted c = notes_stay c.args.self.now.tree c.args.pool.now (one_told c.args.self.now.tree c.args.self.now.held c.requires.asked.1.part.inodes)

pub returns-in-Close-clause-noted : goal.returns-in-Close-clause-noted
returns-in-Close-clause-noted c = notes_less c.args.self.now.tree c.close.new.self.tree c.args.pool.now c.close.ensures.noted

pub text-requires-in-OpenFile : goal.text-requires-in-OpenFile
text-requires-in-OpenFile c =
    let a = c.requires.asked in
    let told : path_asked c.args.ask.now.op ≡ Some c.in-OpenFile.path = elim c.in-OpenFile.is [
      | inl x ↦ ap path_asked x.6
      | inr y ↦ elim y [
        | inl at ↦ ap path_asked at
        | inr z ↦ elim z [
          | inl at ↦ ap path_asked at
          | inr v ↦ elim v [ inl at ↦ ap path_asked at | inr w ↦ elim w [ inl at ↦ ap path_asked at | inr at ↦ ap path_asked at ] ]
        ]
      ]
    ] in
    text_passed a.0 c.args.ask.now.client c.args.ask.now.op c.in-OpenFile.path
    (sym (c.own_refusal.ensures a.0 c.args.ask.now.client a.1.asked.desc a.1.asked.fd) ∙ c.in_default.is) told
