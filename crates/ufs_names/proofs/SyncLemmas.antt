-- A request that puts nothing anew on the disk, since there is nothing new of names, is served.
use Rattle.std.proofs.Common.{◌≡◌, ℕ, ◌⊎◌, inl, inr, Option, None, ap, refl, sym, subst, ◌∙◌}
use Rattle.ufs_base.specs.Choices.{first_of}
use Rattle.ufs_files.specs.Files.{Files}
use Rattle.ufs_model.specs.Asks.{desc_of_fd, fd_named}
use Rattle.ufs_model.specs.Posix.{answer}
use Rattle.ufs_model.specs.PosixTree.{PosixTree}
use Rattle.ufs_model.specs.Refusals.{own_refusal}
use Rattle.ufs_model.specs.declared.data.Ask.{Ask}
use Rattle.ufs_model.specs.declared.data.Errno.{Errno}
use Rattle.ufs_model.specs.declared.data.Op.{Op}
use Rattle.ufs_model.specs.declared.data.Op.TheVariants as op
use Rattle.ufs_model.specs.declared.data.Reply.{Reply}
use Rattle.ufs_model.specs.declared.data.Reply.TheVariants.{Done}
use Rattle.ufs_names.specs.Calls.{IsAsked, IsServed}
use Rattle.ufs_names.specs.NamesPart.{NamesPart}
use Rattle.ufs_names.proofs.FileLemmas.{files_same}
use Rattle.ufs_names.proofs.ServedLemmas.{served_as}

module _ (n : NamesPart) (t : PosixTree) (ask : Ask) (fs : Files) (asked : IsAsked t n ask fs) where
  served_fsync : (fd : ℕ) → ask.op ≡ op.Fsync fd → own_refusal t ask.client ask.op ≡ None → IsServed t ask n fs fs Done ask.desc
  served_fsync fd of own =
      subst (λ (r : Reply). IsServed t ask n fs fs r ask.desc) (ap (answer t ask.client) of)
      (served_as t ask n fs fs (op.Fsync fd) ask.desc of
      (ap (λ (o : Option Errno). first_of o None) (ap (own_refusal t ask.client) (sym of) ∙ own))
      asked.part (files_same t t asked.part.tree fs fs asked.files refl (λ f. refl))
      (asked.asked.desc ∙ ap (λ (r : Op). desc_of_fd t.fds ask.client (fd_named r)) of))

  served_sync : ask.op ≡ op.Sync → IsServed t ask n fs fs Done ask.desc
  served_sync of =
      subst (λ (r : Reply). IsServed t ask n fs fs r ask.desc) (ap (answer t ask.client) of)
      (served_as t ask n fs fs op.Sync ask.desc of refl
      asked.part (files_same t t asked.part.tree fs fs asked.files refl (λ f. refl))
      (asked.asked.desc ∙ ap (λ (r : Op). desc_of_fd t.fds ask.client (fd_named r)) of))

  pub served_either : ((fd : ℕ) × (ask.op ≡ op.Fsync fd)) ⊎ (ask.op ≡ op.Sync) → own_refusal t ask.client ask.op ≡ None → IsServed t ask n fs fs Done ask.desc
  served_either (inl at) own = served_fsync at.0 at.1 own
  served_either (inr of) own = served_sync of
