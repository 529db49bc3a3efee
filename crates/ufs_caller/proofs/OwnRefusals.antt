-- A client that answers itself a request that asks for a commit refuses it.
use Rattle.std.proofs.Common.{◌≡◌, ◌||◌, ℕ, true, false, Option, Some, None, is_some, ap, sym, refl, ◌∙◌}
use Rattle.ufs_base.specs.Choices.{first_of}
use Rattle.ufs_client.specs.Own.{is_own, is_own_seek}
use Rattle.ufs_crash_laws.specs.Changes.{asks_commit}
use Rattle.ufs_model.specs.Posix.{posix, served}
use Rattle.ufs_model.specs.PosixTree.{PosixTree}
use Rattle.ufs_model.specs.Refusals.{own_refusal, tree_refusal}
use Rattle.ufs_model.specs.declared.data.Errno.{Errno}
use Rattle.ufs_model.specs.declared.data.Op.{Op}
use Rattle.ufs_model.specs.declared.data.Op.TheVariants as op
use Rattle.ufs_model.specs.declared.data.Reply.TheVariants as reply

seek_unsynced : (request : Op) → is_own_seek request ≡ true → asks_commit request ≡ false
seek_unsynced (op.Seek fd from by) own = refl
seek_unsynced _ own = absurd cc

pub own_refused : (t : PosixTree) (client : ℕ) (request : Op) → is_own t client request ≡ true → asks_commit request ≡ true → (e : Errno) × ((posix t client request).1 ≡ reply.Refused e)
own_refused t client request own asks = by (own_refusal t client request) refl
  where
    by : (o : Option Errno) → own_refusal t client request ≡ o → (e : Errno) × ((posix t client request).1 ≡ reply.Refused e)
    by (Some e) refused = (e, ap (λ (o : Option Errno). (served t client request (first_of o (tree_refusal t client request))).1) refused)
    by None none =
        let seek : is_own_seek request ≡ true = sym (ap (λ (o : Option Errno). is_some o || is_own_seek request) none) ∙ own in
        let no : true ≡ false = sym asks ∙ seek_unsynced request seek in
        absurd cc
