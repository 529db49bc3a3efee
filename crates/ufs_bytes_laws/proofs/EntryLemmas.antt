-- One entry told again.
use Rattle.std.proofs.Common.{◌≡◌, ◌⊎◌, inl, inr, ℕ, ap, sym, refl, ◌∙◌, subst}
use Rattle.ufs_model.specs.PosixTree.{PosixTree}
use Rattle.ufs_model.specs.Posix.{posix}
use Rattle.ufs_model.specs.History.{IsExcused, tree_with}
use Rattle.ufs_model.specs.declared.data.Op.{Op}
use Rattle.ufs_model.specs.declared.data.Excuse.{Excuse}
use Rattle.ufs_model.specs.declared.data.Reply.{Reply}
use Rattle.ufs_model.specs.declared.data.Reply.TheVariants as reply
use Rattle.ufs_model.proofs.PosixReplyLemmas.{IsPlain, posix_plain}
use Rattle.ufs_bytes_laws.specs.Alike.{AreAlike, AreRepliesAlike, blank}
use Rattle.ufs_bytes_laws.specs.Redrawn.{redrawn_reply}
use Rattle.ufs_bytes_laws.specs.Laws.{EntriesAreReplies, EntriesAreAlike, GoesOnAlike}
use Rattle.ufs_bytes_laws.proofs.StepLemmas.{steps}
use Rattle.ufs_bytes_laws.proofs.ExcuseLemmas.{excuses}

-- What is to be shown of each reply is to be shown of an excuse, and of any other.
module _ (P : Reply → Type 0) (excused : (x : Excuse) → P (reply.Excused x)) (plain : (r : Reply) → IsPlain r → P r) where
  pub by_reply : (r : Reply) → P r
  by_reply (reply.Excused x) = excused x
  by_reply reply.Done = plain reply.Done (λ x e. cc)
  by_reply (reply.Fd n) = plain (reply.Fd n) (λ x e. cc)
  by_reply (reply.Count n) = plain (reply.Count n) (λ x e. cc)
  by_reply (reply.At n) = plain (reply.At n) (λ x e. cc)
  by_reply (reply.Got bytes) = plain (reply.Got bytes) (λ x e. cc)
  by_reply (reply.IsFile size) = plain (reply.IsFile size) (λ x e. cc)
  by_reply (reply.IsDir entries) = plain (reply.IsDir entries) (λ x e. cc)
  by_reply (reply.Names names) = plain (reply.Names names) (λ x e. cc)
  by_reply (reply.Refused e) = plain (reply.Refused e) (λ x e. cc)

-- another reply than an excuse is drawn anew, and the tree goes on by it
pub plain_redrawn : (t : PosixTree) (client : ℕ) (request : Op) (r : Reply) → IsPlain r → redrawn_reply t client request r ≡ (posix t client request).1
plain_redrawn t client request (reply.Excused x) plain = absurd (plain x refl)
plain_redrawn t client request reply.Done plain = refl
plain_redrawn t client request (reply.Fd n) plain = refl
plain_redrawn t client request (reply.Count n) plain = refl
plain_redrawn t client request (reply.At n) plain = refl
plain_redrawn t client request (reply.Got bytes) plain = refl
plain_redrawn t client request (reply.IsFile size) plain = refl
plain_redrawn t client request (reply.IsDir entries) plain = refl
plain_redrawn t client request (reply.Names names) plain = refl
plain_redrawn t client request (reply.Refused e) plain = refl

plain_goes_on : (t : PosixTree) (client : ℕ) (request : Op) (r : Reply) → IsPlain r → tree_with t client request r ≡ (posix t client request).0
plain_goes_on t client request (reply.Excused x) plain = absurd (plain x refl)
plain_goes_on t client request reply.Done plain = refl
plain_goes_on t client request (reply.Fd n) plain = refl
plain_goes_on t client request (reply.Count n) plain = refl
plain_goes_on t client request (reply.At n) plain = refl
plain_goes_on t client request (reply.Got bytes) plain = refl
plain_goes_on t client request (reply.IsFile size) plain = refl
plain_goes_on t client request (reply.IsDir entries) plain = refl
plain_goes_on t client request (reply.Names names) plain = refl
plain_goes_on t client request (reply.Refused e) plain = refl

pub unexcused : (t : PosixTree) (client : ℕ) (request : Op) (r : Reply) → IsPlain r → IsExcused t client request r → ⊥
unexcused t client request (reply.Excused x) plain is = plain x refl
unexcused t client request reply.Done plain is = is
unexcused t client request (reply.Fd n) plain is = is
unexcused t client request (reply.Count n) plain is = is
unexcused t client request (reply.At n) plain is = is
unexcused t client request (reply.Got bytes) plain is = is
unexcused t client request (reply.IsFile size) plain is = is
unexcused t client request (reply.IsDir entries) plain is = is
unexcused t client request (reply.Names names) plain is = is
unexcused t client request (reply.Refused e) plain is = is

module _ (t u : PosixTree) (is : AreAlike t u) (client : ℕ) (request : Op) where
  abbrev Gives : PosixTree → Reply → Type 0
  Gives t r = (r ≡ (posix t client request).1) ⊎ IsExcused t client request r

  fit : (x : Excuse) → Gives t (reply.Excused x) → Gives u (reply.Excused x)
  fit x (inl e) = absurd (posix_plain t client request x (sym e))
  fit x (inr fits) = inr (excuses t u client request x is fits)

  given : (r : Reply) → Gives t r → Gives u (redrawn_reply u client request r)
  given = by_reply (λ r. Gives t r → Gives u (redrawn_reply u client request r)) fit (λ r plain so. inl (plain_redrawn u client request r plain))

  alike : (r : Reply) → Gives t r → AreRepliesAlike r (redrawn_reply u client request r)
  alike = by_reply (λ r. Gives t r → AreRepliesAlike r (redrawn_reply u client request r)) (λ x so. refl) plain_alike
    where
      plain_alike : (r : Reply) → IsPlain r → Gives t r → AreRepliesAlike r (redrawn_reply u client request r)
      plain_alike r plain (inl e) = ap blank e ∙ (steps t u client request is).reply ∙ sym (ap blank (plain_redrawn u client request r plain))
      plain_alike r plain (inr so) = absurd (unexcused t client request r plain so)

  on : (r : Reply) → AreAlike (tree_with t client request r) (tree_with u client request (redrawn_reply u client request r))
  on = by_reply (λ r. AreAlike (tree_with t client request r) (tree_with u client request (redrawn_reply u client request r))) (λ x. is) plain_on
    where
      after : (r : Reply) → IsPlain r → tree_with u client request (redrawn_reply u client request r) ≡ (posix u client request).0
      after r plain =
          ap (tree_with u client request) (plain_redrawn u client request r plain)
          ∙ plain_goes_on u client request (posix u client request).1 (posix_plain u client request)

      plain_on : (r : Reply) → IsPlain r → AreAlike (tree_with t client request r) (tree_with u client request (redrawn_reply u client request r))
      plain_on r plain =
          subst (λ v. AreAlike v (tree_with u client request (redrawn_reply u client request r))) (sym (plain_goes_on t client request r plain))
          (subst (AreAlike (posix t client request).0) (sym (after r plain)) (steps t u client request is).tree)

pub replied : EntriesAreReplies
replied t u entry is so = given t u is entry.client entry.op entry.reply so

pub blanked_same : EntriesAreAlike
blanked_same t u entry is so = λ i. record entry { reply = alike t u is entry.client entry.op entry.reply so i }

pub goes_on_alike : GoesOnAlike
goes_on_alike t u entry is = on t u is entry.client entry.op entry.reply
