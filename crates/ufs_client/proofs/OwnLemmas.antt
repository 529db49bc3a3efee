-- A `seek` from a known place is POSIX's, whatever the file's size.
use Rattle.std.proofs.Common.{◌≡◌, ℕ, ℤ, true, not, List, [], ◌∷◌, ◌++◌, length, Option, Some, None, unwrap_or, ap, refl, sym, subst, ◌∙◌}
use Rattle.ufs_base.specs.Choices.{first_of, refused_if}
use Rattle.ufs_model.specs.Asks.{IsAsk, desc_of_fd, fd_named}
use Rattle.ufs_model.specs.Descriptors.{closed, is_offset, with_offset, opened, seek_to, start_of, moved_by}
use Rattle.ufs_model.specs.FileBytes.{content}
use Rattle.ufs_model.specs.FileCalls.{Step, place_refusal, step_by}
use Rattle.ufs_model.specs.History.{goes_on, tree_after}
use Rattle.ufs_model.specs.Posix.{posix, served, with_fd}
use Rattle.ufs_model.specs.PosixTree.{PosixTree, desc_at}
use Rattle.ufs_model.specs.Refusals.{own_refusal, seek_refusal, tree_refusal}
use Rattle.ufs_model.specs.declared.data.Ask.{Ask}
use Rattle.ufs_model.specs.declared.data.Desc.{Desc}
use Rattle.ufs_model.specs.declared.data.Entry.{Entry}
use Rattle.ufs_model.specs.declared.data.Errno.{Errno}
use Rattle.ufs_model.specs.declared.data.Errno.TheVariants.{Einval}
use Rattle.ufs_model.specs.declared.data.Op.{Op}
use Rattle.ufs_model.specs.declared.data.Op.TheVariants as op
use Rattle.ufs_model.specs.declared.data.Reply.{Reply}
use Rattle.ufs_model.specs.declared.data.Reply.TheVariants.{At, Refused}
use Rattle.ufs_model.specs.declared.data.Whence.{Whence}
use Rattle.ufs_model.specs.declared.data.Whence.TheVariants as whence
use Rattle.ufs_model.proofs.Facts.Orders.{fd_total, fd_same}
use Rattle.ufs_model.proofs.Facts.Lookups.{inserted_here}
use Rattle.ufs_names.proofs.DescAfterLemmas.{desc_after_posix}
use Rattle.std.specs.FinMap as map
use Rattle.ufs_client.specs.Own.{AreServedFrom, IsOwnAnswer, is_known, is_own_seek, server_of}

same_start : (from : Whence) (d : Desc) (one other : ℕ) → is_known from ≡ true → start_of from d one ≡ start_of from d other
same_start whence.Set d one other known = refl
same_start whence.Cur d one other known = refl
same_start whence.End d one other known = absurd cc

module _ (t : PosixTree) (client fd : ℕ) (from : Whence) (by : ℤ) (d : Desc) (known : is_known from ≡ true) (there : desc_at t client fd ≡ Some d) (allowed : seek_refusal (Some d) ≡ None) where
  abbrev request : Op
  request = op.Seek fd from by

  -- by where it leads
  abbrev out : Option Errno → Option ℕ → Desc → PosixTree × Reply
  out (Some e) to d = (t, Refused e)
  out None to d = (with_fd t client fd (with_offset d (unwrap_or to 0)), At (unwrap_or to 0))

  abbrev off : Option ℕ → Option Errno
  off to = refused_if (not (is_offset to)) Einval

  abbrev place : Option ℕ
  place = seek_to from by d 0

  abbrev size : ℕ
  size = length (content t.bytes (opened t client fd).file)

  served_is : (o : Option Errno) → served t client request o ≡ out o (seek_to from by (opened t client fd) size) (opened t client fd)
  served_is (Some e) = refl
  served_is None = refl

  open_is : opened t client fd ≡ d
  open_is = ap (λ (o : Option Desc). unwrap_or o closed) there

  place_is : seek_to from by (opened t client fd) size ≡ place
  place_is = ap (λ (e : Desc). seek_to from by e size) open_is ∙ ap (λ (at : ℕ). moved_by at by) (same_start from d size 0 known)

  pub posix_is : posix t client request ≡ out (off place) place d
  posix_is =
      ap (λ (o : Option Desc). served t client request (first_of (seek_refusal o) (tree_refusal t client request))) there
      ∙ ap (λ (o : Option Errno). served t client request (first_of o (tree_refusal t client request))) allowed
      ∙ served_is (tree_refusal t client request)
      ∙ (λ i. out (off (place_is i)) (place_is i) (open_is i))

  abbrev step : Step
  step = step_by [] d request (place_refusal [] d request)

  reply_is : (o : Option Errno) → (out o place d).1 ≡ (step_by [] d request o).reply
  reply_is (Some e) = refl
  reply_is None = refl

  tree_is : (o : Option Errno) → (out o place d).0 ≡ record t { fds = (out o place d).0.fds }
  tree_is (Some e) = refl
  tree_is None = refl

  desc_is : (o : Option Errno) → Some (step_by [] d request o).desc ≡ map.get (out o place d).0.fds (client, fd)
  desc_is (Some e) = sym there
  desc_is None = sym (inserted_here fd_total fd_same t.fds (client, fd) (with_offset d (unwrap_or place 0)))

  pub seek_own : (reply : Reply) (desc : Option Desc) → reply ≡ step.reply → desc ≡ Some step.desc → IsOwnAnswer t client request reply desc
  seek_own reply desc reply_same desc_same = record {
    replied = reply_same ∙ sym (reply_is (off place)) ∙ ap (λ (x : PosixTree × Reply). x.1) (sym posix_is);
    tree = subst (λ (x : PosixTree × Reply). x.0 ≡ record t { fds = x.0.fds }) (sym posix_is) (tree_is (off place));
    told = record {
      this = desc_same ∙ desc_is (off place) ∙ ap (λ (x : PosixTree × Reply). map.get x.0.fds (client, fd)) (sym posix_is);
      others = (desc_after_posix t client request).others;
    };
  }

-- as it is told
pub seek_asked : (t : PosixTree) (ask : Ask) (d : Desc) (reply : Reply) (desc : Option Desc) → is_own_seek ask.op ≡ true → IsAsk t ask → ask.desc ≡ Some d → own_refusal t ask.client ask.op ≡ None
    → reply ≡ (step_by [] d ask.op (place_refusal [] d ask.op)).reply → desc ≡ Some (step_by [] d ask.op (place_refusal [] d ask.op)).desc → IsOwnAnswer t ask.client ask.op reply desc
seek_asked t ask d reply desc own asked some = by ask.op own (sym asked.desc ∙ some)
  where
    by : (o : Op) → is_own_seek o ≡ true → desc_of_fd t.fds ask.client (fd_named o) ≡ Some d → own_refusal t ask.client o ≡ None
        → reply ≡ (step_by [] d o (place_refusal [] d o)).reply → desc ≡ Some (step_by [] d o (place_refusal [] d o)).desc → IsOwnAnswer t ask.client o reply desc
    by (op.Seek fd from by') known there allowed reply_same desc_same =
        seek_own t ask.client fd from by' d known there (sym (ap seek_refusal there) ∙ allowed) reply desc reply_same desc_same
    by _ own there allowed reply_same desc_same = absurd cc

-- ---- a history

pub served-push : (t : PosixTree) (history : List Entry) (entry : Entry) → AreServedFrom t history → entry.by ≡ server_of (tree_after t history) entry.client entry.op → AreServedFrom t (history ++ entry ∷ [])
served-push t [] entry each is = (is, tt)
served-push t (e ∷ history) entry each is = (each.0, served-push (goes_on t e) history entry each.1 is)
