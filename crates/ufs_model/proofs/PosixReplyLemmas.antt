-- The reply that POSIX gives is no excuse, so a history goes on by it.
use Rattle.std.proofs.Common.{◌≡◌, ℕ, List, [], ◌∷◌, Option, Some, None, false, ap, sym, refl, subst, ◌∙◌, inl}
use Rattle.ufs_model.specs.Walk.{node_at}
use Rattle.ufs_model.specs.Paths.{whole_of}
use Rattle.ufs_model.specs.PosixTree.{PosixTree}
use Rattle.ufs_model.specs.Refusals.{refusal}
use Rattle.ufs_model.specs.Posix.{posix, served, answer, stat_reply}
use Rattle.ufs_model.specs.History.{IsLegalEntry, IsPosixEntry, TellsNewFault, share_fault, is_excused, tree_with, goes_on}
use Rattle.ufs_model.specs.declared.data.Op.{Op}
use Rattle.ufs_model.specs.declared.data.Op.TheVariants as op
use Rattle.ufs_model.specs.declared.data.Node.{Node}
use Rattle.ufs_model.specs.declared.data.Node.TheVariants.{Dir, File}
use Rattle.ufs_model.specs.declared.data.Errno.{Errno}
use Rattle.ufs_model.specs.declared.data.Excuse.{Excuse}
use Rattle.ufs_model.specs.declared.data.Excuse.TheVariants as excuse
use Rattle.ufs_model.specs.declared.data.Reply.{Reply}
use Rattle.ufs_model.specs.declared.data.Reply.TheVariants as reply
use Rattle.ufs_model.specs.declared.data.Entry.{Entry}

abbrev pub IsPlain : Reply → Type 0
IsPlain r = (x : Excuse) → r ≡ reply.Excused x → ⊥

stat_plain : (t : PosixTree) (whole : List ℕ) (node : Option Node) → IsPlain (stat_reply t whole node)
stat_plain t whole None x is = cc
stat_plain t whole (Some Dir) x is = cc
stat_plain t whole (Some (File f)) x is = cc

answer_plain : (t : PosixTree) (client : ℕ) (request : Op) → IsPlain (answer t client request)
answer_plain t client (op.OpenFile path read write creat excl trunc append) x is = cc
answer_plain t client (op.Close fd) x is = cc
answer_plain t client (op.Read fd n) x is = cc
answer_plain t client (op.Write fd data') x is = cc
answer_plain t client (op.Pread fd n at) x is = cc
answer_plain t client (op.Pwrite fd data' at) x is = cc
answer_plain t client (op.Seek fd from by) x is = cc
answer_plain t client (op.Trunc fd size) x is = cc
answer_plain t client (op.Fsync fd) x is = cc
answer_plain t client op.Sync x is = cc
answer_plain t client (op.Mkdir path) x is = cc
answer_plain t client (op.Rmdir path) x is = cc
answer_plain t client (op.Unlink path) x is = cc
answer_plain t client (op.Rename from to) x is = cc
answer_plain t client (op.Stat path) x is = stat_plain t (whole_of path) (node_at t.paths path) x is
answer_plain t client (op.List path) x is = cc

pub posix_plain : (t : PosixTree) (client : ℕ) (request : Op) → IsPlain (posix t client request).1
posix_plain t client request = by (refusal t client request)
  where
    by : (r : Option Errno) → IsPlain (served t client request r).1
    by (Some e) x is = cc
    by None x is = answer_plain t client request x is

-- a plain reply lets the tree go on
plain_goes_on : (t : PosixTree) (client : ℕ) (request : Op) (r : Reply) → IsPlain r → tree_with t client request r ≡ (posix t client request).0
plain_goes_on t client request (reply.Excused x) plain = absurd (plain x refl)
plain_goes_on t client request reply.Done plain = refl
plain_goes_on t client request (reply.Fd n) plain = refl
plain_goes_on t client request (reply.Count n) plain = refl
plain_goes_on t client request (reply.At n) plain = refl
plain_goes_on t client request (reply.Got bytes) plain = refl
plain_goes_on t client request (reply.IsFile size) plain = refl
plain_goes_on t client request (reply.IsDir entries) plain = refl
plain_goes_on t client request (reply.Names names) plain = refl
plain_goes_on t client request (reply.Refused e) plain = refl

pub plain_unexcused : (r : Reply) → IsPlain r → is_excused r ≡ false
plain_unexcused (reply.Excused x) plain = absurd (plain x refl)
plain_unexcused reply.Done plain = refl
plain_unexcused (reply.Fd n) plain = refl
plain_unexcused (reply.Count n) plain = refl
plain_unexcused (reply.At n) plain = refl
plain_unexcused (reply.Got bytes) plain = refl
plain_unexcused (reply.IsFile size) plain = refl
plain_unexcused (reply.IsDir entries) plain = refl
plain_unexcused (reply.Names names) plain = refl
plain_unexcused (reply.Refused e) plain = refl

shares_none : (x : Excuse) (r : Reply) → IsPlain r → share_fault (reply.Excused x) r ≡ false
shares_none excuse.Memory r plain = refl
shares_none (excuse.Stopped fault) r plain = refl
shares_none (excuse.Blocks need had) r plain = refl
shares_none excuse.Inodes r plain = refl
shares_none (excuse.Extents need) r plain = refl
shares_none (excuse.Device fault) (reply.Excused x) plain = absurd (plain x refl)
shares_none (excuse.Device fault) reply.Done plain = refl
shares_none (excuse.Device fault) (reply.Fd n) plain = refl
shares_none (excuse.Device fault) (reply.Count n) plain = refl
shares_none (excuse.Device fault) (reply.At n) plain = refl
shares_none (excuse.Device fault) (reply.Got bytes) plain = refl
shares_none (excuse.Device fault) (reply.IsFile size) plain = refl
shares_none (excuse.Device fault) (reply.IsDir entries) plain = refl
shares_none (excuse.Device fault) (reply.Names names) plain = refl
shares_none (excuse.Device fault) (reply.Refused e) plain = refl

shares : (a b : Reply) → IsPlain b → share_fault a b ≡ false
shares (reply.Excused x) b plain = shares_none x b plain
shares reply.Done b plain = refl
shares (reply.Fd n) b plain = refl
shares (reply.Count n) b plain = refl
shares (reply.At n) b plain = refl
shares (reply.Got bytes) b plain = refl
shares (reply.IsFile size) b plain = refl
shares (reply.IsDir entries) b plain = refl
shares (reply.Names names) b plain = refl
shares (reply.Refused e) b plain = refl

tells_none : (others : List Entry) (entry : Entry) → IsPlain entry.reply → TellsNewFault others entry
tells_none [] entry plain = tt
tells_none (other ∷ others) entry plain = (shares other.reply entry.reply plain, tells_none others entry plain)

module _ (ticket : ℕ) (before after : PosixTree) (entry : Entry) (is : IsPosixEntry ticket before after entry) where
  replied : entry.reply ≡ (posix before entry.client entry.op).1
  replied = sym (ap (λ (p : PosixTree × Reply). p.1) is.stepped)

  plain : IsPlain entry.reply
  plain = subst IsPlain (sym replied) (posix_plain before entry.client entry.op)

  pub legal_entry : IsLegalEntry ticket before entry
  legal_entry = record { numbered = is.numbered; replied = inl replied }

  pub new_fault : (others : List Entry) → TellsNewFault others entry
  new_fault others = tells_none others entry plain

  pub unexcused : is_excused entry.reply ≡ false
  unexcused = plain_unexcused entry.reply plain

  pub stepped_on : goes_on before entry ≡ after
  stepped_on = plain_goes_on before entry.client entry.op entry.reply plain ∙ ap (λ (p : PosixTree × Reply). p.0) is.stepped
