-- A client's own answer leaves the parts of a server and the bytes of its files as they are, and touches no part but the client's.
use Rattle.std.proofs.Common.{◌≡◌, ◌⊎◌, ⊎_elim, ◌||◌, ℕ, true, false, List, [], ◌∷◌, ◌++◌, Option, Some, None, is_some, is_none, ap, sym, refl, subst, ◌∙◌, inl, inr}
use Rattle.std.specs.Prelude.{if◌then◌else◌}
use Rattle.std.specs.FinMap as map
use Rattle.ufs_base.specs.Choices.{first_of}
use Rattle.ufs_client.specs.Own.{IsOwnAnswer, is_own, is_own_seek}
use Rattle.ufs_client.proofs.Replies.{by_reply}
use Rattle.ufs_model.specs.Asks.{IsAsk, desc_of_fd, fd_named, file_in}
use Rattle.ufs_model.specs.FileCalls.{is_on_file}
use Rattle.ufs_model.specs.History.{is_excused, tree_after}
use Rattle.ufs_model.specs.Posix.{posix, served}
use Rattle.ufs_model.specs.PosixTree.{PosixTree}
use Rattle.ufs_model.specs.Refusals.{own_refusal, seek_refusal, tree_refusal}
use Rattle.ufs_model.specs.Touched.{IsPartOf, reached, touched_parts}
use Rattle.ufs_model.specs.declared.data.Ask.{Ask}
use Rattle.ufs_model.specs.declared.data.Desc.{Desc}
use Rattle.ufs_model.specs.declared.data.Entry.{Entry}
use Rattle.ufs_model.specs.declared.data.Errno.{Errno}
use Rattle.ufs_model.specs.declared.data.Errno.TheVariants.{Einval}
use Rattle.ufs_model.specs.declared.data.Op.{Op}
use Rattle.ufs_model.specs.declared.data.Op.TheVariants as op
use Rattle.ufs_model.specs.declared.data.PartName.{PartName}
use Rattle.ufs_model.specs.declared.data.PartName.TheVariants as part
use Rattle.ufs_model.specs.declared.data.Reply.{Reply}
use Rattle.ufs_model.specs.declared.data.Reply.TheVariants as reply
use Rattle.ufs_model.specs.declared.data.Whence.TheVariants as whence
use Rattle.ufs_model.proofs.Facts.Allowed.{passed, some_there}
use Rattle.ufs_model.proofs.Facts.Histories.{tree_after-push}
use Rattle.ufs_names.proofs.FileRequestLemmas.{keeps_names}
use Rattle.ufs_names.specs.NamesPart.{IsNamesPart}
use Rattle.ufs_crash_laws.specs.Changes.{asks_commit}
use Rattle.ufs_crash_laws.specs.Steps.{is_ok}
use Rattle.ufs_promise_laws.specs.Parts.{Parts}
use Rattle.ufs_promise_laws.specs.Stored.{ArePartsOf}
use Rattle.ufs_promise_laws.proofs.Whole.{file_stays}

-- ---- which parts it touches

module _ (t : PosixTree) (client : ℕ) (o : Op) (own : is_own t client o ≡ true) where
  refused_or_seek : ((e : Errno) × (own_refusal t client o ≡ Some e)) ⊎ ((is_own_seek o ≡ true) × (own_refusal t client o ≡ None))
  refused_or_seek = by (own_refusal t client o) refl
    where
      by : (r : Option Errno) → own_refusal t client o ≡ r → ((e : Errno) × (own_refusal t client o ≡ Some e)) ⊎ ((is_own_seek o ≡ true) × (own_refusal t client o ≡ None))
      by (Some e) refused = inl (e, refused)
      by None none = inr (sym (ap (λ (r : Option Errno). is_some r || is_own_seek o) none) ∙ own, none)

  seek_reaches : (p : Op) → is_own_seek p ≡ true → reached t client p ≡ []
  seek_reaches (op.Seek fd whence.Set by) is = refl
  seek_reaches (op.Seek fd whence.Cur by) is = refl
  seek_reaches (op.Seek fd whence.End by) is = absurd cc
  seek_reaches _ is = absurd cc

  pub touches_itself : touched_parts t client o ≡ part.Client client ∷ []
  touches_itself = ⊎_elim
      (λ (r : (e : Errno) × (own_refusal t client o ≡ Some e)). ap (λ (x : Option Errno). part.Client client ∷ (if is_some x then [] else reached t client o)) r.1)
      (λ (s : (is_own_seek o ≡ true) × (own_refusal t client o ≡ None)). (λ i. part.Client client ∷ (if is_some (s.1 i) then [] else seek_reaches o s.0 i)))
      refused_or_seek

  no_other : (p : PartName) → (p ≡ part.Client client → ⊥) → IsPartOf (touched_parts t client o) p → ⊥
  no_other p apart touched = ⊎_elim (λ (e : p ≡ part.Client client). apart e) (λ (none : ⊥). none) (subst (λ (ps : List PartName). IsPartOf ps p) touches_itself touched)

  pub no_file_touched : (file : ℕ) → IsPartOf (touched_parts t client o) (part.File file) → ⊥
  no_file_touched file = no_other (part.File file) (λ e. clash e)
    where
      clash : part.File file ≡ part.Client client → ⊥
      clash e = cc

  pub no_names_touched : IsPartOf (touched_parts t client o) part.Names → ⊥
  no_names_touched = no_other part.Names (λ e. clash e)
    where
      clash : part.Names ≡ part.Client client → ⊥
      clash e = cc

-- ---- what it leaves

seek_unsynced : (o : Op) → is_own_seek o ≡ true → asks_commit o ≡ false
seek_unsynced (op.Seek fd from by) own = refl
seek_unsynced _ own = absurd cc

seek_on_file : (o : Op) → is_own_seek o ≡ true → is_on_file o ≡ true
seek_on_file (op.Seek fd from by) own = refl
seek_on_file _ own = absurd cc

has_file : (o : Option Desc) → seek_refusal o ≡ None → is_some (file_in o) ≡ true
has_file None none = absurd cc
has_file (Some d) none = some_there d.file (passed (is_none d.file) Einval none)

seek_has_file : (t : PosixTree) (client : ℕ) (o : Op) → is_own_seek o ≡ true → own_refusal t client o ≡ None → is_some (file_in (desc_of_fd t.fds client (fd_named o))) ≡ true
seek_has_file t client (op.Seek fd from by) own none = has_file (desc_of_fd t.fds client (Some fd)) none
seek_has_file t client _ own none = absurd cc

module _ (p : Parts) (t : PosixTree) (ask : Ask) (answer : Reply) (desc : Option Desc) (asked : IsAsk t ask) (own : is_own t ask.client ask.op ≡ true) (is : IsOwnAnswer t ask.client ask.op answer desc) where
  abbrev after : PosixTree
  after = (posix t ask.client ask.op).0

  refused_is : (e : Errno) → own_refusal t ask.client ask.op ≡ Some e → posix t ask.client ask.op ≡ (t, reply.Refused e)
  refused_is e refused = ap (λ (o : Option Errno). served t ask.client ask.op (first_of o (tree_refusal t ask.client ask.op))) refused

  same_bytes : after.bytes ≡ t.bytes
  same_bytes = ap (λ (u : PosixTree). u.bytes) is.tree

  parts_stay : ArePartsOf p t → ArePartsOf p after
  parts_stay parts = record {
    names = names (refused_or_seek t ask.client ask.op own);
    files = λ f s here. let was = parts.files f s here in (was.0, file_stays s t after (ap (λ bytes. map.get bytes s.file) same_bytes) was.1);
    inodes = parts.inodes;
    here = parts.here;
  }
    where
      names : ((e : Errno) × (own_refusal t ask.client ask.op ≡ Some e)) ⊎ ((is_own_seek ask.op ≡ true) × (own_refusal t ask.client ask.op ≡ None)) → IsNamesPart p.names after
      names (inl refused) = subst (λ (x : PosixTree × Reply). IsNamesPart p.names x.0) (sym (refused_is refused.0 refused.1)) parts.names
      names (inr seek) = keeps_names p.names t ask parts.names asked (seek_on_file ask.op seek.0)
          (ap (λ (o : Option Desc). is_some (file_in o)) asked.desc ∙ seek_has_file t ask.client ask.op seek.0 seek.1)

  -- it acknowledges nothing
  pub nothing : (is_ok answer ≡ false) ⊎ (asks_commit ask.op ≡ false)
  nothing = by (refused_or_seek t ask.client ask.op own)
    where
      by : ((e : Errno) × (own_refusal t ask.client ask.op ≡ Some e)) ⊎ ((is_own_seek ask.op ≡ true) × (own_refusal t ask.client ask.op ≡ None)) → (is_ok answer ≡ false) ⊎ (asks_commit ask.op ≡ false)
      by (inl refused) = inl (ap is_ok is.replied ∙ ap (λ (x : PosixTree × Reply). is_ok x.1) (refused_is refused.0 refused.1))
      by (inr seek) = inr (seek_unsynced ask.op seek.0)

-- behind the entry
module _ (start : PosixTree) (history : List Entry) (p : Parts) (entry : Entry) (ask : Ask) (desc : Option Desc) (client : entry.client ≡ ask.client) (asked_is : entry.op ≡ ask.op) (plain : is_excused entry.reply ≡ false)
    (asked : IsAsk (tree_after start history) ask) (own : is_own (tree_after start history) ask.client ask.op ≡ true) (is : IsOwnAnswer (tree_after start history) ask.client ask.op entry.reply desc) where
  abbrev t : PosixTree
  t = tree_after start history

  pub goes : tree_after start (history ++ entry ∷ []) ≡ (posix t ask.client ask.op).0
  goes = tree_after-push start history entry ∙ by_reply t entry.client entry.op entry.reply plain ∙ (λ i. (posix t (client i) (asked_is i)).0)

  pub parts_behind : ArePartsOf p t → ArePartsOf p (tree_after start (history ++ entry ∷ []))
  parts_behind parts = subst (ArePartsOf p) (sym goes) (parts_stay p t ask entry.reply desc asked own is parts)

  pub bytes_behind : (tree_after start (history ++ entry ∷ [])).bytes ≡ t.bytes
  bytes_behind = ap (λ (u : PosixTree). u.bytes) goes ∙ same_bytes p t ask entry.reply desc asked own is
