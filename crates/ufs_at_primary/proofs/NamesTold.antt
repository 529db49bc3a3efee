-- What is told of a request of the names that the primary served.
use Rattle.std.proofs.Common.{◌≡◌, ◌≢◌, ◌<◌, ◌^◌, ℕ, Bool, true, false, Option, Some, None, refl, sym, ap, ◌∙◌, subst}
use Rattle.std.specs.Prelude.{IfSome, IsSome}
use Rattle.std.specs.FinMap as fin
use Rattle.std.specs.FinSet as set
use Rattle.ufs_bitmap.specs.Blocks.{BlockSet}
use Rattle.ufs_file.specs.Hand.{IsEntryOf}
use Rattle.ufs_held_names.specs.Asked.{IsNamedApart}
use Rattle.ufs_held_names.specs.Asking.{AsksNames, IsAnsweredNames}
use Rattle.ufs_held_names.proofs.Untold.{named_none}
use Rattle.ufs_joint.specs.Cells.{FileCell, Start, View}
use Rattle.ufs_joint.specs.FileHands.{own_desc}
use Rattle.ufs_model.specs.Asks.{fd_named, fd_opened, fd_told, file_in}
use Rattle.ufs_model.specs.History.{is_excused}
use Rattle.ufs_model.specs.declared.data.Actor.{Actor}
use Rattle.ufs_model.specs.declared.data.Actor.TheVariants.{Primary}
use Rattle.ufs_model.specs.declared.data.Ask.{Ask}
use Rattle.ufs_model.specs.declared.data.Desc.{Desc}
use Rattle.ufs_model.specs.declared.data.Entry.{Entry}
use Rattle.ufs_model.specs.declared.data.Op.{Op}
use Rattle.ufs_model.specs.declared.data.Op.TheVariants as op
use Rattle.ufs_model.specs.declared.data.Reply.{Reply}
use Rattle.ufs_model.specs.declared.data.Reply.TheVariants as reply
use Rattle.ufs_model.proofs.Facts.Lookups.{same_some}
use Rattle.ufs_msg.specs.Answers.{IsTold}
use Rattle.ufs_msg.specs.Requests.{HasClientAlone, IsAsked}
use Rattle.ufs_msg.specs.There.{IsClientThere, IsServerThere}
use Rattle.ufs_names.specs.Calls.{IsOfNames}
use Rattle.ufs_owner.specs.Owners.{Files}
use Rattle.ufs_crash_laws.specs.Changes.{asks_commit}
use Rattle.ufs_hand_laws.specs.Parts.{ClientPart}
use Rattle.ufs_turns.specs.Lent.{AreTold}
use Rattle.ufs_at_primary.specs.Named.{server_told}
use Rattle.ufs_serving.specs.Pools.{IsWithin}

-- ---- blocks

pub free_still : (o : Option View) → AreTold o o (λ had has. has ≡ had)
free_still None = tt
free_still (Some v) = refl

-- what the request left of the pool was of it
pub left_of : (found left : BlockSet) (b : Bool) → (b ≡ true → left ≡ found) → (b ≡ false → IsWithin left found) → IsWithin left found
left_of found left true excused served = λ q has. sym (ap (λ (s : BlockSet). set.contains s q) (excused refl)) ∙ has
left_of found left false excused served = served refl

-- ---- the pool's name is no file's

pub named_apart : (n next : ℕ) (o : Option FileCell) → n ≢ next → ((file : ℕ) → file < 2 ^ 31 → n ≢ file) → IfSome o (λ c. c.value.file.file < 2 ^ 31) → IsNamedApart n next o
named_apart n next None new off low = record { new = new; touched = λ is. cc }
named_apart n next (Some c) new off low = record { new = new; touched = λ is. off c.value.file.file low (sym (same_some c.value.file.file n is)) }

-- ---- the request

pub asks_names : (k : Start) (ask : Ask) (v : View) (asked : IsAsked k ask v) → IsOfNames ask → asks_commit ask.op ≡ false → AsksNames asked.self ask
asks_names k ask v asked kind none = record { low = asked.low; asked = asked.asked; seq = asked.seq; kind = kind; no_commit = none; told = asked.told; needs = asked.needs }

-- ---- its descriptor

opened_none : (r : Reply) (fd : ℕ) → is_excused r ≡ true → fd_opened r ≡ Some fd → ⊥
opened_none (reply.Fd n) fd is told = cc
opened_none reply.Done fd is told = cc
opened_none (reply.Count n) fd is told = cc
opened_none (reply.At n) fd is told = cc
opened_none (reply.Got b) fd is told = cc
opened_none (reply.IsFile n) fd is told = cc
opened_none (reply.IsDir n) fd is told = cc
opened_none (reply.Names n) fd is told = cc
opened_none (reply.Refused e) fd is told = cc
opened_none (reply.Excused x) fd is told = cc

-- an excuse opens none
pub named_still : (o : Op) (r : Reply) (fd : ℕ) → is_excused r ≡ true → fd_told o r ≡ Some fd → fd_named o ≡ Some fd
named_still (op.OpenFile path read write creat excl trunc append) r fd is told = absurd (opened_none r fd is told)
named_still (op.Close n) r fd is told = told
named_still (op.Read n m) r fd is told = told
named_still (op.Write n b) r fd is told = told
named_still (op.Pread n m at) r fd is told = told
named_still (op.Pwrite n b at) r fd is told = told
named_still (op.Seek n from by) r fd is told = told
named_still (op.Trunc n size) r fd is told = told
named_still (op.Fsync n) r fd is told = told
named_still op.Sync r fd is told = told
named_still (op.Mkdir path) r fd is told = told
named_still (op.Rmdir path) r fd is told = told
named_still (op.Unlink path) r fd is told = told
named_still (op.Rename from to) r fd is told = told
named_still (op.Stat path) r fd is told = told
named_still (op.List path) r fd is told = told

-- ---- its owner

pub owned_some : (owners : Files) (before then : Option ℕ) (file : ℕ) → then ≡ Some file → IsSome (server_told owners before then)
owned_some owners before None file is = absurd cc
owned_some owners before (Some f) file is = refl

pub unowned_none : (owners : Files) (before then : Option ℕ) → before ≡ None → then ≡ None → server_told owners before then ≡ None
unowned_none owners before then one two = (λ i. server_told owners (one i) (two i))

-- ---- the answer

module _ (k : Start) (ask : Ask) (before : View) (asked : IsAsked k ask before) (owners : Files) (entry : Entry) (desc : Option Desc) (owner : Option Actor)
    (of : IsEntryOf ask Primary entry.ticket entry) (after : ClientPart) (answered : IsAnsweredNames asked.self entry desc after) (guest : View) (back : HasClientAlone ask.client after guest)
    (same_desc : is_excused entry.reply ≡ true → desc ≡ ask.desc) (no_desc : fd_told entry.op entry.reply ≡ None → desc ≡ None) (owner_is : owner ≡ server_told owners (file_in ask.desc) (file_in desc)) (there : IfSome owner (IsServerThere k)) where
  -- what its descriptor stands for then
  stands : (fd : ℕ) (b : Bool) → is_excused entry.reply ≡ b → fd_told entry.op entry.reply ≡ Some fd → desc ≡ fin.get after.fds fd
  stands fd true is at =
      same_desc is ∙ asked.desc ∙ ap (λ (o : Op). own_desc asked.self.fds (fd_named o)) (sym of.asked) ∙ ap (own_desc asked.self.fds) (named_still entry.op entry.reply fd is at)
      ∙ ap (λ fds. fin.get fds fd) (sym (answered.stay is)) ∙ ap (λ (p : ClientPart). fin.get p.fds fd) (sym answered.is)
  stands fd false is at = sym (answered.this is fd at) ∙ ap (λ (p : ClientPart). fin.get p.fds fd) (sym answered.is)

  desc_then : (o : Option ℕ) → fd_told entry.op entry.reply ≡ o → desc ≡ own_desc after.fds o
  desc_then None at = no_desc at
  desc_then (Some fd) at = stands fd (is_excused entry.reply) refl at

  none_of : fd_told entry.op entry.reply ≡ None → file_in ask.desc ≡ None
  none_of at = ap file_in (asked.desc ∙ ap (λ (o : Op). own_desc asked.self.fds (fd_named o)) (sym of.asked) ∙ ap (own_desc asked.self.fds) (named_none entry.op entry.reply at))

  then_none : fd_told entry.op entry.reply ≡ None → file_in desc ≡ None
  then_none at = ap file_in (no_desc at)

  there_then : (o : Option Actor) → IfSome o (IsServerThere k) → (a : Actor) → o ≡ Some a → IsServerThere k a
  there_then None is a at = absurd cc
  there_then (Some b) is a at = subst (IsServerThere k) (same_some b a at) is

  file_then : (x : Desc) (file : ℕ) → desc ≡ Some x → x.file ≡ Some file → file_in desc ≡ Some file
  file_then x file is at = ap file_in is ∙ at

  pub names_told : IsTold k entry desc owner None guest
  names_told = record {
    mine = subst (IsClientThere k) (sym of.client) asked.there;
    self = after;
    alone = subst (λ (c : ℕ). HasClientAlone c after guest) (sym of.client) back;
    low = subst (λ (c : ℕ). c < 16) (sym of.client) asked.low;
    before = asked.self.entries;
    last = ap (λ (p : ClientPart). p.entries) answered.is;
    seq = of.seq ∙ asked.seq;
    few = subst (λ (n : ℕ). n < 65536) (sym of.seq) asked.few;
    idle = ap (λ (p : ClientPart). p.asked) answered.is;
    by = subst (IsServerThere k) (sym of.server) tt;
    desc_is = desc_then (fd_told entry.op entry.reply) refl;
    owned = λ x file is at. subst IsSome (sym owner_is) (owned_some owners (file_in ask.desc) (file_in desc) file (file_then x file is at));
    unowned = λ none. owner_is ∙ unowned_none owners (file_in ask.desc) (file_in desc) (none_of none) (then_none none);
    there = there_then owner there;
    granted = λ l is. absurd cc;
    unleased = ap (λ (p : ClientPart). p.copies) answered.is ∙ asked.unleased;
  }
