-- What is told of a `sync`, and of the files that it commits.
use Rattle.std.proofs.Common.{◌≡◌, ◌≢◌, ◌<◌, ◌+◌, ◌⊎◌, inl, inr, eqb, ne_eqb, Bool, true, zero, suc, length, List, [], ◌∷◌, ℕ, Option, None, refl, sym, ap, ◌∙◌, subst}
use Rattle.ufs_file.specs.Hand.{IsEntryOf}
use Rattle.ufs_held.specs.Asking.{IsSyncReply}
use Rattle.ufs_held.specs.Together.{under_numbers}
use Rattle.ufs_held_names.specs.Dirs.{answered}
use Rattle.ufs_held_names.specs.SyncAll.{AreSynced, AsksSync, AtFile, AtNames, IsFileKept, StopsShort}
use Rattle.ufs_joint.specs.Cells.{FileCell, NamesCell, Start, View}
use Rattle.ufs_joint.specs.FileHands.{own_desc}
use Rattle.ufs_model.specs.Asks.{fd_told}
use Rattle.ufs_model.specs.History.{is_excused}
use Rattle.ufs_model.specs.declared.data.Actor.TheVariants.{Primary}
use Rattle.ufs_model.specs.declared.data.Ask.{Ask}
use Rattle.ufs_model.specs.declared.data.Entry.{Entry}
use Rattle.ufs_model.specs.declared.data.Op.{Op}
use Rattle.ufs_model.specs.declared.data.Op.TheVariants as op
use Rattle.ufs_model.specs.declared.data.Reply.{Reply}
use Rattle.ufs_model.specs.declared.data.Reply.TheVariants as reply
use Rattle.ufs_msg.specs.Answers.{IsTold}
use Rattle.ufs_msg.specs.Requests.{HasClientAlone, IsAsked}
use Rattle.ufs_msg.specs.There.{IsClientThere, IsServerThere}
use Rattle.ufs_hand_laws.specs.Owned.{Has, count, one}
use Rattle.ufs_at_primary.specs.All.{numbers_in}

-- ---- numbers

-- none of them has this one
pub none_under : (n : ℕ) (cs : List FileCell) → ((c : FileCell) → Has c cs → n ≢ c.value.file.file) → count eqb n (under_numbers cs) ≡ 0
none_under n [] off = refl
none_under n (c ∷ cs) off = (λ i. one (ne_eqb n c.value.file.file (off c (inl refl)) i) + none_under n cs (λ d has. off d (inr has)) i)

-- how often a number stands among them
abbrev counted : ℕ → List ℕ → ℕ
counted n [] = 0
counted n (k ∷ ks) = one (eqb n k) + counted n ks

counted_is : (n : ℕ) (cs : List FileCell) → count eqb n (under_numbers cs) ≡ counted n (numbers_in cs)
counted_is n [] = refl
counted_is n (c ∷ cs) = ap (λ (k : ℕ). one (eqb n c.value.file.file) + k) (counted_is n cs)

-- where the numbers are the same, none is there more often
pub same_counts : (n : ℕ) (olds nows : List FileCell) → numbers_in nows ≡ numbers_in olds → count eqb n (under_numbers nows) ≡ count eqb n (under_numbers olds)
same_counts n olds nows same = counted_is n nows ∙ ap (counted n) same ∙ sym (counted_is n olds)

count_numbers : (cs : List FileCell) → length (numbers_in cs) ≡ length cs
count_numbers [] = refl
count_numbers (c ∷ cs) = ap suc (count_numbers cs)

pub same_length : (olds nows : List FileCell) → numbers_in nows ≡ numbers_in olds → length nows ≡ length olds
same_length olds nows same = sym (count_numbers nows) ∙ ap length same ∙ count_numbers olds

kept_number : (was now : FileCell) → IsFileKept was now → now.value.file.file ≡ was.value.file.file
kept_number was now (inl is) = ap (λ (c : FileCell). c.value.file.file) is
kept_number was now (inr is) = ap (λ (c : FileCell). c.value.file.file) is

pub synced_numbers : (visible : Bool) (olds nows : List FileCell) (k : ℕ) → AreSynced visible olds nows k → numbers_in nows ≡ numbers_in olds
synced_numbers visible [] [] k is = refl
synced_numbers visible [] (now ∷ nows) k is = absurd is
synced_numbers visible (was ∷ olds) [] k is = absurd is
synced_numbers visible (was ∷ olds) (now ∷ nows) zero is = (λ i. kept_number was now is.0 i ∷ synced_numbers visible olds nows zero is.1 i)
synced_numbers visible (was ∷ olds) (now ∷ nows) (suc k) is = (λ i. (is.0.value i).file.file ∷ synced_numbers visible olds nows k is.1 i)

short_numbers : (visible : Bool) (old new : NamesCell) (olds nows : List FileCell) (before after : Option View) → StopsShort visible old new olds nows before after → numbers_in nows ≡ numbers_in olds
short_numbers visible old new olds nows before after (AtNames same files free) = ap numbers_in files
short_numbers visible old new olds nows before after (AtFile done k less is freed) = synced_numbers visible olds nows k is

pub kind_of : (r : Reply) → IsSyncReply r → (r ≡ reply.Done) ⊎ (is_excused r ≡ true)
kind_of reply.Done is = inl refl
kind_of (reply.Excused x) is = inr refl
kind_of (reply.Fd n) is = absurd is
kind_of (reply.Count n) is = absurd is
kind_of (reply.At n) is = absurd is
kind_of (reply.Got b) is = absurd is
kind_of (reply.IsFile n) is = absurd is
kind_of (reply.IsDir n) is = absurd is
kind_of (reply.Names n) is = absurd is
kind_of (reply.Refused e) is = absurd is

pub numbers_still : (visible : Bool) (old new : NamesCell) (olds nows : List FileCell) (before after : Option View) (r : Reply) → IsSyncReply r → (r ≡ reply.Done → AreSynced visible olds nows (length olds)) → (is_excused r ≡ true → StopsShort visible old new olds nows before after)
    → numbers_in nows ≡ numbers_in olds
numbers_still visible old new olds nows before after r replied done short = by (kind_of r replied)
  where
    by : (r ≡ reply.Done) ⊎ (is_excused r ≡ true) → numbers_in nows ≡ numbers_in olds
    by (inl is) = synced_numbers visible olds nows (length olds) (done is)
    by (inr is) = short_numbers visible old new olds nows before after (short is)

-- ---- the request, and its answer

module _ (k : Start) (ask : Ask) (before : View) (asked : IsAsked k ask before) (sync : ask.op ≡ op.Sync) where
  pub asks_sync : AsksSync asked.self ask
  asks_sync = record { low = asked.low; asked = asked.asked; seq = asked.seq; op_is = sync; needs = asked.needs }

  module _ (entry : Entry) (of : IsEntryOf ask Primary entry.ticket entry) (guest : View) (back : HasClientAlone ask.client (answered asked.self entry) guest) where
    is_sync : entry.op ≡ op.Sync
    is_sync = of.asked ∙ sync

    pub all_told : IsTold k entry None None None guest
    all_told = record {
      mine = subst (IsClientThere k) (sym of.client) asked.there;
      self = answered asked.self entry;
      alone = subst (λ (c : ℕ). HasClientAlone c (answered asked.self entry) guest) (sym of.client) back;
      low = subst (λ (c : ℕ). c < 16) (sym of.client) asked.low;
      before = asked.self.entries;
      last = refl;
      seq = of.seq ∙ asked.seq;
      few = subst (λ (n : ℕ). n < 65536) (sym of.seq) asked.few;
      idle = refl;
      by = subst (IsServerThere k) (sym of.server) tt;
      desc_is = sym (ap (λ (o : Op). own_desc asked.self.fds (fd_told o entry.reply)) is_sync);
      owned = λ x file at has. absurd cc;
      unowned = λ none. refl;
      there = λ a at. absurd cc;
      granted = λ l at. absurd cc;
      unleased = asked.unleased;
    }
