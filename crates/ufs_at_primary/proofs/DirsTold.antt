-- What is told of an `fsync` of a directory.
use Rattle.std.proofs.Common.{◌≡◌, ◌<◌, ℕ, Option, Some, None, refl, sym, ap, ◌∙◌, subst}
use Rattle.std.specs.Prelude.{IsSome}
use Rattle.ufs_file.specs.Hand.{IsEntryOf}
use Rattle.ufs_held_names.specs.Dirs.{AsksDir, AsksUnopened, answered}
use Rattle.ufs_joint.specs.Cells.{Start, View}
use Rattle.ufs_joint.specs.FileHands.{own_desc}
use Rattle.ufs_model.specs.Asks.{fd_named, fd_told, file_in}
use Rattle.ufs_model.specs.declared.data.Actor.TheVariants.{Primary}
use Rattle.ufs_model.specs.declared.data.Ask.{Ask}
use Rattle.ufs_model.specs.declared.data.Desc.{Desc}
use Rattle.ufs_model.specs.declared.data.Entry.{Entry}
use Rattle.ufs_model.specs.declared.data.Op.{Op}
use Rattle.ufs_model.specs.declared.data.Op.TheVariants as op
use Rattle.ufs_msg.specs.Answers.{IsTold}
use Rattle.ufs_msg.specs.Requests.{HasClientAlone, IsAsked}
use Rattle.ufs_msg.specs.There.{IsClientThere, IsServerThere}

-- it is an `fsync` on no file
pub record AsksSyncOf (ask : Ask) : Type 0 where
  pub fsync : (fd : ℕ) × (ask.op ≡ op.Fsync fd)
  pub dir : file_in ask.desc ≡ None

the_desc : (o : Option Desc) → IsSome o → (d : Desc) × (o ≡ Some d)
the_desc None is = absurd cc
the_desc (Some d) is = (d, refl)

pub asks_dir : (k : Start) (ask : Ask) (v : View) (asked : IsAsked k ask v) → AsksSyncOf ask → IsSome ask.desc → AsksDir asked.self ask
asks_dir k ask v asked s some =
    let fd = s.fsync.0 in
    let d = the_desc ask.desc some in
    record {
      low = asked.low;
      asked = asked.asked;
      seq = asked.seq;
      fd = fd;
      op_is = s.fsync.1;
      desc = d.0;
      named = d.1;
      is = ap (λ (o : Op). own_desc asked.self.fds (fd_named o)) (sym s.fsync.1) ∙ sym asked.desc ∙ d.1;
      of = ap file_in (sym d.1) ∙ s.dir;
      told = asked.told;
      needs = asked.needs;
    }

pub asks_unopened : (k : Start) (ask : Ask) (v : View) (asked : IsAsked k ask v) → AsksSyncOf ask → ask.desc ≡ None → AsksUnopened asked.self ask
asks_unopened k ask v asked s none = record {
  low = asked.low;
  asked = asked.asked;
  seq = asked.seq;
  fd = s.fsync.0;
  op_is = s.fsync.1;
  none = ap (λ (o : Op). own_desc asked.self.fds (fd_named o)) (sym s.fsync.1) ∙ sym asked.desc ∙ none;
  needs = asked.needs;
}

no_owner : (o : Option Desc) (x : Desc) (file : ℕ) → file_in o ≡ None → o ≡ Some x → x.file ≡ Some file → ⊥
no_owner o x file none is at = let both = sym none ∙ ap file_in is ∙ at in cc

no_fd : (o : Op) (fd : ℕ) (e : Entry) → o ≡ op.Fsync fd → e.op ≡ o → fd_told e.op e.reply ≡ Some fd
no_fd o fd e is of = ap (λ (p : Op). fd_told p e.reply) (of ∙ is)

module _ (k : Start) (ask : Ask) (before : View) (asked : IsAsked k ask before) (is : AsksSyncOf ask) (entry : Entry) (of : IsEntryOf ask Primary entry.ticket entry) (guest : View)
    (back : HasClientAlone ask.client (answered asked.self entry) guest) where
  pub dir_told : IsTold k entry ask.desc None None guest
  dir_told =
      let told = no_fd ask.op is.fsync.0 entry is.fsync.1 of.asked in
      record {
        mine = subst (IsClientThere k) (sym of.client) asked.there;
        self = answered asked.self entry;
        alone = subst (λ (c : ℕ). HasClientAlone c (answered asked.self entry) guest) (sym of.client) back;
        low = subst (λ (c : ℕ). c < 16) (sym of.client) asked.low;
        before = asked.self.entries;
        last = refl;
        seq = of.seq ∙ asked.seq;
        few = subst (λ (n : ℕ). n < 65536) (sym of.seq) asked.few;
        idle = refl;
        by = subst (IsServerThere k) (sym of.server) tt;
        desc_is = asked.desc ∙ ap (λ (o : Op). own_desc asked.self.fds (fd_named o)) is.fsync.1 ∙ ap (own_desc asked.self.fds) (sym told);
        owned = λ x file at has. absurd (no_owner ask.desc x file is.dir at has);
        unowned = λ none. refl;
        there = λ a at. absurd cc;
        granted = λ l at. absurd cc;
        unleased = asked.unleased;
      }
