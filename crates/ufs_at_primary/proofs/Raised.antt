-- How far a request at the primary raises the numbers of the store.
use Rattle.std.proofs.Common.{◌≡◌, ◌≤◌, ◌+◌, ℕ, Bool, true, false, is_some, Option, Some, None, sym, ap, ◌∙◌, subst, arith}
use Rattle.ufs_crash_laws.specs.Changes.{asks_commit}
use Rattle.ufs_held.specs.Stopping.{Raises, Rests, RestsByReply, StopsByReply}
use Rattle.ufs_joint.specs.Cells.{View}
use Rattle.ufs_model.specs.FileCalls.{is_on_file}
use Rattle.ufs_model.specs.declared.data.Ask.{Ask}
use Rattle.ufs_model.specs.declared.data.Desc.{Desc}
use Rattle.ufs_model.specs.declared.data.Op.{Op}
use Rattle.ufs_model.specs.declared.data.Op.TheVariants as op
use Rattle.ufs_model.specs.declared.data.Reply.{Reply}
use Rattle.ufs_msg.specs.Answers.{Told}
use Rattle.ufs_turns.specs.Lent.{Runs}
use Rattle.ufs_turns.proofs.Runs.{runs_still}
use Rattle.ufs_at_primary.specs.Dirs.{IsDirDone, IsDirServed}
use Rattle.ufs_at_primary.specs.Here.{IsDoneHere}
use Rattle.ufs_at_primary.specs.Served.{All, ByNames, IsOnFileHere, IsServed, Lacked, OnFile, OnNone}
use Rattle.ufs_at_primary.specs.Stock.{StockState}

pub raises_run : (o p : Option View) (told : Option ℕ) (epochs commits most : ℕ) → epochs ≤ most → commits ≤ most → Runs o p told epochs commits → Raises o p most
raises_run None p told epochs commits most less fewer ran = tt
raises_run (Some v) None told epochs commits most less fewer ran = tt
raises_run (Some v) (Some w) told epochs commits most less fewer ran =
    let e = ran.epoch_most in
    let n = ran.number_most in
    record { epoch = ran.epoch; epoch_most = omega (arith, less, e); number = ran.number; number_most = omega (arith, fewer, n) }

-- nothing is done
pub raises_still : (o : Option View) (most : ℕ) → Raises o o most
raises_still o most = raises_run o o None 0 0 most (omega arith) (omega arith) (runs_still o 0 0)

-- its numbers are as they were
pub raises_rests : (o p : Option View) (most : ℕ) → Rests o p None → Raises o p most
raises_rests o p most rests = raises_run o p None 0 0 most (omega arith) (omega arith) rests.1

raises_same : (o p : Option View) (most : ℕ) → p ≡ o → Raises o p most
raises_same o p most same = subst (λ (q : Option View). Raises o q most) (sym same) (raises_still o most)

-- no more than so is no more than more
pub raises_more : (o p : Option View) (some most : ℕ) → some ≤ most → Raises o p some → Raises o p most
raises_more None p some most less raised = tt
raises_more (Some v) None some most less raised = tt
raises_more (Some v) (Some w) some most less raised =
    let e = raised.epoch_most in
    let n = raised.number_most in
    record { epoch = raised.epoch; epoch_most = omega (arith, less, e); number = raised.number; number_most = omega (arith, less, n) }

-- one after the other
pub raises_then : (o p q : Option View) (first then most : ℕ) → first + then ≤ most → is_some p ≡ is_some o → Raises o p first → Raises p q then → Raises o q most
raises_then None p q first then most less telling a b = tt
raises_then (Some v) None q first then most less telling a b = (let clash : false ≡ true = telling in absurd cc)
raises_then (Some v) (Some u) None first then most less telling a b = tt
raises_then (Some v) (Some u) (Some w) first then most less telling a b =
    let e = a.epoch in
    let f = b.epoch in
    let em = a.epoch_most in
    let fm = b.epoch_most in
    let n = a.number in
    let m = b.number in
    let nm = a.number_most in
    let mm = b.number_most in
    record { epoch = omega (arith, e, f); epoch_most = omega (arith, less, em, fm); number = omega (arith, n, m); number_most = omega (arith, less, nm, mm) }

-- ---- by what is answered

pub reply_raises : (o p : Option View) (some most : ℕ) (r : Reply) → some ≤ most → StopsByReply o p some some r → Raises o p most
reply_raises o p some most r less stops = raises_run o p stops.0 some some most less less stops.3

rests_raises : (o p : Option View) (most : ℕ) (r : Reply) → RestsByReply o p r → Raises o p most
rests_raises o p most r rests = raises_run o p rests.0 0 0 most (omega arith) (omega arith) rests.2.1

-- a `sync` is on no file, and asks for a commit
pub on_file_not_all : (o : Op) → is_on_file o ≡ true → o ≡ op.Sync → ⊥
on_file_not_all o kind is = (let clash : true ≡ false = sym kind ∙ ap is_on_file is in absurd cc)

pub calm_not_all : (o : Op) → asks_commit o ≡ false → o ≡ op.Sync → ⊥
calm_not_all o none is = (let clash : false ≡ true = sym none ∙ ap asks_commit is in absurd cc)

module _ (visible : Bool) (before after : Option View) (s t : StockState) (ask : Ask) (told : Told) where
  here_raises : IsOnFileHere visible before after s t ask told → Raises before after 2
  here_raises x = by (asks_commit ask.op) x.served.done
    where
      by : (b : Bool) → IsDoneHere visible before after s.names t.names x.was x.is s.pool t.pool ask told.entry told.desc b → Raises before after 2
      by true d = reply_raises before after 2 2 told.entry.reply (omega arith) d.halts
      by false d = rests_raises before after 2 told.entry.reply d.served.halts

  pub dir_raises : IsDirServed visible before after s.names t.names ask told → Raises before after 2
  dir_raises x = by ask.desc x.done
    where
      by : (o : Option Desc) → IsDirDone visible before after s.names t.names told.entry.reply o → Raises before after 2
      by None d = raises_same before after 2 d.store
      by (Some z) d = reply_raises before after 1 2 told.entry.reply (omega arith) d.halts

  -- a request but a `sync` commits the names and one file at most
  pub served_raises : (ask.op ≡ op.Sync → ⊥) → IsServed visible before after s t ask told → Raises before after 2
  served_raises one (OnFile x) = here_raises x
  served_raises one (ByNames x) = rests_raises before after 2 told.entry.reply x.served.done.halts
  served_raises one (OnNone x) = dir_raises x.served
  served_raises one (All x) = absurd (one x.kind)
  served_raises one (Lacked x) = raises_rests before after 2 x.excused.rests
