-- A request without a descriptor is told none.
use Rattle.std.proofs.Common.{◌≡◌, ℕ, Bool, true, false, Option, None, refl, sym, ap, ◌∙◌}
use Rattle.ufs_model.specs.Asks.{IsAsk, IsDescAfter, desc_of_fd, fd_named, fd_told}
use Rattle.ufs_model.specs.History.{is_excused}
use Rattle.ufs_model.specs.Posix.{posix}
use Rattle.ufs_model.specs.PosixTree.{PosixTree}
use Rattle.ufs_model.specs.declared.data.Ask.{Ask}
use Rattle.ufs_model.specs.declared.data.Desc.{Desc}
use Rattle.ufs_model.specs.declared.data.Entry.{Entry}
use Rattle.ufs_model.specs.declared.data.Op.{Op}
use Rattle.ufs_model.specs.declared.data.Op.TheVariants as op
use Rattle.ufs_model.specs.declared.data.Reply.{Reply}

-- where none is told, none was named
pub named_none : (o : Op) (r : Reply) → fd_told o r ≡ None → fd_named o ≡ None
named_none (op.OpenFile path read write creat excl trunc append) r told = refl
named_none (op.Close n) r told = told
named_none (op.Read n m) r told = told
named_none (op.Write n b) r told = told
named_none (op.Pread n m at) r told = told
named_none (op.Pwrite n b at) r told = told
named_none (op.Seek n from by) r told = told
named_none (op.Trunc n size) r told = told
named_none (op.Fsync n) r told = told
named_none op.Sync r told = told
named_none (op.Mkdir path) r told = told
named_none (op.Rmdir path) r told = told
named_none (op.Unlink path) r told = told
named_none (op.Rename from to) r told = told
named_none (op.Stat path) r told = told
named_none (op.List path) r told = told

module _ (t : PosixTree) (ask : Ask) (asked : IsAsk t ask) (e : Entry) (of : e.op ≡ ask.op) (d : Option Desc) where
  abbrev u : PosixTree
  u = (posix t ask.client ask.op).0

  pub untold : (is_excused e.reply ≡ false → IsDescAfter t.fds u.fds ask.client (fd_told ask.op e.reply) d) → (is_excused e.reply ≡ true → d ≡ ask.desc) → fd_told e.op e.reply ≡ None → d ≡ None
  untold served kept none = by (is_excused e.reply) refl
    where
      told : fd_told ask.op e.reply ≡ None
      told = ap (λ (o : Op). fd_told o e.reply) (sym of) ∙ none

      by : (b : Bool) → is_excused e.reply ≡ b → d ≡ None
      by true is = kept is ∙ asked.desc ∙ ap (desc_of_fd t.fds ask.client) (named_none ask.op e.reply told)
      by false is = (served is).this ∙ ap (desc_of_fd u.fds ask.client) told
