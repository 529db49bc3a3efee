-- A refusal is served: POSIX's reply, and nothing has changed.
use Rattle.std.proofs.Common.{◌≡◌, Option, Some, ap, refl, sym, subst, ◌∙◌}
use Rattle.ufs_files.specs.Files.{Files, AreSizedAs}
use Rattle.ufs_model.specs.PosixTree.{PosixTree}
use Rattle.ufs_model.specs.Posix.{posix, served}
use Rattle.ufs_model.specs.Refusals.{refusal}
use Rattle.ufs_model.specs.Asks.{IsAsk, IsDescAfter, desc_of_fd, fd_named, fd_told}
use Rattle.ufs_model.specs.declared.data.Ask.{Ask}
use Rattle.ufs_model.specs.declared.data.Desc.{Desc}
use Rattle.ufs_model.specs.declared.data.Errno.{Errno}
use Rattle.ufs_model.specs.declared.data.Op.{Op}
use Rattle.ufs_model.specs.declared.data.Op.TheVariants as op
use Rattle.ufs_model.specs.declared.data.Reply.{Reply}
use Rattle.ufs_model.specs.declared.data.Reply.TheVariants.{Refused}
use Rattle.ufs_names.specs.NamesPart.{NamesPart, IsNamesPart}
use Rattle.ufs_names.specs.Calls.{IsServed}
use Rattle.ufs_names.proofs.FileLemmas.{FilesGo, files_same}

-- an `open` that is refused has no descriptor, and any other request the one that it names
told_refused : (request : Op) (e : Errno) → fd_told request (Refused e) ≡ fd_named request
told_refused (op.OpenFile path read write creat excl trunc append) e = refl
told_refused (op.Close fd) e = refl
told_refused (op.Read fd n) e = refl
told_refused (op.Write fd data') e = refl
told_refused (op.Pread fd n at) e = refl
told_refused (op.Pwrite fd data' at) e = refl
told_refused (op.Seek fd from by) e = refl
told_refused (op.Trunc fd size) e = refl
told_refused (op.Fsync fd) e = refl
told_refused op.Sync e = refl
told_refused (op.Mkdir path) e = refl
told_refused (op.Rmdir path) e = refl
told_refused (op.Unlink path) e = refl
told_refused (op.Rename from to) e = refl
told_refused (op.Stat path) e = refl
told_refused (op.List path) e = refl

pub served_refused : (n : NamesPart) (t : PosixTree) (ask : Ask) (fs : Files) (e : Errno) (reply : Reply) (desc : Option Desc) → IsNamesPart n t → AreSizedAs fs t → IsAsk t ask → refusal t ask.client ask.op ≡ Some e
    → reply ≡ Refused e → desc ≡ ask.desc → IsServed t ask n fs fs reply desc
served_refused n t ask fs e reply desc part files asked is reply_is desc_is =
    subst (λ (k : Reply × Option Desc). IsServed t ask n fs fs k.0 k.1) (λ i. (sym reply_is i, sym desc_is i)) (record {
      replied = ap (λ (p : PosixTree × Reply). p.1) (sym whole);
      goes_on = subst (λ (p : PosixTree × Reply). IsNamesPart n p.0) (sym whole) part;
      files = go.files;
      told = subst (λ (p : PosixTree × Reply). IsDescAfter t.fds p.0.fds ask.client (fd_told ask.op (Refused e)) ask.desc) (sym whole)
          (record { this = asked.desc ∙ ap (desc_of_fd t.fds ask.client) (sym (told_refused ask.op e)); others = λ c m apart. refl });
      go_on = go.go_on;
      untouched = λ f not. refl;
    })
  where
    whole : posix t ask.client ask.op ≡ (t, Refused e)
    whole = ap (served t ask.client ask.op) is

    go : FilesGo t (posix t ask.client ask.op).0 fs fs
    go = subst (λ (p : PosixTree × Reply). FilesGo t p.0 fs fs) (sym whole) (files_same t t part.tree fs fs files refl (λ f. refl))
