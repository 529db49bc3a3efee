-- The reply that POSIX gives is no excuse.
use Rattle.std.proofs.Common.{◌≡◌, Option, true, false, ap, sym, ◌∙◌}
use Rattle.ufs_files.specs.Files.{Files}
use Rattle.ufs_model.specs.PosixTree.{PosixTree}
use Rattle.ufs_model.specs.Posix.{posix}
use Rattle.ufs_model.specs.History.{is_excused}
use Rattle.ufs_model.specs.declared.data.Ask.{Ask}
use Rattle.ufs_model.specs.declared.data.Desc.{Desc}
use Rattle.ufs_model.specs.declared.data.Reply.{Reply}
use Rattle.ufs_model.proofs.PosixReplyLemmas.{posix_plain, plain_unexcused}
use Rattle.ufs_names.specs.NamesPart.{NamesPart}
use Rattle.ufs_names.specs.Calls.{IsServed}

-- what was served is no excuse
pub served_plain : (t : PosixTree) (ask : Ask) (new : NamesPart) (fs fs' : Files) (reply : Reply) (desc : Option Desc) → IsServed t ask new fs fs' reply desc → is_excused reply ≡ true → ⊥
served_plain t ask new fs fs' reply desc is e =
    let no : true ≡ false = sym e ∙ ap is_excused is.replied ∙ plain_unexcused (posix t ask.client ask.op).1 (posix_plain t ask.client ask.op) in
    cc
