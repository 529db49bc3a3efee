use Rattle.std.proofs.Common.{sym, map, string_bytes, ◌∙◌}
use Rattle.clap.specs.Words.{fault_of, subcommand_of}
use Rattle.ufs_words.specs.Grammar.{ufs}
use Rattle.ufs_words.proofs.CommandLemmas.{refused}
use Rattle.ufs_words.proofs.command.read_command.Goals as goal

pub returns : goal.returns
returns c =
    let words = map string_bytes c.args.words.now in
    sym (refused (fault_of ufs words) (subcommand_of ufs words) c.in-Err.error c.in-Err.ensures.faults (λ memory. c.in_default.not-OutOfMemory (c.kind.ensures ∙ memory)))
