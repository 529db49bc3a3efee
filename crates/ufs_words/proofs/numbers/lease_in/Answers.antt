use Rattle.std.proofs.Common.{codes, ap, ◌∙◌}
use Rattle.clap.specs.Words.{found_of}
use Rattle.ufs_words.specs.Commands.{lease_from}
use Rattle.ufs_words.proofs.CommandLemmas.{text_in}
use Rattle.ufs_words.proofs.numbers.lease_in.Goals as goal

pub returns : goal.returns
returns c = c.lease_from.ensures ∙ ap lease_from (text_in (found_of c.args.found.now) (codes "lease") c.get_str.result c.get_str.ensures)
