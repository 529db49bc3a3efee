use Rattle.std.proofs.Common.{ℕ, eqb, length, ap, ◌∙◌, Option}
use Rattle.std.specs.Option.{unwrap_or}
use Rattle.ufs_dirs.proofs.KeptLemmas.{position-or_length}
use Rattle.ufs_dirs.proofs.dir_blocks.index_of.Goals as goal

pub returns : goal.returns
returns c =
    c.unwrap_or.ensures ∙ ap (λ (o : Option ℕ). unwrap_or o (length c.args.blocks.now)) c.position_of.ensures ∙ position-or_length (λ b. eqb b c.args.block) c.args.blocks.now
