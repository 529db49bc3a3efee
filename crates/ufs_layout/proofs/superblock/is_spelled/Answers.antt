use Rattle.std.proofs.Common.{sym, ap, ◌∙◌, take, drop, nat_le}
use Rattle.std.proofs.lemmas.List.{take_rest}
use Rattle.std.specs.Str.{bytes_eq}
use Rattle.ufs_layout.specs.Superblock.{magic}
use Rattle.ufs_layout.specs.Words.{byte_at, is_zeros}
use Rattle.ufs_layout.proofs.Spelled.{last_of_three}
use Rattle.ufs_layout.proofs.superblock.is_spelled.Goals as goal

pub returns-then-is_flag : goal.returns-then-is_flag
returns-then-is_flag c =
    last_of_three (bytes_eq magic (take 8 c.args.sector.now)) (nat_le (byte_at 40 c.args.sector.now) 1) (is_zeros (drop 41 c.args.sector.now)) c.has_only_zeros.result
    (sym c.has_magic.ensures ∙ c.if-has_magic.true) (sym c.is_flag.ensures ∙ c.if-is_flag.true) (c.has_only_zeros.ensures ∙ ap is_zeros (take_rest c.args.sector.now 41))
