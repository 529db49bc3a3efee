use Rattle.std.proofs.Common.{◌≡◌, ◌++◌, ◌∙◌, arith}
use Rattle.ufs_layout.specs.Words.{filled_to}
use Rattle.ufs_layout.specs.Superblock.{super_bytes, super_fields, is_super}
use Rattle.ufs_layout.proofs.Spelled.{spelled-at}
use Rattle.ufs_layout.proofs.HeadForms.{super-back}
use Rattle.ufs_layout.proofs.superblock.put_super.Goals as goal

pub returns : goal.returns
returns c =
    let are : c.lay.new.sector ≡ super_bytes c.args.value.now = c.lay.ensures ∙ (λ i. filled_to 512 (c.put_start.ensures i ++ c.put_end.ensures i)) in
    record {
      spelling = are;
      read_back =
          spelled-at super_fields super_bytes (is_super 1) c.args.value.now c.lay.new.sector are
          (super-back c.args.value.now (record { version = omega arith; blocks = omega arith; inodes = omega arith; journal = omega arith; epoch = omega arith; next = omega arith })) c.requires.form;
    }
