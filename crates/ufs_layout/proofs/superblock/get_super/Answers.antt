use Rattle.std.proofs.Common.{rules, ◌≡◌, sym, ◌∙◌}
use Rattle.ufs_layout.specs.Superblock.{super_bytes, super_fields, super_of, is_super}
use Rattle.ufs_layout.proofs.Spelled.{spelled-decoded, decoded-spelling, decoded-form}
use Rattle.ufs_layout.proofs.HeadForms.{super-compared}
use Rattle.ufs_layout.proofs.superblock.get_super.Goals as goal

pub returns : goal.returns
returns c =
    let value : c.found.result ≡ super_of 1 c.args.sector.now =
    spelled-decoded super_fields super_bytes (is_super 1) c.args.sector.now c.fields-value.result c.is_form.result c.is_spelled.result c.found.result
    c.fields-value.ensures c.is_form.ensures (c.is_spelled.ensures ∙ sym (super-compared c.args.sector.now c.requires (search rules))) c.found.ensures in
    record {
      value = value;
      spelling = decoded-spelling super_fields super_bytes (is_super 1) c.args.sector.now c.found.result value;
      form = decoded-form super_fields super_bytes (is_super 1) c.args.sector.now c.found.result value;
    }
