use Rattle.std.proofs.Common.{rules, ◌≡◌, sym, ◌∙◌}
use Rattle.ufs_layout.specs.JournalHead.{header_bytes, header_fields, header_of, is_header}
use Rattle.ufs_layout.proofs.Spelled.{spelled-decoded, decoded-spelling, decoded-form}
use Rattle.ufs_layout.proofs.HeadForms.{header-compared}
use Rattle.ufs_layout.proofs.header.get_header.Goals as goal

pub returns : goal.returns
returns c =
    let value : c.found.result ≡ header_of c.args.head.now =
    spelled-decoded header_fields header_bytes is_header c.args.head.now c.fields-value.result c.is_form.result c.is_spelled.result c.found.result
    c.fields-value.ensures c.is_form.ensures (c.is_spelled.ensures ∙ sym (header-compared c.args.head.now c.requires (search rules))) c.found.ensures in
    record {
      value = value;
      spelling = decoded-spelling header_fields header_bytes is_header c.args.head.now c.found.result value;
      form = decoded-form header_fields header_bytes is_header c.args.head.now c.found.result value;
    }
