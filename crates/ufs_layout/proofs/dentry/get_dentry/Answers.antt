use Rattle.std.proofs.Common.{rules, ◌≡◌, ◌+◌, ◌&&◌, take, drop, ap, ◌∙◌, arith}
use Rattle.std.proofs.lemmas.List.{take_rest}
use Rattle.ufs_base.specs.Choices.{some_if}
use Rattle.ufs_layout.specs.Words.{byte_at, is_zeros, padded}
use Rattle.ufs_layout.specs.DentryForm.{dentry_bytes, dentry_fields, dentry_of, is_dentry}
use Rattle.ufs_layout.proofs.Spelled.{decoded-spelling, decoded-form}
use Rattle.ufs_layout.proofs.DentryForms.{is_whole, dentry-long, dentry-decoded}
use Rattle.ufs_layout.proofs.dentry.get_dentry.Goals as goal

pub returns-then-used-gt-MAX_NAME-clause-value : goal.returns-then-used-gt-MAX_NAME-clause-value
returns-then-used-gt-MAX_NAME-clause-value c = dentry-long c.args.slot.now c.requires (search rules) (omega arith)

pub returns : goal.returns
returns c =
    let value : c.found.result ≡ dentry_of c.args.slot.now =
    dentry-decoded c.args.slot.now c.read_name.result c.is_form.result c.has_only_zeros.result c.found.result c.requires (search rules) (omega arith)
    (c.read_name.ensures ∙ (λ i. padded 0 58 (take (c.from-used.ensures i) (take_rest c.args.slot.now 6 i))))
    (c.is_form.ensures ∙ ap (λ n. is_whole n (byte_at 4 c.args.slot.now) (byte_at 5 c.args.slot.now)) c.u32_at-inode.ensures)
    (c.has_only_zeros.ensures ∙ ap is_zeros (take_rest c.args.slot.now (6 + c.from-used.result)) ∙ ap (λ n. is_zeros (drop (6 + n) c.args.slot.now)) c.from-used.ensures)
    (c.found.ensures ∙ (λ i. some_if (c.is_form.result && c.has_only_zeros.result) (record { inode = c.u32_at-inode.ensures i; kind = byte_at 4 c.args.slot.now; name = take (byte_at 5 c.args.slot.now) c.read_name.result }))) in
    record {
      value = value;
      spelling = decoded-spelling dentry_fields dentry_bytes is_dentry c.args.slot.now c.found.result value;
      form = decoded-form dentry_fields dentry_bytes is_dentry c.args.slot.now c.found.result value;
    }
