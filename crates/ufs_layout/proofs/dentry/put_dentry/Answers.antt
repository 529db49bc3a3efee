use Rattle.std.proofs.Common.{◌≡◌, ◌∷◌, ◌++◌, take, sym, ap, ◌∙◌, subst, arith}
use Rattle.byteorder.specs.Endian.{little_bytes}
use Rattle.ufs_layout.specs.Padded.{count_of-take, padded-take}
use Rattle.ufs_layout.specs.DentryForm.{DentryForm, dentry_bytes, dentry_fields, is_dentry}
use Rattle.ufs_layout.proofs.Spelled.{spelled-at}
use Rattle.ufs_layout.proofs.DentryForms.{dentry-back, dentry-laid}
use Rattle.ufs_layout.proofs.dentry.put_dentry.Goals as goal

pub returns : goal.returns
returns c =
    let seen : DentryForm = record { inode = c.value.inside.inode; kind = c.value.inside.kind; name = take c.value.inside.length c.value.inside.name } in
    let laid = dentry-laid c.value.inside.inode c.value.inside.kind c.value.inside.length c.args.slot.now c.put_u32.new.bytes c.put.new.bytes c.put-2.new.bytes c.value.inside.name c.requires.sized c.value.invariant.sized c.put_u32.ensures c.put.ensures c.put-2.ensures in
    let count = count_of-take 0 58 c.value.inside.length c.value.inside.name c.value.invariant in
    let name = padded-take 0 58 c.value.inside.length c.value.inside.name c.value.invariant in
    let are : c.put-2.new.bytes ≡ dentry_bytes c.args.value.now = laid ∙ (λ i. little_bytes 4 c.value.inside.inode ++ c.value.inside.kind ∷ sym count i ∷ sym name i) ∙ ap dentry_bytes c.value.view_is in
    record {
      spelling = are;
      read_back =
          spelled-at dentry_fields dentry_bytes is_dentry c.args.value.now c.put-2.new.bytes are
          (subst (λ (d : DentryForm). dentry_fields (dentry_bytes d) ≡ d) c.value.view_is (dentry-back seen (omega arith))) c.requires.form;
    }
