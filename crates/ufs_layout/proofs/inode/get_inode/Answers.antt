use Rattle.std.proofs.Common.{rules, ◌≡◌, ◌&&◌, take, drop, sym, ap, subst, ◌∙◌, arith}
use Rattle.std.specs.List.{list_all}
use Rattle.std.proofs.lemmas.List.{take_rest}
use Rattle.ufs_base.specs.Choices.{some_if}
use Rattle.ufs_layout.specs.Words.{padded, IsPadded, byte_at}
use Rattle.ufs_layout.specs.InodeForm.{extents_at, is_extent, no_extent, inode_bytes, inode_fields, inode_of, is_inode}
use Rattle.ufs_layout.proofs.Spelled.{some_if-some, some_if-none, decoded-spelling, decoded-form}
use Rattle.ufs_layout.proofs.Extents.{IsPadded-padded, length-extents_at}
use Rattle.ufs_layout.proofs.InodeForms.{extents_in, is_numbers, inode-many, inode-no_block, inode-decoded}
use Rattle.ufs_layout.proofs.inode.get_inode.Goals as goal

pub returns-then-used-gt-MAX_EXTENTS-clause-value : goal.returns-then-used-gt-MAX_EXTENTS-clause-value
returns-then-used-gt-MAX_EXTENTS-clause-value c = inode-many c.args.sector.now (omega arith)

pub returns-in_default-clause-value : goal.returns-in_default-clause-value
returns-in_default-clause-value c =
    let read : c.read_extents.result ≡ some_if (list_all is_extent (extents_in c.args.sector.now)) (padded no_extent 56 (extents_in c.args.sector.now)) =
    c.read_extents.ensures ∙ (λ i. some_if (list_all is_extent (extents_at (c.from-used.ensures i) (take_rest c.args.sector.now 64 i))) (padded no_extent 56 (extents_at (c.from-used.ensures i) (take_rest c.args.sector.now 64 i)))) in
    inode-no_block c.args.sector.now (some_if-none (list_all is_extent (extents_in c.args.sector.now)) (padded no_extent 56 (extents_in c.args.sector.now)) (sym read ∙ c.in_default.is))

pub invariant_of-value : goal.invariant_of-value
invariant_of-value c =
    let read : c.read_extents.result ≡ some_if (list_all is_extent (extents_in c.args.sector.now)) (padded no_extent 56 (extents_in c.args.sector.now)) =
    c.read_extents.ensures ∙ (λ i. some_if (list_all is_extent (extents_at (c.from-used.ensures i) (take_rest c.args.sector.now 64 i))) (padded no_extent 56 (extents_at (c.from-used.ensures i) (take_rest c.args.sector.now 64 i)))) in
    let parts = some_if-some (list_all is_extent (extents_in c.args.sector.now)) (padded no_extent 56 (extents_in c.args.sector.now)) c.in-Some.extents (sym read ∙ c.in-Some.is) in
    subst (IsPadded no_extent 56 (byte_at 1 c.args.sector.now)) parts.1
    (IsPadded-padded no_extent 56 (byte_at 1 c.args.sector.now) (extents_in c.args.sector.now) (length-extents_at (byte_at 1 c.args.sector.now) (drop 64 c.args.sector.now)) (omega arith))

pub returns : goal.returns
returns c =
    let read : c.read_extents.result ≡ some_if (list_all is_extent (extents_in c.args.sector.now)) (padded no_extent 56 (extents_in c.args.sector.now)) =
    c.read_extents.ensures ∙ (λ i. some_if (list_all is_extent (extents_at (c.from-used.ensures i) (take_rest c.args.sector.now 64 i))) (padded no_extent 56 (extents_at (c.from-used.ensures i) (take_rest c.args.sector.now 64 i)))) in
    let parts = some_if-some (list_all is_extent (extents_in c.args.sector.now)) (padded no_extent 56 (extents_in c.args.sector.now)) c.in-Some.extents (sym read ∙ c.in-Some.is) in
    let value : c.found.result ≡ inode_of c.args.sector.now =
    inode-decoded c.args.sector.now c.in-Some.extents c.is_form.result c.is_spelled.result c.found.result c.requires (search rules) (omega arith) parts.0 (sym parts.1)
    (c.is_form.ensures ∙ ap (is_numbers (byte_at 0 c.args.sector.now) (byte_at 1 c.args.sector.now)) c.u64_at-size.ensures) c.is_spelled.ensures
    (c.found.ensures ∙ (λ i. some_if (c.is_form.result && c.is_spelled.result) (record {
      kind = byte_at 0 c.args.sector.now;
      extents = take (byte_at 1 c.args.sector.now) c.in-Some.extents;
      size = c.u64_at-size.ensures i;
      number = c.u64_at.ensures i;
    }))) in
    record {
      value = value;
      spelling = decoded-spelling inode_fields inode_bytes is_inode c.args.sector.now c.found.result value;
      form = decoded-form inode_fields inode_bytes is_inode c.args.sector.now c.found.result value;
    }
