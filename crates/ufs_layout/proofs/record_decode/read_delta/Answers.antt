use Rattle.std.proofs.Common.{rules, ◌≡◌, Some, sym, ◌∙◌, arith}
use Rattle.std.specs.List.{list_all}
use Rattle.std.proofs.lemmas.List.{take_rest}
use Rattle.ufs_base.specs.Choices.{some_if}
use Rattle.ufs_layout.specs.Words.{byte_at}
use Rattle.ufs_layout.specs.InodeForm.{extents_at, is_extent}
use Rattle.ufs_layout.specs.declared.records.LogRecord.TheVariants.{Delta}
use Rattle.ufs_layout.proofs.Spelled.{some_if-some, some_if-none}
use Rattle.ufs_layout.proofs.Leading.{extents_of, delta-short, delta-off, delta-no_block, delta-long}
use Rattle.ufs_layout.proofs.record_decode.read_delta.Goals as goal

pub returns-then-rest-lt16 : goal.returns-then-rest-lt16
returns-then-rest-lt16 c = delta-short c.args.rest.now c.requires (omega arith)

pub returns-then-rest-length : goal.returns-then-rest-length
returns-then-rest-length c = delta-short c.args.rest.now c.requires (omega arith)

pub returns-then-not-is_delta_form : goal.returns-then-not-is_delta_form
returns-then-not-is_delta_form c = delta-off c.args.rest.now c.requires (sym c.is_delta_form.ensures ∙ c.if-not-is_delta_form.true)

pub returns-in_default : goal.returns-in_default
returns-in_default c =
    let read : c.in_ok-extents.field-0 ≡ some_if (list_all is_extent (extents_of c.args.rest.now)) (extents_of c.args.rest.now) =
    c.in_ok-extents.ensures ∙ (λ i. some_if (list_all is_extent (extents_at (c.from-length.ensures i) (take_rest c.args.rest.now 16 i))) (extents_at (c.from-length.ensures i) (take_rest c.args.rest.now 16 i))) in
    delta-no_block c.args.rest.now c.requires (some_if-none (list_all is_extent (extents_of c.args.rest.now)) (extents_of c.args.rest.now) (sym read ∙ c.in_default.is))

pub returns : goal.returns
returns c =
    let read : c.in_ok-extents.field-0 ≡ some_if (list_all is_extent (extents_of c.args.rest.now)) (extents_of c.args.rest.now) =
    c.in_ok-extents.ensures ∙ (λ i. some_if (list_all is_extent (extents_at (c.from-length.ensures i) (take_rest c.args.rest.now 16 i))) (extents_at (c.from-length.ensures i) (take_rest c.args.rest.now 16 i))) in
    let parts = some_if-some (list_all is_extent (extents_of c.args.rest.now)) (extents_of c.args.rest.now) c.in-Some.extents (sym read ∙ c.in-Some.is) in
    (λ i. Some (Delta (c.u32_at.ensures i) (byte_at 5 c.args.rest.now) (c.u64_at.ensures i) (byte_at 14 c.args.rest.now) (sym parts.1 i)))
    ∙ delta-long c.args.rest.now (search rules) c.requires (omega arith) (sym c.is_delta_form.ensures ∙ c.if-not-is_delta_form.false) parts.0
