use Rattle.std.proofs.Common.{◌≡◌, ◌+◌, ◌++◌, Some, None, length, drop, sym, ap, ◌∙◌, arith}
use Rattle.std.specs.Prelude.{option_map}
use Rattle.std.specs.List.{list_all}
use Rattle.std.proofs.lemmas.List.{take_rest, drop-drop, length-append, length-drop}
use Rattle.ufs_layout.specs.Records.{leading_record, records_of, records_bytes, record_bytes, record_fields, is_record}
use Rattle.ufs_layout.proofs.Spelled.{spelled-some}
use Rattle.ufs_layout.proofs.RecordList.{records-cons, records-none, read-on, read-all}
use Rattle.ufs_layout.proofs.record_decode.get_records.Goals as goal

pub returns-in_default-clause-value : goal.returns-in_default-clause-value
returns-in_default-clause-value c =
    let lead : leading_record (drop c.loop-at.at c.args.content.now) ≡ None = sym (c.in_ok-record.ensures ∙ ap leading_record (take_rest c.args.content.now c.loop-at.at)) ∙ c.in_default.is in
    sym (c.loop-at.invariant.read ∙ ap (option_map (λ rs. c.loop-at.records.items ++ rs)) (records-none (drop c.loop-at.at c.args.content.now) (omega (arith, length-drop c.loop-at.at c.args.content.now)) lead))

pub record_length-at-requires : goal.record_length-at-requires
record_length-at-requires c =
    let lead : leading_record (drop c.loop-at.at c.args.content.now) ≡ Some c.in-Some.record = sym (c.in_ok-record.ensures ∙ ap leading_record (take_rest c.args.content.now c.loop-at.at)) ∙ c.in-Some.is in
    (records-cons (drop c.loop-at.at c.args.content.now) c.in-Some.record lead).1

pub overflow_add-at : goal.overflow_add-at
overflow_add-at c =
    let lead : leading_record (drop c.loop-at.at c.args.content.now) ≡ Some c.in-Some.record = sym (c.in_ok-record.ensures ∙ ap leading_record (take_rest c.args.content.now c.loop-at.at)) ∙ c.in-Some.is in
    let whole = (records-cons (drop c.loop-at.at c.args.content.now) c.in-Some.record lead).2 in
    omega (arith, ap length whole, length-append (record_bytes c.in-Some.record) (drop (length (record_bytes c.in-Some.record)) (drop c.loop-at.at c.args.content.now)), length-drop c.loop-at.at c.args.content.now, c.record_length-at.ensures)

pub loop-at-preserved : goal.loop-at-preserved
loop-at-preserved c =
    let lead : leading_record (drop c.loop-at.at c.args.content.now) ≡ Some c.in-Some.record = sym (c.in_ok-record.ensures ∙ ap leading_record (take_rest c.args.content.now c.loop-at.at)) ∙ c.in-Some.is in
    let law = records-cons (drop c.loop-at.at c.args.content.now) c.in-Some.record lead in
    record {
      within = omega (arith, ap length law.2, length-append (record_bytes c.in-Some.record) (drop (length (record_bytes c.in-Some.record)) (drop c.loop-at.at c.args.content.now)), length-drop c.loop-at.at c.args.content.now, c.record_length-at.ensures);
      read =
          c.loop-at.invariant.read ∙ ap (option_map (λ rs. c.loop-at.records.items ++ rs)) law.0
          ∙ read-on (records_of (drop (length (record_bytes c.in-Some.record)) (drop c.loop-at.at c.args.content.now))) c.loop-at.records.items c.in-Some.record
          ∙ (λ i. option_map (λ rs. sym c.in_ok-push.ensures.items i ++ rs) (records_of ((drop-drop (length (record_bytes c.in-Some.record)) c.loop-at.at c.args.content.now ∙ ap (λ n. drop (c.loop-at.at + n) c.args.content.now) (sym c.record_length-at.ensures)) i)));
    }

pub returns-clause-spelling : goal.returns-clause-spelling
returns-clause-spelling c =
    let all = read-all c.args.content.now c.loop-at.at c.loop-at.records.items (omega arith) c.loop-at.invariant.read in
    (spelled-some (record_fields (length c.args.content.now)) records_bytes (list_all is_record) c.args.content.now c.loop-at.records.items all).0 ∙ ap records_bytes (sym c.from_vec.ensures)
