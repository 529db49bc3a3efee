use Rattle.std.proofs.Common.{◌+◌, ◌∷◌, [], ◌++◌, length, take, drop, sym, ap, ◌∙◌, subst, arith}
use Rattle.std.specs.List.{AllByRecursion}
use Rattle.std.proofs.lemmas.List.{take_more, take_all}
use Rattle.std.proofs.lemmas.List.Folds.{length-flat_map-take}
use Rattle.ufs_layout.specs.Records.{record_bytes, records_bytes, FitsRecord}
use Rattle.ufs_layout.proofs.Extents.{AllByRecursion-push}
use Rattle.ufs_layout.proofs.RecordForms.{next-record, length-more}
use Rattle.ufs_layout.proofs.RecordsRead.{records_of-records_bytes}
use Rattle.ufs_layout.proofs.record_codec.put_records.Goals as goal

pub put_record-at-requires-clause-room : goal.put_record-at-requires-clause-room
put_record-at-requires-clause-room c =
    let fits = length-flat_map-take record_bytes c.args.records.now c.loop-record.record-index c.record-item.result c.loop-record-test.true in
    let same = ap (λ r. length (record_bytes r)) c.record-item.is in
    omega (arith, fits, same)

pub loop-record-preserved : goal.loop-record-preserved
loop-record-preserved c =
    let next = take_more c.args.records.now c.loop-record.record-index c.record-item.result c.loop-record-test.true
    ∙ ap (λ r. take c.loop-record.record-index c.args.records.now ++ r ∷ []) (sym c.record-item.is) in
    record {
      place =
          c.put_record-at.ensures.end ∙ ap (λ n. n + length (record_bytes c.record-item.result)) c.loop-record.invariant.place
          ∙ sym (length-more (take c.loop-record.record-index c.args.records.now) c.record-item.result) ∙ ap (λ rs. length (records_bytes rs)) (sym next);
      written =
          next-record c.loop-record.at c.args.content.now c.loop-record.content c.put_record-at.new.content (take c.loop-record.record-index c.args.records.now) c.record-item.result
          c.loop-record.invariant.place c.loop-record.invariant.written c.put_record-at.ensures.spelling
          ∙ (λ i. records_bytes (sym next i) ++ drop (sym c.put_record-at.ensures.end i) c.args.content.now);
      in_range = subst (AllByRecursion FitsRecord) (sym next) (AllByRecursion-push FitsRecord (take c.loop-record.record-index c.args.records.now) c.record-item.result c.loop-record.invariant.in_range c.put_record-at.ensures.in_range);
    }

pub returns-clause-read_back : goal.returns-clause-read_back
returns-clause-read_back c =
    let whole = take_all c.loop-record.record-index c.args.records.now (omega arith) in
    records_of-records_bytes c.args.records.now (subst (AllByRecursion FitsRecord) whole c.loop-record.invariant.in_range) c.requires.form
