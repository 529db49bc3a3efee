use Rattle.std.proofs.Common.{◌≡◌, ◌+◌, ◌++◌, List, length, take, drop, ap, subst, sym, ◌∙◌, arith, rules}
use Rattle.std.proofs.lemmas.List.{length-take-le}
use Rattle.ufs_layout.specs.JournalSector.{journal_of}
use Rattle.ufs_layout.specs.Records.{is_record}
use Rattle.ufs_layout.specs.declared.records.LogRecord.{LogRecord}
use Rattle.ufs_layout.specs.Filled.{sectors_of_records}
use Rattle.ufs_journal.specs.Spelled.{spelled_sectors, joined, AreReadBack}
use Rattle.ufs_journal.proofs.AppendRun.{part, taken_more, rest_more, index_less, joined_push, back_push}
use Rattle.ufs_journal.proofs.writes.fill_group.Goals as goal

pub record_sector-sector-requires-clause-form : goal.record_sector-sector-requires-clause-form
record_sector-sector-requires-clause-form c = part is_record c.args.records.now c.next_sector-next.result.now c.loop-count.taken c.next_sector-next.ensures.part c.requires.form

pub loop-count-preserved : goal.loop-count-preserved
loop-count-preserved c =
    let i = c.loop-count.invariant in
    let records : List LogRecord = c.args.records.now in
    let next : List LogRecord = c.next_sector-next.result.now in
    let rest : List LogRecord = drop (c.loop-count.taken + length c.next_sector-next.result.now) c.args.records.now in
    let more = taken_more c.args.records.now c.next_sector-next.result.now (drop (c.loop-count.taken + length c.next_sector-next.result.now) c.args.records.now) c.loop-count.taken c.loop-count.count i.rest c.next_sector-next.ensures.next in
    let less = index_less c.args.records.now c.next_sector-next.result.now (drop (c.loop-count.taken + length c.next_sector-next.result.now) c.args.records.now) c.loop-count.taken c.loop-count.count i.rest c.next_sector-next.ensures.next in
    let counted : c.args.index + c.loop-count.count ≡ c.args.index + length (take c.loop-count.count (sectors_of_records c.args.records.now)) = omega (arith, length-take-le c.loop-count.count (sectors_of_records c.args.records.now) i.inside) in
    let spells = c.record_sector-sector.ensures.spelling in
    record {
      within = c.next_sector-next.ensures.bounded;
      some = λ none. absurd (omega (arith, none));
      more = omega (arith, i.more, c.next_sector-next.ensures.some);
      most = omega (arith, c.loop-count-test.true);
      inside = omega (arith, less);
      rest = rest_more c.args.records.now c.next_sector-next.result.now (drop (c.loop-count.taken + length c.next_sector-next.result.now) c.args.records.now) c.loop-count.taken c.loop-count.count i.rest c.next_sector-next.ensures.next;
      bytes = c.put_piece.ensures.put ∙ (λ k. i.bytes k ++ spells k)
          ∙ sym (joined_push c.args.epoch c.args.txn c.args.index (c.args.index + c.loop-count.count) (take c.loop-count.count (sectors_of_records c.args.records.now)) c.next_sector-next.result.now counted)
          ∙ ap (λ (l : List (List LogRecord)). joined (spelled_sectors c.args.epoch c.args.txn c.args.index l)) (sym more);
      read_back = subst (λ (l : List (List LogRecord)). AreReadBack c.args.epoch c.args.txn c.args.index l) (sym more)
          (back_push c.args.epoch c.args.txn c.args.index (c.args.index + c.loop-count.count) (take c.loop-count.count (sectors_of_records c.args.records.now)) c.next_sector-next.result.now counted i.read_back
          (ap journal_of (sym spells) ∙ c.record_sector-sector.ensures.read_back) (ap length (sym spells) ∙ search rules));
      kept = c.put_piece.ensures.sized ∙ i.kept;
    }
