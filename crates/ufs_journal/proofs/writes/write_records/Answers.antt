use Rattle.std.proofs.Common.{◌≡◌, ◌≤◌, ◌+◌, ◌++◌, ℕ, List, length, take, drop, arith, refl, subst, sym, ◌∙◌, ap, rules, length-drop}
use Rattle.std.specs.List.{list_all}
use Rattle.std.proofs.lemmas.List.{take_all, length-take-le, drop-drop}
use Rattle.ufs_disk.specs.Disk.{Leaves}
use Rattle.ufs_disk.specs.Moments.{reads}
use Rattle.ufs_disk.proofs.Images.{seen_is_image}
use Rattle.ufs_image.specs.Fold.{is_in_range}
use Rattle.ufs_layout.specs.Records.{is_record}
use Rattle.ufs_layout.specs.declared.records.LogRecord.{LogRecord}
use Rattle.ufs_layout.specs.Filled.{sectors_of_records, sector_count_of}
use Rattle.ufs_journal.specs.Written.{HasAppended, IsAppending}
use Rattle.ufs_journal.proofs.AppendRun.{all_drop, all_part, begun, begins, group_now, group_on, group_reads, none_appended, none_left, sectors_all, take_more}
use Rattle.ufs_journal.proofs.writes.write_records.Goals as goal

pub loop-at-init : goal.loop-at-init
loop-at-init g c = record {
  within = omega arith;
  few = omega arith;
  rest = refl;
  now = λ visible ready. begun c.args.geometry.now c.args.epoch c.args.txn c.args.place _ ready;
  crash = λ visible ready. begins _ c.args.geometry.now c.args.epoch c.args.txn c.args.place (sector_count_of c.args.records.now) _ ready;
  read = λ visible ready. none_appended c.args.geometry.now c.args.epoch c.args.txn c.args.place _;
  elsewhere = λ visible k off. refl;
  kept = search rules;
  size = refl;
  faults = refl;
}

-- how far one group goes
few : (records rest : List LogRecord) (index count : ℕ) → sectors_of_records rest ≡ drop index (sectors_of_records records) → index ≤ sector_count_of records → count ≤ sector_count_of rest → index + count ≤ sector_count_of records
few records others index count rest le inside = let same = ap length rest in omega (arith, same, le, inside, length-drop index (sectors_of_records records))

pub fill_group-group-requires-clause-form : goal.fill_group-group-requires-clause-form
fill_group-group-requires-clause-form g c = ap (list_all is_record) c.behind-rest.ensures ∙ all_drop is_record c.loop-at.at c.args.records.now c.requires.form

pub fill_group-group-requires-clause-few : goal.fill_group-group-requires-clause-few
fill_group-group-requires-clause-few g c =
    let most = few c.args.records.now c.behind-rest.result.now c.loop-at.index (sector_count_of c.behind-rest.result.now) (ap sectors_of_records c.behind-rest.ensures ∙ c.loop-at.invariant.rest) c.loop-at.invariant.few (omega arith) in
    omega (arith, most, c.requires.room, c.requires.geometry.most_journal)

pub returns-in_err-put_group-clause-crash : goal.returns-in_err-put_group-clause-crash
returns-in_err-put_group-clause-crash g c visible ready =
    let i = c.loop-at.invariant in
    let rest : List LogRecord = c.behind-rest.result.now in
    let left : sectors_of_records rest ≡ drop c.loop-at.index (sectors_of_records c.args.records.now) = ap sectors_of_records c.behind-rest.ensures ∙ i.rest in
    let n : ℕ = c.fill_group-group.result.count in
    let cs : List (List LogRecord) = take c.fill_group-group.result.count (sectors_of_records c.behind-rest.result.now) in
    let long : length cs ≡ n = length-take-le n (sectors_of_records rest) c.fill_group-group.ensures.inside in
    let fits : c.loop-at.index + n ≤ sector_count_of c.args.records.now = few c.args.records.now rest c.loop-at.index n left i.few c.fill_group-group.ensures.inside in
    group_on g.D.Disk.keeps c.args.geometry.now c.args.epoch c.args.txn c.args.place (sector_count_of c.args.records.now) (g.D.Disk.moments c.args.disk.now) c.loop-at.index cs
    (omega (arith, fits, long, c.requires.room))
    (all_part (list_all (is_in_range c.args.geometry.now)) 0 n (sectors_of_records rest) (sectors_all (is_in_range c.args.geometry.now) rest (ap (list_all (is_in_range c.args.geometry.now)) c.behind-rest.ensures ∙ all_drop (is_in_range c.args.geometry.now) c.loop-at.at c.args.records.now c.requires.inside)))
    c.fill_group-group.ensures.read_back _ c.fill_group-group.ensures.bytes (g.D.Disk.moments c.loop-at.disk) (g.D.Disk.moments c.put_group.new.disk) (i.now visible ready) (c.put_group.ensures.crash visible) (omega (arith, fits, long)) (i.crash visible ready)

pub loop-at-preserved : goal.loop-at-preserved
loop-at-preserved g c =
    let i = c.loop-at.invariant in
    let rest : List LogRecord = c.behind-rest.result.now in
    let left : sectors_of_records rest ≡ drop c.loop-at.index (sectors_of_records c.args.records.now) = ap sectors_of_records c.behind-rest.ensures ∙ i.rest in
    let n : ℕ = c.fill_group-group.result.count in
    let cs : List (List LogRecord) = take c.fill_group-group.result.count (sectors_of_records c.behind-rest.result.now) in
    let all : List (List LogRecord) = sectors_of_records c.args.records.now in
    let long : length cs ≡ n = length-take-le n (sectors_of_records rest) c.fill_group-group.ensures.inside in
    let fits : c.loop-at.index + n ≤ sector_count_of c.args.records.now = few c.args.records.now rest c.loop-at.index n left i.few c.fill_group-group.ensures.inside in
    let within : c.args.place + c.loop-at.index + length cs ≤ c.args.geometry.now.journal = omega (arith, fits, long, c.requires.room) in
    let inside = all_part (list_all (is_in_range c.args.geometry.now)) 0 n (sectors_of_records rest) (sectors_all (is_in_range c.args.geometry.now) rest (ap (list_all (is_in_range c.args.geometry.now)) c.behind-rest.ensures ∙ all_drop (is_in_range c.args.geometry.now) c.loop-at.at c.args.records.now c.requires.inside)) in
    let back = c.fill_group-group.ensures.read_back in
    let counted : c.loop-at.index ≡ length (take c.loop-at.index all) = sym (length-take-le c.loop-at.index all i.few) in
    let more : take c.loop-at.index all ++ cs ≡ take (c.loop-at.index + n) all = ap (λ (l : List (List LogRecord)). take c.loop-at.index all ++ take n l) left ∙ sym (take_more c.loop-at.index n all) in
    record {
      within = omega (arith, c.fill_group-group.ensures.within, ap length c.behind-rest.ensures, length-drop c.loop-at.at c.args.records.now, c.loop-at-test.true);
      few = fits;
      rest = ap sectors_of_records (sym (drop-drop c.fill_group-group.result.taken c.loop-at.at c.args.records.now) ∙ ap (drop c.fill_group-group.result.taken) (sym c.behind-rest.ensures)) ∙ c.fill_group-group.ensures.rest ∙ ap (drop n) left ∙ drop-drop n c.loop-at.index all;
      now = λ visible ready. subst (λ k. Leaves (IsAppending c.args.geometry.now c.args.epoch c.args.txn c.args.place (c.loop-at.index + k) (g.D.Disk.moments c.args.disk.now).state) (g.D.Disk.moments c.put_group.new.disk).state) long
          (group_now g.D.Disk.keeps c.args.geometry.now c.args.epoch c.args.txn c.args.place (sector_count_of c.args.records.now) (g.D.Disk.moments c.args.disk.now) c.loop-at.index cs within inside back _ c.fill_group-group.ensures.bytes (g.D.Disk.moments c.loop-at.disk) (g.D.Disk.moments c.put_group.new.disk) (i.now visible ready) (c.put_group.ensures.crash visible));
      crash = λ visible ready. group_on g.D.Disk.keeps c.args.geometry.now c.args.epoch c.args.txn c.args.place (sector_count_of c.args.records.now) (g.D.Disk.moments c.args.disk.now) c.loop-at.index cs within inside back _ c.fill_group-group.ensures.bytes (g.D.Disk.moments c.loop-at.disk) (g.D.Disk.moments c.put_group.new.disk) (i.now visible ready) (c.put_group.ensures.crash visible) (omega (arith, fits, long)) (i.crash visible ready);
      read = λ visible ready. subst (λ (l : List (List LogRecord)). HasAppended c.args.geometry.now c.args.epoch c.args.txn c.args.place l (reads (g.D.Disk.moments c.args.disk.now)) (reads (g.D.Disk.moments c.put_group.new.disk))) more
          (group_reads c.args.geometry.now c.args.epoch c.args.txn c.args.place cs (take c.loop-at.index all) c.loop-at.index counted within back _ c.fill_group-group.ensures.bytes (reads (g.D.Disk.moments c.args.disk.now)) (reads (g.D.Disk.moments c.loop-at.disk)) (reads (g.D.Disk.moments c.put_group.new.disk))
          ((i.now visible ready (reads (g.D.Disk.moments c.loop-at.disk)) (seen_is_image _)).free) (c.in_ok-put_group.ensures.ok visible) (i.read visible ready));
      elsewhere = λ visible k off. c.put_group.ensures.elsewhere visible k off ∙ i.elsewhere visible k off;
      kept = c.fill_group-group.ensures.kept;
      size = c.put_group.ensures.size ∙ i.size;
      faults = c.in_ok-put_group.ensures.cause.passed ∙ i.faults;
    }

pub returns-clause-count : goal.returns-clause-count
returns-clause-count g c = none_left c.args.records.now c.loop-at.at c.loop-at.index c.loop-at.invariant.rest c.loop-at-test.false c.loop-at.invariant.few

pub returns-clause-ok : goal.returns-clause-ok
returns-clause-ok g c visible ready =
    let all = none_left c.args.records.now c.loop-at.at c.loop-at.index c.loop-at.invariant.rest c.loop-at-test.false c.loop-at.invariant.few in
    subst (λ l. HasAppended c.args.geometry.now c.args.epoch c.args.txn c.args.place l (reads (g.D.Disk.moments c.args.disk.now)) (reads (g.D.Disk.moments c.loop-at.disk)))
    (take_all c.loop-at.index (sectors_of_records c.args.records.now) (omega (arith, all))) (c.loop-at.invariant.read visible ready)
