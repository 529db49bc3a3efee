use Rattle.std.proofs.Common.{◌≡◌, ◌≤◌, ◌<◌, ◌+◌, ◌++◌, ◌∷◌, [], List, length, take, drop, get_or, ap, sym, ◌∙◌, arith, append_assoc}
use Rattle.std.proofs.lemmas.List.{take_more, take-append-drop}
use Rattle.ufs_layout.specs.Filled.{sector_count_of}
use Rattle.ufs_layout.specs.declared.records.LogRecord.{LogRecord}
use Rattle.ufs_ilog.proofs.FillingLemmas.{count_more}
use Rattle.ufs_ilog.proofs.names_log.Filling.with_records.Goals as goal

pub returns-in_default-clause-end : goal.returns-in_default-clause-end
returns-in_default-clause-end c = λ before is.
    let rs : List LogRecord = c.args.records.now in
    let i = c.loop-record.record-index in
    let r : LogRecord = c.record-item.result in
    let front : List LogRecord = take i rs ++ r ∷ [] in
    let inside : i < length rs = c.loop-record-test.true in
    let taken : take (i + 1) rs ≡ front = take_more rs i r inside ∙ ap (λ (x : LogRecord). take i rs ++ x ∷ []) (sym c.record-item.is) in
    let whole : (before ++ front) ++ drop (i + 1) rs ≡ before ++ rs =
    append_assoc before front (drop (i + 1) rs) ∙ ap (λ (l : List LogRecord). before ++ (l ++ drop (i + 1) rs)) (sym taken) ∙ ap (λ (l : List LogRecord). before ++ l) (take-append-drop (i + 1) rs) in
    let some = c.in_default.ensures.end (before ++ take i rs) (c.loop-record.invariant before is) in
    let same : sector_count_of ((before ++ take i rs) ++ r ∷ []) ≡ sector_count_of (before ++ front) = ap (λ (l : List LogRecord). sector_count_of l) (append_assoc before (take i rs) (r ∷ [])) in
    let all : sector_count_of ((before ++ front) ++ drop (i + 1) rs) ≡ sector_count_of (before ++ rs) = ap (λ (l : List LogRecord). sector_count_of l) whole in
    omega (arith, some, same, all, count_more (before ++ front) (drop (i + 1) rs))
