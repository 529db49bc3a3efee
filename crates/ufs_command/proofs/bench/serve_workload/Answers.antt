use Rattle.std.proofs.Common.{inl, inr, length}
use Rattle.ufs_disk.specs.Moments.{reads}
use Rattle.ufs_promise_laws.specs.Last.{StandsForTree}
use Rattle.ufs_model.specs.History.{joined, tree_after}
use Rattle.ufs_brink.specs.Numbers.{RaisesNumbers}
use Rattle.ufs_recovery.specs.Recovered.{IsCleanDisk}
use Rattle.ufs_command.specs.Seen.{formatting, writing}
use Rattle.ufs_command.specs.Bench.{EndsMeasured, IsServedFrom, bench_script, bench_text}
use Rattle.ufs_command.specs.Endings.{EndsPlayed}
use Rattle.ufs_command.specs.Served.{IsFromDisk}
use Rattle.ufs_command.proofs.AnswerLemmas.{answer_map}
use Rattle.ufs_command.proofs.BenchLemmas.{measured}
use Rattle.ufs_command.proofs.LeavingLemmas.{left_still, never_unread, on_whole}
use Rattle.ufs_command.proofs.ServingLemmas.{HasPlayed, played_ends}
use Rattle.ufs_command.proofs.bench.serve_workload.Goals as goal

pub returns-clause-answer : goal.returns-clause-answer
returns-clause-answer g c =
    let told = c.play-played.result.told in
    let ended = c.play-played.result.ended in
    let script = bench_script c.args.clients in
    let d = formatting g.D.Disk.visible g.D.Disk.size g.D.Disk.moments g.D.Disk.faults c.args.disk c.play-played.result.disk in
    let is = c.play-played.ensures in
    let bytes = c.play-played.result.bytes in
    let has : HasPlayed d script told ended = record { legal = (is.legal.0, is.legal.1, is.legal.2); refused = is.refused; opening = is.opening; closing = is.closing; played = is.played; opened = is.opened; why = is.why; unopened = is.unopened } in
    answer_map (EndsPlayed ended (bench_text told bytes)) (EndsMeasured c.args.clients d told) (writing g.K.Sink.held g.K.Sink.faults c.args.sink.now c.tell_bench.new.sink) c.tell_bench.result
    (λ ending text e. (bytes, played_ends (IsFromDisk d (IsServedFrom c.args.clients told bytes)) (bench_text told bytes) d script told ended has (λ well. measured c.args.clients d told ended bytes has well is.legal is.sized) ending text e))
    c.tell_bench.ensures

pub returns-clause-acts : goal.returns-clause-acts
returns-clause-acts g c =
    let told = c.play-played.result.told in
    let ended = c.play-played.result.ended in
    let w = writing g.K.Sink.held g.K.Sink.faults c.args.sink.now c.tell_bench.new.sink in
    let status = c.tell_bench.result in
    let is = c.play-played.ensures in
    let size = g.D.Disk.size c.args.disk in
    let to = g.D.Disk.moments c.play-played.result.disk in
    record {
      crash = is.crash;
      proper = is.proper;
      always = is.moments;
      stamped = is.stamped;
      clean = λ may zero. on_whole ended (bench_text told c.play-played.result.bytes) w status c.tell_bench.ensures (IsCleanDisk size to.state) (is.clean may) zero;
      last = λ may start with zero. on_whole ended (bench_text told c.play-played.result.bytes) w status c.tell_bench.ensures (StandsForTree size (tree_after start (joined told)) (reads to)) (is.last may start with) zero;
      numbers = λ may zero. on_whole ended (bench_text told c.play-played.result.bytes) w status c.tell_bench.ensures (RaisesNumbers (length (joined told)) (reads (g.D.Disk.moments c.args.disk)) (reads to)) (is.numbers may) zero;
      unserved = is.unserved;
      undone = λ visible refusal none zero. on_whole ended (bench_text told c.play-played.result.bytes) w status c.tell_bench.ensures ⊥ (is.stands visible refusal none) zero;
      broken = λ two. absurd (never_unread ended (bench_text told c.play-played.result.bytes) w status c.tell_bench.ensures (inl two));
      unread = λ six. absurd (never_unread ended (bench_text told c.play-played.result.bytes) w status c.tell_bench.ensures (inr six));
    }

pub returns-clause-disk_told : goal.returns-clause-disk_told
returns-clause-disk_told g c four seven five =
    let told = c.play-played.result.told in
    let w = writing g.K.Sink.held g.K.Sink.faults c.args.sink.now c.tell_bench.new.sink in
    left_still c.play-played.result.ended (bench_text told c.play-played.result.bytes) w c.tell_bench.result c.tell_bench.ensures (g.D.Disk.faults c.args.disk) (g.D.Disk.faults c.play-played.result.disk)
    (joined told) c.play-played.ensures.closing c.play-played.ensures.opening four seven five
