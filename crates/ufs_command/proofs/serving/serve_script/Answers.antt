use Rattle.std.proofs.Common.{inl, inr, length}
use Rattle.ufs_disk.specs.Moments.{reads}
use Rattle.ufs_promise_laws.specs.Last.{StandsForTree}
use Rattle.ufs_model.specs.History.{joined, tree_after}
use Rattle.ufs_brink.specs.Numbers.{RaisesNumbers}
use Rattle.ufs_recovery.specs.Recovered.{IsCleanDisk}
use Rattle.ufs_command.specs.Seen.{formatting, writing}
use Rattle.ufs_print.specs.Printed.{session_lines}
use Rattle.ufs_command.specs.Served.{IsSessionOf}
use Rattle.ufs_command.specs.Endings.{EndsPlayed, EndsServing}
use Rattle.ufs_command.proofs.AnswerLemmas.{answer_map}
use Rattle.ufs_command.proofs.LeavingLemmas.{left_still, never_unread, on_whole}
use Rattle.ufs_command.proofs.ServingLemmas.{HasPlayed, played_ends, session}
use Rattle.ufs_command.proofs.serving.serve_script.Goals as goal

pub returns-clause-answer : goal.returns-clause-answer
returns-clause-answer g c =
    let told = c.play-played.result.told in
    let ended = c.play-played.result.ended in
    let script = c.args.script in
    let d = formatting g.D.Disk.visible g.D.Disk.size g.D.Disk.moments g.D.Disk.faults c.args.disk c.play-played.result.disk in
    let is = c.play-played.ensures in
    let has : HasPlayed d script told ended = record { legal = (is.legal.0, is.legal.1, is.legal.2); refused = is.refused; opening = is.opening; closing = is.closing; played = is.played; opened = is.opened; why = is.why; unopened = is.unopened } in
    answer_map (EndsPlayed ended (session_lines c.args.trace (joined told))) (EndsServing c.args.trace d script told) (writing g.K.Sink.held g.K.Sink.faults c.args.sink.now c.tell_played.new.sink) c.tell_played.result
    (played_ends (IsSessionOf d script told) (session_lines c.args.trace (joined told)) d script told ended has (λ well. session d script told ended well has)) c.tell_played.ensures

pub returns-clause-acts : goal.returns-clause-acts
returns-clause-acts g c =
    let told = c.play-played.result.told in
    let ended = c.play-played.result.ended in
    let w = writing g.K.Sink.held g.K.Sink.faults c.args.sink.now c.tell_played.new.sink in
    let status = c.tell_played.result in
    let is = c.play-played.ensures in
    let size = g.D.Disk.size c.args.disk in
    let to = g.D.Disk.moments c.play-played.result.disk in
    record {
      crash = is.crash;
      proper = is.proper;
      always = is.moments;
      stamped = is.stamped;
      clean = λ may zero. on_whole ended (session_lines c.args.trace (joined told)) w status c.tell_played.ensures (IsCleanDisk size to.state) (is.clean may) zero;
      last = λ may start with zero. on_whole ended (session_lines c.args.trace (joined told)) w status c.tell_played.ensures (StandsForTree size (tree_after start (joined told)) (reads to)) (is.last may start with) zero;
      numbers = λ may zero. on_whole ended (session_lines c.args.trace (joined told)) w status c.tell_played.ensures (RaisesNumbers (length (joined told)) (reads (g.D.Disk.moments c.args.disk)) (reads to)) (is.numbers may) zero;
      unserved = is.unserved;
      undone = λ visible refusal none zero. on_whole ended (session_lines c.args.trace (joined told)) w status c.tell_played.ensures ⊥ (is.stands visible refusal none) zero;
      broken = λ two. absurd (never_unread ended (session_lines c.args.trace (joined told)) w status c.tell_played.ensures (inl two));
      unread = λ six. absurd (never_unread ended (session_lines c.args.trace (joined told)) w status c.tell_played.ensures (inr six));
    }

pub returns-clause-disk_told : goal.returns-clause-disk_told
returns-clause-disk_told g c four seven five =
    let told = c.play-played.result.told in
    let w = writing g.K.Sink.held g.K.Sink.faults c.args.sink.now c.tell_played.new.sink in
    left_still c.play-played.result.ended (session_lines c.args.trace (joined told)) w c.tell_played.result c.tell_played.ensures (g.D.Disk.faults c.args.disk) (g.D.Disk.faults c.play-played.result.disk)
    (joined told) c.play-played.ensures.closing c.play-played.ensures.opening four seven five
