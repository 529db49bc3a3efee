use Rattle.std.proofs.Common.{◌≡◌, ◌∙◌, List, [], Option, Some, ap, sym, subst}
use Rattle.ufs_model.specs.declared.data.Entry.{Entry}
use Rattle.ufs_command.specs.declared.words.Command.{Command}
use Rattle.ufs_command.specs.declared.words.Command.TheVariants as command
use Rattle.ufs_command.specs.Commands.{reads_source}
use Rattle.ufs_command.specs.Seen.{reading, writing, formatting, course}
use Rattle.ufs_command.specs.Endings.{IsAnswer}
use Rattle.ufs_command.specs.Ends.{EndsCommand}
use Rattle.ufs_command.specs.Lacked.{Lacks}
use Rattle.ufs_command.proofs.LeftLemmas.{bench_left, none_faults, played_left, source_read}
use Rattle.ufs_command.proofs.top.answer.Goals as goal

pub returns-in-Play-clause-answer : goal.returns-in-Play-clause-answer
returns-in-Play-clause-answer g c =
    let is : c.args.command ≡ Some (command.Play c.in-Play.trace) = c.in-Some.is ∙ ap (λ (x : Command). Some x) c.in-Play.is in
    let r = reading g.S.Source.left g.S.Source.faults c.args.source.now c.read_and_serve.new.source in
    let d = formatting g.D.Disk.visible g.D.Disk.size g.D.Disk.moments g.D.Disk.faults c.args.disk c.read_and_serve.result.disk in
    subst (λ (x : Option Command). IsAnswer (EndsCommand x r d c.read_and_serve.result.told) (writing g.K.Sink.held g.K.Sink.faults c.args.sink.now c.read_and_serve.new.sink) c.read_and_serve.result.status) (sym is) c.read_and_serve.ensures.answer

pub returns-in-Play-clause-disk : goal.returns-in-Play-clause-disk
returns-in-Play-clause-disk g c =
    let is : c.args.command ≡ Some (command.Play c.in-Play.trace) = c.in-Some.is ∙ ap (λ (x : Command). Some x) c.in-Play.is in
    played_left c.args.command c.in-Play.trace is c.read_and_serve.result.told c.read_and_serve.result.status
    (course g.D.Disk.visible g.D.Disk.keeps g.D.Disk.size g.D.Disk.moments g.D.Disk.faults c.args.disk c.read_and_serve.result.disk)
    c.read_and_serve.ensures.acts c.read_and_serve.ensures.size c.read_and_serve.ensures.disk_told

pub returns-in-Play-clause-source : goal.returns-in-Play-clause-source
returns-in-Play-clause-source g c =
    let is : c.args.command ≡ Some (command.Play c.in-Play.trace) = c.in-Some.is ∙ ap (λ (x : Command). Some x) c.in-Play.is in
    source_read c.args.command (ap reads_source is) c.read_and_serve.result.status (reading g.S.Source.left g.S.Source.faults c.args.source.now c.read_and_serve.new.source) c.read_and_serve.ensures.source_told

pub returns-in-Bench-clause-answer : goal.returns-in-Bench-clause-answer
returns-in-Bench-clause-answer g c =
    let is : c.args.command ≡ Some (command.Bench c.in-Bench.seed) = c.in-Some.is ∙ ap (λ (x : Command). Some x) c.in-Bench.is in
    let r = reading g.S.Source.left g.S.Source.faults c.args.source.now c.args.source.now in
    let d = formatting g.D.Disk.visible g.D.Disk.size g.D.Disk.moments g.D.Disk.faults c.args.disk c.bench.result.disk in
    subst (λ (x : Option Command). IsAnswer (EndsCommand x r d c.bench.result.told) (writing g.K.Sink.held g.K.Sink.faults c.args.sink.now c.bench.new.sink) c.bench.result.status) (sym is) c.bench.ensures.answer

pub returns-in-Bench-clause-disk : goal.returns-in-Bench-clause-disk
returns-in-Bench-clause-disk g c =
    let is : c.args.command ≡ Some (command.Bench c.in-Bench.seed) = c.in-Some.is ∙ ap (λ (x : Command). Some x) c.in-Bench.is in
    bench_left c.args.command c.in-Bench.seed is c.bench.result.told c.bench.result.status
    (course g.D.Disk.visible g.D.Disk.keeps g.D.Disk.size g.D.Disk.moments g.D.Disk.faults c.args.disk c.bench.result.disk)
    c.bench.ensures.acts c.bench.ensures.size c.bench.ensures.disk_told

pub returns-in_default-clause-faults : goal.returns-in_default-clause-faults
returns-in_default-clause-faults g c = none_faults (g.D.Disk.faults c.args.disk) (g.D.Disk.faults c.args.disk) c.nothing_told.result c.nothing_told.ensures

pub returns-clause-faults : goal.returns-clause-faults
returns-clause-faults g c = none_faults (g.D.Disk.faults c.args.disk) (g.D.Disk.faults c.act-answered.new.disk) c.nothing_told-2.result c.nothing_told-2.ensures

pub returns-clause-answer : goal.returns-clause-answer
returns-clause-answer g c =
    let is : c.args.command ≡ Some c.in-Some.which = c.in-Some.is in
    let r = reading g.S.Source.left g.S.Source.faults c.args.source.now c.act-answered.new.source in
    let d = formatting g.D.Disk.visible g.D.Disk.size g.D.Disk.moments g.D.Disk.faults c.args.disk c.act-answered.new.disk in
    let w = writing g.K.Sink.held g.K.Sink.faults c.args.sink.now c.act-answered.new.sink in
    subst (λ (told : List (List Entry)). IsAnswer (EndsCommand c.args.command r d told) w c.act-answered.result.status) (sym c.nothing_told-2.ensures)
    (subst (λ (x : Option Command). IsAnswer (EndsCommand x r d []) w c.act-answered.result.status) (sym is) c.act-answered.ensures.answer)

pub returns-clause-lacked : goal.returns-clause-lacked
returns-clause-lacked g c =
    subst (λ (x : Option Command). Lacks x g.D.Disk.visible g.D.Disk.keeps c.act-answered.result.status c.act-answered.result.lacked (g.D.Disk.moments c.args.disk) (g.D.Disk.moments c.act-answered.new.disk))
    (sym c.in-Some.is) c.act-answered.ensures.lacked

pub returns-in-Play-clause-lacked : goal.returns-in-Play-clause-lacked
returns-in-Play-clause-lacked g c =
    let is : c.args.command ≡ Some (command.Play c.in-Play.trace) = c.in-Some.is ∙ ap (λ (x : Command). Some x) c.in-Play.is in
    subst (λ (x : Option Command). Lacks x g.D.Disk.visible g.D.Disk.keeps c.read_and_serve.result.status c.read_and_serve.result.lacked (g.D.Disk.moments c.args.disk) (g.D.Disk.moments c.read_and_serve.result.disk)) (sym is) tt

pub returns-in-Bench-clause-lacked : goal.returns-in-Bench-clause-lacked
returns-in-Bench-clause-lacked g c =
    let is : c.args.command ≡ Some (command.Bench c.in-Bench.seed) = c.in-Some.is ∙ ap (λ (x : Command). Some x) c.in-Bench.is in
    subst (λ (x : Option Command). Lacks x g.D.Disk.visible g.D.Disk.keeps c.bench.result.status c.bench.result.lacked (g.D.Disk.moments c.args.disk) (g.D.Disk.moments c.bench.result.disk)) (sym is) tt
