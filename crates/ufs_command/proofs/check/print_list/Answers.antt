use Rattle.std.proofs.Common.{◌≡◌, ◌<◌, List, subst, refl, length, rules}
use Rattle.std.specs.Io.KnownBytes.{Appends}
use Rattle.ufs_image.specs.Damage.{Damage}
use Rattle.ufs_print.specs.DamageLines.{clean_line, damage_lines}
use Rattle.ufs_command.specs.Seen.{writing}
use Rattle.ufs_command.specs.Endings.{EndsListing}
use Rattle.ufs_command.specs.declared.ending.Ending.TheVariants.{Done, Damaged}
use Rattle.ufs_command.proofs.AnswerLemmas.{answer_line}
use Rattle.ufs_print.specs.Pieces.{GotFront}
use Rattle.ufs_print.proofs.DamageLemmas.{none_told, some_told}
use Rattle.ufs_command.proofs.check.print_list.Goals as goal

pub returns-then-is_empty : goal.returns-then-is_empty
returns-then-is_empty g c =
    let none : length c.as_slice-damage.result.now ≡ 0 = search rules in
    answer_line (EndsListing c.args.list.now) Done clean_line (writing g.K.Sink.held g.K.Sink.faults c.args.sink.now c.tell_clean.new.sink) c.tell_clean.result
    (none_told c.as_slice-damage.result.now c.args.list.now c.as_slice-damage.ensures none, refl) c.tell_clean.ensures

pub returns-in-Ok : goal.returns-in-Ok
returns-in-Ok g c =
    let held = g.K.Sink.held in
    let more : 0 < length c.as_slice-damage.result.now = search rules in
    let some = some_told c.as_slice-damage.result.now c.args.list.now c.as_slice-damage.ensures more in
    let wrote = subst (λ (l : List Damage). Appends (held c.args.sink.now) (held c.print_damage.new.sink) (damage_lines l)) c.as_slice-damage.ensures c.in-Ok.ensures.ok in
    record {
      whole = λ n. (Damaged, damage_lines c.args.list.now, c.status.ensures, (some, refl), wrote);
      told = λ n. c.in-Ok.ensures.cause.passed;
      rose = λ e. let is = c.status.ensures in cc;
      cut = λ e. let is = c.status.ensures in cc;
    }

pub returns-in-Err : goal.returns-in-Err
returns-in-Err g c =
    let held = g.K.Sink.held in
    let more : 0 < length c.as_slice-damage.result.now = search rules in
    let some = some_told c.as_slice-damage.result.now c.args.list.now c.as_slice-damage.ensures more in
    let got = subst (λ (l : List Damage). GotFront (held c.args.sink.now) (held c.print_damage.new.sink) (damage_lines l)) c.as_slice-damage.ensures c.in-Err.ensures.err in
    record {
      whole = λ n. absurd (n refl);
      told = λ n. absurd (n refl);
      rose = λ e. c.in-Err.ensures.cause.failed;
      cut = λ e. (Damaged, damage_lines c.args.list.now, got.0, (some, refl), got.1, got.2);
    }
