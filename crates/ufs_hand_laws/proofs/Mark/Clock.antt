-- After a mark no hand is ahead of the word.
use Rattle.std.proofs.Common.{◌≤◌, set, ap, ◌∙◌, arith}
use Rattle.ufs_hand_laws.specs.Parts.{NamesPart, View}
use Rattle.ufs_hand_laws.specs.ClockTrue.{IsClockTrue}
use Rattle.ufs_hand_laws.proofs.Owning.{all_set}
use Rattle.ufs_hand_laws.proofs.Mark.Setting.{Mark, remaking}

module _ (mark : Mark) where
  open mark use {keeps, S, k, word, views, i, v, w, o, at, m}
  open remaking mark use {remade, single_files, r, names_are_kept, file_case, file_present}

  pub clock_remade : IsClockTrue word (set views i w) remade
  clock_remade = record {
    word_is = ap (λ (z : NamesPart). z.clock) names_are_kept ∙ o.clock.word_is;
    seen = all_set (λ (u : View). (u.seen ≤ word.tickets) × (u.clock ≤ word.clock)) views i w o.clock.seen (let a = m.seen in let b = m.clock in let c = (o.clock.seen i v at).1 in (omega arith, omega arith));
  }
