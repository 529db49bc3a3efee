use Rattle.std.proofs.Common.{◌≡◌, ◌∙◌, ◌++◌, ◌∷◌, [], ℕ, List, ap, ap₂, sym}
use Rattle.rand_pcg.specs.Lcg.{Lcg}
use Rattle.rand_pcg.specs.Pcg.{pcg32}
use Rattle.ufs_script.specs.declared.lists.ScheduleWord.{ScheduleWord}
use Rattle.ufs_bench.specs.Generator.{after_words}
use Rattle.ufs_bench.specs.Schedule.{schedule_word}
use Rattle.ufs_bench.proofs.GeneratorLemmas.{after_none, after_one_more}
use Rattle.ufs_bench.proofs.ScheduleLemmas.{words_more, words_none}
use Rattle.ufs_bench.proofs.schedule.schedule_from.Goals as goal

pub loop-made-init : goal.loop-made-init
loop-made-init c = record {
  rng = sym (after_none c.args.rng.now);
  list = c.in_ok-words.ensures.items ∙ words_none c.args.rng.now;
}

pub loop-made-preserved : goal.loop-made-preserved
loop-made-preserved c =
    let n = c.loop-made._made in
    let g : Lcg = c.args.rng.now in
    let stepped = c.next_word-word.ensures in
    let at = c.loop-made.invariant.rng in
    let word : c.next_word-word.result ≡ (pcg32 (after_words n g)).0 = ap (λ (p : ℕ × Lcg). p.0) stepped ∙ ap (λ (x : Lcg). (pcg32 x).0) at in
    let next : c.next_word-word.new.self ≡ (pcg32 (after_words n g)).1 = ap (λ (p : ℕ × Lcg). p.1) stepped ∙ ap (λ (x : Lcg). (pcg32 x).1) at in
    let words : List ScheduleWord = c.loop-made.words.items in
    let pushed : c.push.new.self.items ≡ words ++ c.schedule_word.result ∷ [] = c.in_ok-push.ensures.items in
    record {
      rng = next ∙ sym (after_one_more n g);
      list = pushed
          ∙ ap₂ (λ (xs : List ScheduleWord) (x : ScheduleWord). xs ++ x ∷ []) c.loop-made.invariant.list (c.schedule_word.ensures ∙ ap schedule_word word)
          ∙ words_more n g;
    }
