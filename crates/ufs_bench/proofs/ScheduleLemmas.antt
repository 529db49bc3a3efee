-- The schedule, word by word.
use Rattle.std.proofs.Common.{◌≡◌, ◌+◌, ◌++◌, ◌∙◌, ℕ, [], ◌∷◌, length, map, ap, sym}
use Rattle.std.proofs.lemmas.List.{map-append, length-map}
use Rattle.rand_pcg.specs.Lcg.{Lcg}
use Rattle.rand_pcg.specs.Pcg.{pcg32}
use Rattle.ufs_bench.specs.Generator.{after_words, next_words}
use Rattle.ufs_bench.specs.Schedule.{schedule_from, schedule_length, schedule_word}
use Rattle.ufs_bench.proofs.GeneratorLemmas.{length_words, no_words, one_more}

pub words_none : (g : Lcg) → [] ≡ map schedule_word (next_words 0 g)
words_none g = sym (ap (map schedule_word) (no_words g))

pub words_more : (n : ℕ) (g : Lcg) → map schedule_word (next_words n g) ++ schedule_word (pcg32 (after_words n g)).0 ∷ [] ≡ map schedule_word (next_words (n + 1) g)
words_more n g = sym (map-append schedule_word (next_words n g) ((pcg32 (after_words n g)).0 ∷ [])) ∙ ap (map schedule_word) (sym (one_more n g))

pub schedule_from_length : (g : Lcg) → length (schedule_from g) ≡ schedule_length
schedule_from_length g = length-map (next_words schedule_length g) schedule_word ∙ length_words schedule_length g
