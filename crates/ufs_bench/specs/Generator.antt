-- The words of 32 bits of which a workload is made: those of PCG XSH RR 64/32, from a seed on.
use Rattle.std.specs.Prelude.{ℕ, List, zero, suc}
use Rattle.rand_core.specs.Pcg32Seed.{pcg32_seed}
use Rattle.rand_core.specs.Steps.{first_words}
use Rattle.rand_pcg.specs.Lcg.{Lcg}
use Rattle.rand_pcg.specs.Pcg.{pcg32, pcg32_of_seed}

-- the generator of a seed, as `seed_from_u64` makes it
abbrev pub generator_of : ℕ → Lcg
generator_of seed = pcg32_of_seed (pcg32_seed 16 seed)

-- the next words of a generator
abbrev pub next_words : ℕ → Lcg → List ℕ
next_words count g = first_words pcg32 count g

-- the generator behind them
unfoldable pub after_words : ℕ → Lcg → Lcg
after_words zero g = g
after_words (suc count) g = after_words count (pcg32 g).1

-- the first words of a seed
abbrev pub words_of : ℕ → ℕ → List ℕ
words_of seed count = next_words count (generator_of seed)
