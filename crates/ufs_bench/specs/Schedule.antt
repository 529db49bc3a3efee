-- The schedule of `bench`: what gets the next turn, as it is made of the words of 32 bits behind those of the clients.
use Rattle.std.specs.Prelude.{ℕ, ◌*◌, ◌-◌, ◌%◌, ◌==◌, List, nat_lt, map, if◌then◌else◌}
use Rattle.rand_pcg.specs.Lcg.{Lcg}
use Rattle.ufs_bench.specs.Generator.{after_words, generator_of, next_words}
use Rattle.ufs_bench.specs.Workload.{client_count, words_each}
use Rattle.ufs_script.specs.declared.lists.ScheduleWord.{ScheduleWord}
use Rattle.ufs_script.specs.declared.lists.ScheduleWord.TheVariants as turn

-- how many workers serve it
abbrev pub worker_count : ℕ
worker_count = 4

-- how many schedule words there are
abbrev pub schedule_length : ℕ
schedule_length = 200000

-- Of sixteen, eight are turns of the clients and four of the workers, which are counted from 1, two are the primary's, one is a plan,
-- and at one the clock moves.
abbrev pub turn_at : ℕ → ScheduleWord
turn_at place =
    if nat_lt place 8 then turn.Client place
    else (if nat_lt place 12 then turn.Worker (place - 7)
    else (if nat_lt place 14 then turn.Primary
    else (if place == 14 then turn.Plan else turn.Ticks 1)))

abbrev pub schedule_word : ℕ → ScheduleWord
schedule_word x = turn_at (x % 16)

-- the schedule of the next words of a generator
abbrev pub schedule_from : Lcg → List ScheduleWord
schedule_from g = map schedule_word (next_words schedule_length g)

-- the schedule of a seed: of the words behind those that the clients take
abbrev pub schedule_of : ℕ → List ScheduleWord
schedule_of seed = schedule_from (after_words (client_count * words_each) (generator_of seed))
