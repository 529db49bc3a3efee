use Rattle.std.proofs.Common.{◌≡◌, ℕ, ◌-◌, ◌<◌, ◌≤◌, length, get_or}
use Rattle.ufs_bitmap.proofs.word_set.first_word.Given as goal

abbrev pub invariant-loop-word : goal.invariant-loop-word
invariant-loop-word l = (l.from ≤ l.word) × (l.word ≤ length l.words) × ((i : ℕ) → l.from ≤ i → i < l.word → get_or l.words i 0 ≡ 0)

abbrev pub decreases-loop-word : goal.decreases-loop-word
decreases-loop-word l = length l.words - l.word
