use Rattle.std.proofs.Common.{◌≡◌, map, drop, Some}
use Rattle.std.specs.List.{fold}
use Rattle.ufs_script.specs.Requests.{with_flag, no_flags}
use Rattle.ufs_script.proofs.request.flags_of.Given as goal

abbrev pub invariant-loop-word : goal.invariant-loop-word
invariant-loop-word l = fold with_flag (Some l.flags) (map (λ w. w.now) (drop l.word-index l.words)) ≡ fold with_flag (Some no_flags) (map (λ w. w.now) l.words)
