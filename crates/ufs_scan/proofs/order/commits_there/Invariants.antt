use Rattle.std.proofs.Common.{◌≡◌, ◌<◌, take}
use Rattle.std.specs.Prelude.{map}
use Rattle.std.specs.List.{filter, All}
use Rattle.ufs_image.specs.Journal.{has_commit}
use Rattle.ufs_scan.proofs.order.commits_there.Given as goal

abbrev pub invariant-loop-one : goal.invariant-loop-one
invariant-loop-one l = record { kept : map (λ b. b.now) l.list.items ≡ filter has_commit (take l.one-index l.all); small : All (λ b. b.now.1.index < 65536) l.list.items }
