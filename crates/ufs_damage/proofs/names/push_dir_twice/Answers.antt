use Rattle.std.proofs.Common.{◌++◌, ap, ◌∙◌}
use Rattle.std.specs.List.{filter_map, enumerate_from}
use Rattle.ufs_damage.specs.Kinds.{earlier_damage}
use Rattle.ufs_damage.proofs.NamesTwice.{twice_are}
use Rattle.ufs_damage.proofs.names.push_dir_twice.Goals as goal

pub returns : goal.returns
returns c =
    let slots = c.counted_slots-slots.result.now in
    c.in_ok-push_twice_of.ensures
    ∙ ap (λ l. c.args.list.now ++ l) (ap (λ n. filter_map (earlier_damage slots n) (enumerate_from 0 slots)) c.inode.ensures ∙ twice_are c.args.dir.now slots c.counted_slots-slots.ensures.places)
