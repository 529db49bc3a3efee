use Rattle.std.proofs.Common.{◌≡◌, ap, [], rules}
use Rattle.ufs_base.specs.Images.{IsBytes}
use Rattle.ufs_disk.specs.Whole.{begun_whole}
use Rattle.ufs_disk.specs.Bytes.{begun}
use Rattle.ufs_disk.specs.Calls.{after_calls}
use Rattle.ufs_disk.specs.Pending.{held_state}
use Rattle.ufs_disk.proofs.Noted.{still_held, still_whole}
use Rattle.ufs_disk.proofs.medium.Medium.new.Goals as goal

pub invariant_of-result : goal.invariant_of-result
invariant_of-result c =
    let copy : c.in_ok-whole_copy.field-0.items ≡ c.args.bytes.items = search rules in
    let small : IsBytes c.args.bytes.items = search (rules, c.in_ok-whole_copy.ensures.small) in
    let none : c.new.result.items ≡ [] = c.new.ensures.items in
    let same : after_calls c.new-2.result.items (begun c.in_ok-whole_copy.field-0.items) ≡ begun c.args.bytes.items =
    λ i. after_calls (c.new-2.ensures.items i) (begun (copy i)) in
    record {
      in_range = search rules;
      sized = c.requires;
      held = still_held (begun c.args.bytes.items) _ same (held_state c.args.bytes.items c.new.result.items) (ap (held_state c.args.bytes.items) none);
      whole = still_whole (begun c.args.bytes.items) _ same c.args.sectors (begun_whole c.args.bytes.items c.args.sectors small c.requires);
    }
