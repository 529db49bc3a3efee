use Rattle.std.proofs.Common.{◌*◌, arith}
use Rattle.ufs_base.specs.Images.{IsBytes}
use Rattle.ufs_front.proofs.Paddings.{put_length, put_sectors, put_small}
use Rattle.ufs_front.proofs.front.FrontDisk.put.Goals as goal

pub put_at-requires : goal.put_at-requires
put_at-requires c =
    let room = c.args.self.now.room in
    let inside = c.requires.inside in
    let whole = c.requires.whole in
    omega (arith, room, inside, whole)

pub invariant_of-self-clause-within : goal.invariant_of-self-clause-within
invariant_of-self-clause-within c =
    let held = c.args.self.now.held.items in
    let within = c.args.self.now.within in
    let inside = c.requires.inside in
    let whole = c.requires.whole in
    omega (arith, put_length (512 * c.args.sector) held c.args.bytes.now c.put_at.new.held.items c.put_at.ensures.items, within, inside, whole)

pub invariant_of-self-clause-room : goal.invariant_of-self-clause-room
invariant_of-self-clause-room c =
    let room = c.args.self.now.room in
    omega (arith, room, c.put_at.ensures.capacity)

pub returns-clause-image : goal.returns-clause-image
returns-clause-image c =
    put_sectors c.args.self.now.sectors c.args.sector c.args.self.now.held.items c.args.bytes.now c.put_at.new.held.items c.args.self.now.within c.requires.whole c.requires.inside c.put_at.ensures.items

pub invariant_of-self-clause-small_bytes : goal.invariant_of-self-clause-small_bytes
invariant_of-self-clause-small_bytes c =
    let small : IsBytes c.args.bytes.now = λ k. let fits = c.type_inv.bytes k in omega (arith, fits) in
    put_small (512 * c.args.sector) c.args.self.now.held.items c.args.bytes.now c.put_at.new.held.items c.args.self.now.small_bytes small c.put_at.ensures.items
